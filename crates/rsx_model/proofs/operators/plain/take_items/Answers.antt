use Rattle.std.proofs.Common.{◌≡◌, ℕ, ◌<◌, ◌≤◌, zero, suc, List, [], ◌∷◌, length, take, refl, ap, arith}
use Rattle.rsx_types.specs.declared.signal.Ending.{Ending}
use Rattle.rsx_types.specs.declared.signal.Ending.TheVariants.{Done}
use Rattle.rsx_types.specs.Stream.{item_then}
use Rattle.rsx_types.specs.Plain.{taken_items}
use Rattle.rsx_model.proofs.operators.plain.take_items.Goals as goal

taken_of_fewer : {T : Type 0} (n : ℕ) (xs : List T) (e : Ending) → length xs < n → taken_items n xs e ≡ record { items = xs; ending = e }
taken_of_fewer zero xs e few = absurd (omega (arith, few))
taken_of_fewer (suc n) [] e few = refl
taken_of_fewer (suc n) (x ∷ xs) e few = ap (item_then x) (taken_of_fewer n xs e (omega (arith, few)))

taken_of_enough : {T : Type 0} (n : ℕ) (xs : List T) (e : Ending) → n ≤ length xs → taken_items n xs e ≡ record { items = take n xs; ending = Done }
taken_of_enough zero xs e enough = refl
taken_of_enough (suc n) [] e enough = absurd (omega (arith, enough))
taken_of_enough (suc n) (x ∷ xs) e enough = ap (item_then x) (taken_of_enough n xs e (omega (arith, enough)))

pub returns-then-len-count : goal.returns-then-len-count
returns-then-len-count g c =
    let few : length c.args.items.items < c.args.count = omega (arith, c.len.ensures, c.if-len-count.true) in
    let fewer = taken_of_fewer c.args.count c.args.items.items c.args.ending few in
    grind (arith, fewer)

pub returns : goal.returns
returns g c =
    let some : c.args.count ≤ length c.args.items.items = omega (arith, c.len.ensures, c.if-len-count.false) in
    let enough = taken_of_enough c.args.count c.args.items.items c.args.ending some in
    grind (arith, enough)
