use Rattle.std.proofs.Common.{◌≡◌, ◌<◌, ◌≤◌, ◌+◌, ◌∙◌, ℕ, length, get_or, ap, sym, subst, arith}
use Rattle.std.proofs.Math.ListN.{set}
use Rattle.rsx_hub.specs.Hub.{with_members}
use Rattle.rsx_hub.specs.declared.TheConstants.{MOST_MEMBERS}
use Rattle.rsx_rooted.proofs.Counted.{joined_up, more_first, place_first, up_all, up_length, up_next}
use Rattle.rsx_rooted.proofs.places.count_in.Goals as goal

pub count_in-requires : goal.count_in-requires
count_in-requires g c =
    let hubs = c.args.hubs.now.items in
    let k = c.loop-number.number in
    let here : c.index_mut.result.now ≡ get_or c.args.hubs.now.items c.loop-number.number c.index_mut.result.now = c.index_mut.ensures.value ∙ (ap (λ l. get_or l c.loop-number.number c.index_mut.result.now) c.loop-number.invariant ∙ up_next 0 c.args.expr.now c.loop-number.number c.args.hubs.now.items c.index_mut.result.now) in
    let lt : c.loop-number.number < length c.args.hubs.now.items = let t = c.loop-number-test.true in let l = c.len-number-end.ensures in omega (arith, t, l) in
    let P : ℕ → Type 0 = λ n. c.index_mut.result.now.members + n ≤ MOST_MEMBERS in
    subst P (sym c.leaves_on-leaves.ensures) (place_first c.args.expr.now c.args.hubs.now.items c.loop-number.number c.index_mut.result.now c.requires.places lt here)

pub loop-number-preserved : goal.loop-number-preserved
loop-number-preserved g c =
    let here : c.index_mut.result.now ≡ get_or c.args.hubs.now.items c.loop-number.number c.index_mut.result.now = c.index_mut.ensures.value ∙ (ap (λ l. get_or l c.loop-number.number c.index_mut.result.now) c.loop-number.invariant ∙ up_next 0 c.args.expr.now c.loop-number.number c.args.hubs.now.items c.index_mut.result.now) in
    let lt : c.loop-number.number < length c.args.hubs.now.items = let t = c.loop-number-test.true in let l = c.len-number-end.ensures in omega (arith, t, l) in
    ap (λ l. set l c.loop-number.number c.count_in.new.self) c.loop-number.invariant
    ∙ (ap (λ h. set (joined_up 0 c.args.expr.now c.loop-number.number c.args.hubs.now.items) c.loop-number.number h) (c.count_in.ensures ∙ ap (λ n. with_members c.index_mut.result.now n) c.leaves_on-leaves.ensures)
    ∙ more_first c.args.expr.now c.loop-number.number c.args.hubs.now.items c.index_mut.result.now lt here)

pub returns-clause-joined : goal.returns-clause-joined
returns-clause-joined g c =
    let all : length c.args.hubs.now.items ≤ c.loop-number.number = let t = c.loop-number-test.false in let l = c.len-number-end.ensures in omega (arith, t, l) in
    rw (c.loop-number.invariant) (up_all 0 c.args.expr.now c.loop-number.number c.args.hubs.now.items all)

pub returns-clause-count : goal.returns-clause-count
returns-clause-count g c = ap length c.loop-number.invariant ∙ up_length 0 c.args.expr.now c.loop-number.number c.args.hubs.now.items

pub overflow_cast-number : goal.overflow_cast-number
overflow_cast-number g c = let t = c.loop-number-test.true in let l = c.len-number-end.ensures in let few = c.requires.few in search (arith, t, l, few)
