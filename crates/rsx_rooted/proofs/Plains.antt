-- Items that went through a plain operator went through its node.
use Rattle.std.proofs.Common.{◌≡◌, inl, inr, ℕ, Bool, true, false, List, [], ◌∷◌, Result, Ok, Err, if◌then◌else◌, nat_eq, refl, ap, sym, ◌∙◌, subst}
use Rattle.std.specs.Set.{is_member}
use Rattle.rsx_sources.specs.Prelude.{Allocates, Meaning, Next}
use Rattle.rsx_sources.specs.declared.machine.Passed.TheVariants.{Item, Kept}
use Rattle.rsx_plain.specs.Laws.{plain_popped_alike}
use Rattle.rsx_plain.specs.Passes.{GoThrough, PutsOut}
use Rattle.rsx_plain.specs.State.{after_item, allocates_from, distinct_after}
use Rattle.rsx_plain.specs.declared.node.PlainNode.{PlainNode}
use Rattle.rsx_plain.specs.declared.state.PlainState.{PlainState}
use Rattle.rsx_plain.specs.declared.state.PlainState.TheVariants.{Map as MapFrom, Filter as FilterFrom, Take as TakeFrom, Scan as ScanFrom, Buffer as BufferFrom, Distinct as DistinctFrom}
use Rattle.rsx_plain.proofs.Passes.{passed}
use Rattle.rsx_rooted.specs.Items.{ArePassed, IsIn, IsOut}
use Rattle.rsx_rooted.specs.Machines.{plain_machine}

-- the node of an operator, with an empty slot
abbrev node : {T : Type 0} → PlainState T → PlainNode T
node state = record { state = state; slot = [] }

-- ---- what may allocate stays

one_of : {T : Type 0} (a : Allocates) (b : Bool) (u v : PlainState T) → allocates_from a u ≡ true → allocates_from a v ≡ true → allocates_from a (if b then u else v) ≡ true
one_of a true u v p q = p
one_of a false u v p q = q

after_key : (T : Type 0) (a : Allocates) (f : ℕ) (ks : List ℕ) (n : ℕ) (r : Result ℕ ℕ) → allocates_from a (distinct_after {T = T} f ks n r) ≡ true
after_key T a f ks n (Ok k) = one_of a (is_member nat_eq ks k) _ _ refl refl
after_key T a f ks n (Err c) = refl

after : {T : Type 0} (m : Meaning T) (a : Allocates) (s : PlainState T) (x : T) → allocates_from a (after_item m s x) ≡ allocates_from a s
after m a (MapFrom f) x = refl
after m a (FilterFrom f n) x = refl
after m a (TakeFrom n left) x = refl
after m a (ScanFrom f last) x = refl
after m a (BufferFrom n xs) x = refl
after m a (DistinctFrom f ks n) x = after_key _ a f ks n (m.keyed f x)

-- ---- one item

kept : {T : Type 0} (m : Meaning T) (old new : PlainState T) (x : T) → PutsOut m old x [] new → IsIn plain_machine m 0 (node old) x (node new)
kept m old new x p = (
  passed m old new [] 0 x Kept refl p,
  (refl, (refl, λ a. (refl, ap (allocates_from a) p.state ∙ after m a old x, refl))),
)

put_out : {T : Type 0} (m : Meaning T) (old new : PlainState T) (x y : T) → PutsOut m old x (Next y ∷ []) new → (mid : PlainNode T) × IsIn plain_machine m 0 (node old) x mid × IsOut plain_machine m mid y (node new)
put_out {T} m old new x y p =
    let h = passed m old new [] 0 x (Item y) refl p in
    let alike = plain_popped_alike h.0 (Next y) (node new) h.2.popped_out in
    let same : (a : Allocates) → allocates_from a h.0.state ≡ allocates_from a old = λ a. sym ((alike.1.1 a).1) ∙ (ap (allocates_from a) p.state ∙ after m a old x) in
    (h.0, (h.1, (refl, (refl, λ a. (refl, same a, refl)))), (h.2, alike, refl))

-- ---- all of them

all_in : {T : Type 0} (m : Meaning T) (old new : PlainState T) (xs ys : List T) → GoThrough m old xs ys new → ArePassed (IsIn plain_machine m 0) (IsOut plain_machine m) (node old) xs ys (node new)
all_in m old new [] ys h = (h.0, ap node h.1)
all_in m old new (x ∷ xs) ys h = elim h.1 [
  | inl k ↦ (node h.0, kept m old h.0 x k.0, inl (all_in m h.0 new xs ys k.1))
  | inr k ↦ let one = put_out m old h.0 x k.0 k.3 in (one.0, one.1, inr (k.0, k.1, node h.0, k.2, one.2, all_in m h.0 new xs k.1 k.4))
]

pub all_passed : {T : Type 0} (m : Meaning T) (i : ℕ) (old new : PlainState T) (xs ys : List T) → i ≡ 0 → GoThrough m old xs ys new → ArePassed (IsIn plain_machine m i) (IsOut plain_machine m) (node old) xs ys (node new)
all_passed {T} m i old new xs ys first h =
    subst (λ j. ArePassed (IsIn plain_machine m j) (IsOut plain_machine m) (node old) xs ys (node new)) (sym first) (all_in m old new xs ys h)
