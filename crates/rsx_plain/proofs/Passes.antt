-- An item that an operator answers in one go goes through its node in one go.
use Rattle.std.proofs.Common.{◌≡◌, ℕ, ◌<◌, arith, ◌==◌, Bool, true, false, List, [], ◌∷◌, length, refl, sym, ap, subst}
use Rattle.rsx_sources.specs.Prelude.{Meaning, Nothing, Signal, Next, LetsGo, quiet, is_nil, IsItemOut, IsPassed, IsTakenIn, signals_then}
use Rattle.rsx_sources.specs.declared.machine.Passed.{Passed}
use Rattle.rsx_sources.specs.declared.machine.Passed.TheVariants.{Item, Kept, Declined}
use Rattle.rsx_plain.specs.Moves.{has_ending}
use Rattle.rsx_plain.specs.Node.{plain_comes_out, plain_waiting, plain_takes, plain_popped, plain_ended, plain_counted}
use Rattle.rsx_plain.specs.Passes.{GoesThrough, PutsOut}
use Rattle.rsx_plain.specs.State.{is_over, plain_from}
use Rattle.rsx_plain.specs.declared.node.PlainNode.{PlainNode}
use Rattle.rsx_plain.specs.declared.state.PlainState.{PlainState}
use Rattle.rsx_plain.proofs.Balance.{is_zero, left_of, right_of, plain_counts_in, plain_counts_out}
use Rattle.rsx_plain.proofs.Counts.{counts}
use Rattle.rsx_sources.proofs.Slots.{nil_of, quiet_then}

abbrev node : {T : Type 0} → PlainState T → List (Signal T) → PlainNode T
node state slot = record { state = state; slot = slot }

over_or : (b : Bool) → b ≡ false → b ≡ true → ⊥
over_or b x y = cc

-- an item went in at input 0, and these signals, none of them an ending, stand in the slot
taken_in : {T : Type 0} (m : Meaning T) (old new : PlainState T) (x : T) (out : List (Signal T)) → has_ending out ≡ false → PutsOut m old x out new →
    IsTakenIn (plain_comes_out m) (λ n i f. plain_takes n i) (λ n. Nothing) plain_counted plain_ended (λ n i. false) (node old []) 0 (Next x) (node new out)
taken_in {T} m old new x out none a =
    let over : is_over new ≡ true → has_ending out ≡ true = λ e. absurd (over_or (is_over new) a.goes_on e) in
    record {
      enabled = refl;
      value = λ inc further. ap (quiet further) (sym (a.moves inc.first));
      notes = refl;
      counts = plain_counts_in (node old []) (node new out) 0 (Next x) refl (counts m old new (Next x) out a.moves a.state over) over;
      goes_on = none;
    }

-- what stands in front of the slot goes out
lets_go : {T : Type 0} (m : Meaning T) (state : PlainState T) (s : Signal T) (slot : List (Signal T)) → LetsGo (plain_comes_out m) (node state (s ∷ slot)) s (node state slot)
lets_go m state s slot inc further = quiet_then s further (signals_then slot (plain_from m state inc.first))

-- the item in front of a slot with at most two signals goes out
pub item_out : {T : Type 0} (m : Meaning T) (state : PlainState T) (x : T) (slot : List (Signal T)) → length slot < 2 →
    IsItemOut (plain_comes_out m) (plain_waiting m) plain_popped (λ n. Nothing) plain_counted plain_ended (λ n i. false) (node state (Next x ∷ slot)) x (node state slot)
item_out m state x slot few = record {
  waited = refl;
  popped_out = (refl, refl, few);
  value = lets_go m state (Next x) slot;
  notes = refl;
  counts = plain_counts_out (node state (Next x ∷ slot)) (node state slot) (Next x) (refl, refl, few);
}

by_answer : {T : Type 0} (m : Meaning T) (old new : PlainState T) (x : T) (r : Passed T) → GoesThrough m old x r new →
    IsPassed (plain_comes_out m) (plain_waiting m) (λ n i f. plain_takes n i) plain_popped (λ n. Nothing) plain_counted plain_ended (λ n i. false) (node old []) 0 x r (node new [])
by_answer m old new x (Item y) a = (node new (Next y ∷ []), taken_in m old new x (Next y ∷ []) refl a, item_out m new y [] (omega arith))
by_answer m old new x Kept a = taken_in m old new x [] refl a
by_answer m old new x (Declined y) a = (a.0, ap (λ s. node s []) a.1)

-- an item that the node takes
pub passed : {T : Type 0} (m : Meaning T) (old new : PlainState T) (slot : List (Signal T)) (input : ℕ) (x : T) (r : Passed T) → plain_takes (node old slot) input ≡ true → GoesThrough m old x r new →
    IsPassed (plain_comes_out m) (plain_waiting m) (λ n i f. plain_takes n i) plain_popped (λ n. Nothing) plain_counted plain_ended (λ n i. false) (node old slot) input x r (node new slot)
passed {T} m old new slot input x r takes a =
    let first : input ≡ 0 = is_zero input (left_of (input == 0) (is_nil slot) takes) in
    let empty : slot ≡ [] = nil_of slot (right_of (input == 0) (is_nil slot) takes) in
    let P : ℕ → List (Signal T) → Type 0 = λ i l. IsPassed (plain_comes_out m) (plain_waiting m) (λ n j f. plain_takes n j) plain_popped (λ n. Nothing) plain_counted plain_ended (λ n j. false) (node old l) i x r (node new l) in
    subst (λ i. P i slot) (sym first) (subst (P 0) (sym empty) (by_answer m old new x r a))
