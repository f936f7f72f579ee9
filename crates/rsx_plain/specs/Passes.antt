-- What an operator answers an item in one go.
use Rattle.std.specs.Prelude.{◌≡◌, ◌⊎◌, false, List, [], ◌∷◌}
use Rattle.rsx_sources.specs.Prelude.{Meaning, Signal, Next}
use Rattle.rsx_sources.specs.declared.machine.Passed.{Passed}
use Rattle.rsx_sources.specs.declared.machine.Passed.TheVariants.{Item, Kept, Declined}
use Rattle.rsx_plain.specs.Moves.{Moves}
use Rattle.rsx_plain.specs.State.{plain_from, after_item, is_over}
use Rattle.rsx_plain.specs.declared.state.PlainState.{PlainState}

-- the item went in, just these signals came out of the old state, which left the new one, and the operator goes on
pub record PutsOut {T : Type 0} (m : Meaning T) (old : PlainState T) (x : T) (out : List (Signal T)) (new : PlainState T) : Type 0 where
  pub moves : Moves (plain_from m) old (Next x) out new
  pub state : new ≡ after_item m old x
  pub goes_on : is_over new ≡ false

-- what came of an item: this item was put out for it, or nothing was; or it came back, and nothing has changed
abbrev pub GoesThrough : {T : Type 0} → Meaning T → PlainState T → T → Passed T → PlainState T → Type 0
GoesThrough m old x (Item y) new = PutsOut m old x (Next y ∷ []) new
GoesThrough m old x Kept new = PutsOut m old x [] new
GoesThrough m old x (Declined y) new = (y ≡ x) × (new ≡ old)

-- each of these items went in, one after the other, and an item was put out for it, or nothing was
abbrev pub GoThrough : {T : Type 0} → Meaning T → PlainState T → List T → List T → PlainState T → Type 0
GoThrough m old [] ys new = (ys ≡ []) × (new ≡ old)
GoThrough {T} m old (x ∷ xs) ys new =
    (mid : PlainState T)
    × ((PutsOut m old x [] mid × GoThrough m mid xs ys new)
    ⊎ ((y : T) × (others : List T) × (ys ≡ y ∷ others) × PutsOut m old x (Next y ∷ []) mid × GoThrough m mid xs others new))
