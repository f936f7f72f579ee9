-- A node of one of two kinds makes the batches that its kind makes.
use Rattle.std.proofs.Common.{Bool, true, false, List, ℕ, inl, inr}
use Rattle.rsx_rooted.proofs.OneByOne.{passed_in, popped_in}
use Rattle.rsx_rooted.specs.Items.{ArePassed, ArePopped, IsIn, IsOut, IsOutBy}
use Rattle.rsx_rooted.specs.declared.batch.Noted.{Noted}
use Rattle.rsx_sources.specs.Prelude.{Meaning}
use Rattle.rsx_sources.specs.declared.machine.Machine.{Ghosts as Machine}
use Rattle.rsx_sources.specs.declared.machine.Passed.TheVariants.{Kept}
use Rattle.rsx_tree.specs.Stepped.{IsStepOf}
use Rattle.rsx_processor.specs.Either.{OfOneKind, either}
use Rattle.rsx_processor.specs.declared.either.EitherNode.{EitherNode}
use Rattle.rsx_processor.specs.declared.either.EitherNode.TheVariants.{Left, Right}
use Rattle.rsx_processor.proofs.Passed.{left_passed, right_passed}

left_in : {A B T : Type 0} (a : Machine A T) (b : Machine B T) (m : Meaning T) (i : ℕ) (s : A) (x : T) (t : A) → IsIn a m i s x t → IsIn (either a b) m i (Left s) x (Left t)
left_in a b m i s x t h = (left_passed a b m s t i x Kept h.0, h.1)

left_out : {A B T : Type 0} (a : Machine A T) (b : Machine B T) (m : Meaning T) (s : A) (x : T) (t : A) → IsOut a m s x t → IsOut (either a b) m (Left s) x (Left t)
left_out a b m s x t h = (record { waited = h.0.waited; popped_out = h.0.popped_out; value = h.0.value; notes = h.0.notes; counts = h.0.counts }, h.1, h.2)

right_in : {A B T : Type 0} (a : Machine A T) (b : Machine B T) (m : Meaning T) (i : ℕ) (s : B) (x : T) (t : B) → IsIn b m i s x t → IsIn (either a b) m i (Right s) x (Right t)
right_in a b m i s x t h = (right_passed a b m s t i x Kept h.0, h.1)

right_out : {A B T : Type 0} (a : Machine A T) (b : Machine B T) (m : Meaning T) (s : B) (x : T) (t : B) → IsOut b m s x t → IsOut (either a b) m (Right s) x (Right t)
right_out a b m s x t h = (record { waited = h.0.waited; popped_out = h.0.popped_out; value = h.0.value; notes = h.0.notes; counts = h.0.counts }, h.1, h.2)

left_step : {A B T : Type 0} (a : Machine A T) (b : Machine B T) (m : Meaning T) (s : A) (asked sent : ℕ) (t : A) → IsStepOf a m s asked sent t → IsStepOf (either a b) m (Left s) asked sent (Left t)
left_step a b m s asked sent t (inl p) =
    let h = p.1 in
    let k = h.counts in
    inl (p.0, record { can = h.can; value = h.value; recorded = h.recorded; composes = h.composes; counts = record { stays_ended = k.stays_ended; counts = k.counts; stays_done = k.stays_done }; alike = h.alike })
left_step a b m s asked sent t (inr h) =
    let k = h.counts in
    inr (record { can = h.can; row = h.row; value = h.value; recorded = h.recorded; counts = record { stays_ended = k.stays_ended; counts = k.counts; stays_done = k.stays_done }; alike = h.alike })

left_out_by : {A B T : Type 0} (a : Machine A T) (b : Machine B T) (m : Meaning T) (by : Bool) (s : A) (x : T) (t : A) → IsOutBy a m by s x t → IsOutBy (either a b) m by (Left s) x (Left t)
left_out_by a b m false s x t h = left_out a b m s x t h
left_out_by a b m true s x t h = λ asked sent less.
    let o = h asked sent less in
    (Left o.0, left_step a b m s asked sent o.0 o.1, o.2, left_out a b m o.0 x t o.3)

right_step : {A B T : Type 0} (a : Machine A T) (b : Machine B T) (m : Meaning T) (s : B) (asked sent : ℕ) (t : B) → IsStepOf b m s asked sent t → IsStepOf (either a b) m (Right s) asked sent (Right t)
right_step a b m s asked sent t (inl p) =
    let h = p.1 in
    let k = h.counts in
    inl (p.0, record { can = h.can; value = h.value; recorded = h.recorded; composes = h.composes; counts = record { stays_ended = k.stays_ended; counts = k.counts; stays_done = k.stays_done }; alike = h.alike })
right_step a b m s asked sent t (inr h) =
    let k = h.counts in
    inr (record { can = h.can; row = h.row; value = h.value; recorded = h.recorded; counts = record { stays_ended = k.stays_ended; counts = k.counts; stays_done = k.stays_done }; alike = h.alike })

right_out_by : {A B T : Type 0} (a : Machine A T) (b : Machine B T) (m : Meaning T) (by : Bool) (s : B) (x : T) (t : B) → IsOutBy b m by s x t → IsOutBy (either a b) m by (Right s) x (Right t)
right_out_by a b m false s x t h = right_out a b m s x t h
right_out_by a b m true s x t h = λ asked sent less.
    let o = h asked sent less in
    (Right o.0, right_step a b m s asked sent o.0 o.1, o.2, right_out a b m o.0 x t o.3)

-- the items that a node of either kind lets out at once
pub left_popped : {A B T : Type 0} (a : Machine A T) (b : Machine B T) (m : Meaning T) (xs : List T) (n k : A) → ArePopped (IsOut a m) n xs k → ArePopped (IsOut (either a b) m) (Left n) xs (Left k)
left_popped a b m xs n k h = popped_in Left (IsOut a m) (IsOut (either a b) m) (left_out a b m) xs n k h

pub right_popped : {A B T : Type 0} (a : Machine A T) (b : Machine B T) (m : Meaning T) (xs : List T) (n k : B) → ArePopped (IsOut b m) n xs k → ArePopped (IsOut (either a b) m) (Right n) xs (Right k)
right_popped a b m xs n k h = popped_in Right (IsOut b m) (IsOut (either a b) m) (right_out a b m) xs n k h

module _ {A B T : Type 0} (a : Machine A T) (b : Machine B T) (p : A → Noted T → A → Type 0) (q : B → Noted T → B → Type 0) (m : Meaning T) where
  abbrev went : EitherNode A B → Noted T → EitherNode A B → Type 0
  went old noted new = OfOneKind (λ x y. p x noted y) (λ x y. q x noted y) old new

  pub left_popped_all : (n : A) (noted : Noted T) (xs : List T) → ((new : A) → p n noted new → ArePopped (IsOutBy a m noted.by_step) n xs new) → (new : EitherNode A B) → went (Left n) noted new → ArePopped (IsOutBy (either a b) m noted.by_step) (Left n) xs new
  left_popped_all n noted xs h (Left k) w = popped_in Left (IsOutBy a m noted.by_step) (IsOutBy (either a b) m noted.by_step) (left_out_by a b m noted.by_step) xs n k (h k w)
  left_popped_all n noted xs h (Right k) w = absurd w

  pub right_popped_all : (n : B) (noted : Noted T) (xs : List T) → ((new : B) → q n noted new → ArePopped (IsOutBy b m noted.by_step) n xs new) → (new : EitherNode A B) → went (Right n) noted new → ArePopped (IsOutBy (either a b) m noted.by_step) (Right n) xs new
  right_popped_all n noted xs h (Left k) w = absurd w
  right_popped_all n noted xs h (Right k) w = popped_in Right (IsOutBy b m noted.by_step) (IsOutBy (either a b) m noted.by_step) (right_out_by a b m noted.by_step) xs n k (h k w)

  pub left_passed_all : (i : ℕ) (n : A) (noted : Noted T) (xs ys : List T) → ((new : A) → p n noted new → ArePassed (IsIn a m i) (IsOutBy a m noted.by_step) n xs ys new) → (new : EitherNode A B) → went (Left n) noted new → ArePassed (IsIn (either a b) m i) (IsOutBy (either a b) m noted.by_step) (Left n) xs ys new
  left_passed_all i n noted xs ys h (Left k) w = passed_in Left (IsIn a m i) (IsOutBy a m noted.by_step) (IsIn (either a b) m i) (IsOutBy (either a b) m noted.by_step) (left_in a b m i) (left_out_by a b m noted.by_step) xs ys n k (h k w)
  left_passed_all i n noted xs ys h (Right k) w = absurd w

  pub right_passed_all : (i : ℕ) (n : B) (noted : Noted T) (xs ys : List T) → ((new : B) → q n noted new → ArePassed (IsIn b m i) (IsOutBy b m noted.by_step) n xs ys new) → (new : EitherNode A B) → went (Right n) noted new → ArePassed (IsIn (either a b) m i) (IsOutBy (either a b) m noted.by_step) (Right n) xs ys new
  right_passed_all i n noted xs ys h (Left k) w = absurd w
  right_passed_all i n noted xs ys h (Right k) w = passed_in Right (IsIn b m i) (IsOutBy b m noted.by_step) (IsIn (either a b) m i) (IsOutBy (either a b) m noted.by_step) (right_in a b m i) (right_out_by a b m noted.by_step) xs ys n k (h k w)
