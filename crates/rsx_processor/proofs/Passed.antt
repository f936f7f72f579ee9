-- An item goes through a node of one of two kinds as through its kind.
use Rattle.std.proofs.Common.{ap, ℕ, Option, Some, None, IfSome, Result, Ok, Err, IfOk, inl, inr}
use Rattle.rsx_sources.specs.Prelude.{IsItemOut, IsItemOutBy, IsPassed, IsPoppedBy, IsPoppedNoting, IsStepDone, IsSteppedOut, IsTakenIn, Meaning, Next, NoMemory, Note, Signal}
use Rattle.rsx_sources.specs.declared.machine.Machine.{Ghosts as Machine}
use Rattle.rsx_sources.specs.declared.machine.Passed.{Passed}
use Rattle.rsx_sources.specs.declared.machine.Passed.TheVariants.{Item, Kept, Declined}
use Rattle.rsx_processor.specs.Either.{either}
use Rattle.rsx_processor.specs.declared.either.EitherNode.TheVariants.{Left, Right}

-- what is said of one machine's item
abbrev IsIn : {M T : Type 0} → Machine M T → Meaning T → M → ℕ → T → M → Type 0
IsIn k m old i x new = IsTakenIn (k.comes_out m) k.takes k.recorded k.counted k.ended k.done old i (Next x) new

abbrev IsOut : {M T : Type 0} → Machine M T → Meaning T → M → T → M → Type 0
IsOut k m old x new = IsItemOut (k.comes_out m) (k.waiting m) k.popped k.recorded k.counted k.ended k.done old x new

abbrev IsStep : {M T : Type 0} → Machine M T → Meaning T → M → ℕ → ℕ → M → Type 0
IsStep k m old asked sent new = IsStepDone (k.comes_out m) k.picks k.rows k.rowed k.recording k.recorded k.counted k.ended k.done old asked sent new

abbrev IsThrough : {M T : Type 0} → Machine M T → Meaning T → M → ℕ → T → Passed T → M → Type 0
IsThrough k m old i x r new = IsPassed (k.comes_out m) (k.waiting m) k.takes k.popped k.recorded k.counted k.ended k.done old i x r new

abbrev IsStepGone : {M T : Type 0} → Machine M T → Meaning T → M → ℕ → ℕ → Option T → M → Type 0
IsStepGone k m old asked sent o new = IsSteppedOut (k.comes_out m) (k.waiting m) k.picks k.rows k.rowed k.popped k.recording k.recorded k.counted k.ended k.done old asked sent o new

left_in : {A B T : Type 0} (a : Machine A T) (b : Machine B T) (m : Meaning T) (old new : A) (i : ℕ) (x : T) → IsIn a m old i x new → IsIn (either a b) m (Left old) i x (Left new)
left_in a b m old new i x h =
    let k = h.counts in
    record { enabled = h.enabled; value = h.value; notes = h.notes; counts = record { stays_ended = k.stays_ended; counts = k.counts; stays_done = k.stays_done; is_done = k.is_done }; goes_on = h.goes_on }

left_out : {A B T : Type 0} (a : Machine A T) (b : Machine B T) (m : Meaning T) (old new : A) (x : T) → IsOut a m old x new → IsOut (either a b) m (Left old) x (Left new)
left_out a b m old new x h = record { waited = h.waited; popped_out = h.popped_out; value = h.value; notes = h.notes; counts = h.counts }

left_step : {A B T : Type 0} (a : Machine A T) (b : Machine B T) (m : Meaning T) (old new : A) (asked sent : ℕ) → IsStep a m old asked sent new → IsStep (either a b) m (Left old) asked sent (Left new)
left_step a b m old new asked sent (inl p) =
    let h = p.1 in
    let k = h.counts in
    inl (p.0, record { enabled = h.enabled; value = h.value; notes = h.notes; composes = h.composes; counts = record { stays_ended = k.stays_ended; counts = k.counts; stays_done = k.stays_done } })
left_step a b m old new asked sent (inr h) =
    let k = h.counts in
    inr (record { enabled = h.enabled; row = h.row; value = h.value; notes = h.notes; counts = record { stays_ended = k.stays_ended; counts = k.counts; stays_done = k.stays_done } })

pub left_passed : {A B T : Type 0} (a : Machine A T) (b : Machine B T) (m : Meaning T) (old new : A) (i : ℕ) (x : T) (r : Passed T) → IsThrough a m old i x r new → IsThrough (either a b) m (Left old) i x r (Left new)
left_passed a b m old new i x (Item y) h = (Left h.0, left_in a b m old h.0 i x h.1, left_out a b m h.0 new y h.2)
left_passed a b m old new i x Kept h = left_in a b m old new i x h
left_passed a b m old new i x (Declined y) h = (h.0, ap Left h.1)

pub left_stepped_out : {A B T : Type 0} (a : Machine A T) (b : Machine B T) (m : Meaning T) (old new : A) (asked sent : ℕ) (o : Option T) → IsStepGone a m old asked sent o new → IsStepGone (either a b) m (Left old) asked sent o (Left new)
left_stepped_out a b m old new asked sent (Some x) h = (Left h.0, left_step a b m old h.0 asked sent h.1, left_out a b m h.0 new x h.2)
left_stepped_out a b m old new asked sent None h = ap Left h

right_in : {A B T : Type 0} (a : Machine A T) (b : Machine B T) (m : Meaning T) (old new : B) (i : ℕ) (x : T) → IsIn b m old i x new → IsIn (either a b) m (Right old) i x (Right new)
right_in a b m old new i x h =
    let k = h.counts in
    record { enabled = h.enabled; value = h.value; notes = h.notes; counts = record { stays_ended = k.stays_ended; counts = k.counts; stays_done = k.stays_done; is_done = k.is_done }; goes_on = h.goes_on }

right_out : {A B T : Type 0} (a : Machine A T) (b : Machine B T) (m : Meaning T) (old new : B) (x : T) → IsOut b m old x new → IsOut (either a b) m (Right old) x (Right new)
right_out a b m old new x h = record { waited = h.waited; popped_out = h.popped_out; value = h.value; notes = h.notes; counts = h.counts }

right_step : {A B T : Type 0} (a : Machine A T) (b : Machine B T) (m : Meaning T) (old new : B) (asked sent : ℕ) → IsStep b m old asked sent new → IsStep (either a b) m (Right old) asked sent (Right new)
right_step a b m old new asked sent (inl p) =
    let h = p.1 in
    let k = h.counts in
    inl (p.0, record { enabled = h.enabled; value = h.value; notes = h.notes; composes = h.composes; counts = record { stays_ended = k.stays_ended; counts = k.counts; stays_done = k.stays_done } })
right_step a b m old new asked sent (inr h) =
    let k = h.counts in
    inr (record { enabled = h.enabled; row = h.row; value = h.value; notes = h.notes; counts = record { stays_ended = k.stays_ended; counts = k.counts; stays_done = k.stays_done } })

pub right_passed : {A B T : Type 0} (a : Machine A T) (b : Machine B T) (m : Meaning T) (old new : B) (i : ℕ) (x : T) (r : Passed T) → IsThrough b m old i x r new → IsThrough (either a b) m (Right old) i x r (Right new)
right_passed a b m old new i x (Item y) h = (Right h.0, right_in a b m old h.0 i x h.1, right_out a b m h.0 new y h.2)
right_passed a b m old new i x Kept h = right_in a b m old new i x h
right_passed a b m old new i x (Declined y) h = (h.0, ap Right h.1)

pub right_stepped_out : {A B T : Type 0} (a : Machine A T) (b : Machine B T) (m : Meaning T) (old new : B) (asked sent : ℕ) (o : Option T) → IsStepGone b m old asked sent o new → IsStepGone (either a b) m (Right old) asked sent o (Right new)
right_stepped_out a b m old new asked sent (Some x) h = (Right h.0, right_step a b m old h.0 asked sent h.1, right_out a b m h.0 new x h.2)
right_stepped_out a b m old new asked sent None h = ap Right h

-- ---- a signal that goes out of a node that may record it

-- the same of a signal that waits in a node of the first kind, recorded or not
left_noting : {A B T : Type 0} (a : Machine A T) (b : Machine B T) (m : Meaning T) (n : Note) (w : Option (Signal T)) (old : A) (s : Signal T) (new : A) → IsPoppedNoting (a.comes_out m) a.popped a.recorded a.ended n w old s new →
    IsPoppedNoting ((either a b).comes_out m) (either a b).popped (either a b).recorded (either a b).ended n w (Left old) s (Left new)
left_noting a b m n w old s new h = record {
  waited = h.waited;
  item = h.item;
  popped_out = h.popped_out;
  ready = Left h.ready;
  noted = let r = h.noted in record { value = r.value; notes = r.notes; composes = r.composes; goes_on = r.goes_on };
  value = h.value;
  notes = h.notes;
}

left_popped : {A B T : Type 0} (a : Machine A T) (b : Machine B T) (m : Meaning T) (p : Option Note) (w : Option (Signal T)) (old : A) (o : Option (Signal T)) (new : A) → IsPoppedBy (a.comes_out m) a.popped a.recorded a.ended p w old o new →
    IsPoppedBy ((either a b).comes_out m) (either a b).popped (either a b).recorded (either a b).ended p w (Left old) o (Left new)
left_popped a b m None w old None new h = (h.0, ap Left h.1)
left_popped a b m None w old (Some s) new h = h
left_popped a b m (Some k) w old None new h = (h.0, ap Left h.1)
left_popped a b m (Some k) w old (Some s) new h = left_noting a b m k w old s new h

pub left_popped_result : {A B T : Type 0} (a : Machine A T) (b : Machine B T) (m : Meaning T) (p : Option Note) (w : Option (Signal T)) (old new : A) (r : Result (Option (Signal T)) NoMemory) → IfOk r (λ o. IsPoppedBy (a.comes_out m) a.popped a.recorded a.ended p w old o new) →
    IfOk r (λ o. IsPoppedBy ((either a b).comes_out m) (either a b).popped (either a b).recorded (either a b).ended p w (Left old) o (Left new))
left_popped_result a b m p w old new (Ok o) h = left_popped a b m p w old o new h
left_popped_result a b m p w old new (Err e) h = tt

left_item : {A B T : Type 0} (a : Machine A T) (b : Machine B T) (m : Meaning T) (p : Option Note) (old : A) (x : T) (new : A) → IsItemOutBy (a.comes_out m) (a.waiting m) a.popped a.recorded a.counted a.ended a.done p old x new →
    IsItemOutBy ((either a b).comes_out m) ((either a b).waiting m) (either a b).popped (either a b).recorded (either a b).counted (either a b).ended (either a b).done p (Left old) x (Left new)
left_item a b m None old x new h = left_out a b m old new x h
left_item a b m (Some k) old x new h = (left_noting a b m k (a.waiting m old) old (Next x) new h.0, h.1)

pub left_item_result : {A B T : Type 0} (a : Machine A T) (b : Machine B T) (m : Meaning T) (p : Option Note) (old new : A) (r : Option T) → IfSome r (λ x. IsItemOutBy (a.comes_out m) (a.waiting m) a.popped a.recorded a.counted a.ended a.done p old x new) →
    IfSome r (λ x. IsItemOutBy ((either a b).comes_out m) ((either a b).waiting m) (either a b).popped (either a b).recorded (either a b).counted (either a b).ended (either a b).done p (Left old) x (Left new))
left_item_result a b m p old new (Some x) h = left_item a b m p old x new h
left_item_result a b m p old new None h = tt

-- the same of a signal that waits in a node of the second kind, recorded or not
right_noting : {A B T : Type 0} (a : Machine A T) (b : Machine B T) (m : Meaning T) (n : Note) (w : Option (Signal T)) (old : B) (s : Signal T) (new : B) → IsPoppedNoting (b.comes_out m) b.popped b.recorded b.ended n w old s new →
    IsPoppedNoting ((either a b).comes_out m) (either a b).popped (either a b).recorded (either a b).ended n w (Right old) s (Right new)
right_noting a b m n w old s new h = record {
  waited = h.waited;
  item = h.item;
  popped_out = h.popped_out;
  ready = Right h.ready;
  noted = let r = h.noted in record { value = r.value; notes = r.notes; composes = r.composes; goes_on = r.goes_on };
  value = h.value;
  notes = h.notes;
}

right_popped : {A B T : Type 0} (a : Machine A T) (b : Machine B T) (m : Meaning T) (p : Option Note) (w : Option (Signal T)) (old : B) (o : Option (Signal T)) (new : B) → IsPoppedBy (b.comes_out m) b.popped b.recorded b.ended p w old o new →
    IsPoppedBy ((either a b).comes_out m) (either a b).popped (either a b).recorded (either a b).ended p w (Right old) o (Right new)
right_popped a b m None w old None new h = (h.0, ap Right h.1)
right_popped a b m None w old (Some s) new h = h
right_popped a b m (Some k) w old None new h = (h.0, ap Right h.1)
right_popped a b m (Some k) w old (Some s) new h = right_noting a b m k w old s new h

pub right_popped_result : {A B T : Type 0} (a : Machine A T) (b : Machine B T) (m : Meaning T) (p : Option Note) (w : Option (Signal T)) (old new : B) (r : Result (Option (Signal T)) NoMemory) → IfOk r (λ o. IsPoppedBy (b.comes_out m) b.popped b.recorded b.ended p w old o new) →
    IfOk r (λ o. IsPoppedBy ((either a b).comes_out m) (either a b).popped (either a b).recorded (either a b).ended p w (Right old) o (Right new))
right_popped_result a b m p w old new (Ok o) h = right_popped a b m p w old o new h
right_popped_result a b m p w old new (Err e) h = tt

right_item : {A B T : Type 0} (a : Machine A T) (b : Machine B T) (m : Meaning T) (p : Option Note) (old : B) (x : T) (new : B) → IsItemOutBy (b.comes_out m) (b.waiting m) b.popped b.recorded b.counted b.ended b.done p old x new →
    IsItemOutBy ((either a b).comes_out m) ((either a b).waiting m) (either a b).popped (either a b).recorded (either a b).counted (either a b).ended (either a b).done p (Right old) x (Right new)
right_item a b m None old x new h = right_out a b m old new x h
right_item a b m (Some k) old x new h = (right_noting a b m k (b.waiting m old) old (Next x) new h.0, h.1)

pub right_item_result : {A B T : Type 0} (a : Machine A T) (b : Machine B T) (m : Meaning T) (p : Option Note) (old new : B) (r : Option T) → IfSome r (λ x. IsItemOutBy (b.comes_out m) (b.waiting m) b.popped b.recorded b.counted b.ended b.done p old x new) →
    IfSome r (λ x. IsItemOutBy ((either a b).comes_out m) ((either a b).waiting m) (either a b).popped (either a b).recorded (either a b).counted (either a b).ended (either a b).done p (Right old) x (Right new))
right_item_result a b m p old new (Some x) h = right_item a b m p old x new h
right_item_result a b m p old new None h = tt
