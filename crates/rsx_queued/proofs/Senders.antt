-- A node whose edge doesn't cross lets an item through as the node does.
use Rattle.std.proofs.Common.{ap, ℕ, Option, Some, None, IfSome, Result, Ok, Err, IfOk, inl, inr}
use Rattle.rsx_sources.specs.Prelude.{Note, Signal, Next, Meaning, IsItemOutBy, IsPoppedBy, IsPoppedNoting, IsReady, IsTakenIn, IsItemOut, IsPassed, IsStepDone, IsSteppedOut, NoMemory}
use Rattle.rsx_sources.specs.declared.machine.Machine.{Ghosts as Machine}
use Rattle.rsx_sources.specs.declared.machine.Passed.{Passed}
use Rattle.rsx_sources.specs.declared.machine.Passed.TheVariants.{Item, Kept, Declined}
use Rattle.rsx_queued.specs.declared.sender.Sender.TheVariants.{Direct}
use Rattle.rsx_queued.specs.Sender.{sender_comes_out, sender_waiting, sender_takes, sender_picks, sender_rows, sender_rowed, sender_recording, sender_recorded, sender_ended, sender_done, sender_counted, sender_popped}

in_direct : {M T : Type 0} (b : Machine M T) (m : Meaning T) (old new : M) (i : ℕ) (s : Signal T) → IsTakenIn (b.comes_out m) b.takes b.recorded b.counted b.ended b.done old i s new →
    IsTakenIn (sender_comes_out b m) (sender_takes b) (sender_recorded b) (sender_counted b) (sender_ended b) (sender_done b) (Direct old) i s (Direct new)
in_direct b m old new i s h =
    let k = h.counts in
    record { enabled = h.enabled; value = h.value; notes = h.notes; counts = record { stays_ended = k.stays_ended; counts = k.counts; stays_done = k.stays_done; is_done = k.is_done }; goes_on = h.goes_on }

out_direct : {M T : Type 0} (b : Machine M T) (m : Meaning T) (old new : M) (x : T) → IsItemOut (b.comes_out m) (b.waiting m) b.popped b.recorded b.counted b.ended b.done old x new →
    IsItemOut (sender_comes_out b m) (sender_waiting b m) (sender_popped b) (sender_recorded b) (sender_counted b) (sender_ended b) (sender_done b) (Direct old) x (Direct new)
out_direct b m old new x h = record { waited = h.waited; popped_out = h.popped_out; value = h.value; notes = h.notes; counts = h.counts }

ready_direct : {M T : Type 0} (b : Machine M T) (m : Meaning T) (old ready : M) (k : Note) → IsReady (b.comes_out m) b.recorded b.ended old k ready →
    IsReady (sender_comes_out b m) (sender_recorded b) (sender_ended b) (Direct old) k (Direct ready)
ready_direct b m old ready k h = record { value = h.value; notes = h.notes; composes = h.composes; goes_on = h.goes_on }

noting_direct : {M T : Type 0} (b : Machine M T) (m : Meaning T) (k : Note) (w : Option (Signal T)) (old : M) (s : Signal T) (new : M) → IsPoppedNoting (b.comes_out m) b.popped b.recorded b.ended k w old s new →
    IsPoppedNoting (sender_comes_out b m) (sender_popped b) (sender_recorded b) (sender_ended b) k w (Direct old) s (Direct new)
noting_direct b m k w old s new h = record { waited = h.waited; item = h.item; popped_out = h.popped_out; ready = Direct h.ready; noted = ready_direct b m old h.ready k h.noted; value = h.value; notes = h.notes }

-- the signal that waited goes out of it as out of the node, recorded or not
popped_direct : {M T : Type 0} (b : Machine M T) (m : Meaning T) (p : Option Note) (w : Option (Signal T)) (old : M) (o : Option (Signal T)) (new : M) → IsPoppedBy (b.comes_out m) b.popped b.recorded b.ended p w old o new →
    IsPoppedBy (sender_comes_out b m) (sender_popped b) (sender_recorded b) (sender_ended b) p w (Direct old) o (Direct new)
popped_direct b m None w old None new h = (h.0, ap Direct h.1)
popped_direct b m None w old (Some s) new h = h
popped_direct b m (Some k) w old None new h = (h.0, ap Direct h.1)
popped_direct b m (Some k) w old (Some s) new h = noting_direct b m k w old s new h

pub popped_result : {M T : Type 0} (b : Machine M T) (m : Meaning T) (p : Option Note) (w : Option (Signal T)) (old new : M) (r : Result (Option (Signal T)) NoMemory) → IfOk r (λ o. IsPoppedBy (b.comes_out m) b.popped b.recorded b.ended p w old o new) →
    IfOk r (λ o. IsPoppedBy (sender_comes_out b m) (sender_popped b) (sender_recorded b) (sender_ended b) p w (Direct old) o (Direct new))
popped_result b m p w old new (Ok o) h = popped_direct b m p w old o new h
popped_result b m p w old new (Err e) h = tt

item_direct : {M T : Type 0} (b : Machine M T) (m : Meaning T) (p : Option Note) (old : M) (x : T) (new : M) → IsItemOutBy (b.comes_out m) (b.waiting m) b.popped b.recorded b.counted b.ended b.done p old x new →
    IsItemOutBy (sender_comes_out b m) (sender_waiting b m) (sender_popped b) (sender_recorded b) (sender_counted b) (sender_ended b) (sender_done b) p (Direct old) x (Direct new)
item_direct b m None old x new h = out_direct b m old new x h
item_direct b m (Some k) old x new h = (noting_direct b m k (b.waiting m old) old (Next x) new h.0, h.1)

pub item_result : {M T : Type 0} (b : Machine M T) (m : Meaning T) (p : Option Note) (old new : M) (r : Option T) → IfSome r (λ x. IsItemOutBy (b.comes_out m) (b.waiting m) b.popped b.recorded b.counted b.ended b.done p old x new) →
    IfSome r (λ x. IsItemOutBy (sender_comes_out b m) (sender_waiting b m) (sender_popped b) (sender_recorded b) (sender_counted b) (sender_ended b) (sender_done b) p (Direct old) x (Direct new))
item_result b m p old new (Some x) h = item_direct b m p old x new h
item_result b m p old new None h = tt

pub passed_direct : {M T : Type 0} (b : Machine M T) (m : Meaning T) (old new : M) (i : ℕ) (x : T) (r : Passed T) → IsPassed (b.comes_out m) (b.waiting m) b.takes b.popped b.recorded b.counted b.ended b.done old i x r new →
    IsPassed (sender_comes_out b m) (sender_waiting b m) (sender_takes b) (sender_popped b) (sender_recorded b) (sender_counted b) (sender_ended b) (sender_done b) (Direct old) i x r (Direct new)
passed_direct b m old new i x (Item y) h = (Direct h.0, in_direct b m old h.0 i (Next x) h.1, out_direct b m h.0 new y h.2)
passed_direct b m old new i x Kept h = in_direct b m old new i (Next x) h
passed_direct b m old new i x (Declined y) h = (h.0, ap Direct h.1)

step_direct : {M T : Type 0} (b : Machine M T) (m : Meaning T) (old mid : M) (asked sent : ℕ) → IsStepDone (b.comes_out m) b.picks b.rows b.rowed b.recording b.recorded b.counted b.ended b.done old asked sent mid →
    IsStepDone (sender_comes_out b m) (sender_picks b) (sender_rows b) (sender_rowed b) (sender_recording b) (sender_recorded b) (sender_counted b) (sender_ended b) (sender_done b) (Direct old) asked sent (Direct mid)
step_direct b m old mid asked sent (inl p) =
    let h = p.1 in
    let k = h.counts in
    inl (p.0, record { enabled = h.enabled; value = h.value; notes = h.notes; composes = h.composes; counts = record { stays_ended = k.stays_ended; counts = k.counts; stays_done = k.stays_done } })
step_direct b m old mid asked sent (inr h) =
    let k = h.counts in
    inr (record { enabled = h.enabled; row = h.row; value = h.value; notes = h.notes; counts = record { stays_ended = k.stays_ended; counts = k.counts; stays_done = k.stays_done } })

pub stepped_direct : {M T : Type 0} (b : Machine M T) (m : Meaning T) (old new : M) (asked sent : ℕ) (o : Option T) → IsSteppedOut (b.comes_out m) (b.waiting m) b.picks b.rows b.rowed b.popped b.recording b.recorded b.counted b.ended b.done old asked sent o new →
    IsSteppedOut (sender_comes_out b m) (sender_waiting b m) (sender_picks b) (sender_rows b) (sender_rowed b) (sender_popped b) (sender_recording b) (sender_recorded b) (sender_counted b) (sender_ended b) (sender_done b) (Direct old) asked sent o (Direct new)
stepped_direct b m old new asked sent (Some x) h = (Direct h.0, step_direct b m old h.0 asked sent h.1, out_direct b m h.0 new x h.2)
stepped_direct b m old new asked sent None h = ap Direct h
