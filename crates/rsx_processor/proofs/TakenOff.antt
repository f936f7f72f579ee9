-- Several items of a hub at once: a node of one of two kinds takes in those that its kind takes in.
use Rattle.std.proofs.Common.{ℕ, List}
use Rattle.rsx_rooted.specs.Taking.{IsItemTaken, IsTakenOff}
use Rattle.rsx_sources.specs.declared.machine.Machine.{Ghosts as Machine}
use Rattle.rsx_tree.specs.Runs.{Leads}
use Rattle.rsx_tree.proofs.Runs.{leads_lift}
use Rattle.rsx_processor.specs.Either.{either}
use Rattle.rsx_processor.specs.declared.either.EitherNode.TheVariants.{Left, Right}

left_item : {A B T : Type 0} (a : Machine A T) (b : Machine B T) (s t : A) (x : T) → IsItemTaken a s x t → IsItemTaken (either a b) (Left s) x (Left t)
left_item a b s t x h =
    let k = h.taken in
    record {
      room = h.room;
      taken = record {
        on = record { reading = k.on.reading; read = k.on.read; reads_on = k.on.reads_on; value = k.on.value };
        recorded = k.recorded;
        counts = record { stays_ended = k.counts.stays_ended; counts = k.counts.counts; stays_done = k.counts.stays_done };
        calls = k.calls;
        heard = k.heard;
      };
    }

right_item : {A B T : Type 0} (a : Machine A T) (b : Machine B T) (s t : B) (x : T) → IsItemTaken b s x t → IsItemTaken (either a b) (Right s) x (Right t)
right_item a b s t x h =
    let k = h.taken in
    record {
      room = h.room;
      taken = record {
        on = record { reading = k.on.reading; read = k.on.read; reads_on = k.on.reads_on; value = k.on.value };
        recorded = k.recorded;
        counts = record { stays_ended = k.counts.stays_ended; counts = k.counts.counts; stays_done = k.counts.stays_done };
        calls = k.calls;
        heard = k.heard;
      };
    }

pub left_taken : {A B T : Type 0} (a : Machine A T) (b : Machine B T) (count spaces : ℕ) (old new : List T) (s t : A) →
    IsTakenOff count spaces old new (λ xs. Leads (IsItemTaken a) s xs t) → IsTakenOff count spaces old new (λ xs. Leads (IsItemTaken (either a b)) (Left s) xs (Left t))
left_taken a b count spaces old new s t h before xs all len fits =
    let here = h before xs all len fits in
    (leads_lift (IsItemTaken a) (IsItemTaken (either a b)) Left (left_item a b) s t xs here.0, here.1)

pub right_taken : {A B T : Type 0} (a : Machine A T) (b : Machine B T) (count spaces : ℕ) (old new : List T) (s t : B) →
    IsTakenOff count spaces old new (λ xs. Leads (IsItemTaken b) s xs t) → IsTakenOff count spaces old new (λ xs. Leads (IsItemTaken (either a b)) (Right s) xs (Right t))
right_taken a b count spaces old new s t h before xs all len fits =
    let here = h before xs all len fits in
    (leads_lift (IsItemTaken b) (IsItemTaken (either a b)) Right (right_item a b) s t xs here.0, here.1)
