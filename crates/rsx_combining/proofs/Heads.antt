-- The next item of each input.
use Rattle.std.proofs.Common.{◌≡◌, Option, Some, None, option_map, ap, sym}
use Rattle.rsx_sources.specs.Prelude.{Signal, Next, Complete, Error, front_of}
use Rattle.rsx_sources.specs.declared.machine.Front.{Front}
use Rattle.rsx_sources.specs.declared.machine.Front.TheVariants.{Item, Completion as CompletionFront, Failure as FailureFront}
use Rattle.rsx_combining.specs.Inputs.{ending_only}

-- the ending that an input shows
abbrev pub ending_by : {T : Type 0} → Option Front → Option (Signal T)
ending_by None = None
ending_by (Some Item) = None
ending_by (Some CompletionFront) = Some Complete
ending_by (Some (FailureFront c)) = Some (Error c)

pub ending_shown : {T : Type 0} (o : Option (Signal T)) (f : Option Front) → f ≡ option_map front_of o → ending_only o ≡ ending_by f
ending_shown None f e = ap ending_by (sym e)
ending_shown (Some (Next x)) f e = ap ending_by (sym e)
ending_shown (Some Complete) f e = ap ending_by (sym e)
ending_shown (Some (Error c)) f e = ap ending_by (sym e)
