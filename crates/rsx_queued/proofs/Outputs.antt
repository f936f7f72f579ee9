-- An out slot that is empty.
use Rattle.std.proofs.Common.{◌≡◌, ℕ, true, List, Option, option_map, refl, ap, sym, ◌∙◌}
use Rattle.rsx_sources.specs.Prelude.{Note, Nothing, Picks, Ended, Next, Stream, signal_then}
use Rattle.rsx_queued.specs.declared.output.Output.{Output}
use Rattle.rsx_queued.specs.declared.output.Output.TheVariants.{Empty, Waiting, Over}
use Rattle.rsx_queued.specs.Inputs.{picked}
use Rattle.rsx_queued.specs.Output.{is_empty, has_ending, output_then}

pub empty_is : {T : Type 0} (out : Output T) → is_empty out ≡ true → out ≡ Empty
empty_is Empty e = refl
empty_is (Waiting s) e = cc
empty_is Over e = cc

-- no ending waits in it
pub not_ended : {T : Type 0} (out : Output T) → out ≡ Empty → has_ending out ≡ true → ⊥
not_ended out e h = let was = sym (ap has_ending e) ∙ h in cc

-- what comes is all that comes out
pub empty_then : {T : Type 0} (out : Output T) (o w : Option (Stream T)) → is_empty out ≡ true → output_then out o w ≡ o
empty_then Empty o w e = refl
empty_then (Waiting s) o w e = cc
empty_then Over o w e = cc

-- an item that waits comes out before what else comes, whatever is chosen
pub item_leaves : {T : Type 0} (out out' : Output T) (x : T) (o w : List ℕ → Option (Stream T)) → out ≡ Waiting (Next x) → out' ≡ Empty →
    (further : Note) → picked further (λ cs. output_then out (o cs) (w cs)) ≡ option_map (signal_then (Next x)) (picked further (λ cs. output_then out' (o cs) (w cs)))
item_leaves out out' x o w waits left Nothing = refl
item_leaves out out' x o w waits left (Ended k) = refl
item_leaves out out' x o w waits left (Picks cs) = rw (waits, left) refl
