use Rattle.rsx.proofs.Makes.{over_both}
use Rattle.rsx.proofs.flux.Flux.window.Goals as goal

pub returns : goal.returns
returns g c =
    (c.new.result, c.lane.result, c.new.ensures, c.lane.ensures, over_both _ _ _ _ _ _ _ c.boxed.ensures c.into_vec-stages.ensures c.window_of.ensures c.new-2.ensures)
