-- A node that never steps has no pick and no row that is enabled.
use Rattle.std.proofs.Common.{◌≡◌, Bool, true, false, ◌&&◌, Some, refl}
use Rattle.rsx_sources.specs.Counts.{NeverSteps}
use Rattle.rsx_sources.specs.declared.machine.Machine.{Ghosts as Machine}
use Rattle.rsx_tree.specs.Edges.{is_live}
use Rattle.rsx_tree.specs.Stepped.{IsStill, Station}

no_step : (a b : Bool) → b ≡ false → a && b ≡ false
no_step true b e = e
no_step false b e = refl

pub rests : {M T : Type 0} (b : Machine M T) (s : Station M) → NeverSteps b.picks b.rows s.machine → IsStill b (Some s)
rests b s never =
    let h = never s.asked s.sent in
    (λ input within. no_step (is_live s.state) (b.picks s.machine input s.asked s.sent) (h.0 input), no_step (is_live s.state) (b.rows s.machine s.asked s.sent) h.1)
