-- The laws of nodes that what is said of whole trees rests on.
use Rattle.rsx_types.specs.Meaning.{Meaning}
use Rattle.rsx_sources.specs.declared.machine.Machine.{Ghosts as Machine}
use Rattle.rsx_tree.proofs.Idles.{IsAskedEnough, Waits}
use Rattle.rsx_tree.proofs.Residuals.{Settles}
use Rattle.rsx_tree.specs.Rests.{Rests}

abbrev pub Laws : {M T : Type 0} → Machine M T → Type 0
Laws {T = T} b = (m : Meaning T) → Settles b m × Waits b m × Rests b m × IsAskedEnough b m
