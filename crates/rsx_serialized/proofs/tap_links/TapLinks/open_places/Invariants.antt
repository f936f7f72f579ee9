use Rattle.std.proofs.Common.{length}
use Rattle.rsx_serialized.specs.Starting.{AreTapLinks}
use Rattle.rsx_serialized.proofs.tap_links.TapLinks.open_places.Given as goal

abbrev pub invariant-loop-place : goal.invariant-loop-place
invariant-loop-place g l = AreTapLinks l.subs (length l.subs) l.place l.self
