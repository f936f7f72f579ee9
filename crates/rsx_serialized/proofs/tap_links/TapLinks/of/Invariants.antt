use Rattle.rsx_serialized.specs.Starting.{AreTapLinks}
use Rattle.rsx_serialized.proofs.tap_links.TapLinks.of.Given as goal

abbrev pub invariant-loop-number : goal.invariant-loop-number
invariant-loop-number g l = AreTapLinks l.subs l.number 0 l.opened
