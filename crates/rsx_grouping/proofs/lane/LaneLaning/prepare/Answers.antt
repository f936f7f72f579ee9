use Rattle.std.proofs.Common.{rules, refl, ap, None}
use Rattle.rsx_types.specs.declared.signal.Signal.TheVariants.{Next}
use Rattle.rsx_grouping.proofs.Lanes.{prepares_item}
use Rattle.rsx_grouping.proofs.lane.LaneLaning.prepare.Goals as goal

pub returns-in-Some-clause-ok : goal.returns-in-Some-clause-ok
returns-in-Some-clause-ok g c =
    prepares_item (g.O.Ops.meaning c.args.ops.now) c.args.key c.args.self.now c.in-Some.item.now (record { signal = Next c.in_ok-tagged.tagged; lane = None }) c.requires (search rules) (ap Next c.in_ok-tagged.ensures.answer) refl
