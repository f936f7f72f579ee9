use Rattle.std.proofs.Common.{refl, ap, ◌∙◌}
use Rattle.rsx_types.specs.Plain.{listed}
use Rattle.rsx_plain.specs.Moves.{has_ended}
use Rattle.rsx_plain.proofs.Ended.{chained_ends}
use Rattle.rsx_merging.proofs.expansion.ExpansionExpanding.lane_of.Goals as goal

pub returns-in-Ok-through_chain-clause-ended : goal.returns-in-Ok-through_chain-clause-ended
returns-in-Ok-through_chain-clause-ended g c =
    ap (λ v. has_ended v.ending) c.in-Ok-through_chain.ensures ∙ chained_ends (g.O.Ops.meaning c.args.ops.now) c.args.self.now.stages.items (listed c.in-Ok.list.items) refl
