use Rattle.std.proofs.Common.{refl}
use Rattle.rsx_kinds.specs.Any.{any_machine}
use Rattle.rsx_graph_moves.proofs.Rest.{none_idle}
use Rattle.rsx_graph.proofs.pieces.Pieces.put_together.Goals as goal

pub returns-clause-pieces : goal.returns-clause-pieces
returns-clause-pieces g c = record { ops = refl; hubs = refl; feeds = refl; feed_joins = refl; subs = refl; joins = refl; regions = refl }

pub returns-clause-state : goal.returns-clause-state
returns-clause-state g c = refl

pub returns-clause-stands : goal.returns-clause-stands
returns-clause-stands g c = λ h s. s

pub returns-clause-only : goal.returns-clause-only
returns-clause-only g c = λ h s. s

pub invariant_of-result-clause-resting : goal.invariant_of-result-clause-resting
invariant_of-result-clause-resting g c = none_idle any_machine (g.O.Ops.meaning c.args.self.ops) c.new.result c.args.self.subs.items c.new.ensures
