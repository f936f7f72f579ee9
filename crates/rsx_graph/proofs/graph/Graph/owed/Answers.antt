use Rattle.std.proofs.Common.{arith}
use Rattle.rsx_graph.proofs.Kept.{if_ok}
use Rattle.rsx_graph.proofs.graph.Graph.owed.Goals as goal

pub returns-clause-owes : goal.returns-clause-owes
returns-clause-owes g c = if_ok c.owed.result (rw (c.deref.ensures.value, c.deref-2.ensures.value, c.deref-3.ensures.value) at c.owed.ensures.owes)
    (λ v k h s. k h s.rows)

pub returns-clause-err : goal.returns-clause-err
returns-clause-err g c = rw c.deref-3.ensures.value at c.owed.ensures.err

pub owed-requires-clause-few : goal.owed-requires-clause-few
owed-requires-clause-few g c κs within = let few = c.args.self.now.few_hubs in rw c.deref.ensures.value (omega (arith, few))
