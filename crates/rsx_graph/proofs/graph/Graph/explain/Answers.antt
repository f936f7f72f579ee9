use Rattle.std.proofs.Common.{arith}
use Rattle.rsx_graph.proofs.graph.Graph.explain.Goals as goal

pub explain-requires-clause-few : goal.explain-requires-clause-few
explain-requires-clause-few g c = let few = c.args.self.now.few in rw c.deref-3.ensures.value (omega (arith, few))

pub explain-requires-clause-few_hubs : goal.explain-requires-clause-few_hubs
explain-requires-clause-few_hubs g c = let few = c.args.self.now.few_hubs in rw c.deref.ensures.value (omega (arith, few))

pub returns-clause-waits : goal.returns-clause-waits
returns-clause-waits g c = rw (c.deref.ensures.value, c.deref-2.ensures.value, c.deref-3.ensures.value) at (c.explain.ensures.waits (g.O.Ops.meaning c.args.self.now.ops))

pub returns-clause-err : goal.returns-clause-err
returns-clause-err g c = rw c.deref-3.ensures.value at c.explain.ensures.err

pub returns-clause-idle : goal.returns-clause-idle
returns-clause-idle g c = rw (c.deref.ensures.value, c.deref-2.ensures.value, c.deref-3.ensures.value) at (c.explain.ensures.idle (g.O.Ops.meaning c.args.self.now.ops))

pub returns-clause-known : goal.returns-clause-known
returns-clause-known g c = λ h s sub there within.
    let known = rw (c.deref.ensures.value, c.deref-2.ensures.value, c.deref-3.ensures.value) at (c.explain.ensures.known (g.O.Ops.meaning c.args.self.now.ops)) in
    known h sub s.rows there within
