use Rattle.std.proofs.Common.{rules}
use Rattle.std.proofs.lemmas.Option.{IfSome_then}
use Rattle.rsx_kinds.proofs.Batched.{passed_plain_all, passed_publish_on_all, passed_several_all}
use Rattle.rsx_kinds.proofs.batches.AnyNodeBatches.try_pass.Goals as goal

pub returns-in-Plain-clause-passed : goal.returns-in-Plain-clause-passed
returns-in-Plain-clause-passed g c =
    rw c.in-Plain.is (IfSome_then c.try_pass.result c.try_pass.ensures.passed (λ noted h. passed_plain_all (g.O.Ops.meaning c.args.ops.now) c.args.input c.in-Plain.node noted c.args.items.now.items c.try_pass.new.items.items h))

pub returns-in-Several-clause-passed : goal.returns-in-Several-clause-passed
returns-in-Several-clause-passed g c =
    rw c.in-Several.is (IfSome_then c.try_pass-in-Several.result c.try_pass-in-Several.ensures.passed (λ noted h. passed_several_all (g.O.Ops.meaning c.args.ops.now) c.args.input c.in-Several.node noted c.args.items.now.items c.try_pass-in-Several.new.items.items h))

pub returns-else-not-goes_through-clause-passed : goal.returns-else-not-goes_through-clause-passed
returns-else-not-goes_through-clause-passed g c = λ new w.
    let h = c.goes_through.ensures c.if-not-goes_through.false in
    passed_publish_on_all (g.O.Ops.meaning c.args.ops.now) c.args.input c.args.self.now new c.in-PublishOn.node _ c.args.items.now.items (search rules) h.0 h.1 w
