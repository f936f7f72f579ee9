use Rattle.std.proofs.Common.{◌≡◌, true, rules}
use Rattle.rsx_plain.specs.Node.{plain_takes}
use Rattle.rsx_plain.proofs.Passes.{passed}
use Rattle.rsx_plain.proofs.node.PlainNodeMachine.pass.Goals as goal

pub returns-clause-passed : goal.returns-clause-passed
returns-clause-passed g c =
    let takes : plain_takes c.args.self.now c.args.input ≡ true = search rules in
    passed (g.O.Ops.meaning c.args.ops.now) c.args.self.now.state c.pass.new.self c.args.self.now.slot c.args.input c.args.item c.pass.result takes c.pass.ensures
