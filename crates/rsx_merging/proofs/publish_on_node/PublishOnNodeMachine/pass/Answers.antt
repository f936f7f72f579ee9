use Rattle.std.proofs.Common.{◌≡◌, [], true, rules}
use Rattle.rsx_sources.specs.declared.machine.Front.TheVariants.{Item}
use Rattle.rsx_merging.specs.PublishOn.{publish_takes}
use Rattle.rsx_merging.proofs.Passes.{goes_through}
use Rattle.rsx_merging.proofs.publish_on_node.PublishOnNodeMachine.pass.Goals as goal

pub returns-then-can_take-clause-passed : goal.returns-then-can_take-clause-passed
returns-then-can_take-clause-passed g c =
    let n = c.args.self.now in
    let empty : n.input.queue.items ≡ [] = search rules in
    let can : publish_takes n c.args.input Item ≡ true = search rules in
    goes_through (g.O.Ops.meaning c.args.ops.now) n c.args.input c.args.item empty can
