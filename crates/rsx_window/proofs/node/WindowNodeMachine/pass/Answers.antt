use Rattle.std.proofs.Common.{◌≡◌, ◌<◌, sym, ◌∙◌, rules}
use Rattle.rsx_window.proofs.Passes.{item_passed_on}
use Rattle.rsx_window.proofs.node.WindowNodeMachine.pass.Goals as goal

pub returns-in-Item-clause-passed : goal.returns-in-Item-clause-passed
returns-in-Item-clause-passed g c =
    let n = c.args.self.now in
    let space : 0 < n.pending.room = search rules in
    let stand : c.deref.result.now ≡ n.stages.items = search rules in
    item_passed_on (g.O.Ops.meaning c.args.ops.now) n c.deref.result.now c.pass.new.self c.saturating_total-self.result c.args.input c.args.item c.in-Item.item c.if-input-ne0.false (sym c.is_empty.ensures ∙ c.if-not-is_empty.false) space stand c.in-Item.ensures c.saturating_total-self.ensures
