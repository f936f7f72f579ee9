use Rattle.std.proofs.Common.{sym, ◌∙◌, arith}
use Rattle.rsx_link.proofs.Items.{pushed_item, pushed_ending}
use Rattle.rsx_link.proofs.up.Up.send.Goals as goal

pub invariant_of-self-clause-counts : goal.invariant_of-self-clause-counts
invariant_of-self-clause-counts g c =
    let sent = c.in-Ok.ensures.ok in
    let was = c.args.self.now.counts in
    let more = pushed_item _ _ _ sent.0 (sym c.is_item-is_item.ensures ∙ c.if-is_item.true) in omega arith

pub invariant_of-self-else-is_item-clause-counts : goal.invariant_of-self-else-is_item-clause-counts
invariant_of-self-else-is_item-clause-counts g c =
    let sent = c.in-Ok.ensures.ok in
    let was = c.args.self.now.counts in
    let more = pushed_ending _ _ _ sent.0 (sym c.is_item-is_item.ensures ∙ c.if-is_item.false) in omega arith
