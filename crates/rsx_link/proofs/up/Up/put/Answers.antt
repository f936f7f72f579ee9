use Rattle.std.proofs.Common.{sym, ◌∙◌, arith}
use Rattle.rsx_link.proofs.Items.{pushed_item, pushed_ending}
use Rattle.rsx_link.proofs.up.Up.put.Goals as goal

pub invariant_of-self-clause-counts : goal.invariant_of-self-clause-counts
invariant_of-self-clause-counts g c =
    let sent = c.push_reserved.ensures.sent in
    let was = c.args.self.now.counts in
    let more = pushed_item _ _ _ sent.0 (sym c.is_item-counts.ensures ∙ c.if-counts.true) in omega arith

pub invariant_of-self-else-counts-clause-counts : goal.invariant_of-self-else-counts-clause-counts
invariant_of-self-else-counts-clause-counts g c =
    let sent = c.push_reserved.ensures.sent in
    let was = c.args.self.now.counts in
    let more = pushed_ending _ _ _ sent.0 (sym c.is_item-counts.ensures ∙ c.if-counts.false) in omega arith
