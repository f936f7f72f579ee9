use Rattle.std.proofs.Common.{◌≡◌, true, false, sym, ap, ◌∙◌, arith}
use Rattle.rsx_link.specs.Signals.{is_item, items_in}
use Rattle.rsx_link.proofs.Items.{pushed_item, pushed_ending, same_front}
use Rattle.rsx_link.proofs.down.Down.take.Goals as goal

pub invariant_of-self-clause-counts : goal.invariant_of-self-clause-counts
invariant_of-self-clause-counts g c =
    let taken = c.pop_known-signal.ensures.received in
    let item : is_item c.pop_known-signal.result ≡ true =
    ap is_item (sym (same_front _ _ _ _ c.peek_known.ensures taken.1)) ∙ (sym c.is_item-is_item.ensures ∙ c.if-is_item-2.true) in
    let old = c.args.self.now.counts in
    let spent = c.spend.ensures.sent in
    let looked = ap items_in c.is_empty.ensures.same.2 in
    let more = pushed_item _ _ _ taken.0 item in omega arith

pub invariant_of-self-else-is_item-2-clause-counts : goal.invariant_of-self-else-is_item-2-clause-counts
invariant_of-self-else-is_item-2-clause-counts g c =
    let taken = c.pop_known-signal.ensures.received in
    let ending : is_item c.pop_known-signal.result ≡ false =
    ap is_item (sym (same_front _ _ _ _ c.peek_known.ensures taken.1)) ∙ (sym c.is_item-is_item.ensures ∙ c.if-is_item-2.false) in
    let old = c.args.self.now.counts in
    let looked = ap items_in c.is_empty.ensures.same.2 in
    let more = pushed_ending _ _ _ taken.0 ending in omega arith
