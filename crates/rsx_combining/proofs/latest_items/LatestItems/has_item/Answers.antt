use Rattle.std.proofs.Common.{nat_lt, not, slice_get, sym, ap, ◌∙◌}
use Rattle.rsx_values.specs.Latest.{is_itemless}
use Rattle.rsx_combining.proofs.Gives.{all_seen, item_of_all}
use Rattle.rsx_combining.proofs.latest_items.LatestItems.has_item.Goals as goal

pub returns-then-not-is_empty : goal.returns-then-not-is_empty
returns-then-not-is_empty g c =
    let all = c.self.inside.all in
    ap (nat_lt c.args.at) (c.len.ensures ∙ all.ok.0) ∙ sym (item_of_all all.items c.args.at)
    ∙ ap (λ l. not (is_itemless (slice_get l c.args.at))) (all_seen c.self.inside.before.items c.args.self.now c.self.inside.all.items all.len c.self.view_is c.self.invariant.0 all.ok.0 (sym c.is_empty.ensures ∙ c.if-not-is_empty.true))
