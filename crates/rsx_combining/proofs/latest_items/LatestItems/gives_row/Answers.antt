use Rattle.std.proofs.Common.{nat_lt, sym, ap, ◌∙◌}
use Rattle.rsx_combining.specs.Latest.{gives_row}
use Rattle.rsx_combining.proofs.Gives.{all_seen, gives_all}
use Rattle.rsx_combining.proofs.latest_items.LatestItems.gives_row.Goals as goal

pub returns-then-not-is_empty : goal.returns-then-not-is_empty
returns-then-not-is_empty g c =
    let all = c.self.inside.all in
    ap (nat_lt c.args.input) (c.len.ensures ∙ all.ok.0) ∙ sym (gives_all all.items c.args.input)
    ∙ ap (λ l. gives_row l c.args.input) (all_seen c.self.inside.before.items c.args.self.now c.self.inside.all.items all.len c.self.view_is c.self.invariant.0 all.ok.0 (sym c.is_empty.ensures ∙ c.if-not-is_empty.true))
