use Rattle.std.proofs.Common.{length, refl, sym, ap, ◌∙◌, arith}
use Rattle.rsx_combining.proofs.Gives.{all_seen, first_seen, kept_within, none_before, put_before, set_seen}
use Rattle.rsx_combining.proofs.latest_items.LatestItems.keep.Goals as goal

pub index_mut-requires : goal.index_mut-requires
index_mut-requires g c =
    let all = c.self.inside.all in
    kept_within c.args.self.now all.items all.len c.args.at (all_seen c.self.inside.before.items c.args.self.now all.items all.len c.self.view_is c.self.invariant.0 all.ok.0 (sym c.is_empty.ensures ∙ c.if-not-is_empty.true)) all.ok.0 c.requires

pub returns-then-not-is_empty : goal.returns-then-not-is_empty
returns-then-not-is_empty g c =
    let all = c.self.inside.all in
    let some = sym c.is_empty.ensures ∙ c.if-not-is_empty.true in
    set_seen c.self.inside.before.items c.args.self.now all.items c.args.at c.args.latest c.args.latest (none_before c.self.inside.before.items all.items all.len c.self.invariant.0 all.ok.0 some)
    (all_seen c.self.inside.before.items c.args.self.now all.items all.len c.self.view_is c.self.invariant.0 all.ok.0 some) refl

pub index_mut-requires-2 : goal.index_mut-requires-2
index_mut-requires-2 g c =
    let all = c.self.inside.all in
    let p = first_seen c.self.inside.before.items c.args.self.now all.items all.len c.self.view_is all.ok.0 (sym c.is_empty.ensures ∙ c.if-not-is_empty.false) in
    let same = ap length p.0 in
    let l = c.self.inside.before.ok.0 in
    let there = c.requires in
    omega (arith, same, l, there)

pub returns : goal.returns
returns g c =
    let all = c.self.inside.all in
    put_before c.self.inside.before.items c.args.self.now all.items c.args.at c.args.latest (first_seen c.self.inside.before.items c.args.self.now all.items all.len c.self.view_is all.ok.0 (sym c.is_empty.ensures ∙ c.if-not-is_empty.false))
