use Rattle.std.proofs.Common.{slice_set, refl, sym, ap, ◌∙◌}
use Rattle.rsx_combining.proofs.Gives.{all_seen, before_seen, none_before, gives_within, both_ok, moved_seen, set_seen, set_back, read_set, row_of_all, seen}
use Rattle.rsx_combining.proofs.latest_items.LatestItemsItemRows.row_with.Goals as goal

pub returns-then-is_empty-clause-latest : goal.returns-then-is_empty-clause-latest
returns-then-is_empty-clause-latest g c =
    let all = c.self.inside.all in
    both_ok c.row_of_last.result
    (λ none moved. moved_seen c.self.inside.before.items c.row_of_last.new.latest.items c.args.self.now c.row_of_last.new.self.items c.args.at c.args.item (before_seen c.self.inside.before.items c.args.self.now c.self.inside.all.items all.len c.self.view_is all.ok.0 (sym c.is_empty.ensures ∙ c.if-is_empty.true)) none moved)
    c.row_of_last.ensures.cleared c.row_of_last.ensures.moved

pub index_mut-requires : goal.index_mut-requires
index_mut-requires g c =
    let all = c.self.inside.all in
    gives_within c.args.self.now all.items all.len c.args.at (all_seen c.self.inside.before.items c.args.self.now c.self.inside.all.items all.len c.self.view_is c.self.invariant.0 all.ok.0 (sym c.is_empty.ensures ∙ c.if-is_empty.false)) all.ok.0 c.requires

pub index_mut-requires-in-None : goal.index_mut-requires-in-None
index_mut-requires-in-None g c =
    let all = c.self.inside.all in
    gives_within c.args.self.now all.items all.len c.args.at (all_seen c.self.inside.before.items c.args.self.now c.self.inside.all.items all.len c.self.view_is c.self.invariant.0 all.ok.0 (sym c.is_empty.ensures ∙ c.if-is_empty.false)) all.ok.0 c.requires

pub returns-in-Some-clause-row : goal.returns-in-Some-clause-row
returns-in-Some-clause-row g c =
    let all = c.self.inside.all in
    row_of_all (g.O.Ops.meaning c.args.ops.now).row_of c.args.self.now all.items c.args.at c.args.item c.replace-before.new.dest c.in-Some.row
    (all_seen c.self.inside.before.items c.args.self.now c.self.inside.all.items all.len c.self.view_is c.self.invariant.0 all.ok.0 (sym c.is_empty.ensures ∙ c.if-is_empty.false)) c.replace-before.ensures.after c.in-Some.ensures.row

pub returns-in-Some-clause-latest : goal.returns-in-Some-clause-latest
returns-in-Some-clause-latest g c =
    let all = c.self.inside.all in
    let some = sym c.is_empty.ensures ∙ c.if-is_empty.false in
    set_seen c.self.inside.before.items c.args.self.now c.self.inside.all.items c.args.at c.args.item c.replace-before.new.dest (none_before c.self.inside.before.items all.items all.len c.self.invariant.0 all.ok.0 some)
    (all_seen c.self.inside.before.items c.args.self.now c.self.inside.all.items all.len c.self.view_is c.self.invariant.0 all.ok.0 some) c.replace-before.ensures.after

pub returns-in-None-clause-item : goal.returns-in-None-clause-item
returns-in-None-clause-item g c =
    let all = c.self.inside.all in
    let within = gives_within c.args.self.now all.items all.len c.args.at (all_seen c.self.inside.before.items c.args.self.now c.self.inside.all.items all.len c.self.view_is c.self.invariant.0 all.ok.0 (sym c.is_empty.ensures ∙ c.if-is_empty.false)) all.ok.0 c.requires in
    c.replace.ensures.value
    ∙ read_set all.items (slice_set all.items c.args.at c.replace-before.new.dest) c.args.at c.replace-before.new.dest c.index_mut-in-None.result.now (rw all.ok.0 at within) refl c.index_mut-in-None.ensures.value
    ∙ c.replace-before.ensures.after

pub returns-in-None-clause-same : goal.returns-in-None-clause-same
returns-in-None-clause-same g c =
    let all = c.self.inside.all in
    let d = c.replace-before.new.dest in
    ap (seen c.self.inside.before.items) (set_back all.items (slice_set all.items c.args.at d) c.args.at d c.replace.new.dest c.index_mut.result.now refl c.index_mut.ensures.value (c.replace.ensures.after ∙ c.replace-before.ensures.value))
    ∙ c.self.view_is
