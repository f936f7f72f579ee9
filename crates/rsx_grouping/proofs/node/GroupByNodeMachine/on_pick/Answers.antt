use Rattle.std.proofs.Common.{◌≡◌, true, rules, ap, sym, ◌∙◌}
use Rattle.rsx_types.specs.Notes.{note_then}
use Rattle.rsx_grouping.specs.GroupBy.{group_picks, group_comes_out, group_recording}
use Rattle.rsx_grouping.proofs.Chosen.{lane_out, lane_counts, lane_within}
use Rattle.rsx_grouping.proofs.node.GroupByNodeMachine.on_pick.Goals as goal

pub returns-in-Ok-clause-ok : goal.returns-in-Ok-clause-ok
returns-in-Ok-clause-ok g c = λ inc further.
    c.in-Ok.ensures.ok (g.O.Ops.meaning c.args.ops.now) inc further
    ∙ ap (λ i. group_comes_out (g.O.Ops.meaning c.args.ops.now) c.args.self.now inc (note_then (group_recording c.args.self.now i) further)) (sym c.if-input-eq-MAIN.true)

pub prepare-requires-clause-within : goal.prepare-requires-clause-within
prepare-requires-clause-within g c =
    let picks : group_picks c.args.self.now c.args.input c.args.asked c.args.sent ≡ true = search rules in
    lane_within c.args.self.now c.args.input c.args.asked c.args.sent picks c.if-input-eq-MAIN.false

pub commit-requires : goal.commit-requires
commit-requires g c =
    let picks : group_picks c.args.self.now c.args.input c.args.asked c.args.sent ≡ true = search rules in
    lane_within c.args.self.now c.args.input c.args.asked c.args.sent picks c.if-input-eq-MAIN.false

pub returns-clause-ok : goal.returns-clause-ok
returns-clause-ok g c =
    let picks : group_picks c.args.self.now c.args.input c.args.asked c.args.sent ≡ true = search rules in
    lane_out (g.O.Ops.meaning c.args.ops.now) c.args.self.now c.put_out.new.self c.args.input c.args.asked c.args.sent c.in-Ok-prepare.pick c.push.new.self c.commit.new.self picks c.if-input-eq-MAIN.false c.in-Ok-prepare.ensures.ok c.commit.ensures c.put_out.ensures

pub returns-clause-counts : goal.returns-clause-counts
returns-clause-counts g c =
    let picks : group_picks c.args.self.now c.args.input c.args.asked c.args.sent ≡ true = search rules in
    lane_counts (g.O.Ops.meaning c.args.ops.now) c.args.self.now c.put_out.new.self c.args.input c.args.asked c.args.sent c.in-Ok-prepare.pick c.push.new.self c.commit.new.self picks c.if-input-eq-MAIN.false c.in-Ok-prepare.ensures.ok c.in-Ok-prepare.ensures.goes_on c.commit.ensures c.put_out.ensures
