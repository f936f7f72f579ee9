use Rattle.std.proofs.Common.{◌≡◌, length, arith, rules, sym, ◌∙◌}
use Rattle.rsx_combining.proofs.RowsThrough.{rows_long}
use Rattle.rsx_kinds.proofs.Batched.{passed_concat_all, picked_latest_all, picked_merge_all}
use Rattle.rsx_kinds.proofs.batches.SeveralNodeBatches.try_pass.Goals as goal

pub returns-else-not-can_take-clause-passed : goal.returns-else-not-can_take-clause-passed
returns-else-not-can_take-clause-passed g c = λ new w.
    passed_concat_all (g.O.Ops.meaning c.args.ops.now) c.args.input c.args.self.now new c.in-Concat.node _ c.args.items.now.items (search rules) (search rules) (search rules) w

pub returns-else-not-merges_through-clause-passed : goal.returns-else-not-merges_through-clause-passed
returns-else-not-merges_through-clause-passed g c = λ new w.
    picked_merge_all (g.O.Ops.meaning c.args.ops.now) c.args.input c.args.self.now new c.in-Merge.node _ _ _ c.args.items.now.items (search rules) (sym c.merges_through.ensures ∙ c.if-not-merges_through.false) (search rules) w

pub returns-in-Some-clause-steps : goal.returns-in-Some-clause-steps
returns-in-Some-clause-steps g c =
    let m = g.O.Ops.meaning c.args.ops.now in
    let node = c.in-Latest.node in
    let xs = c.args.items.now.items in
    let ys = c.try_rows.new.items.items in
    let long : length ys ≡ length xs = rows_long m.row_of node.latest c.args.input xs ys c.in-Some.ensures.rows in
    let all : c.len-count-in-Latest.result ≡ length xs = search rules in
    all ∙ sym long

pub returns-in-Some-clause-most : goal.returns-in-Some-clause-most
returns-in-Some-clause-most g c =
    let m = g.O.Ops.meaning c.args.ops.now in
    let node = c.in-Latest.node in
    let xs = c.args.items.now.items in
    let ys = c.try_rows.new.items.items in
    let long : length ys ≡ length xs = rows_long m.row_of node.latest c.args.input xs ys c.in-Some.ensures.rows in
    omega (arith, long)

pub returns-in-Some-clause-passed : goal.returns-in-Some-clause-passed
returns-in-Some-clause-passed g c = λ new w.
    let made = c.in-Some.ensures in
    picked_latest_all (g.O.Ops.meaning c.args.ops.now) c.args.input c.args.self.now new c.in-Latest.node _ _ _ c.in-Some.last c.args.items.now.items c.try_rows.new.items.items (search rules) made.through (search rules) made.rows made.last w
