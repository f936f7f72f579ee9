use Rattle.std.proofs.Common.{◌≡◌, ◌+◌, ◌≤◌, rules}
use Rattle.std.specs.Vec.{vec_len, vec_capacity}
use Rattle.rsx_rooted.proofs.OneByOne.{come, coming_first, coming_more, none_out}
use Rattle.rsx_kinds.specs.ZipRows.{IsRowOut}
use Rattle.rsx_kinds.proofs.zip_rows.ZipNodeRowsOut.rows_out.Goals as goal

pub loop-made-init : goal.loop-made-init
loop-made-init g c = (
  coming_first (IsRowOut (g.O.Ops.meaning c.args.ops.now)) c.args.self.now c.reserve.new.self.items (search rules),
  search rules,
  search rules,
)

pub loop-made-preserved : goal.loop-made-preserved
loop-made-preserved g c =
    let long : vec_len c.push_reserved.new.self ≡ c.loop-made.made + 1 = search rules in
    let room : c.args.most ≤ vec_capacity c.push_reserved.new.self = search rules in (
      coming_more (IsRowOut (g.O.Ops.meaning c.args.ops.now)) c.args.self.now c.loop-made.self c.step_item.new.self c.in-Some.item c.loop-made.items.items c.push_reserved.new.self.items c.loop-made.invariant.0 c.in-Some.ensures.out c.push_reserved.ensures.items,
      long,
      room,
    )

pub returns-clause-out : goal.returns-clause-out
returns-clause-out g c = come (IsRowOut (g.O.Ops.meaning c.args.ops.now)) c.args.self.now c.loop-made.self c.loop-made-test.self c.loop-made.items.items c.loop-made.invariant.0 (search rules)

pub returns-clause-no : goal.returns-clause-no
returns-clause-no g c = λ e. none_out (IsRowOut (g.O.Ops.meaning c.args.ops.now)) c.args.self.now c.loop-made.self c.loop-made-test.self c.loop-made.items.items c.loop-made.invariant.0 (search rules) (search rules)
