use Rattle.std.proofs.Common.{refl, ◌≡◌, ◌+◌, ◌≤◌, rules, sym, ◌∙◌, arith}
use Rattle.std.specs.Vec.{vec_len, vec_capacity}
use Rattle.rsx_rooted.specs.Items.{IsOut}
use Rattle.rsx_rooted.specs.Machines.{range_machine}
use Rattle.rsx_rooted.proofs.OneByOne.{come, coming_more}
use Rattle.rsx_rooted.proofs.Ranges.{as_many_on, same_range}
use Rattle.rsx_rooted.proofs.range.RangeNodeBatches.peek.Goals as goal

pub loop-made-preserved : goal.loop-made-preserved
loop-made-preserved g c =
    let long : vec_len c.push_reserved.new.self ≡ c.loop-made.made + 1 = search rules in
    let room : c.args.most ≤ vec_capacity c.push_reserved.new.self = search rules in
    let popped = c.in-Some.ensures.some.popped_out in
    let on : c.pop_item.new.self.at ≡ c.args.self.now.at + (c.loop-made.made + 1) = omega (arith, popped.2, c.loop-made.invariant.5) in (
      coming_more (IsOut range_machine (g.O.Ops.meaning c.args.ops.now)) c.args.self.now c.loop-made.node c.pop_item.new.self c.in-Some.item c.loop-made.items.items c.push_reserved.new.self.items c.loop-made.invariant.0 (c.in-Some.ensures.some, c.in-Some.ensures.alike, refl) c.push_reserved.ensures.items,
      long,
      room,
      popped.0 ∙ c.loop-made.invariant.3,
      popped.1 ∙ c.loop-made.invariant.4,
      on,
    )

pub returns-clause-popped : goal.returns-clause-popped
returns-clause-popped g c = λ new w.
    let node = c.loop-made.node in
    let made : c.len.result ≡ c.loop-made.made = search rules in
    let at = as_many_on c.args.self.now.at c.len.result c.loop-made.made c.args.self.now.count node.at node.count made c.loop-made.invariant.5 c.loop-made.invariant.4 node.within in
    come (IsOut range_machine (g.O.Ops.meaning c.args.ops.now)) c.args.self.now node new c.loop-made.items.items c.loop-made.invariant.0
    (same_range node new (w.0 ∙ sym c.loop-made.invariant.3) (w.1 ∙ sym c.loop-made.invariant.4) (w.2 ∙ at))
