use Rattle.std.proofs.Common.{refl, ◌≡◌, ◌+◌, ◌≤◌, rules, ◌∙◌}
use Rattle.std.specs.Vec.{vec_len, vec_capacity}
use Rattle.rsx_rooted.specs.Items.{IsOut}
use Rattle.rsx_rooted.proofs.HubLeaves.{leaf_machine}
use Rattle.rsx_rooted.proofs.OneByOne.{come, coming_more}
use Rattle.rsx_rooted.proofs.hub_leaf.HubLeafBatches.take_out.Goals as goal
use Rattle.rsx_rooted.proofs.hub_leaf.HubLeafBatches.take_out.Goals.{else-loop-gone-test, then-loop-gone-test+in-None}

pub loop-gone-preserved : goal.loop-gone-preserved
loop-gone-preserved g c =
    let long : vec_len c.push_reserved.new.self ≡ c.loop-gone.gone + 1 = search rules in
    let room : c.min-fewer.result ≤ vec_capacity c.push_reserved.new.self = search rules in (
      coming_more (IsOut leaf_machine (g.O.Ops.meaning c.args.ops.now)) c.args.self.now c.loop-gone.self c.pop_item.new.self c.in-Some.item c.loop-gone.out.items c.push_reserved.new.self.items c.loop-gone.invariant.0 (c.in-Some.ensures.some, c.in-Some.ensures.alike, refl) c.push_reserved.ensures.items,
      long,
      room,
    )

pub returns-clause-yes : goal.returns-clause-yes
returns-clause-yes g c = λ e.
    let Out = IsOut leaf_machine (g.O.Ops.meaning c.args.ops.now) in
    elim c.loop-gone-test.branch [
      | else-loop-gone-test k ↦ come Out c.args.self.now c.loop-gone.self _ c.loop-gone.out.items c.loop-gone.invariant.0 k.self-is
      | then-loop-gone-test+in-None k ↦ come Out c.args.self.now c.loop-gone.self _ c.loop-gone.out.items c.loop-gone.invariant.0 (k.self-is ∙ k.in-None.ensures.none)
    ]
