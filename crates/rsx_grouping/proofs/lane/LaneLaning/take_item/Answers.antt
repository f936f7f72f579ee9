use Rattle.std.proofs.Common.{◌≡◌, rules, refl, subst, sym}
use Rattle.rsx_grouping.proofs.Lanes.{lane_keeps, lane_takes, gone_kept, none_waits, after_goes_on}
use Rattle.rsx_plain.specs.declared.chain.ChainState.{End}
use Rattle.rsx_grouping.specs.Lane.{GoesOn}
use Rattle.rsx_grouping.specs.declared.lane.LaneState.TheVariants.{Running}
use Rattle.rsx_grouping.proofs.lane.LaneLaning.take_item.Goals as goal

pub put_out-requires : goal.put_out-requires
put_out-requires g c =
    let is : c.args.self.now.state ≡ Running c.in-Running.chain = search rules in
    none_waits c.args.self.now c.in-Running.chain is c.requires

pub returns-clause-ok : goal.returns-clause-ok
returns-clause-ok g c =
    let is : c.args.self.now.state ≡ Running c.in-Running.chain = search rules in
    lane_takes (g.O.Ops.meaning c.args.ops.now) c.args.self.now c.put_out.new.self c.in-Running.chain c.take_one.new.self c.args.item c.in-Ok.out
    (none_waits c.args.self.now c.in-Running.chain is c.requires) is c.in-Ok.ensures.ok c.put_out.ensures.waiting (c.put_out.ensures.state c.take_one.new.self refl)

pub returns-clause-gone : goal.returns-clause-gone
returns-clause-gone g c = gone_kept c.args.self.now c.put_out.new.self c.in-Running.chain c.take_one.new.self c.in-Ok.out.ending (search rules) (c.put_out.ensures.state c.take_one.new.self refl)

pub returns-clause-goes_on : goal.returns-clause-goes_on
returns-clause-goes_on g c = after_goes_on c.take_one.new.self c.in-Ok.out.ending c.put_out.new.self.state c.in-Ok.ensures.over (c.put_out.ensures.state c.take_one.new.self refl)

pub put-requires : goal.put-requires
put-requires g c = none_waits c.args.self.now End (c.is_bare.ensures c.if-is_bare.true) c.requires

pub returns-then-is_bare-clause-ok : goal.returns-then-is_bare-clause-ok
returns-then-is_bare-clause-ok g c =
    let is = c.is_bare.ensures c.if-is_bare.true in
    lane_keeps (g.O.Ops.meaning c.args.ops.now) c.args.self.now (record { state = c.args.self.now.state; waiting = c.put.new.self }) c.args.item (none_waits c.args.self.now End is c.requires) is c.put.ensures refl

pub returns-then-is_bare-clause-goes_on : goal.returns-then-is_bare-clause-goes_on
returns-then-is_bare-clause-goes_on g c = subst GoesOn (sym (c.is_bare.ensures c.if-is_bare.true)) refl
