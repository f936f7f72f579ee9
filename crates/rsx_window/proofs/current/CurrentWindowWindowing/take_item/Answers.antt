use Rattle.std.proofs.Common.{rules, refl}
use Rattle.rsx_window.proofs.Runs.{item_taken, item_started, item_passed, goes_on_after, over_after}
use Rattle.rsx_window.proofs.current.CurrentWindowWindowing.take_item.Goals as goal

pub returns-in-Ok-clause-ok : goal.returns-in-Ok-clause-ok
returns-in-Ok-clause-ok g c =
    item_started (g.O.Ops.meaning c.args.ops.now) c.args.size c.args.stages.now c.args.self.now c.step.new.self c.saturating_sub-more.result c.args.item c.in-Ok.begun c.unless_done.result c.put_all.new.self.left
    (search rules) c.saturating_sub-more.ensures c.in-Ok.ensures.ok c.in-Ok.ensures.last c.unless_done.ensures c.put_all.ensures.left (c.step.ensures c.in-Ok.begun.chain c.saturating_sub-more.result c.set.ensures)

pub returns-in-Ok-clause-over : goal.returns-in-Ok-clause-over
returns-in-Ok-clause-over g c =
    over_after c.in-Ok.begun.items.items c.in-Ok.begun.out.item c.in-Ok.begun.chain c.saturating_sub-more.result c.in-Ok.begun.out.ending c.unless_done.result c.put_all.new.self.left c.step.new.self
    c.unless_done.ensures c.put_all.ensures.left (c.step.ensures c.in-Ok.begun.chain c.saturating_sub-more.result c.set.ensures)

pub returns-in-Ok-clause-goes_on : goal.returns-in-Ok-clause-goes_on
returns-in-Ok-clause-goes_on g c =
    goes_on_after c.in-Ok.begun.chain c.saturating_sub-more.result c.in-Ok.begun.out.ending c.step.new.self c.in-Ok.ensures.over (c.step.ensures c.in-Ok.begun.chain c.saturating_sub-more.result c.set.ensures)

pub returns-in-Ok-take_item-clause-goes_on : goal.returns-in-Ok-take_item-clause-goes_on
returns-in-Ok-take_item-clause-goes_on g c =
    goes_on_after c.take_item.new.self c.in-Running.more c.in-Ok-take_item.out.ending c.step-in-Running.new.self c.in-Ok-take_item.ensures.over (c.step-in-Running.ensures c.take_item.new.self c.in-Running.more refl)

pub returns-in-Passing-clause-ok : goal.returns-in-Passing-clause-ok
returns-in-Passing-clause-ok g c =
    item_passed (g.O.Ops.meaning c.args.ops.now) c.args.size c.args.stages.now c.args.self.now _ c.in-Passing.left c.args.item c.args.pending.now.left
    (search rules) c.in-Passing.left-test.1 c.requires.nothing refl

pub returns-in-Ok-take_item-clause-ok : goal.returns-in-Ok-take_item-clause-ok
returns-in-Ok-take_item-clause-ok g c =
    item_taken (g.O.Ops.meaning c.args.ops.now) c.args.size c.args.stages.now c.args.self.now c.step-in-Running.new.self c.in-Running.chain c.take_item.new.self c.in-Running.more c.args.item c.in-Ok-take_item.out c.new.result.items c.unless_done-in-Running.result c.put_all-in-Running.new.self.left
    (search rules) c.in-Ok-take_item.ensures.ok c.in-Ok-take_item.ensures.last c.new.ensures.items c.unless_done-in-Running.ensures c.put_all-in-Running.ensures.left (c.step-in-Running.ensures c.take_item.new.self c.in-Running.more refl)

pub returns-in-Ok-take_item-clause-over : goal.returns-in-Ok-take_item-clause-over
returns-in-Ok-take_item-clause-over g c =
    over_after c.new.result.items c.in-Ok-take_item.out.item c.take_item.new.self c.in-Running.more c.in-Ok-take_item.out.ending c.unless_done-in-Running.result c.put_all-in-Running.new.self.left c.step-in-Running.new.self
    c.unless_done-in-Running.ensures c.put_all-in-Running.ensures.left (c.step-in-Running.ensures c.take_item.new.self c.in-Running.more refl)
