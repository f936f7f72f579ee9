use Rattle.std.proofs.Common.{sym}
use Rattle.rsx_plain.proofs.Drained.{goes_on, takes_item, ends_at, stays_open, takes_ending}
use Rattle.rsx_plain.proofs.rest.VecCollected.take_all.Goals as goal

pub loop-item-preserved : goal.loop-item-preserved
loop-item-preserved g c = record {
  whole = rw c.in-Open.is at (takes_item (g.O.Ops.meaning c.args.ops.now) c.loop-item.state c.take_in.new.state c.item-item.result c.in_ok-copy.field-0 c.args.items.now c.loop-item.item-index c.args.ending c.in_ok-last.last c.loop-item.self.items c.take_in.new.self.items _ c.loop-item.invariant.whole c.item-item.is c.loop-item-test.true c.in_ok-copy.ensures.answer c.in_ok-last.ensures.moves);
  goes_on = goes_on c.take_in.new.state c.in_ok-last.last c.in_ok-last.ensures.over c.in-Open.is;
}

pub returns-in_default : goal.returns-in_default
returns-in_default g c = ends_at c.in_ok-last.last c.take_in.new.self.items _ _ c.in_default.not-Open (takes_item (g.O.Ops.meaning c.args.ops.now) c.loop-item.state c.take_in.new.state c.item-item.result c.in_ok-copy.field-0 c.args.items.now c.loop-item.item-index c.args.ending c.in_ok-last.last c.loop-item.self.items c.take_in.new.self.items _ c.loop-item.invariant.whole c.item-item.is c.loop-item-test.true c.in_ok-copy.ensures.answer c.in_ok-last.ensures.moves)

pub returns-in-None : goal.returns-in-None
returns-in-None g c = stays_open (g.O.Ops.meaning c.args.ops.now) c.loop-item.state c.args.items.now c.loop-item.item-index c.args.ending c.loop-item.self.items _ c.loop-item.invariant.whole c.loop-item.invariant.goes_on c.loop-item-test.false (sym c.in-None.ensures)

pub returns-in_ok-last-in-Some : goal.returns-in_ok-last-in-Some
returns-in_ok-last-in-Some g c = takes_ending (g.O.Ops.meaning c.args.ops.now) c.loop-item.state c.take_in-in-Some.new.state c.in-Some.signal c.args.items.now c.loop-item.item-index c.args.ending c.in_ok-last-in-Some.last c.loop-item.self.items c.take_in-in-Some.new.self.items _ c.loop-item.invariant.whole c.loop-item-test.false c.in-Some.ensures c.in_ok-last-in-Some.ensures.moves c.in_ok-last-in-Some.ensures.over
