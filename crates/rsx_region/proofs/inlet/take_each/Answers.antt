use Rattle.std.proofs.Common.{arith}
use Rattle.rsx_region.proofs.Takings.{turn_more}
use Rattle.rsx_region.proofs.inlet.take_each.Goals as goal

pub loop-count-preserved : goal.loop-count-preserved
loop-count-preserved g c =
    let i = c.loop-count.invariant in
    let taken = c.in-Some.ensures in
    let room = i.room in
    let len = c.push_reserved.ensures.len in
    let capacity = c.push_reserved.ensures.capacity in
    let more = c.loop-count-test.true in record {
      end = taken.same.0;
      taken = turn_more c.loop-count.count c.args.down.now c.loop-count.down c.take_seen.new.self c.in-Some.item c.args.items.now.items c.loop-count.items.items c.push_reserved.new.self.items i.taken taken.some taken.same.1 taken.same.2 c.push_reserved.ensures.items;
      room = omega (arith, room, len, capacity, more);
    }
