use Rattle.std.proofs.Common.{rules}
use Rattle.rsx_link.specs.Ends.{free_slots}
use Rattle.rsx_live_parts.proofs.Sending.{demand_left, room_left}
use Rattle.rsx_live_parts.proofs.outgoing.+pour.Goals as goal

pub pour-requires : goal.pour-requires
pour-requires g t c κs within =
    let popped = c.in-Some.ensures.some in
    let sent = c.send.ensures in
    let was = c.args.queue.now in
    let left = c.pop.new.self in
    let up = c.args.up.now in
    let up' = c.send.new.up in
    (search rules, (search rules, (sent.same.0, (room_left was left c.in-Some.signal (free_slots up) (free_slots up') popped c.requires.room sent.room, demand_left was left c.in-Some.signal up up' popped c.requires.asked sent.same.1 sent.same.2 sent.sent))))
