use Rattle.std.proofs.Common.{rules, length}
use Rattle.std.specs.Vec.Iter.{into_iter_items, into_iter_len}
use Rattle.rsx_region.proofs.Stages.{none_counted}
use Rattle.rsx_live_parts.proofs.Sending.{len_left, more_parted, none_parted, room_for_more, room_left_over, took_first}
use Rattle.rsx_live_parts.proofs.Staying.{stay_more, stay_same}
use Rattle.rsx_live_parts.proofs.kept.Parted.+add_each.Goals as goal

pub returns-in_default-clause-parted : goal.returns-in_default-clause-parted
returns-in_default-clause-parted g t c = none_parted g.N.Machine (into_iter_items c.args.subs.now) c.args.self.now (none_counted (into_iter_items c.args.subs.now) (into_iter_len c.args.subs.now) c.requires.len c.in_default.ensures.cases.0)

pub add-requires : goal.add-requires
add-requires g t c = room_left_over (into_iter_items c.args.subs.now) (into_iter_items c.next.new.self) c.in-Some.sub c.args.self.now (took_first _ _ c.next.result c.in-Some.sub c.next.ensures.items c.in-Some.is) c.requires.room

pub add_each-requires : goal.add_each-requires
add_each-requires g t c κs within =
    let subs = into_iter_items c.args.subs.now in
    let rest = into_iter_items c.next.new.self in
    let first = took_first subs rest c.next.result c.in-Some.sub c.next.ensures.items c.in-Some.is in
    (search rules, (search rules, (search rules, (c.add.ensures.room (length rest) (room_for_more subs rest c.in-Some.sub c.args.self.now first c.requires.room), len_left subs rest c.in-Some.sub _ _ first c.requires.len c.in-Some.ensures.cases.1))))

pub returns-in_default-clause-stay : goal.returns-in_default-clause-stay
returns-in_default-clause-stay g t c = stay_same g.N.Machine c.args.self.now

pub returns-clause-stay : goal.returns-clause-stay
returns-clause-stay g t c = stay_more g.N.Machine c.args.self.now c.add.new.self c.add_each.new.self c.add.ensures.stay c.add_each.ensures.stay

pub returns-clause-parted : goal.returns-clause-parted
returns-clause-parted g t c =
    let subs = into_iter_items c.args.subs.now in
    let rest = into_iter_items c.next.new.self in
    more_parted g.N.Machine subs c.in-Some.sub rest c.args.self.now c.add.new.self c.add_each.new.self (took_first subs rest c.next.result c.in-Some.sub c.next.ensures.items c.in-Some.is) c.add.ensures.parted c.add_each.ensures.parted
