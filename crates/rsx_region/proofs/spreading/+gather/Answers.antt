use Rattle.std.proofs.Common.{rules, length, ap, arith}
use Rattle.rsx_region.specs.Spread.{rows_of}
use Rattle.rsx_region.proofs.Rows.{gathered_first, gathered_rest}
use Rattle.rsx_region.proofs.Stages.{one_longer}
use Rattle.rsx_region.proofs.spreading.+gather.Goals as goal

pub gather-requires : goal.gather-requires
gather-requires g t c κs within =
    let h = c.requires.spread in
    let took = c.in-Some-take_from.ensures.some in
    let r = gathered_first h.0 c.args.places.now c.in-Some.others.now c.in-Some.place.now h.1 (rows_of c.args.regions.now) (rows_of c.take_from.new.regions) took.0 c.in-Some-take_from.piece c.in-Some.ensures.cases.0 h.2 took.1 took.2 in
    let size = ap length c.push_reserved.ensures.items in
    let one = one_longer c.args.pieces.now.items c.in-Some-take_from.piece in
    let more = ap length c.in-Some.ensures.cases.0 in
    let room = c.requires.room in
    let capacity = c.push_reserved.ensures.capacity in
    (search rules, (search rules, (search rules, ((h.0, r.0, r.2), omega (arith, size, one, more, room, capacity)))))

pub returns-clause-gathered : goal.returns-clause-gathered
returns-clause-gathered g t c = λ base xs h.
    let took = c.in-Some-take_from.ensures.some in
    let r = gathered_first base c.args.places.now c.in-Some.others.now c.in-Some.place.now xs (rows_of c.args.regions.now) (rows_of c.take_from.new.regions) took.0 c.in-Some-take_from.piece c.in-Some.ensures.cases.0 h took.1 took.2 in
    let all = c.gather.ensures.gathered base r.0 r.2 in
    (gathered_rest c.args.pieces.now.items c.push_reserved.new.self.items c.gather.new.pieces.items xs r.0 c.in-Some-take_from.piece r.1 c.push_reserved.ensures.items all.0, all.1)
