use Rattle.std.proofs.Common.{◌<◌, map, length, arith, sym}
use Rattle.std.proofs.lemmas.List.{length-map}
use Rattle.rsx_session.specs.Kept.{known}
use Rattle.rsx_session.proofs.Calls.{known_set, none_there}
use Rattle.rsx_session.proofs.session.take_in.Goals as goal

pub returns-then-at-len-clause-taken : goal.returns-then-at-len-clause-taken
returns-then-at-len-clause-taken c =
    let l = c.len.ensures in
    let n = length-map c.args.records.now.items known in
    sym (none_there c.args.signal (map known c.args.records.now.items) c.args.sub.0 (omega (arith, l, c.if-at-len.true, n)))

pub returns-in-Ok-clause-taken : goal.returns-in-Ok-clause-taken
returns-in-Ok-clause-taken c =
    let l = c.len.ensures in
    let within : c.args.sub.0 < length c.args.records.now.items = omega (arith, l, c.if-at-len.false) in
    known_set c.args.signal c.args.records.now.items c.args.sub.0 c.index_mut-record.result.now c.take.new.self within (sym c.index_mut-record.ensures.value) c.in-Ok.ensures
