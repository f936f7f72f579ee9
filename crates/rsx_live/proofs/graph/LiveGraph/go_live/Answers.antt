use Rattle.std.proofs.Common.{◌∙◌, arith, refl, sym}
use Rattle.rsx_kinds.specs.Any.{any_machine}
use Rattle.rsx_live.specs.Graphs.{any_crossing}
use Rattle.rsx_live_parts.proofs.Closings.{come_of}
use Rattle.rsx_live.proofs.Graphs.{cut_live, given_back, gone_live, none_back, pieces_together}
use Rattle.rsx_live.proofs.Starts.{started_of}
use Rattle.rsx_live.proofs.graph.LiveGraph.go_live.Goals as goal

pub together-requires-clause-few : goal.together-requires-clause-few
together-requires-clause-few g c κs within =
    let count = (come_of any_machine any_crossing g.O.Ops.meaning c.take_apart-pieces.result.ops c.in-Err-NoMemory.ops c.take_apart-pieces.result.subs.items c.in-Err-NoMemory.subs c.in-Err-NoMemory.field-0 c.in-Err-NoMemory.field-0-is c.in-Err-NoMemory.ensures.err).1 in
    let few = c.take_apart-pieces.result.few in
    omega (arith, count, few)

pub together-requires-clause-joined : goal.together-requires-clause-joined
together-requires-clause-joined g c κs within = c.take_apart-pieces.result.joined ∙ sym (come_of any_machine any_crossing g.O.Ops.meaning c.take_apart-pieces.result.ops c.in-Err-NoMemory.ops c.take_apart-pieces.result.subs.items c.in-Err-NoMemory.subs c.in-Err-NoMemory.field-0 c.in-Err-NoMemory.field-0-is c.in-Err-NoMemory.ensures.err).1

pub together-requires-clause-rooted : goal.together-requires-clause-rooted
together-requires-clause-rooted g c κs within = c.take_apart-pieces.result.rooted ∙ sym (come_of any_machine any_crossing g.O.Ops.meaning c.take_apart-pieces.result.ops c.in-Err-NoMemory.ops c.take_apart-pieces.result.subs.items c.in-Err-NoMemory.subs c.in-Err-NoMemory.field-0 c.in-Err-NoMemory.field-0-is c.in-Err-NoMemory.ensures.err).1

pub returns-in-Err-NoMemory-clause-err : goal.returns-in-Err-NoMemory-clause-err
returns-in-Err-NoMemory-clause-err g c =
    let p = c.take_apart-pieces.result in
    let are = c.take_apart-pieces.ensures.pieces in
    given_back c.args.graph c.together.result p _ c.in-Err-NoMemory.ops c.in-Err-NoMemory.subs.items c.args.workers are (pieces_together c.args.graph p _ are refl refl refl refl refl) (c.has_regions.ensures.yes c.if-not-has_regions.false) (come_of any_machine any_crossing g.O.Ops.meaning c.take_apart-pieces.result.ops c.in-Err-NoMemory.ops c.take_apart-pieces.result.subs.items c.in-Err-NoMemory.subs c.in-Err-NoMemory.field-0 c.in-Err-NoMemory.field-0-is c.in-Err-NoMemory.ensures.err) c.together.ensures

pub returns-in-Ok-clause-started : goal.returns-in-Ok-clause-started
returns-in-Ok-clause-started g c =
    let gates = c.in-Ok.ensures.gates in
    let regions = c.has_regions.ensures.yes c.if-not-has_regions.false in
    let p = c.take_apart-pieces.result in
    let together = pieces_together c.args.graph p _ c.take_apart-pieces.ensures.pieces refl refl refl refl refl in
    started_of c.args.graph _ c.args.workers (gone_live c.args.graph p _ together gates.1 c.in-Ok.ensures.live) c.in-Ok.ensures.taps c.in-Ok.ensures.seats gates.0 regions.most

pub returns-in-Err-NotJoined-clause-err : goal.returns-in-Err-NotJoined-clause-err
returns-in-Err-NotJoined-clause-err g c = none_back c.args.graph c.take_apart-pieces.result c.args.workers c.in-Err-NotJoined.field-0 c.take_apart-pieces.ensures.pieces (c.has_regions.ensures.yes c.if-not-has_regions.false) c.in-Err-NotJoined.field-0-is c.in-Err-NotJoined.ensures.err

pub returns-in-Ok-clause-cut : goal.returns-in-Ok-clause-cut
returns-in-Ok-clause-cut g c = cut_live c.args.graph c.take_apart-pieces.result _ _ c.take_apart-pieces.ensures.pieces c.in-Ok.ensures.cut
