use Rattle.std.proofs.Common.{◌≡◌, true, false, ◌<◌, arith, rules}
use Rattle.std.specs.Option.{is_some}
use Rattle.rsx_sources.specs.Prelude.{is_nil}
use Rattle.rsx_queued.specs.Held.{is_open}
use Rattle.rsx_queued.specs.Queued.{node_sent}
use Rattle.rsx_queued.proofs.Going.{could, gone, plain_item, unnoted}
use Rattle.rsx_queued.proofs.queued.QueuedMachine.step_item.Goals as goal

pub returns-in-Some-clause-out : goal.returns-in-Some-clause-out
returns-in-Some-clause-out g c =
    let m = g.O.Ops.meaning c.args.ops.now in
    let shows = g.met.M.Machine.shows m in
    let old = c.args.self.now in
    let none : true ≡ is_nil old.queue = search rules in
    let opened : true ≡ is_open old.tail = search rules in
    let less : node_sent old.queue c.args.asked c.args.sent < c.args.asked = omega arith in
    let unrecorded : false ≡ is_some (g.M.Machine.popping old.node) = search rules in
    let out = plain_item g.M.Machine m old.node c.pop_item.new.self c.in-Some.item unrecorded c.in-Some.ensures.some in
    gone g.M.Machine m shows old c.pop_item.new.self c.args.asked c.args.sent c.in-Some.item none (could g.M.Machine m shows old c.args.asked c.args.sent c.in-Some.item none opened less out.waited) (unnoted g.M.Machine old.node unrecorded) out
