use Rattle.std.proofs.Common.{◌≡◌, rules}
use Rattle.std.proofs.Math.ListN.{replicate}
use Rattle.rsx_queued.specs.Input.{fresh_input}
use Rattle.rsx_combining.specs.Latest.{LatestState}
use Rattle.rsx_combining.proofs.Fresh.{fresh_latest, counted_first}
use Rattle.rsx_combining.proofs.latest.CombineLatestNode.new.Goals as goal

pub returns-clause-fresh : goal.returns-clause-fresh
returns-clause-fresh g c =
    let s : LatestState g.row.T.Denot = record { inputs = c.loop.queues.items; latest = c.in_ok-latest.latest; output = c.first_output.result; choices = c.new-3.result } in
    let qs : c.loop.queues.items ≡ replicate c.args.inputs (fresh_input c.args.capacity) = search rules in
    fresh_latest s c.args.inputs c.args.capacity qs c.in_ok-latest.ensures c.first_output.ensures

pub returns-clause-counted : goal.returns-clause-counted
returns-clause-counted g c some =
    let s : LatestState g.row.T.Denot = record { inputs = c.loop.queues.items; latest = c.in_ok-latest.latest; output = c.first_output.result; choices = c.new-3.result } in
    let qs : c.loop.queues.items ≡ replicate c.args.inputs (fresh_input c.args.capacity) = search rules in
    counted_first s c.args.inputs c.args.capacity qs c.first_output.ensures c.requires.positive c.ranges.inputs.fits some
