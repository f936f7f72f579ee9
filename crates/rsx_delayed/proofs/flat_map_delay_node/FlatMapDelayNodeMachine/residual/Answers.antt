use Rattle.std.proofs.Common.{◌≡◌, [], Some}
use Rattle.std.proofs.lemmas.Result.{IfOk-weaker}
use Rattle.rsx_sources.specs.Prelude.{Done, ended_by, head_of}
use Rattle.rsx_queued.specs.Output.{output_then}
use Rattle.rsx_merging.specs.FlatMap.{left_of}
use Rattle.rsx_delayed.proofs.FlatPicked.{rest_is, rest_out}
use Rattle.rsx_values.specs.Delayed.{merge_delayed_inputs}
use Rattle.rsx_delayed.proofs.flat_map_delay_node.FlatMapDelayNodeMachine.residual.Goals as goal

pub returns : goal.returns
returns g c =
    let n = c.args.self.now in
    let m = g.O.Ops.meaning c.args.ops.now in
    let rest : merge_delayed_inputs n.kept [] (left_of m n.flat (head_of c.args.incoming.now)) ≡ Some c.in-Some.rest = rest_is n.kept (left_of m n.flat (head_of c.args.incoming.now)) c.in_ok-lanes.lanes _ c.in-Some.rest c.in_ok-lanes.ensures c.in_ok-rest.ensures c.in-Some.is in
    IfOk-weaker c.in_front.result (λ v. output_then n.flat.output (Some c.in-Some.rest) (Some (ended_by Done)) ≡ Some v) _
    (λ v gives. rest_out m n _ c.args.incoming.now c.in-Some.rest v rest gives) c.in_front.ensures
