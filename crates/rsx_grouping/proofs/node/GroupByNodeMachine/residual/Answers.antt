use Rattle.std.proofs.Common.{◌≡◌, [], Some, sym, ap, ◌∙◌}
use Rattle.std.proofs.lemmas.Result.{IfOk-weaker}
use Rattle.rsx_sources.specs.Prelude.{Done, ended_by, head_of}
use Rattle.rsx_values.specs.Merge.{merge_inputs}
use Rattle.rsx_queued.specs.Output.{output_then}
use Rattle.rsx_grouping.specs.GroupBy.{inputs_left}
use Rattle.rsx_grouping.proofs.Copied.{rest_out}
use Rattle.rsx_grouping.proofs.node.GroupByNodeMachine.residual.Goals as goal

pub returns : goal.returns
returns g c =
    let n = c.args.self.now in
    let m = g.O.Ops.meaning c.args.ops.now in
    let rest : merge_inputs [] (inputs_left m n.function n.stages.items n.table n.main (head_of c.args.incoming.now)) ≡ Some c.in-Some.rest = ap (merge_inputs []) (sym c.in_ok-left.ensures) ∙ sym c.in_ok-rest.ensures ∙ c.in-Some.is in
    IfOk-weaker c.in_front.result (λ v. output_then n.output (Some c.in-Some.rest) (Some (ended_by Done)) ≡ Some v) _
    (λ v gives. rest_out m n _ c.args.incoming.now c.in-Some.rest v rest gives) c.in_front.ensures
