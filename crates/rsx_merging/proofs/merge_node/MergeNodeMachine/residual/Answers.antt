use Rattle.std.proofs.Common.{◌≡◌, ◌++◌, [], Some, sym, ap, ◌∙◌, rules}
use Rattle.std.proofs.lemmas.Result.{IfOk-weaker}
use Rattle.rsx_sources.specs.Prelude.{Done, ended_by}
use Rattle.rsx_queued.specs.Prelude.{inputs_left, output_then}
use Rattle.rsx_values.specs.Merge.{merge_inputs}
use Rattle.rsx_merging.proofs.Rest.{rest_out}
use Rattle.rsx_merging.proofs.merge_node.MergeNodeMachine.residual.Goals as goal

pub returns : goal.returns
returns g c =
    let n = c.args.self.now in
    let left : c.push_inputs.new.self.items ≡ inputs_left 0 n.inputs.items c.args.incoming.now =
    c.in_ok-push_inputs.ensures ∙ ap (λ l. l ++ inputs_left 0 c.as_slice.result.now c.args.incoming.now) c.new-left.ensures.items ∙ ap (λ l. inputs_left 0 l c.args.incoming.now) c.as_slice.ensures.value in
    let rest : merge_inputs [] (inputs_left 0 n.inputs.items c.args.incoming.now) ≡ Some c.in-Some.rest = ap (merge_inputs []) (sym left) ∙ sym c.in_ok-rest.ensures ∙ c.in-Some.is in
    IfOk-weaker c.in_front.result (λ v. output_then n.output (Some c.in-Some.rest) (Some (ended_by Done)) ≡ Some v) _
    (λ v gives. rest_out n.output n.inputs.items _ c.args.incoming.now c.in-Some.rest v rest gives) c.in_front.ensures

pub push_inputs-requires : goal.push_inputs-requires
push_inputs-requires g c = search rules

pub returns-in_err-push_inputs : goal.returns-in_err-push_inputs
returns-in_err-push_inputs g c = search rules

pub returns-in_err-rest : goal.returns-in_err-rest
returns-in_err-rest g c = search rules

pub unreachable-requires : goal.unreachable-requires
unreachable-requires g c = search rules

pub unreachable-unreachable : goal.unreachable-unreachable
unreachable-unreachable g c = search rules
