use Rattle.std.proofs.Common.{◌≡◌, Some, length, sym, ap, ◌∙◌, rules}
use Rattle.std.proofs.lemmas.Result.{IfOk-weaker}
use Rattle.rsx_sources.specs.Prelude.{Done, ended_by}
use Rattle.rsx_queued.specs.Prelude.{output_then}
use Rattle.rsx_values.specs.Record.{written}
use Rattle.rsx_delayed.proofs.Rests.{rest_out}
use Rattle.rsx_delayed.specs.Rest.{all_values, values_left}
use Rattle.rsx_delayed.proofs.merge_delay_node.MergeDelayNodeMachine.residual.Goals as goal

pub returns : goal.returns
returns g c =
    let n = c.args.self.now in
    let left : c.push_values.new.self.items ≡ values_left n.inputs.items c.args.incoming.now = search rules in
    let rest : c.in_ok-rest.rest ≡ all_values (length (values_left n.inputs.items c.args.incoming.now)) n.kept (values_left n.inputs.items c.args.incoming.now) =
    c.in_ok-rest.ensures ∙ ap (λ vs. all_values (length vs) n.kept vs) left in
    IfOk-weaker c.in_front.result (λ v. output_then n.output (Some c.in_ok-rest.rest) (Some (ended_by Done)) ≡ Some v) _
    (λ v gives. rest_out n.output n.kept n.inputs.items (written n.choices) c.args.incoming.now v (ap (λ w. output_then n.output (Some w) (Some (ended_by Done))) (sym rest) ∙ gives)) c.in_front.ensures
