use Rattle.std.proofs.Common.{◌≡◌, ◌++◌, [], length, Some, None, sym, ap, ◌∙◌, rules}
use Rattle.std.proofs.lemmas.Result.{IfOk-weaker}
use Rattle.rsx_sources.specs.Prelude.{Done, ended_by}
use Rattle.rsx_queued.specs.Prelude.{output_then, inputs_left}
use Rattle.rsx_values.specs.Prelude.{combine_until_stop, rest_of, walk}
use Rattle.rsx_values.proofs.UntilStop.{combine_unchosen}
use Rattle.rsx_combining.specs.Latest.{LatestState}
use Rattle.rsx_combining.proofs.Comes.{residual_of}
use Rattle.rsx_combining.proofs.latest.CombineLatestNodeMachine.residual.Goals as goal

pub returns : goal.returns
returns g c =
    let m = g.O.Ops.meaning c.args.ops.now in
    let start : LatestState g.row.T.Denot = record { inputs = c.self.inside.inputs.items; latest = c.self.inside.latest; output = c.self.inside.output; choices = c.self.inside.choices } in
    let inputs : c.push_inputs.new.self.items ≡ inputs_left 0 c.self.inside.inputs.items c.args.incoming.now =
    c.in_ok-push_inputs.ensures ∙ ap (λ l. l ++ inputs_left 0 c.as_slice.result.now c.args.incoming.now) c.new-inputs.ensures.items ∙ ap (λ l. inputs_left 0 l c.args.incoming.now) c.as_slice.ensures.value in
    let latest : c.in_ok-latest.latest.items ≡ c.self.inside.latest = c.in_ok-latest.ensures in
    let rest = c.in_ok-rest.ensures ∙ combine_unchosen m.row_of c.in_ok-latest.latest.items c.push_inputs.new.self.items ∙ ap (λ l. combine_until_stop m.row_of l [] c.push_inputs.new.self.items) latest ∙ ap (combine_until_stop m.row_of c.self.inside.latest []) inputs in
    IfOk-weaker c.in_front.result (λ v. output_then c.self.inside.output (Some c.in-Some.rest) (Some (ended_by Done)) ≡ Some v) _
    (λ v gives. residual_of m start c.args.self.now c.args.inboxes.now c.args.incoming.now c.in_ok-rest.field-0 c.in-Some.rest v c.self.view_is rest c.in-Some.is gives) c.in_front.ensures

pub unreachable-requires : goal.unreachable-requires
unreachable-requires g c =
    let m = g.O.Ops.meaning c.args.ops.now in
    let is = c.push_inputs.new.self.items in
    let clash : None ≡ Some (walk m.row_of c.in_ok-latest.latest.items (length is) (rest_of is)) = sym c.in-None.is ∙ c.in_ok-rest.ensures in
    cc

pub push_inputs-requires : goal.push_inputs-requires
push_inputs-requires g c = search rules

pub returns-in_err-push_inputs : goal.returns-in_err-push_inputs
returns-in_err-push_inputs g c = search rules

pub returns-in_err-latest : goal.returns-in_err-latest
returns-in_err-latest g c = search rules

pub returns-in_err-rest : goal.returns-in_err-rest
returns-in_err-rest g c = search rules

pub unreachable-unreachable : goal.unreachable-unreachable
unreachable-unreachable g c = search rules
