use Rattle.std.proofs.Common.{◌≡◌, ◌++◌, Some, None, ap, ◌∙◌, rules}
use Rattle.std.proofs.lemmas.Result.{IfOk-weaker}
use Rattle.rsx_sources.specs.Prelude.{Done, ended_by}
use Rattle.rsx_queued.specs.Output.{output_then}
use Rattle.rsx_values.specs.Zip.{zip}
use Rattle.rsx_combining.specs.Inputs.{lefts}
use Rattle.rsx_combining.specs.Zip.{ZipState}
use Rattle.rsx_combining.proofs.Steps.{residual_of}
use Rattle.rsx_combining.proofs.zip.ZipNodeMachine.residual.Goals as goal

pub returns : goal.returns
returns g c =
    let m = g.O.Ops.meaning c.args.ops.now in
    let start : ZipState g.row.T.Denot = record { inputs = c.self.inside.inputs.items; output = c.self.inside.output; chosen = c.self.inside.chosen } in
    let values : c.push_lefts.new.self.items ≡ lefts c.self.inside.inputs.items c.args.incoming.now =
    c.in_ok-push_lefts.ensures ∙ ap (λ l. l ++ lefts c.as_slice.result.now c.args.incoming.now) c.new-values.ensures.items ∙ ap (λ l. lefts l c.args.incoming.now) c.as_slice.ensures.value in
    let rest = c.in_ok-rest.ensures ∙ ap (zip m.row_of None) values in
    IfOk-weaker c.in_front.result (λ v. output_then c.self.inside.output (Some c.in-Some.rest) (Some (ended_by Done)) ≡ Some v) _
    (λ v gives. residual_of m start c.args.self.now c.args.inboxes.now c.args.incoming.now c.in_ok-rest.field-0 c.in-Some.rest v c.self.view_is rest c.in-Some.is gives) c.in_front.ensures

pub returns-in_err-push_lefts : goal.returns-in_err-push_lefts
returns-in_err-push_lefts g c = search rules

pub returns-in_err-rest : goal.returns-in_err-rest
returns-in_err-rest g c = search rules

pub unreachable-requires : goal.unreachable-requires
unreachable-requires g c = search rules

pub unreachable-unreachable : goal.unreachable-unreachable
unreachable-unreachable g c = search rules
