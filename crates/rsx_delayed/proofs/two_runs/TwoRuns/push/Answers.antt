use Rattle.std.proofs.Common.{◌≡◌, ◌++◌, ◌∷◌, [], length, slice_index_or, rules, ap, ◌∙◌}
use Rattle.rsx_values.specs.Record.{written}
use Rattle.rsx_delayed.proofs.OneRun.{raised}
use Rattle.rsx_delayed.proofs.two_runs.TwoRuns.push.Goals as goal

pub returns-then-index-input-clause-written : goal.returns-then-index-input-clause-written
returns-then-index-input-clause-written c =
    let rs = c.self.inside.runs.items in
    let one : length rs ≡ 1 = search rules in
    let here : c.index.result.now ≡ slice_index_or rs 0 c.index.result.now = search rules in
    raised rs c.args.input c.index_mut.result.now c.index.result.now one c.index_mut.ensures.value here c.if-index-input.true ∙ ap (λ l. written l ++ c.args.input ∷ []) c.self.view_is
