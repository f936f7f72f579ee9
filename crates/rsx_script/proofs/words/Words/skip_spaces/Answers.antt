use Rattle.std.proofs.Common.{ap, ◌∙◌}
use Rattle.rsx_script.proofs.Runs.{skips}
use Rattle.rsx_script.specs.Reading.{left, left_at}
use Rattle.rsx_script.proofs.words.Words.skip_spaces.Goals as goal

pub returns-clause-same : goal.returns-clause-same
unfolding left
returns-clause-same c =
    let end = c.args.self.now.end in
    ap (left_at end) c.behind_spaces-self.ensures.rest ∙ ap (λ ws. record { words = ws; end = end }) (skips end c.args.self.now.rest.now)
