use Rattle.std.proofs.Common.{◌∙◌}
use Rattle.rsx_runtime.proofs.threads.serve_seats.Goals as goal

pub returns-clause-answer : goal.returns-clause-answer
returns-clause-answer g c =
    let e = c.serve_each.ensures.answer in
    (c.args.parkers.rouser, e.0, c.args.parkers.same ∙ c.requires.parkers, e.1)
