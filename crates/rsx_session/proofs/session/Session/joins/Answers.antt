use Rattle.std.proofs.Common.{◌++◌, ap, codes, inl}
use Rattle.rsx_script.specs.Answers.{numbers_text}
use Rattle.rsx_session.proofs.Looks.{joins_at}
use Rattle.rsx_session.proofs.session.Session.joins.Goals as goal

pub returns-clause-says : goal.returns-clause-says
returns-clause-says c = λ h s.
    let there = joins_at h.pasts c.args.sub.0 c.in_ok-joins.field-0.items (c.in_ok-joins.ensures.joins h s.graph) in
    inl (there.0, there.1, ap (λ js. codes "joins" ++ numbers_text js) there.2)
