use Rattle.std.proofs.Common.{◌++◌, ◌∙◌, ap, sym, codes, inl, length}
use Rattle.std.specs.Fmt.{decimal}
use Rattle.rsx_session.proofs.Looks.{kept_at}
use Rattle.rsx_session.proofs.session.Session.count.Goals as goal

pub returns-clause-says : goal.returns-clause-says
returns-clause-says c = λ h s.
    let there = kept_at c.args.self.now.records.items h.pasts c.args.sub.0 c.in_ok-record.field-0.now s.records c.in_ok-record.ensures.found in
    inl (there.0, there.1, ap (λ n. codes "count " ++ decimal n) (ap length c.as_slice-received.ensures.value ∙ ap (λ k. length k.items) (sym there.2)))
