use Rattle.std.proofs.Common.{◌≡◌, true, subst, rules}
use Rattle.rsx_sources.specs.Counts.{NeverSteps}
use Rattle.rsx_kinds.proofs.boxed.BoxedMachine.never_steps.Goals as goal

pub returns : goal.returns
returns g c =
    let same : c.deref.result.now ≡ c.args.self.now = search rules in
    subst (λ n. c.never_steps.result ≡ true → NeverSteps g.N.Machine.picks g.N.Machine.rows n) same (λ yes asked sent. (λ i. (c.never_steps.ensures yes asked sent).0 i, (c.never_steps.ensures yes asked sent).1))
