use Rattle.std.proofs.Common.{◌∙◌, ◌++◌, not, sym, ap}
use Rattle.rsx_runtime.specs.Ordered.{is_unended}
use Rattle.rsx_runtime.specs.Standing.{given_by, signals_of}
use Rattle.rsx_link.specs.Ends.{received_signals}
use Rattle.rsx_runtime.proofs.Signals.{asking_goes_on, bad_answer, bad_request, error_orderly, given_error, given_same, good_answer, good_request}
use Rattle.rsx_runtime.proofs.tap.Tap.request_over.Goals as goal

pub returns-then-n-gt0-clause-given : goal.returns-then-n-gt0-clause-given
returns-then-n-gt0-clause-given g c =
    let good = good_request _ c.if-n-gt0.true in
    let was = given_by (received_signals c.args.self.now.down) c.args.self.now.error in
    given_same _ _ _ c.ask-answer.ensures.same.1 ∙ ap (λ o. was ++ signals_of o) (sym (good_answer _ _ _ _ c.ask-answer.result good.1 c.ask-answer.ensures.asked))

pub invariant_of-self-in-Some : goal.invariant_of-self-in-Some
invariant_of-self-in-Some g c =
    let was = c.args.self.now.«open» (asking_goes_on c.args.self.now.state (sym c.is_asking.ensures ∙ c.if-not-is_asking.false)) in
    record { «open» = λ e. cc; orderly = error_orderly _ _ c.ask-answer.ensures.same.1 was.0; told = c.args.self.now.told ∙ ap (λ l. not (is_unended l)) (sym c.ask-answer.ensures.same.1) }

pub returns-in-Some-clause-given : goal.returns-in-Some-clause-given
returns-in-Some-clause-given g c =
    let was = c.args.self.now.«open» (asking_goes_on c.args.self.now.state (sym c.is_asking.ensures ∙ c.if-not-is_asking.false)) in
    given_error _ _ _ _ c.ask-answer.ensures.same.1 was.1 (bad_answer _ _ _ c.ask-answer.result _ (bad_request _ c.if-n-gt0.false) c.ask-answer.ensures.asked c.in-Some.is)
