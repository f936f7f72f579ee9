use Rattle.std.proofs.Common.{◌≡◌, ◌∷◌, Some, None, w64, refl, sym, ap, ◌∙◌, subst}
use Rattle.std.proofs.lemmas.Int.{to_z-of_z}
use Rattle.rsx_types.specs.declared.signal.Signal.TheVariants.{Error}
use Rattle.rsx_types.specs.declared.signal.Cause.TheVariants.{NonPositiveRequest}
use Rattle.rsx_link.specs.declared.view.Step.TheVariants.{Ask}
use Rattle.rsx_link.specs.Ends.{down_steps, Requests, refusal_at}
use Rattle.rsx_link.specs.Signals.{request_of}
use Rattle.rsx_link.proofs.Items.{no_refusal}
use Rattle.rsx_link.proofs.down.Down.ask.Goals as goal

pub returns-in-Some-clause-asked : goal.returns-in-Some-clause-asked
returns-in-Some-clause-asked g c =
    let is : request_of c.args.n ≡ Some c.in-Some.items = ap request_of (sym (to_z-of_z w64 c.args.n c.ranges.n)) ∙ (sym c.positive.ensures ∙ c.in-Some.is) in
    subst (λ r. Requests {T = g.row.T.Denot} r (down_steps c.args.self.now) c.store_asked.new.seat.me.0.steps None) (sym is) (record {
      steps = ap (λ m. m.0.steps) c.store_asked.ensures.2 ∙ ap (λ k. Ask k ∷ down_steps c.args.self.now) (cc);
      none = refl;
    })

pub returns-then-set_refused-eq0-clause-asked : goal.returns-then-set_refused-eq0-clause-asked
returns-then-set_refused-eq0-clause-asked g c =
    let is : request_of c.args.n ≡ None = ap request_of (sym (to_z-of_z w64 c.args.n c.ranges.n)) ∙ (sym c.positive.ensures ∙ c.in-None.is) in
    subst (λ r. Requests {T = g.row.T.Denot} r (down_steps c.args.self.now) c.set_refused.new.seat.me.0.steps (Some (Error NonPositiveRequest))) (sym is) (record {
      found = c.set_refused.result;
      steps = ap (λ m. m.0.steps) c.set_refused.ensures.2.0;
      again = c.set_refused.ensures.2.1;
      answered = ap (refusal_at {T = g.row.T.Denot}) (sym c.if-set_refused-eq0.true);
    })

pub returns-else-set_refused-eq0-clause-asked : goal.returns-else-set_refused-eq0-clause-asked
returns-else-set_refused-eq0-clause-asked g c =
    let is : request_of c.args.n ≡ None = ap request_of (sym (to_z-of_z w64 c.args.n c.ranges.n)) ∙ (sym c.positive.ensures ∙ c.in-None.is) in
    subst (λ r. Requests {T = g.row.T.Denot} r (down_steps c.args.self.now) c.set_refused.new.seat.me.0.steps None) (sym is) (record {
      found = c.set_refused.result;
      steps = ap (λ m. m.0.steps) c.set_refused.ensures.2.0;
      again = c.set_refused.ensures.2.1;
      answered = no_refusal _ c.if-set_refused-eq0.false;
    })
