use Rattle.std.proofs.Common.{inl, inr, ◌∙◌, sym, arith, rules}
use Rattle.std.proofs.lemmas.Bool.{cases_eq}
use Rattle.rsx_graph_state.specs.SubscriptionSet.{IsIn}
use Rattle.rsx_graph_state.proofs.SubscriptionSets.{bit_cleared}
use Rattle.rsx_graph_state.proofs.subscription_set.SubscriptionSet.remove.Goals as goal

pub returns-then-sub-lt-MOST_IN_SET : goal.returns-then-sub-lt-MOST_IN_SET
unfolding IsIn
returns-then-sub-lt-MOST_IN_SET c = λ i.
    let k = bit_cleared c.args.self.now.words c.args.sub.0 (search rules) i in (
      λ has. elim (cases_eq i c.args.sub.0) [
        | inl e ↦ let off = k.0 e in let on = has.1 in absurd (omega (arith, off, on))
        | inr ne ↦ ((has.0, sym (k.1 ne) ∙ has.1), ne)
      ],
      λ had. (had.0.0, k.1 had.1 ∙ had.0.1),
    )

pub returns-else-sub-lt-MOST_IN_SET : goal.returns-else-sub-lt-MOST_IN_SET
unfolding IsIn
returns-else-sub-lt-MOST_IN_SET c = λ i. (λ has. (has, λ e. let lt = has.0 in let ge = c.if-sub-lt-MOST_IN_SET.false in absurd (omega (arith, lt, ge, e))), λ had. had.0)
