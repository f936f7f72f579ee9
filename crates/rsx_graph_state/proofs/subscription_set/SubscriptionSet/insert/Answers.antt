use Rattle.std.proofs.Common.{inl, inr, ◌∙◌, sym, arith, rules}
use Rattle.std.proofs.lemmas.Bool.{cases_eq}
use Rattle.rsx_graph_state.specs.SubscriptionSet.{IsIn}
use Rattle.rsx_graph_state.proofs.SubscriptionSets.{bit_set}
use Rattle.rsx_graph_state.proofs.subscription_set.SubscriptionSet.insert.Goals as goal

pub returns-then-sub-lt-MOST_IN_SET : goal.returns-then-sub-lt-MOST_IN_SET
unfolding IsIn
returns-then-sub-lt-MOST_IN_SET c = λ i.
    let k = bit_set c.args.self.now.words c.args.sub.0 (search rules) i in (
      λ has. elim (cases_eq i c.args.sub.0) [ inl e ↦ inr (e, has.0) | inr ne ↦ inl (has.0, sym (k.1 ne) ∙ has.1) ],
      λ had. elim (cases_eq i c.args.sub.0) [
        | inl e ↦ let lt = c.if-sub-lt-MOST_IN_SET.true in (omega (arith, e, lt), k.0 e)
        | inr ne ↦ elim had [ inl old ↦ (old.0, k.1 ne ∙ old.1) | inr new ↦ absurd (ne new.0) ]
      ],
    )
