use Rattle.std.proofs.Common.{inl, inr, arith, rules}
use Rattle.std.proofs.lemmas.Bool.{cases_lt}
use Rattle.rsx_graph_state.specs.SubscriptionSet.{IsIn}
use Rattle.rsx_graph_state.proofs.SubscriptionSets.{first_out, none_found}
use Rattle.rsx_graph_state.proofs.subscription_set.SubscriptionSet.next_outside.Goals as goal

pub returns-then-rest-ne0-clause-outside : goal.returns-then-rest-ne0-clause-outside
unfolding IsIn
returns-then-rest-ne0-clause-outside c = λ has. (first_out c.args.self.now.words c.words.at (search rules) c.if-rest-ne0.true).0 has.1

pub returns-then-rest-ne0-clause-first : goal.returns-then-rest-ne0-clause-first
unfolding IsIn
returns-then-rest-ne0-clause-first c =
    let k = first_out c.args.self.now.words c.words.at (search rules) c.if-rest-ne0.true in
    let inside = k.2 in
    let lt = c.words-test.true in
    λ i low high. elim (cases_lt i c.words.at) [
      | inl before ↦ c.words.invariant.first i low before
      | inr after ↦ (omega (arith, high, lt, inside), k.1 i after high)
    ]

pub words-preserved : goal.words-preserved
unfolding IsIn
words-preserved c =
    let lt = c.words-test.true in
    let above = c.words.invariant.above in
    record {
      above = omega (arith, above);
      first = λ i low high. elim (cases_lt i c.words.at) [
        | inl before ↦ c.words.invariant.first i low before
        | inr after ↦ (omega (arith, high, lt), none_found c.args.self.now.words c.words.at (search rules) c.if-rest-ne0.false i after high)
      ];
    }

pub returns-clause-outside : goal.returns-clause-outside
unfolding IsIn
returns-clause-outside c = λ has. let lt = has.0 in let ge = c.words-test.false in omega (arith, lt, ge)
