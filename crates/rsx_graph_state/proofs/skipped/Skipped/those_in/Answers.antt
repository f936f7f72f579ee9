use Rattle.std.proofs.Common.{inl, inr, arith}
use Rattle.rsx_graph_state.specs.SubscriptionSet.{IsSkipped}
use Rattle.rsx_graph_state.proofs.skipped.Skipped.those_in.Goals as goal

pub others-init : goal.others-init
others-init c = record {
  before = λ i l. c.next_outside-first.ensures.first i (omega arith) l;
  between = λ i low high. absurd (omega (arith, low, high));
}

pub others-preserved : goal.others-preserved
others-preserved c = record {
  before = c.others.invariant.before;
  between = c.next_outside-at.ensures.first;
}

pub returns-then-count-clause-all : goal.returns-then-count-clause-all
unfolding IsSkipped
returns-then-count-clause-all c = λ i has. inr (inr has)

pub returns-then-count-clause-only : goal.returns-then-count-clause-only
unfolding IsSkipped
returns-then-count-clause-only c = λ i within is. elim is [
  | inl before ↦ c.next_outside-first.ensures.first i (omega arith) before
  | inr rest ↦ elim rest [ inl behind ↦ let l = behind.0 in absurd (omega (arith, l, within)) | inr has ↦ has ]
]

pub returns-clause-all : goal.returns-clause-all
unfolding IsSkipped
returns-clause-all c = λ i has. inr (inr has)

pub returns-clause-only : goal.returns-clause-only
unfolding IsSkipped
returns-clause-only c = λ i within is. elim is [
  | inl before ↦ c.others.invariant.before i before
  | inr rest ↦ elim rest [ inl behind ↦ let l = behind.0 in let all = c.others-test.false in c.others.invariant.between i l (omega (arith, within, all)) | inr has ↦ has ]
]
