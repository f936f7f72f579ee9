use Rattle.std.proofs.Common.{◌∙◌, sym, arith, eqb-true, eq-eqb}
use Rattle.rsx_graph_state.specs.SubscriptionSet.{IsIn}
use Rattle.rsx_graph_state.proofs.SubscriptionSets.{tested}
use Rattle.rsx_graph_state.proofs.subscription_set.SubscriptionSet.contains.Goals as goal

pub returns-then-sub-ge-MOST_IN_SET : goal.returns-then-sub-ge-MOST_IN_SET
unfolding IsIn
returns-then-sub-ge-MOST_IN_SET c = (λ t. cc, λ has. let l = has.0 in let g = c.if-sub-ge-MOST_IN_SET.true in absurd (omega (arith, l, g)))

pub returns : goal.returns
unfolding IsIn
returns c =
    let same = tested c.args.self.now.words c.args.sub.0 in
    (λ t. (c.if-sub-ge-MOST_IN_SET.false, sym same ∙ eqb-true _ 1 t), λ has. eq-eqb _ 1 (same ∙ has.1))
