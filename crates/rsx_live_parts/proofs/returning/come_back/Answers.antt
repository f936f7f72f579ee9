use Rattle.std.proofs.Common.{◌-◌, ◌∙◌, ap, refl}
use Rattle.rsx_live_parts.proofs.Again.{stands_again}
use Rattle.rsx_live_parts.proofs.Back.{back_of}
use Rattle.rsx_live_parts.proofs.returning.come_back.Goals as goal

pub returns-clause-back : goal.returns-clause-back
returns-clause-back g c =
    back_of g.N.Machine c.args.piece c.args.tap c.into_ends-down.result c.close-cancelled.result c.is_flagged-stopped.result c.is_live_after-is_live.result c.saturating_sub.result c.request.new.self c.settle-part.result.0 c.settle-part.result.1 _ c.put_together.result
    c.into_ends-down.ensures.ends c.into_ends-down.ensures.ended c.close-cancelled.ensures.closes c.is_flagged-stopped.ensures
    c.asked.ensures c.taken.ensures (c.saturating_sub.ensures ∙ ap (λ k. c.asked.result - k) (c.asked-2.ensures ∙ ap (λ e. e.demand.asked) c.root_edge.ensures)) (λ m. c.request.ensures.stands m) c.request.ensures.asked c.request.ensures.state c.request.ensures.tree
    c.is_live_after-is_live.ensures c.settle-part.ensures.put c.settle-part.ensures.part c.settle-part.ensures.asked c.settle-part.ensures.shape
    c.state_after.ensures.stands refl refl refl c.put_together.ensures

pub returns-clause-stands : goal.returns-clause-stands
returns-clause-stands g c = λ m n number was opening made out over since published past st.
    stands_again g.N.Machine m n number was opening c.args.piece made c.args.link c.args.tap c.is_flagged-stopped.result c.put_together.result out over.1 since (returns-clause-back g c) published past st
