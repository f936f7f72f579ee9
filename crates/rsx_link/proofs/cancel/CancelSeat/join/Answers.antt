use Rattle.std.proofs.Common.{sym, ap, ◌∙◌}
use Rattle.rsx_link.proofs.Shares.{joined_some}
use Rattle.rsx_link.proofs.cancel.CancelSeat.join.Goals as goal

pub invariant_of-self-clause-has_part : goal.invariant_of-self-clause-has_part
invariant_of-self-clause-has_part g c = λ none. joined_some _ _ c.args.self.now.has_part (sym (ap (λ m. m.0.parts) c.join_canceller.ensures.2) ∙ none)
