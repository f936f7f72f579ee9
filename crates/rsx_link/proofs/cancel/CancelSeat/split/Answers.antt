use Rattle.std.proofs.Common.{rules, sym, ap, ◌∙◌}
use Rattle.rsx_link.proofs.Shares.{halved_some}
use Rattle.rsx_link.proofs.cancel.CancelSeat.split.Goals as goal

pub invariant_of-self-clause-has_part : goal.invariant_of-self-clause-has_part
invariant_of-self-clause-has_part g c = λ none. halved_some _ c.args.self.now.has_part (sym (ap (λ m. m.0.parts) c.split_canceller-seat.ensures.old.2) ∙ none)

pub returns-clause-same : goal.returns-clause-same
returns-clause-same g c = search rules

pub returns-clause-new : goal.returns-clause-new
returns-clause-new g c = search rules
