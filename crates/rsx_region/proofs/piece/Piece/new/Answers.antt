use Rattle.rsx_region.proofs.Stages.{ends_new, opened_new}
use Rattle.rsx_region.proofs.piece.Piece.new.Goals as goal

pub returns-clause-stands : goal.returns-clause-stands
returns-clause-stands g c = λ m hubs live step reads. opened_new g.N.Machine m hubs _ c.new.ensures.items live step reads

pub returns-clause-ends : goal.returns-clause-ends
returns-clause-ends g c = λ links sends step. ends_new links _ c.new.ensures.items sends step
