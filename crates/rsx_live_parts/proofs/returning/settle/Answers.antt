use Rattle.std.proofs.Common.{sym, subst}
use Rattle.rsx_pipe.specs.Part.{PartStands}
use Rattle.rsx_live_parts.proofs.Sending.{put_nothing}
use Rattle.rsx_live_parts.proofs.returning.settle.Goals as goal
use Rattle.rsx_live_parts.proofs.returning.settle.Goals.{in-true, in-false}

pub returns-clause-part : goal.returns-clause-part
returns-clause-part g c = λ m published e joins output h. elim c.if-is_live.branch [
  | in-true w ↦ subst (λ p. PartStands g.N.Machine m published p e joins output) (sym w.part-is) h
  | in-false w ↦ subst (λ p. PartStands g.N.Machine m published p e joins output) (sym w.part-is) (put_nothing g.N.Machine m _ _ (w.close.ensures.stands m) published e joins output h)
]
