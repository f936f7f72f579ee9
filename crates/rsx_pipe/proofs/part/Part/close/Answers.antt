use Rattle.rsx_rooted.proofs.Parts.{put_out_closed}
use Rattle.rsx_pipe.proofs.part.Part.close.Goals as goal

pub returns-clause-stands : goal.returns-clause-stands
returns-clause-stands g c = λ m. rw (← c.self.view_is) (put_out_closed g.N.Machine m c.self.inside.rooted (record { tree = c.close-2.new.self; root = c.close.new.self }) (c.close-2.ensures.kept m) c.close-2.ensures.closed c.close.ensures.view)

pub returns-clause-kept : goal.returns-clause-kept
returns-clause-kept g c = λ m. rw (← c.self.view_is) (c.close-2.ensures.kept m)

pub returns-clause-alike : goal.returns-clause-alike
returns-clause-alike g c = rw (← c.self.view_is) c.close-2.ensures.alike
