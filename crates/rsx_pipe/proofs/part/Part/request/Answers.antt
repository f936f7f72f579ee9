use Rattle.std.proofs.Common.{refl}
use Rattle.rsx_rooted.proofs.Parts.{put_out_asked}
use Rattle.rsx_pipe.proofs.part.Part.request.Goals as goal

pub returns-clause-stands : goal.returns-clause-stands
returns-clause-stands g c = λ m. rw (← c.self.view_is) (put_out_asked g.N.Machine m c.self.inside.rooted (record { tree = c.self.inside.rooted.tree; root = record { demand = c.ask.new.self; state = c.self.inside.rooted.root.state } }) refl refl c.ask.ensures.sent)
