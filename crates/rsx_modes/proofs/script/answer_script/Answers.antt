use Rattle.rsx_session.specs.declared.session.View.TheVariants.{Received, FromScratch}
use Rattle.rsx_modes.proofs.Starts.{begins}
use Rattle.rsx_modes.proofs.script.answer_script.Goals as goal

pub answer_lines-requires : goal.answer_lines-requires
answer_lines-requires g c = begins Received c.args.view c.in_ok-session.session c.in_ok-session.ensures.view c.in-Received.is c.in_ok-session.ensures.stands

pub answer_lines-requires-in-FromScratch : goal.answer_lines-requires-in-FromScratch
answer_lines-requires-in-FromScratch g c = begins FromScratch c.args.view c.in_ok-session.session c.in_ok-session.ensures.view c.in-FromScratch.is c.in_ok-session.ensures.stands
