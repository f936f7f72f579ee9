use Rattle.std.specs.String.{string_bytes}
use Rattle.rsx_drive.proofs.DrawnLines.{drawn_on}
use Rattle.rsx_drive.proofs.draw.DrawingAnswers.answer.Goals as goal

pub returns-clause-answered : goal.returns-clause-answered
returns-clause-answered c = drawn_on c.draw_line.result c.args.line.now (string_bytes c.args.out.now) (string_bytes c.draw_line.new.out) c.draw_line.ensures.added
