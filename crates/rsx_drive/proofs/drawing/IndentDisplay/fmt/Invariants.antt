use Rattle.std.specs.Fmt.{HasWritten, IsPlainFormatter}
use Rattle.rsx_drive.specs.Drawn.{indent_text}
use Rattle.rsx_drive.proofs.drawing.IndentDisplay.fmt.Given as goal

abbrev pub invariant-loop : goal.invariant-loop
invariant-loop g l =
    IsPlainFormatter l.initial.f → HasWritten g.W.Write.write_str_gives l.initial.f (indent_text l.counter) l.f
