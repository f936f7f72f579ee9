use Rattle.std.proofs.Common.{take}
use Rattle.std.specs.Fmt.{HasWritten, IsPlainFormatter}
use Rattle.rsx_script.specs.Answers.{items_text}
use Rattle.rsx_drive.proofs.operator.ItemsDisplay.fmt.Given as goal

abbrev pub invariant-loop-item : goal.invariant-loop-item
invariant-loop-item g l =
    IsPlainFormatter l.initial.f → HasWritten g.W.Write.write_str_gives l.initial.f (items_text (take l.item-index l.fn.self.0.now)) l.f
