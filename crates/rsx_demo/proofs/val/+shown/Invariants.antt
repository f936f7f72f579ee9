use Rattle.std.proofs.Common.{take, ◌++◌}
use Rattle.std.specs.Prelude.{codes}
use Rattle.std.specs.Fmt.{HasWritten, IsPlainFormatter}
use Rattle.std.specs.List.{flat_map}
use Rattle.rsx_demo.specs.Texts.{item_text}
use Rattle.rsx_demo.proofs.val.+shown.Given as goal

abbrev pub invariant-ValsDisplay::fmt-loop-other : goal.invariant-ValsDisplay::fmt-loop-other
invariant-ValsDisplay::fmt-loop-other g l =
    IsPlainFormatter l.initial.f → HasWritten g.W.Write.write_str_gives l.initial.f (flat_map (λ v. codes " " ++ item_text v) (take l.other-index l.others)) l.f
