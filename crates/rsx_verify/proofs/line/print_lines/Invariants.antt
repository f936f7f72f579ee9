use Rattle.std.proofs.Common.{◌≡◌, take}
use Rattle.std.specs.String.{string_bytes}
use Rattle.rsx_verify.specs.Texts.{lines_text}
use Rattle.rsx_verify.proofs.line.print_lines.Given as goal

-- the text so far has the first lines
abbrev pub invariant-loop-line : goal.invariant-loop-line
invariant-loop-line l = string_bytes l.text ≡ lines_text (take l.line-index l.lines)
