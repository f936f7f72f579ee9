use Rattle.std.proofs.Common.{◌≡◌, take, ap, ◌∙◌, arith}
use Rattle.std.proofs.lemmas.List.{take_all}
use Rattle.rsx_verify.specs.Texts.{lines_text}
use Rattle.rsx_verify.proofs.line.print_lines.Goals as goal

pub returns : goal.returns
returns c =
    let lines = c.args.lines.now in
    let all : take c.loop-line.line-index lines ≡ lines = take_all c.loop-line.line-index lines (omega (arith, c.loop-line-test.false)) in
    c.loop-line.invariant ∙ ap lines_text all
