use Rattle.std.proofs.Common.{◌≡◌, length}
use Rattle.rsx_verify.specs.Reports.{IsLine}
use Rattle.rsx_verify.proofs.Lines.{LinesBelow}
use Rattle.rsx_verify.proofs.reports.judge_runs.Given as goal

-- the lines so far are those of the first rules
abbrev pub invariant-loop-position : goal.invariant-loop-position
invariant-loop-position l = record {
  all : length l.lines ≡ 43;
  so_far : LinesBelow (IsLine l.first l.second l.third l.fourth) l.lines l.position;
}
