use Rattle.std.specs.Prelude.{◌≡◌, ◌+◌, ◌≤◌, ℕ}
use Rattle.rsx_rooted.specs.Rooted.{IsPumped}
use Rattle.rsx_rooted.proofs.rooted.Rooted.pump.Given as goal

abbrev pub invariant-loop-round : goal.invariant-loop-round
invariant-loop-round g l = (l.left + l.round ≤ l.budget) × ((n : ℕ) × (n + l.left ≡ l.budget) × IsPumped g.M.Machine g.S.Sink (g.O.Ops.meaning l.ops) n l.fn.self l.fn.out l.self l.out)
