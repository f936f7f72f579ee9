-- Demand as numbers.
use Rattle.std.specs.Prelude.{ℕ, ◌+◌, min}
use Rattle.rsx_demand.specs.declared.TheConstants.{UNBOUNDED}

-- two totals together, never above UNBOUNDED
abbrev pub saturating_total : ℕ → ℕ → ℕ
saturating_total a b = min UNBOUNDED (a + b)
