-- How much a queue of a capacity lets be asked for in total.
use Rattle.std.specs.Prelude.{ℕ, ◌-◌, ◌*◌, ◌/◌}
use Rattle.rsx_demand.specs.Demand.{saturating_total}

-- so many items are taken before more are asked for
abbrev pub batch : ℕ → ℕ
batch capacity = capacity - capacity / 4

-- the whole capacity at first, and then each batch once it was taken
abbrev pub credits : ℕ → ℕ → ℕ
credits capacity taken = saturating_total capacity (batch capacity * (taken / batch capacity))
