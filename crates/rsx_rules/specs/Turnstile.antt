-- The turnstile's table, cell by cell.
use Rattle.std.specs.Prelude.{◌+◌, ◌-◌, ◌^◌, ◌==◌, nat_lt, if◌then◌else◌}
use Rattle.rsx_rules.specs.declared.example.Turnstile.{Turnstile}
use Rattle.rsx_rules.specs.declared.example.Turnstile.TheVariants.{Locked, Paid, Broken}
use Rattle.rsx_rules.specs.declared.example.Touch.{Touch}
use Rattle.rsx_rules.specs.declared.example.Touch.TheVariants.{Coin, Push, Kick}
use Rattle.rsx_rules.specs.declared.example.Effect.{Effect}
use Rattle.rsx_rules.specs.declared.example.Effect.TheVariants.{Opened, Passed, Held, Alarm, Nothing}

-- the turnstile after the touch, and what the touch did
abbrev pub turned : Turnstile → Touch → Turnstile × Effect
turned Locked (Coin worth) = if nat_lt 0 worth then (Paid worth, Opened) else (Locked, Nothing)
turned Locked Push = (Locked, Held)
turned Locked Kick = (Broken, Alarm)
turned (Paid left) (Coin worth) = if nat_lt (left + worth) (2 ^ 32) then (Paid (left + worth), Opened) else (Paid left, Nothing)
turned (Paid left) Push =
    if left == 1 then (Locked, Passed) else if nat_lt 0 left then (Paid (left - 1), Passed) else (Paid 0, Nothing)
turned (Paid left) Kick = (Broken, Alarm)
turned Broken (Coin worth) = (Broken, Nothing)
turned Broken Push = (Broken, Held)
turned Broken Kick = (Broken, Alarm)
