use Rattle.std.proofs.Common.{◌≡◌, ◌<◌, ℕ, false}
use Rattle.rsx_combining.specs.Latest.{latest_picks}
use Rattle.rsx_combining.proofs.latest.CombineLatestNodeMachine.next_pick.Given as goal

abbrev pub invariant-loop-at : goal.invariant-loop-at
invariant-loop-at g l = (k : ℕ) → k < l.at → latest_picks l.self k l.asked l.sent ≡ false
