use Rattle.std.proofs.Common.{◌≡◌, ◌<◌, ℕ, false}
use Rattle.rsx_combining.specs.Zip.{zip_picks}
use Rattle.rsx_combining.proofs.zip.ZipNodeMachine.next_pick.Given as goal

abbrev pub invariant-loop-at : goal.invariant-loop-at
invariant-loop-at g l = (k : ℕ) → k < l.at → zip_picks l.self k l.asked l.sent ≡ false
