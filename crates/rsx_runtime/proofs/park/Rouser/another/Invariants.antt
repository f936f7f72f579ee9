use Rattle.std.proofs.Common.{◌≡◌, ℕ, Some, length, slice_get}
use Rattle.rsx_runtime.specs.Resting.{parker_of}
use Rattle.rsx_runtime.specs.declared.park.WorkerUnparker.{WorkerUnparker}
use Rattle.rsx_runtime.proofs.park.Rouser.another.Given as goal

abbrev pub invariant-loop-worker : goal.invariant-loop-worker
invariant-loop-worker l = record {
  count : length l.unparkers.items ≡ l.worker;
  each : (k : ℕ) (a b : WorkerUnparker) → slice_get l.self.unparkers.items k ≡ Some a → slice_get l.unparkers.items k ≡ Some b → parker_of b ≡ parker_of a;
}
