use Rattle.std.proofs.Common.{◌≡◌, ℕ, ◌+◌, nat_lt, cond, Some, length, slice_get}
use Rattle.rsx_runtime.specs.Resting.{bit_of, parker_of, unparked}
use Rattle.rsx_runtime.specs.declared.park.WorkerUnparker.{WorkerUnparker}
use Rattle.rsx_runtime.proofs.park.Rouser.rouse.Given as goal

-- those before this worker were used as they should be, and no other
abbrev pub invariant-loop-worker : goal.invariant-loop-worker
invariant-loop-worker l = record {
  count : length l.self.unparkers.items ≡ length l.initial.self.unparkers.items;
  each : (k : ℕ) (was is : WorkerUnparker) → slice_get l.initial.self.unparkers.items k ≡ Some was → slice_get l.self.unparkers.items k ≡ Some is → (unparked is ≡ unparked was + cond (nat_lt k l.worker) (bit_of l.mask k) 0) × (parker_of is ≡ parker_of was);
}
