use Rattle.std.proofs.Common.{◌≡◌, ◌<◌, ℕ, Some, slice_get}
use Rattle.rsx_runtime.specs.declared.emitter.Emitter.{Emitter}
use Rattle.rsx_serialized.proofs.driven.emitter_of.Given as goal

abbrev pub invariant-loop-place : goal.invariant-loop-place
invariant-loop-place g l = (k : ℕ) (e : Emitter g.row.T.Denot) → k < l.place → slice_get l.emitters k ≡ Some e → e.hub ≡ l.hub → ⊥
