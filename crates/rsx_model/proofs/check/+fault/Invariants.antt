use Rattle.std.proofs.Common.{◌≡◌, map, drop}
use Rattle.rsx_model.specs.Check.{first_fault, first_of}
use Rattle.rsx_model.proofs.check.+fault.Given as goal

abbrev pub invariant-first_fault_of_all-loop-input : goal.invariant-first_fault_of_all-loop-input
invariant-first_fault_of_all-loop-input g l = first_of (map (first_fault l.hubs) (drop l.input-index l.inputs)) ≡ first_of (map (first_fault l.hubs) l.inputs)
