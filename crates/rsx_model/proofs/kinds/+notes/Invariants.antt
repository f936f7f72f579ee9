use Rattle.std.proofs.Common.{◌≡◌, map, drop}
use Rattle.rsx_model.specs.Kinds.{behind_all, behind_notes}
use Rattle.rsx_model.proofs.kinds.+notes.Given as goal

abbrev pub invariant-notes_behind_all-loop-input : goal.invariant-notes_behind_all-loop-input
invariant-notes_behind_all-loop-input g l = behind_all (map behind_notes (drop l.input-index l.inputs)) l.rest ≡ behind_all (map behind_notes l.inputs) l.fn.notes
