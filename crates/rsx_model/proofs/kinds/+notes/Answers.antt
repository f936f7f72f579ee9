use Rattle.std.proofs.Common.{◌∙◌, ◌+◌, map, drop, option_and_then, refl, sym, ap}
use Rattle.std.proofs.lemmas.List.{drop_all}
use Rattle.rsx_types.proofs.Lists.{drop_read}
use Rattle.rsx_model.specs.Kinds.{behind_all, behind_notes}
use Rattle.rsx_model.specs.Shape.{listed_below}
use Rattle.rsx_model.proofs.Noted.{notes_inputs, notes_one}
use Rattle.rsx_model.proofs.kinds.+notes.Goals as goal

pub notes_behind-returns-in-One : goal.notes_behind-returns-in-One
notes_behind-returns-in-One g t c =
    c.notes_behind.ensures
    ∙ notes_one c.args.expr.now c.in-One.input.now c.args.notes.now c.in_ok-note.note.now c.in_ok-note.rest.now c.in_ok-note.ensures.cases.0 c.if-not-records.ensures (sym c.below_of.ensures ∙ ap listed_below c.in-One.is)

pub notes_behind-returns-in-Inputs : goal.notes_behind-returns-in-Inputs
notes_behind-returns-in-Inputs g t c =
    c.notes_behind_all.ensures
    ∙ notes_inputs c.args.expr.now c.in-Inputs.inputs.now c.args.notes.now c.in_ok-note.note.now c.in_ok-note.rest.now c.in_ok-note.ensures.cases.0 c.if-not-records.ensures (sym c.below_of.ensures ∙ ap listed_below c.in-Inputs.is)

pub notes_behind_all-loop-input-init : goal.notes_behind_all-loop-input-init
notes_behind_all-loop-input-init g t c = refl

pub notes_behind_all-loop-input-preserved : goal.notes_behind_all-loop-input-preserved
notes_behind_all-loop-input-preserved g t c = let h = drop_read c.args.inputs.now c.loop-input.input-index c.input-item.result c.loop-input-test.true c.input-item.is in
    ap (option_and_then (behind_all (map behind_notes (drop (c.loop-input.input-index + 1) c.args.inputs.now)))) c.in_ok-rest.ensures
    ∙ sym (ap (λ ys. behind_all (map behind_notes ys) c.loop-input.rest.now) h)
    ∙ c.loop-input.invariant

pub notes_behind_all-returns : goal.notes_behind_all-returns
notes_behind_all-returns g t c =
    sym (ap (λ ys. behind_all (map behind_notes ys) c.loop-input.rest.now) (drop_all c.loop-input.input-index c.args.inputs.now c.loop-input-test.false))
    ∙ c.loop-input.invariant
