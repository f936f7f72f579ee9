use Rattle.std.proofs.Common.{◌≡◌, ◌+◌, ◌∷◌, slice_index_or, drop, Some}
use Rattle.std.proofs.lemmas.List.{drop_more}
use Rattle.rsx_values.specs.Pick.{next_of}
use Rattle.rsx_delayed.proofs.FlatChosen.{signal_taken}
use Rattle.rsx_delayed.proofs.flat.merge_delayed_lanes.Goals as goal

pub loop-choice-preserved : goal.loop-choice-preserved
loop-choice-preserved g c =
    let i = c.loop-choice.choice-index in
    let es = c.args.choices.now in
    let x = slice_index_or es i 0 in
    let more : drop i es ≡ x ∷ drop (i + 1) es = drop_more es i 0 c.loop-choice-test.true in
    let next : next_of x c.loop-choice.lanes ≡ Some (c.in-Some.signal, c.take.new.self) = c.in-Some.ensures in
    signal_taken es i x c.loop-choice.lanes c.take.new.self c.loop-choice.first c.in_ok-now-in-Some.now c.loop-choice.items.items c.add_signal.new.items.items c.in-Some.signal _ more next c.in_ok-now-in-Some.ensures.items c.in_ok-now-in-Some.ensures.kept c.loop-choice.invariant
