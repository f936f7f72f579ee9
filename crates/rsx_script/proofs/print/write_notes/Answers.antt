use Rattle.std.proofs.Common.{◌≡◌, ◌<◌, length, slice_get, Some, refl}
use Rattle.std.proofs.lemmas.Grind.{put_two}
use Rattle.std.proofs.lemmas.Option.{slice_get_read}
use Rattle.rsx_script.proofs.Notes.{notes_more}
use Rattle.rsx_script.proofs.print.write_notes.Goals as goal

pub loop-node-preserved : goal.loop-node-preserved
loop-node-preserved g c = λ plain.
    let before = c.loop-node.invariant plain in
    let notes = c.args.notes.now in
    let node = c.loop-node.node in
    let within : node < length notes = c.loop-node-test.true in
    let there : slice_get notes node ≡ Some c.index-notes-node.result = slice_get_read notes (length notes) node c.index-notes-node.result refl within c.index-notes-node.is in
    put_two g.W.Write.write_str_gives _ _ _ _ _ _ before (c.in_ok-write_note.ensures before.plain refl) (notes_more node notes _ there)
