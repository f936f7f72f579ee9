use Rattle.rsx_combining.proofs.InPlace.{IsRowLoop}
use Rattle.rsx_combining.proofs.latest_rows.VecLatestRows.put_rows.Given as goal

abbrev pub invariant-loop-place : goal.invariant-loop-place
invariant-loop-place g l = IsRowLoop (g.O.Ops.meaning l.ops).row_of l.fn.self.items l.at l.fn.items.items l.place l.self.items l.items.items
