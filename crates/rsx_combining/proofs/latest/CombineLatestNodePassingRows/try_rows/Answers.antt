use Rattle.std.proofs.Common.{◌≡◌, Some, map, ap, ◌∙◌}
use Rattle.std.proofs.lemmas.Option.{IfSome_then}
use Rattle.rsx_combining.proofs.RowsThrough.{rows_made}
use Rattle.rsx_combining.proofs.latest.CombineLatestNodePassingRows.try_rows.Goals as goal

pub returns-clause-rows : goal.returns-clause-rows
returns-clause-rows g c =
    let all = c.in_ok-latest.latest.items in
    let same : map Some all ≡ c.args.self.now.latest = c.in_ok-latest.ensures ∙ ap (λ n. n.latest) c.self.view_is in
    IfSome_then c.put_rows.result c.put_rows.ensures.rows (λ last h. rows_made (g.O.Ops.meaning c.args.ops.now).row_of c.args.self.now.latest all c.args.input c.args.items.now.items c.put_rows.new.items.items same h)
