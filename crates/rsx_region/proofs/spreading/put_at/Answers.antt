use Rattle.rsx_region.proofs.Rows.{if_err_map, numbers_kept, on_ok_map, put_there, rows_kept}
use Rattle.rsx_region.proofs.spreading.put_at.Goals as goal

pub returns-clause-ok : goal.returns-clause-ok
returns-clause-ok g c = on_ok_map c.put_into.result _ _ (λ h. put_there c.args.regions.now c.from.result c.args.place c.index-regions-from.result c.put_into.new.region c.args.piece c.from.ensures c.requires h) c.put_into.ensures.ok

pub returns-clause-err : goal.returns-clause-err
returns-clause-err g c = if_err_map c.put_into.result _ _ (λ e h. (h.0, rows_kept c.args.regions.now c.from.result c.args.place c.index-regions-from.result c.put_into.new.region c.from.ensures c.requires h.1)) c.put_into.ensures.err

pub returns-clause-numbers : goal.returns-clause-numbers
returns-clause-numbers g c = numbers_kept c.args.regions.now c.from.result c.args.place c.index-regions-from.result c.put_into.new.region c.from.ensures c.requires c.put_into.ensures.number
