use Rattle.rsx_session.proofs.Compared.{begins_by}
use Rattle.rsx_session.proofs.session.begins.Goals as goal

pub returns-then-first-items : goal.returns-then-first-items
returns-then-first-items c = begins_by c.is_same_list.result c.args.first.now c.args.items.now c.is_same_list.ensures
