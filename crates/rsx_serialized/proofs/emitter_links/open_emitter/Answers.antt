use Rattle.rsx_serialized.proofs.Starts.{emitter_link_as, if_ok}
use Rattle.rsx_serialized.proofs.emitter_links.open_emitter.Goals as goal

pub returns : goal.returns
returns g c = if_ok c.open.result (λ x. emitter_link_as c.args.id c.args.number c.count.result c.len.result c.saturating_add-accepted.result c.args.hub.now c.in_ok-ended.ended _ x c.count.ensures c.len.ensures c.saturating_add-accepted.ensures c.in_ok-ended.ensures) c.open.ensures
