use Rattle.std.proofs.Common.{◌≡◌, ◌∙◌, length, refl, slice_get, Some, sym}
use Rattle.std.proofs.lemmas.Option.{slice_get_read}
use Rattle.rsx_rooted.proofs.Joined.{join_past, join_there}
use Rattle.rsx_rooted.proofs.joins.join_at.Goals as goal

pub returns-in-Some : goal.returns-in-Some
returns-in-Some g c =
    let there : slice_get c.args.hubs.now c.args.number ≡ Some c.in-Some.hub.now = slice_get_read c.args.hubs.now (length c.args.hubs.now) c.args.number c.in-Some.hub.now refl c.in-Some.ensures.lookup.3.0 c.in-Some.ensures.lookup.1 in
    c.join.ensures ∙ sym (join_there c.args.hubs.now c.args.number c.in-Some.hub.now there)

pub returns-in-None : goal.returns-in-None
returns-in-None g c = sym (join_past c.args.hubs.now c.args.number c.in-None.ensures.lookup.3)
