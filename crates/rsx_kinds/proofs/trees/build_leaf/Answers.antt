use Rattle.std.proofs.Common.{◌≡◌, length, refl, slice_get, Some}
use Rattle.std.proofs.lemmas.Option.{slice_get_read}
use Rattle.rsx_kinds.proofs.Builds.{hub_made}
use Rattle.rsx_kinds.proofs.trees.build_leaf.Goals as goal

pub returns-clause-built : goal.returns-clause-built
returns-clause-built g c =
    let there : slice_get c.args.hubs.now c.args.number.0 ≡ Some c.index-hubs-number.result = slice_get_read c.args.hubs.now (length c.args.hubs.now) c.args.number.0 c.index-hubs-number.result refl c.requires c.index-hubs-number.is in
    hub_made (g.O.Ops.meaning c.args.ops.now) c.args.hubs.now c.args.number c.index-hubs-number.result c.in_ok-member.member c.new.result c.source.result
    there c.in_ok-member.ensures.made c.in_ok-member.ensures.value c.new.ensures.hub c.new.ensures.member c.new.ensures.missed c.new.ensures.before c.source.ensures.machine c.source.ensures.inputs
