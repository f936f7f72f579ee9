use Rattle.std.proofs.Common.{◌∙◌}
use Rattle.std.specs.Vec.Iter.{into_iter_items}
use Rattle.rsx_serialized.proofs.After.{closes_all, emitter_ends_of, tap_ends_of}
use Rattle.rsx_serialized.proofs.Closes.{same_emitter_ends, same_tap_ends}
use Rattle.rsx_serialized.proofs.closing.Stopped.close_into.Goals as goal

pub close_taps-requires-clause-ends : goal.close_taps-requires-clause-ends
close_taps-requires-clause-ends g c κs within =
    same_tap_ends _ c.args.self.region.outlets.items _ c.args.self.links.taps.items _ c.args.self.taps.items c.into_iter.ensures.rest c.into_iter-2.ensures.rest c.into_iter-3.ensures.rest
    (tap_ends_of c.args.self c.requires.there)

pub close_emitters-requires-clause-ends : goal.close_emitters-requires-clause-ends
close_emitters-requires-clause-ends g c κs within =
    same_emitter_ends _ c.args.self.region.inlets.items _ c.args.self.links.emitters.items _ c.args.self.emitters.items c.into_iter-4.ensures.rest c.into_iter-5.ensures.rest c.into_iter-6.ensures.rest
    (emitter_ends_of c.args.self c.requires.there)

pub returns : goal.returns
returns g c =
    closes_all c.args.self c.close_taps.new.graph _ (into_iter_items c.into_iter-4.result) (into_iter_items c.into_iter-6.result) (into_iter_items c.into_iter.result) (into_iter_items c.into_iter-3.result) (into_iter_items c.into_iter-7.result)
    c.args.room.unpublished.items c.args.room.untaken.items c.close_taps.new.untaken.items c.requires.there c.requires.taps c.close_taps.ensures.ops c.close_emitters.ensures.ops
    c.into_iter.ensures.rest c.into_iter-3.ensures.rest c.close_taps.ensures.closed c.requires.room.none.0
    c.into_iter-4.ensures.rest c.into_iter-6.ensures.rest c.close_emitters.ensures.closed c.requires.room.none.1 c.put_behind.ensures (c.into_iter-7.ensures.rest ∙ c.into_vec.ensures.items)
