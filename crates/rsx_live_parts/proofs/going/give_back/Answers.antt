use Rattle.std.proofs.Common.{◌∙◌, refl}
use Rattle.rsx_region.specs.Pieces.{none_taken}
use Rattle.rsx_live_parts.specs.Lives.{most_numbers}
use Rattle.rsx_live_parts.proofs.Closings.{as_many_kept, given_ready, given_stand, joined_not}
use Rattle.rsx_live_parts.proofs.going.give_back.Goals as goal

pub come_back_all-requires-clause-can : goal.come_back_all-requires-clause-can
come_back_all-requires-clause-can g c =
    let h = c.requires.1 in
    let m = g.O.Ops.meaning c.args.ops in
    record { meaning = m; count = most_numbers; number = 0; subs = c.requires.0; are = given_ready g.N.Machine m g.N.CrossingNodes c.requires.0 c.args.rest.kept.items c.args.rest.taps.items c.args.trees c.join_trees.new.trees h (c.in-Ok.ensures.whole m (none_taken most_numbers) (none_taken most_numbers) _ h.opening h.since) }

pub returns-in-Ok : goal.returns-in-Ok
returns-in-Ok g c = λ subs h. let m = g.O.Ops.meaning c.args.ops in
    (refl, c.come_back_all.ensures.count ∙ as_many_kept g.N.Machine g.N.CrossingNodes m subs 0 c.args.rest.kept.items h.pieces h.links c.args.rest.taps.items h.out, λ published pasts st. given_stand g.N.Machine m g.N.CrossingNodes subs c.args.rest.kept.items c.args.rest.taps.items c.args.trees c.join_trees.new.trees c.come_back_all.result.items h (c.in-Ok.ensures.whole m (none_taken most_numbers) (none_taken most_numbers) _ h.opening h.since) c.come_back_all.ensures published pasts st)

pub returns-in-Err : goal.returns-in-Err
returns-in-Err g c = λ subs h. let m = g.O.Ops.meaning c.args.ops in
    (c.args.rest.kept.items, joined_not g.N.Machine m g.N.CrossingNodes subs c.args.rest.kept.items c.args.rest.taps.items c.args.trees c.join_trees.new.trees h (λ whole opening since. c.join_trees.ensures.since m (none_taken most_numbers) (none_taken most_numbers) whole opening since) c.in-Err.ensures.refused)
