use Rattle.std.proofs.Common.{◌+◌, ◌∙◌, false, true, arith, sym}
use Rattle.std.proofs.lemmas.List.{at_drop_all}
use Rattle.rsx_pipe.specs.Published as Part
use Rattle.rsx_graph_state.specs.Publishing as spec
use Rattle.rsx_graph_state.specs.Publishing.{readers}
use Rattle.rsx_graph_state.proofs.Handing.{every_next, total_next}
use Rattle.rsx_graph_state.proofs.Skipping.{readers_past, room_past, unread_between}
use Rattle.rsx_graph_state.proofs.publishing.with_room.Goals as goal

pub walk-init : goal.walk-init
walk-init g c =
    let h = c.args.number in
    let xs = c.args.subscriptions.now in
    let n = c.next-at.result in
    let none = unread_between g.N.Machine h 0 n c.args.skipped.now xs c.requires.unread c.next-at.ensures.passed in
    let more = readers_past g.N.Machine h 0 n xs (omega arith) none in
    record {
      room = sym (room_past g.N.Machine h 0 n xs (omega arith) none);
      within = omega arith;
      rest = omega (arith, more);
    }

pub walk-preserved : goal.walk-preserved
walk-preserved g c =
    let h = c.args.number in
    let xs = c.args.subscriptions.now in
    let at = c.walk.at in
    let n = c.next-at-in-walk.result in
    let x = c.index-subscriptions-at.result in
    let i = c.walk.invariant in
    let above = c.next-at-in-walk.ensures.above in
    let none = unread_between g.N.Machine h (at + 1) n c.args.skipped.now xs c.requires.unread c.next-at-in-walk.ensures.passed in
    let past = readers_past g.N.Machine h (at + 1) n xs above none in
    let more = total_next (λ y. Part.readers g.N.Machine h y.part) at xs x c.walk-test.true c.index-subscriptions-at.is in
    let here = c.readers_up_to-found.ensures in
    let rest = i.rest in
    let within = i.within in
    record {
      room = sym (room_past g.N.Machine h (at + 1) n xs above none) ∙ (sym (every_next (λ y. Part.has_room_for g.N.Machine h y.part) at xs x true c.walk-test.true c.index-subscriptions-at.is (sym c.has_room_for.ensures ∙ c.if-not-has_room_for.false)) ∙ i.room);
      within = omega (arith, here, within);
      rest = omega (arith, here, within, rest, more, past);
    }

pub returns-then-not-has_room_for-clause-none : goal.returns-then-not-has_room_for-clause-none
returns-then-not-has_room_for-clause-none g c =
    sym c.walk.invariant.room
    ∙ every_next (λ y. Part.has_room_for g.N.Machine c.args.number y.part) c.walk.at c.args.subscriptions.now c.index-subscriptions-at.result false c.walk-test.true c.index-subscriptions-at.is (sym c.has_room_for.ensures ∙ c.if-not-has_room_for.true)

pub returns-clause-some : goal.returns-clause-some
returns-clause-some g c =
    let i = c.walk.invariant in
    let h = c.args.number in
    let xs = c.args.subscriptions.now in
    let rest = i.rest in
    let within = i.within in
    let none = at_drop_all (readers g.N.Machine h) xs c.walk.at c.walk-test.false in
    (sym i.room ∙ at_drop_all (spec.have_room g.N.Machine h) xs c.walk.at c.walk-test.false, omega (arith, rest, within, none))
