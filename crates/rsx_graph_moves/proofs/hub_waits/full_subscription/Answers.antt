use Rattle.std.proofs.Common.{true, length, refl, sym, ◌∙◌}
use Rattle.std.proofs.lemmas.List.{at_drop_all}
use Rattle.std.proofs.lemmas.Option.{slice_get_read}
use Rattle.rsx_pipe.specs.Published as Part
use Rattle.rsx_graph_state.specs.Publishing.{have_room}
use Rattle.rsx_graph_state.proofs.Handing.{every_next}
use Rattle.rsx_graph_moves.proofs.hub_waits.full_subscription.Goals as goal

pub returns-then-not-has_room_for-clause-some : goal.returns-then-not-has_room_for-clause-some
returns-then-not-has_room_for-clause-some g c =
    let subs = c.args.subscriptions.now in
    record {
      sub = c.index-subscriptions-at.result;
      there = slice_get_read subs (length subs) c.loop-at.at c.index-subscriptions-at.result refl c.loop-at-test.true c.index-subscriptions-at.is;
      full = sym c.has_room_for.ensures ∙ c.if-not-has_room_for.true;
    }

pub loop-at-preserved : goal.loop-at-preserved
loop-at-preserved g c =
    sym (every_next (λ x. Part.has_room_for g.N.Machine c.args.hub x.part) c.loop-at.at c.args.subscriptions.now c.index-subscriptions-at.result true c.loop-at-test.true c.index-subscriptions-at.is (sym c.has_room_for.ensures ∙ c.if-not-has_room_for.false))
    ∙ c.loop-at.invariant

pub returns-clause-none : goal.returns-clause-none
returns-clause-none g c = sym (sym (at_drop_all (have_room g.N.Machine c.args.hub) c.args.subscriptions.now c.loop-at.at c.loop-at-test.false) ∙ c.loop-at.invariant)
