use Rattle.std.proofs.Common.{◌<◌, ◌∙◌, length, refl, sym, arith}
use Rattle.std.proofs.lemmas.Option.{slice_get_read}
use Rattle.rsx_graph_state.specs.Moves.{rows_of}
use Rattle.rsx_graph_moves.proofs.Quiet.{always_known, never_for_pump}
use Rattle.rsx_graph_moves.proofs.explaining.explain.Goals as goal

pub returns-in-Open-clause-idle : goal.returns-in-Open-clause-idle
returns-in-Open-clause-idle g c = λ m quiet. never_for_pump g.N.Machine g.N.Nodes m (rows_of c.args.hubs.now c.args.feeds.now c.args.subscriptions.now) c.args.sub c.open_wait.result quiet (c.open_wait.ensures m)

pub returns-in-Open-clause-known : goal.returns-in-Open-clause-known
returns-in-Open-clause-known g c = λ m h s stands there within. always_known g.N.Machine g.N.Nodes m (rows_of c.args.hubs.now c.args.feeds.now c.args.subscriptions.now) h c.args.sub s c.open_wait.result stands there within (c.open_wait.ensures m)

pub returns-in-Ended-clause-waits : goal.returns-in-Ended-clause-waits
returns-in-Ended-clause-waits g c = λ m.
    let subs = c.args.subscriptions.now in
    let off = c.if-at-subscriptions.false in
    let within : c.args.sub.0 < length subs = omega (arith, off) in
    record {
      sub = c.index-subscriptions-at.result;
      there = slice_get_read subs (length subs) c.args.sub.0 c.index-subscriptions-at.result refl within c.index-subscriptions-at.is;
      wait = sym c.standing.ensures ∙ c.in-Ended.is;
    }

pub returns-in-Cancelled-clause-waits : goal.returns-in-Cancelled-clause-waits
returns-in-Cancelled-clause-waits g c = λ m.
    let subs = c.args.subscriptions.now in
    let off = c.if-at-subscriptions.false in
    let within : c.args.sub.0 < length subs = omega (arith, off) in
    record {
      sub = c.index-subscriptions-at.result;
      there = slice_get_read subs (length subs) c.args.sub.0 c.index-subscriptions-at.result refl within c.index-subscriptions-at.is;
      wait = sym c.standing.ensures ∙ c.in-Cancelled.is;
    }

pub returns-in-Refused-clause-waits : goal.returns-in-Refused-clause-waits
returns-in-Refused-clause-waits g c = λ m.
    let subs = c.args.subscriptions.now in
    let off = c.if-at-subscriptions.false in
    let within : c.args.sub.0 < length subs = omega (arith, off) in
    record {
      sub = c.index-subscriptions-at.result;
      there = slice_get_read subs (length subs) c.args.sub.0 c.index-subscriptions-at.result refl within c.index-subscriptions-at.is;
      wait = sym c.standing.ensures ∙ c.in-Refused.is;
    }
