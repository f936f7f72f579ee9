use Rattle.std.proofs.Common.{◌≡◌, ◌∙◌, ◌<◌, List, arith, length, subst, sym}
use Rattle.rsx_tree.proofs.Idles.{asked_enough}
use Rattle.rsx_graph_state.specs.Prelude.{rows_of, IsStillOwed}
use Rattle.rsx_subscriber.proofs.Sentence.{ended_value}
use Rattle.rsx_sources.specs.Prelude.{Stream, ended_by, Open}
use Rattle.rsx_graph_calls.proofs.ToComes.{owed_nothing, owed_there}
use Rattle.rsx_graph_calls.proofs.still_owed.owed.Goals as goal

pub returns-in_default : goal.returns-in_default
returns-in_default g c = record {
  owes = λ h s.
      let m = g.O.Ops.meaning c.args.ops.now in
      let within : c.args.sub.0 < length c.args.subscriptions.now = omega (arith, c.if-at-subscriptions.false) in
      let none : c.new-in_default.result ≡ ended_by Open = ended_value c.new-in_default.result Open (c.new-in_default.ensures.items ∙ c.new.ensures.items) c.new-in_default.ensures.ending in
      (owed_nothing g.N.Machine (λ m. (g.met.N.Machine.settles m, g.met.N.Machine.ending_waits m, g.met.N.Nodes.rests m, asked_enough g.N.Machine m (g.met.N.Machine.shows m) g.met.N.Machine.asked_enough)) m (rows_of c.args.hubs.now c.args.feeds.now c.args.subscriptions.now) h c.args.sub c.index-subscriptions-at.result c.new-in_default.result within (sym c.index-subscriptions-at.is) (λ o. c.in_default.not-Open (c.standing.ensures ∙ o)) none s);
  err = tt;
}

pub returns-in-Ok-owed-clause-owes : goal.returns-in-Ok-owed-clause-owes
returns-in-Ok-owed-clause-owes g c = λ h s.
    let m = g.O.Ops.meaning c.args.ops.now in
    let within : c.args.sub.0 < length c.args.subscriptions.now = omega (arith, c.if-at-subscriptions.false) in
    let sub = c.index-subscriptions-at.result in
    let o = sym c.standing.ensures ∙ c.in-Open.is in
    let W : List (Stream _) → Type 0 = λ l. IsStillOwed g.N.Machine m l c.index-subscriptions-at.result c.in-Ok-owed.value in
    let owes : IsStillOwed g.N.Machine m c.in-Ok.to_come.items c.index-subscriptions-at.result c.in-Ok-owed.value = subst W c.deref.ensures.value c.in-Ok-owed.ensures in
    owed_there g.N.Machine (λ m. (g.met.N.Machine.settles m, g.met.N.Machine.ending_waits m, g.met.N.Nodes.rests m, asked_enough g.N.Machine m (g.met.N.Machine.shows m) g.met.N.Machine.asked_enough)) m (rows_of c.args.hubs.now c.args.feeds.now c.args.subscriptions.now) h c.args.sub sub c.in-Ok-owed.value c.in-Ok.to_come.items within (sym c.index-subscriptions-at.is) o c.in-Ok.ensures owes s
