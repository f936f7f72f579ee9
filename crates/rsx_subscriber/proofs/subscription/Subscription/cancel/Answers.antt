use Rattle.std.proofs.Common.{sym, ap, ◌∙◌, Ok}
use Rattle.rsx_subscriber.proofs.Moves.{stands_cancelled}
use Rattle.rsx_subscriber.proofs.Edits.{cancelled_shut}
use Rattle.rsx_subscriber.proofs.Standings.{cancel_closes, cancel_asks, open_standing}
use Rattle.rsx_subscriber.proofs.subscription.Subscription.cancel.Goals as goal

pub returns-in-Ok-Close-clause-stands : goal.returns-in-Ok-Close-clause-stands
returns-in-Ok-Close-clause-stands g c = λ m published past h.
    let k = c.close.ensures in
    let t = c.step.ensures in
    let closes = cancel_closes c.args.self.now.state c.args.self.now.demand (sym t.answer ∙ (c.in-Ok-Close.is ∙ ap Ok c.in-Ok-Close.field-0-is)) in
    let kept = cancel_asks c.args.self.now.state c.args.self.now.demand in
    stands_cancelled g.N.Machine m published c.args.self.now c.close.new.self past (record {
      was_open = open_standing c.args.self.now.state c.args.self.now.live closes.0;
      live = k.live;
      queue = k.queue;
      root = k.root;
      asked = k.asked;
      tree = k.tree;
      put = k.stands;
      edges = k.edges;
      requested = ap (λ d. d.asked) k.demand ∙ (t.asked ∙ kept.0);
      delivered = ap (λ d. d.sent) k.demand ∙ (t.sent ∙ kept.1);
    }) (k.state ∙ (t.state ∙ closes.1)) h

pub returns-in-Ok-Close-clause-effect : goal.returns-in-Ok-Close-clause-effect
returns-in-Ok-Close-clause-effect g c =
    let k = c.close.ensures in
    let t = c.step.ensures in
    let closes = cancel_closes c.args.self.now.state c.args.self.now.demand (sym t.answer ∙ (c.in-Ok-Close.is ∙ ap Ok c.in-Ok-Close.field-0-is)) in
    let kept = cancel_asks c.args.self.now.state c.args.self.now.demand in
    cancelled_shut g.N.Machine c.args.self.now c.close.new.self (open_standing c.args.self.now.state c.args.self.now.live closes.0) (record {
      edges = k.edges;
      notes = k.notes;
      queue = k.queue;
      state = k.state ∙ (t.state ∙ closes.1);
      live = k.live;
      requested = ap (λ d. d.asked) k.demand ∙ (t.asked ∙ kept.0);
      delivered = ap (λ d. d.sent) k.demand ∙ (t.sent ∙ kept.1);
    })
