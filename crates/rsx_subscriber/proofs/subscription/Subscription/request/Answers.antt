use Rattle.std.proofs.Common.{refl, sym, ap, ◌∙◌, Ok, unsigned_abs, w64}
use Rattle.std.proofs.lemmas.Int.{to_z-of_z}
use Rattle.rsx_demand.specs.Demand.{saturating_total}
use Rattle.rsx_subscription.specs.declared.Effect.TheVariants.{Add, Bad}
use Rattle.rsx_subscriber.proofs.Moves.{stands_added, stands_bad, stands_unrequested}
use Rattle.rsx_tree.specs.Edges.{edge_view}
use Rattle.rsx_subscriber.proofs.Edits.{requested_raised, requested_shut, requested_same, same_view}
use Rattle.rsx_subscriber.specs.Edited.{raised}
use Rattle.rsx_subscriber.proofs.Standings.{request_adds, request_bad, request_ignored, open_standing, same_effect}
use Rattle.rsx_subscriber.proofs.subscription.Subscription.request.Goals as goal

pub returns-in-Add-clause-stands : goal.returns-in-Add-clause-stands
returns-in-Add-clause-stands g c = λ m published past h.
    let n = to_z-of_z w64 c.args.n c.ranges.n in
    let t = rw n at c.step.ensures in
    let k = request_adds c.args.self.now.state c.args.n c.args.self.now.demand (sym t.answer ∙ (c.in-Ok.is ∙ ap Ok c.in-Add.is)) in
    stands_added g.N.Machine m published c.args.self.now _ past c.args.n k (record {
      queue = refl;
      state = t.state ∙ k.state;
      live = refl;
      tree = c.request.ensures.tree;
      edge = c.request.ensures.state;
      put = c.request.ensures.stands;
      asked = c.request.ensures.asked ∙ ap (λ i. saturating_total c.args.self.now.part.root.demand.asked i) (c.unsigned_abs.ensures.value ∙ ap unsigned_abs n);
      requested = t.asked ∙ k.asked;
      delivered = t.sent ∙ k.sent;
    }) h

pub returns-in-Bad-clause-stands : goal.returns-in-Bad-clause-stands
returns-in-Bad-clause-stands g c = λ m published past h.
    let n = to_z-of_z w64 c.args.n c.ranges.n in
    let t = rw n at c.step.ensures in
    let k = c.close.ensures in
    let b = request_bad c.args.self.now.state c.args.n c.args.self.now.demand (sym t.answer ∙ (c.in-Ok.is ∙ ap Ok c.in-Bad.is)) in
    stands_bad g.N.Machine m published c.args.self.now c.close.new.self past c.args.n (record {
      was_open = open_standing c.args.self.now.state c.args.self.now.live b.was;
      live = k.live;
      queue = k.queue;
      root = k.root;
      asked = k.asked;
      tree = k.tree;
      put = k.stands;
      edges = k.edges;
      requested = ap (λ d. d.asked) k.demand ∙ (t.asked ∙ b.asked);
      delivered = ap (λ d. d.sent) k.demand ∙ (t.sent ∙ b.sent);
    }) (k.state ∙ (t.state ∙ b.state)) b.bad h

pub returns-in_default-effect-clause-stands : goal.returns-in_default-effect-clause-stands
returns-in_default-effect-clause-stands g c = λ m published past h.
    let n = to_z-of_z w64 c.args.n c.ranges.n in
    let t = rw n at c.step.ensures in
    let i = request_ignored c.args.self.now.state c.args.n c.args.self.now.demand
    (λ e. c.in_default-effect.not-Add (same_effect c.step.result c.in-Ok.effect Add c.in-Ok.is (t.answer ∙ e)))
    (λ e. c.in_default-effect.not-Bad (same_effect c.step.result c.in-Ok.effect Bad c.in-Ok.is (t.answer ∙ e))) in
    stands_unrequested g.N.Machine m published c.args.self.now _ past c.args.n i.was (record {
      part = refl;
      queue = refl;
      state = t.state ∙ i.state;
      live = refl;
      requested = t.asked ∙ i.asked;
      delivered = t.sent ∙ i.sent;
    }) h

pub returns-in_default-clause-stands : goal.returns-in_default-clause-stands
returns-in_default-clause-stands g c = λ m published past h.
    let n = to_z-of_z w64 c.args.n c.ranges.n in
    let t = rw n at c.step.ensures in
    let i = request_ignored c.args.self.now.state c.args.n c.args.self.now.demand
    (λ e. c.in_default.not-Ok Add (t.answer ∙ e))
    (λ e. c.in_default.not-Ok Bad (t.answer ∙ e)) in
    stands_unrequested g.N.Machine m published c.args.self.now _ past c.args.n i.was (record {
      part = refl;
      queue = refl;
      state = t.state ∙ i.state;
      live = refl;
      requested = t.asked ∙ i.asked;
      delivered = t.sent ∙ i.sent;
    }) h

pub returns-in-Add-clause-effect : goal.returns-in-Add-clause-effect
returns-in-Add-clause-effect g c =
    let n = to_z-of_z w64 c.args.n c.ranges.n in
    let t = rw n at c.step.ensures in
    let k = request_adds c.args.self.now.state c.args.n c.args.self.now.demand (sym t.answer ∙ (c.in-Ok.is ∙ ap Ok c.in-Add.is)) in
    requested_raised g.N.Machine c.args.self.now _ c.args.n k.good (open_standing c.args.self.now.state c.args.self.now.live k.was) (record {
      root = same_view (raised (unsigned_abs c.args.n) (edge_view c.args.self.now.part.root)) (edge_view c.request.new.self.root)
          (c.request.ensures.asked ∙ ap (λ i. saturating_total c.args.self.now.part.root.demand.asked i) (c.unsigned_abs.ensures.value ∙ ap unsigned_abs n)) c.request.ensures.sent c.request.ensures.state;
      tree = c.request.ensures.tree;
      queue = refl;
      state = t.state ∙ k.state;
      live = refl;
      requested = t.asked ∙ k.asked;
      delivered = t.sent ∙ k.sent;
    })

pub returns-in-Bad-clause-effect : goal.returns-in-Bad-clause-effect
returns-in-Bad-clause-effect g c =
    let n = to_z-of_z w64 c.args.n c.ranges.n in
    let t = rw n at c.step.ensures in
    let k = c.close.ensures in
    let b = request_bad c.args.self.now.state c.args.n c.args.self.now.demand (sym t.answer ∙ (c.in-Ok.is ∙ ap Ok c.in-Bad.is)) in
    requested_shut g.N.Machine c.args.self.now c.close.new.self c.args.n b.bad (open_standing c.args.self.now.state c.args.self.now.live b.was) (record {
      edges = k.edges;
      notes = k.notes;
      queue = k.queue;
      state = k.state ∙ (t.state ∙ b.state);
      live = k.live;
      requested = ap (λ d. d.asked) k.demand ∙ (t.asked ∙ b.asked);
      delivered = ap (λ d. d.sent) k.demand ∙ (t.sent ∙ b.sent);
    })

pub returns-in_default-effect-clause-effect : goal.returns-in_default-effect-clause-effect
returns-in_default-effect-clause-effect g c =
    let n = to_z-of_z w64 c.args.n c.ranges.n in
    let t = rw n at c.step.ensures in
    let i = request_ignored c.args.self.now.state c.args.n c.args.self.now.demand
    (λ e. c.in_default-effect.not-Add (same_effect c.step.result c.in-Ok.effect Add c.in-Ok.is (t.answer ∙ e)))
    (λ e. c.in_default-effect.not-Bad (same_effect c.step.result c.in-Ok.effect Bad c.in-Ok.is (t.answer ∙ e))) in
    requested_same g.N.Machine c.args.self.now _ c.args.n i.was (record {
      part = refl;
      queue = refl;
      state = t.state ∙ i.state;
      live = refl;
      requested = t.asked ∙ i.asked;
      delivered = t.sent ∙ i.sent;
    })

pub returns-in_default-clause-effect : goal.returns-in_default-clause-effect
returns-in_default-clause-effect g c =
    let n = to_z-of_z w64 c.args.n c.ranges.n in
    let t = rw n at c.step.ensures in
    let i = request_ignored c.args.self.now.state c.args.n c.args.self.now.demand
    (λ e. c.in_default.not-Ok Add (t.answer ∙ e))
    (λ e. c.in_default.not-Ok Bad (t.answer ∙ e)) in
    requested_same g.N.Machine c.args.self.now _ c.args.n i.was (record {
      part = refl;
      queue = refl;
      state = t.state ∙ i.state;
      live = refl;
      requested = t.asked ∙ i.asked;
      delivered = t.sent ∙ i.sent;
    })
