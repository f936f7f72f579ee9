use Rattle.std.proofs.Common.{◌<◌, arith, length, refl, sym, w64}
use Rattle.std.proofs.lemmas.Int.{to_z-of_z}
use Rattle.rsx_subscriber.specs.Past.{requested}
use Rattle.rsx_graph_state.proofs.Graphs.{AllStand-set, found}
use Rattle.rsx_graph_calls.proofs.requests.request.Goals as goal

pub returns-clause-stands : goal.returns-clause-stands
returns-clause-stands g c = λ m hubs feeds h s.
    let l = c.len.ensures in
    let subs = c.args.subscriptions.now.items in
    let old = c.index_mut-subscription.result.now in
    let within : c.args.sub.0 < length c.args.subscriptions.now.items = omega (arith, l, c.if-at-len.false) in
    record {
      taken = s.taken;
      many = s.many;
      each = s.each;
      hub = s.hub;
      all = AllStand-set g.N.Machine m s.taken (requested c.args.n) subs h.pasts c.args.sub.0 old c.request.new.self within (sym c.index_mut-subscription.ensures.value)
          (λ p k. let q = c.request.ensures.stands m s.taken p k in rw (to_z-of_z w64 c.args.n c.ranges.n) at q) s.all;
    }

pub returns-clause-effect : goal.returns-clause-effect
returns-clause-effect g c =
    let l = c.len.ensures in
    let old = c.index_mut-subscription.result.now in
    let within : c.args.sub.0 < length c.args.subscriptions.now.items = omega (arith, l, c.if-at-len.false) in
    record {
      old = old;
      new = c.request.new.self;
      there = found c.args.subscriptions.now.items c.args.sub.0 old within (sym c.index_mut-subscription.ensures.value);
      answer = rw (to_z-of_z w64 c.args.n c.ranges.n) at c.request.ensures.answer;
      effect = rw (to_z-of_z w64 c.args.n c.ranges.n) at c.request.ensures.effect;
      others = refl;
    }
