use Rattle.std.proofs.Common.{◌≡◌, ◌+◌, ◌-◌, ◌∷◌, ◌++◌, [], ap, arith, refl, sym, ◌∙◌}
use Rattle.rsx_types.specs.declared.signal.Signal.TheVariants.{Next}
use Rattle.rsx_subscriber.proofs.Fetches.{handed_on, pulled_item, pulled_none}
use Rattle.rsx_subscriber.proofs.Standings.{item_delivered}
use Rattle.rsx_subscriber.proofs.subscription.Subscription.fetch_one.Goals as goal

pub returns-in-None-clause-pumped : goal.returns-in-None-clause-pumped
returns-in-None-clause-pumped g c = pulled_none g.N.Machine g.N.Nodes (g.O.Ops.meaning c.args.ops.now) c.args.id c.args.left.now c.fetch.new.left c.args.self.now _ c.fetch.new.self c.args.out.now.signals c.in-None.ensures

pub returns-then-left-eq0-clause-pumped : goal.returns-then-left-eq0-clause-pumped
returns-then-left-eq0-clause-pumped g c =
    pulled_item g.N.Machine g.N.Nodes (g.O.Ops.meaning c.args.ops.now) c.args.id c.args.left.now c.fetch.new.left c.args.self.now _ c.fetch.new.self c.in-Some.item c.push.new.self c.args.out.now.signals c.args.out.now.signals c.in-Some.ensures c.requires c.push.ensures refl

pub returns-in-Err-clause-pumped : goal.returns-in-Err-clause-pumped
returns-in-Err-clause-pumped g c =
    pulled_item g.N.Machine g.N.Nodes (g.O.Ops.meaning c.args.ops.now) c.args.id c.args.left.now c.fetch.new.left c.args.self.now _ c.fetch.new.self c.in-Some.item c.push-in-Err.new.self c.args.out.now.signals c.reserve.new.self.signals c.in-Some.ensures c.requires c.push-in-Err.ensures c.in-Err.ensures.signals

pub returns-clause-pumped : goal.returns-clause-pumped
returns-clause-pumped g c =
    let one : (c.fetch.new.left - 1) + 1 ≡ c.fetch.new.left = let h = c.if-left-eq0.false in omega (arith, h) in
    let d = sym c.delivers_item.ensures.delivered ∙ c.if-not-delivers_item.false in
    let t = item_delivered c.args.self.now.state c.args.self.now.demand d in
    handed_on g.N.Machine g.N.Nodes (g.O.Ops.meaning c.args.ops.now) c.args.id c.args.left.now c.fetch.new.left (c.fetch.new.left - 1) c.args.self.now c.args.self.now.opened c.fetch.new.self c.in-Some.item _ c.args.out.now.signals c.push-2.new.self.signals
    c.in-Some.ensures c.requires one d (record { part = refl; queue = refl; live = refl; state = sym t.0; requested = c.spend.ensures.asked ∙ sym t.1; delivered = c.spend.ensures.sent ∙ sym t.2 })
    (c.push-2.ensures ∙ ap (λ l. l ++ (c.args.id, Next c.in-Some.item) ∷ []) c.in-Ok.ensures.signals)
