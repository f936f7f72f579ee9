use Rattle.std.proofs.Common.{◌≡◌, ℕ, ◌-◌, ◌<◌, sym, ap, ◌∙◌, arith}
use Rattle.rsx_pipe.specs.Published.{reader_edge}
use Rattle.rsx_link.specs.Ends.{down_steps}
use Rattle.rsx_region.proofs.Asks.{asked_live, asks_all, link_asked}
use Rattle.rsx_region.proofs.inlet.Inlet.ask.Goals as goal

more : (x y z : ℕ) → x < y → y ≡ z → x < z
more x y z a e = omega (arith, a, e)

pub returns-then-asked-clause-asked : goal.returns-then-asked-clause-asked
returns-then-asked-clause-asked g c =
    let i = c.args.self.now in
    let e = c.in-Some.edge.now in
    let is = c.in-Some.ensures ∙ ap (λ k. reader_edge g.N.Machine k c.args.part.now) c.from.ensures in
    let all = asks_all (c.asked-then-asked.result - c.asked-asked.result) e.demand.asked c.asked-asked.result (down_steps i.down) (down_steps c.ask.new.self) c.ask.result c.asked-asked.ensures (ap (λ k. k - c.asked-asked.result) c.asked-then-asked.ensures) (more c.asked-asked.result c.asked.result e.demand.asked c.if-asked.true c.asked.ensures) e.demand.bounded c.ask.ensures.asked in
    asked_live (reader_edge g.N.Machine i.hub c.args.part.now) e i.down c.ask.new.self i.closer is (sym c.is_live.ensures ∙ c.if-is_live.true) all

pub returns-then-asked-clause-stands : goal.returns-then-asked-clause-stands
returns-then-asked-clause-stands g c taken h =
    let i = c.args.self.now in
    let e = c.in-Some.edge.now in
    let is = c.in-Some.ensures ∙ ap (λ k. reader_edge g.N.Machine k c.args.part.now) c.from.ensures in
    let all = asks_all (c.asked-then-asked.result - c.asked-asked.result) e.demand.asked c.asked-asked.result (down_steps i.down) (down_steps c.ask.new.self) c.ask.result c.asked-asked.ensures (ap (λ k. k - c.asked-asked.result) c.asked-then-asked.ensures) (more c.asked-asked.result c.asked.result e.demand.asked c.if-asked.true c.asked.ensures) e.demand.bounded c.ask.ensures.asked in
    link_asked g.N.Machine taken c.args.part.now i.hub i.down c.ask.new.self i.closer e c.ask.ensures.same.1 c.ask.ensures.same.3 is all h
