use Rattle.std.proofs.Common.{sym, ap, ◌∙◌}
use Rattle.rsx_tree.specs.Edges.{is_live}
use Rattle.rsx_link.specs.Ends.{up_steps}
use Rattle.rsx_region.proofs.Inlets.{link_closed, link_looked}
use Rattle.rsx_region.proofs.Looks.{looked_closed, looked_on, rose, stands_looked, stands_shut}
use Rattle.rsx_region.proofs.Pieces.{live_from}
use Rattle.rsx_region.proofs.outgoing.look.Goals as goal

pub returns-then-not-is_flagged-clause-looked : goal.returns-then-not-is_flagged-clause-looked
returns-then-not-is_flagged-clause-looked g c m =
    let p = c.args.part.now in
    let live = live_from p.root.state c.is_live.result (c.is_live.ensures ∙ ap (λ e. is_live e.state) c.root_edge-root.ensures) c.if-not-is_live.false in
    let r = rose p c.request.new.self c.args.up.now c.look-found.result c.asked.result c.requires.step c.look-found.ensures.looked.rises (c.asked.ensures ∙ ap (λ e. e.demand.asked) c.root_edge-root.ensures) c.request.ensures.asked c.request.ensures.sent c.request.ensures.state c.request.ensures.tree in
    looked_on g.N.Machine m c.args.link.now c.look-found.result p c.request.new.self c.args.up.now c.look-found.new.self live r c.look-found.ensures.same c.look-found.ensures.looked (sym c.is_flagged.ensures ∙ c.if-not-is_flagged.true)

pub returns-then-not-is_flagged-clause-stands : goal.returns-then-not-is_flagged-clause-stands
returns-then-not-is_flagged-clause-stands g c m taken old queued h =
    let p = c.args.part.now in
    let live = live_from p.root.state c.is_live.result (c.is_live.ensures ∙ ap (λ e. is_live e.state) c.root_edge-root.ensures) c.if-not-is_live.false in
    let r = rose p c.request.new.self c.args.up.now c.look-found.result c.asked.result c.requires.step c.look-found.ensures.looked.rises (c.asked.ensures ∙ ap (λ e. e.demand.asked) c.root_edge-root.ensures) c.request.ensures.asked c.request.ensures.sent c.request.ensures.state c.request.ensures.tree in
    stands_looked g.N.Machine m taken old queued c.args.link.now c.look-found.result p c.request.new.self c.args.up.now c.look-found.new.self live r c.look-found.ensures.same c.look-found.ensures.looked h

pub returns-clause-looked : goal.returns-clause-looked
returns-clause-looked g c m =
    let p = c.args.part.now in
    let live = live_from p.root.state c.is_live.result (c.is_live.ensures ∙ ap (λ e. is_live e.state) c.root_edge-root.ensures) c.if-not-is_live.false in
    let r = rose p c.request.new.self c.args.up.now c.look-found.result c.asked.result c.requires.step c.look-found.ensures.looked.rises (c.asked.ensures ∙ ap (λ e. e.demand.asked) c.root_edge-root.ensures) c.request.ensures.asked c.request.ensures.sent c.request.ensures.state c.request.ensures.tree in
    looked_closed g.N.Machine m c.args.link.now c.look-found.result p c.request.new.self c.close.new.self c.args.up.now c.look-found.new.self live r c.look-found.ensures.same c.look-found.ensures.looked (sym c.is_flagged.ensures ∙ c.if-not-is_flagged.false)
    c.close.ensures.edges c.close.ensures.asked (c.close.ensures.kept m)

pub returns-clause-stands : goal.returns-clause-stands
returns-clause-stands g c m taken old queued h =
    let p = c.args.part.now in
    let live = live_from p.root.state c.is_live.result (c.is_live.ensures ∙ ap (λ e. is_live e.state) c.root_edge-root.ensures) c.if-not-is_live.false in
    let r = rose p c.request.new.self c.args.up.now c.look-found.result c.asked.result c.requires.step c.look-found.ensures.looked.rises (c.asked.ensures ∙ ap (λ e. e.demand.asked) c.root_edge-root.ensures) c.request.ensures.asked c.request.ensures.sent c.request.ensures.state c.request.ensures.tree in
    let mid = stands_looked g.N.Machine m taken old queued c.args.link.now c.look-found.result p c.request.new.self c.args.up.now c.look-found.new.self live r c.look-found.ensures.same c.look-found.ensures.looked h in
    stands_shut g.N.Machine m taken old queued c.look-found.result (up_steps c.args.up.now) c.request.new.self c.close.new.self c.look-found.new.self (c.request.ensures.state ∙ live) c.look-found.ensures.looked (sym c.is_flagged.ensures ∙ c.if-not-is_flagged.false)
    c.close.ensures.edges c.close.ensures.asked (c.close.ensures.kept m) c.close.ensures.alike c.close.ensures.closed mid

pub returns-then-not-is_flagged-clause-inlets : goal.returns-then-not-is_flagged-clause-inlets
returns-then-not-is_flagged-clause-inlets g c taken i h =
    let p = c.args.part.now in
    let r = rose p c.request.new.self c.args.up.now c.look-found.result c.asked.result c.requires.step c.look-found.ensures.looked.rises (c.asked.ensures ∙ ap (λ e. e.demand.asked) c.root_edge-root.ensures) c.request.ensures.asked c.request.ensures.sent c.request.ensures.state c.request.ensures.tree in
    link_looked g.N.Machine taken p c.request.new.self c.args.up.now c.look-found.result i.hub i.down i.closer c.requires.step c.look-found.ensures.looked.rises r h

pub returns-clause-inlets : goal.returns-clause-inlets
returns-clause-inlets g c taken i h =
    let p = c.args.part.now in
    let r = rose p c.request.new.self c.args.up.now c.look-found.result c.asked.result c.requires.step c.look-found.ensures.looked.rises (c.asked.ensures ∙ ap (λ e. e.demand.asked) c.root_edge-root.ensures) c.request.ensures.asked c.request.ensures.sent c.request.ensures.state c.request.ensures.tree in
    link_closed g.N.Machine taken c.request.new.self c.close.new.self i.hub i.down i.closer c.close.ensures.edges c.close.ensures.alike
    (link_looked g.N.Machine taken p c.request.new.self c.args.up.now c.look-found.result i.hub i.down i.closer c.requires.step c.look-found.ensures.looked.rises r h)
