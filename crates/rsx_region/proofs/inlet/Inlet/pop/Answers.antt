use Rattle.std.proofs.Common.{refl, ap, sym, ◌∙◌}
use Rattle.rsx_link.specs.Ends.{received_signals}
use Rattle.rsx_region.specs.Endings.{first_ending}
use Rattle.rsx_region.proofs.Handing.{in_step_handed, passed_one, stands_left, stands_popped}
use Rattle.rsx_region.proofs.Inlets.{link_beside, link_left, link_popped, link_still}
use Rattle.rsx_region.proofs.inlet.Inlet.pop.Goals as goal

pub returns-then-not-waits_for-clause-stands : goal.returns-then-not-waits_for-clause-stands
returns-then-not-waits_for-clause-stands g c m taken old queued up come h =
    let came = received_signals c.args.self.now.down in
    stands_left g.N.Machine m taken old queued c.args.part.now up c.args.self.now.hub came came come refl h

pub returns-in_err-reserve-clause-stands : goal.returns-in_err-reserve-clause-stands
returns-in_err-reserve-clause-stands g c m taken old queued up come h =
    let came = received_signals c.args.self.now.down in
    stands_left g.N.Machine m taken old queued c.args.part.now up c.args.self.now.hub came came come refl h

pub returns-in_default-clause-stands : goal.returns-in_default-clause-stands
returns-in_default-clause-stands g c m taken old queued up come h =
    stands_left g.N.Machine m taken old queued c.args.part.now up c.args.self.now.hub (received_signals c.args.self.now.down) (received_signals c.take.new.self) come c.in_default.ensures.none.received h

pub invariant_of-self-2-clause-empty : goal.invariant_of-self-2-clause-empty
invariant_of-self-2-clause-empty g c =
    let i = c.args.self.now in
    (passed_one g.N.Machine i.hub c.from-hub.result c.args.part.now c.hand.new.self c.push_reserved.new.self.items c.reserve.new.self.items c.hand.new.signals.items c.in-Some.signal
    c.from-hub.ensures (c.waits_for.ensures.yes c.if-not-waits_for.false) (c.reserve.ensures.items ∙ i.empty) c.push_reserved.ensures.items c.hand.ensures).none

pub returns-clause-popped : goal.returns-clause-popped
returns-clause-popped g c _ =
    let i = c.args.self.now in
    let done = passed_one g.N.Machine i.hub c.from-hub.result c.args.part.now c.hand.new.self c.push_reserved.new.self.items c.reserve.new.self.items c.hand.new.signals.items c.in-Some.signal
    c.from-hub.ensures (c.waits_for.ensures.yes c.if-not-waits_for.false) (c.reserve.ensures.items ∙ i.empty) c.push_reserved.ensures.items c.hand.ensures in
    record { signal = c.in-Some.signal; taken = c.in-Some.ensures.some; reader = done.reader; room = done.room; handed = done.handed }

pub returns-clause-stands : goal.returns-clause-stands
returns-clause-stands g c m taken old queued up come h =
    let i = c.args.self.now in
    let done = passed_one g.N.Machine i.hub c.from-hub.result c.args.part.now c.hand.new.self c.push_reserved.new.self.items c.reserve.new.self.items c.hand.new.signals.items c.in-Some.signal
    c.from-hub.ensures (c.waits_for.ensures.yes c.if-not-waits_for.false) (c.reserve.ensures.items ∙ i.empty) c.push_reserved.ensures.items c.hand.ensures in
    stands_popped g.N.Machine m taken old queued c.args.part.now c.hand.new.self up i.hub c.in-Some.signal (received_signals i.down) (received_signals c.take.new.self) come c.in-Some.ensures.some.received done.reader done.handed h

pub returns-clause-step : goal.returns-clause-step
returns-clause-step g c up step =
    let i = c.args.self.now in
    let done = passed_one g.N.Machine i.hub c.from-hub.result c.args.part.now c.hand.new.self c.push_reserved.new.self.items c.reserve.new.self.items c.hand.new.signals.items c.in-Some.signal
    c.from-hub.ensures (c.waits_for.ensures.yes c.if-not-waits_for.false) (c.reserve.ensures.items ∙ i.empty) c.push_reserved.ensures.items c.hand.ensures in
    in_step_handed g.N.Machine i.hub c.in-Some.signal c.args.part.now c.hand.new.self up done.handed step

pub returns-then-not-waits_for-clause-own : goal.returns-then-not-waits_for-clause-own
returns-then-not-waits_for-clause-own g c taken h = let i = c.args.self.now in link_still g.N.Machine taken c.args.part.now i.hub i.down i.down i.closer refl refl refl h

pub returns-then-not-waits_for-clause-others : goal.returns-then-not-waits_for-clause-others
returns-then-not-waits_for-clause-others g c taken other apart come h = let i = c.args.self.now in link_left g.N.Machine taken c.args.part.now i.hub other.hub (received_signals i.down) (received_signals i.down) other.down other.closer refl come h

pub returns-in_err-reserve-clause-own : goal.returns-in_err-reserve-clause-own
returns-in_err-reserve-clause-own g c taken h = let i = c.args.self.now in link_still g.N.Machine taken c.args.part.now i.hub i.down i.down i.closer refl refl refl h

pub returns-in_err-reserve-clause-others : goal.returns-in_err-reserve-clause-others
returns-in_err-reserve-clause-others g c taken other apart come h = let i = c.args.self.now in link_left g.N.Machine taken c.args.part.now i.hub other.hub (received_signals i.down) (received_signals i.down) other.down other.closer refl come h

pub returns-in_default-clause-own : goal.returns-in_default-clause-own
returns-in_default-clause-own g c taken h = let i = c.args.self.now in link_still g.N.Machine taken c.args.part.now i.hub i.down c.take.new.self i.closer c.in_default.ensures.none.received c.in_default.ensures.same.1 c.in_default.ensures.same.2 h

pub returns-in_default-clause-others : goal.returns-in_default-clause-others
returns-in_default-clause-others g c taken other apart come h =
    let i = c.args.self.now in
    link_left g.N.Machine taken c.args.part.now i.hub other.hub (received_signals i.down) (received_signals c.take.new.self) other.down other.closer c.in_default.ensures.none.received come h

pub returns-clause-own : goal.returns-clause-own
returns-clause-own g c taken h =
    let i = c.args.self.now in
    let done = passed_one g.N.Machine i.hub c.from-hub.result c.args.part.now c.hand.new.self c.push_reserved.new.self.items c.reserve.new.self.items c.hand.new.signals.items c.in-Some.signal
    c.from-hub.ensures (c.waits_for.ensures.yes c.if-not-waits_for.false) (c.reserve.ensures.items ∙ i.empty) c.push_reserved.ensures.items c.hand.ensures in
    link_popped g.N.Machine taken c.args.part.now c.hand.new.self c.in-Some.signal i.hub i.down c.take.new.self i.closer c.in-Some.ensures.some.received c.in-Some.ensures.same.1 c.in-Some.ensures.same.2 done.reader done.handed h

pub returns-clause-others : goal.returns-clause-others
returns-clause-others g c taken other apart come h =
    let i = c.args.self.now in
    let done = passed_one g.N.Machine i.hub c.from-hub.result c.args.part.now c.hand.new.self c.push_reserved.new.self.items c.reserve.new.self.items c.hand.new.signals.items c.in-Some.signal
    c.from-hub.ensures (c.waits_for.ensures.yes c.if-not-waits_for.false) (c.reserve.ensures.items ∙ i.empty) c.push_reserved.ensures.items c.hand.ensures in
    link_beside g.N.Machine taken c.args.part.now c.hand.new.self c.in-Some.signal i.hub other.hub (received_signals c.take.new.self) other.down other.closer apart done.reader done.handed h

pub invariant_of-self-2-clause-over : goal.invariant_of-self-2-clause-over
invariant_of-self-2-clause-over g c = c.count_ending.ensures (received_signals c.args.self.now.down) c.args.self.now.over ∙ sym (ap first_ending c.in-Some.ensures.some.received)
