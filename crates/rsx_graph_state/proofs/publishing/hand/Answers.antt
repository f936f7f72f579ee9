use Rattle.std.proofs.Common.{◌+◌, ◌<◌, ◌≤◌, length, set, arith}
use Rattle.std.proofs.lemmas.List.{length-set}
use Rattle.rsx_pipe.specs.Published as Part
use Rattle.rsx_subscriber.specs.Published.{IsHanded}
use Rattle.rsx_graph_state.proofs.Handing.{handed_through}
use Rattle.rsx_graph_state.proofs.Skipping.{handed_next, none_handed_to, subs_past, unread_between}
use Rattle.rsx_graph_state.proofs.publishing.hand.Goals as goal

pub walk-init : goal.walk-init
walk-init g c =
    let h = c.args.number in
    let xs = c.args.subscriptions.now in
    let signals = c.args.signals.now.items in
    let n = c.next-to.result in
    subs_past g.N.Machine h 0 n xs xs signals signals (omega arith) (unread_between g.N.Machine h 0 n c.args.skipped.now xs c.requires.unread c.next-to.ensures.passed) (none_handed_to g.N.Machine h xs signals)

pub walk-preserved : goal.walk-preserved
walk-preserved g c =
    let h = c.args.number in
    let xs = c.args.subscriptions.now in
    let ys = c.walk.subscriptions in
    let at = c.walk.to in
    let n = c.next-to-in-walk.result in
    let x = c.index-subscriptions-to.result in
    let y = c.hand.new.self in
    let count = c.walk.invariant.count in
    let less = c.walk-test.true in
    let within : at < length xs = omega (arith, count, less) in
    subs_past g.N.Machine h (at + 1) n xs (set ys at y) c.args.signals.now.items c.hand.new.signals.items c.next-to-in-walk.ensures.above (unread_between g.N.Machine h (at + 1) n c.args.skipped.now xs c.requires.unread c.next-to-in-walk.ensures.passed)
    (handed_next (λ z. Part.readers g.N.Machine h z.part) (λ z. Part.has_room_for g.N.Machine h z.part) (IsHanded g.N.Machine h) at xs ys x y c.args.signals.now.items c.walk.signals.items c.hand.new.signals.items within c.walk.invariant c.hand.ensures (length-set ys at y))

pub walk-smaller : goal.walk-smaller
walk-smaller g c =
    let long = c.walk.auto.subscriptions in
    let less = c.walk-test.true in
    let above = c.next-to-in-walk.ensures.above in
    omega (arith, long, less, above)

pub returns : goal.returns
returns g c =
    let i = c.walk.invariant in
    let xs = c.args.subscriptions.now in
    let h = c.args.number in
    let count = i.count in
    let all = c.walk-test.false in
    let done : length xs ≤ c.walk.to = omega (arith, count, all) in
    handed_through (λ z. Part.readers g.N.Machine h z.part) (λ z. Part.has_room_for g.N.Machine h z.part) (IsHanded g.N.Machine h) c.walk.to xs c.walk.subscriptions c.args.signals.now.items c.walk.signals.items count done i.handed
