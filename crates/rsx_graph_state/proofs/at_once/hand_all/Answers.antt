use Rattle.std.proofs.Common.{◌+◌, ◌<◌, [], arith, length, set}
use Rattle.rsx_pipe.specs.Published.{readers}
use Rattle.rsx_pipe.specs.Taking.{spaces_for}
use Rattle.rsx_subscriber.specs.Published.{IsItemHanded}
use Rattle.rsx_subscriber.specs.declared.subscription.Subscription.{Subscription}
use Rattle.rsx_graph_state.proofs.AllAtOnce.{IsHandedOn, far_begun, far_handed, far_skipped, far_through, fits_at}
use Rattle.rsx_graph_state.proofs.Skipping.{readers_past, unread_between}
use Rattle.rsx_graph_state.proofs.at_once.hand_all.Goals as goal

pub walk-init : goal.walk-init
unfolding IsHandedOn
walk-init g c = λ most xs all len fits.
    let h = c.args.number in
    let subs = c.args.subscriptions.now in
    let n = c.next-to.result in
    let none = unread_between g.N.Machine h 0 n c.args.skipped.now subs c.requires.unread c.next-to.ensures.passed in
    far_skipped g.N.Machine h [] xs 0 n subs subs c.args.items.now.items (omega arith) none (readers_past g.N.Machine h 0 n subs (omega arith) none) (far_begun (λ (x : Subscription g.row.N.Denot g.row.T.Denot). readers g.N.Machine h x.part) (IsItemHanded g.N.Machine h) [] xs subs c.args.items.now.items all)

pub walk-preserved : goal.walk-preserved
unfolding IsHandedOn
walk-preserved g c = λ most xs all len fits.
    let h = c.args.number in
    let subs = c.args.subscriptions.now in
    let ys = c.walk.subscriptions in
    let at = c.walk.to in
    let n = c.next-to-in-walk.result in
    let x = c.index-subscriptions-to.result in
    let y = c.hand_many.new.self in
    let begun = c.walk.invariant most xs all len fits in
    let count = begun.far.count in
    let less = c.walk-test.true in
    let within : at < length subs = omega (arith, count, less) in
    let none = unread_between g.N.Machine h (at + 1) n c.args.skipped.now subs c.requires.unread c.next-to-in-walk.ensures.passed in
    far_skipped g.N.Machine h [] xs (at + 1) n subs (set ys at y) c.hand_many.new.items.items c.next-to-in-walk.ensures.above none (readers_past g.N.Machine h (at + 1) n subs c.next-to-in-walk.ensures.above none)
    (far_handed (λ (x : Subscription g.row.N.Denot g.row.T.Denot). readers g.N.Machine h x.part) (λ m (x : Subscription g.row.N.Denot g.row.T.Denot). spaces_for g.N.Machine g.N.Batches.spaces_of h m x.part) (IsItemHanded g.N.Machine h) c.args.count [] xs at subs ys x y c.walk.items.items c.hand_many.new.items.items within len (λ z there. fits_at g.N.Machine g.N.Batches.spaces_of h c.args.count most at subs z fits there) c.hand_many.ensures begun)

pub walk-smaller : goal.walk-smaller
walk-smaller g c =
    let long = c.walk.auto.subscriptions in
    let less = c.walk-test.true in
    let above = c.next-to-in-walk.ensures.above in
    omega (arith, long, less, above)

pub returns : goal.returns
unfolding IsHandedOn
returns g c most xs all len fits =
    let begun = c.walk.invariant most xs all len fits in
    let count = begun.far.count in
    let past = c.walk-test.false in
    far_through g.N.Machine c.args.number xs c.walk.to c.args.subscriptions.now c.walk.subscriptions c.walk.items.items (omega (arith, count, past)) begun
