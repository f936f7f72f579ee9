use Rattle.std.proofs.Common.{rules, ◌≡◌, ◌+◌, ◌++◌, ◌∷◌, [], subst, sym}
use Rattle.rsx_runtime.specs.Resting.{parker_in, parker_of}
use Rattle.rsx_runtime.proofs.Rests.{AreOwn, own_pushed, own_rests}
use Rattle.rsx_runtime.proofs.park.ParkRest.all.Goals as goal

pub loop-preserved : goal.loop-preserved
loop-preserved c =
    let count = c.loop.counter + 1 in
    let unparker = c.in_ok-unparker.unparker in
    let parkers = c.push-in-loop.new.self.items in
    let same : parker_in c.in_ok-own.own ≡ parker_of unparker = search rules in
    let more = own_pushed c.loop.counter c.loop.unparkers.items c.loop.parkers.items unparker c.in_ok-own.own c.loop.invariant same c.in_ok-own.ensures in
    subst (λ unparkers. AreOwn count unparkers parkers) (sym c.in_ok-push.ensures.items) (subst (λ x. AreOwn count (c.loop.unparkers.items ++ unparker ∷ []) x) (sym c.in_ok-push-2.ensures.items) more)

pub returns : goal.returns
returns c = let all : c.loop.counter ≡ c.args.workers = search rules in own_rests c.args.workers c.loop.unparkers.items c.loop.parkers.items c.in_ok-rests.rests.items (subst (λ n. AreOwn n c.loop.unparkers.items c.loop.parkers.items) all c.loop.invariant) c.in_ok-rests.ensures
