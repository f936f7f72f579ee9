use Rattle.std.proofs.Common.{refl, rules, subst, ◌∙◌, arith}
use Rattle.rsx_serialized.specs.Resting.{HasLeftOne}
use Rattle.rsx_serialized.proofs.Goes.{region_on, region_same}
use Rattle.rsx_serialized.proofs.Rounds.{busy_then, then_busy}
use Rattle.rsx_serialized.proofs.region.GraphRegion.take_from.Goals as goal

pub loop-signal-init : goal.loop-signal-init
loop-signal-init g c = record { goes = region_same c.args.links.now c.args.self.now c.requires.ends; none = λ e. (refl, refl); busy = λ e. cc; pending = refl; outlets = refl; joins = refl; count = refl }

pub take_at-requires-clause-there : goal.take_at-requires-clause-there
take_at-requires-clause-there g c κs within =
    let count = c.loop-signal.invariant.count in
    let there = c.requires.there in
    omega (arith, count, there)

pub returns-then-not-take_at-clause-goes : goal.returns-then-not-take_at-clause-goes
returns-then-not-take_at-clause-goes g c = region_on c.args.links.now c.args.self.now c.loop-signal.self c.take_at.new.self c.loop-signal.invariant.goes c.take_at.ensures.goes

pub returns-then-not-take_at-clause-none : goal.returns-then-not-take_at-clause-none
returns-then-not-take_at-clause-none g c e =
    let same = (c.loop-signal.invariant.none e).1 in
    subst (λ r. HasLeftOne c.args.at r c.take_at.new.self) same (c.take_at.ensures.none (search rules))

pub returns-then-not-take_at-clause-busy : goal.returns-then-not-take_at-clause-busy
returns-then-not-take_at-clause-busy g c e = busy_then c.args.self.now c.loop-signal.self c.take_at.new.self (c.loop-signal.invariant.busy e) c.take_at.ensures.goes.1

pub returns-then-not-take_at-clause-aside : goal.returns-then-not-take_at-clause-aside
returns-then-not-take_at-clause-aside g c = (c.take_at.ensures.aside.0 ∙ c.loop-signal.invariant.pending, c.take_at.ensures.aside.1 ∙ c.loop-signal.invariant.outlets, c.take_at.ensures.aside.2 ∙ c.loop-signal.invariant.joins)

pub returns-then-not-take_at-clause-count : goal.returns-then-not-take_at-clause-count
returns-then-not-take_at-clause-count g c = c.take_at.ensures.count ∙ c.loop-signal.invariant.count

pub loop-signal-preserved : goal.loop-signal-preserved
loop-signal-preserved g c = record {
  goes = region_on c.args.links.now c.args.self.now c.loop-signal.self c.take_at.new.self c.loop-signal.invariant.goes c.take_at.ensures.goes;
  none = λ e. cc;
  busy = λ e. then_busy c.args.self.now c.loop-signal.self c.take_at.new.self c.loop-signal.invariant.goes.1 (c.take_at.ensures.busy (search rules));
  pending = c.take_at.ensures.aside.0 ∙ c.loop-signal.invariant.pending;
  outlets = c.take_at.ensures.aside.1 ∙ c.loop-signal.invariant.outlets;
  joins = c.take_at.ensures.aside.2 ∙ c.loop-signal.invariant.joins;
  count = c.take_at.ensures.count ∙ c.loop-signal.invariant.count;
}

pub returns-clause-none : goal.returns-clause-none
returns-clause-none g c e =
    let start = (c.loop-signal.invariant.none e).0 in
    absurd (omega (arith, start, c.loop-signal-test.false, c.loop-signal.auto._signal-end))
