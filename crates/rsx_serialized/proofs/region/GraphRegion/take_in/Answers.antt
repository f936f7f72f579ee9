use Rattle.std.proofs.Common.{◌≤◌, length, refl, rules, sym, ◌∙◌, arith}
use Rattle.rsx_serialized.proofs.Goes.{region_on, region_same}
use Rattle.rsx_serialized.proofs.Resting.{left_end, left_next, left_start, neither}
use Rattle.rsx_serialized.proofs.Rounds.{either_busy}
use Rattle.rsx_serialized.proofs.region.GraphRegion.take_in.Goals as goal

pub loop-at-init : goal.loop-at-init
loop-at-init g c = record { goes = region_same c.args.links.now c.args.self.now c.requires; none = λ e. left_start c.args.self.now; busy = λ e. cc; pending = refl; outlets = refl; joins = refl; count = search rules }

pub loop-at-preserved : goal.loop-at-preserved
loop-at-preserved g c = record {
  goes = region_on c.args.links.now c.args.self.now c.loop-at.self c.take_from-taken.new.self c.loop-at.invariant.goes c.take_from-taken.ensures.goes;
  none = λ e. let both = neither c.loop-at.taken c.take_from-taken.result e in left_next c.loop-at.at c.args.self.now c.loop-at.self c.take_from-taken.new.self (c.loop-at.invariant.none both.0) (c.take_from-taken.ensures.none both.1);
  busy = λ e. either_busy c.loop-at.taken c.take_from-taken.result c.args.self.now c.loop-at.self c.take_from-taken.new.self c.loop-at.invariant.busy c.take_from-taken.ensures.busy c.loop-at.invariant.goes.1 c.take_from-taken.ensures.goes.1 e;
  pending = c.take_from-taken.ensures.aside.0 ∙ c.loop-at.invariant.pending;
  outlets = c.take_from-taken.ensures.aside.1 ∙ c.loop-at.invariant.outlets;
  joins = c.take_from-taken.ensures.aside.2 ∙ c.loop-at.invariant.joins;
  count = c.loop-at.invariant.count ∙ sym c.take_from-taken.ensures.count;
}

pub returns-clause-none : goal.returns-clause-none
returns-clause-none g c e =
    let count = c.loop-at.invariant.count in
    let all : length c.loop-at.self.inlets.items ≤ c.loop-at.at = omega (arith, count, c.loop-at-test.false) in
    left_end c.loop-at.at c.args.self.now c.loop-at.self all (c.loop-at.invariant.none e)
