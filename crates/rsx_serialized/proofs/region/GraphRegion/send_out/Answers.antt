use Rattle.std.proofs.Common.{◌≡◌, length, refl, rules, sym, ◌∙◌, subst, arith}
use Rattle.rsx_serialized.specs.Resting.{HasSentNone}
use Rattle.rsx_serialized.proofs.Goes.{region_on, region_same}
use Rattle.rsx_serialized.proofs.Resting.{none_held, still_on, still_same}
use Rattle.rsx_serialized.proofs.Rounds.{busy_then, then_busy}
use Rattle.rsx_serialized.proofs.region.GraphRegion.send_out.Goals as goal

pub loop-signal-init : goal.loop-signal-init
loop-signal-init g c = record { goes = region_same c.args.links.now c.args.self.now c.requires; still = still_same c.args.self.now.outlets.items; same = refl; none = λ e. (refl, refl); busy = λ e. cc; left = omega arith; count = search rules }

pub returns-then-not-send_one-clause-goes : goal.returns-then-not-send_one-clause-goes
returns-then-not-send_one-clause-goes g c = region_on c.args.links.now c.args.self.now c.loop-signal.self c.send_one.new.self c.loop-signal.invariant.goes c.send_one.ensures.goes

pub returns-then-not-send_one-clause-still : goal.returns-then-not-send_one-clause-still
returns-then-not-send_one-clause-still g c = still_on c.args.self.now.outlets.items c.loop-signal.self.outlets.items c.send_one.new.self.outlets.items c.loop-signal.invariant.still c.send_one.ensures.still

pub returns-then-not-send_one-clause-none : goal.returns-then-not-send_one-clause-none
returns-then-not-send_one-clause-none g c e =
    let same = (c.loop-signal.invariant.none e).1 in
    subst (λ r. HasSentNone r c.send_one.new.self) same (c.send_one.ensures.none (search rules))

pub returns-then-not-send_one-clause-same : goal.returns-then-not-send_one-clause-same
returns-then-not-send_one-clause-same g c = c.send_one.ensures.same ∙ c.loop-signal.invariant.same

pub loop-signal-preserved : goal.loop-signal-preserved
loop-signal-preserved g c = record {
  goes = region_on c.args.links.now c.args.self.now c.loop-signal.self c.send_one.new.self c.loop-signal.invariant.goes c.send_one.ensures.goes;
  still = still_on c.args.self.now.outlets.items c.loop-signal.self.outlets.items c.send_one.new.self.outlets.items c.loop-signal.invariant.still c.send_one.ensures.still;
  same = c.send_one.ensures.same ∙ c.loop-signal.invariant.same;
  none = λ e. cc;
  busy = λ e. then_busy c.args.self.now c.loop-signal.self c.send_one.new.self c.loop-signal.invariant.goes.1 (c.send_one.ensures.busy (search rules));
  left = let fewer = c.send_one.ensures.fewer (search rules) in let left = c.loop-signal.invariant.left in omega (arith, fewer, left);
  count = c.loop-signal.invariant.count;
}

pub returns-then-not-send_one-clause-held : goal.returns-then-not-send_one-clause-held
returns-then-not-send_one-clause-held g c = (c.send_one.ensures.none (search rules)).held

pub returns-clause-held : goal.returns-clause-held
returns-clause-held g c =
    let count = c.loop-signal.invariant.count in
    let left = c.loop-signal.invariant.left in
    let empty : length c.loop-signal.self.pending.items ≡ 0 = omega (arith, count, left, c.loop-signal-test.false) in
    none_held c.loop-signal.self.pending.items c.loop-signal.self.outlets.items empty

pub returns-clause-none : goal.returns-clause-none
returns-clause-none g c e =
    let start = c.loop-signal.invariant.none e in
    let count = c.loop-signal.invariant.count in
    let first = start.0 in
    let empty : length c.args.self.now.pending.items ≡ 0 = omega (arith, count, first, c.loop-signal-test.false) in
    let none : HasSentNone c.args.self.now c.args.self.now = record { pending = refl; held = none_held c.args.self.now.pending.items c.args.self.now.outlets.items empty } in
    subst (λ r. HasSentNone c.args.self.now r) (sym start.1) none

pub returns-then-not-send_one-clause-busy : goal.returns-then-not-send_one-clause-busy
returns-then-not-send_one-clause-busy g c e = busy_then c.args.self.now c.loop-signal.self c.send_one.new.self (c.loop-signal.invariant.busy e) c.send_one.ensures.goes.1
