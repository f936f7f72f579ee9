use Rattle.std.proofs.Common.{◌≡◌, refl, rules, subst, arith}
use Rattle.rsx_serialized.specs.Rounds.{AreRounds}
use Rattle.rsx_serialized.proofs.Goes.{region_on, region_same}
use Rattle.rsx_serialized.proofs.Resting.{seen_rounds}
use Rattle.rsx_serialized.proofs.Rounds.{rounds_more}
use Rattle.rsx_serialized.proofs.region.GraphRegion.serve.Goals as goal

pub loop-round-init : goal.loop-round-init
loop-round-init g c = record { goes = region_same c.args.links.now c.args.self.now c.requires; first = λ e. refl; rounds = refl; looked = λ some. absurd (omega (arith, some)) }

pub returns-in-Ok-false-clause-goes : goal.returns-in-Ok-false-clause-goes
returns-in-Ok-false-clause-goes g c = region_on c.args.links.now c.args.self.now c.loop-round.self c.round.new.self c.loop-round.invariant.goes c.round.ensures.goes

pub returns-in-Ok-false-clause-looked : goal.returns-in-Ok-false-clause-looked
returns-in-Ok-false-clause-looked g c some = seen_rounds c.loop-round._round c.args.self.now c.loop-round.self c.round.new.self c.loop-round.invariant.first c.loop-round.invariant.looked c.round.ensures.looked

pub returns-in-Err-clause-goes : goal.returns-in-Err-clause-goes
returns-in-Err-clause-goes g c = region_on c.args.links.now c.args.self.now c.loop-round.self c.round.new.self c.loop-round.invariant.goes c.round.ensures.goes

pub returns-in-Err-clause-looked : goal.returns-in-Err-clause-looked
returns-in-Err-clause-looked g c some = seen_rounds c.loop-round._round c.args.self.now c.loop-round.self c.round.new.self c.loop-round.invariant.first c.loop-round.invariant.looked c.round.ensures.looked

pub loop-round-preserved : goal.loop-round-preserved
loop-round-preserved g c = record {
  goes = region_on c.args.links.now c.args.self.now c.loop-round.self c.round.new.self c.loop-round.invariant.goes c.round.ensures.goes;
  first = λ e. absurd (omega (arith, e));
  rounds = rounds_more c.loop-round._round c.args.self.now c.loop-round.self c.round.new.self c.loop-round.invariant.goes.1.1.ops c.loop-round.invariant.rounds (c.in-Ok-true.ensures.busy (search rules));
  looked = λ some. seen_rounds c.loop-round._round c.args.self.now c.loop-round.self c.round.new.self c.loop-round.invariant.first c.loop-round.invariant.looked c.round.ensures.looked;
}

pub returns-clause-looked : goal.returns-clause-looked
returns-clause-looked g c some = c.loop-round.invariant.looked (omega (arith, some, c.loop-round-test.false))

pub returns-clause-none : goal.returns-clause-none
returns-clause-none g c e = (refl, c.loop-round.invariant.first (omega (arith, e, c.loop-round.auto._round-end)))

pub returns-clause-budget : goal.returns-clause-budget
returns-clause-budget g c e =
    let all : c.loop-round._round ≡ c.args.budget = omega (arith, c.loop-round.auto._round-end, c.loop-round-test.false) in
    subst (λ n. AreRounds (g.O.Ops.meaning c.args.self.now.graph.ops) n c.args.self.now c.loop-round.self) all c.loop-round.invariant.rounds
