use Rattle.std.proofs.Common.{◌≡◌, ◌<◌, ℕ, List, length, refl, sym, ◌∙◌, arith, subst}
use Rattle.rsx_graph.specs.InGraph.{state_of}
use Rattle.rsx_serialized.proofs.Resting.{seen_end, seen_next, seen_start}
use Rattle.rsx_serialized.proofs.region.GraphRegion.look.Goals as goal

pub loop-at-init : goal.loop-at-init
loop-at-init g c =
    let outlets = c.len.ensures in
    let spare = c.len-2.ensures in
    let all_outlets = c.args.self.now.outlets.ok.0 in
    let all_spare = c.args.self.now.spare.ok.0 in
    let total = c.requires.spare.count in
    let ends = c.requires.outlets.count in
    record { ends = c.requires; looked = seen_start c.args.self.now; joins = refl; count = omega (arith, outlets, spare, all_outlets, all_spare, total, ends) }

pub look_at-requires-clause-there : goal.look_at-requires-clause-there
look_at-requires-clause-there g c κs within =
    let count = c.loop-at.invariant.count in
    let here : c.loop-at.at < length (state_of c.args.self.now.graph).joins = omega (arith, count, c.loop-at-test.true) in
    subst (λ (js : List (List ℕ)). c.loop-at.at < length js) (sym c.loop-at.invariant.joins) here

pub loop-at-preserved : goal.loop-at-preserved
loop-at-preserved g c = record {
  ends = c.look_at.ensures.goes.0;
  looked = seen_next c.loop-at.at c.args.self.now c.loop-at.self c.look_at.new.self c.loop-at.invariant.looked c.look_at.ensures.looked;
  joins = c.look_at.ensures.joins ∙ c.loop-at.invariant.joins;
  count = c.loop-at.invariant.count;
}

pub returns-clause-goes : goal.returns-clause-goes
returns-clause-goes g c = (c.loop-at.invariant.ends, (c.loop-at.invariant.looked.events, c.loop-at.invariant.looked.goes))

pub returns-clause-looked : goal.returns-clause-looked
returns-clause-looked g c =
    let count = c.loop-at.invariant.count in
    let all : c.loop-at.at ≡ length (state_of c.args.self.now.graph).joins = omega (arith, count, c.loop-at.auto.at-end, c.loop-at-test.false) in
    seen_end (g.O.Ops.meaning c.args.self.now.graph.ops) c.loop-at.at c.args.self.now c.loop-at.self all c.loop-at.invariant.joins c.loop-at.invariant.looked
