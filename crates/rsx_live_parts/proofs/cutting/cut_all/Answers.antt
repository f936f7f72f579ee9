use Rattle.std.proofs.Common.{◌≡◌, ◌+◌, ◌≤◌, ◌^◌, inl, inr, ℕ, ◌<◌, length, map, ap, subst, sym, ◌∙◌, arith, Vec, Global}
use Rattle.rsx_region.specs.Pieces.{Each}
use Rattle.rsx_live_parts.specs.Cursors.{first_of, root_in}
use Rattle.rsx_live_parts.specs.Cutting.{AreSwept, IsSwept, Sweep, sweep_of}
use Rattle.rsx_live_parts.proofs.Counts.{if_none}
use Rattle.rsx_live_parts.proofs.Sweeps.{sweep_is, swept_more}
use Rattle.rsx_live_parts.proofs.cutting.cut_all.Goals as goal
use Rattle.rsx_live_parts.proofs.cutting.cut_all.Goals.{else-loop-above-test, then-loop-above-test+then-above-len}

pub of_taps-requires : goal.of_taps-requires
of_taps-requires g c = c.requires.some

pub returns-in_err-placed-clause-places : goal.returns-in_err-placed-clause-places
returns-in_err-placed-clause-places g c = if_none c.from_residual.result _ c.from_residual.ensures.0

pub returns-in_err-placed-clause-from : goal.returns-in_err-placed-clause-from
returns-in_err-placed-clause-from g c = λ m n whole most w. w

pub loop-above-init : goal.loop-above-init
loop-above-init g c = record {
  beside = c.in_ok-placed.ensures.beside ∙ c.requires.taps;
  count = c.in_ok-placed.ensures.count;
  swept = sweep_is c.args.trees.now _ _ _ _ c.in_ok-placed.ensures.places c.in_ok-placed.ensures.cursors;
  from = λ m n whole most w. w;
}

pub cut_piece-requires-clause-beside : goal.cut_piece-requires-clause-beside
cut_piece-requires-clause-beside g c = c.loop-above.invariant.beside

pub returns-in_err-cut_piece-clause-places : goal.returns-in_err-cut_piece-clause-places
returns-in_err-cut_piece-clause-places g c = if_none c.from_residual-in_err-cut_piece.result _ c.from_residual-in_err-cut_piece.ensures.0

pub returns-in_err-cut_piece-clause-from : goal.returns-in_err-cut_piece-clause-from
returns-in_err-cut_piece-clause-from g c = λ m n whole most w. c.cut_piece.ensures.from m n whole most (c.loop-above.invariant.from m n whole most w)

pub loop-above-preserved : goal.loop-above-preserved
loop-above-preserved g c = record {
  beside = c.in_ok-cut_piece.ensures.beside;
  count = c.cut_piece.ensures.count ∙ c.loop-above.invariant.count;
  swept = swept_more g.N.Machine g.N.CrossingNodes c.args.count c.args.senders.now c.loop-above.above _ _ _ c.loop-above.invariant.swept
      (subst (λ (k : ℕ). IsSwept g.N.Machine g.N.CrossingNodes k c.args.senders.now c.loop-above.above (sweep_of c.loop-above.trees c.loop-above.placed.places c.loop-above.placed.cursors) (sweep_of c.cut_piece.new.trees c.cut_piece.new.placed.places c.cut_piece.new.placed.cursors)) c.loop-above.invariant.count c.in_ok-cut_piece.ensures.cut);
  from = λ m n whole most w. c.cut_piece.ensures.from m n whole most (c.loop-above.invariant.from m n whole most w);
}

pub returns-clause-places : goal.returns-clause-places
returns-clause-places g c =
    let T : ℕ → Type 0 = λ k. Each (λ (p : ℕ). p < k) c.into_places.result.items in
    (ap (λ v. length v.items) c.into_places.ensures.same ∙ c.loop-above.invariant.beside, subst T c.loop-above.invariant.count c.into_places.ensures.there)

pub returns-clause-from : goal.returns-clause-from
returns-clause-from g c = c.loop-above.invariant.from

pub returns-clause-cut : goal.returns-clause-cut
returns-clause-cut g c =
    let i = c.loop-above.invariant in
    let pieces = c.loop-above.trees.pieces in
    let first : Sweep _ _ = record { trees = c.args.trees.now; places = map (root_in c.args.count c.args.roots.now) c.args.taps.now; cursors = map first_of c.args.taps.now } in
    record {
      pieces = c.loop-above.above;
      cursors = c.loop-above.placed.cursors.items;
      swept = subst (λ (v : Vec ℕ Global). AreSwept g.N.Machine g.N.CrossingNodes c.args.count c.args.senders.now c.loop-above.above first (sweep_of c.loop-above.trees v c.loop-above.placed.cursors)) (sym c.into_places.ensures.same) i.swept;
      all = elim c.loop-above-test.branch [
        | else-loop-above-test w ↦ (
            let most = c.loop-above.auto.above-end in
            let least = w.loop-above-test.false in
            let full : c.loop-above.above + 1 ≡ 2 ^ 32 = omega (arith, most, least) in
            inl full)
        | then-loop-above-test+then-above-len w ↦ (
            let len = w.len.ensures ∙ pieces.ok.0 in
            let less = w.if-above-len.true in
            let all : length pieces.items ≤ c.loop-above.above = omega (arith, len, less) in
            inr all)
      ];
    }
