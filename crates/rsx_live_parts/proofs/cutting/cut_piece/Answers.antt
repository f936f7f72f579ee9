use Rattle.std.proofs.Common.{◌≡◌, ◌+◌, ◌<◌, ◌^◌, inl, inr, refl, sym, ap, ◌∙◌, subst, length, Some, arith}
use Rattle.rsx_region.specs.Pieces.{none_taken}
use Rattle.rsx_region.specs.Trees.{AreCutFrom}
use Rattle.rsx_region.specs.declared.trees.CutTrees.{CutTrees}
use Rattle.rsx_live_parts.specs.Cutting.{sweep_of}
use Rattle.rsx_live_parts.specs.declared.cutting.Placed.{Placed}
use Rattle.rsx_live_parts.proofs.Sweeps.{crosses_here, crosses_is, tried_as, tried_crossing, tried_more, tried_straight}
use Rattle.rsx_live_parts.proofs.Counts.{on_none}
use Rattle.rsx_live_parts.proofs.cutting.cut_piece.Goals as goal
use Rattle.rsx_live_parts.proofs.cutting.cut_piece.Goals.{then-crosses+in_ok-below, else-crosses}

pub loop-at-init : goal.loop-at-init
loop-at-init g c = record {
  there = c.requires.there;
  beside = c.requires.beside;
  count = refl;
  tried = (c.cursor-cursor.result, c.cursor-cursor.ensures, (refl, refl));
  from = λ m n whole most w. w;
}

pub cut_at-requires-clause-there : goal.cut_at-requires-clause-there
cut_at-requires-clause-there g c = c.loop-at.invariant.there

pub cut_at-requires-clause-beside : goal.cut_at-requires-clause-beside
cut_at-requires-clause-beside g c = c.loop-at.invariant.beside

pub returns-in_err-below-clause-beside : goal.returns-in_err-below-clause-beside
returns-in_err-below-clause-beside g c = on_none c.from_residual.result _ c.from_residual.ensures.0

pub returns-in_err-below-clause-from : goal.returns-in_err-below-clause-from
returns-in_err-below-clause-from g c = λ m n whole most w. c.cut_at.ensures.from m n whole most (c.loop-at.invariant.from m n whole most w)

pub returns-after-loop-at-clause-from : goal.returns-after-loop-at-clause-from
returns-after-loop-at-clause-from g c = c.loop-at.invariant.from

pub returns-in_default-clause-from : goal.returns-in_default-clause-from
returns-in_default-clause-from g c = c.loop-at.invariant.from

pub loop-at-preserved : goal.loop-at-preserved
loop-at-preserved g c =
    let i = c.loop-at.invariant in
    let count = c.args.placed.now.count in
    let senders = c.args.senders.now in
    let above = c.args.above in
    let at = c.loop-at.at in
    let old = sweep_of c.args.trees.now c.args.placed.now.places c.args.placed.now.cursors in
    let mid = sweep_of c.loop-at.trees c.loop-at.placed.places c.loop-at.placed.cursors in
    let seen = crosses_is g.N.Machine c.loop-at.trees above at _ _ c.in-Some.is (crosses_here g.N.Machine c.loop-at.trees above at c.index.result.now c.edge_crosses.result i.there c.index.ensures c.edge_crosses.ensures) in
    record {
      there = elim c.if-crosses.branch [
        | then-crosses+in_ok-below w ↦ subst (λ (t : CutTrees _ _). above < length t.pieces.items) (sym w.trees-is) w.cut_at.ensures.there
        | else-crosses w ↦ subst (λ (t : CutTrees _ _). above < length t.pieces.items) (sym w.trees-is) i.there
      ];
      beside = elim c.if-crosses.branch [
        | then-crosses+in_ok-below w ↦ ap (λ (p : Placed). length p.places.items) w.placed-is ∙ (w.in_ok-below.ensures.beside ∙ sym (ap (λ (t : CutTrees _ _). length t.pieces.items) w.trees-is))
        | else-crosses w ↦ ap (λ (p : Placed). length p.places.items) w.placed-is ∙ (i.beside ∙ sym (ap (λ (t : CutTrees _ _). length t.pieces.items) w.trees-is))
      ];
      count = elim c.if-crosses.branch [
        | then-crosses+in_ok-below w ↦ ap (λ (p : Placed). p.count) w.placed-is ∙ (w.cut_at.ensures.count ∙ i.count)
        | else-crosses w ↦ ap (λ (p : Placed). p.count) w.placed-is ∙ i.count
      ];
      tried = (
        i.tried.0,
        i.tried.1,
        elim c.if-crosses.branch [
          | then-crosses+in_ok-below w ↦ (
              let new = sweep_of w.cut_at.new.trees w.cut_at.new.placed.places w.cut_at.new.placed.cursors in
              let crosses = crosses_is g.N.Machine c.loop-at.trees above at _ _ (ap (λ x. Some x) w.if-crosses.true) seen in
              let one = tried_crossing g.N.Machine g.N.CrossingNodes count senders above at mid new c.loop-at.cursor w.behind-cursor.result w.behind-cursor-then-crosses.result c.loop-at.placed.count w.region-region.result w.in_ok-below.below crosses i.count w.region-region.ensures w.behind-cursor.ensures w.behind-cursor-then-crosses.ensures w.in_ok-below.ensures.cut in
              tried_as g.N.Machine g.N.CrossingNodes count senders above (at + 1) old i.tried.0 _ _ _ _ _ _ _ _ w.trees-is (ap (λ (p : Placed). p.places) w.placed-is) (ap (λ (p : Placed). p.cursors) w.placed-is) w.cursor-is (tried_more g.N.Machine g.N.CrossingNodes count senders above at old mid new i.tried.0 c.loop-at.cursor w.behind-cursor-then-crosses.result i.tried.2 one))
          | else-crosses w ↦ (
              let crosses = crosses_is g.N.Machine c.loop-at.trees above at _ _ (ap (λ x. Some x) w.if-crosses.false) seen in
              let one = tried_straight g.N.Machine g.N.CrossingNodes count senders above at mid c.loop-at.cursor crosses in
              tried_as g.N.Machine g.N.CrossingNodes count senders above (at + 1) old i.tried.0 _ _ _ _ _ _ _ _ w.trees-is (ap (λ (p : Placed). p.places) w.placed-is) (ap (λ (p : Placed). p.cursors) w.placed-is) w.cursor-is (tried_more g.N.Machine g.N.CrossingNodes count senders above at old mid mid i.tried.0 c.loop-at.cursor c.loop-at.cursor i.tried.2 one))
        ],
      );
      from = elim c.if-crosses.branch [
        | then-crosses+in_ok-below w ↦ (λ m n whole most k. subst (λ (t : CutTrees _ _). AreCutFrom g.N.Machine g.N.CrossingNodes m (none_taken n) whole t) (sym w.trees-is) (w.cut_at.ensures.from m n whole most (i.from m n whole most k)))
        | else-crosses w ↦ (λ m n whole most k. subst (λ (t : CutTrees _ _). AreCutFrom g.N.Machine g.N.CrossingNodes m (none_taken n) whole t) (sym w.trees-is) (i.from m n whole most k))
      ];
    }

pub returns-in_default-clause-cut : goal.returns-in_default-clause-cut
returns-in_default-clause-cut g c =
    let i = c.loop-at.invariant in
    let end = crosses_is g.N.Machine c.loop-at.trees c.args.above c.loop-at.at _ _ c.in_default.is (crosses_here g.N.Machine c.loop-at.trees c.args.above c.loop-at.at c.index.result.now c.edge_crosses.result i.there c.index.ensures c.edge_crosses.ensures) in
    record { edges = c.loop-at.at; begin = i.tried.0; last = c.loop-at.cursor; there = i.tried.1; tried = i.tried.2; all = inr end }

pub returns-after-loop-at-clause-cut : goal.returns-after-loop-at-clause-cut
returns-after-loop-at-clause-cut g c =
    let i = c.loop-at.invariant in
    let most = c.loop-at.auto.at-end in
    let least = c.loop-at-test.false in
    let full : c.loop-at.at + 1 ≡ 2 ^ 32 = omega (arith, most, least) in
    record { edges = c.loop-at.at; begin = i.tried.0; last = c.loop-at.cursor; there = i.tried.1; tried = i.tried.2; all = inl full }
