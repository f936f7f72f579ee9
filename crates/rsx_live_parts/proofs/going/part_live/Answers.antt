use Rattle.std.proofs.lemmas.Result.{IfErr-weaker, IfOk-weaker}
use Rattle.std.proofs.Common.{◌∙◌, ap, length, sym, subst, Vec, Global}
use Rattle.rsx_region.specs.Pieces.{none_taken}
use Rattle.rsx_live_parts.specs.Kept.{AllMustStay}
use Rattle.rsx_live_parts.specs.Lives.{most_numbers}
use Rattle.rsx_live_parts.specs.declared.kept.Kept.{Kept}
use Rattle.rsx_live_parts.proofs.Closings.{all_cut, as_many_taps, cut_first, gone_of, still_cut}
use Rattle.rsx_live_parts.proofs.going.part_live.Goals as goal

pub give_back-requires-after_bounds : goal.give_back-requires-after_bounds
give_back-requires-after_bounds g c κs within =
    let m = g.O.Ops.meaning c.args.ops in
    let p = c.args.parted in
    let k = c.requires.out in
    (k.0, gone_of g.N.Machine m g.N.CrossingNodes k.0 p.kept.items p.taps.items c.new-trees.result (cut_first g.N.Machine g.N.CrossingNodes m k.0 p.kept.items p.taps.items p.pieces p.links c.new-trees.result k.1 c.new-trees.ensures.made (λ o. c.new-trees.ensures.from m (none_taken most_numbers) o)))

pub returns-then-refused-clause-err : goal.returns-then-refused-clause-err
returns-then-refused-clause-err g c = λ subs out.
    let m = g.O.Ops.meaning c.args.ops in
    let p = c.args.parted in
    c.give_back.ensures subs (gone_of g.N.Machine m g.N.CrossingNodes subs p.kept.items p.taps.items c.new-trees.result (cut_first g.N.Machine g.N.CrossingNodes m subs p.kept.items p.taps.items p.pieces p.links c.new-trees.result out c.new-trees.ensures.made (λ o. c.new-trees.ensures.from m (none_taken most_numbers) o)))

pub cut_all-requires-clause-taps : goal.cut_all-requires-clause-taps
cut_all-requires-clause-taps g c =
    let m = g.O.Ops.meaning c.args.ops in
    let p = c.args.parted in
    let k = c.requires.out in
    ap length c.deref.ensures.value ∙ (as_many_taps g.N.Machine g.N.CrossingNodes m k.0 0 p.kept.items p.pieces.items p.links.items p.taps.items k.1 ∙ sym (ap (λ v. length v.items) c.new-trees.ensures.made.0))

pub give_back-requires-in_default-after_bounds : goal.give_back-requires-in_default-after_bounds
give_back-requires-in_default-after_bounds g c κs within =
    let m = g.O.Ops.meaning c.args.ops in
    let p = c.args.parted in
    let k = c.requires.out in
    let first = cut_first g.N.Machine g.N.CrossingNodes m k.0 p.kept.items p.taps.items p.pieces p.links c.new-trees.result k.1 c.new-trees.ensures.made (λ o. c.new-trees.ensures.from m (none_taken most_numbers) o) in
    (k.0, gone_of g.N.Machine m g.N.CrossingNodes k.0 p.kept.items p.taps.items c.cut_all.new.trees (still_cut g.N.Machine g.N.CrossingNodes m k.0 p.kept.items p.taps.items c.new-trees.result c.cut_all.new.trees first (λ n whole most cut. c.cut_all.ensures.from m n whole most cut)))

pub returns-in_default-clause-err : goal.returns-in_default-clause-err
returns-in_default-clause-err g c = λ subs out.
    let m = g.O.Ops.meaning c.args.ops in
    let p = c.args.parted in
    let first = cut_first g.N.Machine g.N.CrossingNodes m subs p.kept.items p.taps.items p.pieces p.links c.new-trees.result out c.new-trees.ensures.made (λ o. c.new-trees.ensures.from m (none_taken most_numbers) o) in
    c.give_back-in_default.ensures subs (gone_of g.N.Machine m g.N.CrossingNodes subs p.kept.items p.taps.items c.cut_all.new.trees (still_cut g.N.Machine g.N.CrossingNodes m subs p.kept.items p.taps.items c.new-trees.result c.cut_all.new.trees first (λ n whole most cut. c.cut_all.ensures.from m n whole most cut)))

pub begin-requires-clause-from : goal.begin-requires-clause-from
begin-requires-clause-from g c κs within =
    let m = g.O.Ops.meaning c.args.ops in
    let p = c.args.parted in
    let k = c.requires.out in
    let first = cut_first g.N.Machine g.N.CrossingNodes m k.0 p.kept.items p.taps.items p.pieces p.links c.new-trees.result k.1 c.new-trees.ensures.made (λ o. c.new-trees.ensures.from m (none_taken most_numbers) o) in
    (k.0, still_cut g.N.Machine g.N.CrossingNodes m k.0 p.kept.items p.taps.items c.new-trees.result c.cut_all.new.trees first (λ n whole most cut. c.cut_all.ensures.from m n whole most cut))

pub returns-clause-live : goal.returns-clause-live
returns-clause-live g c = IfOk-weaker c.begin.result _ _ (λ s h subs out.
    let m = g.O.Ops.meaning c.args.ops in
    let p = c.args.parted in
    let first = cut_first g.N.Machine g.N.CrossingNodes m subs p.kept.items p.taps.items p.pieces p.links c.new-trees.result out c.new-trees.ensures.made (λ o. c.new-trees.ensures.from m (none_taken most_numbers) o) in
    h subs (still_cut g.N.Machine g.N.CrossingNodes m subs p.kept.items p.taps.items c.new-trees.result c.cut_all.new.trees first (λ n whole most cut. c.cut_all.ensures.from m n whole most cut))) c.begin.ensures.live

pub returns-clause-err : goal.returns-clause-err
returns-clause-err g c = IfErr-weaker c.begin.result _ _ (λ e h subs out.
    let m = g.O.Ops.meaning c.args.ops in
    let p = c.args.parted in
    let first = cut_first g.N.Machine g.N.CrossingNodes m subs p.kept.items p.taps.items p.pieces p.links c.new-trees.result out c.new-trees.ensures.made (λ o. c.new-trees.ensures.from m (none_taken most_numbers) o) in
    h subs (still_cut g.N.Machine g.N.CrossingNodes m subs p.kept.items p.taps.items c.new-trees.result c.cut_all.new.trees first (λ n whole most cut. c.cut_all.ensures.from m n whole most cut))) c.begin.ensures.err

pub returns-clause-stay : goal.returns-clause-stay
returns-clause-stay g c = IfOk-weaker c.begin.result _ _ (λ s h all. subst (λ (v : Vec (Kept _ _) Global). AllMustStay g.N.Machine v.items) (sym h.2) (all c.if-refused.false)) c.begin.ensures.gates

pub returns-clause-cut : goal.returns-clause-cut
returns-clause-cut g c = IfOk-weaker c.begin.result _ _ (λ s h subs out.
    let p = c.args.parted in
    all_cut g.N.Machine g.N.CrossingNodes subs p s.live.kept s.live.live.links c.new-trees.result c.cut_all.new.trees c.args.workers c.args.senders.now c.args.roots.now c.deref.result.now c.in-Ok.places.items out h.2 c.new-trees.ensures.made c.deref.ensures.value c.in-Ok.ensures.cut h.3) c.begin.ensures.gates

pub returns-clause-gates : goal.returns-clause-gates
returns-clause-gates g c = IfOk-weaker c.begin.result _ _ (λ s h. (h.0, h.1, h.2)) c.begin.ensures.gates
