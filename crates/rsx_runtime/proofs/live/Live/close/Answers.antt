use Rattle.std.proofs.Common.{ℕ, List, ◌++◌, ap, refl, subst, sym, ◌∙◌}
use Rattle.rsx_region.specs.Spread.{AreIn, rows_of}
use Rattle.rsx_region.specs.declared.piece.Piece.{Piece}
use Rattle.rsx_region.specs.declared.region.Region.{Region}
use Rattle.rsx_runtime.proofs.Backs.{come_back, stand}
use Rattle.rsx_runtime.proofs.live.Live.close.Goals as goal

pub gather-requires-clause-spread : goal.gather-requires-clause-spread
gather-requires-clause-spread g c =
    let l = c.requires.live in
    let e = c.end_each-regions.ensures.list in
    let s = stand g.N.Machine g.N.CrossingNodes g.O.Ops.meaning l.count l.whole c.args.self c.args.plan l.is e.0 e.2 in
    let all = c.deref_mut.ensures.value ∙ (e.1 ∙ ap (λ r. r ++ e.0) c.args.plan.none.1) in
    let P : List ℕ → Type 0 = λ ps. AreIn s.base ps s.pieces (rows_of e.0) in
    let R : List (Region _ _) → Type 0 = λ rs. AreIn s.base c.deref.result.now s.pieces (rows_of rs) in
    (s.base, s.pieces, subst R (sym all) (subst P (sym c.deref.ensures.value) s.are))

pub returns-clause-since : goal.returns-clause-since
returns-clause-since g c = λ n whole is.
    let e = c.end_each-regions.ensures.list in
    let s = stand g.N.Machine g.N.CrossingNodes g.O.Ops.meaning n whole c.args.self c.args.plan is e.0 e.2 in
    let all = c.deref_mut.ensures.value ∙ (e.1 ∙ ap (λ r. r ++ e.0) c.args.plan.none.1) in
    let P : List ℕ → Type 0 = λ ps. AreIn s.base ps s.pieces (rows_of e.0) in
    let R : List (Region _ _) → Type 0 = λ rs. AreIn s.base c.deref.result.now s.pieces (rows_of rs) in
    let came = c.gather.ensures.gathered s.base s.pieces (subst R (sym all) (subst P (sym c.deref.ensures.value) s.are)) in
    come_back g.N.Machine g.N.CrossingNodes g.O.Ops.meaning n whole c.args.self c.args.plan is e.0 e.2 _ (came.0 ∙ ap (λ (ps : List (Piece _ _)). ps ++ s.pieces) c.args.plan.none.0) refl refl
