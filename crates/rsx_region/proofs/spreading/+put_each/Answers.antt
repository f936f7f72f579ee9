use Rattle.std.proofs.Common.{◌∷◌, ◌++◌, [], List, ap, sym, subst, ◌∙◌}
use Rattle.rsx_region.specs.Spread.{AreIn, rows_of}
use Rattle.rsx_region.specs.declared.piece.Piece.{Piece}
use Rattle.rsx_region.proofs.Rows.{in_more, put_there_still, put_undone}
use Rattle.rsx_region.proofs.spreading.+put_each.Goals as goal

pub returns-clause-ok : goal.returns-clause-ok
returns-clause-ok g t c =
    let below = c.in_default-put_each.ensures.ok in
    let place = c.in-Some.place.now in
    let piece = c.in-Some-pop.piece in
    let all = in_more (rows_of c.args.regions.now) (rows_of c.put_at.new.regions) (rows_of c.put_each.new.regions) c.in-Some.others.now c.pop.new.self.items place piece c.in_default-put_at.ensures.ok below.0 in
    let P : List _ → Type 0 = λ ps. AreIn (rows_of c.args.regions.now) ps (c.pop.new.self.items ++ piece ∷ []) (rows_of c.put_each.new.regions) in
    let X : List (Piece _ _) → Type 0 = λ xs. AreIn (rows_of c.args.regions.now) c.args.places.now xs (rows_of c.put_each.new.regions) in
    (subst X (sym c.in-Some-pop.ensures.items) (subst P (sym c.in-Some.ensures.cases.0) all), below.1)

pub returns-in-Some-take_from-clause-err : goal.returns-in-Some-take_from-clause-err
returns-in-Some-take_from-clause-err g t c =
    let same = c.in-Err-put_each.ensures.err in
    let took = c.in-Some-take_from.ensures.some in
    let undone = put_undone (rows_of c.args.regions.now) (rows_of c.put_at.new.regions) (rows_of c.put_each.new.regions) (rows_of c.take_from.new.regions) c.in-Some.place.now c.in-Some-pop.piece c.in-Some-take_from.piece took.0 c.in_default-put_at.ensures.ok same.0 took.1 took.2 in
    (undone.0, c.push_reserved-in-Some-take_from.ensures.items ∙ (ap (λ l. l ++ c.in-Some-take_from.piece ∷ []) same.1 ∙ (ap (λ x. c.pop.new.self.items ++ x ∷ []) undone.1 ∙ sym c.in-Some-pop.ensures.items)))

pub returns-in_default-take_from-clause-err : goal.returns-in_default-take_from-clause-err
returns-in_default-take_from-clause-err g t c = absurd (put_there_still (rows_of c.args.regions.now) (rows_of c.put_at.new.regions) (rows_of c.put_each.new.regions) c.in-Some.place.now c.in-Some-pop.piece c.in_default-put_at.ensures.ok c.in-Err-put_each.ensures.err.0 c.in_default-take_from.ensures.none)
