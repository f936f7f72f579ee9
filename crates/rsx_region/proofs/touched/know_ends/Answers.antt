use Rattle.std.proofs.Common.{◌<◌, Vec, ap, arith, length, refl, ◌∙◌}
use Rattle.rsx_region.specs.declared.piece.Piece.{Piece}
use Rattle.rsx_region.proofs.Rows.{numbers_kept, rows_kept}
use Rattle.rsx_region.proofs.touched.know_ends.Goals as goal

pub returns-in_err-know-clause-rows : goal.returns-in_err-know-clause-rows
returns-in_err-know-clause-rows g c =
    let long = c.loop-at.auto.regions in
    let end = c.loop-at.auto.at-end in
    let test = c.loop-at-test.true in
    let less : c.loop-at.at < length c.loop-at.regions = omega (arith, long, end, test) in
    rows_kept c.loop-at.regions c.loop-at.at c.loop-at.at c.index-regions-at.result c.know.new.self refl less (ap (λ (p : Vec (Piece _ _) _). p.items) c.know.ensures.0) ∙ c.loop-at.invariant.rows

pub returns-in_err-know-clause-numbers : goal.returns-in_err-know-clause-numbers
returns-in_err-know-clause-numbers g c =
    let long = c.loop-at.auto.regions in
    let end = c.loop-at.auto.at-end in
    let test = c.loop-at-test.true in
    let less : c.loop-at.at < length c.loop-at.regions = omega (arith, long, end, test) in
    numbers_kept c.loop-at.regions c.loop-at.at c.loop-at.at c.index-regions-at.result c.know.new.self refl less c.know.ensures.1 ∙ c.loop-at.invariant.numbers

pub loop-at-preserved : goal.loop-at-preserved
loop-at-preserved g c =
    let long = c.loop-at.auto.regions in
    let end = c.loop-at.auto.at-end in
    let test = c.loop-at-test.true in
    let less : c.loop-at.at < length c.loop-at.regions = omega (arith, long, end, test) in record {
      rows = rows_kept c.loop-at.regions c.loop-at.at c.loop-at.at c.index-regions-at.result c.know.new.self refl less (ap (λ (p : Vec (Piece _ _) _). p.items) c.know.ensures.0) ∙ c.loop-at.invariant.rows;
      numbers = numbers_kept c.loop-at.regions c.loop-at.at c.loop-at.at c.index-regions-at.result c.know.new.self refl less c.know.ensures.1 ∙ c.loop-at.invariant.numbers;
    }
