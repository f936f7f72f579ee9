use Rattle.std.proofs.Common.{sym, ap, ◌∙◌, ◌∷◌, arith}
use Rattle.rsx_link.specs.declared.place.PlaceStep.TheVariants.{Collect}
use Rattle.rsx_link.specs.Collected.{is_collected}
use Rattle.rsx_link.proofs.PlaceCollects.{still_collected}
use Rattle.rsx_link.proofs.places.Places.collect.Goals as goal

pub returns-in-Some-clause-some : goal.returns-in-Some-clause-some
returns-in-Some-clause-some g c =
    let found = c.in-Some.ensures.some in let at = c.loop-at.at in let before = c.loop-at.invariant in
    let lt = c.loop-at-test.true in let count = before.count in record {
      within = omega arith;
      once = sym (still_collected at at _) ∙ ap (is_collected at) (sym before.steps) ∙ found.0;
      steps = found.1 ∙ ap (λ steps. Collect at c.in-Some.part ∷ steps) before.steps;
    }
