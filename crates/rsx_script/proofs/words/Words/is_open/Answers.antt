use Rattle.std.proofs.Common.{◌≡◌, ◌∷◌, [], drop, sym, ap, ◌∙◌}
use Rattle.rsx_types.proofs.Lists.{nil_from_no_first}
use Rattle.rsx_script.specs.Reading.{left, left_at, is_opening_next}
use Rattle.rsx_script.proofs.Runs.{first_is, is_no_opening_at_end, opening_tells}
use Rattle.rsx_script.proofs.words.Words.is_open.Goals as goal

pub returns-in-Some-clause-is : goal.returns-in-Some-clause-is
unfolding left
returns-in-Some-clause-is c =
    let at = c.skip_spaces.new.self.end in
    let bytes = c.skip_spaces.new.self.rest.now in
    let there : bytes ≡ c.in-Some.byte.now ∷ drop 1 bytes = first_is bytes c.in-Some.byte.now c.in-Some.ensures.value in
    let tells = opening_tells at c.in-Some.byte.now c.args.self.now.rest.now (drop 1 bytes) (sym c.skip_spaces.ensures.rest ∙ there) in
    sym (ap is_opening_next (sym c.skip_spaces.ensures.same) ∙ ap (λ l. is_opening_next (left_at at l)) there ∙ tells)

pub returns-in-None-clause-is : goal.returns-in-None-clause-is
unfolding left
returns-in-None-clause-is c =
    let at = c.skip_spaces.new.self.end in
    let bytes = c.skip_spaces.new.self.rest.now in
    let there : bytes ≡ [] = nil_from_no_first bytes c.in-None.ensures.value in
    sym (ap is_opening_next (sym c.skip_spaces.ensures.same) ∙ ap (λ l. is_opening_next (left_at at l)) there ∙ is_no_opening_at_end at)
