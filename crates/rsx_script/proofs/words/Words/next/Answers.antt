use Rattle.std.proofs.Common.{◌≡◌, ◌∷◌, [], Ok, sym, ap, ◌∙◌, arith}
use Rattle.std.proofs.lemmas.List.{nil_from_length}
use Rattle.rsx_script.specs.Words.{opening, closing, nothing, column_of}
use Rattle.rsx_script.specs.Reading.{left, left_at, next_at}
use Rattle.rsx_script.proofs.Runs.{end_is, opening_is, closing_is, first_and_rest, begins_no_separator}
use Rattle.rsx_script.proofs.words.Words.next.Goals as goal

pub returns-in_default-clause-word : goal.returns-in_default-clause-word
unfolding left
returns-in_default-clause-word c =
    let at = c.skip_spaces.new.self.end in
    let bytes = c.skip_spaces.new.self.rest.now in
    let there : bytes ≡ [] = nil_from_length bytes c.in_default.ensures.cases in
    let behind : column_of at [] ≡ at = omega arith in
    ap next_at (sym c.skip_spaces.ensures.same) ∙ ap (λ l. next_at (left_at at l)) there ∙ end_is at
    ∙ sym (ap (λ n. Ok ((n, nothing), left_at at bytes)) (c.column-column.ensures.value ∙ ap (column_of at) there ∙ behind) ∙ ap (λ l. Ok ((at, nothing), left_at at l)) there)

pub returns-then-first-eq40-clause-word : goal.returns-then-first-eq40-clause-word
unfolding left
returns-then-first-eq40-clause-word c =
    let at = c.skip_spaces.new.self.end in
    let bytes = c.skip_spaces.new.self.rest.now in
    let there : bytes ≡ 40 ∷ c.in-Some.rest.now = first_and_rest bytes c.in-Some.rest.now c.in-Some.first.now c.in-Some.ensures.cases ∙ ap (λ b. b ∷ c.in-Some.rest.now) c.if-first-eq40.true in
    ap next_at (sym c.skip_spaces.ensures.same) ∙ ap (λ l. next_at (left_at at l)) there ∙ opening_is at c.in-Some.rest.now
    ∙ sym (ap (λ n. Ok ((n, opening), left_at at c.in-Some.rest.now)) (c.column-column.ensures.value ∙ ap (column_of at) there))

pub returns-then-first-eq41-clause-word : goal.returns-then-first-eq41-clause-word
unfolding left
returns-then-first-eq41-clause-word c =
    let at = c.skip_spaces.new.self.end in
    let bytes = c.skip_spaces.new.self.rest.now in
    let there : bytes ≡ 41 ∷ c.in-Some.rest.now = first_and_rest bytes c.in-Some.rest.now c.in-Some.first.now c.in-Some.ensures.cases ∙ ap (λ b. b ∷ c.in-Some.rest.now) c.if-first-eq41.true in
    ap next_at (sym c.skip_spaces.ensures.same) ∙ ap (λ l. next_at (left_at at l)) there ∙ closing_is at c.in-Some.rest.now
    ∙ sym (ap (λ n. Ok ((n, closing), left_at at c.in-Some.rest.now)) (c.column-column.ensures.value ∙ ap (column_of at) there))

pub text-requires : goal.text-requires
text-requires c =
    let bytes = c.skip_spaces.new.self.rest.now in
    begins_no_separator c.in-Some.first.now c.args.self.now.rest.now bytes c.in-Some.rest.now c.skip_spaces.ensures.rest (first_and_rest bytes c.in-Some.rest.now c.in-Some.first.now c.in-Some.ensures.cases) c.if-first-eq40.false c.if-first-eq41.false
