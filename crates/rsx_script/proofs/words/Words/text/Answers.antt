use Rattle.std.proofs.Common.{◌≡◌, ◌+◌, ◌<◌, length, Some, None, sym, ap, ◌∙◌, arith, Err, Ok, take, drop}
use Rattle.std.specs.List.{before_first, position, position_or_len}
use Rattle.rsx_script.specs.declared.words.LineRefusal.TheVariants.{Syntax}
use Rattle.rsx_script.specs.Words.{column_of, is_separator, is_strange, text}
use Rattle.rsx_script.specs.Reading.{left, left_at}
use Rattle.rsx_script.proofs.Runs.{strange_is, text_is, place_within}
use Rattle.rsx_script.proofs.words.Words.text.Goals as goal

pub returns-in-Some-clause-word : goal.returns-in-Some-clause-word
unfolding left
returns-in-Some-clause-word c =
    let bytes = c.args.self.now.rest.now in
    let end = c.args.self.now.end in
    let front : c.split_at.result.0.now ≡ before_first is_separator bytes = c.split_at.ensures.front ∙ ap (λ n. take n bytes) c.len_of_word.ensures.place in
    let place : position is_strange (before_first is_separator bytes) ≡ Some c.in-Some.place = ap (position is_strange) (sym front) ∙ sym c.strange_place.ensures ∙ c.in-Some.is in
    let within : c.in-Some.place < length bytes = place_within bytes c.in-Some.place place in
    let column : column_of end bytes + c.in-Some.place ≡ c.saturating_add-column.result = omega (arith, c.column.ensures.value, c.column.ensures.within, c.saturating_add-column.ensures) in
    strange_is end bytes c.in-Some.place c.requires place ∙ ap (λ n. Err (Syntax n)) column

pub returns-in-Some-text_of-clause-word : goal.returns-in-Some-text_of-clause-word
unfolding left
returns-in-Some-text_of-clause-word c =
    let bytes = c.args.self.now.rest.now in
    let at = c.args.self.now.end in
    let front : c.split_at.result.0.now ≡ before_first is_separator bytes = c.split_at.ensures.front ∙ ap (λ n. take n bytes) c.len_of_word.ensures.place in
    let back : c.split_at.result.1.now ≡ drop (position_or_len is_separator bytes) bytes = c.split_at.ensures.back ∙ ap (λ n. drop n bytes) c.len_of_word.ensures.place in
    let place : position is_strange (before_first is_separator bytes) ≡ None = ap (position is_strange) (sym front) ∙ sym c.strange_place.ensures ∙ c.in_default.is in
    let word : c.in-Some-text_of.text.now ≡ before_first is_separator bytes = c.in-Some-text_of.ensures ∙ front in
    text_is at bytes c.requires place ∙ sym (ap (λ w. Ok ((column_of at bytes, text w), left_at at c.split_at.result.1.now)) word ∙ ap (λ l. Ok ((column_of at bytes, text (before_first is_separator bytes)), left_at at l)) back)
