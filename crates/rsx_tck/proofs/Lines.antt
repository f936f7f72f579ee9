-- A text line by line, as a loop reads it.
use Rattle.std.proofs.Common.{◌≡◌, ℕ, ◌-◌, ◌+◌, ◌≤◌, ◌<◌, Bool, true, false, eqb, cond, List, [], ◌∷◌, ◌++◌, length, take, drop, Result, Ok, Err, refl, sym, ap, ◌∙◌, append_assoc, arith, inl, inr}
use Rattle.std.specs.Prelude.{not}
use Rattle.std.specs.List.{slice_split, onto_first, before_first, after_first, position_or_len}
use Rattle.std.proofs.lemmas.Bool.{cases_lt}
use Rattle.std.proofs.lemmas.List.{append-nil, take_all, drop_all, length-drop}
use Rattle.std.proofs.lemmas.List.Splits.{slice_split_first, length-slice_split}
use Rattle.rsx_types.proofs.Places.{position_or_len_le}
use Rattle.rsx_tck.specs.declared.event.Stamped.{Stamped}
use Rattle.rsx_tck.specs.declared.line.Line.TheVariants as kinds
use Rattle.rsx_tck.specs.Texts.{lines, lines_of_parts}
use Rattle.rsx_tck.specs.Reading.{◌>>=◌, events_of, line_at, trace_of}

abbrev pub newline : ℕ → Bool
newline b = eqb b 10

whole_step : (t : Bool) (b : ℕ) (bs : List ℕ) (n : ℕ) (parts : List (List ℕ)) → (n ≡ length bs → parts ≡ bs ∷ []) → cond (not t) (1 + n) 0 ≡ length (b ∷ bs) → cond t ([] ∷ parts) (onto_first b parts) ≡ (b ∷ bs) ∷ []
whole_step true b bs n parts ih e = absurd (omega arith)
whole_step false b bs n parts ih e = rw (ih (omega arith)) refl

whole : (bs : List ℕ) → position_or_len newline bs ≡ length bs → slice_split newline bs ≡ bs ∷ []
whole [] e = refl
whole (b ∷ bs) e = whole_step (newline b) b bs (position_or_len newline bs) (slice_split newline bs) (whole bs) e

more_parts : (part : List ℕ) (parts : List (List ℕ)) → 0 < length parts → lines_of_parts (part ∷ parts) ≡ part ∷ lines_of_parts parts
more_parts part [] lt = absurd (omega arith)
more_parts part (next ∷ parts) lt = refl

last_part : (bs : List ℕ) → 0 < length bs → lines_of_parts (bs ∷ []) ≡ bs ∷ []
last_part [] lt = absurd (omega arith)
last_part (b ∷ bs) lt = refl

pub no_line : lines [] ≡ []
unfolding lines
no_line = refl

pub first_line : (bs : List ℕ) → position_or_len newline bs < length bs → lines bs ≡ before_first newline bs ∷ lines (after_first newline bs)
unfolding lines
first_line bs lt =
    ap lines_of_parts (slice_split_first newline bs 0 lt) ∙ more_parts (before_first newline bs) (slice_split newline (after_first newline bs)) (omega (arith, length-slice_split newline (after_first newline bs)))

pub only_line : (bs : List ℕ) → 0 < length bs → length bs ≤ position_or_len newline bs → lines bs ≡ bs ∷ []
unfolding lines
only_line bs lt le = ap lines_of_parts (whole bs (omega (arith, position_or_len_le newline bs))) ∙ last_part bs lt

pub some_line : (bs : List ℕ) → 0 < length bs → lines bs ≡ before_first newline bs ∷ lines (after_first newline bs)
some_line bs lt =
    elim (cases_lt (position_or_len newline bs) (length bs)) [
      | inl less ↦ first_line bs less
      | inr le ↦
          let n = position_or_len newline bs in
          let front : take n bs ≡ bs = take_all n bs le in
          let back : drop (n + 1) bs ≡ [] = drop_all (n + 1) bs (omega arith) in
          rw (front, back, no_line) (only_line bs lt le)
    ]

pub next_first : (bs : List ℕ) (n : ℕ) → n ≡ position_or_len newline bs → n < length bs → lines bs ≡ take n bs ∷ lines (take (length bs - (n + 1)) (drop (n + 1) bs))
next_first bs n e lt =
    let back : take (length bs - (n + 1)) (drop (n + 1) bs) ≡ drop (n + 1) bs = take_all (length bs - (n + 1)) (drop (n + 1) bs) (omega (arith, length-drop (n + 1) bs)) in
    rw (back, e) (first_line bs (omega arith))

pub next_only : (bs : List ℕ) (n : ℕ) → n ≡ position_or_len newline bs → 0 < length bs → length bs ≤ n → lines bs ≡ bs ∷ lines (take (length bs - n) (drop n bs))
next_only bs n e lt le =
    let back : drop n bs ≡ [] = drop_all n bs le in
    let rest : take (length bs - n) (drop n bs) ≡ drop n bs = take_all (length bs - n) (drop n bs) (omega (arith, length-drop n bs)) in
    rw (rest, back, no_line) (only_line bs lt (omega arith))

-- ---- the loop

-- what was read before, and what is still read
abbrev pub with_front : List Stamped → Result (List Stamped) (ℕ × ℕ) → Result (List Stamped) (ℕ × ℕ)
with_front front read = read >>= λ events. Ok (front ++ events)

regroup : (front : List Stamped) (e : Stamped) (read : Result (List Stamped) (ℕ × ℕ)) → with_front front (read >>= λ events. Ok (e ∷ events)) ≡ with_front (front ++ e ∷ []) read
regroup front e (Ok events) = ap (λ (es : List Stamped). Ok es) (sym (append_assoc front (e ∷ []) events))
regroup front e (Err place) = refl

pub goes_on : (front : List Stamped) (n : ℕ) (stamped : Bool) (rest line others : List ℕ) (e : Stamped) (total : Result (List Stamped) (ℕ × ℕ)) → lines rest ≡ line ∷ lines others → line_at stamped line ≡ Ok (kinds.Event e)
    → with_front front (events_of n stamped (lines rest)) ≡ total → with_front (front ++ e ∷ []) (events_of (n + 1) stamped (lines others)) ≡ total
unfolding events_of
goes_on front n stamped rest line others e total split h so_far =
    let one : with_front front (events_of n stamped (lines rest)) ≡ with_front (front ++ e ∷ []) (events_of (n + 1) stamped (lines others)) = rw (split, h) (regroup front e (events_of (n + 1) stamped (lines others))) in
    sym one ∙ so_far

pub is_wrong : (front : List Stamped) (n : ℕ) (stamped : Bool) (rest line others : List ℕ) (left : ℕ) (total : Result (List Stamped) (ℕ × ℕ)) → lines rest ≡ line ∷ lines others → line_at stamped line ≡ Err left
    → with_front front (events_of n stamped (lines rest)) ≡ total → total ≡ Err (n, length line - left + 1)
unfolding events_of
is_wrong front n stamped rest line others left total split h so_far =
    let one : with_front front (events_of n stamped (lines rest)) ≡ Err (n, length line - left + 1) = rw (split, h) refl in
    sym so_far ∙ one

pub is_done : (front : List Stamped) (n : ℕ) (stamped : Bool) (rest line others : List ℕ) (total : Result (List Stamped) (ℕ × ℕ)) → lines rest ≡ line ∷ lines others → line_at stamped line ≡ Ok kinds.End → length others ≡ 0
    → with_front front (events_of n stamped (lines rest)) ≡ total → total ≡ Ok front
unfolding events_of
is_done front n stamped rest line [] total split h none so_far =
    let one : with_front front (events_of n stamped (lines rest)) ≡ Ok front = rw (split, h, no_line) (ap (λ (es : List Stamped). Ok es) (append-nil front)) in
    sym so_far ∙ one
is_done front n stamped rest line (b ∷ bs) total split h none so_far = absurd (omega arith)

pub goes_past : (front : List Stamped) (n : ℕ) (stamped : Bool) (rest line others : List ℕ) (total : Result (List Stamped) (ℕ × ℕ)) → lines rest ≡ line ∷ lines others → line_at stamped line ≡ Ok kinds.End → 0 < length others
    → with_front front (events_of n stamped (lines rest)) ≡ total → total ≡ Err (n + 1, 1)
unfolding events_of
goes_past front n stamped rest line others total split h some so_far =
    let one : with_front front (events_of n stamped (lines rest)) ≡ Err (n + 1, 1) = rw (split, h, some_line others some) refl in
    sym so_far ∙ one

pub has_no_end : (front : List Stamped) (n : ℕ) (stamped : Bool) (rest : List ℕ) (total : Result (List Stamped) (ℕ × ℕ)) → length rest ≡ 0
    → with_front front (events_of n stamped (lines rest)) ≡ total → total ≡ Err (n, 1)
unfolding events_of
has_no_end front n stamped [] total none so_far =
    let one : with_front front (events_of n stamped (lines [])) ≡ Err (n, 1) = rw no_line refl in
    sym so_far ∙ one
has_no_end front n stamped (b ∷ bs) total none so_far = absurd (omega arith)

pub is_empty_text : (text : List ℕ) → length text ≡ 0 → trace_of text ≡ Err (1, 1)
unfolding trace_of
is_empty_text [] e = rw no_line refl
is_empty_text (b ∷ bs) e = absurd (omega arith)
