-- What an input of expressions and traces comes to with a further line.
use Rattle.std.proofs.Common.{◌≡◌, ℕ, ◌+◌, ◌<◌, min, false, List, [], ◌∷◌, ◌++◌, length, Option, Some, None, refl, sym, ap, subst, ◌∙◌, append_assoc, arith, inl, inr}
use Rattle.std.specs.List.{flat_map}
use Rattle.std.specs.Option.{is_some}
use Rattle.std.proofs.lemmas.List.{append-nil, length-append}
use Rattle.rsx_script.specs.declared.words.LineRefusal.TheVariants.{Syntax}
use Rattle.rsx_tck.specs.declared.event.Stamped.{Stamped}
use Rattle.rsx_tck.specs.declared.reader.BadLine.{BadLine}
use Rattle.rsx_tck.specs.declared.reader.BadLine.TheVariants.{At}
use Rattle.rsx_tck.specs.declared.reader.BadLine.TheVariants as bad
use Rattle.rsx_tck.specs.declared.reader.TraceReader.{TraceReader}
use Rattle.rsx_tck.specs.Grammar.{AreTrace}
use Rattle.rsx_tck.specs.Opening.{HasTaken, IsWrongLast, NamesWrongLast}
use Rattle.rsx_tck.proofs.Openings.{lacks_end}
use Rattle.rsx_demand.specs.declared.TheConstants.{UNBOUNDED}
use Rattle.rsx_drive.specs.declared.judge.InputJudge.{InputJudge}
use Rattle.rsx_drive.specs.declared.judge.Style.{Style}
use Rattle.rsx_drive.specs.JudgeLaws.{refused, memory_wanted}
use Rattle.rsx_drive.specs.Judged.{IsBlank, IsPart, AreParts, AreJudgedBy, ExpressionAnswers, IsBadBehind, IsBegunAt, IsRefusedBy, IsOpen, IsTraceAnswer, StandsFor, judging, number_behind, refusal_of}

abbrev Part : Type 0
Part = List (List ℕ) × List ℕ

-- the lines of these parts
abbrev lines_in : List Part → List (List ℕ)
lines_in parts = flat_map (λ p. p.0) parts

parts_more : (expressions : ExpressionAnswers) (style : Style) (before : ℕ) (parts : List Part) (p : Part) → AreParts expressions style before parts → IsPart expressions style (number_behind (before + length (lines_in parts))) p.0 p.1 → AreParts expressions style before (parts ++ p ∷ [])
parts_more expressions style before [] p h k =
    let same : before + 0 ≡ before = omega arith in
    (subst (λ n. IsPart expressions style (number_behind n) p.0 p.1) same k, tt)
parts_more expressions style before (q ∷ parts) p h k =
    let same : before + length (q.0 ++ lines_in parts) ≡ (before + length q.0) + length (lines_in parts) = omega (arith, length-append q.0 (lines_in parts)) in
    (h.0, parts_more expressions style (before + length q.0) parts p h.1 (subst (λ n. IsPart expressions style (number_behind n) p.0 p.1) same k))

flat_more : {X : Type 0} (f : Part → List X) (parts : List Part) (p : Part) → flat_map f (parts ++ p ∷ []) ≡ flat_map f parts ++ f p
flat_more f [] p = append-nil (f p)
flat_more f (q ∷ parts) p = ap (λ xs. f q ++ xs) (flat_more f parts p) ∙ sym (append_assoc (f q) (flat_map f parts) (f p))

-- a further part
more_judged : (expressions : ExpressionAnswers) (style : Style) (lines : List (List ℕ)) (text : List ℕ) (part : List (List ℕ)) (answer : List ℕ) → AreJudgedBy expressions style lines text → IsPart expressions style (number_behind (length lines)) part answer → AreJudgedBy expressions style (lines ++ part) (text ++ answer)
more_judged expressions style lines text part answer j k = record {
  parts = j.parts ++ (part, answer) ∷ [];
  answered =
      let same : length (lines_in j.parts) ≡ 0 + length (lines_in j.parts) = omega arith in
      let there = subst (λ (xs : List (List ℕ)). IsPart expressions style (number_behind (length xs)) part answer) j.whole k in
      parts_more expressions style 0 j.parts (part, answer) j.answered (subst (λ n. IsPart expressions style (number_behind n) part answer) same there);
  whole = ap (λ (xs : List (List ℕ)). xs ++ part) j.whole ∙ sym (flat_more (λ p. p.0) j.parts (part, answer));
  answers = ap (λ (xs : List ℕ). xs ++ answer) j.answers ∙ sym (flat_more (λ p. p.1) j.parts (part, answer));
}

-- ---- lines that are counted

-- the number of the line behind the counted ones
next_number : (count lines : ℕ) → count ≡ min UNBOUNDED lines → number_behind count ≡ number_behind lines
next_number count lines e =
    let same : min UNBOUNDED (count + 1) ≡ min UNBOUNDED (lines + 1) = omega (arith, e) in same

-- and that line is counted
counted_on : (lines : List (List ℕ)) (line : List ℕ) (count : ℕ) → count ≡ min UNBOUNDED (length lines) → number_behind count ≡ min UNBOUNDED (length (lines ++ line ∷ []))
counted_on lines line count e =
    let same : min UNBOUNDED (count + 1) ≡ min UNBOUNDED (length (lines ++ line ∷ [])) = omega (arith, e, length-append lines (line ∷ [])) in same

-- what an input becomes where a further line was counted
pub record GoesOn {E : Type 0} (old new : InputJudge E) : Type 0 where
  pub styled : new.style ≡ old.style
  pub counted : new.lines ≡ number_behind old.lines

-- ---- the reader that was taken out

-- what it left is what there was
pub none_taken : {E : Type 0} (expressions : ExpressionAnswers) (style : Style) (judge : InputJudge E) (lines : List (List ℕ)) (text : List ℕ) (left : Option TraceReader) → judge.reader ≡ left → StandsFor expressions style judge lines text → StandsFor expressions style (record judge { reader = left }) lines text
none_taken expressions style judge lines text left was s = record {
  styled = s.styled;
  counted = s.counted;
  done = s.done;
  opening = s.opening;
  split = s.split;
  judged = s.judged;
  taken = subst (λ (o : Option TraceReader). IsOpen o s.opening) was s.taken;
  begun = subst (λ (o : Option TraceReader). IsBegunAt o judge.first s.done) was s.begun;
}

-- it is back
pub taken_back : {E : Type 0} (expressions : ExpressionAnswers) (style : Style) (judge : InputJudge E) (lines : List (List ℕ)) (text : List ℕ) (reader : TraceReader) → judge.reader ≡ Some reader → StandsFor expressions style judge lines text → StandsFor expressions style (judging judge reader) lines text
taken_back expressions style judge lines text reader was s = record {
  styled = s.styled;
  counted = s.counted;
  done = s.done;
  opening = s.opening;
  split = s.split;
  judged = s.judged;
  taken = subst (λ (o : Option TraceReader). IsOpen o s.opening) was s.taken;
  begun = subst (λ (o : Option TraceReader). IsBegunAt o judge.first s.done) was s.begun;
}

-- ---- fine lines

-- between two traces nothing is open
all_done : {E : Type 0} (expressions : ExpressionAnswers) (style : Style) (judge : InputJudge E) (lines : List (List ℕ)) (text : List ℕ) → judge.reader ≡ None → (s : StandsFor expressions style judge lines text) → lines ≡ s.done
all_done expressions style judge lines text was s =
    let none : s.opening ≡ [] = subst (λ (o : Option TraceReader). IsOpen o s.opening) was s.taken in
    s.split ∙ ap (λ (xs : List (List ℕ)). s.done ++ xs) none ∙ append-nil s.done

-- a line between two traces that is a part of its own
part_stands : {E : Type 0} (expressions : ExpressionAnswers) (style : Style) (old new : InputJudge E) (lines : List (List ℕ)) (text line more : List ℕ) → GoesOn old new → old.reader ≡ None → new.reader ≡ None
    → (s : StandsFor expressions style old lines text) → IsPart expressions style (number_behind old.lines) (line ∷ []) more → StandsFor expressions style new (lines ++ line ∷ []) (text ++ more)
part_stands expressions style old new lines text line more on was is s part =
    let all = all_done expressions style old lines text was s in
    let there = subst (λ n. IsPart expressions style n (line ∷ []) more) (next_number old.lines (length lines) s.counted ∙ ap (λ (xs : List (List ℕ)). number_behind (length xs)) all) part in
    record {
      styled = on.styled ∙ s.styled;
      counted = on.counted ∙ counted_on lines line old.lines s.counted;
      done = s.done ++ line ∷ [];
      opening = [];
      split = ap (λ (xs : List (List ℕ)). xs ++ line ∷ []) all ∙ sym (append-nil (s.done ++ line ∷ []));
      judged = more_judged expressions style s.done text (line ∷ []) more s.judged there;
      taken = subst (λ (o : Option TraceReader). IsOpen o []) (sym is) refl;
      begun = subst (λ (o : Option TraceReader). IsBegunAt o new.first (s.done ++ line ∷ [])) (sym is) tt;
    }

pub blank_stands : {E : Type 0} (expressions : ExpressionAnswers) (style : Style) (old new : InputJudge E) (lines : List (List ℕ)) (text line : List ℕ) → GoesOn old new → old.reader ≡ None → new.reader ≡ None → IsBlank line → StandsFor expressions style old lines text
    → StandsFor expressions style new (lines ++ line ∷ []) (text ++ [])
blank_stands expressions style old new lines text line on was is blank s = part_stands expressions style old new lines text line [] on was is s (inl (line, blank, refl, refl))

pub expression_stands : {E : Type 0} (expressions : ExpressionAnswers) (style : Style) (old new : InputJudge E) (lines : List (List ℕ)) (text line more : List ℕ) → GoesOn old new → old.reader ≡ None → new.reader ≡ None → expressions old.style (number_behind old.lines) line more
    → StandsFor expressions style old lines text → StandsFor expressions style new (lines ++ line ∷ []) (text ++ more)
expression_stands expressions style old new lines text line more on was is answer s =
    part_stands expressions style old new lines text line more on was is s (inr (inl (line, subst (λ t. expressions t (number_behind old.lines) line more) s.styled answer, refl)))

-- the first line of a trace
pub trace_begins : {E : Type 0} (expressions : ExpressionAnswers) (style : Style) (old new : InputJudge E) (lines : List (List ℕ)) (text line : List ℕ) (reader : TraceReader) → GoesOn old new → old.reader ≡ None → new.reader ≡ Some reader → new.first ≡ number_behind old.lines → HasTaken reader (line ∷ [])
    → StandsFor expressions style old lines text → StandsFor expressions style new (lines ++ line ∷ []) (text ++ [])
trace_begins expressions style old new lines text line reader on was is first taken s =
    let all = all_done expressions style old lines text was s in
    let there = first ∙ next_number old.lines (length lines) s.counted ∙ ap (λ (xs : List (List ℕ)). number_behind (length xs)) all in
    record {
      styled = on.styled ∙ s.styled;
      counted = on.counted ∙ counted_on lines line old.lines s.counted;
      done = s.done;
      opening = line ∷ [];
      split = ap (λ (xs : List (List ℕ)). xs ++ line ∷ []) all;
      judged = subst (λ (xs : List ℕ). AreJudgedBy expressions style s.done xs) (sym (append-nil text)) s.judged;
      taken = subst (λ (o : Option TraceReader). IsOpen o (line ∷ [])) (sym is) taken;
      begun = subst (λ (o : Option TraceReader). IsBegunAt o new.first s.done) (sym is) there;
    }

pub event_stands : {E : Type 0} (expressions : ExpressionAnswers) (style : Style) (old new : InputJudge E) (lines : List (List ℕ)) (text line : List ℕ) (before after : TraceReader) → GoesOn old new → new.first ≡ old.first → old.reader ≡ Some before → new.reader ≡ Some after
    → ((parts : List (List ℕ)) → HasTaken before parts → HasTaken after (parts ++ line ∷ [])) → StandsFor expressions style old lines text → StandsFor expressions style new (lines ++ line ∷ []) (text ++ [])
event_stands expressions style old new lines text line before after on first was is step s =
    let begun : old.first ≡ number_behind (length s.done) = subst (λ (o : Option TraceReader). IsBegunAt o old.first s.done) was s.begun in
    record {
      styled = on.styled ∙ s.styled;
      counted = on.counted ∙ counted_on lines line old.lines s.counted;
      done = s.done;
      opening = s.opening ++ line ∷ [];
      split = ap (λ (xs : List (List ℕ)). xs ++ line ∷ []) s.split ∙ append_assoc s.done s.opening (line ∷ []);
      judged = subst (λ (xs : List ℕ). AreJudgedBy expressions style s.done xs) (sym (append-nil text)) s.judged;
      taken = subst (λ (o : Option TraceReader). IsOpen o (s.opening ++ line ∷ [])) (sym is) (step s.opening (subst (λ (o : Option TraceReader). IsOpen o s.opening) was s.taken));
      begun = subst (λ (o : Option TraceReader). IsBegunAt o new.first s.done) (sym is) (first ∙ begun);
    }

pub end_stands : {E : Type 0} (expressions : ExpressionAnswers) (style : Style) (old new : InputJudge E) (lines : List (List ℕ)) (text line more : List ℕ) (before : TraceReader) (events : List Stamped) → GoesOn old new → old.reader ≡ Some before → new.reader ≡ None
    → ((parts : List (List ℕ)) → HasTaken before parts → AreTrace (parts ++ line ∷ []) events) → IsTraceAnswer old.style old.first events more → StandsFor expressions style old lines text → StandsFor expressions style new (lines ++ line ∷ []) (text ++ more)
end_stands expressions style old new lines text line more before events on was is step report s =
    let trace = step s.opening (subst (λ (o : Option TraceReader). IsOpen o s.opening) was s.taken) in
    let begun : old.first ≡ number_behind (length s.done) = subst (λ (o : Option TraceReader). IsBegunAt o old.first s.done) was s.begun in
    let answer = subst (λ n. IsTraceAnswer style n events more) begun (subst (λ t. IsTraceAnswer t old.first events more) s.styled report) in
    record {
      styled = on.styled ∙ s.styled;
      counted = on.counted ∙ counted_on lines line old.lines s.counted;
      done = s.done ++ (s.opening ++ line ∷ []);
      opening = [];
      split = ap (λ (xs : List (List ℕ)). xs ++ line ∷ []) s.split ∙ append_assoc s.done s.opening (line ∷ []) ∙ sym (append-nil (s.done ++ (s.opening ++ line ∷ [])));
      judged = more_judged expressions style s.done text (s.opening ++ line ∷ []) more s.judged (inr (inr (events, trace, answer)));
      taken = subst (λ (o : Option TraceReader). IsOpen o []) (sym is) refl;
      begun = subst (λ (o : Option TraceReader). IsBegunAt o new.first (s.done ++ (s.opening ++ line ∷ []))) (sym is) tt;
    }

-- ---- lines that can't be read

taken_some : (reader : TraceReader) (opening : List (List ℕ)) → HasTaken reader opening → 0 < length opening
taken_some reader opening (body, is, lined) = omega (arith, ap (λ (xs : List (List ℕ)). length xs) is)

inside : (opening : List (List ℕ)) (line : List ℕ) (column : ℕ) → 0 < length opening → IsWrongLast (opening ++ line ∷ []) column → IsBadBehind opening line (Syntax column)
inside [] line column some wrong = absurd (omega (arith, some))
inside (first ∷ opening) line column some wrong = (column, refl, wrong)

next_refused : {E : Type 0} (expressions : ExpressionAnswers) (style : Style) (judge : InputJudge E) (lines : List (List ℕ)) (text line : List ℕ) (others : List (List ℕ)) (column : ℕ) (reader : TraceReader) → judge.reader ≡ Some reader → ((parts : List (List ℕ)) → HasTaken reader parts → IsWrongLast (parts ++ line ∷ []) column)
    → StandsFor expressions style judge lines text → IsRefusedBy expressions style lines text (line ∷ others) (Syntax column)
next_refused expressions style judge lines text line others column reader was step s =
    let taken = subst (λ (o : Option TraceReader). IsOpen o s.opening) was s.taken in
    let some = taken_some reader s.opening taken in
    refused expressions style judge lines text (line ∷ others) (Syntax column) s (inr (inr (inside s.opening line column some (step s.opening taken))))

pub bad_refused : {E : Type 0} (expressions : ExpressionAnswers) (style : Style) (judge : InputJudge E) (lines : List (List ℕ)) (text line : List ℕ) (others : List (List ℕ)) (line_bad : BadLine) (reader : TraceReader) → judge.reader ≡ Some reader → ((parts : List (List ℕ)) → HasTaken reader parts → NamesWrongLast (parts ++ line ∷ []) line_bad)
    → StandsFor expressions style judge lines text → IsRefusedBy expressions style lines text (line ∷ others) (refusal_of line_bad)
bad_refused expressions style judge lines text line others (At column) reader was step s = next_refused expressions style judge lines text line others column reader was step s
bad_refused expressions style judge lines text line others bad.NoMemory reader was step s = memory_wanted expressions style judge lines text (line ∷ others) s

-- ---- the end of the input

pub end_refused : {E : Type 0} (expressions : ExpressionAnswers) (style : Style) (judge : InputJudge E) (lines : List (List ℕ)) (text : List ℕ) (reader : TraceReader) → judge.reader ≡ Some reader → StandsFor expressions style judge lines text → IsRefusedBy expressions style lines text [] (Syntax 1)
end_refused expressions style judge lines text reader was s =
    let taken = subst (λ (o : Option TraceReader). IsOpen o s.opening) was s.taken in
    refused expressions style judge lines text [] (Syntax 1) s (inr (refl, taken_some reader s.opening taken, lacks_end s.opening reader.stamped reader.events.items taken))

-- ---- a place that was looked for

pub none_of : (o : Option ℕ) → is_some o ≡ false → o ≡ None
none_of None h = refl
none_of (Some x) h = absurd (cc)
