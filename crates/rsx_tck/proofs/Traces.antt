-- The texts of the grammar are read as their events, and what is printed is one of them.
use Rattle.std.proofs.Common.{◌≡◌, ℕ, suc, ◌+◌, ◌^◌, ◌≤◌, ◌<◌, Bool, true, false, cond, List, [], ◌∷◌, ◌++◌, length, take, drop, map, Ok, lit<, refl, sym, ap, subst, ◌∙◌, append_assoc, arith, inl, inr}
use Rattle.std.specs.Prelude.{not, ℤ, pos, negsuc, FitsSigned, codes}
use Rattle.std.specs.Int.{w64}
use Rattle.std.specs.List.{position_or_len}
use Rattle.std.specs.Fmt.{decimal, signed_decimal}
use Rattle.std.specs.Str.Parse.{AllDigits}
use Rattle.std.proofs.lemmas.Bool.Decides.{nat_tests}
use Rattle.std.proofs.lemmas.Fmt.{decimal_is_IsNumeral}
use Rattle.std.proofs.lemmas.List.{take_at, take_all, length-append}
use Rattle.std.proofs.lemmas.Str.Parse.{digit_from_value}
use Rattle.std.proofs.Math.Seq.{drop-append-add}
use Rattle.rsx_types.specs.declared.signal.Cause.{Cause}
use Rattle.rsx_types.specs.declared.signal.Cause.TheVariants.{User, Function, NonPositiveRequest}
use Rattle.rsx_tck.specs.declared.event.Event.{Event}
use Rattle.rsx_tck.specs.declared.event.Event.TheVariants as event
use Rattle.rsx_tck.specs.declared.event.Stamped.{Stamped}
use Rattle.rsx_tck.specs.declared.line.Line.TheVariants as kinds
use Rattle.rsx_tck.specs.Texts.{lines}
use Rattle.rsx_tck.specs.Reading.{line_at, first_at, events_of, trace_of}
use Rattle.rsx_tck.specs.Format.{cause_text, event_text, line_text, lines_text, trace_text, FitsCause, FitsEvent, FitsStamped, AllFit}
use Rattle.rsx_tck.specs.Grammar.{u32, IsNumber, IsSigned, IsCause, IsPlain, IsEvent, IsLine, AreLines, first_text, IsTrace}
use Rattle.rsx_tck.proofs.Lines.{newline, some_line}
use Rattle.rsx_tck.proofs.Words.{joined}
use Rattle.rsx_tck.proofs.Events.{line_again, end_again, first_again}

end_steps : (n : ℕ) (stamped : Bool) (line : List ℕ) → line_at stamped line ≡ Ok kinds.End → events_of n stamped (line ∷ []) ≡ Ok []
unfolding events_of
end_steps n stamped line e = rw e refl

event_steps : (n : ℕ) (stamped : Bool) (line : List ℕ) (others : List (List ℕ)) (e : Stamped) (events : List Stamped) → line_at stamped line ≡ Ok (kinds.Event e) → events_of (n + 1) stamped others ≡ Ok events → events_of n stamped (line ∷ others) ≡ Ok (e ∷ events)
unfolding events_of
event_steps n stamped line others e events f g = rw (f, g) refl

events_again : (n : ℕ) (stamped : Bool) (body : List (List ℕ)) (events : List Stamped) → AreLines stamped body events → events_of n stamped (body ++ codes "end" ∷ []) ≡ Ok events
events_again n stamped [] [] h = end_steps n stamped (codes "end") (end_again stamped)
events_again n stamped [] (e ∷ events) h = absurd h
events_again n stamped (line ∷ body) [] h = absurd h
events_again n stamped (line ∷ body) (e ∷ events) h = event_steps n stamped line (body ++ codes "end" ∷ []) e events (line_again stamped line e h.0) (events_again (n + 1) stamped body events h.1)

trace_steps : (text first : List ℕ) (others : List (List ℕ)) (stamped : Bool) (events : List Stamped) → lines text ≡ first ∷ others → first_at first ≡ Ok stamped → events_of 2 stamped others ≡ Ok events → trace_of text ≡ Ok events
unfolding trace_of
trace_steps text first others stamped events e f g = rw (e, f, g) refl

pub trace_again : (text : List ℕ) (events : List Stamped) → IsTrace text events → trace_of text ≡ Ok events
trace_again text events h = trace_steps text (first_text h.0) (h.1 ++ codes "end" ∷ []) h.0 events h.2 (first_again h.0) (events_again 2 h.0 h.1 events h.3)

-- ---- what is printed

-- no newline among the bytes
abbrev pub IsClean : List ℕ → Type 0
IsClean bytes = position_or_len newline bytes ≡ length bytes

pub clean_step : (t : Bool) (n m : ℕ) → cond (not t) (1 + n) 0 ≡ suc m → (t ≡ false) × (n ≡ m)
clean_step true n m e = absurd (omega arith)
clean_step false n m e = (refl, omega arith)

pub clean_again : (t : Bool) (n : ℕ) → t ≡ false → cond (not t) (1 + n) 0 ≡ suc n
clean_again true n e = absurd cc
clean_again false n e = omega arith

pub IsClean-append : (a b : List ℕ) → IsClean a → IsClean b → IsClean (a ++ b)
IsClean-append [] b h k = k
IsClean-append (c ∷ a) b h k =
    let parts = clean_step (newline c) (position_or_len newline a) (length a) h in
    clean_again (newline c) (position_or_len newline (a ++ b)) parts.0 ∙ ap (λ (n : ℕ). suc n) (IsClean-append a b parts.1 k)

clean_before : (a rest : List ℕ) → IsClean a → position_or_len newline (a ++ 10 ∷ rest) ≡ length a
clean_before [] rest h = refl
clean_before (c ∷ a) rest h =
    let parts = clean_step (newline c) (position_or_len newline a) (length a) h in
    clean_again (newline c) (position_or_len newline (a ++ 10 ∷ rest)) parts.0 ∙ ap (λ (n : ℕ). suc n) (clean_before a rest parts.1)

IsClean-digits : (ds : List ℕ) → AllDigits 10 ds → IsClean ds
IsClean-digits [] h = refl
IsClean-digits (c ∷ ds) h =
    let range = digit_from_value c h.0 in
    let other : newline c ≡ false = grind (arith, nat_tests, range) in
    clean_again (newline c) (position_or_len newline ds) other ∙ ap (λ (n : ℕ). suc n) (IsClean-digits ds h.1)

IsClean-decimal : (n : ℕ) → n < 2 ^ 64 → IsClean (decimal n)
IsClean-decimal n lt = IsClean-digits (decimal n) (decimal_is_IsNumeral n lt).0.1

-- the first line of a text whose front has no newline
pub line_and_rest : (line rest : List ℕ) → IsClean line → lines (line ++ 10 ∷ rest) ≡ line ∷ lines rest
line_and_rest line rest h =
    let n = position_or_len newline (line ++ 10 ∷ rest) in
    let is : n ≡ length line = clean_before line rest h in
    let front : take n (line ++ 10 ∷ rest) ≡ line = ap (λ (k : ℕ). take k (line ++ 10 ∷ rest)) is ∙ take_at line (10 ∷ rest) (length line) refl in
    let back : drop (n + 1) (line ++ 10 ∷ rest) ≡ rest = ap (λ (k : ℕ). drop (k + 1) (line ++ 10 ∷ rest)) is ∙ drop-append-add line (10 ∷ rest) 1 in
    some_line (line ++ 10 ∷ rest) (omega (arith, length-append line (10 ∷ rest))) ∙ ap (λ (x : List ℕ). x ∷ lines (drop (n + 1) (line ++ 10 ∷ rest))) front ∙ ap (λ (x : List ℕ). line ∷ lines x) back

-- ---- the text of an event

pub number_text : (most n : ℕ) → n ≤ most → most < 2 ^ 64 → IsNumber most (decimal n) n
number_text most n le lt =
    let is = decimal_is_IsNumeral n (omega arith) in
    record { digits = is.0; value = is.1; small = le }

clean_number : (n : ℕ) → n ≤ u32 → IsClean (decimal n)
clean_number n le = IsClean-decimal n (omega arith)

IsSigned-text : (z : ℤ) → FitsSigned w64 z → IsSigned (signed_decimal z) z
IsSigned-text (pos n) fits = inl (n, number_text 9223372036854775807 n (omega (arith, fits)) (lit< tt), refl)
IsSigned-text (negsuc n) fits = inr (decimal (suc n), suc n, refl, number_text 9223372036854775808 (suc n) (omega (arith, fits)) (lit< tt), refl)

clean_signed : (z : ℤ) → FitsSigned w64 z → IsClean (signed_decimal z)
clean_signed (pos n) fits = IsClean-decimal n (omega (arith, fits))
clean_signed (negsuc n) fits = IsClean-append (codes "-") (decimal (suc n)) refl (IsClean-decimal (suc n) (omega (arith, fits)))

-- the text of an event has its words, and no newline
record Spells (text : List ℕ) (e : Event) : Type 0 where
  words : List (List ℕ)
  is : IsEvent words e
  joins : text ≡ joined words
  clean : IsClean text

spells_plain : (name : List ℕ) (e : ℕ → Event) (s : ℕ) (text : List ℕ) → IsClean name → s ≤ u32 → ((ws : List (List ℕ)) → IsPlain name ws s → IsEvent ws (e s)) → text ≡ name ++ (codes " " ++ decimal s) → Spells text (e s)
spells_plain name e s text clean le is same = record {
  words = name ∷ decimal s ∷ [];
  is = is (name ∷ decimal s ∷ []) (decimal s, number_text u32 s le (lit< tt), refl);
  joins = same;
  clean = ap (λ (x : List ℕ). position_or_len newline x) same ∙ IsClean-append name (codes " " ++ decimal s) clean (IsClean-append (codes " ") (decimal s) refl (clean_number s le)) ∙ ap (λ (x : List ℕ). length x) (sym same);
}

-- the words of a cause, behind some that are joined
cause_words : (cause : Cause) → FitsCause cause → (ws : List (List ℕ)) × IsCause ws cause × (cause_text cause ≡ joined ws) × IsClean (cause_text cause) × (0 < length ws)
cause_words (User n) le = (codes "user" ∷ decimal n ∷ [], (decimal n, number_text u32 n le (lit< tt), refl), refl, IsClean-append (codes "user ") (decimal n) refl (clean_number n le), lit< tt)
cause_words (Function n) le = (codes "function" ∷ decimal n ∷ [], (decimal n, number_text u32 n le (lit< tt), refl), refl, IsClean-append (codes "function ") (decimal n) refl (clean_number n le), lit< tt)
cause_words NonPositiveRequest le = (codes "bad-request" ∷ [], refl, refl, refl, lit< tt)

joined_more : (w : List ℕ) (ws : List (List ℕ)) → 0 < length ws → joined (w ∷ ws) ≡ w ++ (codes " " ++ joined ws)
joined_more w [] lt = absurd (omega arith)
joined_more w (v ∷ vs) lt = refl

spells : (e : Event) → FitsEvent e → Spells (event_text e) e
spells (event.Subscribe s) le = spells_plain (codes "subscribe") (λ n. event.Subscribe n) s (event_text (event.Subscribe s)) refl le (λ ws h. h) refl
spells (event.OnSubscribe s) le = spells_plain (codes "on-subscribe") (λ n. event.OnSubscribe n) s (event_text (event.OnSubscribe s)) refl le (λ ws h. h) refl
spells (event.Next s) le = spells_plain (codes "next") (λ n. event.Next n) s (event_text (event.Next s)) refl le (λ ws h. h) refl
spells (event.Complete s) le = spells_plain (codes "complete") (λ n. event.Complete n) s (event_text (event.Complete s)) refl le (λ ws h. h) refl
spells (event.Error s cause) le =
    let more = cause_words cause le.1 in
    let text = codes "error " ++ (decimal s ++ (codes " " ++ cause_text cause)) in
    let same : event_text (event.Error s cause) ≡ text = append_assoc (codes "error " ++ decimal s) (codes " ") (cause_text cause) in
    let joins : text ≡ joined (codes "error" ∷ decimal s ∷ more.0) =
    ap (λ (x : List ℕ). codes "error " ++ (decimal s ++ (codes " " ++ x))) more.2 ∙ ap (λ (x : List ℕ). codes "error " ++ x) (sym (joined_more (decimal s) more.0 more.4)) in
    let clean : IsClean text = IsClean-append (codes "error ") (decimal s ++ (codes " " ++ cause_text cause)) refl (IsClean-append (decimal s) (codes " " ++ cause_text cause) (clean_number s le.0) (IsClean-append (codes " ") (cause_text cause) refl more.3)) in
    record {
      words = codes "error" ∷ decimal s ∷ more.0;
      is = (decimal s, more.0, number_text u32 s le.0 (lit< tt), more.1, refl);
      joins = same ∙ joins;
      clean = ap (λ (x : List ℕ). position_or_len newline x) same ∙ clean ∙ ap (λ (x : List ℕ). length x) (sym same);
    }
spells (event.Exit s) le = spells_plain (codes "exit") (λ n. event.Exit n) s (event_text (event.Exit s)) refl le (λ ws h. h) refl
spells (event.Request s n) le =
    let text = codes "request " ++ (decimal s ++ (codes " " ++ signed_decimal n)) in
    let same : event_text (event.Request s n) ≡ text = append_assoc (codes "request " ++ decimal s) (codes " ") (signed_decimal n) in
    let clean : IsClean text = IsClean-append (codes "request ") (decimal s ++ (codes " " ++ signed_decimal n)) refl (IsClean-append (decimal s) (codes " " ++ signed_decimal n) (clean_number s le.0) (IsClean-append (codes " ") (signed_decimal n) refl (clean_signed n le.1))) in
    record {
      words = codes "request" ∷ decimal s ∷ signed_decimal n ∷ [];
      is = (decimal s, signed_decimal n, number_text u32 s le.0 (lit< tt), IsSigned-text n le.1, refl);
      joins = same;
      clean = ap (λ (x : List ℕ). position_or_len newline x) same ∙ clean ∙ ap (λ (x : List ℕ). length x) (sym same);
    }
spells (event.Cancel s) le = spells_plain (codes "cancel") (λ n. event.Cancel n) s (event_text (event.Cancel s)) refl le (λ ws h. h) refl
spells (event.CancelNew s) le = spells_plain (codes "cancel-new") (λ n. event.CancelNew n) s (event_text (event.CancelNew s)) refl le (λ ws h. h) refl

some_words : (ws : List (List ℕ)) (e : Event) → IsEvent ws e → 0 < length ws
some_words ws (event.Subscribe s) h = rw h.2 (lit< tt)
some_words ws (event.OnSubscribe s) h = rw h.2 (lit< tt)
some_words ws (event.Next s) h = rw h.2 (lit< tt)
some_words ws (event.Complete s) h = rw h.2 (lit< tt)
some_words ws (event.Error s cause) h = rw h.4 (omega arith)
some_words ws (event.Exit s) h = rw h.2 (lit< tt)
some_words ws (event.Request s n) h = rw h.4 (lit< tt)
some_words ws (event.Cancel s) h = rw h.2 (lit< tt)
some_words ws (event.CancelNew s) h = rw h.2 (lit< tt)

line_is : (e : Stamped) → FitsStamped e → IsLine true (line_text e) e × IsClean (line_text e)
line_is e fits =
    let s = spells e.event fits.event in
    let same : line_text e ≡ decimal e.worker ++ (codes " " ++ event_text e.event) = append_assoc (decimal e.worker) (codes " ") (event_text e.event) in
    let joins : line_text e ≡ joined (decimal e.worker ∷ s.words) =
    same ∙ ap (λ (x : List ℕ). decimal e.worker ++ (codes " " ++ x)) s.joins ∙ sym (joined_more (decimal e.worker) s.words (some_words s.words e.event s.is)) in
    let clean : IsClean (decimal e.worker ++ (codes " " ++ event_text e.event)) =
    IsClean-append (decimal e.worker) (codes " " ++ event_text e.event) (IsClean-decimal e.worker (omega (arith, fits.worker))) (IsClean-append (codes " ") (event_text e.event) refl s.clean) in (
      (decimal e.worker, s.words, number_text 15 e.worker fits.worker (lit< tt), s.is, joins),
      ap (λ (x : List ℕ). position_or_len newline x) same ∙ clean ∙ ap (λ (x : List ℕ). length x) (sym same),
    )

lines_are : (events : List Stamped) → AllFit events → AreLines true (map line_text events) events
lines_are [] fits = tt
lines_are (e ∷ events) fits = ((line_is e fits.0).0, lines_are events fits.1)

end_line : lines (codes "end\n") ≡ codes "end" ∷ []
unfolding lines
end_line = refl

body_lines : (events : List Stamped) → AllFit events → lines (lines_text events ++ codes "end\n") ≡ map line_text events ++ codes "end" ∷ []
body_lines [] fits = end_line
body_lines (e ∷ events) fits =
    let same : lines_text (e ∷ events) ++ codes "end\n" ≡ line_text e ++ 10 ∷ (lines_text events ++ codes "end\n") =
    ap (λ (x : List ℕ). x ++ codes "end\n") (append_assoc (line_text e) (codes "\n") (lines_text events)) ∙ append_assoc (line_text e) (10 ∷ lines_text events) (codes "end\n") in
    ap lines same ∙ line_and_rest (line_text e) (lines_text events ++ codes "end\n") (line_is e fits.0).1 ∙ ap (λ (x : List (List ℕ)). line_text e ∷ x) (body_lines events fits.1)

pub printed : (events : List Stamped) → AllFit events → IsTrace (trace_text events) events
printed events fits =
    let first : lines (trace_text events) ≡ codes "trace 2" ∷ lines (lines_text events ++ codes "end\n") = line_and_rest (codes "trace 2") (lines_text events ++ codes "end\n") refl in
    (true, map line_text events, first ∙ ap (λ (x : List (List ℕ)). codes "trace 2" ∷ x) (body_lines events fits), lines_are events fits)

pub printed_text : (bytes before : List ℕ) (i : ℕ) (events : List Stamped) → before ≡ codes "trace 2\n" ++ lines_text (take i events) → length events ≤ i → bytes ≡ before ++ codes "end\n" → AllFit events → IsTrace bytes events
printed_text bytes before i events written all ended fits =
    let whole : take i events ≡ events = take_all i events all in
    let is : bytes ≡ trace_text events = ended ∙ ap (λ (x : List ℕ). x ++ codes "end\n") written ∙ ap (λ (es : List Stamped). (codes "trace 2\n" ++ lines_text es) ++ codes "end\n") whole in
    subst (λ (x : List ℕ). IsTrace x events) (sym is) (printed events fits)
