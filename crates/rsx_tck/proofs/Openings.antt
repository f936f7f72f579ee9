-- A trace that is read line by line: what a line behind the first ones does.
use Rattle.std.proofs.Common.{◌≡◌, ℕ, ◌+◌, ◌-◌, Bool, List, [], ◌∷◌, ◌++◌, length, Ok, Err, refl, sym, ap, subst, ◌∙◌, arith, inl, inr}
use Rattle.std.proofs.lemmas.List.{append-nil, length-append}
use Rattle.rsx_tck.specs.declared.event.Stamped.{Stamped}
use Rattle.rsx_tck.specs.declared.line.Line.TheVariants as kinds
use Rattle.rsx_tck.specs.Grammar.{IsLine, AreLines, AreTrace, first_text}
use Rattle.rsx_tck.specs.Reading.{line_at, first_at, events_of, trace_of_lines}
use Rattle.rsx_tck.specs.FirstWrong.{AreSomeTrace, IsWrongPlace}
use Rattle.rsx_tck.specs.Opening.{AreOpening, IsWrongLast, LacksEnd}
use Rattle.rsx_tck.proofs.Events.{line_again, first_again}
use Rattle.rsx_tck.proofs.Sound.{line_sound, first_sound}
use Rattle.rsx_tck.proofs.WrongLines.{lines_place}

pub opens : (line : List ℕ) (stamped : Bool) → first_at line ≡ Ok stamped → AreOpening (line ∷ []) stamped []
opens line stamped e = ([], ap (λ (x : List ℕ). x ∷ []) (first_sound line stamped e), tt)

pub opens_wrong : (line : List ℕ) (left : ℕ) → first_at line ≡ Err left → IsWrongLast (line ∷ []) (length line - left + 1)
opens_wrong line left e = lines_place (line ∷ []) (1, length line - left + 1) (rw e refl)

-- ---- reading beyond the lines so far

step : (n : ℕ) (stamped : Bool) (line : List ℕ) (others : List (List ℕ)) (e : Stamped) (p : ℕ × ℕ) → line_at stamped line ≡ Ok (kinds.Event e) → events_of (n + 1) stamped others ≡ Err p → events_of n stamped (line ∷ others) ≡ Err p
unfolding events_of
step n stamped line others e p f g = rw (f, g) refl

beyond : (n : ℕ) (stamped : Bool) (body : List (List ℕ)) (events : List Stamped) (more : List (List ℕ)) (p : ℕ × ℕ) → AreLines stamped body events → events_of (n + length body) stamped more ≡ Err p → events_of n stamped (body ++ more) ≡ Err p
beyond n stamped [] [] more p h e = subst (λ (k : ℕ). events_of k stamped more ≡ Err p) (omega arith) e
beyond n stamped [] (x ∷ events) more p h e = absurd h
beyond n stamped (line ∷ body) [] more p h e = absurd h
beyond n stamped (line ∷ body) (x ∷ events) more p h e =
    let same : n + length (line ∷ body) ≡ n + 1 + length body = omega arith in
    let rest : events_of (n + 1 + length body) stamped more ≡ Err p = subst (λ (k : ℕ). events_of k stamped more ≡ Err p) same e in
    step n stamped line (body ++ more) x p (line_again stamped line x h.0) (beyond (n + 1) stamped body events more p h.1 rest)

last_wrong : (n : ℕ) (stamped : Bool) (line : List ℕ) (left : ℕ) → line_at stamped line ≡ Err left → events_of n stamped (line ∷ []) ≡ Err (n, length line - left + 1)
unfolding events_of
last_wrong n stamped line left e = rw e refl

none_left : (n : ℕ) (stamped : Bool) → events_of n stamped [] ≡ Err (n, 1)
unfolding events_of
none_left n stamped = refl

whole : (stamped : Bool) (others : List (List ℕ)) (p : ℕ × ℕ) → events_of 2 stamped others ≡ Err p → trace_of_lines (first_text stamped ∷ others) ≡ Err p
whole stamped others p e = rw (first_again stamped, e) refl

pub wrong_last : (parts : List (List ℕ)) (line : List ℕ) (stamped : Bool) (events : List Stamped) (left : ℕ) → AreOpening parts stamped events → line_at stamped line ≡ Err left → IsWrongLast (parts ++ line ∷ []) (length line - left + 1)
wrong_last parts line stamped events left (body, is, lined) e =
    let column = length line - left + 1 in
    let read : trace_of_lines (first_text stamped ∷ (body ++ line ∷ [])) ≡ Err (2 + length body, column) =
    whole stamped (body ++ line ∷ []) (2 + length body, column) (beyond 2 stamped body events (line ∷ []) (2 + length body, column) lined (last_wrong (2 + length body) stamped line left e)) in
    let same : first_text stamped ∷ (body ++ line ∷ []) ≡ parts ++ line ∷ [] = ap (λ (xs : List (List ℕ)). xs ++ line ∷ []) (sym is) in
    let number : 2 + length body ≡ length (first_text stamped ∷ (body ++ line ∷ [])) = omega (arith, length-append body (line ∷ [])) in
    let place : IsWrongPlace AreSomeTrace (first_text stamped ∷ (body ++ line ∷ [])) (2 + length body, column) = lines_place (first_text stamped ∷ (body ++ line ∷ [])) (2 + length body, column) read in
    subst (λ (xs : List (List ℕ)). IsWrongLast xs column) same (subst (λ (k : ℕ). IsWrongPlace AreSomeTrace (first_text stamped ∷ (body ++ line ∷ [])) (k, column)) number place)

pub lacks_end : (parts : List (List ℕ)) (stamped : Bool) (events : List Stamped) → AreOpening parts stamped events → LacksEnd parts
lacks_end parts stamped events (body, is, lined) =
    let read : trace_of_lines (first_text stamped ∷ (body ++ [])) ≡ Err (2 + length body, 1) =
    whole stamped (body ++ []) (2 + length body, 1) (beyond 2 stamped body events [] (2 + length body, 1) lined (none_left (2 + length body) stamped)) in
    let same : first_text stamped ∷ (body ++ []) ≡ parts = ap (λ (xs : List (List ℕ)). first_text stamped ∷ xs) (append-nil body) ∙ sym is in
    let place : IsWrongPlace AreSomeTrace parts (2 + length body, 1) = subst (λ (xs : List (List ℕ)). IsWrongPlace AreSomeTrace xs (2 + length body, 1)) same (lines_place (first_text stamped ∷ (body ++ [])) (2 + length body, 1) read) in
    let number : 2 + length body ≡ length parts + 1 = omega (arith, ap (λ (xs : List (List ℕ)). length xs) is) in
    subst (λ (k : ℕ). IsWrongPlace AreSomeTrace parts (k, 1)) number place

-- ---- lines that fit

joined_lines : (stamped : Bool) (body : List (List ℕ)) (events : List Stamped) (line : List ℕ) (e : Stamped) → AreLines stamped body events → IsLine stamped line e → AreLines stamped (body ++ line ∷ []) (events ++ e ∷ [])
joined_lines stamped [] [] line e h k = (k, tt)
joined_lines stamped [] (x ∷ events) line e h k = absurd h
joined_lines stamped (b ∷ body) [] line e h k = absurd h
joined_lines stamped (b ∷ body) (x ∷ events) line e h k = (h.0, joined_lines stamped body events line e h.1 k)

not_end : (e : Stamped) → kinds.End ≡ kinds.Event e → ⊥
not_end e h = cc

event_is : (x e : Stamped) → kinds.Event x ≡ kinds.Event e → x ≡ e
event_is x e h = cc

pub event_taken : (parts : List (List ℕ)) (line : List ℕ) (stamped : Bool) (events : List Stamped) (e : Stamped) → AreOpening parts stamped events → line_at stamped line ≡ Ok (kinds.Event e) → AreOpening (parts ++ line ∷ []) stamped (events ++ e ∷ [])
event_taken parts line stamped events e (body, is, lined) h =
    elim (line_sound stamped line (kinds.Event e) h) [
      | inl k ↦ absurd (not_end e k.0)
      | inr (x, same, l) ↦
          (body ++ line ∷ [], ap (λ (xs : List (List ℕ)). xs ++ line ∷ []) is, joined_lines stamped body events line e lined (subst (λ (y : Stamped). IsLine stamped line y) (event_is x e same) l))
    ]

pub end_taken : (parts : List (List ℕ)) (line : List ℕ) (stamped : Bool) (events : List Stamped) → AreOpening parts stamped events → line_at stamped line ≡ Ok kinds.End → AreTrace (parts ++ line ∷ []) events
end_taken parts line stamped events (body, is, lined) h =
    elim (line_sound stamped line kinds.End h) [
      | inl k ↦ (stamped, body, ap (λ (xs : List (List ℕ)). xs ++ line ∷ []) is ∙ ap (λ (x : List ℕ). first_text stamped ∷ (body ++ x ∷ [])) k.1, lined)
      | inr (x, same, l) ↦ absurd (not_end x (sym same))
    ]
