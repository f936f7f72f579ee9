-- Numbers as texts, digit by digit.
use Rattle.std.proofs.Common.{◌≡◌, ℕ, zero, suc, ◌+◌, ◌-◌, ◌*◌, ◌<◌, ◌≤◌, true, false, ltb, leb, List, [], ◌∷◌, ◌++◌, length, get_or, take, Some, None, refl, sym, ap, ◌∙◌, arith}
use Rattle.std.specs.Prelude.{◌&&◌}
use Rattle.std.specs.Char.{is_ascii_digit, digit_value}
use Rattle.std.specs.Str.{all_ascii_digits}
use Rattle.std.specs.Str.Parse.{digits_value}
use Rattle.std.proofs.lemmas.List.{take_more}
use Rattle.std.proofs.lemmas.Int.Digits.{digits_value_push}
use Rattle.std.proofs.lemmas.Str.Parse.{digits_value-take-le, tells_all_ascii_digits}
use Rattle.std.proofs.lemmas.Bool.{lt-leb, and_parts, and_from, and_left, and_right, cond-true, cond-false}
use Rattle.std.proofs.lemmas.Str.{digit_value_digit}
use Rattle.rsx_tck.specs.Reading.{number_of}

digits_push : (ds : List ℕ) (c : ℕ) → all_ascii_digits ds ≡ true → is_ascii_digit c ≡ true → all_ascii_digits (ds ++ c ∷ []) ≡ true
digits_push [] c h d = and_from (is_ascii_digit c) true d refl
digits_push (b ∷ ds) c h d =
    let parts = and_parts (is_ascii_digit b) (all_ascii_digits ds) h in
    and_from (is_ascii_digit b) (all_ascii_digits (ds ++ c ∷ [])) parts.0 (digits_push ds c parts.1 d)

no_digit : (text : List ℕ) (i : ℕ) → i < length text → is_ascii_digit (get_or text i 0) ≡ false → all_ascii_digits text ≡ false
no_digit [] i lt h = absurd (omega arith)
no_digit (c ∷ cs) zero lt h = and_left (is_ascii_digit c) (all_ascii_digits cs) h
no_digit (c ∷ cs) (suc i) lt h = and_right (is_ascii_digit c) (all_ascii_digits cs) (no_digit cs i (omega arith) h)

pub digits_more : (text : List ℕ) (i c : ℕ) → i < length text → c ≡ get_or text i 0 → all_ascii_digits (take i text) ≡ true → is_ascii_digit c ≡ true → all_ascii_digits (take (i + 1) text) ≡ true
digits_more text i c lt e h d = ap all_ascii_digits (take_more text i 0 lt) ∙ digits_push (take i text) (get_or text i 0) h (ap is_ascii_digit (sym e) ∙ d)

pub ascii_value : (c : ℕ) → is_ascii_digit c ≡ true → (digit_value c + 48 ≡ c) × (c < 58)
ascii_value c h =
    let range = (tells_all_ascii_digits.parts c [] (and_from (is_ascii_digit c) true h refl)).0 in
    (digit_value_digit c range, omega (arith, range))

pub value_more : (text : List ℕ) (i digit value : ℕ) → i < length text → is_ascii_digit (get_or text i 0) ≡ true → digit ≡ get_or text i 0 - 48 → value ≡ digits_value 10 (take i text) → value * 10 + digit ≡ digits_value 10 (take (i + 1) text)
value_more text i digit value lt d e h =
    let c = get_or text i 0 in
    let is : digit_value c ≡ digit = omega (arith, (ascii_value c d).0) in
    sym (ap (digits_value 10) (take_more text i 0 lt) ∙ digits_value_push 10 (take i text) c ∙ ap (λ (n : ℕ). n * 10 + digit_value c) (sym h) ∙ ap (λ (b : ℕ). value * 10 + b) is)

pub number_none_empty : (most : ℕ) (text : List ℕ) → length text ≡ 0 → number_of most text ≡ None
unfolding number_of
number_none_empty most [] e = refl
number_none_empty most (c ∷ cs) e = absurd (omega arith)

pub number_none_digit : (most : ℕ) (text : List ℕ) (i c : ℕ) → i < length text → c ≡ get_or text i 0 → is_ascii_digit c ≡ false → number_of most text ≡ None
unfolding number_of
number_none_digit most text i c lt e h =
    cond-false _ (Some (digits_value 10 text)) None (and_left (ltb 0 (length text) && all_ascii_digits text) (leb (digits_value 10 text) most) (and_right (ltb 0 (length text)) (all_ascii_digits text) (no_digit text i lt (ap is_ascii_digit (sym e) ∙ h))))

pub number_none_big : (most : ℕ) (text : List ℕ) (j : ℕ) → most < digits_value 10 (take j text) → number_of most text ≡ None
unfolding number_of
number_none_big most text j lt =
    let below : digits_value 10 (take j text) ≤ digits_value 10 text = digits_value-take-le 10 text j (omega arith) in
    cond-false _ (Some (digits_value 10 text)) None (and_right (ltb 0 (length text) && all_ascii_digits text) (leb (digits_value 10 text) most) (lt-leb (digits_value 10 text) most (omega arith)))

pub number_some : (most : ℕ) (text : List ℕ) → 0 < length text → all_ascii_digits text ≡ true → digits_value 10 text ≤ most → number_of most text ≡ Some (digits_value 10 text)
unfolding number_of
number_some most text some digits le =
    cond-true _ (Some (digits_value 10 text)) None (and_from (ltb 0 (length text) && all_ascii_digits text) (leb (digits_value 10 text) most) (and_from (ltb 0 (length text)) (all_ascii_digits text) (grind arith) digits) (grind arith))
