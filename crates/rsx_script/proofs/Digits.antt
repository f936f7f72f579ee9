-- The numbers that words write are those that `parse` reads, but for a `+` in front.
use Rattle.std.proofs.Common.{◌≡◌, ◌≢◌, ℕ, ◌<◌, ◌≤◌, ◌^◌, Bool, true, false, cond, ◌&&◌, ◌==◌, inl, inr, List, [], ◌∷◌, length, Option, Some, None, Result, Ok, Err, ℤ, pos, refl, sym, ap, ◌∙◌, arith}
use Rattle.std.specs.Prelude.{nat_lt, nat_le, slice_index, OkIff}
use Rattle.std.specs.Result.{result_ok}
use Rattle.std.specs.Int.{w64}
use Rattle.std.specs.Str.{all_ascii_digits}
use Rattle.std.specs.Str.Parse.{digits_value, ParsesUnsigned, ParsesSigned}
use Rattle.std.proofs.lemmas.Bool.Decides.{nat_tests}
use Rattle.std.proofs.lemmas.Str.Parse.{IsNumeralModel, numerals_by_value, tells_all_ascii_digits, parse_plain, parse_signed_plain, parse_signed_minus}
use Rattle.std.proofs.lemmas.Bool.{cases_Bool}
use Rattle.rsx_script.specs.Numbers.{is_numeral, unsigned_of, signed_of, negative_of, positive_of, ParsedWithoutPlus}

digits : IsNumeralModel (λ ds. all_ascii_digits ds ≡ true) (digits_value 10)
digits = numerals_by_value _ tells_all_ascii_digits

all_three : (a b c : Bool) → a ≡ true → b ≡ true → c ≡ true → ((a && b) && c) ≡ true
all_three true true true h k l = refl
all_three true true false h k l = absurd cc
all_three true false c h k l = absurd cc
all_three false b c h k l = absurd cc

the_parts : (a b c : Bool) → ((a && b) && c) ≡ true → (a ≡ true) × (b ≡ true) × (c ≡ true)
the_parts true true true h = (refl, refl, refl)
the_parts true true false h = absurd cc
the_parts true false c h = absurd cc
the_parts false b c h = absurd cc

-- what is read exactly where a test passes
chosen : {A E : Type 0} (r : Result A E) (P : Type 0) (t : Bool) (v : A) → OkIff r P v → (P → t ≡ true) → (t ≡ true → P) → result_ok r ≡ cond t (Some v) None
chosen (Ok x) P t v h to from = rw (to h.0) (ap Some h.1)
chosen (Err e) P t v h to from =
    elim (cases_Bool t) [
      | inl holds ↦ absurd (h (from holds))
      | inr fails ↦ rw fails refl
    ]

-- a test of three parts, one of them an order of numbers
below : (bs : List ℕ) (n most : ℕ) → (all_ascii_digits bs ≡ true) × (0 < length bs) × (n < most) → (is_numeral bs && nat_lt n most) ≡ true
below bs n most p = all_three (nat_lt 0 (length bs)) (all_ascii_digits bs) (nat_lt n most) (grind (arith, nat_tests)) p.0 (grind (arith, nat_tests))

is_below : (bs : List ℕ) (n most : ℕ) → (is_numeral bs && nat_lt n most) ≡ true → (all_ascii_digits bs ≡ true) × (0 < length bs) × (n < most)
is_below bs n most t =
    let q = the_parts (nat_lt 0 (length bs)) (all_ascii_digits bs) (nat_lt n most) t in
    let a = q.0 in
    let b = q.2 in
    (q.1, grind (arith, nat_tests), grind (arith, nat_tests))

up_to : (bs : List ℕ) (n most : ℕ) → (all_ascii_digits bs ≡ true) × (0 < length bs) × (n ≤ most) → (is_numeral bs && nat_le n most) ≡ true
up_to bs n most p = all_three (nat_lt 0 (length bs)) (all_ascii_digits bs) (nat_le n most) (grind (arith, nat_tests)) p.0 (grind (arith, nat_tests))

is_up_to : (bs : List ℕ) (n most : ℕ) → (is_numeral bs && nat_le n most) ≡ true → (all_ascii_digits bs ≡ true) × (0 < length bs) × (n ≤ most)
is_up_to bs n most t =
    let q = the_parts (nat_lt 0 (length bs)) (all_ascii_digits bs) (nat_le n most) t in
    let a = q.0 in
    let b = q.2 in
    (q.1, grind (arith, nat_tests), grind (arith, nat_tests))

unsigned_parsed : {E : Type 0} (k : ℕ) (bs : List ℕ) (r : Result ℕ E) → slice_index bs 0 ≢ 43 → ParsesUnsigned k 10 bs r → result_ok r ≡ unsigned_of k bs
unfolding unsigned_of
unsigned_parsed k bs r ne h = chosen r _ _ _ (parse_plain digits k bs r h ne) (below bs (digits_value 10 bs) (2 ^ k)) (is_below bs (digits_value 10 bs) (2 ^ k))

signed_parsed : {E : Type 0} (bs : List ℕ) (r : Result ℤ E) → slice_index bs 0 ≢ 43 → ParsesSigned w64 10 bs r → result_ok r ≡ signed_of bs
unfolding signed_of
signed_parsed [] r ne h = chosen r _ false (pos 0) (parse_signed_plain digits w64 [] r h ne (omega arith)) (λ p. absurd (omega (arith, p.1))) (λ t. absurd cc)
signed_parsed (b ∷ bs) r ne h =
    elim (cases_Bool (b == 45)) [
      | inl minus ↦
          let is : b ≡ 45 = grind (arith, nat_tests) in
          rw minus (chosen r _ _ _ (parse_signed_minus digits w64 (b ∷ bs) r h is) (up_to bs (digits_value 10 bs) (2 ^ 63)) (is_up_to bs (digits_value 10 bs) (2 ^ 63)))
      | inr plain ↦
          let is : b ≢ 45 = grind (arith, nat_tests) in
          rw plain (chosen r _ _ _ (parse_signed_plain digits w64 (b ∷ bs) r h ne is) (below (b ∷ bs) (digits_value 10 (b ∷ bs)) (2 ^ 63)) (is_below (b ∷ bs) (digits_value 10 (b ∷ bs)) (2 ^ 63)))
    ]

-- a word that begins with `+` writes no number
no_plus : (a b c : Bool) → b ≡ false → ((a && b) && c) ≡ false
no_plus true true c h = absurd cc
no_plus true false c h = refl
no_plus false b c h = refl

pub unsigned_none : (k : ℕ) (bs : List ℕ) → slice_index bs 0 ≡ 43 → unsigned_of k bs ≡ None
unfolding unsigned_of
unsigned_none k [] h = absurd (omega arith)
unsigned_none k (b ∷ bs) h = ap (λ t. cond t (Some (digits_value 10 (b ∷ bs))) None) (no_plus (nat_lt 0 (length (b ∷ bs))) (all_ascii_digits (b ∷ bs)) (nat_lt (digits_value 10 (b ∷ bs)) (2 ^ k)) (ap (λ c. all_ascii_digits (c ∷ bs)) h))

pub signed_none : (bs : List ℕ) → slice_index bs 0 ≡ 43 → signed_of bs ≡ None
unfolding signed_of
signed_none [] h = refl
signed_none (b ∷ bs) h =
    ap (λ c. cond (c == 45) (negative_of bs) (positive_of (c ∷ bs))) h
    ∙ ap (λ t. cond t (Some (pos (digits_value 10 (43 ∷ bs)))) None) (no_plus (nat_lt 0 (length (43 ∷ bs))) (all_ascii_digits (43 ∷ bs)) (nat_lt (digits_value 10 (43 ∷ bs)) (2 ^ 63)) refl)

-- the number that a word writes is what `number_of` gives
pub unsigned_is : {E : Type 0} (k : ℕ) (gives : List ℕ → Result ℕ E → Type 0) → ((bs : List ℕ) (r : Result ℕ E) → gives bs r → ParsesUnsigned k 10 bs r) → (bs : List ℕ) (o : Option ℕ) → ParsedWithoutPlus gives bs o → o ≡ unsigned_of k bs
unsigned_is {E} k gives to bs None (inl plus) = sym (unsigned_none k bs plus)
unsigned_is {E} k gives to bs None (inr h) = let r : Result ℕ E = Err h.1.0 in unsigned_parsed k bs r h.0 (to bs r h.1.1)
unsigned_is {E} k gives to bs (Some n) h = let r : Result ℕ E = Ok n in unsigned_parsed k bs r h.0 (to bs r h.1)

pub signed_is : {E : Type 0} (gives : List ℕ → Result ℤ E → Type 0) → ((bs : List ℕ) (r : Result ℤ E) → gives bs r → ParsesSigned w64 10 bs r) → (bs : List ℕ) (o : Option ℤ) → ParsedWithoutPlus gives bs o → o ≡ signed_of bs
signed_is {E} gives to bs None (inl plus) = sym (signed_none bs plus)
signed_is {E} gives to bs None (inr h) = let r : Result ℤ E = Err h.1.0 in signed_parsed bs r h.0 (to bs r h.1.1)
signed_is {E} gives to bs (Some n) h = let r : Result ℤ E = Ok n in signed_parsed bs r h.0 (to bs r h.1)
