-- Words that stand in front of a separator, and how they are read; and the words of numbers and functions.
use Rattle.std.proofs.Common.{◌≡◌, ℕ, suc, ◌+◌, ◌<◌, ◌≤◌, ◌^◌, Bool, true, false, cond, ◌&&◌, ◌||◌, ◌==◌, inl, inr, List, [], ◌∷◌, ◌++◌, length, take, drop, Option, Some, None, Ok, ℤ, pos, negsuc, neg_ℤ, refl, sym, ap, subst, ◌∙◌, arith}
use Rattle.std.specs.Prelude.{not, nat_lt, nat_le, slice_index, IsSome, codes}
use Rattle.std.specs.Char.{is_ascii_graphic}
use Rattle.std.specs.Fmt.{decimal, signed_decimal}
use Rattle.std.specs.List.{before_first, position, position_or_len, prefix_len}
use Rattle.std.specs.Str.{all_ascii_digits}
use Rattle.std.specs.Str.Parse.{AllDigits, IsNumeral, digits_value}
use Rattle.std.proofs.Math.Seq.{take-append_seam, drop-append_seam}
use Rattle.std.proofs.lemmas.Bool.{cases_Bool}
use Rattle.std.proofs.lemmas.Bool.Decides.{nat_tests}
use Rattle.std.proofs.lemmas.Fmt.{decimal_is_IsNumeral}
use Rattle.std.proofs.lemmas.Str.Parse.{IsNumeralModel, numerals_by_value, tells_all_ascii_digits, digit_from_value}
use Rattle.rsx_demo.specs.declared.names.Role.{Role}
use Rattle.rsx_demo.specs.declared.names.Role.TheVariants as for
use Rattle.rsx_demo.specs.Names.{number_named}
use Rattle.rsx_script.specs.Words.{is_separator, is_strange, words_after, text, column_of}
use Rattle.rsx_script.specs.Numbers.{is_numeral, unsigned_of, signed_of, negative_of, positive_of}
use Rattle.rsx_script.specs.Reading.{left_at, next_at, name_at, number_at, opening_at, closing_at, end_at}
use Rattle.rsx_script.specs.Expressions.{function_at}
use Rattle.rsx_script.proofs.Runs.{text_is, opening_is, closing_is, end_is}
use Rattle.rsx_drive.specs.Names.{name_of, function_text, map_name, name_of_two}
use Rattle.rsx_drive.specs.Text.{IsSmallInt}

-- ---- words

-- a byte that a word may have
abbrev pub is_plain : ℕ → Bool
is_plain b = not (is_separator b) && is_ascii_graphic b

abbrev pub all_plain : List ℕ → Bool
all_plain [] = true
all_plain (b ∷ bs) = is_plain b && all_plain bs

pub record IsWord (w : List ℕ) : Type 0 where
  pub some : 0 < length w
  pub plain : all_plain w ≡ true

both_true : (a b : Bool) → (a && b) ≡ true → (a ≡ true) × (b ≡ true)
both_true true true h = (refl, refl)
both_true true false h = absurd cc
both_true false b h = absurd cc

no_separator : (a : Bool) → not a ≡ true → a ≡ false
no_separator true h = absurd cc
no_separator false h = refl

len_is : (w : List ℕ) (b : ℕ) (r : List ℕ) → all_plain w ≡ true → is_separator b ≡ true → position_or_len is_separator (w ++ b ∷ r) ≡ length w
len_is [] b r h s = ap (λ v. cond (not v) (1 + prefix_len (λ x. not (is_separator x)) r) 0) s
len_is (x ∷ xs) b r h s =
    let p = both_true (is_plain x) (all_plain xs) h in
    let q = both_true (not (is_separator x)) (is_ascii_graphic x) p.0 in
    let n = prefix_len (λ y. not (is_separator y)) (xs ++ b ∷ r) in
    let k : n ≡ length xs = len_is xs b r p.1 s in
    let e : 1 + n ≡ length (x ∷ xs) = omega arith in
    ap (λ v. cond v (1 + n) 0) q.0 ∙ e

graphic_len : (w : List ℕ) → all_plain w ≡ true → position_or_len is_strange w ≡ length w
graphic_len [] h = refl
graphic_len (x ∷ xs) h =
    let p = both_true (is_plain x) (all_plain xs) h in
    let q = both_true (not (is_separator x)) (is_ascii_graphic x) p.0 in
    let n = prefix_len (λ y. not (is_strange y)) xs in
    let k : n ≡ length xs = graphic_len xs p.1 in
    let e : 1 + n ≡ length (x ∷ xs) = omega arith in
    ap (λ v. cond (not (not v)) (1 + n) 0) q.1 ∙ e

none_there : (n m : ℕ) → n ≡ m → cond (nat_lt n m) (Some n) None ≡ None
none_there n m e = let t : nat_lt n m ≡ false = grind (arith, nat_tests) in ap (λ v. cond v (Some n) None) t

front_is : (w : List ℕ) (b : ℕ) (r : List ℕ) → all_plain w ≡ true → is_separator b ≡ true → before_first is_separator (w ++ b ∷ r) ≡ w
front_is w b r h s = ap (λ n. take n (w ++ b ∷ r)) (len_is w b r h s) ∙ take-append_seam w (b ∷ r)

back_is : (w : List ℕ) (b : ℕ) (r : List ℕ) → all_plain w ≡ true → is_separator b ≡ true → drop (position_or_len is_separator (w ++ b ∷ r)) (w ++ b ∷ r) ≡ b ∷ r
back_is w b r h s = ap (λ n. drop n (w ++ b ∷ r)) (len_is w b r h s) ∙ drop-append_seam w (b ∷ r)

first_is_plain : (w : List ℕ) (r : List ℕ) → IsWord w → (0 < length (w ++ r)) × (is_separator (slice_index (w ++ r) 0) ≡ false)
first_is_plain [] r h = absurd (omega (arith, h.some))
first_is_plain (x ∷ xs) r h =
    let p = both_true (is_plain x) (all_plain xs) h.plain in
    let q = both_true (not (is_separator x)) (is_ascii_graphic x) p.0 in
    (omega arith, no_separator (is_separator x) q.0)

pub word_is : (end : ℕ) (w : List ℕ) (b : ℕ) (r : List ℕ) → IsWord w → is_separator b ≡ true
    → next_at (left_at end (w ++ b ∷ r)) ≡ Ok ((column_of end (w ++ b ∷ r), text w), left_at end (b ∷ r))
word_is end w b r h s =
    let front = front_is w b r h.plain s in
    let plain : position is_strange (before_first is_separator (w ++ b ∷ r)) ≡ None = ap (λ v. position is_strange v) front ∙ none_there _ (length w) (graphic_len w h.plain) in
    text_is end (w ++ b ∷ r) (first_is_plain w (b ∷ r) h) plain
    ∙ ap (λ v. Ok ((column_of end (w ++ b ∷ r), text v), left_at end (drop (position_or_len is_separator (w ++ b ∷ r)) (w ++ b ∷ r)))) front
    ∙ ap (λ v. Ok ((column_of end (w ++ b ∷ r), text w), left_at end v)) (back_is w b r h.plain s)

-- a space has no word
pub space_is : (end : ℕ) (r : List ℕ) → left_at end (32 ∷ r) ≡ left_at end r
unfolding words_after
space_is end r = refl

-- ---- what is read of them

pub name_is : (end : ℕ) (w : List ℕ) (b : ℕ) (r : List ℕ) → IsWord w → is_separator b ≡ true
    → name_at (left_at end (w ++ b ∷ r)) ≡ Ok ((column_of end (w ++ b ∷ r), w), left_at end (b ∷ r))
unfolding name_at
name_is end w b r h s = rw (word_is end w b r h s) refl

pub opened : (end : ℕ) (r : List ℕ) → opening_at (left_at end (40 ∷ r)) ≡ Ok (left_at end r)
unfolding opening_at
opened end r = rw (opening_is end r) refl

pub closed : (end : ℕ) (r : List ℕ) → closing_at (left_at end (41 ∷ r)) ≡ Ok (left_at end r)
unfolding closing_at
closed end r = rw (closing_is end r) refl

pub ended : (end : ℕ) → end_at (left_at end []) ≡ Ok (left_at end [])
unfolding end_at
ended end = rw (end_is end) refl

pub number_is : {A : Type 0} (reads : List ℕ → Option A) (end : ℕ) (w : List ℕ) (x : A) (b : ℕ) (r : List ℕ) → IsWord w → reads w ≡ Some x → is_separator b ≡ true
    → number_at reads (left_at end (32 ∷ (w ++ b ∷ r))) ≡ Ok (x, left_at end (b ∷ r))
unfolding number_at
number_is reads end w x b r h e s = rw (space_is end (w ++ b ∷ r)) (rw (name_is end w b r h s) (rw e refl))

-- ---- numbers

plain_tests : (a b c g : Bool) → a ≡ false → b ≡ false → c ≡ false → g ≡ true → (not (a || (b || c)) && g) ≡ true
plain_tests a b c g p q r s = rw (p, q, r, s) refl

plain_digit : (c : ℕ) → 48 ≤ c → c ≤ 57 → is_plain c ≡ true
plain_digit c h k =
    let p : (c == 32) ≡ false = grind (arith, nat_tests) in
    let q : (c == 40) ≡ false = grind (arith, nat_tests) in
    let r : (c == 41) ≡ false = grind (arith, nat_tests) in
    let s : is_ascii_graphic c ≡ true = grind (arith, nat_tests) in
    plain_tests (c == 32) (c == 40) (c == 41) (is_ascii_graphic c) p q r s

plain_digits : (ds : List ℕ) → AllDigits 10 ds → all_plain ds ≡ true
plain_digits [] h = refl
plain_digits (c ∷ cs) h =
    let d = digit_from_value c h.0 in
    ap (λ v. v && all_plain cs) (plain_digit c (omega (arith, d.0)) (omega (arith, d.1))) ∙ plain_digits cs h.1

pub decimal_word : (n : ℕ) → n < 2 ^ 64 → IsWord (decimal n)
decimal_word n h = let d = decimal_is_IsNumeral n h in record { some = d.0.0; plain = plain_digits (decimal n) d.0.1 }

pub signed_word : (z : ℤ) → IsSmallInt z → IsWord (signed_decimal z)
signed_word (pos n) h = decimal_word n (omega arith)
signed_word (negsuc n) h =
    let w = decimal_word (suc n) (omega arith) in
    record { some = omega arith; plain = w.plain }

all_three : (a b c : Bool) → a ≡ true → b ≡ true → c ≡ true → ((a && b) && c) ≡ true
all_three a b c p q r = rw (p, q, r) refl

digits_read : (ds : List ℕ) → AllDigits 10 ds → all_ascii_digits ds ≡ true
digits_read ds h = let own : IsNumeralModel (λ bs. all_ascii_digits bs ≡ true) (digits_value 10) = numerals_by_value _ tells_all_ascii_digits in own.from ds h

is_below : (ds : List ℕ) (n most : ℕ) → IsNumeral 10 ds → n < most → (is_numeral ds && nat_lt n most) ≡ true
is_below ds n most h k =
    let some = h.0 in
    all_three (nat_lt 0 (length ds)) (all_ascii_digits ds) (nat_lt n most) (grind (arith, nat_tests)) (digits_read ds h.1) (grind (arith, nat_tests))

is_up_to : (ds : List ℕ) (n most : ℕ) → IsNumeral 10 ds → n ≤ most → (is_numeral ds && nat_le n most) ≡ true
is_up_to ds n most h k =
    let some = h.0 in
    all_three (nat_lt 0 (length ds)) (all_ascii_digits ds) (nat_le n most) (grind (arith, nat_tests)) (digits_read ds h.1) (grind (arith, nat_tests))

pub unsigned_reads : (bits n : ℕ) → n < 2 ^ 64 → n < 2 ^ bits → unsigned_of bits (decimal n) ≡ Some n
unfolding unsigned_of
unsigned_reads bits n h k =
    let d = decimal_is_IsNumeral n h in
    let same = d.1 in
    let v = digits_value 10 (decimal n) in
    ap (λ t. cond t (Some v) None) (is_below (decimal n) v (2 ^ bits) d.0 (rw same k)) ∙ ap Some same

positive_reads : (ds : List ℕ) (n : ℕ) → IsNumeral 10 ds → digits_value 10 ds ≡ n → n < 2 ^ 63 → signed_of ds ≡ Some (pos n)
unfolding signed_of
positive_reads [] n h e k = absurd (omega (arith, h.0))
positive_reads (c ∷ cs) n h e k =
    let d = digit_from_value c h.1.0 in
    let low : 48 ≤ c = omega (arith, d.0) in
    let plain : (c == 45) ≡ false = grind (arith, nat_tests) in
    let v = digits_value 10 (c ∷ cs) in
    ap (λ t. cond t (negative_of cs) (positive_of (c ∷ cs))) plain
    ∙ ap (λ t. cond t (Some (pos v)) None) (is_below (c ∷ cs) v (2 ^ 63) h (rw e k)) ∙ ap (λ m. Some (pos m)) e

pub signed_reads : (z : ℤ) → IsSmallInt z → signed_of (signed_decimal z) ≡ Some z
unfolding signed_of
signed_reads (pos n) h = let d = decimal_is_IsNumeral n (omega arith) in positive_reads (decimal n) n d.0 d.1 h
signed_reads (negsuc n) h =
    let d = decimal_is_IsNumeral (suc n) (omega arith) in
    let same = d.1 in
    let v = digits_value 10 (decimal (suc n)) in
    let near : v ≤ 2 ^ 63 = omega arith in
    ap (λ t. cond t (Some (neg_ℤ (pos v))) None) (is_up_to (decimal (suc n)) v (2 ^ 63) d.0 near) ∙ ap (λ m. Some (neg_ℤ (pos m))) same

-- ---- functions

-- the name of a function is a word, and it is the name of that function
abbrev pub IsCalled : Role → ℕ → Type 0
IsCalled role f = IsWord (function_text role f) × (number_named role (function_text role f) ≡ Some f)

two_none : (a b : Bool) (one two : List ℕ) → a ≡ false → b ≡ false → cond a (Some one) (cond b (Some two) None) ≡ None
two_none a b one two e d = rw (e, d) refl

four_none : (a b c d : Bool) → a ≡ false → b ≡ false → c ≡ false → d ≡ false
    → cond a (Some (codes "inc")) (cond b (Some (codes "double")) (cond c (Some (codes "neg")) (cond d (Some (codes "size")) None))) ≡ None
four_none a b c d h k l m = rw (h, k, l, m) refl

-- bytes that compute to a word
pub word_of : (w : List ℕ) → (nat_lt 0 (length w) && all_plain w) ≡ true → IsWord w
word_of w h =
    let p = both_true (nat_lt 0 (length w)) (all_plain w) h in
    let some = p.0 in
    record { some = grind (arith, nat_tests); plain = p.1 }

one_of_two : (P : ℕ → Type 0) (one two : List ℕ) (f : ℕ) → P 1 → P 2 → IsSome (name_of_two one two f) → P f
one_of_two P one two f p q h =
    elim (cases_Bool (f == 1)) [
      | inl e ↦ let is : f ≡ 1 = grind (arith, nat_tests) in subst P (sym is) p
      | inr e ↦ elim (cases_Bool (f == 2)) [
        | inl d ↦ let is : f ≡ 2 = grind (arith, nat_tests) in subst P (sym is) q
        | inr d ↦ let no : false ≡ true = subst IsSome (two_none (f == 1) (f == 2) one two e d) h in absurd cc
      ]
    ]

one_of_four : (P : ℕ → Type 0) (f : ℕ) → P 1 → P 2 → P 3 → P 4 → IsSome (map_name f) → P f
one_of_four P f p q r s h =
    elim (cases_Bool (f == 1)) [
      | inl e ↦ let is : f ≡ 1 = grind (arith, nat_tests) in subst P (sym is) p
      | inr e ↦ elim (cases_Bool (f == 2)) [
        | inl d ↦ let is : f ≡ 2 = grind (arith, nat_tests) in subst P (sym is) q
        | inr d ↦ elim (cases_Bool (f == 3)) [
          | inl c ↦ let is : f ≡ 3 = grind (arith, nat_tests) in subst P (sym is) r
          | inr c ↦ elim (cases_Bool (f == 4)) [
            | inl b ↦ let is : f ≡ 4 = grind (arith, nat_tests) in subst P (sym is) s
            | inr b ↦ let no : false ≡ true = subst IsSome (four_none (f == 1) (f == 2) (f == 3) (f == 4) e d c b) h in absurd cc
          ]
        ]
      ]
    ]

pub is_called : (role : Role) (f : ℕ) → IsSome (name_of role f) → IsCalled role f
is_called for.Map f h = one_of_four (IsCalled for.Map) f (word_of _ refl, refl) (word_of _ refl, refl) (word_of _ refl, refl) (word_of _ refl, refl) h
is_called for.Test f h = one_of_two (IsCalled for.Test) (codes "even") (codes "positive") f (word_of _ refl, refl) (word_of _ refl, refl) h
is_called for.Fold f h = one_of_two (IsCalled for.Fold) (codes "add") (codes "max") f (word_of _ refl, refl) (word_of _ refl, refl) h
is_called for.Key f h = one_of_two (IsCalled for.Key) (codes "mod3") (codes "same") f (word_of _ refl, refl) (word_of _ refl, refl) h
is_called for.Expand f h = one_of_two (IsCalled for.Expand) (codes "upto") (codes "twice") f (word_of _ refl, refl) (word_of _ refl, refl) h

pub function_is : (role : Role) (f end b : ℕ) (r : List ℕ) → IsSome (name_of role f) → is_separator b ≡ true
    → function_at role (left_at end (32 ∷ (function_text role f ++ b ∷ r))) ≡ Ok (f, left_at end (b ∷ r))
unfolding function_at
function_is role f end b r h s =
    let c = is_called role f h in
    rw (space_is end (function_text role f ++ b ∷ r)) (rw (name_is end (function_text role f) b r c.0 s) (rw c.1 refl))
