-- Words that are joined by single spaces are read again.
use Rattle.std.proofs.Common.{◌≡◌, ℕ, suc, ◌+◌, ◌≤◌, ◌<◌, Bool, true, false, eqb, cond, List, [], ◌∷◌, ◌++◌, length, take, drop, Option, Some, Ok, Err, refl, ap, ◌∙◌, arith}
use Rattle.std.specs.Prelude.{not, codes}
use Rattle.std.specs.List.{position_or_len, join_with_byte}
use Rattle.std.specs.Str.{bytes_eq, all_ascii_digits}
use Rattle.std.specs.Str.Parse.{AllDigits}
use Rattle.std.proofs.lemmas.List.{take_at, drop_at, take_all, drop_all, length-append}
use Rattle.std.proofs.lemmas.Str.Parse.{tells_all_ascii_digits, numerals_by_value, digit_from_value}
use Rattle.std.proofs.lemmas.Bool.{cond-false, and_left}
use Rattle.std.proofs.lemmas.Bool.Decides.{nat_tests}
use Rattle.rsx_tck.specs.declared.event.Event.{Event}
use Rattle.rsx_tck.specs.declared.event.Stamped.{Stamped}
use Rattle.rsx_tck.specs.Reading.{◌>>=◌, behind, word_at, valued, number_of, number_at}
use Rattle.rsx_tck.specs.Grammar.{IsNumber}
use Rattle.rsx_tck.proofs.Numbers.{number_some}

abbrev pub space : ℕ → Bool
space b = eqb b 32

-- a word: some bytes, and no space among them
pub record IsWord (w : List ℕ) : Type 0 where
  pub some : 0 < length w
  pub solid : position_or_len space w ≡ length w

abbrev pub StartWell : List (List ℕ) → Type 0
StartWell [] = Unit {0}
StartWell (w ∷ ws) = 0 < length w

abbrev pub joined : List (List ℕ) → List ℕ
joined ws = join_with_byte 32 ws

pub joined_some : (w : List ℕ) (ws : List (List ℕ)) → 0 < length w → 0 < length (joined (w ∷ ws))
joined_some w [] lt = lt
joined_some w (v ∷ vs) lt = omega (arith, length-append w (32 ∷ joined (v ∷ vs)))

pub place_step : (t : Bool) (n m : ℕ) → cond (not t) (1 + n) 0 ≡ suc m → (t ≡ false) × (n ≡ m)
place_step true n m e = absurd (omega arith)
place_step false n m e = (refl, omega arith)

pub place_again : (t : Bool) (n : ℕ) → t ≡ false → cond (not t) (1 + n) 0 ≡ suc n
place_again true n e = absurd cc
place_again false n e = omega arith

pub place-append : (w rest : List ℕ) → position_or_len space w ≡ length w → position_or_len space (w ++ 32 ∷ rest) ≡ length w
place-append [] rest e = refl
place-append (b ∷ w) rest e =
    let parts = place_step (space b) (position_or_len space w) (length w) e in
    place_again (space b) (position_or_len space (w ++ 32 ∷ rest)) parts.0 ∙ ap (λ (n : ℕ). suc n) (place-append w rest parts.1)

pub word_is : (bytes : List ℕ) (n : ℕ) → position_or_len space bytes ≡ n → 0 < n → word_at bytes ≡ Ok (take n bytes, behind (drop n bytes))
unfolding word_at
word_is bytes n e lt =
    let some : eqb (position_or_len space bytes) 0 ≡ false = grind (arith, nat_tests) in
    cond-false _ (Err (length bytes)) (Ok (take (position_or_len space bytes) bytes, behind (drop (position_or_len space bytes) bytes))) some
    ∙ ap (λ (k : ℕ). Ok (take k bytes, behind (drop k bytes))) e

behind_space : (bytes : List ℕ) → 0 < length bytes → behind (32 ∷ bytes) ≡ bytes
behind_space [] lt = absurd (omega arith)
behind_space (b ∷ bytes) lt = refl

pub word_again : (w : List ℕ) (ws : List (List ℕ)) → IsWord w → StartWell ws → word_at (joined (w ∷ ws)) ≡ Ok (w, joined ws)
word_again w [] h s =
    let front : take (length w) w ≡ w = take_all (length w) w (omega arith) in
    let back : drop (length w) w ≡ [] = drop_all (length w) w (omega arith) in
    word_is w (length w) h.solid h.some ∙ ap (λ (x : List ℕ). Ok (x, behind (drop (length w) w))) front ∙ ap (λ (x : List ℕ). Ok (w, behind x)) back
word_again w (v ∷ vs) h s =
    let rest = joined (v ∷ vs) in
    let front : take (length w) (w ++ 32 ∷ rest) ≡ w = take_at w (32 ∷ rest) (length w) refl in
    let back : drop (length w) (w ++ 32 ∷ rest) ≡ 32 ∷ rest = drop_at w (32 ∷ rest) (length w) refl in
    word_is (w ++ 32 ∷ rest) (length w) (place-append w rest h.solid) h.some
    ∙ ap (λ (x : List ℕ). Ok (x, behind (drop (length w) (w ++ 32 ∷ rest)))) front
    ∙ ap (λ (x : List ℕ). Ok (w, behind x)) back
    ∙ ap (λ (x : List ℕ). Ok (w, x)) (behind_space rest (joined_some v vs s))

-- ---- numbers

solid_digits : (ds : List ℕ) → AllDigits 10 ds → position_or_len space ds ≡ length ds
solid_digits [] h = refl
solid_digits (c ∷ ds) h =
    let range = digit_from_value c h.0 in
    let other : space c ≡ false = grind (arith, nat_tests, range) in
    place_again (space c) (position_or_len space ds) other ∙ ap (λ (n : ℕ). suc n) (solid_digits ds h.1)

pub IsWord-number : (most : ℕ) (text : List ℕ) (n : ℕ) → IsNumber most text n → IsWord text
IsWord-number most text n h = record { some = h.digits.0; solid = solid_digits text h.digits.1 }

pub number_of_again : (most : ℕ) (text : List ℕ) (n : ℕ) → IsNumber most text n → number_of most text ≡ Some n
number_of_again most text n h =
    let digits : all_ascii_digits text ≡ true = (numerals_by_value (λ ds. all_ascii_digits ds ≡ true) tells_all_ascii_digits).from text h.digits.1 in
    number_some most text h.digits.0 digits (omega (arith, h.value, h.small)) ∙ ap (λ (k : ℕ). Some k) h.value

valued_steps : {A : Type 0} (bytes w rest : List ℕ) (o : List ℕ → Option A) (x : A) → word_at bytes ≡ Ok (w, rest) → o w ≡ Some x → (word_at bytes >>= λ word. valued bytes (o word.0) word.1) ≡ Ok (x, rest)
valued_steps bytes w rest o x e f = rw (e, f) refl

pub number_again : (most : ℕ) (text : List ℕ) (n : ℕ) (ws : List (List ℕ)) → IsNumber most text n → StartWell ws → number_at most (joined (text ∷ ws)) ≡ Ok (n, joined ws)
unfolding number_at
number_again most text n ws h s =
    valued_steps (joined (text ∷ ws)) text (joined ws) (number_of most) n (word_again text ws (IsWord-number most text n h) s) (number_of_again most text n h)

first_digit : (most b : ℕ) (text : List ℕ) (n : ℕ) → IsNumber most (b ∷ text) n → (48 ≤ b) × (b < 58)
first_digit most b text n h =
    let range = digit_from_value b h.digits.1.0 in
    (omega (arith, range), omega (arith, range))

pub no_minus : (most b : ℕ) (text : List ℕ) (n : ℕ) → IsNumber most (b ∷ text) n → eqb b 45 ≡ false
no_minus most b text n h =
    let range = first_digit most b text n h in
    grind (arith, nat_tests, range)

pub IsWord-minus : (text : List ℕ) → IsWord text → IsWord (codes "-" ++ text)
IsWord-minus text h = record { some = omega arith; solid = place_again (space 45) (position_or_len space text) refl ∙ ap (λ (n : ℕ). suc n) h.solid }

-- a number is no `end`
pub not_end : (most : ℕ) (text : List ℕ) (n : ℕ) → IsNumber most text n → bytes_eq text (codes "end") ≡ false
not_end most [] n h = refl
not_end most (b ∷ text) n h =
    let range = first_digit most b text n h in
    let other : eqb b 101 ≡ false = grind (arith, nat_tests, range) in
    and_left (eqb b 101) (bytes_eq text (codes "nd")) other

-- ---- events

abbrev pub stamp : ℕ → Event → Stamped
stamp w e = record { worker = w; event = e }
