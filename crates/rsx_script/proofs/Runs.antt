-- The words of a line, from a place in it on.
use Rattle.std.proofs.Common.{Option, Some, None, Ok, Err, subst, ◌≡◌, ℕ, suc, ◌+◌, ◌<◌, ◌≤◌, Bool, true, false, cond, ◌==◌, ◌||◌, inl, inr, List, [], ◌∷◌, length, drop, refl, sym, ap, ◌∙◌, arith}
use Rattle.std.proofs.lemmas.Bool.Decides.{nat_tests}
use Rattle.std.proofs.lemmas.List.{length-take}
use Rattle.std.specs.Prelude.{nat_lt, slice_get, slice_index, not}
use Rattle.std.specs.List.{IsFirstAndRest, before_first, position, position_or_len, prefix_len}
use Rattle.std.proofs.lemmas.Bool.{cases_Bool, ne_eqb}
use Rattle.rsx_script.specs.Words.{is_written, is_separator, from_word, words_after, text_from, opening, closing, text, nothing, column_of, is_strange, text_placed, BeginsText}
use Rattle.rsx_script.specs.declared.words.LineRefusal.TheVariants.{Syntax}
use Rattle.rsx_script.specs.Reading.{left_at, next_at, next_in, is_opening, is_opening_next}

-- the spaces in front have no words
pub skips : (end : ℕ) (bs : List ℕ) → words_after false end (from_word bs) ≡ words_after false end bs
unfolding words_after
skips end [] = refl
skips end (b ∷ bs) =
    let n = prefix_len (λ x. not (is_written x)) bs in
    let next : 1 + n ≡ suc n = omega arith in
    elim (cases_Bool (b == 32)) [
      | inl h ↦ rw (h, next) (skips end bs)
      | inr h ↦ ap (λ v. words_after false end (drop (cond (not (not v)) (1 + n) 0) (b ∷ bs))) h
    ]

-- the last choice of all
last_chosen : {A : Type 0} (a b c : Bool) (x y z u : A) → (a || (b || c)) ≡ false → cond a x (cond b y (cond c z u)) ≡ u
last_chosen true b c x y z u h = absurd cc
last_chosen false true c x y z u h = absurd cc
last_chosen false false true x y z u h = absurd cc
last_chosen false false false x y z u h = refl

-- what follows a byte inside a word, where it is a separator
same_chosen : {A : Type 0} (a b c : Bool) (x y z u v : A) → (a || (b || c)) ≡ true → cond a x (cond b y (cond c z u)) ≡ cond a x (cond b y (cond c z v))
same_chosen true b c x y z u v h = refl
same_chosen false true c x y z u v h = refl
same_chosen false false true x y z u v h = refl
same_chosen false false false x y z u v h = absurd cc

-- where a word ends that begins with this byte
past_byte : (b : ℕ) (bs : List ℕ) → is_separator b ≡ false → drop (position_or_len is_separator (b ∷ bs)) (b ∷ bs) ≡ drop (position_or_len is_separator bs) bs
past_byte b bs h =
    let n = prefix_len (λ x. not (is_separator x)) bs in
    let next : 1 + n ≡ suc n = omega arith in
    ap (λ v. drop (cond (not v) (1 + n) 0) (b ∷ bs)) h ∙ ap (λ k. drop k (b ∷ bs)) next

-- behind a word that goes on, the words are those from its end on
pub goes_on : (end : ℕ) (bs : List ℕ) → words_after true end bs ≡ words_after false end (drop (position_or_len is_separator bs) bs)
unfolding words_after
goes_on end [] = refl
goes_on end (b ∷ bs) =
    let n = prefix_len (λ x. not (is_separator x)) bs in
    elim (cases_Bool (is_separator b)) [
      | inl h ↦ same_chosen (b == 32) (b == 40) (b == 41) _ _ _ _ _ h ∙ sym (ap (λ v. words_after false end (drop (cond (not v) (1 + n) 0) (b ∷ bs))) h)
      | inr h ↦ last_chosen (b == 32) (b == 40) (b == 41) _ _ _ _ h ∙ (goes_on end bs ∙ sym (ap (words_after false end) (past_byte b bs h)))
    ]

-- a word that is no parenthesis, and what follows it
pub begins_text : (end b : ℕ) (bs : List ℕ) → is_separator b ≡ false → words_after false end (b ∷ bs) ≡ text_from end (b ∷ bs) ∷ words_after false end (drop (position_or_len is_separator (b ∷ bs)) (b ∷ bs))
unfolding words_after
begins_text end b bs h =
    last_chosen (b == 32) (b == 40) (b == 41) _ _ _ _ h
    ∙ ap (λ ws. text_from end (b ∷ bs) ∷ ws) (goes_on end bs ∙ sym (ap (words_after false end) (past_byte b bs h)))

-- ---- the next word

pub end_is : (end : ℕ) → next_at (left_at end []) ≡ Ok ((end, nothing), left_at end [])
unfolding next_at words_after
end_is end = refl

pub opening_is : (end : ℕ) (bs : List ℕ) → next_at (left_at end (40 ∷ bs)) ≡ Ok ((column_of end (40 ∷ bs), opening), left_at end bs)
unfolding next_at words_after
opening_is end bs = refl

pub closing_is : (end : ℕ) (bs : List ℕ) → next_at (left_at end (41 ∷ bs)) ≡ Ok ((column_of end (41 ∷ bs), closing), left_at end bs)
unfolding next_at words_after
closing_is end bs = refl

next_is_text : (end : ℕ) (bytes : List ℕ) → BeginsText bytes → next_at (left_at end bytes) ≡ next_in end (text_from end bytes ∷ words_after false end (drop (position_or_len is_separator bytes) bytes))
unfolding next_at
next_is_text end [] h = absurd (omega (arith, h.0))
next_is_text end (b ∷ bs) h = ap (next_in end) (begins_text end b bs h.1)

pub strange_is : (end : ℕ) (bytes : List ℕ) (place : ℕ) → BeginsText bytes → position is_strange (before_first is_separator bytes) ≡ Some place → next_at (left_at end bytes) ≡ Err (Syntax (column_of end bytes + place))
strange_is end bytes place h e =
    next_is_text end bytes h
    ∙ ap (λ o. next_in end (text_placed (column_of end bytes) (before_first is_separator bytes) o ∷ words_after false end (drop (position_or_len is_separator bytes) bytes))) e

pub text_is : (end : ℕ) (bytes : List ℕ) → BeginsText bytes → position is_strange (before_first is_separator bytes) ≡ None
    → next_at (left_at end bytes) ≡ Ok ((column_of end bytes, text (before_first is_separator bytes)), left_at end (drop (position_or_len is_separator bytes) bytes))
text_is end bytes h e =
    next_is_text end bytes h
    ∙ ap (λ o. next_in end (text_placed (column_of end bytes) (before_first is_separator bytes) o ∷ words_after false end (drop (position_or_len is_separator bytes) bytes))) e

-- the byte with which a word begins is not the space
pub is_written_there : (bs : List ℕ) → 0 < length (from_word bs) → (slice_index (from_word bs) 0 == 32) ≡ false
is_written_there [] h = absurd (omega arith)
is_written_there (b ∷ bs) h =
    let n = prefix_len (λ x. not (is_written x)) bs in
    let next : 1 + n ≡ suc n = omega arith in
    let there : Bool → Type 0 = λ v. 0 < length (drop (cond (not (not v)) (1 + n) 0) (b ∷ bs)) → (slice_index (drop (cond (not (not v)) (1 + n) 0) (b ∷ bs)) 0 == 32) ≡ false in
    elim (cases_Bool (b == 32)) [
      | inl e ↦ (let with_next : there true = rw next (is_written_there bs) in subst there (sym e) with_next) h
      | inr e ↦ (let with_none : there false = λ _. e in subst there (sym e) with_none) h
    ]

no_byte : (a b c : Bool) → a ≡ false → b ≡ false → c ≡ false → (a || (b || c)) ≡ false
no_byte true b c h k l = absurd cc
no_byte false true c h k l = absurd cc
no_byte false false true h k l = absurd cc
no_byte false false false h k l = refl

of_text : (column : ℕ) (word : List ℕ) (o : Option ℕ) → is_opening (text_placed column word o).word ≡ false
of_text column word None = refl
of_text column word (Some place) = refl

pub is_opening_at : (end b : ℕ) (bs : List ℕ) → (b == 32) ≡ false → is_opening_next (left_at end (b ∷ bs)) ≡ (b == 40)
unfolding is_opening_next words_after
is_opening_at end b bs h =
    elim (cases_Bool (b == 40)) [
      | inl e ↦ rw (h, e) refl
      | inr e ↦ elim (cases_Bool (b == 41)) [
        | inl f ↦ rw (h, e, f) refl
        | inr f ↦ rw (h, e, f) (of_text _ _ _)
      ]
    ]

-- ---- the first byte

pub first_and_rest : (bytes rest : List ℕ) (b : ℕ) → IsFirstAndRest bytes b rest → bytes ≡ b ∷ rest
first_and_rest bytes rest b h = h.0

pub first_is : (bytes : List ℕ) (b : ℕ) → Some b ≡ slice_get bytes 0 → bytes ≡ b ∷ drop 1 bytes
first_is [] b h = absurd cc
first_is (x ∷ xs) b h = cc

pub is_no_opening_at_end : (end : ℕ) → is_opening_next (left_at end []) ≡ false
unfolding is_opening_next words_after
is_no_opening_at_end end = refl

-- whether a word that begins here is `(`
pub opening_tells : (end b : ℕ) (line bs : List ℕ) → from_word line ≡ b ∷ bs → is_opening_next (left_at end (b ∷ bs)) ≡ (b == 40)
opening_tells end b line bs h =
    let there : 0 < length (from_word line) = rw h (omega arith) in
    is_opening_at end b bs (sym (ap (λ l. slice_index l 0 == 32) h) ∙ is_written_there line there)

-- a word that is no parenthesis begins here
pub begins_no_separator : (b : ℕ) (line bytes bs : List ℕ) → bytes ≡ from_word line → bytes ≡ b ∷ bs → (b ≡ 40 → ⊥) → (b ≡ 41 → ⊥) → BeginsText bytes
begins_no_separator b line bytes bs e h o c =
    let there : from_word line ≡ b ∷ bs = sym e ∙ h in
    let long : 0 < length (from_word line) = rw there (omega arith) in
    let no : (n : ℕ) → (b ≡ n → ⊥) → (b == n) ≡ false = λ n k. ne_eqb b n k in
    rw h (omega arith, no_byte _ _ _ (sym (ap (λ l. slice_index l 0 == 32) there) ∙ is_written_there line long) (no 40 o) (no 41 c))

found_below : (n len place most : ℕ) (b : Bool) → (b ≡ true → n < len) → cond b (Some n) None ≡ Some place → len ≤ most → place < most
found_below n len place most true t e h = let same : n ≡ place = cc in let near : n < len = t refl in omega arith
found_below n len place most false t e h = absurd cc

-- a strange byte of a word stands within the bytes
pub place_within : (bytes : List ℕ) (place : ℕ) → position is_strange (before_first is_separator bytes) ≡ Some place → place < length bytes
place_within bytes place e =
    let word = before_first is_separator bytes in
    let n = position_or_len is_strange word in
    let short : length word ≤ length bytes = omega (arith, length-take (position_or_len is_separator bytes) bytes) in
    found_below n (length word) place (length bytes) (nat_lt n (length word)) (λ t. grind (arith, nat_tests)) e short
