-- Sets of numbers of subscriptions.
use Rattle.std.proofs.Common.{◌≡◌, ℕ, zero, suc, ◌+◌, ◌-◌, ◌*◌, ◌/◌, ◌%◌, ◌^◌, ◌<◌, ◌≤◌, min, inl, inr, List, [], ◌∷◌, length, get_or, set, refl, ap, sym, ◌∙◌, subst, arith, w64}
use Rattle.rsx_graph_state.specs.SubscriptionSet.{IsIn}
use Rattle.rsx_graph_state.specs.declared.subscription_set.SubscriptionSet.{SubscriptionSet}
use Rattle.std.specs.Prelude.{◌↔◌, bit_and, bit_or, bit_xor}
use Rattle.std.specs.Int.{bit_at, bit_not, trailing_zeros}
use Rattle.std.proofs.lemmas.Bool.{cases_eq, cases_lt}
use Rattle.std.proofs.lemmas.List.{get_or-set_same, get_or-set_other}
use Rattle.std.proofs.lemmas.Nat.{shr-shr, shr_le}
use Rattle.std.proofs.lemmas.Nat.Bits.{bit_at_set_same, bit_at_set_other, bit_at_clear_same, bit_at_clear_other, bit_at-zero, bit_at-trailing_zeros, bit_at_not, bit_at_above, bit_at-lt, bit_at_and, bit_at_xor, shr_and_one}

-- the bit of this number, among 64 in each word
abbrev pub bit_of : List ℕ → ℕ → ℕ
bit_of words i = bit_at (get_or words (i / 64) 0) (i % 64)

-- one word is changed, in one bit
pub changed : (words : List ℕ) (k w b : ℕ) → k / 64 < length words → bit_at w (k % 64) ≡ b → ((j : ℕ) → j < 64 → (j ≡ k % 64 → ⊥) → bit_at w j ≡ bit_at (get_or words (k / 64) 0) j) → (i : ℕ) →
    (i ≡ k → bit_of (set words (k / 64) w) i ≡ b) × ((i ≡ k → ⊥) → bit_of (set words (k / 64) w) i ≡ bit_of words i)
changed words k w b within here others i = (same, other)
  where
    same : i ≡ k → bit_of (set words (k / 64) w) i ≡ b
    same e = let P : ℕ → Type 0 = λ n. bit_of (set words (k / 64) w) n ≡ b in subst P (sym e) (ap (λ x. bit_at x (k % 64)) (get_or-set_same words (k / 64) w 0 within) ∙ here)

    other : (i ≡ k → ⊥) → bit_of (set words (k / 64) w) i ≡ bit_of words i
    other ne = elim (cases_eq (i / 64) (k / 64)) [
      | inl e ↦
          let bit : i % 64 ≡ k % 64 → ⊥ = λ f. ne (omega (arith, e, f)) in
          let at : bit_at (get_or (set words (k / 64) w) (k / 64) 0) (i % 64) ≡ bit_at (get_or words (k / 64) 0) (i % 64) = ap (λ x. bit_at x (i % 64)) (get_or-set_same words (k / 64) w 0 within) ∙ others (i % 64) (omega arith) bit in
          let P : ℕ → Type 0 = λ n. bit_at (get_or (set words (k / 64) w) n 0) (i % 64) ≡ bit_at (get_or words n 0) (i % 64) in
          subst P (sym e) at
      | inr ne_word ↦ ap (λ x. bit_at x (i % 64)) (get_or-set_other words (k / 64) (i / 64) w 0 ne_word)
    ]

-- a bit is set
pub bit_set : (words : List ℕ) (k : ℕ) → k / 64 < length words → (i : ℕ) →
    let new = set words (k / 64) (bit_or (get_or words (k / 64) 0) (1 * 2 ^ (k % 64) % 2 ^ 64)) in
    (i ≡ k → bit_of new i ≡ 1) × ((i ≡ k → ⊥) → bit_of new i ≡ bit_of words i)
bit_set words k within i =
    let word = get_or words (k / 64) 0 in
    changed words k (bit_or word (1 * 2 ^ (k % 64) % 2 ^ 64)) 1 within (bit_at_set_same w64 word (k % 64) (omega arith)) (λ j l ne. bit_at_set_other w64 word (k % 64) (omega arith) j ne) i

-- a bit is cleared
pub bit_cleared : (words : List ℕ) (k : ℕ) → k / 64 < length words → (i : ℕ) →
    let new = set words (k / 64) (bit_and (get_or words (k / 64) 0) (bit_not w64 (1 * 2 ^ (k % 64) % 2 ^ 64))) in
    (i ≡ k → bit_of new i ≡ 0) × ((i ≡ k → ⊥) → bit_of new i ≡ bit_of words i)
bit_cleared words k within i =
    let word = get_or words (k / 64) 0 in
    changed words k (bit_and word (bit_not w64 (1 * 2 ^ (k % 64) % 2 ^ 64))) 0 within (bit_at_clear_same w64 word (k % 64) (omega arith)) (λ j l ne. bit_at_clear_other w64 word (k % 64) (omega arith) j l ne) i

-- no bit is set in words of which each is 0
pub no_bit : (i : ℕ) → bit_of (0 ∷ 0 ∷ 0 ∷ 0 ∷ []) i ≡ 1 → ⊥
no_bit i e = let z = ap (λ x. bit_at x (i % 64)) (zeros (i / 64)) ∙ bit_at-zero (i % 64) in omega (arith, e, z)
  where
    none : List ℕ
    none = 0 ∷ 0 ∷ 0 ∷ 0 ∷ []

    zeros : (n : ℕ) → get_or none n 0 ≡ 0
    zeros zero = refl
    zeros (suc zero) = refl
    zeros (suc (suc zero)) = refl
    zeros (suc (suc (suc zero))) = refl
    zeros (suc (suc (suc (suc n)))) = refl

-- the bit of a number past the last word isn't set
pub short : (words : List ℕ) (i : ℕ) → length words ≤ i / 64 → bit_of words i ≡ 1 → ⊥
short words i l e = let z = ap (λ x. bit_at x (i % 64)) (past words (i / 64) l) ∙ bit_at-zero (i % 64) in omega (arith, e, z)
  where
    past : (xs : List ℕ) (n : ℕ) → length xs ≤ n → get_or xs n 0 ≡ 0
    past [] n k = refl
    past (x ∷ xs) zero k = absurd (omega (arith, k))
    past (x ∷ xs) (suc n) k = past xs n (omega (arith, k))

-- what is tested of a word is the bit
pub tested : (words : List ℕ) (i : ℕ) → bit_and (get_or words (i / 64) 0 / 2 ^ (i % 64)) 1 ≡ bit_of words i
tested words i = shr_and_one (get_or words (i / 64) 0) (i % 64)

-- ---- the first number from here on whose bit isn't set

-- a bit of what is left of the complement of a word
left_bit : (word k j : ℕ) → word < 2 ^ 64 → k + j < 64 → bit_at (bit_not w64 word / 2 ^ k) j ≡ 1 - bit_at word (k + j)
left_bit word k j small lt = ap (λ x. x % 2) (shr-shr (bit_not w64 word) k j) ∙ bit_at_not w64 word (k + j) small lt

-- it has as many bits as the word has from there on
left_short : (word k j : ℕ) → word < 2 ^ 64 → bit_at (bit_not w64 word / 2 ^ k) j ≡ 1 → k + j < 64
left_short word k j small one = elim (cases_lt (k + j) 64) [
  | inl lt ↦ lt
  | inr ge ↦
      let below : bit_not w64 word < 2 ^ 64 = not_below word small in
      let none = bit_at_above (bit_not w64 word) 64 (k + j) below ge in
      let same = ap (λ x. x % 2) (shr-shr (bit_not w64 word) k j) in
      absurd (omega (arith, one, none, same))
]
  where
    not_below : (n : ℕ) → n < 2 ^ 64 → bit_not w64 n < 2 ^ 64
    not_below n l = omega (arith, l)

-- what holds of the number in its word
in_word : (words : List ℕ) (at j : ℕ) → at % 64 + j < 64 → bit_of words (at + j) ≡ bit_at (get_or words (at / 64) 0) (at % 64 + j)
in_word words at j lt =
    let same : (at + j) / 64 ≡ at / 64 = omega (arith, lt) in
    let place : (at + j) % 64 ≡ at % 64 + j = omega (arith, lt) in
    ap (λ n. bit_at (get_or words n 0) ((at + j) % 64)) same ∙ ap (λ n. bit_at (get_or words (at / 64) 0) n) place

-- the lowest 1 of what is left
pub found : (words : List ℕ) (at t : ℕ) → get_or words (at / 64) 0 < 2 ^ 64 → let rest = bit_not w64 (get_or words (at / 64) 0) / 2 ^ (at % 64) in
    bit_at rest t ≡ 1 → ((j : ℕ) → j < t → bit_at rest j ≡ 0) → (at % 64 + t < 64) × (bit_of words (at + t) ≡ 1 → ⊥) × ((i : ℕ) → at ≤ i → i < at + t → bit_of words i ≡ 1)
found words at t small one zeros = (inside, outside, between)
  where
    word : ℕ
    word = get_or words (at / 64) 0

    inside : at % 64 + t < 64
    inside = left_short word (at % 64) t small one

    outside : bit_of words (at + t) ≡ 1 → ⊥
    outside e = let a = in_word words at t inside in let b = left_bit word (at % 64) t small inside in omega (arith, a, b, e, one)

    between : (i : ℕ) → at ≤ i → i < at + t → bit_of words i ≡ 1
    between i low high =
        let j = i - at in
        let within : at % 64 + j < 64 = let k = inside in omega (arith, k, low, high) in
        let a = in_word words at j within in
        let b = left_bit word (at % 64) j small within in
        let z = zeros j (omega (arith, low, high)) in
        let lt = bit_at-lt word (at % 64 + j) in
        let e : at + j ≡ i = omega (arith, low) in
        let P : ℕ → Type 0 = λ n. bit_of words n ≡ 1 in
        subst P e (omega (arith, a, b, z, lt))

-- the first number from here on whose bit isn't set
pub first_out : (words : List ℕ) (at : ℕ) → get_or words (at / 64) 0 < 2 ^ 64 → let rest = bit_not w64 (get_or words (at / 64) 0) / 2 ^ (at % 64) in
    (rest ≡ 0 → ⊥) → (bit_of words (at + trailing_zeros w64 rest) ≡ 1 → ⊥) × ((i : ℕ) → at ≤ i → i < at + trailing_zeros w64 rest → bit_of words i ≡ 1) × (at % 64 + trailing_zeros w64 rest < 64)
first_out words at small some =
    let rest : ℕ = bit_not w64 (get_or words (at / 64) 0) / 2 ^ (at % 64) in
    let less : rest ≤ bit_not w64 (get_or words (at / 64) 0) = shr_le (bit_not w64 (get_or words (at / 64) 0)) (at % 64) in
    let first = bit_at-trailing_zeros w64 rest (omega (arith, some)) (omega (arith, less)) in
    let k = found words at (trailing_zeros w64 rest) small first.1 first.2 in
    (k.1, k.2, k.0)

-- where nothing is left, all bits up to the word's end are set
pub none_found : (words : List ℕ) (at : ℕ) → get_or words (at / 64) 0 < 2 ^ 64 → bit_not w64 (get_or words (at / 64) 0) / 2 ^ (at % 64) ≡ 0 → (i : ℕ) → at ≤ i → i < (at / 64 + 1) * 64 → bit_of words i ≡ 1
none_found words at small none i low high =
    let word = get_or words (at / 64) 0 in
    let j = i - at in
    let within : at % 64 + j < 64 = omega (arith, low, high) in
    let a = in_word words at j within in
    let b = left_bit word (at % 64) j small within in
    let z = ap (λ x. bit_at x j) none ∙ bit_at-zero j in
    let lt = bit_at-lt word (at % 64 + j) in
    let e : at + j ≡ i = omega (arith, low) in
    let P : ℕ → Type 0 = λ n. bit_of words n ≡ 1 in
    subst P e (omega (arith, a, b, z, lt))

-- ---- two sets, word by word

pub each_word : (f : ℕ → ℕ → ℕ) (xs ys : List ℕ) (n : ℕ) → n < 4 → get_or (f (get_or xs 0 0) (get_or ys 0 0) ∷ f (get_or xs 1 0) (get_or ys 1 0) ∷ f (get_or xs 2 0) (get_or ys 2 0) ∷ f (get_or xs 3 0) (get_or ys 3 0) ∷ []) n 0 ≡ f (get_or xs n 0) (get_or ys n 0)
each_word f xs ys zero l = refl
each_word f xs ys (suc zero) l = refl
each_word f xs ys (suc (suc zero)) l = refl
each_word f xs ys (suc (suc (suc zero))) l = refl
each_word f xs ys (suc (suc (suc (suc n)))) l = absurd (omega (arith, l))

-- the numbers that are in both
common_bit : (xs ys : List ℕ) (i : ℕ) → i < 256 → bit_of (bit_and (get_or xs 0 0) (get_or ys 0 0) ∷ bit_and (get_or xs 1 0) (get_or ys 1 0) ∷ bit_and (get_or xs 2 0) (get_or ys 2 0) ∷ bit_and (get_or xs 3 0) (get_or ys 3 0) ∷ []) i ≡ min (bit_of xs i) (bit_of ys i)
common_bit xs ys i l = ap (λ w. bit_at w (i % 64)) (each_word (λ a b. bit_and a b) xs ys (i / 64) (omega (arith, l))) ∙ bit_at_and (get_or xs (i / 64) 0) (get_or ys (i / 64) 0) (i % 64)

pub bit_common : (xs ys : List ℕ) (i : ℕ) → i < 256 → (bit_of (bit_and (get_or xs 0 0) (get_or ys 0 0) ∷ bit_and (get_or xs 1 0) (get_or ys 1 0) ∷ bit_and (get_or xs 2 0) (get_or ys 2 0) ∷ bit_and (get_or xs 3 0) (get_or ys 3 0) ∷ []) i ≡ 1) ↔ ((bit_of xs i ≡ 1) × (bit_of ys i ≡ 1))
bit_common xs ys i l = both _ (bit_of xs i) (bit_of ys i) (common_bit xs ys i l) (bit_at-lt (get_or xs (i / 64) 0) (i % 64)) (bit_at-lt (get_or ys (i / 64) 0) (i % 64))
  where
    both : (n a b : ℕ) → n ≡ min a b → a < 2 → b < 2 → (n ≡ 1) ↔ ((a ≡ 1) × (b ≡ 1))
    both n a b e x y = (λ one. (omega (arith, e, x, y, one), omega (arith, e, x, y, one)), λ ones. let u = ones.0 in let v = ones.1 in omega (arith, e, u, v))

-- those that are in one and not in the other
without_bit : (xs ys : List ℕ) (i : ℕ) → i < 256 → bit_of (bit_xor (get_or xs 0 0) (bit_and (get_or xs 0 0) (get_or ys 0 0)) ∷ bit_xor (get_or xs 1 0) (bit_and (get_or xs 1 0) (get_or ys 1 0)) ∷ bit_xor (get_or xs 2 0) (bit_and (get_or xs 2 0) (get_or ys 2 0)) ∷ bit_xor (get_or xs 3 0) (bit_and (get_or xs 3 0) (get_or ys 3 0)) ∷ []) i ≡ (bit_of xs i + min (bit_of xs i) (bit_of ys i)) % 2
without_bit xs ys i l =
    let x = get_or xs (i / 64) 0 in
    let y = get_or ys (i / 64) 0 in
    ap (λ w. bit_at w (i % 64)) (each_word (λ a b. bit_xor a (bit_and a b)) xs ys (i / 64) (omega (arith, l)))
    ∙ (bit_at_xor x (bit_and x y) (i % 64) ∙ ap (λ k. (bit_of xs i + k) % 2) (bit_at_and x y (i % 64)))

pub bit_without : (xs ys : List ℕ) (i : ℕ) → i < 256 → (bit_of (bit_xor (get_or xs 0 0) (bit_and (get_or xs 0 0) (get_or ys 0 0)) ∷ bit_xor (get_or xs 1 0) (bit_and (get_or xs 1 0) (get_or ys 1 0)) ∷ bit_xor (get_or xs 2 0) (bit_and (get_or xs 2 0) (get_or ys 2 0)) ∷ bit_xor (get_or xs 3 0) (bit_and (get_or xs 3 0) (get_or ys 3 0)) ∷ []) i ≡ 1) ↔ ((bit_of xs i ≡ 1) × (bit_of ys i ≡ 1 → ⊥))
bit_without xs ys i l = one_alone _ (bit_of xs i) (bit_of ys i) (without_bit xs ys i l) (bit_at-lt (get_or xs (i / 64) 0) (i % 64)) (bit_at-lt (get_or ys (i / 64) 0) (i % 64))
  where
    one_alone : (n a b : ℕ) → n ≡ (a + min a b) % 2 → a < 2 → b < 2 → (n ≡ 1) ↔ ((a ≡ 1) × (b ≡ 1 → ⊥))
    one_alone n a b e x y = (
      λ one. (omega (arith, e, x, y, one), λ other. omega (arith, e, x, y, one, other)),
      λ k. let u = k.0 in let v = not_one b y k.1 in omega (arith, e, u, v),
    )
      where
        not_one : (b : ℕ) → b < 2 → (b ≡ 1 → ⊥) → b ≡ 0
        not_one zero l never = refl
        not_one (suc zero) l never = absurd (never refl)
        not_one (suc (suc b)) l never = absurd (omega (arith, l))

-- those that aren't in it
others_bit : (xs : List ℕ) (i : ℕ) → i < 256 → bit_of (bit_xor (get_or xs 0 0) 18446744073709551615 ∷ bit_xor (get_or xs 1 0) 18446744073709551615 ∷ bit_xor (get_or xs 2 0) 18446744073709551615 ∷ bit_xor (get_or xs 3 0) 18446744073709551615 ∷ []) i ≡ (bit_of xs i + 1) % 2
others_bit xs i l =
    let x = get_or xs (i / 64) 0 in
    let low : i % 64 < 64 = omega arith in
    let ones : bit_at 18446744073709551615 (i % 64) ≡ 1 = bit_at_not w64 0 (i % 64) (omega arith) low ∙ ap (λ k. 1 - k) (bit_at-zero (i % 64)) in
    ap (λ w. bit_at w (i % 64)) (each_word (λ a b. bit_xor a 18446744073709551615) xs xs (i / 64) (omega (arith, l)))
    ∙ (bit_at_xor x 18446744073709551615 (i % 64) ∙ ap (λ k. (bit_of xs i + k) % 2) ones)

pub bit_others : (xs : List ℕ) (i : ℕ) → i < 256 → (bit_of (bit_xor (get_or xs 0 0) 18446744073709551615 ∷ bit_xor (get_or xs 1 0) 18446744073709551615 ∷ bit_xor (get_or xs 2 0) 18446744073709551615 ∷ bit_xor (get_or xs 3 0) 18446744073709551615 ∷ []) i ≡ 1) ↔ (bit_of xs i ≡ 1 → ⊥)
bit_others xs i l = turned _ (bit_of xs i) (others_bit xs i l) (bit_at-lt (get_or xs (i / 64) 0) (i % 64))
  where
    turned : (n a : ℕ) → n ≡ (a + 1) % 2 → a < 2 → (n ≡ 1) ↔ (a ≡ 1 → ⊥)
    turned n zero e l = (λ one. λ on. absurd (omega (arith, on)), λ never. omega (arith, e))
    turned n (suc zero) e l = (λ one. absurd (omega (arith, e, one)), λ never. absurd (never refl))
    turned n (suc (suc a)) e l = absurd (omega (arith, l))

-- each of a set has a number that a set can have
pub small_in : (set : SubscriptionSet) (i : ℕ) → IsIn set i → i < 256
unfolding IsIn
small_in set i has = has.0
