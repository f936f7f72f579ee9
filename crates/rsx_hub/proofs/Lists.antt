-- The first item of a list, the next one of a list, and the last ones.
use Rattle.std.proofs.Common.{◌≡◌, ℕ, zero, suc, ◌+◌, ◌-◌, ◌<◌, List, [], ◌∷◌, ◌++◌, length, reverse, take, drop, Some, None, slice_get, refl, ap, sym, ◌∙◌, arith, append_assoc}
use Rattle.std.proofs.lemmas.List.{reverse-append, length-take-le}
use Rattle.std.proofs.lemmas.Option.{slice_get_within}
use Rattle.circular_buffer.proofs.Places.{slice_get-some}

module _ {X : Type 0} where
  pub nothing_first : (xs : List X) → None ≡ slice_get xs 0 → xs ≡ []
  nothing_first [] e = refl
  nothing_first (x ∷ xs) e = cc

  pub next_item : (xs : List X) (n : ℕ) (x : X) → slice_get xs n ≡ Some x → drop n xs ≡ x ∷ drop (n + 1) xs
  next_item [] n x e = cc
  next_item (y ∷ ys) zero x e = cc
  next_item (y ∷ ys) (suc n) x e =
      let later : suc (n + 1) ≡ suc n + 1 = omega arith in
      next_item ys n x e ∙ ap (λ k. x ∷ drop k (y ∷ ys)) later

  -- an item stands at each place
  pub is_there : (xs : List X) (n : ℕ) → None ≡ slice_get xs n → n < length xs → ⊥
  is_there xs n e less =
      let some = slice_get-some xs n less in
      let both : None ≡ Some some.0 = e ∙ some.1 in
      cc

  -- one item more from the front
  pub take_next : (xs : List X) (n : ℕ) (x : X) → slice_get xs n ≡ Some x → take (n + 1) xs ≡ take n xs ++ x ∷ []
  take_next [] n x e = cc
  take_next (y ∷ ys) zero x e = cc
  take_next (y ∷ ys) (suc n) x e =
      let later : suc n + 1 ≡ suc (n + 1) = omega arith in
      ap (λ k. take k (y ∷ ys)) later ∙ ap (λ l. y ∷ l) (take_next ys n x e)

  last_at : (xs : List X) (n : ℕ) (x : X) → length xs ≡ suc n → slice_get xs n ≡ Some x → take n xs ++ x ∷ [] ≡ xs
  last_at [] n x l e = absurd (omega (arith, l))
  last_at (y ∷ []) zero x l e = cc
  last_at (y ∷ z ∷ zs) zero x l e = absurd (omega (arith, l))
  last_at (y ∷ ys) (suc n) x l e = let shorter : length ys ≡ suc n = omega (arith, l) in ap (λ zs. y ∷ zs) (last_at ys n x shorter e)

  -- a list without its last item, and that item
  last_behind : (xs : List X) (x : X) → Some x ≡ slice_get xs (length xs - 1) → take (length xs - 1) xs ++ x ∷ [] ≡ xs
  last_behind xs x e =
      let within = slice_get_within xs (length xs - 1) x (sym e) in
      let counts : length xs ≡ suc (length xs - 1) = omega (arith, within) in
      last_at xs (length xs - 1) x counts (sym e)

  -- the last item of a list goes behind others: all of them, the last one first, stay the same
  pub last_out : (ys more xs left : List X) (x : X) → more ≡ ys ++ x ∷ [] → left ≡ take (length xs - 1) xs → Some x ≡ slice_get xs (length xs - 1) → more ++ reverse left ≡ ys ++ reverse xs
  last_out ys more xs left x is without e =
      ap (λ l. l ++ reverse left) is
      ∙ (append_assoc ys (x ∷ []) (reverse left)
      ∙ ap (λ l. ys ++ l) (sym (reverse-append left (x ∷ [])) ∙ ap reverse (ap (λ l. l ++ x ∷ []) without ∙ last_behind xs x e)))

  -- and there is one less
  pub one_less : (xs left : List X) (x : X) → left ≡ take (length xs - 1) xs → Some x ≡ slice_get xs (length xs - 1) → length xs ≡ suc (length left)
  one_less xs left x without e =
      let within = slice_get_within xs (length xs - 1) x (sym e) in
      let l : length left ≡ length xs - 1 = ap length without ∙ length-take-le (length xs - 1) xs (omega arith) in
      omega (arith, within, l)

  -- a list with no last item
  pub nothing_last : (xs : List X) → None ≡ slice_get xs (length xs - 1) → xs ≡ []
  nothing_last [] e = refl
  nothing_last (y ∷ ys) e =
      let some = slice_get-some (y ∷ ys) (length (y ∷ ys) - 1) (omega arith) in
      let both : None ≡ Some some.0 = e ∙ some.1 in
      cc
