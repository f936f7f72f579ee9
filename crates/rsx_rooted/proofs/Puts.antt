-- What comes out of a tree in which another tree stands in the place of a leaf.
use Rattle.std.proofs.Common.{◌≡◌, inl, inr, ℕ, ◌+◌, ◌-◌, ◌<◌, ◌≤◌, nat_eq, nat_le, List, refl, ap, sym, ◌∙◌, arith, slice_get}
use Rattle.std.proofs.lemmas.Bool.{cases_lt, le-leb, lt-leb}
use Rattle.rsx_sources.specs.Prelude.{Meaning, Stream, Note}
use Rattle.rsx_types.proofs.Numbers.{not_zero}
use Rattle.rsx_sources.specs.declared.machine.Machine.{Ghosts as Machine}
use Rattle.rsx_tree.specs.declared.inputs.Inputs.{Inputs, End, More'}
use Rattle.rsx_tree.specs.Inputs.{size, comes_in, out_of, beside_of}
use Rattle.rsx_tree.specs.Swapped.{put_at}
use Rattle.rsx_tree.proofs.Changes.{chosen_first, chosen_second}

-- ---- where a row is put

pub put_here : {M : Type 0} (at : ℕ) (x : M) (row : Inputs M) (e : _) (n : M) (p q : _) (below beside : Inputs M) → at ≡ 0 → put_at at x row (More' e n p below q beside) ≡ More' e x p row q beside
put_here at x row e n p q below beside h = ap (λ k. put_at k x row (More' e n p below q beside)) h

pub put_below : {M : Type 0} (at : ℕ) (x : M) (row : Inputs M) (e : _) (n : M) (p q : _) (below beside : Inputs M) → 0 < at → at ≤ size below → put_at at x row (More' e n p below q beside) ≡ More' e n p (put_at (at - 1) x row below) q beside
put_below at x row e n p q below beside a w =
    chosen_second (nat_eq at 0) _ _ (not_zero at a) ∙ chosen_first (nat_le at (size below)) _ _ (le-leb at (size below) w)

pub put_beside : {M : Type 0} (at : ℕ) (x : M) (row : Inputs M) (e : _) (n : M) (p q : _) (below beside : Inputs M) → size below < at → put_at at x row (More' e n p below q beside) ≡ More' e n p below q (put_at (at - 1 - size below) x row beside)
put_beside at x row e n p q below beside b =
    chosen_second (nat_eq at 0) _ _ (not_zero at (omega (arith, b))) ∙ chosen_second (nat_le at (size below)) _ _ (lt-leb at (size below) b)

-- how many nodes there are then
pub size_put : {M : Type 0} (t : Inputs M) (at : ℕ) (x y : M) (xs ys : Inputs M) → at < size t → size (put_at at x xs t) + size ys ≡ size (put_at at y ys t) + size xs
size_put End at x y xs ys h = absurd (omega (arith, h))
size_put (More' e n p below q beside) at x y xs ys h = elim (cases_lt 0 at) [
  | inr z ↦
      let here : at ≡ 0 = omega (arith, z) in
      let a = ap size (put_here at x xs e n p q below beside here) in
      let b = ap size (put_here at y ys e n p q below beside here) in
      omega (arith, a, b)
  | inl l ↦ elim (cases_lt (size below) at) [
    | inr w ↦
        let a = ap size (put_below at x xs e n p q below beside l w) in
        let b = ap size (put_below at y ys e n p q below beside l w) in
        let r = size_put below (at - 1) x y xs ys (omega (arith, l, w)) in
        omega (arith, a, b, r)
    | inl w ↦
        let a = ap size (put_beside at x xs e n p q below beside w) in
        let b = ap size (put_beside at y ys e n p q below beside w) in
        let r = size_put beside (at - 1 - size below) x y xs ys (omega (arith, w, h)) in
        omega (arith, a, b, r)
  ]
]

-- the row that was put is there
pub size_least : {M : Type 0} (t : Inputs M) (at : ℕ) (x : M) (xs : Inputs M) → at < size t → at + size xs < size (put_at at x xs t)
size_least End at x xs h = absurd (omega (arith, h))
size_least (More' e n p below q beside) at x xs h = elim (cases_lt 0 at) [
  | inr z ↦
      let here : at ≡ 0 = omega (arith, z) in
      let a = ap size (put_here at x xs e n p q below beside here) in omega (arith, a, here)
  | inl l ↦ elim (cases_lt (size below) at) [
    | inr w ↦ let a = ap size (put_below at x xs e n p q below beside l w) in let r = size_least below (at - 1) x xs (omega (arith, l, w)) in omega (arith, a, r, l)
    | inl w ↦ let a = ap size (put_beside at x xs e n p q below beside w) in let r = size_least beside (at - 1 - size below) x xs (omega (arith, w, h)) in omega (arith, a, r, w)
  ]
]

-- ---- the same choices

at_same : {A : Type 0} (f : List A) (i j : ℕ) → i ≡ j → slice_get f i ≡ slice_get f j
at_same f i j h = ap (λ k. slice_get f k) h

-- a row with the same choices at other numbers
pub same_choices : {M T : Type 0} (b : Machine M T) (m : Meaning T) (hubs : List (Stream T)) (f g : List Note) (t : Inputs M) (p q : ℕ) → ((i : ℕ) → i < size t → slice_get f (p + i) ≡ slice_get g (q + i)) → comes_in b m hubs f t p ≡ comes_in b m hubs g t q
same_choices b m hubs f g End p q h = refl
same_choices {M} {T} b m hubs f g (More' e n r below s beside) p q h =
    let here : slice_get f p ≡ slice_get g q = at_same f p (p + 0) (omega arith) ∙ (h 0 (omega arith) ∙ at_same g (q + 0) q (omega arith)) in
    let low : comes_in b m hubs f below (p + 1) ≡ comes_in b m hubs g below (q + 1) =
    same_choices b m hubs f g below (p + 1) (q + 1) (λ i l. at_same f (p + 1 + i) (p + (i + 1)) (omega arith) ∙ (h (i + 1) (omega (arith, l)) ∙ at_same g (q + (i + 1)) (q + 1 + i) (omega arith))) in
    let side : comes_in b m hubs f beside (p + 1 + size below) ≡ comes_in b m hubs g beside (q + 1 + size below) =
    same_choices b m hubs f g beside (p + 1 + size below) (q + 1 + size below) (λ i l. at_same f (p + 1 + size below + i) (p + (1 + size below + i)) (omega arith) ∙ (h (1 + size below + i) (omega (arith, l)) ∙ at_same g (q + (1 + size below + i)) (q + 1 + size below + i) (omega arith))) in
    ap (λ k. beside_of (out_of b m hubs n (comes_in b m hubs f below (p + 1)) k) (comes_in b m hubs f beside (p + 1 + size below))) here
    ∙ (ap (λ o. beside_of (out_of b m hubs n o (slice_get g q)) (comes_in b m hubs f beside (p + 1 + size below))) low
    ∙ ap (λ o. beside_of (out_of b m hubs n (comes_in b m hubs g below (q + 1)) (slice_get g q)) o) side)

-- ---- another sender

-- what comes in over a row stays, where at the number c another node, over another row, gives what the one did
pub record AreSame {M T : Type 0} (b : Machine M T) (m : Meaning T) (hubs : List (Stream T)) (f g : List Note) (c : ℕ) (x y : M) (xs ys : Inputs M) : Type 0 where
  pub before : (i : ℕ) → i < c → slice_get f i ≡ slice_get g i
  pub behind : (i : ℕ) → slice_get f (c + 1 + size xs + i) ≡ slice_get g (c + 1 + size ys + i)
  pub out : out_of b m hubs x (comes_in b m hubs f xs (c + 1)) (slice_get f c) ≡ out_of b m hubs y (comes_in b m hubs g ys (c + 1)) (slice_get g c)

pub same_in : {M T : Type 0} (b : Machine M T) (m : Meaning T) (hubs : List (Stream T)) (f g : List Note) (c : ℕ) (x y : M) (xs ys : Inputs M) → AreSame b m hubs f g c x y xs ys →
    (t : Inputs M) (at pos : ℕ) → at < size t → pos + at ≡ c → comes_in b m hubs f (put_at at x xs t) pos ≡ comes_in b m hubs g (put_at at y ys t) pos
same_in b m hubs f g c x y xs ys k End at pos h is = absurd (omega (arith, h))
same_in {M} {T} b m hubs f g c x y xs ys k (More' e n p below q beside) at pos h is = elim (cases_lt 0 at) [
  | inr z ↦
      let here : at ≡ 0 = omega (arith, z) in
      let there : pos ≡ c = omega (arith, here, is) in
      let side : comes_in b m hubs f beside (c + 1 + size xs) ≡ comes_in b m hubs g beside (c + 1 + size ys) = same_choices b m hubs f g beside (c + 1 + size xs) (c + 1 + size ys) (λ i l. k.behind i) in
      ap (λ r. comes_in b m hubs f r pos) (put_here at x xs e n p q below beside here)
      ∙ (ap (λ j. comes_in b m hubs f (More' e x p xs q beside) j) there
      ∙ (ap (λ o. beside_of o (comes_in b m hubs f beside (c + 1 + size xs))) k.out
      ∙ (ap (λ o. beside_of (out_of b m hubs y (comes_in b m hubs g ys (c + 1)) (slice_get g c)) o) side
      ∙ (ap (λ j. comes_in b m hubs g (More' e y p ys q beside) j) (sym there)
      ∙ ap (λ r. comes_in b m hubs g r pos) (sym (put_here at y ys e n p q below beside here))))))
  | inl l ↦
      let own : slice_get f pos ≡ slice_get g pos = k.before pos (omega (arith, l, is)) in
      elim (cases_lt (size below) at) [
        | inr w ↦
            let xrow = put_at (at - 1) x xs below in
            let yrow = put_at (at - 1) y ys below in
            let low : comes_in b m hubs f xrow (pos + 1) ≡ comes_in b m hubs g yrow (pos + 1) = same_in b m hubs f g c x y xs ys k below (at - 1) (pos + 1) (omega (arith, l, w)) (omega (arith, l, is)) in
            let sizes = size_put below (at - 1) x y xs ys (omega (arith, l, w)) in
            let enough = size_least below (at - 1) x xs (omega (arith, l, w)) in
            let side : comes_in b m hubs f beside (pos + 1 + size xrow) ≡ comes_in b m hubs g beside (pos + 1 + size yrow) =
            same_choices b m hubs f g beside (pos + 1 + size xrow) (pos + 1 + size yrow) (λ i r.
            let j = pos + 1 + size xrow + i - (c + 1 + size xs) in
            at_same f (pos + 1 + size xrow + i) (c + 1 + size xs + j) (omega (arith, enough, is, l, w))
            ∙ (k.behind j ∙ at_same g (c + 1 + size ys + j) (pos + 1 + size yrow + i) (omega (arith, enough, sizes, is, l, w)))) in
            ap (λ r. comes_in b m hubs f r pos) (put_below at x xs e n p q below beside l w)
            ∙ (ap (λ o. beside_of (out_of b m hubs n (comes_in b m hubs f xrow (pos + 1)) o) (comes_in b m hubs f beside (pos + 1 + size xrow))) own
            ∙ (ap (λ o. beside_of (out_of b m hubs n o (slice_get g pos)) (comes_in b m hubs f beside (pos + 1 + size xrow))) low
            ∙ (ap (λ o. beside_of (out_of b m hubs n (comes_in b m hubs g yrow (pos + 1)) (slice_get g pos)) o) side
            ∙ ap (λ r. comes_in b m hubs g r pos) (sym (put_below at y ys e n p q below beside l w)))))
        | inl w ↦
            let xrow = put_at (at - 1 - size below) x xs beside in
            let yrow = put_at (at - 1 - size below) y ys beside in
            let low : comes_in b m hubs f below (pos + 1) ≡ comes_in b m hubs g below (pos + 1) =
            same_choices b m hubs f g below (pos + 1) (pos + 1) (λ i r. k.before (pos + 1 + i) (omega (arith, r, w, is))) in
            let side : comes_in b m hubs f xrow (pos + 1 + size below) ≡ comes_in b m hubs g yrow (pos + 1 + size below) =
            same_in b m hubs f g c x y xs ys k beside (at - 1 - size below) (pos + 1 + size below) (omega (arith, w, h)) (omega (arith, w, is)) in
            ap (λ r. comes_in b m hubs f r pos) (put_beside at x xs e n p q below beside w)
            ∙ (ap (λ o. beside_of (out_of b m hubs n (comes_in b m hubs f below (pos + 1)) o) (comes_in b m hubs f xrow (pos + 1 + size below))) own
            ∙ (ap (λ o. beside_of (out_of b m hubs n o (slice_get g pos)) (comes_in b m hubs f xrow (pos + 1 + size below))) low
            ∙ (ap (λ o. beside_of (out_of b m hubs n (comes_in b m hubs g below (pos + 1)) (slice_get g pos)) o) side
            ∙ ap (λ r. comes_in b m hubs g r pos) (sym (put_beside at y ys e n p q below beside w)))))
      ]
]

-- ---- put twice

-- what is put at an edge takes the place of all that was there, so a tree that is cut and joined again at once is as it was
pub put_again : {M : Type 0} (t : Inputs M) (at : ℕ) (x y : M) (xs ys : Inputs M) → at < size t → put_at at x xs (put_at at y ys t) ≡ put_at at x xs t
put_again End at x y xs ys h = absurd (omega (arith, h))
put_again (More' e n p below q beside) at x y xs ys h = elim (cases_lt 0 at) [
  | inr z ↦
      let here : at ≡ 0 = omega (arith, z) in
      ap (put_at at x xs) (put_here at y ys e n p q below beside here) ∙ (put_here at x xs e y p q ys beside here ∙ sym (put_here at x xs e n p q below beside here))
  | inl l ↦ elim (cases_lt (size below) at) [
    | inr w ↦
        let row = put_at (at - 1) y ys below in
        let enough = size_least below (at - 1) y ys (omega (arith, l, w)) in
        ap (put_at at x xs) (put_below at y ys e n p q below beside l w)
        ∙ (put_below at x xs e n p q row beside l (omega (arith, enough, l))
        ∙ (ap (λ r. More' e n p r q beside) (put_again below (at - 1) x y xs ys (omega (arith, l, w)))
        ∙ sym (put_below at x xs e n p q below beside l w)))
    | inl w ↦
        let row = put_at (at - 1 - size below) y ys beside in
        ap (put_at at x xs) (put_beside at y ys e n p q below beside w)
        ∙ (put_beside at x xs e n p q below row w
        ∙ (ap (λ r. More' e n p below q r) (put_again beside (at - 1 - size below) x y xs ys (omega (arith, w, h)))
        ∙ sym (put_beside at x xs e n p q below beside w)))
  ]
]
