-- The slots that a seat of the places has.
use Rattle.std.proofs.Common.{◌≡◌, ℕ, zero, suc, ◌+◌, Bool, false, cond, List, [], ◌∷◌, ◌++◌, length, map, drop, set, get_or, Some, refl, sym, ap, ◌∙◌, subst, arith}
use Rattle.std.specs.Prelude.{slice_get}
use Rattle.std.proofs.lemmas.List.{length-append}
use mathlib.Core.Logic.{dite}
use native.Mathlib.Decide.{ℕ_discrete}
use mathlib.Core.Option.{some, some-injective, some-ne-none}
use lib.ListN.{get_elem?}
use Rattle.atomic_table.specs.Table.{Me, rest}
use Rattle.rsx_link.specs.declared.place.Place.{Place}
use Rattle.rsx_link.specs.declared.place.Place.TheVariants.{Free, Offered, Taken}
use Rattle.rsx_link.specs.declared.place.PlaceStep.TheVariants.{Collect}
use Rattle.rsx_link.specs.declared.place.PlaceView.{PlaceView}
use Rattle.rsx_link.specs.Places.{more}
use Rattle.rsx_link.specs.TakenOut.{IsTakenBelow}

-- the slot in front, and what is behind it
pub front : {S : Type 0} (c l : List (ℕ × S)) (a : ℕ × S) → c ≡ a ∷ l → c ≡ a ∷ rest c
front c l a e = e ∙ ap (λ r. a ∷ r) (sym (ap rest e))

pub same_slot : {S : Type 0} (c l m : List (ℕ × S)) (k : ℕ) (x y : S) → c ≡ (k, x) ∷ l → c ≡ (k, y) ∷ m → x ≡ y
same_slot c l m k x y a b = ap (λ (z : ℕ × _). z.1) (ap (λ z. get_or z 0 (k, x)) (sym a ∙ b))

-- an element by either of the two names
pub got : {A : Type 0} (l : List A) (i : ℕ) (a : A) → get_elem? l i ≡ some a → slice_get l i ≡ Some a
got [] i a e = absurd (some-ne-none a (sym e))
got (x ∷ xs) zero a e = ap Some (some-injective x a e)
got (x ∷ xs) (suc i) a e = got xs i a e

longer : {A : Type 0} (l m : List A) (i : ℕ) (a : A) → slice_get l i ≡ Some a → slice_get (l ++ m) i ≡ Some a
longer [] m i a e = absurd (cc)
longer (x ∷ xs) m zero a e = e
longer (x ∷ xs) m (suc i) a e = longer xs m i a e

last : {A : Type 0} (l : List A) (a : A) (n : ℕ) → length l ≡ n → slice_get (l ++ a ∷ []) n ≡ Some a
last [] a zero e = refl
last [] a (suc n) e = absurd (omega arith)
last (x ∷ xs) a zero e = absurd (omega arith)
last (x ∷ xs) a (suc n) e = last xs a n (omega arith)

-- an element by its index, whatever is given where there is none
pub by_index : {A : Type 0} (l : List A) (i : ℕ) (a d : A) → get_elem? l i ≡ some a → get_or l i d ≡ a
by_index [] i a d e = absurd (some-ne-none a (sym e))
by_index (x ∷ xs) zero a d e = some-injective x a e
by_index (x ∷ xs) (suc i) a d e = by_index xs i a d e

-- a place that was emptied is empty
pub emptied : (l : List Bool) (i k : ℕ) → k ≡ i → get_or (set l i false) k false ≡ false
emptied l i k e = ap (λ (j : ℕ). get_or (set l i false) j false) e ∙ here l i
  where
    here : (l : List Bool) (i : ℕ) → get_or (set l i false) i false ≡ false
    here [] i = refl
    here (x ∷ xs) zero = refl
    here (x ∷ xs) (suc i) = here xs i

module _ {E P : Type 0} where
  -- the part that the slot holds is the one that was collected
  pub took : (v : PlaceView E P) (k : ℕ) (p q : P) (l : List (ℕ × Place E P)) (m m' : Me (Place E P) (PlaceView E P)) (x : Place E P)
      → m ≡ (more v (Collect k p), (k, Offered p) ∷ l) → m.1 ≡ (k, x) ∷ rest m.1 → x ≡ Offered q → m' ≡ (m.0, (k, Taken) ∷ rest m.1)
      → m' ≡ (more v (Collect k q), (k, Taken) ∷ l)
  took v k p q l m m' x told out is now =
      let here : m.1 ≡ (k, Offered p) ∷ l = ap (λ (z : Me (Place E P) (PlaceView E P)). z.1) told in
      let same : ◌≡◌ {A = Place E P} (Offered p) (Offered q) = sym (same_slot m.1 (rest m.1) l k x (Offered p) out here) ∙ is in
      let parts : p ≡ q = cc in
      now ∙ ap (λ (u : PlaceView E P). (u, (k, Taken) ∷ rest m.1)) (ap (λ (z : Me (Place E P) (PlaceView E P)). z.0) told)
      ∙ ap (λ (r : List (ℕ × Place E P)). (more v (Collect k p), (k, Taken) ∷ r)) (ap rest here)
      ∙ ap (λ (r : P). (more v (Collect k r), (k, Taken) ∷ l)) parts

  -- what stands among free places is free
  pub free_among : (all : List E) (s t : List (Place E P)) (x : Place E P) → s ++ x ∷ t ≡ map Free all → (e : E) × (x ≡ Free e)
  free_among [] [] t x e = absurd (cc)
  free_among [] (y ∷ s) t x e = absurd (cc)
  free_among (a ∷ all) [] t x e = (a, ap (λ (l : List (Place E P)). get_or l 0 x) e)
  free_among (a ∷ all) (y ∷ s) t x e = free_among all s t x (ap (drop 1) e)

  -- free places have one list of ends
  pub same_frees : (xs ys : List E) → ◌≡◌ {A = List (Place E P)} (map Free xs) (map Free ys) → xs ≡ ys
  same_frees [] [] e = refl
  same_frees [] (y ∷ ys) e = absurd (cc)
  same_frees (x ∷ xs) [] e = absurd (cc)
  same_frees (x ∷ xs) (y ∷ ys) e =
      let one : ◌≡◌ {A = Place E P} (Free x) (Free y) = ap (λ (l : List (Place E P)). get_or l 0 (Free x)) e in
      let head : x ≡ y = cc in
      ap (λ z. z ∷ xs) head ∙ ap (λ l. y ∷ l) (same_frees xs ys (ap (drop 1) e))

  -- one place more was taken out
  pub taken_more : (n : ℕ) (taken : List Bool) (places left more : List (Place E P)) (b : Bool) (x y : Place E P) → IsTakenBelow n taken places left → get_elem? places n ≡ some x
      → get_or taken n false ≡ b → y ≡ cond b Taken x → more ≡ left ++ y ∷ [] → IsTakenBelow (n + 1) taken places more
  taken_more n taken places left more b x y h at is chosen pushed = (
    ap length pushed ∙ length-append left (y ∷ []) ∙ (let e = h.0 in omega arith),
    (λ k lt. dite (ℕ_discrete k n)
        (λ e. subst (λ (i : ℕ). slice_get more i ≡ Some (cond (get_or taken i false) Taken (get_or places i Taken))) (sym e)
        (ap (λ l. slice_get l n) pushed ∙ last left y n h.0 ∙ ap Some (chosen ∙ ap (λ c. cond c Taken x) (sym is) ∙ ap (λ z. cond (get_or taken n false) Taken z) (sym (by_index places n x Taken at)))))
        (λ ne. ap (λ l. slice_get l k) pushed ∙ longer left (y ∷ []) k _ (h.1 k (omega arith)))),
  )
