-- Seats at their places, one behind the others.
use Rattle.std.proofs.Common.{◌≡◌, ◌⊎◌, inl, inr, ℕ, zero, suc, ◌+◌, List, [], ◌∷◌, ◌++◌, length, Some, slice_get, refl, sym, ap, ◌∙◌, subst, length-append, arith}
use Rattle.std.proofs.lemmas.Option.{slice_get_within}
use Rattle.std.specs.Fn.{Shared}
use Rattle.std.specs.List.{AllZip}
use Rattle.rsx_runtime.specs.Seated.{HaveServed, MayServe}

module _ {S : Type 0} where
  -- what stands behind the others
  at_last : (front : List S) (s : S) → slice_get (front ++ s ∷ []) (length front) ≡ Some s
  at_last [] s = refl
  at_last (x ∷ front) s = at_last front s

  -- the others stand where they stood
  at_front : (front : List S) (s t : S) (k : ℕ) → slice_get front k ≡ Some t → slice_get (front ++ s ∷ []) k ≡ Some t
  at_front [] s t k at = cc
  at_front (x ∷ front) s t zero at = at
  at_front (x ∷ front) s t (suc k) at = at_front front s t k at

  -- what stands at a place is one of the others, or the last
  last_or_front : (front : List S) (s t : S) (k : ℕ) → slice_get (front ++ s ∷ []) k ≡ Some t → (slice_get front k ≡ Some t) ⊎ ((k ≡ length front) × (s ≡ t))
  last_or_front [] s t zero at = inr (refl, cc)
  last_or_front [] s t (suc k) at = cc
  last_or_front (x ∷ front) s t zero at = inl at
  last_or_front (x ∷ front) s t (suc k) at = elim (last_or_front front s t k at) [ inl h ↦ inl h | inr h ↦ inr (ap suc h.0, h.1) ]

module _ {F S W : Type 0} (g : Shared F (ℕ × (S × (W × Unit {0}))) S) (f : F) where
  pub may_last : (seats front : List S) (s : S) (w : W) (k : ℕ) → seats ≡ front ++ s ∷ [] → k ≡ length front → MayServe g f seats → g.pre f (k, (s, (w, tt)))
  may_last seats front s w k is at may = may k s w (subst (λ (l : List S). slice_get l k ≡ Some s) (sym is) (subst (λ (j : ℕ). slice_get (front ++ s ∷ []) j ≡ Some s) (sym at) (at_last front s)))

  pub may_front : (seats front : List S) (s : S) → seats ≡ front ++ s ∷ [] → MayServe g f seats → MayServe g f front
  may_front seats front s is may k t w at = may k t w (subst (λ (l : List S). slice_get l k ≡ Some t) (sym is) (at_front front s t k at))

  pub served_too : (seats front : List S) (s : S) (w : W) (k : ℕ) (back : List S) (t : S) (new : List S) → seats ≡ front ++ s ∷ [] → k ≡ length front → g.post f (k, (s, (w, tt))) t → HaveServed g f front back → new ≡ back ++ t ∷ [] → HaveServed g f seats new
  served_too seats front s w k back t new is at post served news = record {
    count = ap length news ∙ (length-append back (t ∷ []) ∙ (ap (λ n. n + 1) served.count ∙ (sym (length-append front (s ∷ [])) ∙ sym (ap length is))));
    each = λ j s' t' old now. one j s' t' (last_or_front front s s' j (subst (λ (l : List S). slice_get l j ≡ Some s') is old)) (last_or_front back t t' j (subst (λ (l : List S). slice_get l j ≡ Some t') news now));
  } where
    last_too : (j : ℕ) (s' t' : S) → j ≡ length front → s ≡ s' → t ≡ t' → (v : W) × g.post f (j, (s', (v, tt))) t'
    last_too j s' t' i e e' =
        let P : ℕ → Type 0 = λ i. g.post f (i, (s, (w, tt))) t in
        let Q : S → Type 0 = λ x. g.post f (j, (x, (w, tt))) t in
        let Z : S → Type 0 = λ x. g.post f (j, (s', (w, tt))) x in
        (w, subst Z e' (subst Q e (subst P (at ∙ sym i) post)))

    one : (j : ℕ) (s' t' : S) → (slice_get front j ≡ Some s') ⊎ ((j ≡ length front) × (s ≡ s')) → (slice_get back j ≡ Some t') ⊎ ((j ≡ length back) × (t ≡ t')) → (v : W) × g.post f (j, (s', (v, tt))) t'
    one j s' t' (inl h) (inl h') = served.each j s' t' h h'
    one j s' t' (inl h) (inr h') = let low = slice_get_within front j s' h in let e = h'.0 in let n = served.count in absurd (omega arith)
    one j s' t' (inr h) (inl h') = let low = slice_get_within back j t' h' in let e = h.0 in let n = served.count in absurd (omega arith)
    one j s' t' (inr h) (inr h') = last_too j s' t' h.0 h.1 h'.1

-- what is so of each seat at its place is so of them all
pub gates_at : {G S : Type 0} (P : G → S → Type 0) (gates : List G) (seats : List S) (k : ℕ) (s : S) → AllZip P gates seats → slice_get seats k ≡ Some s → (g : G) × (slice_get gates k ≡ Some g) × P g s
gates_at P [] [] k s h at = cc
gates_at P [] (v ∷ seats) k s h at = absurd h
gates_at P (w ∷ gates) [] k s h at = cc
gates_at P (w ∷ gates) (v ∷ seats) zero s h at = let e : v ≡ s = cc in (w, refl, subst (P w) e h.0)
gates_at P (w ∷ gates) (v ∷ seats) (suc k) s h at = gates_at P gates seats k s h.1 at

-- seats that keep what was so of each at its place
pub zip_kept : {G S : Type 0} (P : G → S → Type 0) (gates : List G) (old new : List S) → AllZip P gates old → length new ≡ length old → ((k : ℕ) (g : G) (s t : S) → slice_get gates k ≡ Some g → slice_get old k ≡ Some s → slice_get new k ≡ Some t → P g s → P g t) → AllZip P gates new
zip_kept P [] [] [] h count keep = h
zip_kept P [] [] (t ∷ new) h count keep = absurd (omega arith)
zip_kept P [] (v ∷ old) new h count keep = absurd h
zip_kept P (w ∷ gates) [] new h count keep = absurd h
zip_kept P (w ∷ gates) (v ∷ old) [] h count keep = absurd (omega arith)
zip_kept P (w ∷ gates) (v ∷ old) (t ∷ new) h count keep = (keep zero w v t refl refl refl h.0, zip_kept P gates old new h.1 (omega arith) (λ k g s u at old' new' p. keep (suc k) g s u at old' new' p))

-- what is so of one that stands at the place of another is so of that
pub same_there : {G : Type 0} (P : G → Type 0) (gates : List G) (k : ℕ) (g h : G) → slice_get gates k ≡ Some g → slice_get gates k ≡ Some h → P h → P g
same_there P gates k g h at there p = let e : h ≡ g = cc in subst P e p
