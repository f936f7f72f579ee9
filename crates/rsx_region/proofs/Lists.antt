-- Lists of which one element changes.
use Rattle.std.proofs.Common.{◌≡◌, ◌⊎◌, inl, inr, ℕ, zero, suc, List, [], ◌∷◌, map, refl, ap, sym, ◌∙◌, subst, Some, slice_get, slice_set}
use Rattle.rsx_region.specs.Inlet.{replaced_at}
use Rattle.rsx_region.specs.Pieces.{AreApart, Each, taken_by}

-- what stands in the list where one element was set
pub set_cases : {X : Type 0} (xs : List X) (i k : ℕ) (y z : X) → slice_get (slice_set xs i y) k ≡ Some z → ((k ≡ i) × (z ≡ y)) ⊎ ((k ≡ i → ⊥) × (slice_get xs k ≡ Some z))
set_cases [] i k y z e = cc
set_cases (x ∷ xs) zero zero y z e = let same : z ≡ y = cc in inl (refl, same)
set_cases (x ∷ xs) zero (suc k) y z e = inr (λ h. cc, e)
set_cases (x ∷ xs) (suc i) zero y z e = inr (λ h. cc, e)
set_cases (x ∷ xs) (suc i) (suc k) y z e = elim (set_cases xs i k y z e) [
  | inl s ↦ inl (ap suc s.0, s.1)
  | inr s ↦ inr (λ h. s.0 (let p : k ≡ i = cc in p), s.1)
]

pub set_there : {X : Type 0} (xs : List X) (i : ℕ) (x y : X) → slice_get xs i ≡ Some x → slice_get (slice_set xs i y) i ≡ Some y
set_there [] i x y e = cc
set_there (x ∷ xs) zero w y e = refl
set_there (x ∷ xs) (suc i) w y e = set_there xs i w y e

pub set_again : {X : Type 0} (xs : List X) (i : ℕ) (y z : X) → slice_set (slice_set xs i y) i z ≡ slice_set xs i z
set_again [] i y z = refl
set_again (x ∷ xs) zero y z = refl
set_again (x ∷ xs) (suc i) y z = ap (λ l. x ∷ l) (set_again xs i y z)

pub set_same : {X : Type 0} (xs : List X) (i : ℕ) (x : X) → slice_get xs i ≡ Some x → slice_set xs i x ≡ xs
set_same [] i x e = cc
set_same (w ∷ xs) zero x e = let here : x ≡ w = cc in ap (λ z. z ∷ xs) here
set_same (w ∷ xs) (suc i) x e = ap (λ l. w ∷ l) (set_same xs i x e)

pub map_set : {X Y : Type 0} (f : X → Y) (xs : List X) (i : ℕ) (y : X) → map f (slice_set xs i y) ≡ slice_set (map f xs) i (f y)
map_set f [] i y = refl
map_set f (x ∷ xs) zero y = refl
map_set f (x ∷ xs) (suc i) y = ap (λ l. f x ∷ l) (map_set f xs i y)

pub get_map : {X Y : Type 0} (f : X → Y) (xs : List X) (i : ℕ) (x : X) → slice_get xs i ≡ Some x → slice_get (map f xs) i ≡ Some (f x)
get_map f [] i x e = cc
get_map f (w ∷ xs) zero x e = let here : w ≡ x = cc in ap (λ z. Some (f z)) here
get_map f (w ∷ xs) (suc i) x e = get_map f xs i x e

-- where the change doesn't show, the list shows the same
pub map_same : {X Y : Type 0} (f : X → Y) (xs : List X) (i : ℕ) (x y : X) → slice_get xs i ≡ Some x → f y ≡ f x → map f (slice_set xs i y) ≡ map f xs
map_same f xs i x y e h = map_set f xs i y ∙ (ap (slice_set (map f xs) i) h ∙ set_same (map f xs) i (f x) (get_map f xs i x e))

pub each_set : {X : Type 0} (P : X → Type 0) (xs : List X) (i : ℕ) (y : X) → P y → Each P xs → Each P (slice_set xs i y)
each_set P xs i y h all k z e = elim (set_cases xs i k y z e) [
  | inl s ↦ subst P (sym s.1) h
  | inr s ↦ all k z s.1
]

-- what an element shows of itself decides
pub each_shown : {X Y : Type 0} (f : X → Y) (P : X → Type 0) (xs ys : List X) → map f ys ≡ map f xs → ((x y : X) → f y ≡ f x → P x → P y) → Each P xs → Each P ys
each_shown f P [] [] e h all k z at = all k z at
each_shown f P [] (y ∷ ys) e h all k z at = cc
each_shown f P (x ∷ xs) [] e h all k z at = cc
each_shown {X} f P (x ∷ xs) (y ∷ ys) e h all zero z at =
    let same : f y ≡ f x = cc in
    let here : y ≡ z = cc in
    subst P here (h x y same (all zero x refl))
each_shown f P (x ∷ xs) (y ∷ ys) e h all (suc k) z at =
    let rest : map f ys ≡ map f xs = cc in
    each_shown f P xs ys rest h (λ j w is. all (suc j) w is) k z at

-- ---- numbers that are apart

apart_rest : (h : ℕ) (hs : List ℕ) → AreApart (h ∷ hs) → AreApart hs
apart_rest h hs a j k x p q = let e : suc j ≡ suc k = a (suc j) (suc k) x p q in let r : j ≡ k = cc in r

apart_first : (h i x : ℕ) (hs : List ℕ) → AreApart (h ∷ hs) → slice_get hs i ≡ Some x → x ≡ h → ⊥
apart_first h i x hs a at e =
    let here : slice_get (h ∷ hs) 0 ≡ Some x = ap Some (sym e) in
    let no : 0 ≡ suc i = a 0 (suc i) x here at in
    cc

pub apart_at : (hs : List ℕ) (i k x y : ℕ) → AreApart hs → slice_get hs i ≡ Some x → slice_get hs k ≡ Some y → (k ≡ i → ⊥) → y ≡ x → ⊥
apart_at hs i k x y a p q n e =
    let there : slice_get hs k ≡ Some x = q ∙ ap Some e in
    n (a k i x there p)

-- ---- what came

replaced_twice : {A : Type 0} (h : ℕ) (a b : A) (xs : List A) → replaced_at h a (replaced_at h b xs) ≡ replaced_at h a xs
replaced_twice h a b [] = refl
replaced_twice zero a b (x ∷ xs) = refl
replaced_twice (suc h) a b (x ∷ xs) = ap (λ l. x ∷ l) (replaced_twice h a b xs)

replaced_apart : {A : Type 0} (h j : ℕ) (a b : A) (xs : List A) → (h ≡ j → ⊥) → replaced_at h a (replaced_at j b xs) ≡ replaced_at j b (replaced_at h a xs)
replaced_apart h j a b [] n = refl
replaced_apart zero zero a b (x ∷ xs) n = absurd (n refl)
replaced_apart zero (suc j) a b (x ∷ xs) n = refl
replaced_apart (suc h) zero a b (x ∷ xs) n = refl
replaced_apart (suc h) (suc j) a b (x ∷ xs) n = ap (λ l. x ∷ l) (replaced_apart h j a b xs (λ e. n (ap suc e)))

pub taken_set : {A B : Type 0} (f : B → A) (values : List A) (cs : List (ℕ × B)) (i : ℕ) (old new : ℕ × B) → AreApart (map (λ (c : ℕ × B). c.0) cs) → slice_get cs i ≡ Some old → new.0 ≡ old.0 →
    taken_by f values (slice_set cs i new) ≡ replaced_at new.0 (f new.1) (taken_by f values cs)
taken_set f values [] i old new a e h = cc
taken_set {A} {B} f values (c ∷ cs) zero old new a e h =
    let here : c.0 ≡ new.0 = ap (λ (x : ℕ × B). x.0) (let q : c ≡ old = cc in q) ∙ sym h in
    sym (ap (λ k. replaced_at new.0 (f new.1) (replaced_at k (f c.1) (taken_by f values cs))) here ∙ replaced_twice new.0 (f new.1) (f c.1) (taken_by f values cs))
taken_set {A} {B} f values (c ∷ cs) (suc i) old new a e h =
    let first = λ (x : ℕ × B). x.0 in
    let apart : c.0 ≡ new.0 → ⊥ = λ q. apart_first c.0 i old.0 (map first cs) a (get_map first cs i old e) (sym h ∙ sym q) in
    ap (replaced_at c.0 (f c.1)) (taken_set f values cs i old new (apart_rest c.0 (map first cs) a) e h) ∙ replaced_apart c.0 new.0 (f c.1) (f new.1) (taken_by f values cs) apart
