-- The rests of workers, one after the other.
use Rattle.std.proofs.Common.{◌≡◌, ℕ, zero, suc, ◌+◌, List, [], ◌∷◌, ◌++◌, length, Some, slice_get, refl, ap, sym, ◌∙◌, subst, arith}
use Rattle.rsx_runtime.specs.Resting.{AreAlike, AreRests, AreRestsOn, parker_in, parker_of}
use Rattle.rsx_runtime.specs.Tokens.{tokens}
use Rattle.crossbeam_utils.specs.Token.{parker_view}
use Rattle.rsx_runtime.specs.declared.park.WorkerUnparker.{WorkerUnparker}
use Rattle.rsx_runtime.specs.declared.park.OwnParker.{OwnParker}
use Rattle.rsx_runtime.specs.declared.park.ParkRest.{ParkRest}

-- what holds of the two in each place, and of two more
pub pushed_both : {A B : Type 0} (P : A → B → Type 0) (xs : List A) (ys : List B) (a : A) (b : B) → length ys ≡ length xs → ((k : ℕ) (x : A) (y : B) → slice_get xs k ≡ Some x → slice_get ys k ≡ Some y → P x y) → P a b →
    (k : ℕ) (x : A) (y : B) → slice_get (xs ++ a ∷ []) k ≡ Some x → slice_get (ys ++ b ∷ []) k ≡ Some y → P x y
pushed_both P [] [] a b same all h zero x y e f = let s : a ≡ x = cc in let t : b ≡ y = cc in subst (λ u. P u y) s (subst (P a) t h)
pushed_both P [] [] a b same all h (suc k) x y e f = cc
pushed_both P [] (v ∷ vs) a b same all h k x y e f = cc
pushed_both P (u ∷ us) [] a b same all h k x y e f = cc
pushed_both P (u ∷ us) (v ∷ vs) a b same all h zero x y e f = all 0 x y e f
pushed_both P (u ∷ us) (v ∷ vs) a b same all h (suc k) x y e f = let less : length vs ≡ length us = omega (arith, same) in pushed_both P us vs a b less (λ j s t. all (suc j) s t) h k x y e f

length_pushed : {A : Type 0} (xs : List A) (x : A) → length (xs ++ x ∷ []) ≡ length xs + 1
length_pushed [] x = refl
length_pushed (w ∷ xs) x = let k = length_pushed xs x in omega (arith, k)

pub rests_pushed : (unparkers : List WorkerUnparker) (own : List OwnParker) (rests : List ParkRest) (o : OwnParker) (r : ParkRest) → AreRestsOn unparkers own rests → r.own ≡ o → AreAlike unparkers r.rouser.unparkers.items → AreRestsOn unparkers (own ++ o ∷ []) (rests ++ r ∷ [])
rests_pushed unparkers own rests o r h is alike =
    let n = length_pushed own o in
    let m = length_pushed rests r in
    let s = h.count in
    record { count = omega (arith, n, m, s); each = pushed_both (λ (x : OwnParker) (y : ParkRest). (y.own ≡ x) × AreAlike unparkers y.rouser.unparkers.items) own rests o r h.count h.each (is, alike) }

pub moved_on : {A : Type 0} (xs rest left all : List A) (x : A) → rest ≡ x ∷ left → xs ++ rest ≡ all → (xs ++ x ∷ []) ++ left ≡ all
moved_on [] rest left all x e h = sym e ∙ h
moved_on (w ∷ xs) rest left [] x e h = cc
moved_on (w ∷ xs) rest left (v ∷ vs) x e h = let here : w ≡ v = cc in let there : xs ++ rest ≡ vs = cc in ap (λ l. w ∷ l) (moved_on xs rest left vs x e there) ∙ ap (λ y. y ∷ vs) here

there : {A B : Type 0} (xs : List A) (ys : List B) (k : ℕ) (y : B) → length xs ≡ length ys → slice_get ys k ≡ Some y → (x : A) × (slice_get xs k ≡ Some x)
there [] [] k y same e = cc
there [] (v ∷ vs) k y same e = cc
there (u ∷ us) [] k y same e = cc
there (u ∷ us) (v ∷ vs) zero y same e = (u, refl)
there (u ∷ us) (v ∷ vs) (suc k) y same e = let less : length us ≡ length vs = omega (arith, same) in there us vs k y less e

-- so many workers' own parkers, which took no token yet, and an unparker for each
pub record AreOwn (count : ℕ) (unparkers : List WorkerUnparker) (own : List OwnParker) : Type 0 where
  pub workers : length own ≡ count
  pub unparkers_too : length unparkers ≡ count
  pub each : (k : ℕ) (b : WorkerUnparker) (o : OwnParker) → slice_get unparkers k ≡ Some b → slice_get own k ≡ Some o → (parker_in o ≡ parker_of b) × (parker_view o.pass ≡ tokens 0 0 0)

pub own_pushed : (count : ℕ) (unparkers : List WorkerUnparker) (own : List OwnParker) (b : WorkerUnparker) (o : OwnParker) → AreOwn count unparkers own → parker_in o ≡ parker_of b → parker_view o.pass ≡ tokens 0 0 0 → AreOwn (count + 1) (unparkers ++ b ∷ []) (own ++ o ∷ [])
own_pushed count unparkers own b o h same fresh =
    let n = length_pushed own o in
    let m = length_pushed unparkers b in
    let w = h.workers in
    let t = h.unparkers_too in
    let both : length own ≡ length unparkers = w ∙ sym t in
    record { workers = omega (arith, n, w); unparkers_too = omega (arith, m, t); each = pushed_both (λ (x : WorkerUnparker) (y : OwnParker). (parker_in y ≡ parker_of x) × (parker_view y.pass ≡ tokens 0 0 0)) unparkers own b o both h.each (same, fresh) }

pub own_rests : (count : ℕ) (unparkers : List WorkerUnparker) (own : List OwnParker) (rests : List ParkRest) → AreOwn count unparkers own → AreRestsOn unparkers own rests → AreRests count unparkers rests
own_rests count unparkers own rests h on = record {
  workers = on.count ∙ h.workers;
  unparkers_too = h.unparkers_too;
  each = λ k b r e f. (
      let o = there own unparkers k b (h.workers ∙ sym h.unparkers_too) e in
      let at = on.each k o.0 r o.1 f in
      let is = h.each k b o.0 e o.1 in
      (ap parker_in at.0 ∙ is.0, ap (λ (x : OwnParker). parker_view x.pass) at.0 ∙ is.1, at.1)
      );
}
