-- Taps and seats of which one changes.
use Rattle.std.proofs.Common.{◌≡◌, ◌⊎◌, ℕ, zero, suc, ◌<◌, List, [], ◌∷◌, length, Some, refl, ap, sym, ◌∙◌, subst, ℤ, Option, slice_get, slice_index_or, slice_set, arith}
use Rattle.std.proofs.lemmas.Option.{slice_get_read, slice_get_within}
use Rattle.std.specs.List.{AllZip}
use Rattle.rsx_types.specs.declared.names.SubId.{SubId}
use Rattle.rsx_types.specs.declared.signal.Signal.{Signal}
use Rattle.rsx_link.specs.Ends.{carried_down}
use Rattle.rsx_link.specs.declared.link.Link.{Link}
use Rattle.rsx_region.proofs.EdgePlaces.{same_some}
use Rattle.rsx_region.specs.Pieces.{IsAt}
use Rattle.rsx_runtime.specs.Poking.{IsAmong}
use Rattle.rsx_runtime.specs.Tapping.{IsTapOf, KeepsTap}
use Rattle.rsx_runtime.specs.declared.tap.Tap.{Tap}
use Rattle.rsx_live_parts.specs.Kept.{AreTapsFrom}
use Rattle.rsx_live_parts.specs.Tapping.{ChangesAt, HasNoTap, TapChanges, TapRequests}
use Rattle.rsx_live_parts.specs.declared.kept.Kept.{Kept}
use Rattle.rsx_live_parts.specs.declared.kept.Kept.TheVariants.{Away, Here}

-- ---- lists

none_there : {X : Type 0} (xs : List X) (i : ℕ) (x : X) → xs ≡ [] → slice_get xs i ≡ Some x → ⊥
none_there [] i x e at = cc
none_there (w ∷ xs) i x e at = cc

-- what is read at the place of one stands there, and what is so of that one is so of it
pub read_at : {X : Type 0} (P : X → Type 0) (xs : List X) (i : ℕ) (x : X) → IsAmong xs i P → x ≡ slice_index_or xs i x → slice_get xs i ≡ Some x
read_at P xs i x h is = slice_get_read xs (length xs) i x refl (slice_get_within xs i h.0 h.1) is

pub so_at : {X : Type 0} (P : X → Type 0) (xs : List X) (i : ℕ) (x : X) → IsAmong xs i P → slice_get xs i ≡ Some x → P x
so_at P xs i x h at = subst P (same_some h.0 x (sym h.1 ∙ at)) h.2

pub read_there : {X : Type 0} (xs : List X) (j i : ℕ) (x : X) → j ≡ i → i < length xs → x ≡ slice_index_or xs j x → slice_get xs i ≡ Some x
read_there xs j i x same less is = let within : j < length xs = omega (arith, same, less) in ap (slice_get xs) (sym same) ∙ slice_get_read xs (length xs) j x refl within is

-- ---- lists side by side

-- what stands beside it
pub zip_at : {A B : Type 0} (P : A → B → Type 0) (xs : List A) (ys : List B) (k : ℕ) (y : B) → AllZip P xs ys → slice_get ys k ≡ Some y → (x : A) × (slice_get xs k ≡ Some x) × P x y
zip_at P [] [] k y h at = cc
zip_at P [] (v ∷ ys) k y h at = absurd h
zip_at P (w ∷ xs) [] k y h at = cc
zip_at P (w ∷ xs) (v ∷ ys) zero y h at = (w, refl, subst (P w) (same_some v y at) h.0)
zip_at P (w ∷ xs) (v ∷ ys) (suc k) y h at = zip_at P xs ys k y h.1 at

pub zip_set : {A B : Type 0} (P : A → B → Type 0) (xs : List A) (ys : List B) (k : ℕ) (x : A) (y : B) → AllZip P xs ys → slice_get xs k ≡ Some x → P x y → AllZip P xs (slice_set ys k y)
zip_set P [] [] k x y h at one = h
zip_set P [] (v ∷ ys) k x y h at one = absurd h
zip_set P (w ∷ xs) [] k x y h at one = absurd h
zip_set {A} P (w ∷ xs) (v ∷ ys) zero x y h at one = (subst (λ (z : A). P z y) (same_some x w (sym at)) one, h.1)
zip_set P (w ∷ xs) (v ∷ ys) (suc k) x y h at one = (h.0, zip_set P xs ys k x y h.1 at one)

-- ---- taps

module _ {T : Type 0} (links : List (Link T)) where
  moved : (k : ℕ) (t was : Tap T) → t ≡ was → t.link ≡ k → IsAt links k (λ l. IsTapOf l t) → IsAt links was.link (λ l. IsTapOf l was)
  moved k t was same number over =
      let P : ℕ → Type 0 = λ j. IsAt links j (λ l. IsTapOf l t) in
      let Q : Tap T → Type 0 = λ x. IsAt links x.link (λ l. IsTapOf l x) in
      subst Q same (subst P (sym number) over)

  abbrev Head : ℕ → ℕ → Tap T → Type 0
  Head k n t = (t.link ≡ k) × IsAt links k (λ l. IsTapOf l t) × (carried_down t.down ≡ n)

  head_set : (k n : ℕ) (t was now : Tap T) → t ≡ was → t.link ≡ k → carried_down t.down ≡ n → IsAt links was.link (λ l. KeepsTap l was now) → Head k n now
  head_set k n t was now same number count keeps =
      let link : was.link ≡ k = ap (λ (x : Tap T). x.link) (sym same) ∙ number in
      let carried : carried_down was.down ≡ n = ap (λ (x : Tap T). carried_down x.down) (sym same) ∙ count in
      let P : ℕ → Type 0 = λ j. IsAt links j (λ l. IsTapOf l now) in
      (keeps.2.2 ∙ link, subst P link (keeps.0, keeps.1, keeps.2.0), keeps.2.3 ∙ carried)

module _ {M T : Type 0} (links : List (Link T)) where
  -- each is over its link
  pub tap_over : (ks : List (Kept M T)) (k : ℕ) (ts : List (Tap T)) (i : ℕ) (t : Tap T) → AreTapsFrom links k ks ts → slice_get ts i ≡ Some t → IsAt links t.link (λ l. IsTapOf l t)
  tap_over [] k ts i t h at = absurd (none_there ts i t h at)
  tap_over (Here s ∷ ks) k ts i t h at = tap_over ks k ts i t h at
  tap_over (Away q n ∷ ks) k [] i t h at = absurd h
  tap_over (Away q n ∷ ks) k (u ∷ ts) zero t h at = moved links k u t (same_some u t at) h.0 h.1
  tap_over (Away q n ∷ ks) k (u ∷ ts) (suc i) t h at = tap_over ks (suc k) ts i t h.3 at

  -- one that is over the same link, and counts on from the same number, may stand in its place
  pub taps_set : (ks : List (Kept M T)) (k : ℕ) (ts : List (Tap T)) (i : ℕ) (was now : Tap T) → AreTapsFrom links k ks ts → slice_get ts i ≡ Some was → IsAt links was.link (λ l. KeepsTap l was now) → AreTapsFrom links k ks (slice_set ts i now)
  taps_set [] k ts i was now h at keeps = ap (λ (l : List (Tap T)). slice_set l i now) h
  taps_set (Here s ∷ ks) k ts i was now h at keeps = taps_set ks k ts i was now h at keeps
  taps_set (Away q n ∷ ks) k [] i was now h at keeps = absurd h
  taps_set (Away q n ∷ ks) k (t ∷ ts) zero was now h at keeps = let w = head_set links k n t was now (same_some t was at) h.0 h.2 keeps in (w.0, w.1, w.2, h.3)
  taps_set (Away q n ∷ ks) k (t ∷ ts) (suc i) was now h at keeps = (h.0, h.1, h.2, taps_set ks (suc k) ts i was now h.3 at keeps)

-- a tap changed whose subscription is this one
pub tap_changed : {T : Type 0} (sub : SubId) (old new : List (Tap T)) (place : ℕ) (did more : Tap T → Tap T → Type 0) → IsAmong old place (λ t. t.sub ≡ sub) → ChangesAt place old new (λ was now. more was now × did was now) → TapChanges sub old new did
tap_changed sub old new place did more named ch = record {
  place = place;
  changes = record { was = ch.was; now = ch.now; there = ch.there; put = ch.put; done = ch.done.1 };
  named = so_at (λ t. t.sub ≡ sub) old place ch.was named ch.there;
}

pub has_tap : {T : Type 0} (sub : SubId) (ts : List (Tap T)) (place : ℕ) → IsAmong ts place (λ t. t.sub ≡ sub) → HasNoTap sub ts → ⊥
has_tap sub ts place named none = none place named.0 named.1 named.2

pub named_in : {T : Type 0} (sub : SubId) (ts now : List (Tap T)) (place : ℕ) → ts ≡ now → IsAmong ts place (λ t. t.sub ≡ sub) → IsAmong now place (λ t. t.sub ≡ sub)
named_in {T} sub ts now place same named = let P : List (Tap T) → Type 0 = λ l. IsAmong l place (λ t. t.sub ≡ sub) in subst P same named

pub requests_as : {T : Type 0} (m n : ℤ) (result : Option (Signal T)) (old new : Tap T) → m ≡ n → TapRequests m result old new → TapRequests n result old new
requests_as m n result old new same did = subst (λ (z : ℤ). TapRequests z result old new) same did

pub requests_changed : {T : Type 0} (m n : ℤ) (result : Option (Signal T)) (sub : SubId) (old new : List (Tap T)) → m ≡ n → TapChanges sub old new (TapRequests m result) → TapChanges sub old new (TapRequests n result)
requests_changed m n result sub old new same did = subst (λ (z : ℤ). TapChanges sub old new (TapRequests z result)) same did

-- the same where it has a tap or none
pub asked_so : {T : Type 0} (m n : ℤ) (result : Option (Signal T)) (sub : SubId) (old new : List (Tap T)) → m ≡ n → HasNoTap sub old ⊎ TapChanges sub old new (TapRequests m result) → HasNoTap sub old ⊎ TapChanges sub old new (TapRequests n result)
asked_so m n result sub old new same did = subst (λ (z : ℤ). HasNoTap sub old ⊎ TapChanges sub old new (TapRequests z result)) same did

-- ---- a call of one tap

-- the tap that was read at a place, of taps each of which is over its link
module _ {T : Type 0} (links : List (Link T)) (taps : List (Tap T)) (place : ℕ) (tap : Tap T) (among : IsAmong taps place (λ t. IsAt links t.link (λ l. IsTapOf l t))) (read : tap ≡ slice_index_or taps place tap) where
  there : slice_get taps place ≡ Some tap
  there = read_at (λ t. IsAt links t.link (λ l. IsTapOf l t)) taps place tap among read

  -- it is over its link
  pub over_link : IsAt links tap.link (λ l. IsTapOf l tap)
  over_link = so_at (λ t. IsAt links t.link (λ l. IsTapOf l t)) taps place tap among there

  -- it alone changed
  pub tap_moved : (next : Tap T) (did : Tap T → Tap T → Type 0) → IsAt links tap.link (λ l. KeepsTap l tap next) → did tap next → ChangesAt place taps (slice_set taps place next) (λ x y. IsAt links x.link (λ l. KeepsTap l x y) × did x y)
  tap_moved next did keeps done = record { was = tap; now = next; there = there; put = refl; done = (keeps, done) }

-- what a call of the tap of one subscription did to all
pub record TapWent {M T : Type 0} (links : List (Link T)) (kept : List (Kept M T)) (sub : SubId) (old new : List (Tap T)) (did : Tap T → Tap T → Type 0) : Type 0 where
  pub taps : AreTapsFrom links 0 kept new
  pub changed : TapChanges sub old new did
  pub has : HasNoTap sub old → ⊥

-- the tap of a subscription was found at a place, with the taps seen through a reference
module _ {M T : Type 0} (links : List (Link T)) (kept : List (Kept M T)) (sub : SubId) (ts : List (Tap T)) (place : ℕ) (seen : List (Tap T)) (over : AreTapsFrom links 0 kept ts) (taps : seen ≡ ts) (found : IsAmong seen place (λ t. t.sub ≡ sub)) where
  of_sub : IsAmong ts place (λ t. t.sub ≡ sub)
  of_sub = named_in sub seen ts place taps found

  -- it is over its link
  pub tap_there : IsAmong ts place (λ t. IsAt links t.link (λ l. IsTapOf l t))
  tap_there = (of_sub.0, of_sub.1, tap_over links kept 0 ts place of_sub.0 over of_sub.1)

  pub tap_went : (now : List (Tap T)) (did : Tap T → Tap T → Type 0) → ChangesAt place ts now (λ x y. IsAt links x.link (λ l. KeepsTap l x y) × did x y) → TapWent links kept sub ts now did
  tap_went now did ch =
      let A : List (Tap T) → Type 0 = λ l. AreTapsFrom links 0 kept l in
      record {
        taps = subst A (sym ch.put) (taps_set links kept 0 ts place ch.was ch.now over ch.there ch.done.0);
        changed = tap_changed sub ts now place did (λ x y. IsAt links x.link (λ l. KeepsTap l x y)) of_sub ch;
        has = has_tap sub ts place of_sub;
      }
