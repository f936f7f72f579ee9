-- What the list of what is left says of one place.
use Rattle.std.proofs.Common.{◌≡◌, ℕ, Bool, true, false, is_some, cond, List, ◌++◌, get_or, Option, Some, None, IfSome, IfNone, refl, ap, ◌∙◌, arith}
use Rattle.std.specs.Prelude.{slice_get}
use Rattle.std.proofs.lemmas.List.{append-nil}
use mathlib.Core.Option.{some}
use lib.ListN.{get_elem?}
use Rattle.rsx_link.specs.declared.place.Ends.{Ends}
use Rattle.rsx_link.specs.declared.place.Place.{Place}
use Rattle.rsx_link.specs.declared.place.Place.TheVariants.{Free, Offered, Taken}
use Rattle.rsx_link.specs.declared.place.PlaceView.{PlaceView}
use Rattle.rsx_link.specs.declared.places.Collector.{Collector}
use Rattle.rsx_link.specs.declared.places.PlaceSeat.{PlaceSeat}
use Rattle.rsx_link.specs.declared.places.Places.{Places}
use Rattle.rsx_link.specs.PlaceSteps.{collect_of, collects_at, found_in, flat}
use Rattle.rsx_link.specs.Places.{count_in, steps_of}
use Rattle.rsx_link.specs.Collected.{is_collected}
use Rattle.rsx_link.specs.PlaceSeats.{IsLeft, ends_of, collected_at, offered_at, collector_steps}
use Rattle.rsx_link.proofs.PlaceCollects.{not_collected}
use Rattle.rsx_link.proofs.PlaceClosing.{LeavesAt, counts_found, earned_by}
use Rattle.rsx_link.proofs.PlaceSlots.{by_index, got}

if_some : {X : Type 0} (F : X → Type 0) (o : Option X) → ((x : X) → o ≡ Some x → F x) → IfSome o F
if_some F None f = tt
if_some F (Some x) f = f x refl

if_none : {X : Type 0} (F : Type 0) (o : Option X) → (o ≡ None → F) → IfNone o F
if_none F None f = f refl
if_none F (Some x) f = tt

module _ {T P : Type 0} where
  pub is_left : (p : Places T P) (c : Collector T P) (s : PlaceSeat T P) (k : ℕ) (xs left : List (Place (Ends T) P)) (b : Bool) → b ≡ is_collected k (collector_steps c)
      → slice_get left k ≡ Some (cond b Taken (get_or xs k Taken)) → LeavesAt (ends_of p) c.seat.me.0 s.seat.me.0 xs k → IsLeft p c s k left
  is_left p c s k xs left b tells is h =
      let v = c.seat.me.0 in
      let all : steps_of v ≡ v.steps = ap (λ ls. v.steps ++ flat ls) c.alone ∙ append-nil v.steps in
      let chosen : (a : Bool) → b ≡ a → slice_get left k ≡ Some (cond a Taken (get_or xs k Taken)) = λ a e. is ∙ ap (λ (z : Bool). Some (cond z Taken (get_or xs k Taken))) e in
      let there : (y : Place (Ends T) P) → b ≡ false → get_elem? xs k ≡ some y → slice_get left k ≡ Some y = λ y e at. chosen false e ∙ ap Some (by_index xs k y Taken at) in record {
        taken = if_some _ (collected_at k c) (λ part e. chosen true (tells ∙ ap is_some e));
        offered = if_none _ (collected_at k c) (λ none. if_some _ (offered_at k s) (λ part e.
            there (Offered part) (tells ∙ ap is_some none) (h.offered part (not_collected k v c.alone (ap is_some none)) e)));
        free = λ whole. if_none _ (offered_at k s) (λ none.
            let its = h.free whole none in
            (its.1.0, got (ends_of p) k its.1.0 its.1.1, there (Free its.1.0) (tells ∙ ap is_some (not_found k v its.0 all)) its.1.2));
        same = if_some _ (collected_at k c) (λ part e. if_some _ (offered_at k s) (λ other e'. h.same part other (ap (found_in (collect_of k)) all ∙ e) e'));
        earned = λ whole. if_some _ (collected_at k c) (λ part e. earned_by (ends_of p) v s.seat.me.0 xs k h whole part (ap (found_in (collect_of k)) all ∙ e));
      }
    where
      not_found : (k : ℕ) (v : PlaceView (Ends T) P) → count_in (collects_at k) v ≡ 0 → steps_of v ≡ v.steps → found_in (collect_of k) v.steps ≡ None
      not_found k v none all = cases (found_in (collect_of k) v.steps) refl
        where
          cases : (o : Option P) → found_in (collect_of k) v.steps ≡ o → found_in (collect_of k) v.steps ≡ None
          cases None e = e
          cases (Some q) e = let some_counted = counts_found (collect_of k) q (steps_of v) (ap (found_in (collect_of k)) all ∙ e) in absurd (omega arith)
