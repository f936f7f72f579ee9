-- What an offering seat knows of itself, kept by each call.
use Rattle.std.proofs.Common.{◌≡◌, ℕ, ◌+◌, ◌-◌, ◌<◌, ◌≤◌, Bool, true, false, not, cond, eqb, eq-eqb, ne_eqb, List, [], ◌∷◌, Option, Some, None, IfSome, sym, ap, ◌∙◌, subst, arith}
use Rattle.std.proofs.lemmas.Bool.{lt-ltb, le-ltb}
use Rattle.std.specs.Prelude.{slice_get}
use mathlib.Core.Logic.{dite}
use mathlib.Core.Option.{some}
use lib.ListN.{get_elem?}
use native.Mathlib.Decide.{ℕ_discrete}
use Rattle.rsx_link.specs.declared.place.Place.{Place}
use Rattle.rsx_link.specs.declared.place.Place.TheVariants.{Free}
use Rattle.rsx_link.specs.declared.place.PlaceStep.{PlaceStep}
use Rattle.rsx_link.specs.declared.place.PlaceStep.TheVariants.{Ticket, Offer}
use Rattle.rsx_link.specs.declared.place.PlaceView.{PlaceView}
use Rattle.rsx_link.specs.declared.places.PlaceSeat.{PlaceSeat}
use Rattle.rsx_link.specs.Link.{total}
use Rattle.rsx_link.specs.PlaceSteps.{ticket_of, refusal_of, offers_at, collects_at, number_of, is_refused}
use Rattle.rsx_link.specs.Places.{more, with_parts, joined, count_in}
use Rattle.rsx_link.proofs.PlaceCounts.{count_joined}
use Rattle.rsx_link.proofs.PlaceKeeps.{ticket_itself, ticket_other, other}
use Rattle.rsx_link.proofs.PlaceSlots.{got, same_slot}

no_place : (P : Type 0) (places n : ℕ) → places ≤ n → refusal_of {P = P} places (Ticket n) ≡ 1
no_place P places n le = ap (λ b. cond {A = ℕ} b 0 1) (le-ltb n places le)

some_place : (P : Type 0) (places n : ℕ) → n < places → refusal_of {P = P} places (Ticket n) ≡ 0
some_place P places n lt = ap (λ b. cond {A = ℕ} b 0 1) (lt-ltb n places lt)

refused_by : (P : Type 0) (places n : ℕ) (steps : List (PlaceStep P)) → places ≤ n → is_refused places (Ticket n ∷ steps) ≡ true
refused_by P places n steps le =
    let one = no_place P places n le in
    ap not (ne_eqb _ _ (λ (e : refusal_of {P = P} places (Ticket n) + total (refusal_of places) steps ≡ 0). absurd (omega arith)))

module _ {E P : Type 0} where
  -- of so many places, and whether a ticket of its own names none of them
  pub record Sound (places : ℕ) (v : PlaceView E P) (refused : Bool) : Type 0 where
    pub never_collects : (k : ℕ) → count_in (collects_at k) v ≡ 0
    pub settled : (k : ℕ) → k < places → count_in (offers_at k) v ≡ count_in (ticket_of k) v
    pub tells : refused ≡ is_refused places v.steps
    pub has_part : count_in (refusal_of places) v + cond refused 0 1 ≤ v.parts

  -- a ticket that names no place
  pub sound_refused : (places n : ℕ) (v w : PlaceView E P) (r : Bool) → r ≡ false → places ≤ n → w ≡ more v (Ticket n) → Sound places v r → Sound places w true
  sound_refused places n v w r may le is h = record {
    never_collects = λ k. let e = ap (count_in (collects_at k)) is in let old = h.never_collects k in omega arith;
    settled = λ k lt.
        let one = ap (count_in (offers_at k)) is in let two = ap (count_in (ticket_of k)) is in
        let none = ticket_other P k n (λ e. absurd (omega arith)) in let old = h.settled k lt in omega arith;
    tells = sym (ap (λ (u : PlaceView E P). is_refused places u.steps) is ∙ refused_by P places n v.steps le);
    has_part =
        let e = ap (count_in (refusal_of places)) is in let one = no_place P places n le in
        let parts = ap (λ (u : PlaceView E P). u.parts) is in
        let free : cond {A = ℕ} r 0 1 ≡ 1 = ap (λ b. cond {A = ℕ} b 0 1) may in
        let old = h.has_part in omega arith;
  }

  -- a part that is put at the place that the ticket names
  pub sound_offered : (places n : ℕ) (p : P) (v w u : PlaceView E P) (r : Bool) → n < places → w ≡ more v (Ticket n) → u ≡ more w (Offer n p) → Sound places v r → Sound places u r
  sound_offered places n p v w u r lt is then h =
      let all : u ≡ more (more v (Ticket n)) (Offer n p) = then ∙ ap (λ (z : PlaceView E P). more z (Offer n p)) is in
      let none = some_place P places n lt in record {
        never_collects = λ k. let e = ap (count_in (collects_at k)) all in let old = h.never_collects k in omega arith;
        settled = λ k few.
            let one = ap (count_in (offers_at k)) all in let two = ap (count_in (ticket_of k)) all in
            let old = h.settled k few in
            let same : offers_at k (Offer n p) ≡ ticket_of {P = P} k (Ticket n) = dite (ℕ_discrete k n)
            (λ e. let at : eqb n k ≡ true = eq-eqb n k (sym e) in ap (λ b. number_of {P = P} (cond b (Some p) None)) at ∙ sym (ap (λ b. cond {A = ℕ} b 1 0) at))
            (λ ne. other k n p ne ∙ sym (ticket_other P k n ne)) in omega arith;
        tells =
            let sum : refusal_of {P = P} places (Ticket n) + total (refusal_of places) v.steps ≡ total (refusal_of places) v.steps = omega arith in
            let zero_more : 0 + (refusal_of {P = P} places (Ticket n) + total (refusal_of places) v.steps) ≡ total (refusal_of places) v.steps = omega arith in
            h.tells ∙ sym (ap (λ (z : PlaceView E P). is_refused places z.steps) all ∙ ap (λ z. not (eqb z 0)) zero_more);
        has_part =
            let e = ap (count_in (refusal_of places)) all in
            let parts = ap (λ (z : PlaceView E P). z.parts) all in
            let old = h.has_part in omega arith;
      }

  -- who was not refused may draw a ticket
  pub may_draw : (slots places : ℕ) (v : PlaceView E P) (r : Bool) → slots ≡ places → r ≡ false → Sound slots v r → (is_refused places v.steps ≡ false) × (count_in (refusal_of places) v < v.parts)
  may_draw slots places v r e may h = subst (λ (n : ℕ). (is_refused n v.steps ≡ false) × (count_in (refusal_of n) v < v.parts)) e
      (sym h.tells ∙ may, (let free : cond {A = ℕ} r 0 1 ≡ 1 = ap (λ b. cond {A = ℕ} b 0 1) may in let has = h.has_part in omega arith))

  -- the counts of a ticket that is new
  pub new_ticket : (n : ℕ) (v w : PlaceView E P) → w ≡ more v (Ticket n) → count_in (ticket_of n) v ≡ 0 → count_in (ticket_of n) w ≡ 1
  new_ticket n v w is none = let e = ap (count_in (ticket_of n)) is in let one = ticket_itself P n in omega arith

  pub new_place : (n : ℕ) (v w : PlaceView E P) → w ≡ more v (Ticket n) → count_in (offers_at n) v ≡ 0 → count_in (offers_at n) w ≡ 0
  new_place n v w is none = let e = ap (count_in (offers_at n)) is in omega arith

  -- the ends in the slot are those that were made for the place
  pub its_ends : (ends : List E) (o : Option (List E)) (k : ℕ) (e e' : E) (c l : List (ℕ × Place E P)) → o ≡ Some ends → IfSome o (λ l. get_elem? l k ≡ some e)
      → c ≡ (k, Free e) ∷ l → c ≡ (k, Free e') ∷ [] → slice_get ends k ≡ Some e'
  its_ends ends o k e e' c l known is a b =
      let same : ◌≡◌ {A = Place E P} (Free e) (Free e') = same_slot c l [] k (Free e) (Free e') a b in
      let one : e ≡ e' = cc in
      got ends k e (subst (λ (z : Option (List E)). IfSome z (λ l. get_elem? l k ≡ some e)) known is) ∙ ap Some one

  -- a seat that gave one part away, and the one that got it
  pub sound_split : (places : ℕ) (v w : PlaceView E P) (r : Bool) → w ≡ with_parts v (v.parts - 1) → count_in (refusal_of places) v + 1 < v.parts → Sound places v r → Sound places w r
  sound_split places v w r is some_more h = record {
    never_collects = λ k. ap (count_in (collects_at k)) is ∙ h.never_collects k;
    settled = λ k lt. ap (count_in (offers_at k)) is ∙ h.settled k lt ∙ sym (ap (count_in (ticket_of k)) is);
    tells = h.tells ∙ sym (ap (λ (u : PlaceView E P). is_refused places u.steps) is);
    has_part =
        let e = ap (count_in (refusal_of places)) is in
        let parts = ap (λ (u : PlaceView E P). u.parts) is in
        let most = at_most r in omega arith;
  }
    where
      at_most : (b : Bool) → cond {A = ℕ} b 0 1 ≤ 1
      at_most true = omega arith
      at_most false = omega arith

  -- a seat that took another in
  pub sound_joined : (places : ℕ) (v w u : PlaceView E P) (r q : Bool) → u ≡ joined v w → Sound places v r → Sound places w q → Sound places u r
  sound_joined places v w u r q is h g = record {
    never_collects = λ k. let e = ap (count_in (collects_at k)) is in let sum = count_joined (collects_at k) v w in let a = h.never_collects k in let b = g.never_collects k in omega arith;
    settled = λ k lt.
        let one = ap (count_in (offers_at k)) is in let two = ap (count_in (ticket_of k)) is in
        let sum = count_joined (offers_at k) v w in let sum' = count_joined (ticket_of k) v w in
        let a = h.settled k lt in let b = g.settled k lt in omega arith;
    tells = h.tells ∙ sym (ap (λ (z : PlaceView E P). is_refused places z.steps) is);
    has_part =
        let e = ap (count_in (refusal_of places)) is in let sum = count_joined (refusal_of places) v w in
        let parts = ap (λ (z : PlaceView E P). z.parts) is in
        let a = h.has_part in let b = g.has_part in omega arith;
  }

  -- what a seat may give away
  pub may_split : (slots places : ℕ) (v : PlaceView E P) → slots ≡ places → count_in (refusal_of slots) v + 1 < v.parts → count_in (refusal_of places) v ≤ v.parts - 1
  may_split slots places v e has = subst (λ (n : ℕ). count_in (refusal_of n) v ≤ v.parts - 1) e (omega arith)

-- what a seat of the places knows of itself
pub sound_of : {T P : Type 0} (s : PlaceSeat T P) → Sound s.seat.table_id.slots s.seat.me.0 s.refused
sound_of s = record { never_collects = s.never_collects; settled = s.settled; tells = s.tells; has_part = s.has_part }
