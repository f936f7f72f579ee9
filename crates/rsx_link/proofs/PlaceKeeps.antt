-- Each step on the places keeps their rule.
use Rattle.std.proofs.Common.{◌≡◌, ◌≢◌, ℕ, zero, suc, ◌+◌, ◌%◌, ◌^◌, ◌<◌, ◌≤◌, Bool, true, false, not, ◌&&◌, is_some, cond, eqb, eq-eqb, ne_eqb, List, [], ◌∷◌, ◌++◌, get_or, length, map, replicate, set, Option, Some, None, IfSome, refl, sym, ap, ◌∙◌, subst, ⊎_elim, arith}
use Rattle.std.proofs.lemmas.Bool.{lt-ltb, le-ltb}
use Rattle.std.proofs.lemmas.List.{length-append, length-map, length-replicate, length-set}
use Rattle.std.proofs.Math.Nat.{mod-eq_of_lt}
use mathlib.Core.Logic.{dite}
use mathlib.Core.Option.{some, none, some-injective, some-ne-none}
use mathlib.Core.Option as maybe
use native.Mathlib.Decide.{ℕ_discrete, dec_le}
use lib.ListN.{get_elem?}
use Rattle.atomic_table.specs.Table.{State, Me, step, keeps, takes, gives, Allows, Splits, Joins, opening}
use Rattle.atomic_table.proofs.Lists.{at_set, at_snoc, set_else, set_again}
use Rattle.rsx_link.specs.declared.place.Place.{Place}
use Rattle.rsx_link.specs.declared.place.Place.TheVariants.{Free, Offered}
use Rattle.rsx_link.specs.declared.place.PlaceStep.{PlaceStep}
use Rattle.rsx_link.specs.declared.place.PlaceStep.TheVariants.{Ticket, Offer, Miss, Collect}
use Rattle.rsx_link.specs.declared.place.PlaceView.{PlaceView}
use Rattle.rsx_link.specs.Link.{total}
use Rattle.rsx_link.specs.PlaceSteps.{ticket_of, refusal_of, number_of, offers_at, collects_at, AllName, is_refused}
use Rattle.rsx_link.specs.Places.{IsSized, founder, more, with_parts, newcomer, joined, spent, steps_of, count_in, tally, claims, Fits, IsPlace, Kept}
use Rattle.rsx_link.specs.PlacePlays.{drew, offered, collected}
use Rattle.rsx_link.proofs.PlaceCounts.{total_less, total_less_but, total_alone, all_name-append, all_none, steps_joined, count_joined, tally_step, tally_split, tally_join}
use Rattle.rsx_link.proofs.Totals.{total-set, total-append, le-total}

pub set_at : {A : Type 0} (l : List A) (i : ℕ) (a b : A) → get_elem? l i ≡ some b → get_elem? (set l i a) i ≡ some a
set_at [] i a b e = absurd (some-ne-none b (sym e))
set_at (x ∷ xs) zero a b e = refl
set_at (x ∷ xs) (suc i) a b e = set_at xs i a b e

word_at : (l : List ℕ) (i w : ℕ) → get_elem? l i ≡ some w → get_or l i 0 ≡ w
word_at [] i w e = absurd (some-ne-none w (sym e))
word_at (x ∷ xs) zero w e = some-injective x w e
word_at (x ∷ xs) (suc i) w e = word_at xs i w e

pub ticket_itself : (P : Type 0) (k : ℕ) → ticket_of {P = P} k (Ticket k) ≡ 1
ticket_itself P k = ap (λ b. cond b 1 0) (eq-eqb k k refl)

pub ticket_other : (P : Type 0) (k n : ℕ) → k ≢ n → ticket_of {P = P} k (Ticket n) ≡ 0
ticket_other P k n ne = ap (λ b. cond b 1 0) (ne_eqb n k (λ e. ne (sym e)))

at_most_one : (a : Bool) → cond {A = ℕ} (a && true) 1 0 ≤ 1
at_most_one true = omega arith
at_most_one false = omega arith

module _ {P : Type 0} where
  itself : (k : ℕ) (p : P) → IfSome (cond (eqb k k) (Some p) None) (λ q. q ≡ p)
  itself k p = subst (λ (b : Bool). IfSome (cond b (Some p) None) (λ q. q ≡ p)) (sym (eq-eqb k k refl)) refl

  pub other : (k n : ℕ) (p : P) → k ≢ n → number_of (cond (eqb n k) (Some p) None) ≡ 0
  other k n p ne = ap (λ (b : Bool). number_of {P = P} (cond b (Some p) None)) (ne_eqb n k (λ e. ne (sym e)))

module _ {E P : Type 0} where
  -- each seat names p alone at the place k
  abbrev Named : ℕ → P → List (PlaceView E P) → Type 0
  Named k p views = (o : ℕ) (v : PlaceView E P) → get_elem? views o ≡ some v → AllName k p (steps_of v)

  named_step : (views : List (PlaceView E P)) (id : ℕ) (v : PlaceView E P) (x : PlaceStep P) (k : ℕ) (p : P) → get_elem? views id ≡ some v
      → AllName k p (x ∷ []) → Named k p views → Named k p (set views id (more v x))
  named_step views id v x k p at one all o u e = ⊎_elim (λ t. subst (λ (z : PlaceView E P). AllName k p (steps_of z)) t.1 (one.0, all id v at)) (λ t. all o u t.1) (at_set views id o (more v x) u e)

  -- a place of which nothing changed
  stays : (ends : List E) (k c c' : ℕ) (views views' : List (PlaceView E P)) (word : ℕ) (home : maybe.Option (Place E P)) → (k < c' → k < c) → (c' ≤ k → c ≤ k)
      → tally (ticket_of k) views' ≡ tally (ticket_of k) views → tally (offers_at k) views' ≡ tally (offers_at k) views → tally (collects_at k) views' ≡ tally (collects_at k) views
      → ((p : P) → Named k p views → Named k p views') → IsPlace ends k c views word home → IsPlace ends k c' views' word home
  stays ends k c c' views views' word home lt le t o d names h = record {
    below = λ b. let e = h.below (lt b) in t ∙ e;
    above = λ b. let e = h.above (le b) in t ∙ e;
    offers = h.offers ∙ sym o;
    once = h.once;
    collects = let e = h.collects in omega arith;
    free = λ b. h.free (le b);
    out = λ b. h.out (lt b);
    carries = λ w. let carried = h.carries w in let p = carried.0 in let its = carried.1 in (
      p,
      record {
        names = names p its.names;
        waits = λ e. its.waits (sym d ∙ e);
        gone = λ e. its.gone (sym d ∙ e);
      },
    );
  }

  -- a step that leaves the place k as it was
  stays_by : (ends : List E) (k c c' : ℕ) (views : List (PlaceView E P)) (id : ℕ) (v : PlaceView E P) (x : PlaceStep P) (word : ℕ) (home : maybe.Option (Place E P))
      → get_elem? views id ≡ some v → (k < c' → k < c) → (c' ≤ k → c ≤ k) → ticket_of k x ≡ 0 → offers_at k x ≡ 0 → collects_at k x ≡ 0
      → IsPlace ends k c views word home → IsPlace ends k c' (set views id (more v x)) word home
  stays_by ends k c c' views id v x word home at lt le t o d h =
      let ts = tally_step (ticket_of k) views id v x at in
      let os = tally_step (offers_at k) views id v x at in
      let ds = tally_step (collects_at k) views id v x at in
      stays ends k c c' views (set views id (more v x)) word home lt le (omega arith) (omega arith) (omega arith)
      (λ p. named_step views id v x k p at (all_none k p (x ∷ []) (omega arith) (omega arith))) h

  -- a seat knows one step more
  fits_step : (ends : List E) (id : ℕ) (v : PlaceView E P) (x : PlaceStep P) → Fits ends id v → (id ≢ 0 → (k : ℕ) → collects_at k x ≡ 0)
      → ((k : ℕ) → offers_at k x + count_in (offers_at k) v ≤ ticket_of k x + count_in (ticket_of k) v) → refusal_of (length ends) x + count_in (refusal_of (length ends)) v ≤ v.parts
      → (v.parts ≡ 0 → (k : ℕ) → ticket_of k x ≡ 0) → Fits ends id (more v x)
  fits_step ends id v x h collects earned within idle = record {
    knows = h.knows;
    collects = λ ne k. let one = collects ne k in let rest = h.collects ne k in omega arith;
    earned = earned;
    within = within;
    idle = λ none k. let one = idle none k in let rest = h.idle none k in omega arith;
  }

  claims_same : (n : ℕ) (v : PlaceView E P) (x : PlaceStep P) → refusal_of n x ≡ 0 → claims n (more v x) ≡ claims n v
  claims_same n v x e =
      let own : refusal_of n x + total (refusal_of n) v.steps ≡ total (refusal_of n) v.steps = omega arith in
      let all : count_in (refusal_of n) (more v x) ≡ count_in (refusal_of n) v = omega arith in
      ap (λ z. z + cond (is_some v.ends && not (is_refused n (x ∷ v.steps))) 1 0) all
      ∙ ap (λ z. count_in (refusal_of n) v + cond (is_some v.ends && not (not (eqb z 0))) 1 0) own

  -- a seat that draws a ticket that names no place may draw no other
  claims_refused : (n : ℕ) (v : PlaceView E P) (k : ℕ) (ends : List E) → refusal_of {P = P} n (Ticket k) ≡ 1 → v.ends ≡ Some ends → is_refused n v.steps ≡ false → claims n (more v (Ticket k)) ≤ claims n v
  claims_refused n v k ends one knows fresh =
      let before : cond {A = ℕ} (is_some v.ends && not (is_refused n v.steps)) 1 0 ≡ 1 =
      ap (λ (z : Option (List E)). cond {A = ℕ} (is_some z && not (is_refused n v.steps)) 1 0) knows ∙ ap (λ (b : Bool). cond {A = ℕ} (not b) 1 0) fresh in
      let some_refused : eqb (refusal_of {P = P} n (Ticket k) + total (refusal_of n) v.steps) 0 ≡ false = ne_eqb _ _ (λ (e : refusal_of {P = P} n (Ticket k) + total (refusal_of n) v.steps ≡ 0). absurd (omega arith)) in
      let now : cond {A = ℕ} (is_some v.ends && not (is_refused n (Ticket k ∷ v.steps))) 1 0 ≡ 0 =
      ap (λ (z : Option (List E)). cond {A = ℕ} (is_some z && not (is_refused n (Ticket k ∷ v.steps))) 1 0) knows ∙ ap (λ (b : Bool). cond {A = ℕ} (not (not b)) 1 0) some_refused in
      omega arith

  -- the rule after one step of the seat id
  after : (ends : List E) (s : State (Place E P) (PlaceView E P)) (h : Kept ends s) (id : ℕ) (v : PlaceView E P) (x : PlaceStep P)
      (counter : ℕ) (flags words : List ℕ) (homes : List (maybe.Option (Place E P))) → get_elem? s.views id ≡ some v → words ≡ counter ∷ flags
      → ((k : ℕ) → k < length ends → (word : ℕ) × (home : maybe.Option (Place E P)) × (get_elem? flags k ≡ some word) × (get_elem? homes k ≡ some home)
      × IsPlace ends k counter (set s.views id (more v x)) word home)
      → Fits ends id (more v x)
      → counter ≤ length ends + (refusal_of (length ends) x + tally (refusal_of (length ends)) s.views)
      → claims (length ends) (more v x) ≤ claims (length ends) v
      → Kept ends record { words = words; homes = homes; views = set s.views id (more v x) }
  after ends s h id v x counter flags words homes at is each mine exceeds claim = record {
    counter = counter;
    flags = flags;
    words = is;
    each = each;
    fits = λ o u e. ⊎_elim (λ t. subst (λ (z : PlaceView E P). Fits ends o z) t.1 (subst (λ (z : ℕ). Fits ends z (more v x)) (sym t.0) mine)) (λ t. h.fits o u t.1) (at_set s.views id o (more v x) u e);
    exceeds = let sum = tally_step (refusal_of (length ends)) s.views id v x at in omega arith;
    seats =
        let sum = total-set (claims (length ends)) s.views id v (more v x) at in
        let same = length-set s.views id (more v x) in
        let was = h.seats in omega arith;
    parts = let sum = total-set (λ (u : PlaceView E P). u.parts) s.views id v (more v x) at in let was = h.parts in omega arith;
  }

  -- no more tickets are refused than there are parts
  refusals : (ends : List E) (s : State (Place E P) (PlaceView E P)) (h : Kept ends s) → tally (refusal_of (length ends)) s.views ≤ 4294967296
  refusals ends s h =
      let le = total_less (count_in (refusal_of (length ends))) (λ (v : PlaceView E P). v.parts) s.views (λ o v e. (h.fits o v e).within) in
      let all = h.parts in omega arith

  -- as many were offered as tickets were drawn, at most
  pub earned : (ends : List E) (s : State (Place E P) (PlaceView E P)) (h : Kept ends s) (k : ℕ) → tally (offers_at k) s.views ≤ tally (ticket_of k) s.views
  earned ends s h k = total_less (count_in (offers_at k)) (count_in (ticket_of k)) s.views (λ o v e. (h.fits o v e).earned k)

  -- what the ticket says, where it names a place
  free_there : (ends : List E) (s : State (Place E P) (PlaceView E P)) (h : Kept ends s) (k : ℕ) → k < length ends → h.counter ≤ k
      → (e : E) × (get_elem? ends k ≡ some e) × (get_elem? s.homes k ≡ some (some (Free e))) × (tally (ticket_of k) s.views ≡ 0) × (tally (offers_at k) s.views ≡ 0)
  free_there ends s h k lt le =
      let row = h.each k lt in let place = row.4 in let its = place.free le in
      let none = place.above le in let few = earned ends s h k in
      (its.0, its.1, row.3 ∙ ap some its.2, none, omega arith)

  -- the place whose ticket is drawn
  drawn : (ends : List E) (s : State (Place E P) (PlaceView E P)) (h : Kept ends s) (id : ℕ) (v : PlaceView E P) (k : ℕ) → get_elem? s.views id ≡ some v → k < length ends → h.counter ≤ k
      → (word : ℕ) × (home : maybe.Option (Place E P)) × (get_elem? h.flags k ≡ some word) × (get_elem? (set s.homes k none) k ≡ some home)
      × IsPlace ends k (suc k) (set s.views id (more v (Ticket k))) word home
  drawn ends s h id v k at lt le =
      let row = h.each k lt in let place = row.4 in
      let none_drawn = place.above le in let few = earned ends s h k in
      let ts = tally_step (ticket_of k) s.views id v (Ticket k) at in
      let os = tally_step (offers_at k) s.views id v (Ticket k) at in
      let ds = tally_step (collects_at k) s.views id v (Ticket k) at in
      let one = ticket_itself P k in
      let word_is = place.offers in let most = place.collects in (
        row.0,
        none,
        row.2,
        set_at s.homes k none row.1 row.3,
        record {
          below = λ _. omega arith;
          above = λ b. absurd (omega arith);
          offers = omega arith;
          once = place.once;
          collects = omega arith;
          free = λ b. absurd (omega arith);
          out = λ _ _. refl;
          carries = λ w. absurd (omega arith);
        },
      )

  draws_at : (ends : List E) (id : ℕ) (me : Me (Place E P) (PlaceView E P)) → length ends < 4294967296 → me.0.ends ≡ Some ends → is_refused (length ends) me.0.steps ≡ false
      → count_in (refusal_of (length ends)) me.0 < me.0.parts → Allows (Kept ends) (length ends) id me 0 (λ y. (y + 1) % 2 ^ 64) (drew (step (length ends) 0 1 0 none) me)
  draws_at ends id me few knows fresh some_part s h wide at _ =
      let v = me.0 in let n : ℕ = length ends in
      let found : ℕ = get_or s.words 0 0 in
      let is : found ≡ h.counter = ap (λ ws. get_or ws 0 0) h.words in
      let bound = h.exceeds in let most = refusals ends s h in
      let next : (found + 1) % 2 ^ 64 ≡ suc found = mod-eq_of_lt (omega arith) ∙ omega arith in
      let words : set s.words 0 ((found + 1) % 2 ^ 64) ≡ suc found ∷ h.flags = ap (λ ws. set ws 0 ((found + 1) % 2 ^ 64)) h.words ∙ ap (λ z. z ∷ h.flags) next in
      let its = h.fits id v at in
      dite (dec_le (suc found) n)
      (λ lt. let free = free_there ends s h found lt (omega arith) in
      let names : refusal_of {P = P} n (Ticket found) ≡ 0 = ap (λ b. cond b 0 1) (lt-ltb found n lt) in
      let mine = le-total (count_in (ticket_of found)) s.views id v at in
      let offered_here = le-total (count_in (offers_at found)) s.views id v at in
      let none_drawn = free.3 in let none_offered = free.4 in (
        more v (Ticket found),
        takes found (Free free.0),
        free.2,
        after ends s h id v (Ticket found) (suc found) h.flags (set s.words 0 ((found + 1) % 2 ^ 64)) (set s.homes found none) at words
            (λ k lt_k. dite (ℕ_discrete k found)
            (λ e. subst (λ (j : ℕ). (word : ℕ) × (home : maybe.Option (Place E P)) × (get_elem? h.flags j ≡ some word) × (get_elem? (set s.homes found none) j ≡ some home)
            × IsPlace ends j (suc found) (set s.views id (more v (Ticket found))) word home) (sym e) (drawn ends s h id v found at lt (omega arith)))
            (λ ne. let row = h.each k lt_k in (
              row.0,
              row.1,
              row.2,
              set_else s.homes found k none ne ∙ row.3,
              stays_by ends k h.counter (suc found) s.views id v (Ticket found) row.0 row.1 at
                  (λ b. let off = ne in omega arith) (λ b. omega arith) (ticket_other P k found ne) refl refl row.4,
            )))
            (fits_step ends id v (Ticket found) its (λ _ _. refl) (λ k. let e = its.earned k in omega arith) (let w = its.within in omega arith) (λ none_left. absurd (omega arith)))
            (omega arith)
            (let e = claims_same n v (Ticket found) names in omega arith),
        (refl, (λ _. (free.0, refl, subst (λ (z : Option (List E)). IfSome z (λ l. get_elem? l found ≡ some free.0)) (sym knows) free.1, omega arith, omega arith)), (λ le. absurd (omega arith))),
      ))
      (λ no. let beyond : n ≤ found = omega arith in
      let names : refusal_of {P = P} n (Ticket found) ≡ 1 = ap (λ b. cond b 0 1) (le-ltb found n beyond) in (
        more v (Ticket found),
        keeps,
        tt,
        after ends s h id v (Ticket found) (suc found) h.flags (set s.words 0 ((found + 1) % 2 ^ 64)) s.homes at words
            (λ k lt_k. let row = h.each k lt_k in (
              row.0,
              row.1,
              row.2,
              row.3,
              stays_by ends k h.counter (suc found) s.views id v (Ticket found) row.0 row.1 at
                  (λ b. omega arith) (λ b. omega arith) (ticket_other P k found (λ e. absurd (omega arith))) refl refl row.4,
            ))
            (fits_step ends id v (Ticket found) its (λ _ _. refl) (λ k. let e = its.earned k in omega arith) (omega arith) (λ none_left. absurd (omega arith)))
            (omega arith)
            (claims_refused n v found ends names knows fresh),
        (refl, (λ lt. absurd (omega arith)), (λ _. refl)),
      ))

  pub draws : (ends : List E) (n id : ℕ) (me : Me (Place E P) (PlaceView E P)) → n ≡ length ends → n < 4294967296 → me.0.ends ≡ Some ends → is_refused n me.0.steps ≡ false
      → count_in (refusal_of n) me.0 < me.0.parts → Allows (Kept ends) n id me 0 (λ y. (y + 1) % 2 ^ 64) (drew (step n 0 1 0 none) me)
  draws ends n id me e = subst (λ (n : ℕ). n < 4294967296 → me.0.ends ≡ Some ends → is_refused n me.0.steps ≡ false
      → count_in (refusal_of n) me.0 < me.0.parts → Allows (Kept ends) n id me 0 (λ y. (y + 1) % 2 ^ 64) (drew (step n 0 1 0 none) me)) (sym e) (draws_at ends id me)

  -- the place at which a part is offered
  offered_at : (ends : List E) (s : State (Place E P) (PlaceView E P)) (h : Kept ends s) (id : ℕ) (v : PlaceView E P) (k : ℕ) (p : P) (word : ℕ) (home : maybe.Option (Place E P))
      → get_elem? s.views id ≡ some v → count_in (ticket_of k) v ≡ 1 → count_in (offers_at k) v ≡ 0 → IsPlace ends k h.counter s.views word home
      → (k < h.counter) × IsPlace ends k h.counter (set s.views id (more v (Offer k p))) 1 (some (Offered p))
  offered_at ends s h id v k p word home at has fresh place =
      let some_drawn = le-total (count_in (ticket_of k)) s.views id v at in
      let less = total_less_but (count_in (offers_at k)) (count_in (ticket_of k)) s.views id v at (λ o u e. (h.fits o u e).earned k) in
      let lt : k < h.counter = dite (dec_le (suc k) h.counter) (λ b. b) (λ no. let undrawn = place.above (omega arith) in absurd (omega arith)) in
      let one_drawn = place.below lt in
      let word_is = place.offers in let most = place.collects in
      let ts = tally_step (ticket_of k) s.views id v (Offer k p) at in
      let os = tally_step (offers_at k) s.views id v (Offer k p) at in
      let ds = tally_step (collects_at k) s.views id v (Offer k p) at in
      let one : offers_at k (Offer k p) ≡ 1 = ap (λ b. number_of {P = P} (cond b (Some p) None)) (eq-eqb k k refl) in
      let none_offered : tally (offers_at k) s.views ≡ 0 = omega arith in
      let none_collected : tally (collects_at k) s.views ≡ 0 = omega arith in
      let named : Named k p s.views = λ o u e.
      let a = le-total (count_in (offers_at k)) s.views o u e in let b = le-total (count_in (collects_at k)) s.views o u e in
      all_none k p (steps_of u) (omega arith) (omega arith) in
      let own : AllName k p (Offer k p ∷ []) = ((itself k p, tt), tt) in (
        lt,
        record {
          below = λ _. omega arith;
          above = λ b. absurd (omega arith);
          offers = omega arith;
          once = omega arith;
          collects = omega arith;
          free = λ b. absurd (omega arith);
          out = λ _ w. absurd (omega arith);
          carries = λ _. (
            p,
            record {
              names = named_step s.views id v (Offer k p) k p at own named;
              waits = λ _. refl;
              gone = λ e. absurd (omega arith);
            },
          );
        },
      )

  offers_from : (ends : List E) (id : ℕ) (v : PlaceView E P) (k : ℕ) (p : P) → k < length ends → count_in (ticket_of k) v ≡ 1 → count_in (offers_at k) v ≡ 0
      → Allows (Kept ends) (length ends) id (v, (k, Offered p) ∷ []) (suc k) (λ _. 1) (λ _. offered (step (length ends) (suc k) 1 0 none) (v, (k, Offered p) ∷ []) 1)
  offers_from ends id v k p lt has fresh s h wide at _ =
      let row = h.each k lt in
      let here = offered_at ends s h id v k p row.0 row.1 at has fresh row.4 in
      let its = h.fits id v at in (
        more v (Offer k p),
        gives,
        tt,
        after ends s h id v (Offer k p) h.counter (set h.flags k 1) (set s.words (suc k) 1) (set s.homes k (some (Offered p))) at (ap (λ ws. set ws (suc k) 1) h.words)
            (λ j lt_j. dite (ℕ_discrete j k)
            (λ e. subst (λ (i : ℕ). (word : ℕ) × (home : maybe.Option (Place E P)) × (get_elem? (set h.flags k 1) i ≡ some word) × (get_elem? (set s.homes k (some (Offered p))) i ≡ some home)
            × IsPlace ends i h.counter (set s.views id (more v (Offer k p))) word home) (sym e)
            (1, some (Offered p), set_at h.flags k 1 row.0 row.2, set_at s.homes k (some (Offered p)) row.1 row.3, here.1))
            (λ ne. let its = h.each j lt_j in (
              its.0,
              its.1,
              set_else h.flags k j 1 ne ∙ its.2,
              set_else s.homes k j (some (Offered p)) ne ∙ its.3,
              stays_by ends j h.counter h.counter s.views id v (Offer k p) its.0 its.1 at (λ b. b) (λ b. b) refl (other j k p ne) refl its.4,
            )))
            (fits_step ends id v (Offer k p) its (λ _ _. refl)
            (λ j. dite (ℕ_discrete j k)
            (λ e. subst (λ (i : ℕ). offers_at i (Offer k p) + count_in (offers_at i) v ≤ ticket_of i (Offer k p) + count_in (ticket_of i) v) (sym e) (let one : offers_at k (Offer k p) ≡ 1 = ap (λ b. number_of {P = P} (cond b (Some p) None)) (eq-eqb k k refl) in omega arith))
            (λ ne. let none : offers_at j (Offer k p) ≡ 0 = other j k p ne in let e = its.earned j in omega arith))
            (let w = its.within in omega arith) (λ _ _. refl))
            (let e = h.exceeds in omega arith)
            (let e = claims_same (length ends) v (Offer k p) refl in omega arith),
        (λ k' p' e.
            let pair : (k, Offered p) ≡ (k', Offered p') = ap (λ (l : List (ℕ × Place E P)). get_or l 0 (k, Offered p)) e in
            let one : k ≡ k' = ap (λ (x : ℕ × Place E P). x.0) pair in
            let two : ◌≡◌ {A = Place E P} (Offered p) (Offered p') = ap (λ (x : ℕ × Place E P). x.1) pair in cc),
      )

  -- a part is offered
  pub offers : (ends : List E) (n id : ℕ) (me : Me (Place E P) (PlaceView E P)) (k word : ℕ) (p : P) → n ≡ length ends → word ≡ suc k → me.1 ≡ (k, Offered p) ∷ [] → k < n
      → count_in (ticket_of k) me.0 ≡ 1 → count_in (offers_at k) me.0 ≡ 0 → Allows (Kept ends) n id me word (λ _. 1) (λ _. offered (step n word 1 0 none) me 1)
  offers ends n id me k word p count is out = subst (λ (n : ℕ). k < n → count_in (ticket_of k) me.0 ≡ 1 → count_in (offers_at k) me.0 ≡ 0
      → Allows (Kept ends) n id me word (λ _. 1) (λ _. offered (step n word 1 0 none) me 1)) (sym count)
      (subst (λ (c : List (ℕ × Place E P)). k < length ends → count_in (ticket_of k) me.0 ≡ 1 → count_in (offers_at k) me.0 ≡ 0
      → Allows (Kept ends) (length ends) id (me.0, c) word (λ _. 1) (λ _. offered (step (length ends) word 1 0 none) (me.0, c) 1)) (sym out)
      (subst (λ (w : ℕ). k < length ends → count_in (ticket_of k) me.0 ≡ 1 → count_in (offers_at k) me.0 ≡ 0
      → Allows (Kept ends) (length ends) id (me.0, (k, Offered p) ∷ []) w (λ _. 1) (λ _. offered (step (length ends) w 1 0 none) (me.0, (k, Offered p) ∷ []) 1)) (sym is)
      (offers_from ends id me.0 k p)))

  -- the place whose part is collected
  collected_at : (ends : List E) (s : State (Place E P) (PlaceView E P)) (h : Kept ends s) (id : ℕ) (v : PlaceView E P) (k : ℕ) (word : ℕ) (home : maybe.Option (Place E P))
      → get_elem? s.views id ≡ some v → tally (collects_at k) s.views ≡ 0 → word ≢ 0 → IsPlace ends k h.counter s.views word home
      → (p : P) × (home ≡ some (Offered p)) × (word ≡ 1) × IsPlace ends k h.counter (set s.views id (more v (Collect k p))) word none
  collected_at ends s h id v k word home at fresh full place =
      let once = place.once in let word_is : word ≡ 1 = omega arith in
      let carried = place.carries word_is in let p = carried.0 in let its = carried.1 in
      let offers = place.offers in
      let ts = tally_step (ticket_of k) s.views id v (Collect k p) at in
      let os = tally_step (offers_at k) s.views id v (Collect k p) at in
      let ds = tally_step (collects_at k) s.views id v (Collect k p) at in
      let one : collects_at k (Collect k p) ≡ 1 = ap (λ b. number_of {P = P} (cond b (Some p) None)) (eq-eqb k k refl) in
      let few = earned ends s h k in
      let lt : k < h.counter = dite (dec_le (suc k) h.counter) (λ b. b) (λ no. let undrawn = place.above (omega arith) in absurd (omega arith)) in
      let one_drawn = place.below lt in (
        p,
        its.waits fresh,
        word_is,
        record {
          below = λ _. omega arith;
          above = λ b. absurd (omega arith);
          offers = omega arith;
          once = once;
          collects = omega arith;
          free = λ b. absurd (omega arith);
          out = λ _ _. refl;
          carries = λ _. (
            p,
            record {
              names = named_step s.views id v (Collect k p) k p at ((tt, itself k p), tt) its.names;
              waits = λ e. absurd (omega arith);
              gone = λ _. refl;
            },
          );
        },
      )

  collects_from : (ends : List E) (me : Me (Place E P) (PlaceView E P)) (k : ℕ) → k < length ends → count_in (collects_at k) me.0 ≡ 0
      → Allows (Kept ends) (length ends) 0 me (suc k) (λ y. y) (collected (step (length ends) (suc k) 0 0 none) me)
  collects_from ends me k lt fresh s h wide at _ =
      let v = me.0 in let row = h.each k lt in let its = h.fits 0 v at in
      let found : ℕ = get_or s.words (suc k) 0 in
      let is : found ≡ row.0 = ap (λ ws. get_or ws (suc k) 0) h.words ∙ word_at h.flags k row.0 row.2 in
      let words : set s.words (suc k) found ≡ h.counter ∷ h.flags = ap (λ ws. set ws (suc k) found) h.words ∙ ap (λ w. h.counter ∷ set h.flags k w) is ∙ ap (λ l. h.counter ∷ l) (set_again h.flags k row.0 row.2) in
      let none_collected : tally (collects_at k) s.views ≡ 0 = total_alone (count_in (collects_at k)) (λ _. 0) s.views 0 v at (λ j u e ne. (h.fits j u e).collects ne k) ∙ fresh in
      dite (ℕ_discrete found 0)
      (λ empty. (
        more v (Miss k),
        keeps,
        tt,
        after ends s h 0 v (Miss k) h.counter h.flags (set s.words (suc k) found) s.homes at words
            (λ j lt_j. let its = h.each j lt_j in
            (its.0, its.1, its.2, its.3, stays_by ends j h.counter h.counter s.views 0 v (Miss k) its.0 its.1 at (λ b. b) (λ b. b) refl refl refl its.4))
            (fits_step ends 0 v (Miss k) its (λ _ _. refl) (λ j. let e = its.earned j in omega arith) (let w = its.within in omega arith) (λ _ _. refl))
            (let e = h.exceeds in omega arith)
            (let e = claims_same (length ends) v (Miss k) refl in omega arith),
        (λ k' e. let same : k ≡ k' = omega arith in ((λ _. ap (λ (j : ℕ). (more v (Miss j), me.1)) same), (λ full. absurd (full empty)))),
      ))
      (λ full. let here = collected_at ends s h 0 v k row.0 row.1 at none_collected (λ e. full (is ∙ e)) row.4 in let p = here.0 in (
        more v (Collect k p),
        takes k (Offered p),
        row.3 ∙ ap some here.1,
        after ends s h 0 v (Collect k p) h.counter h.flags (set s.words (suc k) found) (set s.homes k none) at words
            (λ j lt_j. dite (ℕ_discrete j k)
            (λ e. subst (λ (i : ℕ). (word : ℕ) × (home : maybe.Option (Place E P)) × (get_elem? h.flags i ≡ some word) × (get_elem? (set s.homes k none) i ≡ some home)
            × IsPlace ends i h.counter (set s.views 0 (more v (Collect k p))) word home) (sym e) (row.0, none, row.2, set_at s.homes k none row.1 row.3, here.3))
            (λ ne. let its = h.each j lt_j in (
              its.0,
              its.1,
              its.2,
              set_else s.homes k j none ne ∙ its.3,
              stays_by ends j h.counter h.counter s.views 0 v (Collect k p) its.0 its.1 at (λ b. b) (λ b. b) refl refl (other j k p ne) its.4,
            )))
            (fits_step ends 0 v (Collect k p) its (λ ne _. absurd (ne refl)) (λ j. let e = its.earned j in omega arith) (let w = its.within in omega arith) (λ _ _. refl))
            (let e = h.exceeds in omega arith)
            (let e = claims_same (length ends) v (Collect k p) refl in omega arith),
        (λ k' e. let same : k ≡ k' = omega arith in ((λ empty. absurd (full empty)), (λ _. (p, ap (λ (j : ℕ). (more v (Collect j p), (j, Offered p) ∷ me.1)) same)))),
      ))

  -- the collector looks at a place that it has not collected from
  pub collects : (ends : List E) (n id : ℕ) (me : Me (Place E P) (PlaceView E P)) (k word : ℕ) → n ≡ length ends → id ≡ 0 → word ≡ suc k → k < n → count_in (collects_at k) me.0 ≡ 0
      → Allows (Kept ends) n id me word (λ y. y) (collected (step n word 0 0 none) me)
  collects ends n id me k word count first is = subst (λ (n : ℕ). k < n → count_in (collects_at k) me.0 ≡ 0 → Allows (Kept ends) n id me word (λ y. y) (collected (step n word 0 0 none) me)) (sym count)
      (subst (λ (i : ℕ). k < length ends → count_in (collects_at k) me.0 ≡ 0 → Allows (Kept ends) (length ends) i me word (λ y. y) (collected (step (length ends) word 0 0 none) me)) (sym first)
      (subst (λ (w : ℕ). k < length ends → count_in (collects_at k) me.0 ≡ 0 → Allows (Kept ends) (length ends) 0 me w (λ y. y) (collected (step (length ends) w 0 0 none) me)) (sym is)
      (collects_from ends me k)))

  -- a new seat, which has made no step, gets some of the parts; what stays is enough for the tickets that were drawn
  pub splits : (ends : List E) (id : ℕ) (v : PlaceView E P) (m n : ℕ) → m + n ≡ v.parts → (m ≡ 0 → (k : ℕ) → count_in (ticket_of k) v ≡ 0)
      → ((places : ℕ) → places ≡ length ends → count_in (refusal_of places) v ≤ m) → Splits (Kept ends) id v (with_parts v m) (newcomer v.ends n)
  splits ends id v m n sum undrawn enough s h at =
      let left = with_parts v m in let right : PlaceView E P = newcomer v.ends n in
      let its = h.fits id v at in
      let kept : Fits ends id left = record { knows = its.knows; collects = its.collects; earned = its.earned; within = enough (length ends) refl; idle = undrawn } in
      let added : (o : ℕ) → Fits ends o right = λ o. record { knows = its.knows; collects = λ _ _. refl; earned = λ _. omega arith; within = omega arith; idle = λ _ _. refl } in
      let views : List (PlaceView E P) = set s.views id left ++ right ∷ [] in record {
        counter = h.counter;
        flags = h.flags;
        words = h.words;
        each = λ k lt. let row = h.each k lt in (
          row.0,
          row.1,
          row.2,
          row.3,
          stays ends k h.counter h.counter s.views views row.0 row.1 (λ b. b) (λ b. b)
              (tally_split (ticket_of k) s.views id v m n v.ends at) (tally_split (offers_at k) s.views id v m n v.ends at) (tally_split (collects_at k) s.views id v m n v.ends at)
              (λ p named o u e. ⊎_elim
              (λ t. ⊎_elim (λ r. subst (λ (z : PlaceView E P). AllName k p (steps_of z)) r.1 (named id v at)) (λ r. named o u r.1) (at_set s.views id o left u t))
              (λ is. subst (λ (z : PlaceView E P). AllName k p (steps_of z)) is tt) (at_snoc (set s.views id left) right u o e)) row.4,
        );
        fits = λ o u e. ⊎_elim
            (λ t. ⊎_elim (λ r. subst (λ (z : PlaceView E P). Fits ends o z) r.1 (subst (λ (i : ℕ). Fits ends i left) (sym r.0) kept)) (λ r. h.fits o u r.1) (at_set s.views id o left u t))
            (λ is. subst (λ (z : PlaceView E P). Fits ends o z) is (added o)) (at_snoc (set s.views id left) right u o e);
        exceeds = let same = tally_split (refusal_of (length ends)) s.views id v m n v.ends at in let e = h.exceeds in omega arith;
        seats =
            let one = total-set (claims (length ends)) s.views id v left at in
            let two = total-append (claims (length ends)) (set s.views id left) (right ∷ []) in
            let most = at_most_one (is_some v.ends) in
            let same = length-set s.views id left in
            let more = length-append (set s.views id left) (right ∷ []) in
            let was = h.seats in omega arith;
        parts =
            let one = total-set (λ (u : PlaceView E P). u.parts) s.views id v left at in
            let two = total-append (λ (u : PlaceView E P). u.parts) (set s.views id left) (right ∷ []) in
            let was = h.parts in omega arith;
      }

  gone : (ends : List E) (o : ℕ) → Fits ends o (spent {E = E} {P = P})
  gone ends o = record { knows = tt; collects = λ _ _. refl; earned = λ _. omega arith; within = omega arith; idle = λ _ _. refl }

  -- a seat that takes another in, which has collected nothing, knows what both knew
  pub joins : (ends : List E) (id : ℕ) (v : PlaceView E P) (other : ℕ) (w : PlaceView E P) → ((k : ℕ) → count_in (collects_at k) w ≡ 0) → Joins (Kept ends) id v other w (joined v w) spent
  joins ends id v other w never s h at ne at' =
      let both = joined v w in let views : List (PlaceView E P) = set s.views id both in
      let was : get_elem? s.views other ≡ some w = sym (set_else s.views id other both ne) ∙ at' in
      let mine = h.fits id v at in let its = h.fits other w was in let n = length ends in
      let kept : Fits ends id both = record {
        knows = mine.knows;
        collects = λ z k. let sum = count_joined (collects_at k) v w in let a = mine.collects z k in let b = never k in omega arith;
        earned = λ k. let one = count_joined (offers_at k) v w in let two = count_joined (ticket_of k) v w in let a = mine.earned k in let b = its.earned k in omega arith;
        within = let sum = count_joined (refusal_of n) v w in let a = mine.within in let b = its.within in omega arith;
        idle = λ z k. let sum = count_joined (ticket_of k) v w in let a = mine.idle (omega arith) k in let b = its.idle (omega arith) k in omega arith;
      } in record {
        counter = h.counter;
        flags = h.flags;
        words = h.words;
        each = λ k lt. let row = h.each k lt in (
          row.0,
          row.1,
          row.2,
          row.3,
          stays ends k h.counter h.counter s.views (set views other spent) row.0 row.1 (λ b. b) (λ b. b)
              (tally_join (ticket_of k) s.views id v other w at at') (tally_join (offers_at k) s.views id v other w at at') (tally_join (collects_at k) s.views id v other w at at')
              (λ p named o u e. ⊎_elim
              (λ t. subst (λ (z : PlaceView E P). AllName k p (steps_of z)) t.1 tt)
              (λ t. ⊎_elim
              (λ r. subst (λ (z : PlaceView E P). AllName k p (steps_of z)) r.1 (subst (AllName k p) (sym (steps_joined v w)) (all_name-append k p (steps_of v) (steps_of w) (named id v at) (named other w was))))
              (λ r. named o u r.1) (at_set s.views id o both u t.1))
              (at_set views other o spent u e)) row.4,
        );
        fits = λ o u e. ⊎_elim
            (λ t. subst (λ (z : PlaceView E P). Fits ends o z) t.1 (gone ends o))
            (λ t. ⊎_elim (λ r. subst (λ (z : PlaceView E P). Fits ends o z) r.1 (subst (λ (i : ℕ). Fits ends i both) (sym r.0) kept)) (λ r. h.fits o u r.1) (at_set s.views id o both u t.1))
            (at_set views other o spent u e);
        exceeds = let same = tally_join (refusal_of n) s.views id v other w at at' in let e = h.exceeds in omega arith;
        seats =
            let one = total-set (claims n) s.views id v both at in
            let two = total-set (claims n) views other w spent at' in
            let sum = count_joined (refusal_of n) v w in
            let a = length-set s.views id both in let b = length-set views other spent in
            let e = h.seats in omega arith;
        parts =
            let one = total-set (λ (u : PlaceView E P). u.parts) s.views id v both at in
            let two = total-set (λ (u : PlaceView E P). u.parts) views other w spent at' in
            let e = h.parts in omega arith;
      }

  frees : (ends : List E) (k : ℕ) → k < length ends → (e : E) × (get_elem? ends k ≡ some e) × (get_elem? (map (λ (x : Place E P). some x) (map Free ends)) k ≡ some (some (Free e)))
  frees [] k lt = absurd (omega arith)
  frees (e ∷ es) zero lt = (e, refl, refl)
  frees (e ∷ es) (suc k) lt = frees es k (omega arith)

  -- at the start no ticket was drawn, and all ends are at home
  starts_with : (ends : List E) → Kept {E = E} {P = P} ends (opening (0 ∷ replicate (length ends) 0) (map Free ends) (founder ends))
  starts_with ends = record {
    counter = 0;
    flags = replicate (length ends) 0;
    words = refl;
    each = λ k lt. let its = frees ends k lt in (
      0,
      some (Free its.0),
      zero_at (length ends) k lt,
      its.2,
      record {
        below = λ b. absurd (omega arith);
        above = λ _. refl;
        offers = refl;
        once = omega arith;
        collects = omega arith;
        free = λ _. (its.0, its.1, refl);
        out = λ b. absurd (omega arith);
        carries = λ b. absurd (omega arith);
      },
    );
    fits = λ o v e. first o v e;
    exceeds = omega arith;
    seats = omega arith;
    parts = omega arith;
  }
    where
      zero_at : (n k : ℕ) → k < n → get_elem? {A = ℕ} (replicate n 0) k ≡ some 0
      zero_at zero k lt = absurd (omega arith)
      zero_at (suc n) zero lt = refl
      zero_at (suc n) (suc k) lt = zero_at n k (omega arith)

      first : (o : ℕ) (v : PlaceView E P) → get_elem? (founder ends ∷ []) o ≡ some v → Fits ends o v
      first zero v e = subst (λ (z : PlaceView E P). Fits ends zero z) (some-injective _ _ e) (record { knows = refl; collects = λ _ _. refl; earned = λ _. omega arith; within = omega arith; idle = λ _ _. refl })
      first (suc o) v e = absurd (some-ne-none v (sym e))

  pub starts : (ends : List E) (n : ℕ) (words : List ℕ) (slots : List (Place E P)) → n ≡ length ends → words ≡ 0 ∷ replicate n 0 → slots ≡ map Free ends → Kept ends (opening words slots (founder ends))
  starts ends n words slots count zeros frees = subst (λ (ws : List ℕ). Kept {E = E} {P = P} ends (opening ws slots (founder ends))) (sym (zeros ∙ ap (λ k. 0 ∷ replicate k 0) count))
      (subst (λ (xs : List (Place E P)). Kept ends (opening (0 ∷ replicate (length ends) 0) xs (founder ends))) (sym frees) (starts_with ends))

  pub sized : (ends : List E) (n w k : ℕ) (words : List ℕ) (slots : List (Place E P)) → n ≡ length ends → words ≡ 0 ∷ replicate n 0 → slots ≡ map Free ends → w ≡ length words → k ≡ length slots → n < 4294967296
      → IsSized w k ends × (k ≡ n)
  sized ends n w k words slots count zeros all_free words_are slots_are few =
      let one = ap length zeros in let two : length (replicate {A = ℕ} n 0) ≡ n = length-replicate n 0 in
      let three = ap length all_free in let four : length {A = Place E P} (map Free ends) ≡ length ends = length-map ends _ in ((omega arith, omega arith, omega arith), omega arith)
