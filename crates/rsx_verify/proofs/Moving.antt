-- What the moves of a graph come to for one subscriber.
use Rattle.rsx_verify.specs.Prelude.{Accept, AllHanded, Ask, IsMadeAt, IsMoveMade, IsMoved, IsMovedBy, IsMovedInFeed, LeadTo, Made, Meaning, Move, Pick, Row, Rows, Send, Signal, Stamped, SubId, Subscription, Take, after_moves, any_machine, delivered_by, deliveries, delivery, enabled_at, enabled_inside, feed_move, inner_move, is_enabled, route, tree_nodes}
use Rattle.std.proofs.Common.{◌≡◌, ◌≢◌, ◌⊎◌, ℕ, zero, suc, ◌==◌, Bool, true, false, ◌&&◌, ◌||◌, nat_eq, inl, inr, List, [], ◌∷◌, ◌++◌, Option, Some, None, refl, sym, ap, ◌∙◌, subst}
use Rattle.std.specs.Prelude.{if◌then◌else◌, slice_get, slice_set}
use Rattle.std.specs.Option.{option_to_list}
use Rattle.std.proofs.lemmas.Bool.{cases_eq, eq-eqb, ne_eqb}
use Rattle.std.proofs.lemmas.List.{append-nil}
use Rattle.std.proofs.lemmas.Option.{get_or_from_slice_get, same_Some, slice_get_within}
use Rattle.rsx_types.specs.declared.names.NodeId.{NodeId}
use Rattle.rsx_types.specs.declared.names.Tree.TheVariants.{Sub, Feed as FeedOf}
use Rattle.rsx_types.specs.declared.signal.Signal.TheVariants.{Next, Complete, Error}
use Rattle.rsx_graph_state.specs.Prelude.{changed, History, with_made, with_sent, is_out}
use Rattle.rsx_subscriber.specs.Prelude.{Past, given, delivers, Straight, IsKeptBeside, IsMadeAnswer, IsTake, IsTakeAnswer, take_by, NodeMove}
use Rattle.rsx_subscriber.proofs.Moves.{worked_kept}
use Rattle.rsx_graph_state.proofs.Graphs.{enabled_there}
use Rattle.rsx_tree.proofs.Runs.{leads_lift}
use Rattle.rsx_tree.specs.Runs.{Leads}
use Rattle.rsx_verify.proofs.Progress.{Progress, at, fresh, GoesOn, goes_further}
use Rattle.rsx_verify.proofs.Subscribed.{Fits, IsClean, delivered_comes, fits_kept}

-- ---- lists

pub at_set : {X : Type 0} (xs : List X) (i : ℕ) (x y : X) → slice_get xs i ≡ Some x → slice_get (slice_set xs i y) i ≡ Some y
at_set [] zero x y h = absurd (cc)
at_set [] (suc i) x y h = absurd (cc)
at_set (z ∷ xs) zero x y h = refl
at_set (z ∷ xs) (suc i) x y h = at_set xs i x y h

pub beside_set : {X : Type 0} (xs : List X) (i k : ℕ) (y : X) → (i ≡ k → ⊥) → slice_get (slice_set xs i y) k ≡ slice_get xs k
beside_set [] zero k y ne = refl
beside_set [] (suc i) k y ne = refl
beside_set (z ∷ xs) zero zero y ne = absurd (ne refl)
beside_set (z ∷ xs) zero (suc k) y ne = refl
beside_set (z ∷ xs) (suc i) zero y ne = refl
beside_set (z ∷ xs) (suc i) (suc k) y ne = beside_set xs i k y (λ h. ne (ap suc h))

at_changed : {X : Type 0} (f : X → X) (xs : List X) (i : ℕ) (x : X) → slice_get xs i ≡ Some x → slice_get (changed f xs i) i ≡ Some (f x)
at_changed f [] zero x h = absurd (cc)
at_changed f [] (suc i) x h = absurd (cc)
at_changed f (z ∷ xs) zero x h = ap Some (ap f (same_Some z x h))
at_changed f (z ∷ xs) (suc i) x h = at_changed f xs i x h

beside_changed : {X : Type 0} (f : X → X) (xs : List X) (i k : ℕ) → (i ≡ k → ⊥) → slice_get (changed f xs i) k ≡ slice_get xs k
beside_changed f [] zero k ne = refl
beside_changed f [] (suc i) k ne = refl
beside_changed f (z ∷ xs) zero zero ne = absurd (ne refl)
beside_changed f (z ∷ xs) zero (suc k) ne = refl
beside_changed f (z ∷ xs) (suc i) zero ne = refl
beside_changed f (z ∷ xs) (suc i) (suc k) ne = beside_changed f xs i k (λ h. ne (ap suc h))

-- ---- one move

-- what a move makes of the subscription of this subscriber
abbrev pub IsStep : {T : Type 0} → ℕ → Option (SubId × Signal T) → Subscription T → Subscription T → Type 0
IsStep me None old new = IsKeptBeside old new
IsStep me (Some d) old new = ((d.0.0 ≡ me) × (delivers old.state old.demand old.queue ≡ true) × IsTake old d.1 new) ⊎ ((d.0.0 ≢ me) × IsKeptBeside old new)

-- it isn't delivered to this subscriber
abbrev pub IsElsewhere : {T : Type 0} → ℕ → Option (SubId × Signal T) → Type 0
IsElsewhere me None = Unit {0}
IsElsewhere me (Some d) = d.0.0 ≢ me

-- the same, where there may be none
abbrev pub IsStepOf : {T : Type 0} → ℕ → Option (SubId × Signal T) → Option (Subscription T) → Option (Subscription T) → Type 0
IsStepOf me o None new = (new ≡ None) × IsElsewhere me o
IsStepOf {T = T} me o (Some old) new = (next : Subscription T) × (new ≡ Some next) × IsStep me o old next

same_beside : {T : Type 0} (sub : Subscription T) → IsKeptBeside sub sub
same_beside sub = record { state = refl; live = refl; demand = refl }

-- nothing was delivered, and the subscription stayed
quiet_step : {T : Type 0} (me : ℕ) (old new : Option (Subscription T)) → new ≡ old → IsStepOf {T = T} me None old new
quiet_step me None new same = (same, tt)
quiet_step me (Some old) new same = (old, same, same_beside old)

-- what was delivered was delivered to another
other_step : {T : Type 0} (me : ℕ) (d : SubId × Signal T) (old new : Option (Subscription T)) → d.0.0 ≢ me → new ≡ old → IsStepOf me (Some d) old new
other_step me d None new ne same = (same, ne)
other_step me d (Some old) new ne same = (old, same, inr (ne, same_beside old))

-- a move in the tree of a subscription that delivers nothing
tree_step : {T : Type 0} (m : Meaning T) (me : ℕ) (mv : Move) (i : ℕ) (subs news : List (Subscription T)) → (made : IsMadeAt m mv i subs news None) → IsKeptBeside made.old made.new → IsStepOf {T = T} me None (slice_get subs me) (slice_get news me)
tree_step {T} m me mv i subs news made kept = elim (cases_eq i me) [
  | inl is ↦ (let before : slice_get subs me ≡ Some made.old = ap (λ k. slice_get subs k) (sym is) ∙ made.there in
      let after : slice_get news me ≡ Some made.new = ap (λ l. slice_get l me) made.others ∙ (ap (λ k. slice_get (slice_set subs i made.new) k) (sym is) ∙ at_set subs i made.old made.new made.there) in
      let S : Option (Subscription T) → Type 0 = λ o. IsStepOf {T = T} me None o (slice_get news me) in
      subst S (sym before) (made.new, after, kept))
  | inr ne ↦ quiet_step me (slice_get subs me) (slice_get news me) (ap (λ l. slice_get l me) made.others ∙ beside_set subs i me made.new ne)
]

only_first : (b : Bool) → b || false ≡ true → b ≡ true
only_first true e = refl
only_first false e = cc

-- what the Take of a root hands on the table delivers
delivering : {T : Type 0} (m : Meaning T) (subs : List (Subscription T)) (i : ℕ) (sub : Subscription T) (t : SubId) (n : NodeId) → slice_get subs i ≡ Some sub → nat_eq n.0 0 ≡ true → enabled_at m subs i (Take (Sub t) n) ≡ true → delivers sub.state sub.demand sub.queue ≡ true
delivering {T} m subs i sub t n there root on = only_first (on_table true) (ap whole (sym root) ∙ here)
  where
    on_table : Bool → Bool
    on_table b = b && delivers sub.state sub.demand sub.queue

    whole : Bool → Bool
    whole b = on_table b || enabled_inside m sub (take_by (if b then Straight else route sub.part n.0) n.0)

    here : whole (nat_eq n.0 0) ≡ true
    here = sym (enabled_there any_machine tree_nodes m subs i sub (Take (Sub t) n) (slice_get_within subs i sub there) (get_or_from_slice_get subs i sub sub there)) ∙ on

-- only the Take of a root answers a signal
root_taken : {T : Type 0} (b : Bool) (i : SubId) (d : SubId × Signal T) → IsTakeAnswer b i (Some d) → (b ≡ true) × IsTakeAnswer true i (Some d)
root_taken true i d h = (refl, h)
root_taken false i d h = absurd (cc)

handed_step : {T : Type 0} (me h : ℕ) (s : Signal T) (subs news : List (Subscription T)) → AllHanded h s subs news → IsStepOf {T = T} me None (slice_get subs me) (slice_get news me)
handed_step me h s [] [] all = (refl, tt)
handed_step zero h s (x ∷ subs) (y ∷ news) (first, rest) = (y, refl, first.kept)
handed_step (suc me) h s (x ∷ subs) (y ∷ news) (first, rest) = handed_step me h s subs news rest
handed_step me h s [] (y ∷ news) all = absurd all
handed_step me h s (x ∷ subs) [] all = absurd all

-- a move in the tree of a feed
fed_step : {T : Type 0} (m : Meaning T) (me : ℕ) (step : NodeMove) (b : _) (h : ℕ) (old new : Rows T) → IsMovedBy m step b h old new → IsStepOf {T = T} me None (slice_get old.subs me) (slice_get new.subs me)
fed_step m me step true h old new moved = handed_step me moved.effect.feed.hub moved.effect.signal old.subs new.subs moved.effect.handed
fed_step m me step false h old new moved = quiet_step me (slice_get old.subs me) (slice_get new.subs me) (ap (λ l. slice_get l me) moved.subs)

feed_step : {T : Type 0} (m : Meaning T) (me : ℕ) (o : Option NodeMove) (h : ℕ) (old new : Rows T) → IsMovedInFeed m o h old new → IsStepOf {T = T} me None (slice_get old.subs me) (slice_get new.subs me)
feed_step m me None h old new moved = absurd moved
feed_step m me (Some step) h old new moved = fed_step m me step (is_out step) h old new moved

one_step : {T : Type 0} (m : Meaning T) (me : ℕ) (mv : Move) (o : Option (SubId × Signal T)) (old new : Rows T) → is_enabled m old mv ≡ true → IsMoved m mv old new o → IsMadeAnswer mv o → IsStepOf me o (slice_get old.subs me) (slice_get new.subs me)
one_step m me (Ask (Sub i) n) None old new enabled moved answer = tree_step m me (Ask (Sub i) n) i.0 old.subs new.subs moved.0 (worked_kept any_machine m (inner_move moved.0.old (Ask (Sub i) n)) moved.0.old moved.0.new moved.0.effect)
one_step m me (Send (Sub i) n) None old new enabled moved answer = tree_step m me (Send (Sub i) n) i.0 old.subs new.subs moved.0 (worked_kept any_machine m (inner_move moved.0.old (Send (Sub i) n)) moved.0.old moved.0.new moved.0.effect)
one_step m me (Pick (Sub i) n k) None old new enabled moved answer = tree_step m me (Pick (Sub i) n k) i.0 old.subs new.subs moved.0 (worked_kept any_machine m (inner_move moved.0.old (Pick (Sub i) n k)) moved.0.old moved.0.new moved.0.effect)
one_step m me (Row (Sub i) n) None old new enabled moved answer = tree_step m me (Row (Sub i) n) i.0 old.subs new.subs moved.0 (worked_kept any_machine m (inner_move moved.0.old (Row (Sub i) n)) moved.0.old moved.0.new moved.0.effect)
one_step m me (Ask (FeedOf h) n) None old new enabled moved answer = feed_step m me (feed_move old.feeds h.0 (Ask (FeedOf h) n)) h.0 old new moved
one_step m me (Send (FeedOf h) n) None old new enabled moved answer = feed_step m me (feed_move old.feeds h.0 (Send (FeedOf h) n)) h.0 old new moved
one_step m me (Pick (FeedOf h) n k) None old new enabled moved answer = feed_step m me (feed_move old.feeds h.0 (Pick (FeedOf h) n k)) h.0 old new moved
one_step m me (Row (FeedOf h) n) None old new enabled moved answer = feed_step m me (feed_move old.feeds h.0 (Row (FeedOf h) n)) h.0 old new moved
one_step m me (Ask t n) (Some d) old new enabled moved answer = absurd (cc)
one_step m me (Send t n) (Some d) old new enabled moved answer = absurd (cc)
one_step m me (Pick t n k) (Some d) old new enabled moved answer = absurd (cc)
one_step m me (Row t n) (Some d) old new enabled moved answer = absurd (cc)
one_step m me (Take (FeedOf h) n) None old new enabled moved answer = feed_step m me (feed_move old.feeds h.0 (Take (FeedOf h) n)) h.0 old new moved
one_step m me (Take (FeedOf h) n) (Some d) old new enabled moved answer = absurd (cc)
one_step m me (Take (Sub i) n) None old new enabled moved answer = tree_step m me (Take (Sub i) n) i.0 old.subs new.subs moved.0 (worked_kept any_machine m (inner_move moved.0.old (Take (Sub i) n)) moved.0.old moved.0.new moved.0.effect)
one_step {T} m me (Take (Sub i) n) (Some d) old new enabled moved answer =
    let root = root_taken (nat_eq n.0 0) i d answer in
    let here : d.0.0 ≡ i.0 = ap (λ x. x.0.0) (same_Some d (i, root.1.0) root.1.1) in
    let made = moved.0 in
    elim (cases_eq i.0 me) [
      | inl is ↦ (let before : slice_get old.subs me ≡ Some made.old = ap (λ k. slice_get old.subs k) (sym is) ∙ made.there in
          let after : slice_get new.subs me ≡ Some made.new = ap (λ l. slice_get l me) made.others ∙ (ap (λ k. slice_get (slice_set old.subs i.0 made.new) k) (sym is) ∙ at_set old.subs i.0 made.old made.new made.there) in
          let S : Option (Subscription T) → Type 0 = λ x. IsStepOf me (Some d) x (slice_get new.subs me) in
          subst S (sym before) (made.new, after, inl (here ∙ is, delivering m old.subs i.0 made.old i n made.there root.0 enabled, made.effect)))
      | inr ne ↦ other_step me d (slice_get old.subs me) (slice_get new.subs me) (λ h. ne (sym here ∙ h)) (ap (λ l. slice_get l me) made.others ∙ beside_set old.subs i.0 me made.new ne)
    ]
one_step m me (Accept h) None old new enabled moved answer = handed_step me h.0 moved.effect.signal old.subs new.subs moved.effect.handed
one_step m me (Accept h) (Some d) old new enabled moved answer = absurd (cc)

-- ---- moves one after the other

abbrev pub Steps : {T : Type 0} → ℕ → List (Made T) → Option (Subscription T) → Option (Subscription T) → Type 0
Steps {T} me moves old new = Leads (λ (x : Option (Subscription T)) (d : Made T) (y : Option (Subscription T)). IsStepOf me d.delivered x y) old moves new

pub lead_steps : {T : Type 0} (m : Meaning T) (me : ℕ) (moves : List (Made T)) (old new : Rows T) → LeadTo m old moves new → Steps me moves (slice_get old.subs me) (slice_get new.subs me)
lead_steps {T} m me moves old new lead =
    leads_lift (IsMoveMade m) (λ (x : Option (Subscription T)) (d : Made T) (y : Option (Subscription T)). IsStepOf me d.delivered x y) (λ (g : Rows T). slice_get g.subs me) (λ a b d made. one_step m me d.move d.delivered a b made.enabled made.effect made.answer) old new moves lead

-- ---- what is recorded of them

-- the signals that were delivered to this subscriber
abbrev pub to : {T : Type 0} → ℕ → List (SubId × Signal T) → List (Signal T)
to me [] = []
to me (d ∷ ds) = if d.0.0 == me then d.1 ∷ to me ds else to me ds

pub to_me : {T : Type 0} (me : ℕ) (d : SubId × Signal T) (ds : List (SubId × Signal T)) → d.0.0 ≡ me → to me (d ∷ ds) ≡ d.1 ∷ to me ds
to_me me d ds is = ap (λ b. if b then d.1 ∷ to me ds else to me ds) (ap (λ k. k == me) is ∙ eq-eqb me me refl)

pub to_other : {T : Type 0} (me : ℕ) (d : SubId × Signal T) (ds : List (SubId × Signal T)) → d.0.0 ≢ me → to me (d ∷ ds) ≡ to me ds
to_other me d ds ne = ap (λ b. if b then d.1 ∷ to me ds else to me ds) (ne_eqb d.0.0 me ne)

-- where a subscriber stands in the events, if there is one
abbrev pub FitsAt : {T : Type 0} → Progress → Option (Subscription T) → Type 0
FitsAt p None = p ≡ at fresh 0 0
FitsAt p (Some sub) = Fits p sub

abbrev pub ComesAt : {T : Type 0} → ℕ → Progress → List Stamped → Option (Subscription T) → Type 0
ComesAt me p t o = (q : Progress) × GoesOn me p t q × FitsAt q o

-- a delivery to another
pub other_delivery : {T : Type 0} (w me : ℕ) (p : Progress) (d : SubId × Signal T) → d.0.0 ≢ me → GoesOn me p (delivery w d) p
other_delivery w me p (i, Next x) ne = inr (ne, inr (ne, refl))
other_delivery w me p (i, Complete) ne = inr (ne, inr (ne, refl))
other_delivery w me p (i, Error c) ne = inr (ne, inr (ne, refl))

step_comes : {T : Type 0} (w me : ℕ) (p : Progress) (o : Option (SubId × Signal T)) (old new : Option (Subscription T)) → IsStepOf me o old new → FitsAt p old → IsClean (to me (option_to_list o)) → ComesAt me p (deliveries w (option_to_list o)) new
step_comes {T} w me p None None new (same, e) fits clean = (p, refl, subst (λ (x : Option (Subscription T)). FitsAt p x) (sym same) fits)
step_comes {T} w me p (Some d) None new (same, ne) fits clean = (p, subst (λ (l : List Stamped). GoesOn me p l p) (sym (append-nil (delivery w d))) (other_delivery w me p d ne), subst (λ (x : Option (Subscription T)). FitsAt p x) (sym same) fits)
step_comes {T} w me p None (Some old) new (next, same, kept) fits clean = (p, refl, subst (λ (x : Option (Subscription T)). FitsAt p x) (sym same) (fits_kept p old next kept fits))
step_comes {T} w me p (Some d) (Some old) new (next, same, inl (own, del, take)) fits clean =
    let C : List (Signal T) → Type 0 = λ l. IsClean l in
    let come = delivered_comes w me p d.0.0 d.1 old next own del take fits (subst C (to_me me d [] own) clean) in
    (come.last, subst (λ (l : List Stamped). GoesOn me p l come.last) (sym (append-nil (delivery w d))) come.goes, subst (λ (x : Option (Subscription T)). FitsAt come.last x) (sym same) come.fits)
step_comes {T} w me p (Some d) (Some old) new (next, same, inr (ne, kept)) fits clean =
    (p, subst (λ (l : List Stamped). GoesOn me p l p) (sym (append-nil (delivery w d))) (other_delivery w me p d ne), subst (λ (x : Option (Subscription T)). FitsAt p x) (sym same) (fits_kept p old next kept fits))

deliveries_on : {T : Type 0} (w : ℕ) (o : Option (SubId × Signal T)) (ds : List (SubId × Signal T)) → deliveries w (option_to_list o ++ ds) ≡ deliveries w (option_to_list o) ++ deliveries w ds
deliveries_on w None ds = refl
deliveries_on w (Some d) ds = ap (λ l. l ++ deliveries w ds) (sym (append-nil (delivery w d)))

pub clean_parts : {T : Type 0} (xs ys : List (Signal T)) → IsClean (xs ++ ys) → IsClean xs × IsClean ys
clean_parts [] ys c = (tt, c)
clean_parts (Next x ∷ xs) ys c = clean_parts xs ys c
clean_parts (Complete ∷ xs) ys c = clean_parts xs ys c
clean_parts (Error e ∷ xs) ys c = let rest = clean_parts xs ys c.1 in ((c.0, rest.0), rest.1)

pub to_on : {T : Type 0} (me : ℕ) (xs ys : List (SubId × Signal T)) → to me (xs ++ ys) ≡ to me xs ++ to me ys
to_on me [] ys = refl
to_on me (d ∷ xs) ys = elim (cases_eq d.0.0 me) [
  | inl is ↦ to_me me d (xs ++ ys) is ∙ (ap (λ l. d.1 ∷ l) (to_on me xs ys) ∙ sym (ap (λ l. l ++ to me ys) (to_me me d xs is)))
  | inr ne ↦ to_other me d (xs ++ ys) ne ∙ (to_on me xs ys ∙ sym (ap (λ l. l ++ to me ys) (to_other me d xs ne)))
]

pub steps_come : {T : Type 0} (w me : ℕ) (p : Progress) (moves : List (Made T)) (old new : Option (Subscription T)) → Steps me moves old new → FitsAt p old → IsClean (to me (delivered_by moves)) → ComesAt me p (deliveries w (delivered_by moves)) new
steps_come {T} w me p [] old new same fits clean = (p, refl, subst (λ (x : Option (Subscription T)). FitsAt p x) (sym same) fits)
steps_come {T} w me p (d ∷ ds) old new (mid, step, rest) fits clean =
    let C : List (Signal T) → Type 0 = λ l. IsClean l in
    let parts = clean_parts (to me (option_to_list d.delivered)) (to me (delivered_by ds)) (subst C (to_on me (option_to_list d.delivered) (delivered_by ds)) clean) in
    let first = step_comes w me p d.delivered old mid step fits parts.0 in
    let more = steps_come w me first.0 ds mid new rest first.2 parts.1 in (
      more.0,
      subst (λ (l : List Stamped). GoesOn me p l more.0) (sym (deliveries_on w d.delivered (delivered_by ds))) (goes_further me p first.0 more.0 (deliveries w (option_to_list d.delivered)) (deliveries w (delivered_by ds)) first.1 more.1),
      more.2,
    )

-- ---- what has happened by them

-- a subscriber's past with what was delivered
abbrev pub after_given : {T : Type 0} → List (Signal T) → Past T → Past T
after_given [] p = p
after_given (s ∷ ss) p = after_given ss (given s p)

given_on : {T : Type 0} (xs ys : List (Signal T)) (p : Past T) → after_given (xs ++ ys) p ≡ after_given ys (after_given xs p)
given_on [] ys p = refl
given_on (x ∷ xs) ys p = given_on xs ys (given x p)

delivered_past : {T : Type 0} (me : ℕ) (d : SubId × Signal T) (pasts : List (Past T)) (p : Past T) → slice_get pasts me ≡ Some p → slice_get (changed (given d.1) pasts d.0.0) me ≡ Some (after_given (to me (d ∷ [])) p)
delivered_past me d pasts p there = elim (cases_eq d.0.0 me) [
  | inl is ↦ (ap (λ k. slice_get (changed (given d.1) pasts k) me) is ∙ at_changed (given d.1) pasts me p there) ∙ ap (λ l. Some (after_given l p)) (sym (to_me me d [] is))
  | inr ne ↦ (beside_changed (given d.1) pasts d.0.0 me ne ∙ there) ∙ ap (λ l. Some (after_given l p)) (sym (to_other me d [] ne))
]

sent_past : {T : Type 0} (me : ℕ) (s : Option (Signal T)) (i : ℕ) (h : History T) → slice_get (with_sent s i h).pasts me ≡ slice_get h.pasts me
sent_past me None i h = refl
sent_past me (Some s) i h = refl

made_past : {T : Type 0} (me : ℕ) (mv : Move) (o : Option (SubId × Signal T)) (s : Option (Signal T)) (h : History T) (p : Past T) → IsMadeAnswer mv o → slice_get h.pasts me ≡ Some p → slice_get (with_made mv o s h).pasts me ≡ Some (after_given (to me (option_to_list o)) p)
made_past me (Ask (Sub i) n) None s h p answer there = there
made_past me (Send (Sub i) n) None s h p answer there = there
made_past me (Pick (Sub i) n k) None s h p answer there = there
made_past me (Row (Sub i) n) None s h p answer there = there
made_past me (Ask (FeedOf i) n) None s h p answer there = sent_past me s i.0 h ∙ there
made_past me (Send (FeedOf i) n) None s h p answer there = sent_past me s i.0 h ∙ there
made_past me (Pick (FeedOf i) n k) None s h p answer there = sent_past me s i.0 h ∙ there
made_past me (Row (FeedOf i) n) None s h p answer there = sent_past me s i.0 h ∙ there
made_past me (Ask t n) (Some d) s h p answer there = absurd (cc)
made_past me (Send t n) (Some d) s h p answer there = absurd (cc)
made_past me (Pick t n k) (Some d) s h p answer there = absurd (cc)
made_past me (Row t n) (Some d) s h p answer there = absurd (cc)
made_past me (Take (FeedOf i) n) None s h p answer there = sent_past me s i.0 h ∙ there
made_past me (Take (FeedOf i) n) (Some d) s h p answer there = absurd (cc)
made_past me (Take (Sub i) n) None s h p answer there = there
made_past me (Take (Sub i) n) (Some d) s h p answer there = delivered_past me d h.pasts p there
made_past me (Accept i) None s h p answer there = there
made_past me (Accept i) (Some d) s h p answer there = absurd (cc)

pub moves_past : {T : Type 0} (m : Meaning T) (me : ℕ) (moves : List (Made T)) (old new : Rows T) (h : History T) (p : Past T) → LeadTo m old moves new → slice_get h.pasts me ≡ Some p → slice_get (after_moves h moves).pasts me ≡ Some (after_given (to me (delivered_by moves)) p)
moves_past m me [] old new h p same there = there
moves_past m me (d ∷ ds) old new h p (mid, made, lead) there =
    let first = made_past me d.move d.delivered d.fed h p made.answer there in
    let rest = moves_past m me ds mid new (with_made d.move d.delivered d.fed h) (after_given (to me (option_to_list d.delivered)) p) lead first in
    rest ∙ ap Some (sym (given_on (to me (option_to_list d.delivered)) (to me (delivered_by ds)) p) ∙ ap (λ l. after_given l p) (sym (to_on me (option_to_list d.delivered) (delivered_by ds))))
