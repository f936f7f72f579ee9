-- Subscriptions that are idle stay so until a move or a request wakes them.
use Rattle.rsx_sources.specs.declared.machine.Machine.{Ghosts as Machine}
use Rattle.rsx_rooted.specs.declared.nodes.Nodes.{Ghosts as Nodes}
use Rattle.std.proofs.Common.{◌≡◌, ℕ, zero, suc, ◌+◌, ◌<◌, ◌≤◌, ◌⊎◌, inl, inr, List, [], ◌∷◌, ◌++◌, length, slice_get, set, map, replicate, Option, Some, Result, Ok, Err, ap, sym, ◌∙◌, subst, refl, arith}
use Rattle.std.specs.Prelude.{◌↔◌, ℤ, IfOk, OnOk, OnErr}
use Rattle.std.proofs.lemmas.Bool.{cases_eq, cases_lt}
use Rattle.rsx_types.specs.Meaning.{Meaning}
use Rattle.rsx_sources.specs.Prelude.{Move, Ask, Send, Take, Pick, Row, Accept, SubId, Tree, Sub, Feed as FeedOf, Signal}
use Rattle.rsx_subscriber.specs.Pumped.{IsQuiet}
use Rattle.rsx_subscriber.specs.declared.subscription.Subscription.{Subscription}
use Rattle.rsx_graph_state.specs.Pumped.{AreQuiet}
use Rattle.rsx_graph_state.specs.Prelude.{Rows}
use Rattle.rsx_graph_state.specs.Subscriptions.{IsCancelledAt, IsRequestedAt}
use Rattle.rsx_graph_state.specs.declared.refusal.Refusal.{Refusal}
use Rattle.rsx_subscriber.specs.Delivered.{Delivered}
use Rattle.rsx_graph_moves.specs.Many.{IsMadeTimes}
use Rattle.rsx_graph_moves.specs.Moves.{IsMoved, IsMovedInTree}
use Rattle.rsx_graph_moves.specs.Pumped.{LeadTo, Made}
use Rattle.rsx_graph_moves.specs.IdleSet.{IsApart, IsEmpty, IsIn, IsLess, IsStirred, IsStirredIn}
use Rattle.rsx_graph_moves.specs.Resting.{AreIdle}
use Rattle.rsx_graph_moves.specs.declared.idle_set.IdleSet.{IdleSet}
use Rattle.rsx_graph_state.specs.declared.subscription_set.TheConstants.{MOST_IN_SET}
use Rattle.rsx_graph_moves.proofs.IdleSets.{set_other, set_same}

-- ---- a list with one element more

push_other : {A : Type 0} (xs : List A) (i : ℕ) (x y : A) → (i ≡ length xs → ⊥) → slice_get (xs ++ x ∷ []) i ≡ Some y → slice_get xs i ≡ Some y
push_other [] zero x y ne e = absurd (ne refl)
push_other [] (suc i) x y ne e = cc
push_other (z ∷ xs) zero x y ne e = e
push_other (z ∷ xs) (suc i) x y ne e = push_other xs i x y (λ same. ne (ap suc same)) e

-- ---- sets of idle subscriptions

pub none_idle : {M T : Type 0} (mc : Machine M T) (m : Meaning T) (idle : IdleSet) (subs : List (Subscription M T)) → IsEmpty idle → AreIdle mc m idle subs
unfolding AreIdle
none_idle mc m idle subs empty i within = absurd (empty i within)

-- one that isn't among them changed
pub changed_idle : {M T : Type 0} (mc : Machine M T) (m : Meaning T) (idle : IdleSet) (subs : List (Subscription M T)) (k : ℕ) (new : Subscription M T) → (IsIn idle k → ⊥) → AreIdle mc m idle subs → AreIdle mc m idle (set subs k new)
unfolding AreIdle
changed_idle mc m idle subs k new out h i within s e =
    h i within s (set_other subs k i new s (λ same. out (let P : ℕ → Type 0 = λ n. IsIn idle n in subst P same within)) e)

-- one that no move of is enabled is one of them, of which nothing is known
pub rested_idle : {M T : Type 0} (mc : Machine M T) (m : Meaning T) (idle more : IdleSet) (subs : List (Subscription M T)) (k : ℕ) (new : Subscription M T) (Q : ℕ → Type 0) → ((i : ℕ) → IsIn more i ↔ (IsIn idle i ⊎ ((i ≡ k) × Q i))) → ((h i : ℕ) → IsApart more h i → IsApart idle h i × (i ≡ k → ⊥)) → IsQuiet mc m new → AreIdle mc m idle subs → AreIdle mc m more (set subs k new)
unfolding AreIdle
rested_idle {M} {T} mc m idle more subs k new Q put apart quiet h i within s e = elim (cases_eq i k) [
  | inl same ↦
      let P : ℕ → Type 0 = λ n. slice_get (set subs k new) n ≡ Some s in
      let R : Subscription M T → Type 0 = λ t. IsQuiet mc m t in
      (subst R (set_same subs k new s (subst P same e)) quiet, λ hub known. absurd ((apart hub i known).1 same))
  | inr other ↦ elim ((put i).0 within) [
    | inl old ↦ let was = h i old s (set_other subs k i new s other e) in (was.0, λ hub known. was.1 hub (apart hub i known).0)
    | inr fresh ↦ absurd (other fresh.0)
  ]
]

-- ---- going on from one to the next

-- those in between are among them
pub quiet_between : {M T : Type 0} (mc : Machine M T) (m : Meaning T) (idle : IdleSet) (subs : List (Subscription M T)) (i n : ℕ) → AreIdle mc m idle subs → AreQuiet mc m subs i → ((j : ℕ) → i ≤ j → j < n → IsIn idle j) → AreQuiet mc m subs n
unfolding AreIdle
quiet_between mc m idle subs i n h quiet between j l s e = elim (cases_lt j i) [ inl low ↦ quiet j low s e | inr high ↦ (h j (between j high l) s e).0 ]

-- where all below one that came to rest are among them, so are all below the next that isn't
pub known_on : (old new : IdleSet) (at next : ℕ) → ((i : ℕ) → i < at → i < MOST_IN_SET → IsIn old i) → ((i : ℕ) → IsIn old i → IsIn new i) → (at < MOST_IN_SET → IsIn new at) → ((i : ℕ) → at + 1 ≤ i → i < next → IsIn new i) → (i : ℕ) → i < next → i < MOST_IN_SET → IsIn new i
known_on old new at next known kept here between i lt small = elim (cases_lt i at) [
  | inl low ↦ kept i (known i low small)
  | inr high ↦ elim (cases_eq i at) [
    | inl same ↦ let P : ℕ → Type 0 = λ n. n < MOST_IN_SET → IsIn new n in subst P (sym same) here small
    | inr other ↦ between i (omega (arith, high, other)) lt
  ]
]

-- ---- what wakes one of them

-- one changed, which is no longer one of them
pub left_idle : {M T : Type 0} (mc : Machine M T) (m : Meaning T) (idle less : IdleSet) (subs news : List (Subscription M T)) (k : ℕ) (new : Subscription M T) → IsLess (λ i. i ≡ k) idle less → news ≡ set subs k new → AreIdle mc m idle subs → AreIdle mc m less news
unfolding AreIdle
left_idle {M} {T} mc m idle less subs news k new out others h i within s e =
    let kept = (out.idle i).0 within in
    let P : List (Subscription M T) → Type 0 = λ l. slice_get l i ≡ Some s in
    let was = h i kept.0 s (set_other subs k i new s kept.1 (subst P others e)) in
    (was.0, λ hub known. was.1 hub (out.apart hub i known))

-- fewer of them, of which no more is known, and nothing changed
pub fewer_idle : {M T : Type 0} (mc : Machine M T) (m : Meaning T) (idle less : IdleSet) (subs news : List (Subscription M T)) → ((i : ℕ) → IsIn less i → IsIn idle i) → ((h i : ℕ) → IsApart less h i → IsApart idle h i) → news ≡ subs → AreIdle mc m idle subs → AreIdle mc m less news
unfolding AreIdle
fewer_idle {M} {T} mc m idle less subs news out apart same h i within s e =
    let P : List (Subscription M T) → Type 0 = λ l. slice_get l i ≡ Some s in
    let was = h i (out i within) s (subst P same e) in
    (was.0, λ hub known. was.1 hub (apart hub i known))

-- one more stands behind the others, and isn't one of them
pub pushed_idle : {M T : Type 0} (mc : Machine M T) (m : Meaning T) (idle less : IdleSet) (subs news : List (Subscription M T)) (k : ℕ) (new : Subscription M T) → IsLess (λ i. i ≡ k) idle less → k ≡ length subs → news ≡ subs ++ new ∷ [] → AreIdle mc m idle subs → AreIdle mc m less news
unfolding AreIdle
pushed_idle {M} {T} mc m idle less subs news k new out last others h i within s e =
    let kept = (out.idle i).0 within in
    let P : List (Subscription M T) → Type 0 = λ l. slice_get l i ≡ Some s in
    let was = h i kept.0 s (push_other subs i new s (λ same. kept.1 (same ∙ sym last)) (subst P others e)) in
    (was.0, λ hub known. was.1 hub (out.apart hub i known))

-- ---- a move

-- the set without those that a move may wake
abbrev pub IsWoken : Move → IdleSet → IdleSet → Type 0
IsWoken step idle less = IsLess (IsStirred step) idle less

tree_idle : {M T : Type 0} (mc : Machine M T) (kd : Nodes M T) (m : Meaning T) (mv : Move) (t : Tree) (idle less : IdleSet) (old new : Rows M T) (o : Option (SubId × Signal T)) → IsLess (IsStirredIn t) idle less → IsMovedInTree mc kd m mv t old new o → AreIdle mc m idle old.subs → AreIdle mc m less new.subs
tree_idle mc kd m mv (Sub sub) idle less old new o out moved h = let k = moved.0 in left_idle mc m idle less old.subs new.subs sub.0 k.new (record { idle = out.idle; apart = out.apart }) k.others h
tree_idle mc kd m mv (FeedOf hub) idle less old new o out moved h = none_idle mc m less new.subs (λ i within. ((out.idle i).0 within).1 tt)

pub moved_idle : {M T : Type 0} (mc : Machine M T) (kd : Nodes M T) (m : Meaning T) (mv : Move) (idle less : IdleSet) (old new : Rows M T) (o : Option (SubId × Signal T)) → IsWoken mv idle less → IsMoved mc kd m mv old new o → AreIdle mc m idle old.subs → AreIdle mc m less new.subs
moved_idle mc kd m (Ask t n) idle less old new o out moved h = tree_idle mc kd m (Ask t n) t idle less old new o (record { idle = out.idle; apart = out.apart }) moved h
moved_idle mc kd m (Send t n) idle less old new o out moved h = tree_idle mc kd m (Send t n) t idle less old new o (record { idle = out.idle; apart = out.apart }) moved h
moved_idle mc kd m (Take t n) idle less old new o out moved h = tree_idle mc kd m (Take t n) t idle less old new o (record { idle = out.idle; apart = out.apart }) moved h
moved_idle mc kd m (Pick t n k) idle less old new o out moved h = tree_idle mc kd m (Pick t n k) t idle less old new o (record { idle = out.idle; apart = out.apart }) moved h
moved_idle mc kd m (Row t n) idle less old new o out moved h = tree_idle mc kd m (Row t n) t idle less old new o (record { idle = out.idle; apart = out.apart }) moved h
moved_idle mc kd m (Accept hub) idle less old new o out moved h = none_idle mc m less new.subs (λ i within. ((out.idle i).0 within).1 tt)

-- the answer of a move that was tried
pub made_idle : {M T : Type 0} (mc : Machine M T) (kd : Nodes M T) (m : Meaning T) (mv : Move) (idle less : IdleSet) (old new : Rows M T) (r : Result (Option (SubId × Signal T)) Refusal) → IsWoken mv idle less → IfOk r (λ o. IsMoved mc kd m mv old new o) → OnErr r ((new.hubs ≡ old.hubs) × (new.feeds ≡ old.feeds) × (new.subs ≡ old.subs)) →
    AreIdle mc m idle old.subs → AreIdle mc m less new.subs
made_idle mc kd m mv idle less old new (Ok o) out moved same h = moved_idle mc kd m mv idle less old new o out moved h
made_idle mc kd m mv idle less old new (Err e) out moved same h = fewer_idle mc m idle less old.subs new.subs (λ i within. ((out.idle i).0 within).0) out.apart same.2 h

-- one that is made many times wakes no more than one that is made once
lead_idle : {M T : Type 0} (mc : Machine M T) (kd : Nodes M T) (m : Meaning T) (mv : Move) (idle : IdleSet) (moves : List (Made T)) (k : ℕ) (old new : Rows M T) → IsWoken mv idle idle → map (λ d. d.move) moves ≡ replicate k mv → LeadTo mc kd m old moves new → AreIdle mc m idle old.subs → AreIdle mc m idle new.subs
lead_idle {M} {T} mc kd m mv idle [] k old new out named lead h = let P : Rows M T → Type 0 = λ g. AreIdle mc m idle g.subs in subst P (sym lead) h
lead_idle mc kd m mv idle (d ∷ ds) zero old new out named lead h = cc
lead_idle {M} {T} mc kd m mv idle (d ∷ ds) (suc k) old new out named lead h =
    let same : d.move ≡ mv = cc in
    let rest : map (λ x. x.move) ds ≡ replicate k mv = cc in
    let P : Move → Type 0 = λ v. IsMoved mc kd m v old lead.0 d.delivered in
    lead_idle mc kd m mv idle ds k lead.0 new out rest lead.2 (moved_idle mc kd m mv idle idle old lead.0 d.delivered out (subst P same lead.1.effect) h)

pub times_idle : {M T : Type 0} (mc : Machine M T) (kd : Nodes M T) (m : Meaning T) (mv : Move) (idle less : IdleSet) (old new : Rows M T) (before after : Delivered T) (r : Result ℕ Refusal) → IsWoken mv idle less → IfOk r (λ k. IsMadeTimes mc kd m mv k old before new after) → OnErr r ((new.hubs ≡ old.hubs) × (new.feeds ≡ old.feeds) × (new.subs ≡ old.subs) × (after ≡ before)) →
    AreIdle mc m idle old.subs → AreIdle mc m less new.subs
times_idle mc kd m mv idle less old new before after (Ok k) out made same h =
    let again : IsWoken mv less less = record { idle = λ i. (λ within. (within, ((out.idle i).0 within).1), λ both. both.0); apart = λ hub i known. known } in
    lead_idle mc kd m mv less made.moves k old new again made.named made.made.lead (fewer_idle mc m idle less old.subs old.subs (λ i within. ((out.idle i).0 within).0) out.apart refl h)
times_idle mc kd m mv idle less old new before after (Err e) out made same h = fewer_idle mc m idle less old.subs new.subs (λ i within. ((out.idle i).0 within).0) out.apart same.2 h

-- ---- what a subscriber does

-- the set without one of them
abbrev pub IsWithout : ℕ → IdleSet → IdleSet → Type 0
IsWithout k idle less = IsLess (λ i. i ≡ k) idle less

pub cancelled_idle : {M T : Type 0} (mc : Machine M T) (m : Meaning T) (k : ℕ) (idle less : IdleSet) (old new : List (Subscription M T)) (r : Result (Unit {0}) Refusal) → IsWithout k idle less → OnOk r (IsCancelledAt mc k old new) → OnErr r (new ≡ old) → AreIdle mc m idle old → AreIdle mc m less new
cancelled_idle mc m k idle less old new (Ok u) out effect same h = left_idle mc m idle less old new k effect.new out effect.others h
cancelled_idle mc m k idle less old new (Err e) out effect same h = fewer_idle mc m idle less old new (λ i within. ((out.idle i).0 within).0) out.apart same h

pub requested_idle : {M T : Type 0} (mc : Machine M T) (m : Meaning T) (k : ℕ) (n : ℤ) (idle less : IdleSet) (old new : List (Subscription M T)) (r : Result (Option (Signal T)) Refusal) → IsWithout k idle less → IfOk r (λ o. IsRequestedAt mc k n old new o) → OnErr r (new ≡ old) → AreIdle mc m idle old → AreIdle mc m less new
requested_idle mc m k n idle less old new (Ok o) out effect same h = left_idle mc m idle less old new k effect.new out effect.others h
requested_idle mc m k n idle less old new (Err e) out effect same h = fewer_idle mc m idle less old new (λ i within. ((out.idle i).0 within).0) out.apart same h
