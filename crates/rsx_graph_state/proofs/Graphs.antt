-- How the subscriptions of a graph stand together.
use Rattle.rsx_sources.specs.declared.machine.Machine.{Ghosts as Machine}
use Rattle.rsx_rooted.specs.declared.nodes.Nodes.{Ghosts as Nodes}
use Rattle.std.proofs.Common.{◌≡◌, ℕ, ℤ, pos, negsuc, zero, suc, ◌+◌, ◌-◌, ◌<◌, ◌≤◌, List, [], ◌∷◌, ◌++◌, length, get_or, slice_get, refl, ap, sym, ◌∙◌, subst, arith, append_assoc, map, Option, Some, Ok, Bool, true, false, ◌||◌, nat_eq, if◌then◌else◌, inl, inr}
use Rattle.std.proofs.lemmas.List.{append-nil}
use Rattle.std.specs.Option.{option_to_list}
use Rattle.std.proofs.Math.ListN.{set}
use Rattle.std.proofs.lemmas.Bool.Decides.{nat_tests}
use Rattle.rsx_sources.specs.Prelude.{Meaning, Allocates, unchosen, Stream, signals_then, ended_by, Move, SubId, Tree, Sub, Feed, Open as NotEnded, Signal}
use Rattle.rsx_pipe.specs.Part as Part
use Rattle.rsx_subscriber.specs.Prelude.{NodeMove, notes_of, IsNumbered, delivery, tree_of, Past, given, requested, requested_in, IsPumped, IsMoved, IsQuiet, IsAwake, HasRested, given_all, to}
use Rattle.rsx_rooted.specs.declared.rooted.Pumped.{Pumped as Rest}
use Rattle.rsx_rooted.specs.declared.rooted.Pumped.TheVariants.{Idle as Rests, Budget as Wakes}
use Rattle.rsx_pipe.proofs.Signals.{some_same}
use Rattle.rsx_tree.proofs.Alike.{or_left, or_right}
use Rattle.rsx_subscriber.specs.Stands.{make_allocates, Stands, move_enabled_in, evaluated, owed_from, owes_in, standing_of, values_then}
use Rattle.rsx_subscriber.specs.declared.state.SubscriptionState.{SubscriptionState}
use Rattle.rsx_subscriber.specs.declared.state.SubscriptionState.TheVariants.{Open, Ended, Cancelled, Refused}
use Rattle.rsx_subscriber.specs.declared.subscription.Subscription.{Subscription}
use Rattle.rsx_subscriber.proofs.Moves.{delivery_enabled, part_name, part_named}
use Rattle.rsx_tree.proofs.Runs.{gives_none, gives_on, leads_lift}
use Rattle.rsx_tree.specs.Runs.{Leads}
use Rattle.rsx_subscriber.proofs.Sentence.{owes}
use Rattle.rsx_subscriber.proofs.Serving.{quiet_move}
use Rattle.rsx_graph_state.specs.Answers.{changed, pasts_after, HasAsked, state_at}
use Rattle.rsx_graph_state.specs.Pumped.{AllPumped, IsSubMoveMade, AreQuiet, HasRestedAt, IsSubAwake}
use Rattle.rsx_graph_state.specs.Subscriptions.{AllStand, pump_allocates, allocates_at, IsMade, enabled_in_tree, enabled_at, OwedAt}

pub AllStand-push : {M T : Type 0} (mc : Machine M T) (m : Meaning T) (published : List (Stream T)) (subs : List (Subscription M T)) (pasts : List (Past T)) (s : Subscription M T) (p : Past T) → Stands mc m published s p → AllStand mc m published subs pasts → AllStand mc m published (subs ++ s ∷ []) (pasts ++ p ∷ [])
AllStand-push mc m published [] [] s p k h = (k, tt)
AllStand-push mc m published (t ∷ subs) (q ∷ pasts) s p k h = (h.0, AllStand-push mc m published subs pasts s p k h.1)
AllStand-push mc m published [] (q ∷ pasts) s p k h = absurd h
AllStand-push mc m published (t ∷ subs) [] s p k h = absurd h

-- one subscription moved, and its past grew as it should
pub AllStand-set : {M T : Type 0} (mc : Machine M T) (m : Meaning T) (published : List (Stream T)) (f : Past T → Past T) (subs : List (Subscription M T)) (pasts : List (Past T)) (i : ℕ) (old new : Subscription M T) → i < length subs → get_or subs i old ≡ old → ((p : Past T) → Stands mc m published old p → Stands mc m published new (f p)) → AllStand mc m published subs pasts → AllStand mc m published (set subs i new) (changed f pasts i)
AllStand-set mc m published f [] pasts i old new lt e k h = absurd (omega arith)
AllStand-set mc m published f (s ∷ subs) [] i old new lt e k h = absurd h
AllStand-set {M} {T} mc m published f (s ∷ subs) (p ∷ pasts) zero old new lt e k h = let P : Subscription M T → Type 0 = λ t. Stands mc m published t p in (k p (subst P e h.0), h.1)
AllStand-set mc m published f (s ∷ subs) (p ∷ pasts) (suc i) old new lt e k h = (h.0, AllStand-set mc m published f subs pasts i old new (omega arith) e k h.1)

pub changed_same : {A : Type 0} (xs : List A) (i : ℕ) → changed (λ x. x) xs i ≡ xs
changed_same [] i = refl
changed_same (x ∷ xs) zero = refl
changed_same (x ∷ xs) (suc i) = ap (λ l. x ∷ l) (changed_same xs i)

-- one subscription moved, and no past grew
pub AllStand-moved : {M T : Type 0} (mc : Machine M T) (m : Meaning T) (published : List (Stream T)) (subs : List (Subscription M T)) (pasts : List (Past T)) (i : ℕ) (old new : Subscription M T) → i < length subs → get_or subs i old ≡ old → ((p : Past T) → Stands mc m published old p → Stands mc m published new p) → AllStand mc m published subs pasts → AllStand mc m published (set subs i new) pasts
AllStand-moved {M} {T} mc m published subs pasts i old new lt e k h =
    let P : List (Past T) → Type 0 = λ ps. AllStand mc m published (set subs i new) ps in
    subst P (changed_same pasts i) (AllStand-set mc m published (λ p. p) subs pasts i old new lt e k h)

pub count_same : {M T : Type 0} (mc : Machine M T) (m : Meaning T) (published : List (Stream T)) (subs : List (Subscription M T)) (pasts : List (Past T)) → AllStand mc m published subs pasts → length subs ≡ length pasts
count_same mc m published [] [] h = refl
count_same mc m published (s ∷ ss) (p ∷ ps) h = ap suc (count_same mc m published ss ps h.1)
count_same mc m published [] (p ∷ ps) h = absurd h
count_same mc m published (s ∷ ss) [] h = absurd h

pub set_same : {A : Type 0} (xs : List A) (i : ℕ) (old new : A) → i < length xs → get_or xs i old ≡ old → new ≡ old → set xs i new ≡ xs
set_same [] i old new lt e n = absurd (omega arith)
set_same (x ∷ xs) zero old new lt e n = ap (λ y. y ∷ xs) (n ∙ sym e)
set_same (x ∷ xs) (suc i) old new lt e n = ap (λ ys. x ∷ ys) (set_same xs i old new (omega arith) e n)

pub found : {A : Type 0} (xs : List A) (i : ℕ) (old : A) → i < length xs → get_or xs i old ≡ old → slice_get xs i ≡ Some old
found [] i old lt e = absurd (omega arith)
found (x ∷ xs) zero old lt e = ap Some e
found (x ∷ xs) (suc i) old lt e = found xs i old (omega arith) e

pub past_first : (x y : Bool) (i : ℕ) → (if nat_eq (suc i) 0 then x else y) ≡ y
past_first x y i = other (nat_eq (suc i) 0) (grind (arith, nat_tests))
  where
    other : (b : Bool) → b ≡ false → (if b then x else y) ≡ y
    other true e = cc
    other false e = refl

pub suc_less : (i : ℕ) → suc i - 1 ≡ i
suc_less i = omega arith

-- a move at a subscription that is there
pub enabled_there : {M T : Type 0} (mc : Machine M T) (kd : Nodes M T) (m : Meaning T) (subs : List (Subscription M T)) (i : ℕ) (old : Subscription M T) (mv : Move) → i < length subs → get_or subs i old ≡ old → enabled_at mc kd m subs i mv ≡ move_enabled_in mc kd m old mv
enabled_there mc kd m [] i old mv lt e = absurd (omega arith)
enabled_there mc kd m (s ∷ subs) zero old mv lt e = ap (λ t. move_enabled_in mc kd m t mv) e
enabled_there mc kd m (s ∷ subs) (suc i) old mv lt e =
    past_first (move_enabled_in mc kd m s mv) (enabled_at mc kd m subs (suc i - 1) mv) i
    ∙ (ap (λ k. enabled_at mc kd m subs k mv) (suc_less i) ∙ enabled_there mc kd m subs i old mv (omega arith) e)

pub allocates_there : {M T : Type 0} (mc : Machine M T) (kd : Nodes M T) (a : Allocates) (subs : List (Subscription M T)) (i : ℕ) (old : Subscription M T) (mv : Move) → i < length subs → get_or subs i old ≡ old → allocates_at mc kd a subs i mv ≡ make_allocates mc kd a old mv
allocates_there mc kd a [] i old mv lt e = absurd (omega arith)
allocates_there mc kd a (s ∷ subs) zero old mv lt e = ap (λ t. make_allocates mc kd a t mv) e
allocates_there mc kd a (s ∷ subs) (suc i) old mv lt e = past_first (make_allocates mc kd a s mv) (allocates_at mc kd a subs (suc i - 1) mv) i ∙ (ap (λ k. allocates_at mc kd a subs k mv) (suc_less i) ∙ allocates_there mc kd a subs i old mv (omega arith) e)

-- what may allocate, where one subscription changed and what may allocate there stayed
alike_there : {M T : Type 0} (mc : Machine M T) (a : Allocates) (subs : List (Subscription M T)) (i : ℕ) (old new : Subscription M T) → i < length subs → get_or subs i old ≡ old → Part.pump_allocates mc a new.part ≡ Part.pump_allocates mc a old.part → pump_allocates mc a (set subs i new) ≡ pump_allocates mc a subs
alike_there mc a [] i old new lt e h = absurd (omega arith)
alike_there mc a (s ∷ subs) zero old new lt e h = ap (λ c. c || pump_allocates mc a subs) (h ∙ ap (λ t. Part.pump_allocates mc a t.part) (sym e))
alike_there mc a (s ∷ subs) (suc i) old new lt e h = ap (λ c. Part.pump_allocates mc a s.part || c) (alike_there mc a subs i old new (omega arith) e h)

-- where nothing may, nothing may in one subscription
pub free_there : {M T : Type 0} (mc : Machine M T) (a : Allocates) (subs : List (Subscription M T)) (i : ℕ) (old : Subscription M T) → i < length subs → get_or subs i old ≡ old → pump_allocates mc a subs ≡ false → Part.pump_allocates mc a old.part ≡ false
free_there mc a [] i old lt e h = absurd (omega arith)
free_there mc a (s ∷ subs) zero old lt e h = ap (λ t. Part.pump_allocates mc a t.part) (sym e) ∙ or_left (Part.pump_allocates mc a s.part) (pump_allocates mc a subs) h
free_there mc a (s ∷ subs) (suc i) old lt e h = free_there mc a subs i old (omega arith) e (or_right (Part.pump_allocates mc a s.part) (pump_allocates mc a subs) h)

pub asked_there : {M T : Type 0} (mc : Machine M T) (m : Meaning T) (published : List (Stream T)) (subs : List (Subscription M T)) (pasts : List (Past T)) (i : ℕ) (sub : Subscription M T) → i < length subs → get_or subs i sub ≡ sub → AllStand mc m published subs pasts → HasAsked pasts i sub.demand.asked
asked_there mc m published [] pasts i sub lt e h = absurd (omega arith)
asked_there mc m published (s ∷ subs) [] i sub lt e h = absurd h
asked_there {M} {T} mc m published (s ∷ subs) (p ∷ pasts) zero sub lt e h = let P : Subscription M T → Type 0 = λ t. Stands mc m published t p in let k : Stands mc m published sub p = subst P e h.0 in k.requested
asked_there mc m published (s ∷ subs) (p ∷ pasts) (suc i) sub lt e h = asked_there mc m published subs pasts i sub (omega arith) e h.1

pub state_there : {M T : Type 0} (mc : Machine M T) (m : Meaning T) (published : List (Stream T)) (subs : List (Subscription M T)) (pasts : List (Past T)) (i : ℕ) (sub : Subscription M T) → slice_get subs i ≡ Some sub → AllStand mc m published subs pasts → state_at pasts i ≡ Some (standing_of sub)
state_there mc m published [] pasts i sub e h = cc
state_there mc m published (s ∷ subs) [] i sub e h = absurd h
state_there {M} {T} mc m published (s ∷ subs) (p ∷ pasts) zero sub e h =
    let same : s ≡ sub = some_same s sub e in
    let P : Subscription M T → Type 0 = λ t. Stands mc m published t p in
    let k : Stands mc m published sub p = subst P same h.0 in ap Some (sym k.state)
state_there mc m published (s ∷ subs) (p ∷ pasts) (suc i) sub e h = state_there mc m published subs pasts i sub e h.1

-- ---- deliveries

pub pasts_to : {T : Type 0} (pasts : List (Past T)) (i : SubId) (ss : List (Signal T)) → pasts_after (to i ss) pasts ≡ changed (given_all ss) pasts i.0
pasts_to pasts i [] = sym (changed_same pasts i.0)
pasts_to {T} pasts i (s ∷ ss) =
    pasts_to (changed (given s) pasts i.0) i ss ∙ changed_twice (given s) (given_all ss) pasts i.0
  where
    changed_twice : {A : Type 0} (f g : A → A) (xs : List A) (i : ℕ) → changed g (changed f xs i) i ≡ changed (λ x. g (f x)) xs i
    changed_twice f g [] i = refl
    changed_twice f g (x ∷ xs) zero = refl
    changed_twice f g (x ∷ xs) (suc i) = ap (λ l. x ∷ l) (changed_twice f g xs i)

pub set_twice : {A : Type 0} (xs : List A) (i : ℕ) (a b : A) → set (set xs i a) i b ≡ set xs i b
set_twice [] i a b = refl
set_twice (x ∷ xs) zero a b = refl
set_twice (x ∷ xs) (suc i) a b = ap (λ l. x ∷ l) (set_twice xs i a b)

set_count : {A : Type 0} (xs : List A) (i : ℕ) (a : A) → length (set xs i a) ≡ length xs
set_count [] i a = refl
set_count (x ∷ xs) zero a = refl
set_count (x ∷ xs) (suc i) a = ap suc (set_count xs i a)

set_there : {A : Type 0} (xs : List A) (i : ℕ) (a : A) → i < length xs → get_or (set xs i a) i a ≡ a
set_there [] i a lt = absurd (omega arith)
set_there (x ∷ xs) zero a lt = refl
set_there (x ∷ xs) (suc i) a lt = set_there xs i a (omega arith)

-- a move of one subscription is a move of the graph
move_there : {M T : Type 0} (mc : Machine M T) (kd : Nodes M T) (m : Meaning T) (id : SubId) (subs : List (Subscription M T)) (old new : Subscription M T) (o : Option (SubId × Signal T)) → id.0 < length subs → get_or subs id.0 old ≡ old → IsMoved mc kd m id old o new → IsSubMoveMade mc kd m subs o (set subs id.0 new)
move_there {M} {T} mc kd m id subs old new o lt e v =
    let P : Tree → Type 0 = λ t. IsMade mc kd m v.move t subs (set subs id.0 new) o in
    record {
      move = v.move;
      enabled = ap (λ t. enabled_in_tree mc kd m subs t v.move) v.tree ∙ (enabled_there mc kd m subs id.0 old v.move lt e ∙ v.enabled);
      effect = subst P (sym v.tree) (record { old = old; new = new; there = found subs id.0 old lt e; effect = v.effect; others = refl });
      answer = v.answer;
    }

-- so are many
moves_there : {M T : Type 0} (mc : Machine M T) (kd : Nodes M T) (m : Meaning T) (id : SubId) (subs : List (Subscription M T)) (old new : Subscription M T) (os : List (Option (SubId × Signal T))) → id.0 < length subs → get_or subs id.0 old ≡ old → Leads (IsMoved mc kd m id) old os new → Leads (IsSubMoveMade mc kd m) subs os (set subs id.0 new)
moves_there {M} {T} mc kd m id subs old new os lt e x =
    let F : Subscription M T → List (Subscription M T) = λ s. set subs id.0 s in
    let P : List (Subscription M T) → Type 0 = λ l. Leads (IsSubMoveMade mc kd m) l os (F new) in
    let one : (a b : Subscription M T) (o : Option (SubId × Signal T)) → IsMoved mc kd m id a o b → IsSubMoveMade mc kd m (F a) o (F b) =
    λ a b o v. subst (λ (l : List (Subscription M T)). IsSubMoveMade mc kd m (F a) o l) (set_twice subs id.0 a b) (move_there mc kd m id (F a) a b o (rw (set_count subs id.0 a) lt) (set_there subs id.0 a lt) v) in
    subst P (set_same subs id.0 old old lt e refl) (leads_lift (IsMoved mc kd m id) (IsSubMoveMade mc kd m) F one old new os x)

pub pumped_there : {M T : Type 0} (mc : Machine M T) (kd : Nodes M T) (m : Meaning T) (id : SubId) (n : ℕ) (subs : List (Subscription M T)) (old new : Subscription M T) (before after : List (SubId × Signal T)) → id.0 < length subs → get_or subs id.0 old ≡ old → IsPumped mc kd m id n old before new after → AllPumped mc kd m n subs before (set subs id.0 new) after
pumped_there {M} {T} mc kd m id n subs old new before after lt e k = record {
  signals = to id k.signals;
  output = k.output;
  moves = record { labels = k.moves.labels; count = k.moves.count; all = k.moves.all; run = moves_there mc kd m id subs old new k.moves.labels lt e k.moves.run };
  stands = λ published pasts s.
      let P : List (Past T) → Type 0 = λ ps. AllStand mc m published (set subs id.0 new) ps in
      subst P (sym (pasts_to pasts id k.signals)) (AllStand-set mc m published (given_all k.signals) subs pasts id.0 old new lt e (λ p t. k.stands published p t) s);
  alike = λ a. alike_there mc a subs id.0 old new lt e (k.alike.0 a);
}

pub pumped_none : {M T : Type 0} (mc : Machine M T) (kd : Nodes M T) (m : Meaning T) (subs : List (Subscription M T)) (out : List (SubId × Signal T)) → AllPumped mc kd m 0 subs out subs out
pumped_none mc kd m subs out = record { signals = []; output = sym (append-nil out); moves = gives_none (IsSubMoveMade mc kd m) option_to_list subs subs refl; stands = λ published pasts s. s; alike = λ a. refl }

pub pasts_append : {T : Type 0} (ps : List (Past T)) (a b : List (SubId × Signal T)) → pasts_after (a ++ b) ps ≡ pasts_after b (pasts_after a ps)
pasts_append ps [] b = refl
pasts_append ps (d ∷ a) b = pasts_append _ a b

pub pumped_on : {M T : Type 0} (mc : Machine M T) (kd : Nodes M T) (m : Meaning T) (n k : ℕ) (s1 s2 s3 : List (Subscription M T)) (o1 o2 o3 : List (SubId × Signal T)) → AllPumped mc kd m n s1 o1 s2 o2 → AllPumped mc kd m k s2 o2 s3 o3 → AllPumped mc kd m (n + k) s1 o1 s3 o3
pumped_on {M} {T} mc kd m n k s1 s2 s3 o1 o2 o3 a b = record {
  signals = a.signals ++ b.signals;
  output = b.output ∙ (ap (λ o. o ++ b.signals) a.output ∙ append_assoc o1 a.signals b.signals);
  moves = gives_on (IsSubMoveMade mc kd m) option_to_list n k s1 s2 s3 a.signals b.signals a.moves b.moves;
  stands = λ published ps s. let P : List (Past T) → Type 0 = λ l. AllStand mc m published s3 l in subst P (sym (pasts_append ps a.signals b.signals)) (b.stands published (pasts_after a.signals ps) (a.stands published ps s));
  alike = λ p. b.alike p ∙ a.alike p;
}

-- ---- no enabled move, and some

-- one subscription more is quiet
pub quiet_there : {M T : Type 0} (mc : Machine M T) (m : Meaning T) (subs : List (Subscription M T)) (i : ℕ) (new : Subscription M T) → IsQuiet mc m new → ((j : ℕ) → j < i → (s : Subscription M T) → slice_get subs j ≡ Some s → IsQuiet mc m s) →
    (j : ℕ) → j < i + 1 → (s : Subscription M T) → slice_get (set subs i new) j ≡ Some s → IsQuiet mc m s
quiet_there mc m [] i new q h j l s e = cc
quiet_there {M} {T} mc m (x ∷ subs) zero new q h zero l s e = let P : Subscription M T → Type 0 = λ t. IsQuiet mc m t in subst P (some_same new s e) q
quiet_there mc m (x ∷ subs) zero new q h (suc j) l s e = absurd (omega arith)
quiet_there mc m (x ∷ subs) (suc i) new q h zero l s e = h 0 (omega arith) s e
quiet_there mc m (x ∷ subs) (suc i) new q h (suc j) l s e = quiet_there mc m subs i new q (λ k lt t is. h (suc k) (omega arith) t is) j (omega arith) s e

-- the first so many are all of them
pub quiet_up_to : {M T : Type 0} (mc : Machine M T) (m : Meaning T) (subs : List (Subscription M T)) (n : ℕ) → length subs ≤ n → AreQuiet mc m subs n → AreQuiet mc m subs (length subs)
quiet_up_to mc m subs n l q i lt s e = q i (omega (arith, l, lt)) s e

pub all_quiet : {M T : Type 0} (mc : Machine M T) (kd : Nodes M T) (m : Meaning T) (subs : List (Subscription M T)) (n : ℕ) → length subs ≤ n → AreQuiet mc m subs n → (mv : Move) → IsNumbered mv → enabled_in_tree mc kd m subs (tree_of mv) mv ≡ false
all_quiet {M} {T} mc kd m subs n lt h mv small = in_tree (tree_of mv)
  where
    within : (ss : List (Subscription M T)) (j : ℕ) (s : Subscription M T) → slice_get ss j ≡ Some s → j < length ss
    within [] j s e = cc
    within (x ∷ ss) zero s e = omega arith
    within (x ∷ ss) (suc j) s e = let k = within ss j s e in omega (arith, k)

    none_at : (ss : List (Subscription M T)) (i : ℕ) → ((j : ℕ) (s : Subscription M T) → slice_get ss j ≡ Some s → IsQuiet mc m s) → enabled_at mc kd m ss i mv ≡ false
    none_at [] i k = refl
    none_at (s ∷ ss) zero k = quiet_move mc kd m s mv small (k 0 s refl)
    none_at (s ∷ ss) (suc i) k = past_first (move_enabled_in mc kd m s mv) (enabled_at mc kd m ss (suc i - 1) mv) i ∙ (ap (λ j. enabled_at mc kd m ss j mv) (suc_less i) ∙ none_at ss i (λ j t e. k (suc j) t e))

    in_tree : (t : Tree) → enabled_in_tree mc kd m subs t mv ≡ false
    in_tree (Sub i) = none_at subs i.0 (λ j s e. let k = within subs j s e in h j (omega (arith, k, lt)) s e)
    in_tree (Feed f) = refl

pub any_awake : {M T : Type 0} (mc : Machine M T) (kd : Nodes M T) (m : Meaning T) (subs : List (Subscription M T)) (i : ℕ) (sub : Subscription M T) → i < length subs → get_or subs i sub ≡ sub → IsAwake mc m sub → IsSubAwake mc kd m subs
any_awake {M} {T} mc kd m subs i sub lt e h = elim h [
  | inl a ↦ by_part a.0 a.2
  | inr t ↦ (delivery id, enabled_there mc kd m subs i sub _ lt e ∙ delivery_enabled mc kd m id sub true t)
]
  where
    id : SubId
    id = record { 0 = i }

    by_part : (step : NodeMove) → Part.move_enabled mc m sub.part (Part.has_room sub.queue) step ≡ true → IsSubAwake mc kd m subs
    by_part step a =
        let name = part_name kd id sub.part step in
        let named = part_named mc kd m id sub step in
        (name, ap (λ t. enabled_in_tree mc kd m subs t name) named.tree ∙ (enabled_there mc kd m subs i sub name lt e ∙ named.enabled a))

-- ---- how driving one subscription ends

pub rested_there : {M T : Type 0} (mc : Machine M T) (kd : Nodes M T) (E : Type 0) (m : Meaning T) (budget n i : ℕ) (subs : List (Subscription M T)) (old new : Subscription M T) (p : Rest) → i < length subs → HasRested {E = E} mc m budget n new (Ok p) → HasRestedAt mc kd m budget n subs i (set subs i new) (Ok p)
rested_there mc kd E m budget n i subs old new (Rests left) lt h = (h.0, λ q. quiet_there mc m subs i new h.1 q)
rested_there mc kd E m budget n i subs old new Wakes lt h = (h.0, any_awake mc kd m (set subs i new) i new (set_length subs i new lt) (set_got subs i new lt) h.1)
  where
    set_length : {A : Type 0} (xs : List A) (i : ℕ) (a : A) → i < length xs → i < length (set xs i a)
    set_length [] i a l = absurd (omega arith)
    set_length (x ∷ xs) zero a l = omega arith
    set_length (x ∷ xs) (suc i) a l = let k = set_length xs i a (omega arith) in omega (arith, k)

    set_got : {A : Type 0} (xs : List A) (i : ℕ) (a : A) → i < length xs → get_or (set xs i a) i a ≡ a
    set_got [] i a l = absurd (omega arith)
    set_got (x ∷ xs) zero a l = refl
    set_got (x ∷ xs) (suc i) a l = set_got xs i a (omega arith)

-- ---- what is owed

pub owed_open : {M T : Type 0} (mc : Machine M T) (m : Meaning T) (taken waiting : List (Stream T)) (subs : List (Subscription M T)) (pasts : List (Past T)) (i : ℕ) (sub : Subscription M T) (v : Stream T) → i < length subs → get_or subs i sub ≡ sub → standing_of sub ≡ Open →
    ((past : Past T) → Stands mc m taken sub past → owed_from mc m (values_then taken waiting) (map unchosen (notes_of mc sub.part.tree)) sub ≡ Some v) → AllStand mc m taken subs pasts → OwedAt mc m (values_then taken waiting) subs pasts i v
owed_open mc m taken waiting [] pasts i sub v lt e o w h = absurd (omega arith)
owed_open mc m taken waiting (s ∷ subs) [] i sub v lt e o w h = absurd h
owed_open {M} {T} mc m taken waiting (s ∷ subs) (p ∷ pasts) zero sub v lt e o w h =
    let P : Subscription M T → Type 0 = λ t. Stands mc m taken t p in
    let Q : Subscription M T → Type 0 = λ t. evaluated m (values_then taken waiting) p (notes_of mc t.part.tree) ≡ Some (signals_then p.received v) in
    let k : Stands mc m taken sub p = subst P e h.0 in
    let w' : evaluated m (values_then taken waiting) p (notes_of mc s.part.tree) ≡ Some (signals_then p.received v) = subst Q (sym e) (owes mc m taken waiting sub p v o (w p k) k) in
    let R : SubscriptionState → Type 0 = λ t. owes_in mc m (values_then taken waiting) s p v t in
    subst R (sym o ∙ k.state) w'
owed_open mc m taken waiting (s ∷ subs) (p ∷ pasts) (suc i) sub v lt e o w h = owed_open mc m taken waiting subs pasts i sub v (omega arith) e o w h.1

pub owed_none : {M T : Type 0} (mc : Machine M T) (m : Meaning T) (published taken : List (Stream T)) (subs : List (Subscription M T)) (pasts : List (Past T)) (i : ℕ) (sub : Subscription M T) (v : Stream T) → i < length subs → get_or subs i sub ≡ sub → (standing_of sub ≡ Open → ⊥) → v ≡ ended_by NotEnded → AllStand mc m taken subs pasts → OwedAt mc m published subs pasts i v
owed_none mc m published taken [] pasts i sub v lt e o w h = absurd (omega arith)
owed_none mc m published taken (s ∷ subs) [] i sub v lt e o w h = absurd h
owed_none {M} {T} mc m published taken (s ∷ subs) (p ∷ pasts) zero sub v lt e o w h =
    let P : Subscription M T → Type 0 = λ t. Stands mc m taken t p in
    let k : Stands mc m taken sub p = subst P e h.0 in
    by_state p.state (λ q. o (k.state ∙ q))
  where
    by_state : (t : SubscriptionState) → (t ≡ Open → ⊥) → owes_in mc m published s p v t
    by_state Open n = absurd (n refl)
    by_state Ended n = w
    by_state Cancelled n = w
    by_state Refused n = w
owed_none mc m published taken (s ∷ subs) (p ∷ pasts) (suc i) sub v lt e o w h = owed_none mc m published taken subs pasts i sub v (omega arith) e o w h.1

-- ---- the joins of all subscriptions

pub joins_kept : {T : Type 0} (f : Past T → Past T) → ((p : Past T) → (f p).joins ≡ p.joins) → (ps : List (Past T)) (i : ℕ) → map (λ p. p.joins) (changed f ps i) ≡ map (λ p. p.joins) ps
joins_kept f k [] i = refl
joins_kept f k (p ∷ ps) zero = ap (λ j. j ∷ map (λ q. q.joins) ps) (k p)
joins_kept f k (p ∷ ps) (suc i) = ap (λ l. p.joins ∷ l) (joins_kept f k ps i)

pub requested_joins : {T : Type 0} (n : ℤ) (p : Past T) → (requested n p).joins ≡ p.joins
requested_joins n p = by_state p.state n
  where
    by_state : (s : SubscriptionState) (n : ℤ) → (requested_in s n p).joins ≡ p.joins
    by_state Open (pos zero) = refl
    by_state Open (pos (suc n)) = refl
    by_state Open (negsuc n) = refl
    by_state Ended n = refl
    by_state Cancelled n = refl
    by_state Refused n = refl
