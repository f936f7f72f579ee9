-- Rows with feeds stand for the same where one more hub comes behind the others.
use Rattle.rsx_sources.specs.declared.machine.Machine.{Ghosts as Machine}
use Rattle.std.proofs.Common.{◌≡◌, ◌⊎◌, inl, inr, ℕ, zero, suc, ◌-◌, ◌<◌, ◌≤◌, if◌then◌else◌, List, [], ◌∷◌, ◌++◌, length, drop, take, slice_get, Some, None, refl, ap, sym, ◌∙◌, subst, arith}
use Rattle.rsx_graph_state.proofs.Named.{other_number}
use Rattle.rsx_graph_state.specs.Prelude.{History, HubPast, Source, emitted, fed, rows_of, HubStands, Rows, SourceStands, StandsFor, feed_of, HubState, fresh_hub, replayed, FeedStands}
use Rattle.rsx_graph_state.proofs.Publishes.{subs_more}
use Rattle.rsx_subscriber.specs.Prelude.{Expr, PartStands, IsTaken}
use Rattle.rsx_pipe.proofs.Signals.{some_same}
use Rattle.rsx_graph_state.specs.declared.feed.Feed.{Feed}
use Rattle.rsx_sources.specs.Prelude.{Meaning, Stream, ended_by, signals, HubKind, Open}
use Rattle.rsx_graph_calls.specs.Edits.{NameHubs, with_hub}

-- ---- one element more behind a list

-- what stands there is one of the others, or the last
pub last_or : {A : Type 0} (xs : List A) (x : A) (i : ℕ) (y : A) → slice_get (xs ++ x ∷ []) i ≡ Some y → (slice_get xs i ≡ Some y) ⊎ ((i ≡ length xs) × (x ≡ y))
last_or [] x zero y e = inr (refl, some_same x y e)
last_or [] x (suc i) y e = cc
last_or (z ∷ xs) x zero y e = inl e
last_or (z ∷ xs) x (suc i) y e = elim (last_or xs x i y e) [ inl k ↦ inl k | inr k ↦ inr (ap suc k.0, k.1) ]

within : {A : Type 0} (xs : List A) (i : ℕ) (y : A) → slice_get xs i ≡ Some y → i < length xs
within [] i y e = cc
within (x ∷ xs) zero y e = omega arith
within (x ∷ xs) (suc i) y e = let k = within xs i y e in omega (arith, k)

pub still_there : {A : Type 0} (xs : List A) (x : A) (i : ℕ) (y : A) → slice_get xs i ≡ Some y → slice_get (xs ++ x ∷ []) i ≡ Some y
still_there [] x i y e = cc
still_there (z ∷ xs) x zero y e = e
still_there (z ∷ xs) x (suc i) y e = still_there xs x i y e

take_less : {A : Type 0} (n : ℕ) (xs : List A) (x : A) → n ≤ length xs → take n (xs ++ x ∷ []) ≡ take n xs
take_less zero xs x l = refl
take_less (suc n) [] x l = absurd (omega (arith, l))
take_less (suc n) (z ∷ xs) x l = ap (λ k. z ∷ k) (take_less n xs x (omega (arith, l)))

pub one_more : {A : Type 0} (xs : List A) (x : A) → length (xs ++ x ∷ []) ≡ suc (length xs)
one_more [] x = refl
one_more (z ∷ xs) x = ap suc (one_more xs x)

-- ---- the hubs that were there

feed_more : {M T : Type 0} (mc : Machine M T) (m : Meaning T) (taken : List (Stream T)) (f : Feed M) (e : Expr T) (joins : List ℕ) → FeedStands mc m taken f e joins → FeedStands mc m (taken ++ ended_by Open ∷ []) f e joins
feed_more {M} {T} mc m taken f e joins k =
    let P : List (Stream T) → Type 0 = λ vs. PartStands mc m vs f.part e joins (signals k.value) in
    let less = within taken f.hub k.value k.taken in
    record {
      value = k.value;
      taken = still_there taken (ended_by Open) f.hub k.value k.taken;
      part = subst P (sym (take_less f.hub taken (ended_by Open) (omega (arith, less)))) k.part;
      asked = k.asked;
      unclosed = k.unclosed;
    }

source_more : {M T : Type 0} (mc : Machine M T) (m : Meaning T) (fs gs : List (Feed M)) (taken : List (Stream T)) (i : ℕ) (v : Stream T) (s : HubState T) (src : Source T) → feed_of gs i ≡ feed_of fs i → SourceStands mc m fs taken i v s src → SourceStands mc m gs (taken ++ ended_by Open ∷ []) i v s src
source_more mc m fs gs taken i v s (emitted w) same k = (same ∙ k.0, k.1)
source_more mc m fs gs taken i v s (fed e joins) same k = record {
  feed = k.feed;
  there = same ∙ k.there;
  stands = feed_more mc m taken k.feed e joins k.stands;
  empty = k.empty;
  unended = k.unended;
}

hub_more : {M T : Type 0} (mc : Machine M T) (m : Meaning T) (fs gs : List (Feed M)) (taken : List (Stream T)) (i : ℕ) (v : Stream T) (s : HubState T) (p : HubPast T) → feed_of gs i ≡ feed_of fs i → HubStands mc m fs taken i v s p → HubStands mc m gs (taken ++ ended_by Open ∷ []) i v s p
hub_more mc m fs gs taken i v s p same k = record {
  kind = k.kind;
  count = k.count;
  taken_in = k.taken_in;
  ended = k.ended;
  source = source_more mc m fs gs taken i v s p.source same k.source;
}

-- ---- a hub more

-- the feeds of the others stay, and what stands behind stands for what has happened there: then so do all rows
pub rows_more : {M T : Type 0} (mc : Machine M T) (m : Meaning T) (old : Rows M T) (h : History T) (x : HubState T) (p : HubPast T) (gs : List (Feed M)) → ((i : ℕ) → i < length old.hubs → feed_of gs i ≡ feed_of old.feeds i) →
    (s : StandsFor mc m old h) → HubStands mc m gs (s.taken ++ ended_by Open ∷ []) (length old.hubs) (ended_by Open) x p → StandsFor mc m (rows_of (old.hubs ++ x ∷ []) gs old.subs) (record { hubs = h.hubs ++ p ∷ []; pasts = h.pasts })
rows_more {M} {T} mc m old h x p gs feeds s k = record {
  taken = s.taken ++ ended_by Open ∷ [];
  many = one_more old.hubs x ∙ (ap suc s.many ∙ sym (one_more h.hubs p));
  each = one_more s.taken (ended_by Open) ∙ (ap suc s.each ∙ sym (one_more h.hubs p));
  hub = each_hub;
  all = subs_more mc m s.taken old.subs h.pasts s.all;
}
  where
    Here : ℕ → Stream T → HubState T → HubPast T → Type 0
    Here i v t q = HubStands mc m gs (s.taken ++ ended_by Open ∷ []) i v t q

    last_hub : (i : ℕ) (v : Stream T) (t : HubState T) (q : HubPast T) → i ≡ length old.hubs → ended_by Open ≡ v → x ≡ t → p ≡ q → Here i v t q
    last_hub i v t q ei ev et eq =
        let A : ℕ → Type 0 = λ j. Here j (ended_by Open) x p in
        let B : Stream T → Type 0 = λ w. Here i w x p in
        let C : HubState T → Type 0 = λ u. Here i v u p in
        let D : HubPast T → Type 0 = λ r. Here i v t r in
        subst D eq (subst C et (subst B ev (subst A (sym ei) k)))

    past_in : {A B : Type 0} (xs : List A) (ys : List B) (i : ℕ) (a : A) → slice_get xs i ≡ Some a → length ys ≡ length xs → i ≡ length ys → ⊥
    past_in xs ys i a e l n = let w = within xs i a e in absurd (omega (arith, w, l, n))

    each_hub : (i : ℕ) (v : Stream T) (t : HubState T) (q : HubPast T) → slice_get (s.taken ++ ended_by Open ∷ []) i ≡ Some v → slice_get (old.hubs ++ x ∷ []) i ≡ Some t → slice_get (h.hubs ++ p ∷ []) i ≡ Some q → Here i v t q
    each_hub i v t q iv it iq = by_place (last_or s.taken (ended_by Open) i v iv) (last_or old.hubs x i t it) (last_or h.hubs p i q iq)
      where
        by_place : (slice_get s.taken i ≡ Some v) ⊎ ((i ≡ length s.taken) × (ended_by Open ≡ v)) → (slice_get old.hubs i ≡ Some t) ⊎ ((i ≡ length old.hubs) × (x ≡ t)) → (slice_get h.hubs i ≡ Some q) ⊎ ((i ≡ length h.hubs) × (p ≡ q)) → Here i v t q
        by_place (inl a) (inl b) (inl c) = hub_more mc m old.feeds gs s.taken i v t q (feeds i (within old.hubs i t b)) (s.hub i v t q a b c)
        by_place (inr a) (inr b) (inr c) = last_hub i v t q b.0 a.1 b.1 c.1
        by_place (inl a) (inr b) c = absurd (past_in s.taken old.hubs i v a (s.many ∙ sym s.each) b.0)
        by_place (inr a) (inl b) c = absurd (past_in old.hubs s.taken i t b (s.each ∙ sym s.many) a.0)
        by_place (inl a) (inl b) (inr c) = absurd (past_in s.taken h.hubs i v a (sym s.each) c.0)
        by_place (inr a) (inr b) (inl c) = absurd (past_in h.hubs s.taken i q c s.each a.0)

-- ---- a hub with an emitter

-- no feed names the next hub
pub unfed_next : {M : Type 0} (n : ℕ) (fs : List (Feed M)) → NameHubs n fs → feed_of fs n ≡ None
unfed_next n [] k = refl
unfed_next n (f ∷ fs) k =
    let less = k.0 in
    ap (λ b. if b then Some f else feed_of fs n) (other_number f.hub n (λ e. absurd (omega (arith, less, e)))) ∙ unfed_next n fs k.1

pub name_more : {M : Type 0} (n k : ℕ) (fs : List (Feed M)) → n ≤ k → NameHubs n fs → NameHubs k fs
name_more n k [] l a = tt
name_more n k (f ∷ fs) l a = let less = a.0 in (omega (arith, less, l), name_more n k fs l a.1)

none_left : {A : Type 0} (k : ℕ) → ◌≡◌ {A = List A} [] (drop k [])
none_left zero = refl
none_left (suc k) = refl

pub fresh_taken : {T : Type 0} (k : HubKind) (c : ℕ) → IsTaken {T = T} (fresh_hub k c) (ended_by Open)
fresh_taken k c = record { taken = record { counted = refl; kept = none_left (0 - replayed k) }; ending = refl; closed = λ e. cc }

fresh_stands : {M T : Type 0} (mc : Machine M T) (m : Meaning T) (k : HubKind) (c n : ℕ) (fs : List (Feed M)) (taken : List (Stream T)) → feed_of fs n ≡ None → HubStands mc m fs taken n (ended_by Open) (fresh_hub k c) (record { kind = k; source = emitted (ended_by Open); count = 0 })
fresh_stands mc k m c n fs taken unfed = record {
  kind = refl;
  count = refl;
  taken_in = fresh_taken m c;
  ended = λ e. cc;
  source = (unfed, refl);
}

pub hub_behind : {M T : Type 0} (mc : Machine M T) (m : Meaning T) (k : HubKind) (c : ℕ) (old : Rows M T) (hubs : List (HubState T)) (h : History T) → hubs ≡ old.hubs ++ fresh_hub k c ∷ [] → NameHubs (length old.hubs) old.feeds → StandsFor mc m old h → StandsFor mc m (rows_of hubs old.feeds old.subs) (with_hub k h)
hub_behind {M} {T} mc m k c old hubs h is names s =
    let P : List (HubState T) → Type 0 = λ l. StandsFor mc m (rows_of l old.feeds old.subs) (with_hub k h) in
    subst P (sym is) (rows_more mc m old h (fresh_hub k c) (record { kind = k; source = emitted (ended_by Open); count = 0 }) old.feeds (λ i l. refl) s
    (fresh_stands mc m k c (length old.hubs) old.feeds (s.taken ++ ended_by Open ∷ []) (unfed_next (length old.hubs) old.feeds names)))

pub name_behind : {M T : Type 0} (k : HubKind) (c : ℕ) (olds hubs : List (HubState T)) (fs : List (Feed M)) → hubs ≡ olds ++ fresh_hub k c ∷ [] → NameHubs (length olds) fs → NameHubs (length hubs) fs
name_behind k c olds hubs fs is names =
    let more = ap length is ∙ one_more olds (fresh_hub k c) in
    name_more (length olds) (length hubs) fs (omega (arith, more)) names
