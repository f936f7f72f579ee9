-- What is published at a hub with an emitter: the rows stand for what has happened with it.
use Rattle.rsx_sources.specs.declared.machine.Machine.{Ghosts as Machine}
use Rattle.std.proofs.Common.{◌≡◌, ℕ, zero, suc, ◌<◌, ◌≤◌, Bool, true, false, ◌&&◌, List, [], ◌∷◌, ◌++◌, length, slice_get, Option, Some, None, is_none, is_some, refl, ap, sym, ◌∙◌, subst, arith, append_assoc}
use Rattle.std.proofs.Math.ListN.{set}
use Rattle.std.proofs.lemmas.List.{length-set}
use Rattle.rsx_graph_state.proofs.Places.{feed_placed, unfed_there}
use Rattle.rsx_graph_state.specs.Prelude.{History, HubPast, Source, emitted, fed, rows_of, HubStands, SourceStands, StandsFor, feed_of, place_of, changed, ending_taken, is_open, Subscription}
use Rattle.rsx_graph_state.specs.Hubs.{IsEmittedAt, IsEndedAt}
use Rattle.rsx_hub.specs.Hub.{HubState, accepts_items, emitted as emitted_hub, ended_with}
use Rattle.rsx_pipe.proofs.Signals.{some_same}
use Rattle.rsx_subscriber.specs.Prelude.{with_signal, IsTaken}
use Rattle.rsx_graph_state.specs.declared.feed.Feed.{Feed}
use Rattle.rsx_sources.specs.Prelude.{Meaning, Stream, HubId, Ending, Signal, Next}
use Rattle.rsx_graph_calls.specs.Publishes.{has_emitter, published_at, published_from, with_published}

-- ---- the hub with a number

none_there : {A : Type 0} (xs : List A) (n : ℕ) → length xs ≤ n → slice_get xs n ≡ None
none_there [] n l = refl
none_there (x ∷ xs) zero l = absurd (omega (arith, l))
none_there (x ∷ xs) (suc n) l = none_there xs n (omega (arith, l))

there : {A : Type 0} (xs : List A) (n : ℕ) → n < length xs → (x : A) × (slice_get xs n ≡ Some x)
there [] n l = absurd (omega (arith, l))
there (x ∷ xs) zero l = (x, refl)
there (x ∷ xs) (suc n) l = there xs n (omega (arith, l))

none_and : (b : Bool) → b && false ≡ false
none_and true = refl
none_and false = refl

-- a hub with an emitter has no feed
unfed_where : {A B : Type 0} (hub : Option A) (feed : Option B) → is_some hub && is_none feed ≡ true → feed ≡ None
unfed_where (Some x) None k = refl
unfed_where (Some x) (Some y) k = cc
unfed_where None o k = cc

pub unknown_hub : {M T : Type 0} (hubs : List (HubState T)) (feeds : List (Feed M)) (i : ℕ) → length hubs ≤ i → has_emitter hubs feeds i ≡ false
unknown_hub hubs feeds i l = ap (λ o. is_some o && is_none (feed_of feeds i)) (none_there hubs i l)

pub fed_hub : {M T : Type 0} (hubs : List (HubState T)) (feeds : List (Feed M)) (i at : ℕ) → place_of feeds i ≡ Some at → has_emitter hubs feeds i ≡ false
fed_hub hubs feeds i at place = ap (λ o. is_some (slice_get hubs i) && is_none o) (feed_placed feeds i at place).named ∙ none_and (is_some (slice_get hubs i))

pub emitter_hub : {M T : Type 0} (hubs : List (HubState T)) (feeds : List (Feed M)) (i : ℕ) → i < length hubs → place_of feeds i ≡ None → has_emitter hubs feeds i ≡ true
emitter_hub hubs feeds i l place = ap (λ o. is_some o && is_none (feed_of feeds i)) (there hubs i l).1 ∙ ap is_none (unfed_there feeds i place)

-- ---- one hub changed, and what has happened there

-- where this holds of each place of three lists, and stays at the place that changed, it holds of each place afterwards
one_changed : {A B C : Type 0} (P : ℕ → A → B → C → Type 0) (n : ℕ) (f : C → C) (s t : B) (vs : List A) (hs : List B) (ps : List C) → slice_get hs n ≡ Some s →
    ((v : A) (p : C) → P n v s p → P n v t (f p)) →
    ((j : ℕ) (v : A) (x : B) (p : C) → slice_get vs j ≡ Some v → slice_get hs j ≡ Some x → slice_get ps j ≡ Some p → P j v x p) →
    (j : ℕ) (v : A) (x : B) (p : C) → slice_get vs j ≡ Some v → slice_get (set hs n t) j ≡ Some x → slice_get (changed f ps n) j ≡ Some p → P j v x p
one_changed P n f s t [] hs ps there k all j v x p ev eh ep = cc
one_changed P n f s t (w ∷ vs) [] ps there k all j v x p ev eh ep = cc
one_changed P n f s t (w ∷ vs) (h ∷ hs) [] there k all j v x p ev eh ep = cc
one_changed {A} {B} {C} P zero f s t (w ∷ vs) (h ∷ hs) (q ∷ ps) there k all zero v x p ev eh ep =
    let S : B → Type 0 = λ y. P 0 w y q in
    let V : A → Type 0 = λ y. P 0 y t (f q) in
    let X : B → Type 0 = λ y. P 0 v y (f q) in
    let Q : C → Type 0 = λ y. P 0 v x y in
    let now = k w q (subst S (some_same h s there) (all 0 w h q refl refl refl)) in
    subst Q (some_same (f q) p ep) (subst X (some_same t x eh) (subst V (some_same w v ev) now))
one_changed P zero f s t (w ∷ vs) (h ∷ hs) (q ∷ ps) there k all (suc j) v x p ev eh ep = all (suc j) v x p ev eh ep
one_changed P (suc n) f s t (w ∷ vs) (h ∷ hs) (q ∷ ps) there k all zero v x p ev eh ep = all zero v x p ev eh ep
one_changed P (suc n) f s t (w ∷ vs) (h ∷ hs) (q ∷ ps) there k all (suc j) v x p ev eh ep = one_changed (λ i. P (suc i)) n f s t vs hs ps there k (λ i. all (suc i)) j v x p ev eh ep

changed_length : {A : Type 0} (f : A → A) (xs : List A) (n : ℕ) → length (changed f xs n) ≡ length xs
changed_length f [] n = refl
changed_length f (x ∷ xs) zero = refl
changed_length f (x ∷ xs) (suc n) = ap suc (changed_length f xs n)

hub_changed : {M T : Type 0} (mc : Machine M T) (m : Meaning T) (f : HubPast T → HubPast T) (i : ℕ) (hubs : List (HubState T)) (feeds : List (Feed M)) (subs : List (Subscription M T)) (hub after : HubState T) (h : History T) → slice_get hubs i ≡ Some hub →
    ((taken : List (Stream T)) (v : Stream T) (p : HubPast T) → HubStands mc m feeds taken i v hub p → HubStands mc m feeds taken i v after (f p)) →
    StandsFor mc m (rows_of hubs feeds subs) h → StandsFor mc m (rows_of (set hubs i after) feeds subs) (record { hubs = changed f h.hubs i; pasts = h.pasts })
hub_changed mc m f i hubs feeds subs hub after h there k s = record {
  taken = s.taken;
  many = length-set hubs i after ∙ (s.many ∙ sym (changed_length f h.hubs i));
  each = s.each ∙ sym (changed_length f h.hubs i);
  hub = one_changed (λ j v x p. HubStands mc m feeds s.taken j v x p) i f hub after s.taken hubs h.hubs there (k s.taken) s.hub;
  all = s.all;
}

-- ---- an item was emitted

open_of : {T : Type 0} (s : HubState T) → accepts_items s ≡ true → is_open s.ending ≡ true
open_of s h = first (is_open s.ending) _ h
  where
    first : (a b : Bool) → a && b ≡ true → a ≡ true
    first true b h = refl
    first false b h = cc

-- a hub that goes on has taken no ending in
not_ended : {T : Type 0} (s : HubState T) (v : Stream T) → IsTaken s v → is_open s.ending ≡ true → s.has_ended ≡ true → ⊥
not_ended s v k o e = let no = sym o ∙ k.closed e in cc

source_emitted : {M T : Type 0} (mc : Machine M T) (m : Meaning T) (feeds : List (Feed M)) (taken : List (Stream T)) (i : ℕ) (v : Stream T) (s : HubState T) (x : T) (src : Source T) → feed_of feeds i ≡ None → SourceStands mc m feeds taken i v s src → SourceStands mc m feeds taken i v (emitted_hub s x) (published_from (Next x) src)
source_emitted mc m feeds taken i v s x (emitted w) unfed k = (k.0, λ j. record { items = (ap (λ y. y.items ++ x ∷ []) k.1 ∙ append_assoc v.items s.inbox (x ∷ [])) j; ending = (ap (λ y. y.ending) k.1) j })
source_emitted mc m feeds taken i v s x (fed e joins) unfed k = let no = sym unfed ∙ k.there in cc

hub_emitted : {M T : Type 0} (mc : Machine M T) (m : Meaning T) (feeds : List (Feed M)) (taken : List (Stream T)) (i : ℕ) (v : Stream T) (s : HubState T) (x : T) (p : HubPast T) → feed_of feeds i ≡ None → accepts_items s ≡ true → HubStands mc m feeds taken i v s p → HubStands mc m feeds taken i v (emitted_hub s x) (published_at (Next x) p)
hub_emitted mc m feeds taken i v s x p unfed can k = record {
  kind = k.kind;
  count = k.count;
  taken_in = record { taken = record { counted = k.taken_in.taken.counted; kept = k.taken_in.taken.kept }; ending = k.taken_in.ending; closed = k.taken_in.closed };
  ended = λ e. absurd (not_ended s v k.taken_in (open_of s can) e);
  source = source_emitted mc m feeds taken i v s x p.source unfed k.source;
}

pub emitted_stands : {M T : Type 0} (mc : Machine M T) (m : Meaning T) (x : T) (i : HubId) (hubs news : List (HubState T)) (feeds : List (Feed M)) (subs : List (Subscription M T)) (h : History T) → IsEmittedAt i.0 x hubs news → has_emitter hubs feeds i.0 ≡ true →
    StandsFor mc m (rows_of hubs feeds subs) h → StandsFor mc m (rows_of news feeds subs) (with_published (Next x) i h)
emitted_stands {M} {T} mc m x i hubs news feeds subs h e known s =
    let P : List (HubState T) → Type 0 = λ l. StandsFor mc m (rows_of l feeds subs) (with_published (Next x) i h) in
    subst P (sym e.others) (hub_changed mc m (published_at (Next x)) i.0 hubs feeds subs e.hub (emitted_hub e.hub x) h e.there
    (λ taken v p k. hub_emitted mc m feeds taken i.0 v e.hub x p (unfed_where (slice_get hubs i.0) (feed_of feeds i.0) known) e.accepts k) s)

-- ---- a hub was ended

not_taken : (b : Bool) (e d : Ending) → (b ≡ true → ⊥) → ending_taken b e ≡ ending_taken b d
not_taken true e d n = absurd (n refl)
not_taken false e d n = refl

source_ended : {M T : Type 0} (mc : Machine M T) (m : Meaning T) (feeds : List (Feed M)) (taken : List (Stream T)) (i : ℕ) (v : Stream T) (s : HubState T) (sig : Signal T) (d : Ending) (src : Source T) → ((w : Stream T) → with_signal sig w ≡ record { items = w.items; ending = d }) → feed_of feeds i ≡ None → SourceStands mc m feeds taken i v s src → SourceStands mc m feeds taken i v (ended_with s d) (published_from sig src)
source_ended mc m feeds taken i v s sig d (emitted w) ends unfed k = (k.0, ends w ∙ (λ j. record { items = (ap (λ y. y.items) k.1) j; ending = d }))
source_ended mc m feeds taken i v s sig d (fed e joins) ends unfed k = let no = sym unfed ∙ k.there in cc

hub_ended : {M T : Type 0} (mc : Machine M T) (m : Meaning T) (feeds : List (Feed M)) (taken : List (Stream T)) (i : ℕ) (v : Stream T) (s : HubState T) (sig : Signal T) (d : Ending) (p : HubPast T) → ((w : Stream T) → with_signal sig w ≡ record { items = w.items; ending = d }) → feed_of feeds i ≡ None → is_open s.ending ≡ true → HubStands mc m feeds taken i v s p → HubStands mc m feeds taken i v (ended_with s d) (published_at sig p)
hub_ended mc m feeds taken i v s sig d p ends unfed goes k =
    let no : s.has_ended ≡ true → ⊥ = not_ended s v k.taken_in goes in
    record {
      kind = k.kind;
      count = k.count;
      taken_in = record { taken = record { counted = k.taken_in.taken.counted; kept = k.taken_in.taken.kept }; ending = k.taken_in.ending ∙ not_taken s.has_ended s.ending d no; closed = λ e. absurd (no e) };
      ended = λ e. absurd (no e);
      source = source_ended mc m feeds taken i v s sig d p.source ends unfed k.source;
    }

-- by a signal that gives any stream this ending
pub ended_stands : {M T : Type 0} (mc : Machine M T) (m : Meaning T) (sig : Signal T) (d : Ending) (i : HubId) (hubs news : List (HubState T)) (feeds : List (Feed M)) (subs : List (Subscription M T)) (h : History T) → ((w : Stream T) → with_signal sig w ≡ record { items = w.items; ending = d }) → IsEndedAt i.0 d hubs news → has_emitter hubs feeds i.0 ≡ true →
    StandsFor mc m (rows_of hubs feeds subs) h → StandsFor mc m (rows_of news feeds subs) (with_published sig i h)
ended_stands {M} {T} mc m sig d i hubs news feeds subs h ends e known s =
    let P : List (HubState T) → Type 0 = λ l. StandsFor mc m (rows_of l feeds subs) (with_published sig i h) in
    subst P (sym e.others) (hub_changed mc m (published_at sig) i.0 hubs feeds subs e.hub (ended_with e.hub d) h e.there
    (λ taken v p k. hub_ended mc m feeds taken i.0 v e.hub sig d p ends (unfed_where (slice_get hubs i.0) (feed_of feeds i.0) known) e.goes_on k) s)
