-- The laws of a node that reads a hub.
use Rattle.std.specs.Prelude.{◌≡◌, ℕ, ◌<◌, true, false, List, [], ◌∷◌, Some, None, option_map, refl}
use Rattle.std.proofs.Common.{inr, ap, sym}
use Rattle.rsx_sources.specs.Prelude.{Note, Ending, Open, Done, Failed, Signal, Next, Complete, Error, Meaning, Stream, items_then, AreWithin, IsHungry, ends_input, Incoming, front_of, quiet, Reading, published_at, StaysAlike}
use Rattle.rsx_hub.specs.Member.{behind, without}
use Rattle.rsx_hub.specs.Waiting.{first_waiting, first_shown}
use Rattle.rsx_hub.specs.Leaf.{LeafState, leaf_comes_out, leaf_waiting, leaf_shown, leaf_popped, leaf_reads, leaf_counted, reading_of}

shows_in : {T : Type 0} (q : List T) (e : Ending) → first_shown q e false ≡ option_map front_of (first_waiting q e false)
shows_in [] Open = refl
shows_in [] Done = refl
shows_in [] (Failed c) = refl
shows_in (x ∷ xs) e = refl

-- what it shows is what waits
pub leaf_shows : {T : Type 0} (m : Meaning T) (n : LeafState T) → leaf_shown n ≡ option_map front_of (leaf_waiting m n)
leaf_shows m n = shows_in n.queue n.ending

reads_stay : {T : Type 0} (old : LeafState T) (s : Signal T) (new : LeafState T) → leaf_popped old s new → leaf_reads new ≡ leaf_reads old
reads_stay old (Next x) new h = λ i. reading_of (h.1.gives i).ending (record { hub = sym h.0 i; reached = (h.1.gives i).reached; missed = sym h.2 i; before = sym h.3 i })
reads_stay old Complete new h = ap leaf_reads h
reads_stay old (Error c) new h = ap leaf_reads h

-- what leaves it leaves how far it got as it is
pub leaf_popped_alike : {T : Type 0} (old : LeafState T) (s : Signal T) (new : LeafState T) → leaf_popped old s new → StaysAlike leaf_reads (λ n. false) (λ a n. false) (λ a n. false) (λ a n. false) old new
leaf_popped_alike old s new h = (reads_stay old s new h, (refl, λ a. (refl, refl, refl)))

-- once it offers the hub's ending, what is published doesn't matter
ends_in : {T : Type 0} (q : List T) (e : Ending) (s : Signal T) (v w : Stream T) → first_waiting q e false ≡ Some s → ends_input s ≡ true → items_then q (behind false e v) ≡ items_then q (behind false e w)
ends_in [] Open s v w h e = cc
ends_in [] Done s v w h e = refl
ends_in [] (Failed c) s v w h e = refl
ends_in (x ∷ xs) k (Next y) v w h e = cc
ends_in (x ∷ xs) k Complete v w h e = cc
ends_in (x ∷ xs) k (Error c) v w h e = cc

pub leaf_ends : {T : Type 0} (m : Meaning T) (n : LeafState T) (s : Signal T) (inc other : Incoming T) (further : Note) → leaf_waiting m n ≡ Some s → ends_input s ≡ true → leaf_comes_out m n inc further ≡ leaf_comes_out m n other further
leaf_ends m n s inc other further w e = ap (quiet further) (ends_in n.queue n.ending s (without n.reached (published_at inc.hubs n.hub)) (without n.reached (published_at other.hubs n.hub)) w e)

-- and it reads no more
ends_reading_in : {T : Type 0} (q : List T) (e : Ending) (s : Signal T) (r : Reading) → first_waiting q e false ≡ Some s → ends_input s ≡ true → reading_of e r ≡ None
ends_reading_in [] Open s r h e = cc
ends_reading_in q Done s r h e = refl
ends_reading_in q (Failed c) s r h e = refl
ends_reading_in (x ∷ xs) Open (Next y) r h e = cc
ends_reading_in (x ∷ xs) Open Complete r h e = cc
ends_reading_in (x ∷ xs) Open (Error c) r h e = cc

pub leaf_ends_reading : {T : Type 0} (m : Meaning T) (n : LeafState T) (s : Signal T) → leaf_waiting m n ≡ Some s → ends_input s ≡ true → leaf_reads n ≡ None
leaf_ends_reading m n s w e = ends_reading_in n.queue n.ending s (record { hub = n.hub; reached = n.reached; missed = n.missed; before = n.before }) w e

-- where nothing waits, it waits for its hub
waits_in : {T : Type 0} (q : List T) (e : Ending) (r : Reading) → first_waiting q e false ≡ None → reading_of e r ≡ Some r
waits_in [] Open r h = refl
waits_in [] Done r h = cc
waits_in [] (Failed c) r h = cc
waits_in (x ∷ xs) e r h = cc

pub leaf_hungry : {T : Type 0} (m : Meaning T) (n : LeafState T) (taken : List ℕ) (asked sent : ℕ) → false ≡ false → leaf_counted n taken sent → leaf_waiting m n ≡ None → sent < asked → AreWithin taken →
    IsHungry (λ k i f. false) (λ k i a s. false) (λ k a s. false) (λ k i. false) (λ k i a s. 0) leaf_reads n taken asked sent
leaf_hungry m n taken asked sent still counted none more within =
    inr (inr (inr (record { hub = n.hub; reached = n.reached; missed = n.missed; before = n.before }, waits_in n.queue n.ending (record { hub = n.hub; reached = n.reached; missed = n.missed; before = n.before }) none)))
