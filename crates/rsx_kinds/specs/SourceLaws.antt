-- A source of any kind keeps the laws of its kind.
use Rattle.std.specs.Prelude.{◌≡◌, ◌<◌, ℕ, true, false, List, Some, None, option_map, refl}
use Rattle.std.proofs.Common.{inl, inr, arith}
use Rattle.rsx_sources.specs.Prelude.{Note, Nothing, Signal, Meaning, unchosen, Stream, AreWithin, IsHungry, ends_input, Incoming, front_of, range_shows, StaysAlike}
use Rattle.rsx_hub.specs.Laws.{leaf_shows, leaf_popped_alike, leaf_ends, leaf_ends_reading, leaf_hungry}
use Rattle.rsx_kinds.specs.Source.{source_comes_out, source_waiting, source_shown, source_popped, source_reads, source_counted, source_pop_allocates}
use Rattle.rsx_kinds.specs.declared.source_node.SourceNode.{SourceNode}
use Rattle.rsx_kinds.specs.declared.source_node.SourceNode.TheVariants.{Items, Range, Hub}

-- what it shows is what waits
pub source_shows : {T : Type 0} (m : Meaning T) (n : SourceNode T) → source_shown n ≡ option_map front_of (source_waiting m n)
source_shows m (Items n) = refl
source_shows m (Range n) = range_shows m n
source_shows m (Hub n) = leaf_shows m n

-- what may allocate stays as a signal is taken out, and so does how far it got in its hub
pub source_popped_alike : {T : Type 0} (old : SourceNode T) (s : Signal T) (new : SourceNode T) → source_popped old s new → StaysAlike source_reads (λ n. false) source_pop_allocates (λ a n. false) (λ a n. false) old new
source_popped_alike (Items n) s (Items k) h = (refl, (refl, λ a. (refl, refl, refl)))
source_popped_alike (Items n) s (Range k) h = absurd h
source_popped_alike (Items n) s (Hub k) h = absurd h
source_popped_alike (Range n) s (Items k) h = absurd h
source_popped_alike (Range n) s (Range k) h = (refl, (refl, λ a. (refl, refl, refl)))
source_popped_alike (Range n) s (Hub k) h = absurd h
source_popped_alike (Hub n) s (Items k) h = absurd h
source_popped_alike (Hub n) s (Range k) h = absurd h
source_popped_alike (Hub n) s (Hub k) h = leaf_popped_alike n s k h

-- what comes in doesn't matter once it offers its ending
pub source_ends : {T : Type 0} (m : Meaning T) (n : SourceNode T) (s : Signal T) (inc other : Incoming T) (further : Note) → source_waiting m n ≡ Some s → ends_input s ≡ true → source_comes_out m n inc further ≡ source_comes_out m n other further
source_ends m (Items n) s inc other further w e = refl
source_ends m (Range n) s inc other further w e = refl
source_ends m (Hub n) s inc other further w e = leaf_ends m n s inc other further w e

-- and it reads no hub then
pub source_ends_reading : {T : Type 0} (m : Meaning T) (n : SourceNode T) (s : Signal T) → source_waiting m n ≡ Some s → ends_input s ≡ true → source_reads n ≡ None
source_ends_reading m (Items n) s w e = refl
source_ends_reading m (Range n) s w e = refl
source_ends_reading m (Hub n) s w e = leaf_ends_reading m n s w e

-- something comes out
pub source_settles : {T : Type 0} (m : Meaning T) (n : SourceNode T) (inc : Incoming T) → (v : Stream T) × (source_comes_out m n inc (unchosen Nothing) ≡ Some v)
source_settles m (Items n) inc = (_, refl)
source_settles m (Range n) inc = (_, refl)
source_settles m (Hub n) inc = (_, refl)

never : false ≡ true → ⊥
never e = cc

-- where it offers nothing, it waits for its hub
pub source_hungry : {T : Type 0} (m : Meaning T) (n : SourceNode T) (taken : List ℕ) (asked sent : ℕ) → false ≡ false → source_counted n taken sent → source_waiting m n ≡ None → sent < asked → AreWithin taken →
    IsHungry (λ k i f. false) (λ k i a s. false) (λ k a s. false) (λ k i. false) (λ k i a s. 0) source_reads n taken asked sent
source_hungry m (Items n) taken asked sent still counted none more within = cc
source_hungry m (Range n) taken asked sent still counted none more within = cc
source_hungry m (Hub n) taken asked sent still counted none more within = elim (leaf_hungry m n taken asked sent still counted none more within) [
  | inl k ↦ absurd (never k.2)
  | inr y ↦ elim y [
    | inl k ↦ absurd (never k)
    | inr z ↦ elim z [ inl k ↦ let w = k.wants in absurd (omega (arith, w)) | inr r ↦ inr (inr (inr r)) ]
  ]
]
