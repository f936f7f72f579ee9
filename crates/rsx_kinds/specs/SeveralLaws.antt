-- A node of several inputs keeps the laws of its kind.
use Rattle.std.specs.Prelude.{◌≡◌, ◌<◌, ℕ, true, false, List, ◌∷◌, ◌++◌, length, Some, None, option_map, refl}
use Rattle.std.proofs.Common.{inl, inr}
use Rattle.rsx_sources.specs.Prelude.{Note, Signal, Meaning, unchosen, Stream, AreWithin, CanStep, IsHungry, ends_input, Incoming, incoming_of, front_of, StaysAlike}
use Rattle.rsx_merging.specs.ConcatLaws.{concat_drops, concat_ends, concat_done_drops, concat_settles, concat_ending_waits, concat_hungry}
use Rattle.rsx_merging.specs.MergeLaws.{merge_drops, merge_ends, merge_done_drops, merge_settles, merge_ending_waits, merge_hungry}
use Rattle.rsx_delayed.specs.MergeDelayLaws.{delayed_drops, delayed_ends, delayed_done_drops, delayed_settles, delayed_ending_waits, delayed_hungry}
use Rattle.rsx_combining.specs.ZipLaws.{zip_popped_alike, zip_drops, zip_ends, zip_done_drops, zip_settles, zip_ending_waits, zip_hungry}
use Rattle.rsx_combining.specs.LatestLaws.{latest_drops, latest_ends, latest_done_drops, latest_settles, latest_ending_waits, latest_hungry}
use Rattle.rsx_kinds.specs.Several.{several_comes_out, several_waiting, several_shown, several_takes, several_picks, several_rows, several_recorded, several_ended, several_done, several_counted, several_wanted, several_popped, several_step_allocates}
use Rattle.rsx_kinds.specs.declared.several_node.SeveralNode.{SeveralNode}
use Rattle.rsx_kinds.specs.declared.several_node.SeveralNode.TheVariants.{Concat, Merge, MergeDelay, Zip, Latest}

-- what it shows is what waits
pub several_shows : {T : Type 0} (m : Meaning T) (n : SeveralNode T) → several_shown n ≡ option_map front_of (several_waiting m n)
several_shows m (Concat n) = refl
several_shows m (Merge n) = refl
several_shows m (MergeDelay n) = refl
several_shows m (Zip n) = refl
several_shows m (Latest n) = refl

-- what may allocate stays as a signal is taken out
pub several_popped_alike : {T : Type 0} (old : SeveralNode T) (s : Signal T) (new : SeveralNode T) → several_popped old s new → StaysAlike (λ n. None) (λ n. false) (λ a n. false) (λ a n. false) several_step_allocates old new
several_popped_alike (Concat n) s (Concat k) h = (refl, (refl, λ a. (refl, refl, refl)))
several_popped_alike (Concat n) s (Merge k) h = absurd h
several_popped_alike (Concat n) s (MergeDelay k) h = absurd h
several_popped_alike (Concat n) s (Zip k) h = absurd h
several_popped_alike (Concat n) s (Latest k) h = absurd h
several_popped_alike (Merge n) s (Concat k) h = absurd h
several_popped_alike (Merge n) s (Merge k) h = (refl, (refl, λ a. (refl, refl, refl)))
several_popped_alike (Merge n) s (MergeDelay k) h = absurd h
several_popped_alike (Merge n) s (Zip k) h = absurd h
several_popped_alike (Merge n) s (Latest k) h = absurd h
several_popped_alike (MergeDelay n) s (Concat k) h = absurd h
several_popped_alike (MergeDelay n) s (Merge k) h = absurd h
several_popped_alike (MergeDelay n) s (MergeDelay k) h = (refl, (refl, λ a. (refl, refl, refl)))
several_popped_alike (MergeDelay n) s (Zip k) h = absurd h
several_popped_alike (MergeDelay n) s (Latest k) h = absurd h
several_popped_alike (Zip n) s (Concat k) h = absurd h
several_popped_alike (Zip n) s (Merge k) h = absurd h
several_popped_alike (Zip n) s (MergeDelay k) h = absurd h
several_popped_alike (Zip n) s (Zip k) h = zip_popped_alike n s k h
several_popped_alike (Zip n) s (Latest k) h = absurd h
several_popped_alike (Latest n) s (Concat k) h = absurd h
several_popped_alike (Latest n) s (Merge k) h = absurd h
several_popped_alike (Latest n) s (MergeDelay k) h = absurd h
several_popped_alike (Latest n) s (Zip k) h = absurd h
several_popped_alike (Latest n) s (Latest k) h = (refl, (refl, λ a. (refl, refl, refl)))

-- what comes in no longer matters once it has ended
pub several_drops : {T : Type 0} (m : Meaning T) (n : SeveralNode T) (inc other : Incoming T) (further : Note) → several_ended n ≡ true → several_comes_out m n inc further ≡ several_comes_out m n other further
several_drops m (Concat n) inc other further e = concat_drops m n inc other further e
several_drops m (Merge n) inc other further e = merge_drops m n inc other further e
several_drops m (MergeDelay n) inc other further e = delayed_drops m n inc other further e
several_drops m (Zip n) inc other further e = zip_drops m n inc other further e
several_drops m (Latest n) inc other further e = latest_drops m n inc other further e

-- nor once it offers its ending
pub several_ends : {T : Type 0} (m : Meaning T) (n : SeveralNode T) (s : Signal T) (inc other : Incoming T) (further : Note) → several_waiting m n ≡ Some s → ends_input s ≡ true → several_comes_out m n inc further ≡ several_comes_out m n other further
several_ends m (Concat n) s inc other further w e = concat_ends m n s inc other further w e
several_ends m (Merge n) s inc other further w e = merge_ends m n s inc other further w e
several_ends m (MergeDelay n) s inc other further w e = delayed_ends m n s inc other further w e
several_ends m (Zip n) s inc other further w e = zip_ends m n s inc other further w e
several_ends m (Latest n) s inc other further w e = latest_ends m n s inc other further w e

-- nor at an input whose ending was taken
pub several_done_drops : {T : Type 0} (m : Meaning T) (n : SeveralNode T) (hubs before after : List (Stream T)) (v w : Stream T) (further : Note) → several_done n (length before) ≡ true →
    several_comes_out m n (incoming_of hubs (before ++ v ∷ after)) further ≡ several_comes_out m n (incoming_of hubs (before ++ w ∷ after)) further
several_done_drops m (Concat n) hubs before after v w further d = concat_done_drops m n hubs before after v w further d
several_done_drops m (Merge n) hubs before after v w further d = merge_done_drops m n hubs before after v w further d
several_done_drops m (MergeDelay n) hubs before after v w further d = delayed_done_drops m n hubs before after v w further d
several_done_drops m (Zip n) hubs before after v w further d = zip_done_drops m n hubs before after v w further d
several_done_drops m (Latest n) hubs before after v w further d = latest_done_drops m n hubs before after v w further d

-- something comes out where nothing more is chosen
pub several_settles : {T : Type 0} (m : Meaning T) (n : SeveralNode T) (inc : Incoming T) → (v : Stream T) × (several_comes_out m n inc (unchosen (several_recorded n)) ≡ Some v)
several_settles m (Concat n) inc = concat_settles m n inc
several_settles m (Merge n) inc = merge_settles m n inc
several_settles m (MergeDelay n) inc = delayed_settles m n inc
several_settles m (Zip n) inc = zip_settles m n inc
several_settles m (Latest n) inc = latest_settles m n inc

-- once it has ended, a signal waits
pub several_ending_waits : {T : Type 0} (m : Meaning T) (n : SeveralNode T) (asked sent : ℕ) → several_ended n ≡ true → several_waiting m n ≡ None → sent < asked → CanStep several_picks several_rows n asked sent
several_ending_waits m (Concat n) asked sent e none more = concat_ending_waits m n asked sent e none more
several_ending_waits m (Merge n) asked sent e none more = merge_ending_waits m n asked sent e none more
several_ending_waits m (MergeDelay n) asked sent e none more = delayed_ending_waits m n asked sent e none more
several_ending_waits m (Zip n) asked sent e none more = zip_ending_waits m n asked sent e none more
several_ending_waits m (Latest n) asked sent e none more = latest_ending_waits m n asked sent e none more

-- ---- it isn't stuck

pub several_hungry : {T : Type 0} (m : Meaning T) (n : SeveralNode T) (taken : List ℕ) (asked sent : ℕ) → several_ended n ≡ false → several_counted n taken sent → several_waiting m n ≡ None → sent < asked → AreWithin taken →
    IsHungry several_takes several_picks several_rows several_done several_wanted (λ k. None) n taken asked sent
several_hungry m (Concat n) taken asked sent still counted waits more within = elim (concat_hungry m n taken asked sent still counted waits more within) [
  | inl k ↦ inl k
  | inr y ↦ elim y [
    | inl k ↦ inr (inl k)
    | inr z ↦ elim z [
      | inl k ↦ inr (inr (inl (record { i = k.i; c = k.c; at = k.at; open_still = k.open_still; takes_any = k.takes_any; wants = k.wants })))
      | inr r ↦ inr (inr (inr r))
    ]
  ]
]
several_hungry m (Merge n) taken asked sent still counted waits more within = elim (merge_hungry m n taken asked sent still counted waits more within) [
  | inl k ↦ inl k
  | inr y ↦ elim y [
    | inl k ↦ inr (inl k)
    | inr z ↦ elim z [
      | inl k ↦ inr (inr (inl (record { i = k.i; c = k.c; at = k.at; open_still = k.open_still; takes_any = k.takes_any; wants = k.wants })))
      | inr r ↦ inr (inr (inr r))
    ]
  ]
]
several_hungry m (MergeDelay n) taken asked sent still counted waits more within = elim (delayed_hungry m n taken asked sent still counted waits more within) [
  | inl k ↦ inl k
  | inr y ↦ elim y [
    | inl k ↦ inr (inl k)
    | inr z ↦ elim z [
      | inl k ↦ inr (inr (inl (record { i = k.i; c = k.c; at = k.at; open_still = k.open_still; takes_any = k.takes_any; wants = k.wants })))
      | inr r ↦ inr (inr (inr r))
    ]
  ]
]
several_hungry m (Zip n) taken asked sent still counted waits more within = elim (zip_hungry m n taken asked sent still counted waits more within) [
  | inl k ↦ inl k
  | inr y ↦ elim y [
    | inl k ↦ inr (inl k)
    | inr z ↦ elim z [
      | inl k ↦ inr (inr (inl (record { i = k.i; c = k.c; at = k.at; open_still = k.open_still; takes_any = k.takes_any; wants = k.wants })))
      | inr r ↦ inr (inr (inr r))
    ]
  ]
]
several_hungry m (Latest n) taken asked sent still counted waits more within = elim (latest_hungry m n taken asked sent still counted waits more within) [
  | inl k ↦ inl k
  | inr y ↦ elim y [
    | inl k ↦ inr (inl k)
    | inr z ↦ elim z [
      | inl k ↦ inr (inr (inl (record { i = k.i; c = k.c; at = k.at; open_still = k.open_still; takes_any = k.takes_any; wants = k.wants })))
      | inr r ↦ inr (inr (inr r))
    ]
  ]
]
