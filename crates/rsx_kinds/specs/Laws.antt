-- A node of any kind keeps the laws of its kind.
use Rattle.std.specs.Prelude.{◌≡◌, ◌<◌, ℕ, true, false, List, ◌∷◌, ◌++◌, length, Some, None, option_map, refl}
use Rattle.std.proofs.Common.{inl, inr, arith}
use Rattle.rsx_sources.specs.Prelude.{Note, Signal, Meaning, unchosen, Stream, AreWithin, CanStep, IsHungry, ends_input, Incoming, incoming_of, front_of, StaysAlike}
use Rattle.rsx_plain.specs.Laws.{plain_popped_alike, plain_drops, plain_ends, plain_ending_waits, plain_hungry}
use Rattle.rsx_kinds.specs.SeveralLaws.{several_shows, several_popped_alike, several_drops, several_ends, several_done_drops, several_settles, several_ending_waits, several_hungry}
use Rattle.rsx_merging.specs.PublishOnLaws.{publish_drops, publish_ends, publish_done_drops, publish_settles, publish_ending_waits, publish_hungry}
use Rattle.rsx_window.specs.Laws.{window_drops, window_ends, window_done_drops, window_ending_waits, window_hungry}
use Rattle.rsx_delayed.specs.FlatMapDelayLaws.{flat_delay_drops, flat_delay_ends, flat_delay_done_drops, flat_delay_settles, flat_delay_ending_waits, flat_delay_hungry}
use Rattle.rsx_delayed.specs.PublishOnEagerLaws.{eager_drops, eager_ends, eager_done_drops, eager_settles, eager_ending_waits, eager_hungry}
use Rattle.rsx_merging.specs.FlatMapLaws.{flat_drops, flat_ends, flat_done_drops, flat_settles, flat_ending_waits, flat_hungry}
use Rattle.rsx_grouping.specs.Laws.{group_drops, group_ends, group_done_drops, group_settles, group_ending_waits, group_hungry}
use Rattle.rsx_kinds.specs.SourceLaws.{source_shows, source_popped_alike, source_ends, source_ends_reading, source_settles, source_hungry}
use Rattle.rsx_kinds.specs.Any.{any_comes_out, any_waiting, any_shown, any_takes, any_picks, any_rows, any_recorded, any_ended, any_done, any_counted, any_wanted, any_popped, any_reads, any_pop_allocates, any_signal_allocates, any_step_allocates}
use Rattle.rsx_kinds.specs.declared.any_node.AnyNode.{AnyNode}
use Rattle.rsx_kinds.specs.declared.any_node.AnyNode.TheVariants.{Source, Plain, Several, PublishOn, PublishOnEager, Window, FlatMap, FlatMapDelay, GroupBy}

-- what it shows is what waits
pub any_shows : {T : Type 0} (m : Meaning T) (n : AnyNode T) → any_shown n ≡ option_map front_of (any_waiting m n)
any_shows m (Source n) = source_shows m n
any_shows m (Plain n) = refl
any_shows m (Several n) = several_shows m n
any_shows m (PublishOn n) = refl
any_shows m (PublishOnEager n) = refl
any_shows m (Window n) = refl
any_shows m (FlatMap n) = refl
any_shows m (FlatMapDelay n) = refl
any_shows m (GroupBy n) = refl

-- what may allocate stays as a signal is taken out, and so does how far it got in its hub
pub any_popped_alike : {T : Type 0} (old : AnyNode T) (s : Signal T) (new : AnyNode T) → any_popped old s new → StaysAlike any_reads (λ n. false) any_pop_allocates any_signal_allocates any_step_allocates old new
any_popped_alike (Source n) s (Source k) h = let stays = source_popped_alike n s k h in (stays.0, (refl, λ a. ((stays.1.1 a).0, refl, refl)))
any_popped_alike (Plain n) s (Plain k) h = plain_popped_alike n s k h
any_popped_alike (Several n) s (Several k) h = several_popped_alike n s k h
any_popped_alike (PublishOn n) s (PublishOn k) h = (refl, (refl, λ a. (refl, refl, refl)))
any_popped_alike (PublishOnEager n) s (PublishOnEager k) h = (refl, (refl, λ a. (refl, refl, refl)))
any_popped_alike (Window n) s (Window k) h = (refl, (refl, λ a. (refl, refl, refl)))
any_popped_alike (FlatMap n) s (FlatMap k) h = (refl, (refl, λ a. (refl, refl, refl)))
any_popped_alike (FlatMapDelay n) s (FlatMapDelay k) h = (refl, (refl, λ a. (refl, refl, refl)))
any_popped_alike (GroupBy n) s (GroupBy k) h = (refl, (refl, λ a. (refl, refl, refl)))
any_popped_alike n s k h = absurd h

-- what comes in no longer matters once it has ended
pub any_drops : {T : Type 0} (m : Meaning T) (n : AnyNode T) (inc other : Incoming T) (further : Note) → any_ended n ≡ true → any_comes_out m n inc further ≡ any_comes_out m n other further
any_drops m (Source n) inc other further e = cc
any_drops m (Plain n) inc other further e = plain_drops m n inc other further e
any_drops m (Several n) inc other further e = several_drops m n inc other further e
any_drops m (PublishOn n) inc other further e = publish_drops m n inc other further e
any_drops m (PublishOnEager n) inc other further e = eager_drops m n inc other further e
any_drops m (Window n) inc other further e = window_drops m n inc other further e
any_drops m (FlatMap n) inc other further e = flat_drops m n inc other further e
any_drops m (FlatMapDelay n) inc other further e = flat_delay_drops m n inc other further e
any_drops m (GroupBy n) inc other further e = group_drops m n inc other further e

-- nor once it offers its ending
pub any_ends : {T : Type 0} (m : Meaning T) (n : AnyNode T) (s : Signal T) (inc other : Incoming T) (further : Note) → any_waiting m n ≡ Some s → ends_input s ≡ true → any_comes_out m n inc further ≡ any_comes_out m n other further
any_ends m (Source n) s inc other further w e = source_ends m n s inc other further w e
any_ends m (Plain n) s inc other further w e = plain_ends m n s inc other further w e
any_ends m (Several n) s inc other further w e = several_ends m n s inc other further w e
any_ends m (PublishOn n) s inc other further w e = publish_ends m n s inc other further w e
any_ends m (PublishOnEager n) s inc other further w e = eager_ends m n s inc other further w e
any_ends m (Window n) s inc other further w e = window_ends m n s inc other further w e
any_ends m (FlatMap n) s inc other further w e = flat_ends m n s inc other further w e
any_ends m (FlatMapDelay n) s inc other further w e = flat_delay_ends m n s inc other further w e
any_ends m (GroupBy n) s inc other further w e = group_ends m n s inc other further w e

-- a node that offers its ending reads no hub
pub any_ends_reading : {T : Type 0} (m : Meaning T) (n : AnyNode T) (s : Signal T) → any_waiting m n ≡ Some s → ends_input s ≡ true → any_reads n ≡ None
any_ends_reading m (Source n) s w e = source_ends_reading m n s w e
any_ends_reading m (Plain n) s w e = refl
any_ends_reading m (Several n) s w e = refl
any_ends_reading m (PublishOn n) s w e = refl
any_ends_reading m (PublishOnEager n) s w e = refl
any_ends_reading m (Window n) s w e = refl
any_ends_reading m (FlatMap n) s w e = refl
any_ends_reading m (FlatMapDelay n) s w e = refl
any_ends_reading m (GroupBy n) s w e = refl

-- what comes in at an input whose completion was taken no longer matters
pub any_done_drops : {T : Type 0} (m : Meaning T) (n : AnyNode T) (hubs before after : List (Stream T)) (v w : Stream T) (further : Note) → any_done n (length before) ≡ true →
    any_comes_out m n (incoming_of hubs (before ++ v ∷ after)) further ≡ any_comes_out m n (incoming_of hubs (before ++ w ∷ after)) further
any_done_drops m (Source n) hubs before after v w further d = cc
any_done_drops m (Plain n) hubs before after v w further d = cc
any_done_drops m (Several n) hubs before after v w further d = several_done_drops m n hubs before after v w further d
any_done_drops m (PublishOn n) hubs before after v w further d = publish_done_drops m n hubs before after v w further d
any_done_drops m (PublishOnEager n) hubs before after v w further d = eager_done_drops m n hubs before after v w further d
any_done_drops m (Window n) hubs before after v w further d = window_done_drops m n hubs before after v w further d
any_done_drops m (FlatMap n) hubs before after v w further d = flat_done_drops m n hubs before after v w further d
any_done_drops m (FlatMapDelay n) hubs before after v w further d = flat_delay_done_drops m n hubs before after v w further d
any_done_drops m (GroupBy n) hubs before after v w further d = group_done_drops m n hubs before after v w further d

-- something comes out where nothing more is chosen
pub any_settles : {T : Type 0} (m : Meaning T) (n : AnyNode T) (inc : Incoming T) → (v : Stream T) × (any_comes_out m n inc (unchosen (any_recorded n)) ≡ Some v)
any_settles m (Source n) inc = source_settles m n inc
any_settles m (Plain n) inc = (_, refl)
any_settles m (Several n) inc = several_settles m n inc
any_settles m (PublishOn n) inc = publish_settles m n inc
any_settles m (PublishOnEager n) inc = eager_settles m n inc
any_settles m (Window n) inc = (_, refl)
any_settles m (FlatMap n) inc = flat_settles m n inc
any_settles m (FlatMapDelay n) inc = flat_delay_settles m n inc
any_settles m (GroupBy n) inc = group_settles m n inc

-- once it has ended, a signal waits
pub any_ending_waits : {T : Type 0} (m : Meaning T) (n : AnyNode T) (asked sent : ℕ) → any_ended n ≡ true → any_waiting m n ≡ None → sent < asked → CanStep any_picks any_rows n asked sent
any_ending_waits m (Source n) asked sent e none more = cc
any_ending_waits m (Plain n) asked sent e none more = elim (plain_ending_waits m n asked sent e none more) [ inl k ↦ inl k | inr k ↦ inr k ]
any_ending_waits m (Several n) asked sent e none more = elim (several_ending_waits m n asked sent e none more) [ inl k ↦ inl k | inr k ↦ inr k ]
any_ending_waits m (PublishOn n) asked sent e none more = elim (publish_ending_waits m n asked sent e none more) [ inl k ↦ inl k | inr k ↦ inr k ]
any_ending_waits m (PublishOnEager n) asked sent e none more = elim (eager_ending_waits m n asked sent e none more) [ inl k ↦ inl k | inr k ↦ inr k ]
any_ending_waits m (Window n) asked sent e none more = elim (window_ending_waits m n asked sent e none more) [ inl k ↦ inl k | inr k ↦ inr k ]
any_ending_waits m (FlatMap n) asked sent e none more = elim (flat_ending_waits m n asked sent e none more) [ inl k ↦ inl k | inr k ↦ inr k ]
any_ending_waits m (FlatMapDelay n) asked sent e none more = elim (flat_delay_ending_waits m n asked sent e none more) [ inl k ↦ inl k | inr k ↦ inr k ]
any_ending_waits m (GroupBy n) asked sent e none more = elim (group_ending_waits m n asked sent e none more) [ inl k ↦ inl k | inr k ↦ inr k ]

-- it isn't stuck
pub any_hungry : {T : Type 0} (m : Meaning T) (n : AnyNode T) (taken : List ℕ) (asked sent : ℕ) → any_ended n ≡ false → any_counted n taken sent → any_waiting m n ≡ None → sent < asked → AreWithin taken →
    IsHungry any_takes any_picks any_rows any_done any_wanted any_reads n taken asked sent
any_hungry m (Source n) taken asked sent still counted waits more within = elim (source_hungry m n taken asked sent refl counted waits more within) [
  | inl k ↦ inl k
  | inr y ↦ elim y [
    | inl k ↦ inr (inl k)
    | inr z ↦ elim z [ inl k ↦ let w = k.wants in absurd (omega (arith, w)) | inr r ↦ inr (inr (inr r)) ]
  ]
]
any_hungry m (Plain n) taken asked sent still counted waits more within = elim (plain_hungry m n taken asked sent still counted waits more within) [
  | inl k ↦ inl k
  | inr y ↦ elim y [
    | inl k ↦ inr (inl k)
    | inr z ↦ elim z [
      | inl k ↦ inr (inr (inl (record { i = k.i; c = k.c; at = k.at; open_still = k.open_still; takes_any = k.takes_any; wants = k.wants })))
      | inr r ↦ inr (inr (inr r))
    ]
  ]
]
any_hungry m (Several n) taken asked sent still counted waits more within = elim (several_hungry m n taken asked sent still counted waits more within) [
  | inl k ↦ inl k
  | inr y ↦ elim y [
    | inl k ↦ inr (inl k)
    | inr z ↦ elim z [
      | inl k ↦ inr (inr (inl (record { i = k.i; c = k.c; at = k.at; open_still = k.open_still; takes_any = k.takes_any; wants = k.wants })))
      | inr r ↦ inr (inr (inr r))
    ]
  ]
]
any_hungry m (PublishOn n) taken asked sent still counted waits more within = elim (publish_hungry m n taken asked sent still counted waits more within) [
  | inl k ↦ inl k
  | inr y ↦ elim y [
    | inl k ↦ inr (inl k)
    | inr z ↦ elim z [
      | inl k ↦ inr (inr (inl (record { i = k.i; c = k.c; at = k.at; open_still = k.open_still; takes_any = k.takes_any; wants = k.wants })))
      | inr r ↦ inr (inr (inr r))
    ]
  ]
]
any_hungry m (PublishOnEager n) taken asked sent still counted waits more within = elim (eager_hungry m n taken asked sent still counted waits more within) [
  | inl k ↦ inl k
  | inr y ↦ elim y [
    | inl k ↦ inr (inl k)
    | inr z ↦ elim z [
      | inl k ↦ inr (inr (inl (record { i = k.i; c = k.c; at = k.at; open_still = k.open_still; takes_any = k.takes_any; wants = k.wants })))
      | inr r ↦ inr (inr (inr r))
    ]
  ]
]
any_hungry m (Window n) taken asked sent still counted waits more within = elim (window_hungry m n taken asked sent still counted waits more within) [
  | inl k ↦ inl k
  | inr y ↦ elim y [
    | inl k ↦ inr (inl k)
    | inr z ↦ elim z [
      | inl k ↦ inr (inr (inl (record { i = k.i; c = k.c; at = k.at; open_still = k.open_still; takes_any = k.takes_any; wants = k.wants })))
      | inr r ↦ inr (inr (inr r))
    ]
  ]
]
any_hungry m (FlatMap n) taken asked sent still counted waits more within = elim (flat_hungry m n taken asked sent still counted waits more within) [
  | inl k ↦ inl k
  | inr y ↦ elim y [
    | inl k ↦ inr (inl k)
    | inr z ↦ elim z [
      | inl k ↦ inr (inr (inl (record { i = k.i; c = k.c; at = k.at; open_still = k.open_still; takes_any = k.takes_any; wants = k.wants })))
      | inr r ↦ inr (inr (inr r))
    ]
  ]
]
any_hungry m (FlatMapDelay n) taken asked sent still counted waits more within = elim (flat_delay_hungry m n taken asked sent still counted waits more within) [
  | inl k ↦ inl k
  | inr y ↦ elim y [
    | inl k ↦ inr (inl k)
    | inr z ↦ elim z [
      | inl k ↦ inr (inr (inl (record { i = k.i; c = k.c; at = k.at; open_still = k.open_still; takes_any = k.takes_any; wants = k.wants })))
      | inr r ↦ inr (inr (inr r))
    ]
  ]
]
any_hungry m (GroupBy n) taken asked sent still counted waits more within = elim (group_hungry m n taken asked sent still counted waits more within) [
  | inl k ↦ inl k
  | inr y ↦ elim y [
    | inl k ↦ inr (inl k)
    | inr z ↦ elim z [
      | inl k ↦ inr (inr (inl (record { i = k.i; c = k.c; at = k.at; open_still = k.open_still; takes_any = k.takes_any; wants = k.wants })))
      | inr r ↦ inr (inr (inr r))
    ]
  ]
]
