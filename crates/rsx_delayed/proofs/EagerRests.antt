-- Nothing comes out of the identity whose failure may overtake items of which nothing can be picked, and at which nothing more comes in.
use Rattle.std.proofs.Common.{◌≡◌, ◌⊎◌, inl, inr, ℕ, ◌<◌, ◌^◌, true, false, List, [], ◌∷◌, slice_get, Some, None, ap, sym, ◌∙◌, subst}
use Rattle.std.proofs.lemmas.Bool.{both_ways}
use Rattle.rsx_sources.specs.Prelude.{Picks, Open, Meaning, Stream, ended_by, AreWithin, Incoming}
use Rattle.rsx_sources.specs.declared.machine.Front.{Front}
use Rattle.rsx_sources.specs.declared.machine.Front.TheVariants.{Item}
use Rattle.rsx_queued.specs.declared.tail.Tail.{Tail}
use Rattle.rsx_queued.specs.declared.tail.Tail.TheVariants as tail
use Rattle.rsx_queued.specs.Prelude.{first_held, held_then, unless_taken}
use Rattle.rsx_merging.specs.PublishOn.{or_done, publish_waiting}
use Rattle.rsx_delayed.specs.PublishOnEager.{all_left, eager_comes_out, eager_done, eager_picks, eager_takes, eager_waiting, eager_wanted, IsEagerCounted}
use Rattle.rsx_delayed.specs.PublishOnEagerLaws.{CanChoose, choices_of, nothing_chosen, waits_for_more}
use Rattle.rsx_delayed.specs.declared.publish_on_eager_node.PublishOnEagerNode.{PublishOnEagerNode}
use Rattle.rsx_delayed.proofs.EagerMoves.{one_input}

left_open : {T : Type 0} (t : Tail) (xs : List T) (v : Stream T) → t ≡ tail.Open → unless_taken t (first_held xs t) ≡ None → v ≡ ended_by Open → or_done (unless_taken t (Some (held_then xs t v))) ≡ ended_by Open
left_open tail.Open [] v o w e = e
left_open tail.Open (x ∷ xs) v o w e = cc
left_open tail.Completion xs v o w e = cc
left_open (tail.Failure c) xs v o w e = cc
left_open tail.Taken xs v o w e = cc

-- nothing can be picked, and where more is wanted of the input than it gave, nothing comes in there
pub eager_rests : {T : Type 0} (m : Meaning T) (n : PublishOnEagerNode T) (taken : List ℕ) (asked sent : ℕ) (inc : Incoming T) → IsEagerCounted n taken sent → eager_waiting m n ≡ None → sent < asked → AreWithin taken →
    ((i : ℕ) → i < 2 ^ 64 → eager_picks n i asked sent ≡ false) → ((c : ℕ) → slice_get taken 0 ≡ Some c → eager_done n 0 ≡ false → ((f : Front) → eager_takes n 0 f ≡ true) → c < eager_wanted n 0 asked sent → inc.first ≡ ended_by Open) → eager_comes_out m n inc (Picks []) ≡ Some (ended_by Open)
eager_rests {T} m n taken asked sent inc counted waits more within picks none = by_choice (choices_of m n taken sent counted waits within)
  where
    nothing : n.held.input.tail ≡ tail.Open → publish_waiting m n.held ≡ None → inc.first ≡ ended_by Open
    nothing o w =
        let k = waits_for_more m n taken asked sent counted o w more within in
        let here : k.i ≡ 0 = one_input n k.i Item (k.takes_any Item) in
        none k.c (ap (slice_get taken) (sym here) ∙ k.at) k.open_still (λ f. subst (λ i. eager_takes n i f ≡ true) here (k.takes_any f)) (subst (λ i. k.c < eager_wanted n i asked sent) here k.wants)

    by_choice : CanChoose n.chosen n.held.input.tail n.held.input.queue.items n.choices ⊎ ((n.held.input.tail ≡ tail.Open) × (publish_waiting m n.held ≡ None)) → eager_comes_out m n inc (Picks []) ≡ Some (ended_by Open)
    by_choice (inl p) = absurd (both_ways (eager_picks n p.i asked sent) (picks p.i p.low) p.picks)
    by_choice (inr w) = nothing_chosen n.chosen (all_left n inc) ∙ ap Some (left_open n.held.input.tail n.held.input.queue.items inc.first w.0 w.1 (nothing w.0 w.1))
