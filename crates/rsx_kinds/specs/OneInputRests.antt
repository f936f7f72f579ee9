-- Nothing comes out of a node with one input into which nothing more comes.
use Rattle.std.proofs.Common.{◌≡◌, ℕ, ◌<◌, ◌==◌, ◌&&◌, Bool, false, true, List, [], ◌∷◌, slice_get, Some, None, refl, ap, ◌∙◌, subst, arith}
use Rattle.std.proofs.lemmas.Bool.Decides.{nat_tests}
use Rattle.rsx_sources.specs.Prelude.{Nothing, Open as NotEnded, Signal, Meaning, Stream, ended_by, signals_then, AreWithin, IsHungry, Incoming}
use Rattle.rsx_sources.proofs.Hungry.{wants_input}
use Rattle.rsx_sources.specs.declared.machine.Front.{Front}
use Rattle.rsx_sources.specs.declared.machine.Front.TheVariants.{Item}
use Rattle.rsx_plain.proofs.Drained.{operator_rests}
use Rattle.rsx_plain.specs.State.{plain_from}
use Rattle.rsx_plain.specs.Laws.{plain_hungry}
use Rattle.rsx_plain.specs.Node.{plain_comes_out, plain_counted, plain_ended, plain_takes, plain_waiting, plain_wanted}
use Rattle.rsx_plain.specs.declared.node.PlainNode.{PlainNode}
use Rattle.rsx_queued.specs.declared.tail.Tail.{Tail}
use Rattle.rsx_queued.specs.declared.tail.Tail.TheVariants.{Open, Completion, Failure, Taken}
use Rattle.rsx_queued.specs.Prelude.{first_held, held_then, unless_taken}
use Rattle.rsx_merging.specs.PublishOnLaws.{publish_hungry}
use Rattle.rsx_merging.specs.PublishOn.{or_done, publish_comes_out, publish_counted, publish_ended, publish_takes, publish_waiting, publish_wanted}
use Rattle.rsx_merging.specs.declared.publish_on_node.PublishOnNode.{PublishOnNode}
use Rattle.rsx_window.specs.Laws.{window_hungry}
use Rattle.rsx_window.specs.Window.{window_comes_out, window_done, window_ended, window_takes, window_waiting, window_wanted, CountsItems}
use Rattle.rsx_window.specs.declared.node.WindowNode.{WindowNode}
use Rattle.rsx_window.proofs.NothingLeft.{nothing_left}
use Rattle.rsx_tree.specs.Rests.{NothingComes, coming}

at_first : (i : ℕ) (b : Bool) → (i == 0) && b ≡ true → i ≡ 0
at_first i b e = by_test (i == 0) refl e
  where
    by_test : (t : Bool) → (i == 0) ≡ t → t && b ≡ true → i ≡ 0
    by_test true is e = grind (arith, nat_tests)
    by_test false is e = cc

-- nothing comes in at the input that it takes items of, since it waits for more there
first_rests : {S T : Type 0} (takes : S → ℕ → Front → Bool) (done : S → ℕ → Bool) (wanted : S → ℕ → ℕ → ℕ → ℕ) (n : S) (taken : List ℕ) (asked sent : ℕ) (inc : Incoming T) → ((i : ℕ) → takes n i Item ≡ true → i ≡ 0) →
    IsHungry takes (λ k i a s. false) (λ k a s. false) done wanted (λ k. None) n taken asked sent → NothingComes takes done wanted n taken asked sent (inc.first ∷ inc.others) → inc.first ≡ ended_by NotEnded
first_rests takes done wanted n taken asked sent inc one hungry none =
    let k = wants_input takes (λ k i a s. false) (λ k a s. false) done wanted (λ k. None) n taken asked sent hungry (λ i l. refl) refl refl in
    let P : ℕ → Type 0 = λ i. coming (inc.first ∷ inc.others) i ≡ ended_by NotEnded in
    subst P (one k.i (k.takes_any Item)) (none k.i k.c k.at k.open_still k.takes_any k.wants)

-- ---- a plain operator

none_waits : {A : Type 0} (xs : List A) → slice_get xs 0 ≡ None → xs ≡ []
none_waits [] e = refl
none_waits (x ∷ xs) e = cc

pub plain_rests : {T : Type 0} (m : Meaning T) (n : PlainNode T) (taken : List ℕ) (asked sent : ℕ) (inc : Incoming T) → plain_ended n ≡ false → plain_counted n taken sent → plain_waiting m n ≡ None → sent < asked → AreWithin taken →
    NothingComes (λ k i f. plain_takes k i) (λ k i. false) plain_wanted n taken asked sent (inc.first ∷ inc.others) → plain_comes_out m n inc Nothing ≡ Some (ended_by NotEnded)
plain_rests {T} m n taken asked sent inc still counted waits more within none =
    let nothing : inc.first ≡ ended_by NotEnded = first_rests (λ k i f. plain_takes k i) (λ k i. false) plain_wanted n taken asked sent inc (λ i e. at_first i _ e) (plain_hungry m n taken asked sent still counted waits more within) none in
    let S : List (Signal T) → Stream T = λ l. signals_then l (plain_from m n.state inc.first) in
    ap Some (ap S (none_waits n.slot waits) ∙ (ap (plain_from m n.state) nothing ∙ operator_rests m n.state counted.2))

-- ---- a `window`

pub window_rests : {T : Type 0} (m : Meaning T) (n : WindowNode T) (taken : List ℕ) (asked sent : ℕ) (inc : Incoming T) → window_ended n ≡ false → CountsItems n taken sent → window_waiting m n ≡ None → sent < asked → AreWithin taken →
    NothingComes (λ k i f. window_takes k i) window_done window_wanted n taken asked sent (inc.first ∷ inc.others) → window_comes_out m n inc Nothing ≡ Some (ended_by NotEnded)
window_rests m n taken asked sent inc still counted waits more within none =
    nothing_left m n taken sent inc counted waits
    (first_rests (λ k i f. window_takes k i) window_done window_wanted n taken asked sent inc (λ i e. at_first i _ e) (window_hungry m n taken asked sent still counted waits more within) none)

-- ---- an identity over a queue

queue_rests : {T : Type 0} (t : Tail) (xs : List T) (v : Stream T) → t ≡ Open → unless_taken t (first_held xs t) ≡ None → v ≡ ended_by NotEnded → or_done (unless_taken t (Some (held_then xs t v))) ≡ ended_by NotEnded
queue_rests Open [] v o w e = e
queue_rests Open (x ∷ xs) v o w e = cc
queue_rests Completion xs v o w e = cc
queue_rests (Failure c) xs v o w e = cc
queue_rests Taken xs v o w e = cc

pub publish_rests : {T : Type 0} (m : Meaning T) (n : PublishOnNode T) (taken : List ℕ) (asked sent : ℕ) (inc : Incoming T) → publish_ended n ≡ false → publish_counted n taken sent → publish_waiting m n ≡ None → sent < asked → AreWithin taken →
    NothingComes publish_takes (λ k i. false) publish_wanted n taken asked sent (inc.first ∷ inc.others) → publish_comes_out m n inc Nothing ≡ Some (ended_by NotEnded)
publish_rests m n taken asked sent inc still counted waits more within none =
    ap Some (queue_rests n.input.tail n.input.queue.items inc.first counted.0 waits
    (first_rests publish_takes (λ k i. false) publish_wanted n taken asked sent inc (λ i e. at_first i _ e) (publish_hungry m n taken asked sent still counted waits more within) none))
