-- An item that goes through an empty queue in one go.
use Rattle.std.proofs.lemmas.Bool.{and_parts, eqb-true}
use Rattle.std.proofs.Common.{◌≡◌, ℕ, ◌+◌, ◌==◌, true, false, List, [], ◌∷◌, refl, sym, ap, ◌∙◌, subst, arith}
use Rattle.rsx_sources.specs.Prelude.{Nothing, Next, Meaning, taken_after, IsPassed}
use Rattle.rsx_sources.specs.declared.machine.Front.TheVariants.{Item}
use Rattle.rsx_sources.specs.declared.machine.Passed.TheVariants.{Item as ItemOut}
use Rattle.rsx_prefetch.specs.Queue.{queue}
use Rattle.rsx_queued.specs.declared.tail.Tail.{Tail}
use Rattle.rsx_queued.specs.declared.tail.Tail.TheVariants.{Open, Completion, Failure, Taken}
use Rattle.rsx_queued.specs.Input.{takes}
use Rattle.rsx_merging.specs.declared.publish_on_node.PublishOnNode.{PublishOnNode}
use Rattle.rsx_merging.specs.PublishOn.{publish_comes_out, publish_waiting, publish_takes, publish_popped, publish_counted, publish_ended}
use Rattle.rsx_sources.proofs.Slots.{quiet_then}

-- the node with these items and this ending in its queue
abbrev node_of : {T : Type 0} → Tail → List T → ℕ → ℕ → PublishOnNode T
node_of t xs p k = record { input = record { queue = queue xs p k; tail = t } }

-- the item x of input i goes through a node, which is then as it was
abbrev GoesThrough : {T : Type 0} → Meaning T → PublishOnNode T → ℕ → T → Type 0
GoesThrough m n i x = IsPassed (publish_comes_out m) (publish_waiting m) publish_takes publish_popped (λ k. Nothing) publish_counted publish_ended (λ k j. false) n i x (ItemOut x) n

one_more : (k : ℕ) → (k + 0) + 1 ≡ k + 1
one_more k = omega arith

one_sent : (k : ℕ) → k + 1 ≡ (k + 1) + 0
one_sent k = omega arith

through_open : {T : Type 0} (m : Meaning T) (t : Tail) (xs : List T) (p k : ℕ) (x : T) → xs ≡ [] → takes (node_of t xs p k).input Item ≡ true → GoesThrough m (node_of t xs p k) 0 x
through_open m Open [] p k x e room = (
  node_of Open (x ∷ []) p k,
  record {
    enabled = room;
    value = λ inc further. refl;
    notes = refl;
    counts = record {
      stays_ended = λ e. cc;
      counts = λ still taken sent c. (refl, c.1, ap (taken_after 0 (Next x)) c.2 ∙ ap (λ l. l ∷ []) (one_more sent));
      stays_done = λ j h. h;
      is_done = λ still e. cc;
    };
    goes_on = refl;
  },
  record {
    waited = refl;
    popped_out = (refl, room);
    value = λ inc further. quiet_then (Next x) further inc.first;
    notes = refl;
    counts = (refl, λ taken sent c. (refl, c.1, c.2 ∙ ap (λ l. l ∷ []) (one_sent sent)), λ j h. h);
  },
)
through_open m Open (y ∷ xs) p k x e room = cc
through_open m Completion xs p k x e room = cc
through_open m (Failure c) xs p k x e room = cc
through_open m Taken xs p k x e room = cc

pub goes_through : {T : Type 0} (m : Meaning T) (n : PublishOnNode T) (i : ℕ) (x : T) → n.input.queue.items ≡ [] → publish_takes n i Item ≡ true → GoesThrough m n i x
goes_through m n i x empty can =
    let first : i ≡ 0 = eqb-true i 0 (and_parts (i == 0) (takes n.input Item) can).0 in
    let P : ℕ → Type 0 = λ j. GoesThrough m n j x in
    subst P (sym first) (through_open m n.input.tail n.input.queue.items n.input.queue.capacity n.input.queue.taken x empty (and_parts (i == 0) (takes n.input Item) can).1)
