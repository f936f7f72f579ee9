-- An item that goes through an empty queue at once.
use Rattle.std.proofs.Common.{◌≡◌, ℕ, ◌+◌, ◌<◌, true, false, ◌&&◌, ◌||◌, List, [], ◌∷◌, Option, Some, None, refl, ap, sym, ◌∙◌, subst, arith, option_map, inl, inr}
use Rattle.std.specs.Option.{is_some}
use Rattle.std.proofs.lemmas.Bool.{lt-ltb, true≢false}
use Rattle.rsx_sources.specs.Prelude.{CAPACITY, Note, Next, Meaning, Stream, signal_then, front_of, IsItemOut, IsItemOutBy, IsRowDone, IsStepDone, IsSteppedOut, is_nil}
use Rattle.rsx_sources.specs.declared.machine.Front.{Front}
use Rattle.rsx_sources.specs.declared.machine.Front.TheVariants.{Item}
use Rattle.rsx_sources.specs.declared.machine.Machine.{Ghosts as Machine}
use Rattle.rsx_queued.specs.declared.queued.Queued.{Queued}
use Rattle.rsx_queued.specs.declared.sender.Sender.TheVariants.{Crossing}
use Rattle.rsx_queued.specs.declared.tail.Tail.{Tail}
use Rattle.rsx_queued.specs.declared.tail.Tail.TheVariants.{Open, Completion, Failure, Taken}
use Rattle.rsx_queued.specs.Held.{held_then, is_open}
use Rattle.rsx_queued.specs.QueuedLaws.{Shows}
use Rattle.rsx_queued.specs.Queued.{queued_comes_out, queued_waiting, queued_picks, queued_rows, queued_recording, queued_popped, queued_counted, queued_ended, queued_done, can_move, can_transfer, node_sent, note_of_shown, pop_note, row_by}
use Rattle.rsx_queued.specs.Sender.{sender_comes_out, sender_waiting, sender_picks, sender_rows, sender_rowed, sender_popped, sender_recording, sender_recorded, sender_counted, sender_ended, sender_done}
use Rattle.rsx_queued.specs.Transfer.{IsQueuedRow}

-- a step of a node with its queue, and then the item out
abbrev IsGone : {M T : Type 0} → Machine M T → Meaning T → Queued M T → ℕ → ℕ → Option T → Queued M T → Type 0
IsGone b m old asked taken o new = IsSteppedOut (queued_comes_out b m) (queued_waiting m) (queued_picks b) (queued_rows b) (IsQueuedRow b) queued_popped (queued_recording b) (λ k. b.recorded k.node) (queued_counted b) (queued_ended b) (queued_done b) old asked taken o new

-- a node with these items in its queue, and no ending
abbrev pub holding : {M T : Type 0} → M → List T → Queued M T
holding n q = record { node = n; queue = q; tail = Open }

through : {T : Type 0} (x : T) (o : Option (Stream T)) → option_map (held_then (x ∷ []) Open) o ≡ option_map (held_then [] Open) (option_map (signal_then (Next x)) o)
through x None = refl
through x (Some v) = refl

leaves : {T : Type 0} (x : T) (o : Option (Stream T)) → option_map (held_then (x ∷ []) Open) o ≡ option_map (signal_then (Next x)) (option_map (held_then [] Open) o)
leaves x None = refl
leaves x (Some v) = refl

pub row_at : {M T : Type 0} (b : Machine M T) (m : Meaning T) → Shows b m → (n n' : M) (asked taken : ℕ) (x : T) → can_move {T = T} (b.shown n) [] Open asked taken ≡ true → pop_note b n ≡ None → IsItemOut (b.comes_out m) (b.waiting m) b.popped b.recorded b.counted b.ended b.done n x n' →
    IsRowDone (queued_comes_out b m) (queued_rows b) (IsQueuedRow b) (λ k. b.recorded k.node) (queued_counted b) (queued_ended b) (queued_done b) (holding n []) asked taken (holding n' (x ∷ []))
row_at {T = T} b m shows n n' asked taken x can none out = record {
  enabled =
      ap (λ k. row_by k (can_move {T = T} (b.shown n) [] Open asked taken || (true && b.rows n asked (node_sent {T = T} [] asked taken)))) none
      ∙ ap (λ c. c || (true && b.rows n asked (node_sent {T = T} [] asked taken))) can;
  row = record {
    over = λ e. record { signal = Next x; shown = shows n ∙ ap (option_map front_of) out.waited; popped = out.popped_out; was_open = refl; pushed = (refl, refl) };
    inside = λ e. absurd (true≢false (sym can ∙ e));
  };
  value = λ inc k. through x (b.comes_out m n' inc k) ∙ sym (ap (option_map (held_then [] Open)) (out.value inc k));
  notes = out.notes;
  counts = record {
    stays_ended = λ e. out.counts.0 ∙ e;
    counts = λ e took sent h.
        let P : ℕ → Type 0 = λ k. b.counted n' took k in
        let more : sent + 0 + 1 ≡ sent + 1 = omega arith in
        (refl, subst P more (out.counts.1 took (sent + 0) h.1));
    stays_done = λ j d. out.counts.2 j d;
  };
}

pub out_at : {M T : Type 0} (b : Machine M T) (m : Meaning T) (n' : M) (x : T) → IsItemOut (queued_comes_out b m) (queued_waiting m) queued_popped (λ k. b.recorded k.node) (queued_counted b) (queued_ended b) (queued_done b) (holding n' (x ∷ [])) x (holding n' [])
out_at b m n' x = record {
  waited = refl;
  popped_out = (refl, refl, refl, room);
  value = λ inc k. leaves x (b.comes_out m n' inc k);
  notes = refl;
  counts = (
    refl,
    (λ took sent h.
        let P : ℕ → Type 0 = λ k. b.counted n' took k in
        let same : sent + 1 ≡ sent + 1 + 0 = omega arith in
        (refl, subst P same h.1)),
    λ j d. d,
  );
}
  where
    room : 0 < CAPACITY
    room = omega arith

-- the queue was empty, the item could go into it, and it went out of the node
pub gone : {M T : Type 0} (b : Machine M T) (m : Meaning T) → Shows b m → (old : Queued M T) (n' : M) (asked taken : ℕ) (x : T) → true ≡ is_nil old.queue → true ≡ can_transfer b old asked taken → pop_note b old.node ≡ None → IsItemOut (b.comes_out m) (b.waiting m) b.popped b.recorded b.counted b.ended b.done old.node x n' →
    IsGone b m old asked taken (Some x) (record { node = n'; queue = old.queue; tail = old.tail })
gone {M} {T} b m shows old n' asked taken x none can unnoted out =
    let R : List T → Tail → Type 0 = λ q t. IsGone b m (record { node = old.node; queue = q; tail = t }) asked taken (Some x) (record { node = n'; queue = q; tail = t }) in
    let empty : old.queue ≡ [] = nil old.queue none in
    let move : can_move {T = T} (b.shown old.node) [] old.tail asked taken ≡ true = sym (ap (λ q. can_move (b.shown old.node) q old.tail asked taken) empty) ∙ sym can in
    subst (λ q. R q old.tail) (sym empty) (by old.tail move)
  where
    nil : (q : List T) → true ≡ is_nil q → q ≡ []
    nil [] e = refl
    nil (y ∷ ys) e = cc

    by : (t : Tail) → can_move {T = T} (b.shown old.node) [] t asked taken ≡ true → IsGone b m (record { node = old.node; queue = []; tail = t }) asked taken (Some x) (record { node = n'; queue = []; tail = t })
    by Open e = (holding n' (x ∷ []), inr (row_at b m shows old.node n' asked taken x e unnoted out), out_at b m n' x)
    by Completion e = cc
    by (Failure c) e = cc
    by Taken e = cc

-- a node that doesn't record what goes out let the item go, and the queue may take it without a record
unnoted_by : (p : Option Note) (f : Option Front) → false ≡ is_some p → note_of_shown p f ≡ None
unnoted_by None f e = refl
unnoted_by (Some k) f e = cc

pub unnoted : {M T : Type 0} (b : Machine M T) (n : M) → false ≡ is_some (b.popping n) → pop_note b n ≡ None
unnoted b n e = unnoted_by (b.popping n) (b.shown n) e

unnoted_item : {M T : Type 0} (b : Machine M T) (m : Meaning T) (p : Option Note) (n n' : M) (x : T) → false ≡ is_some p → IsItemOutBy (b.comes_out m) (b.waiting m) b.popped b.recorded b.counted b.ended b.done p n x n' →
    IsItemOut (b.comes_out m) (b.waiting m) b.popped b.recorded b.counted b.ended b.done n x n'
unnoted_item b m None n n' x e h = h
unnoted_item b m (Some k) n n' x e h = cc

pub plain_item : {M T : Type 0} (b : Machine M T) (m : Meaning T) (n n' : M) (x : T) → false ≡ is_some (b.popping n) → IsItemOutBy (b.comes_out m) (b.waiting m) b.popped b.recorded b.counted b.ended b.done (b.popping n) n x n' →
    IsItemOut (b.comes_out m) (b.waiting m) b.popped b.recorded b.counted b.ended b.done n x n'
plain_item b m n n' x e h = unnoted_item b m (b.popping n) n n' x e h

-- where an item waits in the node, the queue is empty and open, and fewer items were sent than asked for, that item could go into it
pub could : {M T : Type 0} (b : Machine M T) (m : Meaning T) → Shows b m → (old : Queued M T) (asked taken : ℕ) (x : T) → true ≡ is_nil old.queue → true ≡ is_open old.tail → node_sent old.queue asked taken < asked → b.waiting m old.node ≡ Some (Next x) →
    true ≡ can_transfer b old asked taken
could {T = T} b m shows old asked taken x none opened less waited =
    sym (by (b.shown old.node) old.queue old.tail none opened (shows old.node ∙ ap (option_map front_of) waited) less)
  where
    by : (f : Option Front) (q : List T) (t : Tail) → true ≡ is_nil q → true ≡ is_open t → f ≡ Some Item → node_sent q asked taken < asked → can_move f q t asked taken ≡ true
    by f [] Open e o shown l = subst (λ g. can_move {T = T} g [] Open asked taken ≡ true) (sym shown) (lt-ltb (node_sent {T = T} [] asked taken) asked l)
    by f (y ∷ ys) t e o shown l = cc
    by f [] Completion e o shown l = cc
    by f [] (Failure c) e o shown l = cc
    by f [] Taken e o shown l = cc

step_over : {M T : Type 0} (b : Machine M T) (m : Meaning T) (old mid : Queued M T) (asked taken : ℕ) → IsStepDone (queued_comes_out b m) (queued_picks b) (queued_rows b) (IsQueuedRow b) (queued_recording b) (λ k. b.recorded k.node) (queued_counted b) (queued_ended b) (queued_done b) old asked taken mid →
    IsStepDone (sender_comes_out b m) (sender_picks b) (sender_rows b) (sender_rowed b) (sender_recording b) (sender_recorded b) (sender_counted b) (sender_ended b) (sender_done b) (Crossing old) asked taken (Crossing mid)
step_over b m old mid asked taken (inl p) =
    let h = p.1 in
    let k = h.counts in
    inl (p.0, record { enabled = h.enabled; value = h.value; notes = h.notes; composes = h.composes; counts = record { stays_ended = k.stays_ended; counts = k.counts; stays_done = k.stays_done } })
step_over b m old mid asked taken (inr h) =
    let k = h.counts in
    inr (record { enabled = h.enabled; row = h.row; value = h.value; notes = h.notes; counts = record { stays_ended = k.stays_ended; counts = k.counts; stays_done = k.stays_done } })

-- the same of a sender whose edge crosses
pub gone_over : {M T : Type 0} (b : Machine M T) (m : Meaning T) (old new : Queued M T) (asked taken : ℕ) (o : Option T) → IsGone b m old asked taken o new →
    IsSteppedOut (sender_comes_out b m) (sender_waiting b m) (sender_picks b) (sender_rows b) (sender_rowed b) (sender_popped b) (sender_recording b) (sender_recorded b) (sender_counted b) (sender_ended b) (sender_done b) (Crossing old) asked taken o (Crossing new)
gone_over b m old new asked taken None h = ap Crossing h
gone_over b m old new asked taken (Some x) h =
    let o = h.2 in (
      Crossing h.0,
      step_over b m old h.0 asked taken h.1,
      record { waited = o.waited; popped_out = o.popped_out; value = o.value; notes = o.notes; counts = o.counts },
    )
