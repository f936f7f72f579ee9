-- A node makes the batches that the node inside makes, where its edge crosses with a row for each item.
use Rattle.std.proofs.Common.{◌≡◌, ℕ, ◌+◌, ◌<◌, Bool, true, false, ◌||◌, List, [], ◌∷◌, inl, inr, Option, None, option_map, refl, ap, sym, ◌∙◌, subst, arith}
use Rattle.rsx_queued.proofs.Going.{could, holding, out_at, row_at}
use Rattle.rsx_queued.specs.Held.{held_then, is_open}
use Rattle.rsx_queued.specs.Queued.{node_sent, note_of_shown}
use Rattle.rsx_queued.specs.QueuedLaws.{Shows}
use Rattle.rsx_queued.specs.declared.queued.Queued.{Queued}
use Rattle.rsx_queued.specs.declared.tail.Tail.{Tail}
use Rattle.rsx_queued.specs.declared.tail.Tail.TheVariants.{Open, Completion, Failure, Taken}
use Rattle.rsx_tree.specs.Allocates.{IsNodeAlike}
use Rattle.rsx_tree.specs.Stepped.{IsStepOf}
use Rattle.rsx_queued.proofs.Senders.{passed_direct}
use Rattle.rsx_queued.specs.Sender.{is_crossing, sender_popping, sender_comes_out, sender_waiting, sender_shown, sender_takes, sender_picks, sender_rows, sender_rowed, sender_took, sender_heard, sender_picked, sender_recording, sender_recorded, sender_ended, sender_done, sender_counted, sender_wanted, sender_accepts, sender_popped, sender_pop_allocates, sender_signal_allocates, sender_step_allocates, sender_reads, sender_rooms}
use Rattle.rsx_queued.specs.declared.sender.Sender.{Sender}
use Rattle.rsx_queued.specs.declared.sender.Sender.TheVariants.{Direct, Crossing}
use Rattle.rsx_sources.specs.Prelude.{Meaning, Note}
use Rattle.rsx_sources.specs.declared.machine.Front.{Front}
use Rattle.rsx_sources.specs.declared.machine.Machine.{Ghosts as Machine}
use Rattle.rsx_sources.specs.declared.machine.Passed.TheVariants.{Kept}
use Rattle.rsx_rooted.specs.Items.{ArePassed, ArePopped, IsIn, IsOutBy, IsOut}
use Rattle.rsx_rooted.specs.Taking.{IsItemTaken}
use Rattle.rsx_rooted.specs.Went.{inside, sender_went}
use Rattle.rsx_rooted.specs.declared.batch.Noted.{Noted}
use Rattle.rsx_rooted.proofs.OneByOne.{passed_in, popped_in}

-- the meaning of such a node
abbrev pub sender_machine : {M T : Type 0} → Machine M T → Machine (Sender M T) T
sender_machine b = record {
  comes_out = sender_comes_out b;
  waiting = sender_waiting b;
  shown = sender_shown b;
  takes = sender_takes b;
  picks = sender_picks b;
  rows = sender_rows b;
  rowed = sender_rowed b;
  took = sender_took b;
  heard = sender_heard b;
  picked = sender_picked b;
  recording = sender_recording b;
  recorded = sender_recorded b;
  ended = sender_ended b;
  done = sender_done b;
  counted = sender_counted b;
  wanted = sender_wanted b;
  accepts = sender_accepts b;
  popping = sender_popping b;
  popped = sender_popped b;
  reads = sender_reads b;
  rooms = sender_rooms b;
  crosses = is_crossing;
  pop_allocates = sender_pop_allocates b;
  signal_allocates = sender_signal_allocates b;
  step_allocates = sender_step_allocates b;
}

in_direct : {M T : Type 0} (b : Machine M T) (m : Meaning T) (i : ℕ) (s : M) (x : T) (t : M) → IsIn b m i s x t → IsIn (sender_machine b) m i (Direct s) x (Direct t)
in_direct b m i s x t h = (passed_direct b m s t i x Kept h.0, (h.1.0, (refl, h.1.1.1)))

out_direct : {M T : Type 0} (b : Machine M T) (m : Meaning T) (s : M) (x : T) (t : M) → IsOut b m s x t → IsOut (sender_machine b) m (Direct s) x (Direct t)
out_direct b m s x t h = (record { waited = h.0.waited; popped_out = h.0.popped_out; value = h.0.value; notes = h.0.notes; counts = h.0.counts }, (h.1.0, (refl, h.1.1.1)), h.2)

step_direct : {M T : Type 0} (b : Machine M T) (m : Meaning T) (s : M) (asked sent : ℕ) (t : M) → IsStepOf b m s asked sent t → IsStepOf (sender_machine b) m (Direct s) asked sent (Direct t)
step_direct b m s asked sent t (inl p) =
    let h = p.1 in
    let k = h.counts in
    inl (p.0, record { can = h.can; value = h.value; recorded = h.recorded; composes = h.composes; counts = record { stays_ended = k.stays_ended; counts = k.counts; stays_done = k.stays_done }; alike = (h.alike.0, (refl, h.alike.1.1)) })
step_direct b m s asked sent t (inr h) =
    let k = h.counts in
    inr (record { can = h.can; row = h.row; value = h.value; recorded = h.recorded; counts = record { stays_ended = k.stays_ended; counts = k.counts; stays_done = k.stays_done }; alike = (h.alike.0, (refl, h.alike.1.1)) })

out_direct_by : {M T : Type 0} (b : Machine M T) (m : Meaning T) (by : Bool) (s : M) (x : T) (t : M) → IsOutBy b m by s x t → IsOutBy (sender_machine b) m by (Direct s) x (Direct t)
out_direct_by b m false s x t h = out_direct b m s x t h
out_direct_by b m true s x t h = λ asked sent less.
    let o = h asked sent less in
    (Direct o.0, step_direct b m s asked sent o.0 o.1, o.2, out_direct b m o.0 x t o.3)

pub passed_direct_all : {M T : Type 0} (b : Machine M T) (went : M → Noted T → M → Type 0) (m : Meaning T) (i : ℕ) (n : M) (noted : Noted T) (xs ys : List T) → ((new : M) → went n noted new → ArePassed (IsIn b m i) (IsOutBy b m noted.by_step) n xs ys new) →
    (new : Sender M T) → sender_went went (Direct n) noted new → ArePassed (IsIn (sender_machine b) m i) (IsOutBy (sender_machine b) m noted.by_step) (Direct n) xs ys new
passed_direct_all b went m i n noted xs ys h (Direct k) w = passed_in Direct (IsIn b m i) (IsOutBy b m noted.by_step) (IsIn (sender_machine b) m i) (IsOutBy (sender_machine b) m noted.by_step) (in_direct b m i) (out_direct_by b m noted.by_step) xs ys n k (h k w)
passed_direct_all b went m i n noted xs ys h (Crossing k) w = absurd w

pub popped_direct_all : {M T : Type 0} (b : Machine M T) (went : M → Noted T → M → Type 0) (m : Meaning T) (n : M) (noted : Noted T) (xs : List T) → ((new : M) → went n noted new → ArePopped (IsOutBy b m noted.by_step) n xs new) →
    (new : Sender M T) → sender_went went (Direct n) noted new → ArePopped (IsOutBy (sender_machine b) m noted.by_step) (Direct n) xs new
popped_direct_all b went m n noted xs h (Direct k) w = popped_in Direct (IsOutBy b m noted.by_step) (IsOutBy (sender_machine b) m noted.by_step) (out_direct_by b m noted.by_step) xs n k (h k w)
popped_direct_all b went m n noted xs h (Crossing k) w = absurd w

-- the items that the node inside lets out
pub popped_direct : {M T : Type 0} (b : Machine M T) (m : Meaning T) (xs : List T) (n k : M) → ArePopped (IsOut b m) n xs k → ArePopped (IsOut (sender_machine b) m) (Direct n) xs (Direct k)
popped_direct b m xs n k h = popped_in Direct (IsOut b m) (IsOut (sender_machine b) m) (out_direct b m) xs n k h

-- those that it puts out by steps
pub popped_direct_by : {M T : Type 0} (b : Machine M T) (m : Meaning T) (by : Bool) (xs : List T) (n k : M) → ArePopped (IsOutBy b m by) n xs k → ArePopped (IsOutBy (sender_machine b) m by) (Direct n) xs (Direct k)
popped_direct_by b m by xs n k h = popped_in Direct (IsOutBy b m by) (IsOutBy (sender_machine b) m by) (out_direct_by b m by) xs n k h

-- ---- over an empty queue

-- a node with an empty queue
abbrev empty : {M T : Type 0} → M → Sender M T
empty n = Crossing (holding n [])

alike_empty : {M T : Type 0} (b : Machine M T) (s t : M) (q r : List T) → IsNodeAlike b s t → IsNodeAlike (sender_machine b) (Crossing (holding s q)) (Crossing (holding t r))
alike_empty b s t q r h = (
  h.0,
  (
    refl,
    λ a.
        let k = h.1.1 a in
        (refl, k.1, ap (λ z. z || b.step_allocates a t) k.0 ∙ ap (λ z. b.pop_allocates a s || z) k.2),
  ),
)

in_empty : {M T : Type 0} (b : Machine M T) (m : Meaning T) (i : ℕ) (s : M) (x : T) (t : M) → IsIn b m i s x t → IsIn (sender_machine b) m i (empty s) x (empty t)
in_empty b m i s x t h =
    let k = h.0.counts in (
      record {
        enabled = h.0.enabled;
        value = λ inc further. ap (option_map (held_then [] Open)) (h.0.value inc further);
        notes = h.0.notes;
        counts = record {
          stays_ended = k.stays_ended;
          counts = λ going taken sent c. (refl, k.counts going taken (sent + 0) c.1);
          stays_done = k.stays_done;
          is_done = k.is_done;
        };
        goes_on = h.0.goes_on;
      },
      alike_empty b s t [] [] h.1,
    )

out_empty : {M T : Type 0} (b : Machine M T) (m : Meaning T) → Shows b m → (s : M) (x : T) (t : M) → b.ended s ≡ false → IsOut b m s x t → IsOutBy (sender_machine b) m true (empty s) x (empty t)
out_empty {M} {T} b m shows s x t still h = λ asked sent less.
    let old : Queued M T = record { node = s; queue = []; tail = Open } in
    let few : node_sent old.queue asked sent < asked = omega (arith, less) in
    let row = row_at b m shows s t asked sent x (sym (could b m shows old asked sent x refl refl few h.0.waited)) (silent (b.popping s) (b.shown s) h.2) h.0 in
    let k = row.counts in
    let out = out_at b m t x in (
      Crossing (holding t (x ∷ [])),
      inr (record {
        can = row.enabled;
        row = row.row;
        value = row.value;
        recorded = row.notes;
        counts = record { stays_ended = k.stays_ended; counts = k.counts; stays_done = k.stays_done };
        alike = alike_empty b s t [] (x ∷ []) h.1;
      }),
      h.0.counts.0 ∙ still,
      (record { waited = out.waited; popped_out = out.popped_out; value = out.value; notes = out.notes; counts = out.counts }, (refl, (refl, λ a. (refl, refl, refl))), refl),
    )
  where
    silent : (p : Option Note) (f : Option Front) → p ≡ None → note_of_shown p f ≡ None
    silent p f e = ap (λ k. note_of_shown k f) e

popped_empty : {M T : Type 0} (b : Machine M T) (m : Meaning T) → Shows b m → (xs : List T) (n k : M) → b.ended n ≡ false → ArePopped (IsOut b m) n xs k → ArePopped (IsOutBy (sender_machine b) m true) (empty n) xs (empty k)
popped_empty b m shows [] n k still h = ap empty h
popped_empty b m shows (x ∷ xs) n k still h = (empty h.0, out_empty b m shows n x h.0 still h.1, popped_empty b m shows xs h.0 k (h.1.0.counts.0 ∙ still) h.2)

passed_empty : {M T : Type 0} (b : Machine M T) (m : Meaning T) → Shows b m → (i : ℕ) (xs ys : List T) (n k : M) → ArePassed (IsIn b m i) (IsOut b m) n xs ys k → ArePassed (IsIn (sender_machine b) m i) (IsOutBy (sender_machine b) m true) (empty n) xs ys (empty k)
passed_empty b m shows i [] ys n k h = (h.0, ap empty h.1)
passed_empty b m shows i (x ∷ xs) ys n k h = (
  empty h.0,
  in_empty b m i n x h.0 h.1,
  elim h.2 [
    | inl r ↦ inl (passed_empty b m shows i xs ys h.0 k r)
    | inr r ↦ inr (r.0, r.1, empty r.2, r.3, out_empty b m shows h.0 r.0 r.2 h.1.0.goes_on r.4, passed_empty b m shows i xs r.1 r.2 k r.5)
  ],
)

open_is : (t : Tail) → is_open t ≡ true → t ≡ Open
open_is Open e = refl
open_is Completion e = cc
open_is (Failure c) e = cc
open_is Taken e = cc

empty_is : {M T : Type 0} (k : Queued M T) → k.queue ≡ [] → k.tail ≡ Open → empty k.node ≡ Crossing k
empty_is {M} {T} k none opened =
    let f : List T → Sender M T = λ q. Crossing (record { node = k.node; queue = q; tail = Open }) in
    let g : Tail → Sender M T = λ t. Crossing (record { node = k.node; queue = k.queue; tail = t }) in
    ap f (sym none) ∙ ap g (sym opened)

pub popped_crossing : {M T : Type 0} (b : Machine M T) (went : M → Noted T → M → Type 0) (m : Meaning T) → Shows b m → (k : Queued M T) (inner noted : Noted T) (xs : List T) → k.queue ≡ [] → is_open k.tail ≡ true → b.ended k.node ≡ false →
    inside noted ≡ inner → inner.by_step ≡ false → noted.by_step ≡ true → ((new : M) → went k.node inner new → ArePopped (IsOutBy b m inner.by_step) k.node xs new) →
    (new : Sender M T) → sender_went went (Crossing k) noted new → ArePopped (IsOutBy (sender_machine b) m noted.by_step) (Crossing k) xs new
popped_crossing b went m shows k inner noted xs none opened still is low up h (Direct n) w = absurd w
popped_crossing {M} {T} b went m shows k inner noted xs none opened still is low up h (Crossing k') w =
    let out : Bool → Type 0 = λ f. ArePopped (IsOutBy b m f) k.node xs k'.node in
    let items : ArePopped (IsOut b m) k.node xs k'.node = subst out low (h k'.node (subst (λ z. went k.node z k'.node) is w.0)) in
    let all = popped_empty b m shows xs k.node k'.node still items in
    let P : Sender M T → Type 0 = λ s. ArePopped (IsOutBy (sender_machine b) m true) s xs (empty k'.node) in
    let Q : Sender M T → Type 0 = λ s. ArePopped (IsOutBy (sender_machine b) m true) (Crossing k) xs s in
    let B : Bool → Type 0 = λ f. ArePopped (IsOutBy (sender_machine b) m f) (Crossing k) xs (Crossing k') in
    let tail : k.tail ≡ Open = open_is k.tail opened in
    subst B (sym up) (subst Q (empty_is k' (w.1 ∙ none) (w.2 ∙ tail)) (subst P (empty_is k none tail) all))

pub passed_crossing : {M T : Type 0} (b : Machine M T) (went : M → Noted T → M → Type 0) (m : Meaning T) → Shows b m → (i : ℕ) (k : Queued M T) (inner noted : Noted T) (xs ys : List T) → k.queue ≡ [] → is_open k.tail ≡ true →
    inside noted ≡ inner → inner.by_step ≡ false → noted.by_step ≡ true → ((new : M) → went k.node inner new → ArePassed (IsIn b m i) (IsOutBy b m inner.by_step) k.node xs ys new) →
    (new : Sender M T) → sender_went went (Crossing k) noted new → ArePassed (IsIn (sender_machine b) m i) (IsOutBy (sender_machine b) m noted.by_step) (Crossing k) xs ys new
passed_crossing b went m shows i k inner noted xs ys none opened is low up h (Direct n) w = absurd w
passed_crossing {M} {T} b went m shows i k inner noted xs ys none opened is low up h (Crossing k') w =
    let out : Bool → Type 0 = λ f. ArePassed (IsIn b m i) (IsOutBy b m f) k.node xs ys k'.node in
    let items : ArePassed (IsIn b m i) (IsOut b m) k.node xs ys k'.node = subst out low (h k'.node (subst (λ z. went k.node z k'.node) is w.0)) in
    let all = passed_empty b m shows i xs ys k.node k'.node items in
    let P : Sender M T → Type 0 = λ s. ArePassed (IsIn (sender_machine b) m i) (IsOutBy (sender_machine b) m true) s xs ys (empty k'.node) in
    let Q : Sender M T → Type 0 = λ s. ArePassed (IsIn (sender_machine b) m i) (IsOutBy (sender_machine b) m true) (Crossing k) xs ys s in
    let B : Bool → Type 0 = λ f. ArePassed (IsIn (sender_machine b) m i) (IsOutBy (sender_machine b) m f) (Crossing k) xs ys (Crossing k') in
    let tail : k.tail ≡ Open = open_is k.tail opened in
    subst B (sym up) (subst Q (empty_is k' (w.1 ∙ none) (w.2 ∙ tail)) (subst P (empty_is k none tail) all))

-- what the node inside takes in of a hub
pub taken_direct : {M T : Type 0} (b : Machine M T) (n : M) (x : T) (n' : M) → IsItemTaken b n x n' → IsItemTaken (sender_machine b) (Direct n) x (Direct n')
taken_direct b n x n' k =
    let on = k.taken.on in
    let counts = k.taken.counts in
    record {
      room = k.room;
      taken = record {
        on = record { reading = on.reading; read = on.read; reads_on = on.reads_on; value = on.value };
        recorded = k.taken.recorded;
        counts = record { stays_ended = counts.stays_ended; counts = counts.counts; stays_done = counts.stays_done };
        calls = (refl, k.taken.calls.1);
        heard = k.taken.heard;
      };
    }
