-- How many items an input took in.
use Rattle.std.proofs.Common.{◌≡◌, ℕ, ◌+◌, ◌<◌, ◌≤◌, min, true, List, [], ◌∷◌, ◌++◌, length, drop, None, refl, ap, ◌∙◌, subst, arith}
use Rattle.std.proofs.lemmas.Bool.Decides.{nat_tests}
use Rattle.std.proofs.lemmas.List.{length-append}
use Rattle.rsx_sources.specs.Prelude.{Signal, Next, Complete, Error}
use Rattle.rsx_demand.specs.Demand.{saturating_total}
use Rattle.rsx_demand.specs.declared.TheConstants.{UNBOUNDED}
use Rattle.rsx_sources.specs.declared.machine.Front.{Front}
use Rattle.rsx_sources.specs.declared.machine.Front.TheVariants.{Item, Completion as CompletionFront, Failure as FailureFront}
use Rattle.rsx_prefetch.proofs.Batches.{credits-more}
use Rattle.rsx_prefetch.specs.Credits.{credits}
use Rattle.rsx_prefetch.specs.Queue.{Queue, queue}
use Rattle.rsx_queued.specs.declared.tail.Tail.{Tail}
use Rattle.rsx_queued.specs.declared.tail.Tail.TheVariants.{Open, Completion, Failure, Taken}
use Rattle.rsx_queued.specs.Held.{is_open, first_held}
use Rattle.rsx_queued.specs.declared.input.QueuedInput.{QueuedInput}
use Rattle.rsx_queued.specs.Input.{unless_taken, next_signal, has_room_for, takes, with_signal, without, fresh_input, IsPutIn, IsCountedBy, IsCounted, input_credits}

-- none at first
pub counted_fresh : (T : Type 0) (p : ℕ) → 1 ≤ p → IsCounted (fresh_input {T = T} p) 0
counted_fresh T p h = (h, (0, omega arith, omega arith))

-- one more with each item
pub counted_put : {T : Type 0} (t : Tail) (q : Queue T) (c : ℕ) (x : T) → IsCountedBy t q c → IsCountedBy t (queue (q.items ++ x ∷ []) q.capacity q.taken) (c + 1)
counted_put Open q c x h = (h.0, ((h.1).0, (h.1).1, ap (λ n. n + 1) (h.1).2 ∙ omega (arith, length-append q.items (x ∷ []))))
counted_put Completion q c x h = tt
counted_put (Failure f) q c x h = tt
counted_put Taken q c x h = tt

-- an item that is taken out was taken in
pub counted_take : {T : Type 0} (t : Tail) (q : Queue T) (c : ℕ) (x : T) (xs : List T) → q.items ≡ x ∷ xs → IsCountedBy t q c → IsCountedBy t (queue (drop 1 q.items) q.capacity (saturating_total q.taken 1)) c
counted_take Open q c x xs e h =
    let fewer : length q.items ≡ length xs + 1 = ap length e ∙ omega arith in
    let left : length (drop 1 q.items) ≡ length xs = ap (λ l. length (drop 1 l)) e in
    let p = (h.1).1 in
    let s = (h.1).2 in
    (h.0, ((h.1).0 + 1, omega (arith, p), omega (arith, s, fewer, left)))
counted_take Completion q c x xs e h = tt
counted_take (Failure f) q c x xs e h = tt
counted_take Taken q c x xs e h = tt

without_next : {T : Type 0} (t : Tail) (xs : List T) (q : Queue T) (c : ℕ) → q.items ≡ xs → IsCountedBy t q c → IsCounted (without (record { queue = q; tail = t }) (unless_taken t (first_held xs t))) c
without_next Open [] q c e h = h
without_next Open (x ∷ xs) q c e h = counted_take Open q c x xs e h
without_next Completion [] q c e h = tt
without_next Completion (x ∷ xs) q c e h = tt
without_next (Failure f) [] q c e h = tt
without_next (Failure f) (x ∷ xs) q c e h = tt
without_next Taken xs q c e h = tt

-- what was taken in stays when the next signal is taken out
pub counted_without : {T : Type 0} (q : QueuedInput T) (c : ℕ) → IsCounted q c → IsCounted (without q (next_signal q)) c
counted_without q c h = without_next q.tail q.queue.items q.queue c refl h

-- it counts a signal that is put in: an item as one, and an ending as none
abbrev pub one_for : {T : Type 0} → Signal T → ℕ → ℕ
one_for (Next x) c = c + 1
one_for Complete c = c
one_for (Error f) c = c

pub counted_with : {T : Type 0} (q : QueuedInput T) (s : Signal T) (c : ℕ) → IsCounted q c → IsCounted (with_signal q s) (one_for s c)
counted_with q (Next x) c h = counted_put q.tail q.queue c x h
counted_with q Complete c h = tt
counted_with q (Error f) c h = tt

-- ---- an input that is open and from which nothing can be taken out is empty: it takes any signal, and more is to be asked of it

pub room_for : {T : Type 0} (q : Queue T) → q.items ≡ [] → 1 ≤ q.capacity → (f : Front) → has_room_for q f ≡ true
room_for q e p Item = let none : length q.items ≡ 0 = ap length e in grind (arith, nat_tests)
room_for q e p CompletionFront = refl
room_for q e p (FailureFront c) = refl

-- it holds nothing where nothing is next
pub nothing_held : {T : Type 0} (t : Tail) (xs : List T) → is_open t ≡ true → unless_taken t (first_held xs t) ≡ None → xs ≡ []
nothing_held Open [] o e = refl
nothing_held Open (x ∷ xs) o e = cc
nothing_held Completion xs o e = cc
nothing_held (Failure f) xs o e = cc
nothing_held Taken xs o e = cc

counted_open : {T : Type 0} (t : Tail) (q : Queue T) (c : ℕ) → is_open t ≡ true → IsCountedBy t q c → (1 ≤ q.capacity) × IsPutIn q c
counted_open Open q c o h = h
counted_open Completion q c o h = cc
counted_open (Failure f) q c o h = cc
counted_open Taken q c o h = cc

-- what an input that waits says of itself
pub record IsWaiting {T : Type 0} (q : QueuedInput T) (c : ℕ) : Type 0 where
  pub takes_any : (f : Front) → takes q f ≡ true
  pub wants : c < input_credits q

pub waits : {T : Type 0} (q : QueuedInput T) (c : ℕ) → IsCounted q c → is_open q.tail ≡ true → next_signal q ≡ None → c < UNBOUNDED → IsWaiting q c
waits q c h o none lt =
    let empty : q.queue.items ≡ [] = nothing_held q.tail q.queue.items o none in
    let zero_long : length q.queue.items ≡ 0 = ap length empty in
    let k = counted_open q.tail q.queue c o h in
    let total : c ≡ (k.1).0 + length q.queue.items = (k.1).2 in
    let stored : q.queue.taken ≡ min UNBOUNDED (k.1).0 = (k.1).1 in
    let same : c ≡ q.queue.taken = omega (arith, total, stored, zero_long, lt) in
    record {
      takes_any = λ f. rw o (room_for q.queue empty k.0 f);
      wants = let P : ℕ → Type 0 = λ n. c < credits q.queue.capacity n in subst P same (credits-more q.queue.capacity c k.0 lt);
    }
