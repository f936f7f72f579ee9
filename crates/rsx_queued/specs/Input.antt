-- One input of a node that queues what comes in there: what stands in it, and what its calls make of that.
use Rattle.std.specs.Prelude.{◌≡◌, ⊤, ℕ, ◌+◌, ◌≤◌, min, Bool, true, false, ◌&&◌, nat_lt, [], ◌∷◌, ◌++◌, length, drop, Option, Some, None}
use Rattle.rsx_sources.specs.Prelude.{Done, Failed, Signal, Next, Complete, Error, Stream, ended_by, item_then}
use Rattle.rsx_demand.specs.Demand.{saturating_total}
use Rattle.rsx_demand.specs.declared.TheConstants.{UNBOUNDED}
use Rattle.rsx_sources.specs.declared.machine.Front.{Front}
use Rattle.rsx_sources.specs.declared.machine.Front.TheVariants.{Item, Completion as CompletionFront, Failure as FailureFront}
use Rattle.rsx_prefetch.specs.Credits.{credits}
use Rattle.rsx_prefetch.specs.Queue.{Queue, queue}
use Rattle.rsx_queued.specs.declared.tail.Tail.{Tail}
use Rattle.rsx_queued.specs.declared.tail.Tail.TheVariants.{Open, Completion, Failure, Taken}
use Rattle.rsx_queued.specs.Held.{is_open, tail_count, held_then, first_held}
use Rattle.rsx_queued.specs.declared.input.QueuedInput.{QueuedInput}

-- nothing once the ending was taken out
abbrev pub unless_taken : {A : Type 0} → Tail → Option A → Option A
unless_taken Open o = o
unless_taken Completion o = o
unless_taken (Failure c) o = o
unless_taken Taken o = None

-- what still comes out of an input at which v still comes in: its queue, and then its ending or v; nothing once its ending
-- was taken out
abbrev pub still : {T : Type 0} → QueuedInput T → Stream T → Option (Stream T)
still q v = unless_taken q.tail (Some (held_then q.queue.items q.tail v))

-- whether the ending was taken out
abbrev pub is_taken : Tail → Bool
is_taken Open = false
is_taken Completion = false
is_taken (Failure c) = false
is_taken Taken = true

abbrev pub is_gone : {T : Type 0} → QueuedInput T → Bool
is_gone q = is_taken q.tail

-- the next signal
abbrev pub next_signal : {T : Type 0} → QueuedInput T → Option (Signal T)
next_signal q = unless_taken q.tail (first_held q.queue.items q.tail)

-- how many signals wait: the items of the queue, and the ending behind them
abbrev pub waiting_count : {T : Type 0} → QueuedInput T → ℕ
waiting_count q = length q.queue.items + tail_count q.tail

-- an ending needs no room
abbrev pub has_room_for : {T : Type 0} → Queue T → Front → Bool
has_room_for q Item = nat_lt (length q.items) q.capacity
has_room_for q CompletionFront = true
has_room_for q (FailureFront c) = true

-- whether such a signal can be put in: no ending came, and there is room for it
abbrev pub takes : {T : Type 0} → QueuedInput T → Front → Bool
takes q f = is_open q.tail && has_room_for q.queue f

-- with a signal put in
abbrev pub with_signal : {T : Type 0} → QueuedInput T → Signal T → QueuedInput T
with_signal q (Next x) = record q { queue = queue (q.queue.items ++ x ∷ []) q.queue.capacity q.queue.taken }
with_signal q Complete = record q { tail = Completion }
with_signal q (Error c) = record q { tail = Failure c }

-- without this signal, which was its next
abbrev pub without : {T : Type 0} → QueuedInput T → Option (Signal T) → QueuedInput T
without q None = q
without q (Some (Next x)) = record q { queue = queue (drop 1 q.queue.items) q.queue.capacity (saturating_total q.queue.taken 1) }
without q (Some Complete) = record q { tail = Taken }
without q (Some (Error c)) = record q { tail = Taken }

-- the signal is the first of what still came out of an input, and `new` is what still comes out behind it
abbrev pub IsFirst : {T : Type 0} → Signal T → Option (Stream T) → Option (Stream T) → Type 0
IsFirst {T} (Next x) old new = (w : Stream T) × (old ≡ Some (item_then x w)) × (new ≡ Some w)
IsFirst Complete old new = (old ≡ Some (ended_by Done)) × (new ≡ None)
IsFirst (Error c) old new = (old ≡ Some (ended_by (Failed c))) × (new ≡ None)

-- the signal came out of `old` first, and then what still comes out of `new`
abbrev pub Gives : {T : Type 0} → QueuedInput T → Signal T → QueuedInput T → Type 0
Gives {T} old s new = (v : Stream T) → IsFirst s (still old v) (still new v)

-- an input at which nothing came in
abbrev pub fresh_input : {T : Type 0} → ℕ → QueuedInput T
fresh_input capacity = record { queue = queue [] capacity 0; tail = Open }

-- ---- counts

-- c items were put into the queue, of which the first were taken out
abbrev pub IsPutIn : {T : Type 0} → Queue T → ℕ → Type 0
IsPutIn q c = (t : ℕ) × (q.taken ≡ min UNBOUNDED t) × (c ≡ t + length q.items)

-- an input that is open took so many items in
abbrev pub IsCountedBy : {T : Type 0} → Tail → Queue T → ℕ → Type 0
IsCountedBy Open q c = (1 ≤ q.capacity) × IsPutIn q c
IsCountedBy Completion q c = ⊤
IsCountedBy (Failure f) q c = ⊤
IsCountedBy Taken q c = ⊤

abbrev pub IsCounted : {T : Type 0} → QueuedInput T → ℕ → Type 0
IsCounted q c = IsCountedBy q.tail q.queue c

-- the total to be asked of an input
abbrev pub input_credits : {T : Type 0} → QueuedInput T → ℕ
input_credits q = credits q.queue.capacity q.queue.taken

-- an input from which so many items more were taken, none of which is left in it
abbrev pub input_passed : {T : Type 0} → QueuedInput T → ℕ → QueuedInput T
input_passed q k = record { queue = queue q.queue.items q.queue.capacity (saturating_total q.queue.taken k); tail = q.tail }
