-- The identity over a queue as a node: what stands in its queue, with the ending behind it.
use Rattle.std.specs.Prelude.{◌≡◌, ℕ, ◌+◌, ◌≤◌, ◌==◌, Bool, true, false, ◌&&◌, if◌then◌else◌, List, [], ◌∷◌, length, Option, Some, None, option_map}
use Rattle.rsx_sources.specs.Prelude.{Note, Done, Signal, Next, Complete, Error, Meaning, Stream, ended_by, Incoming, quiet, front_of}
use Rattle.rsx_sources.specs.declared.machine.Front.{Front}
use Rattle.rsx_prefetch.specs.Credits.{credits}
use Rattle.rsx_prefetch.specs.Queue.{queue}
use Rattle.rsx_queued.specs.declared.tail.Tail.TheVariants.{Open, Completion, Failure}
use Rattle.rsx_queued.specs.Prelude.{ended_in, still, takes, next_signal, waiting_count, has_room_for}
use Rattle.rsx_queued.specs.declared.input.QueuedInput.{QueuedInput}
use Rattle.rsx_merging.specs.declared.publish_on_node.PublishOnNode.{PublishOnNode}

-- once the ending was taken out, nothing more comes
abbrev pub or_done : {T : Type 0} → Option (Stream T) → Stream T
or_done None = ended_by Done
or_done (Some v) = v

-- what stands in the queue, and then the ending behind it or what still comes in
abbrev pub publish_comes_out : {T : Type 0} → Meaning T → PublishOnNode T → Incoming T → Note → Option (Stream T)
publish_comes_out m n inc further = quiet further (or_done (still n.input inc.first))

-- the oldest signal of the queue waits
abbrev pub publish_waiting : {T : Type 0} → Meaning T → PublishOnNode T → Option (Signal T)
publish_waiting m n = next_signal n.input

-- the item that is offered, if it is one
abbrev pub item_of : {T : Type 0} → Option (Signal T) → Option T
item_of None = None
item_of (Some (Next x)) = Some x
item_of (Some Complete) = None
item_of (Some (Error c)) = None

abbrev pub publish_shown : {T : Type 0} → PublishOnNode T → Option Front
publish_shown n = option_map front_of (next_signal n.input)

-- a signal of the one input is taken as long as no ending came; an item needs room in the queue
abbrev pub publish_takes : {T : Type 0} → PublishOnNode T → ℕ → Front → Bool
publish_takes n i f = (i == 0) && takes n.input f

-- the ending came, and waits behind the items
abbrev pub publish_ended : {T : Type 0} → PublishOnNode T → Bool
publish_ended n = ended_in n.input.tail false

-- the credits of the queue: each item that was sent was taken out of it
abbrev pub publish_wanted : {T : Type 0} → PublishOnNode T → ℕ → ℕ → ℕ → ℕ
publish_wanted n i asked sent = if i == 0 then credits n.input.queue.capacity sent else 0

-- how many signals of the one input wait
abbrev pub publish_queued : {T : Type 0} → PublishOnNode T → ℕ → Option ℕ
publish_queued n i = if i == 0 then Some (waiting_count n.input) else None

-- with this signal in front of what is offered
abbrev pub restored : {T : Type 0} → Signal T → QueuedInput T → QueuedInput T
restored (Next x) q = record q { queue = queue (x ∷ q.queue.items) q.queue.capacity q.queue.taken }
restored Complete q = record q { tail = Completion }
restored (Error c) q = record q { tail = Failure c }

-- the oldest signal leaves the queue; an item leaves room for itself
abbrev pub publish_popped : {T : Type 0} → PublishOnNode T → Signal T → PublishOnNode T → Type 0
publish_popped old s new = (old.input ≡ restored s new.input) × (has_room_for new.input.queue (front_of s) ≡ true)

-- no ending came, and what was taken in was sent or stands in the queue
abbrev pub publish_counted : {T : Type 0} → PublishOnNode T → List ℕ → ℕ → Type 0
publish_counted n taken sent = (n.input.tail ≡ Open) × (1 ≤ n.input.queue.capacity) × (taken ≡ (sent + length n.input.queue.items) ∷ [])
