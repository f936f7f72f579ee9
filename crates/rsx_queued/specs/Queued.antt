-- A node with the queue of the edge from it to another region.
use Rattle.std.specs.Prelude.{◌≡◌, ℕ, ◌+◌, ◌<◌, Bool, true, false, ◌&&◌, ◌||◌, nat_eq, nat_lt, min, List, [], ◌∷◌, length, Option, Some, None, option_map}
use Rattle.rsx_sources.specs.Prelude.{CAPACITY, Note, Signal, Next, Complete, Error, Meaning, Allocates, Stream, CountsIn, CountsStep, Incoming, StaysAlike, Reading, takes_published}
use Rattle.rsx_sources.specs.declared.machine.Front.{Front}
use Rattle.rsx_sources.specs.declared.machine.Front.TheVariants.{Item, Completion as CompletionFront, Failure as FailureFront}
use Rattle.rsx_sources.specs.declared.machine.Machine.{Ghosts as Machine}
use Rattle.rsx_queued.specs.declared.queued.Queued.{Queued}
use Rattle.rsx_queued.specs.declared.tail.Tail.{Tail}
use Rattle.rsx_queued.specs.declared.tail.Tail.TheVariants.{Open, Completion, Failure, Taken}
use Rattle.rsx_queued.specs.Held.{is_open, held_then, held, first_held, first_shown, comes_in_at}

-- ---- what callers see of such an edge; `taken` is how many items its receiver took

-- how many items went over the edge: those that were taken, and those in the queue
abbrev pub sent_over : {M T : Type 0} → Queued M T → ℕ → ℕ
sent_over n taken = taken + length n.queue

-- the signals in its queue, the oldest first
abbrev pub queue_of : {M T : Type 0} → Queued M T → List (Signal T)
queue_of n = held n.queue n.tail

-- whether an ending went over the edge
abbrev pub is_ended : Tail → Bool
is_ended Open = false
is_ended Completion = true
is_ended (Failure c) = true
is_ended Taken = true

-- ---- as a node

-- what comes out of a node with what is held behind it
abbrev pub out : {M T : Type 0} → Machine M T → Meaning T → M → List T → Tail → Incoming T → Note → Option (Stream T)
out b m n q t inc further = option_map (held_then q t) (b.comes_out m n (comes_in_at t inc) further)

abbrev pub queued_comes_out : {M T : Type 0} → Machine M T → Meaning T → Queued M T → Incoming T → Note → Option (Stream T)
queued_comes_out b m n inc further = out b m n.node n.queue n.tail inc further

-- the oldest signal of the queue waits
abbrev pub queued_waiting : {M T : Type 0} → Meaning T → Queued M T → Option (Signal T)
queued_waiting m n = first_held n.queue n.tail

abbrev pub queued_shown : {M T : Type 0} → Queued M T → Option Front
queued_shown n = first_shown n.queue n.tail

-- the node takes what it would take
abbrev pub queued_takes : {M T : Type 0} → Machine M T → Queued M T → ℕ → Front → Bool
queued_takes b n i f = is_open n.tail && b.takes n.node i f

-- how many items the node sent, of which so many were taken; never more than were asked for
abbrev pub node_sent : {T : Type 0} → List T → ℕ → ℕ → ℕ
node_sent q asked taken = min asked (taken + length q)

-- what a node offers may go: an ending always, an item where it was asked for
abbrev pub may_go : Option Front → ℕ → ℕ → Bool
may_go None asked sent = false
may_go (Some Item) asked sent = nat_lt sent asked
may_go (Some CompletionFront) asked sent = true
may_go (Some (FailureFront c)) asked sent = true

-- the node offers a signal that may go, and the queue has room for it
abbrev pub can_move : {T : Type 0} → Option Front → List T → Tail → ℕ → ℕ → Bool
can_move f q t asked taken = is_open t && (nat_lt (length q) CAPACITY && may_go f asked (node_sent q asked taken))

-- the Send over the edge, into its queue
abbrev pub can_transfer : {M T : Type 0} → Machine M T → Queued M T → ℕ → ℕ → Bool
can_transfer b n asked taken = can_move (b.shown n.node) n.queue n.tail asked taken

-- what a pop records, where something is shown
abbrev pub note_of_shown : Option Note → Option Front → Option Note
note_of_shown None f = None
note_of_shown (Some k) None = None
note_of_shown (Some k) (Some f) = Some k

-- what the signal that the node offers adds to what the node recorded as it goes over the edge, if anything
abbrev pub pop_note : {M T : Type 0} → Machine M T → M → Option Note
pop_note b n = note_of_shown (b.popping n) (b.shown n)

-- Whether input i can be picked. The Send over the edge is a pick of input 0 where it is recorded, since a row records nothing; then
-- nothing else can be picked.
abbrev pub pick_by : Option Note → Bool → Bool → ℕ → Bool
pick_by None picks moves i = picks
pick_by (Some k) picks moves i = nat_eq i 0 && moves

-- whether a row can be made: none where the Send over the edge is recorded
abbrev pub row_by : Option Note → Bool → Bool
row_by None rows = rows
row_by (Some k) rows = false

-- what a pick records: the Send over the edge, or the pick of the node
abbrev pub recording_by : Option Note → Note → Note
recording_by None picked = picked
recording_by (Some k) picked = k

-- a pick of the node, or the Send over the edge where that is recorded
abbrev pub pick_of : {M T : Type 0} → Machine M T → M → List T → Tail → ℕ → ℕ → ℕ → Bool
pick_of b n q t i asked taken = pick_by (pop_note b n) (is_open t && b.picks n i asked (node_sent q asked taken)) (can_move (b.shown n) q t asked taken) i

abbrev pub queued_picks : {M T : Type 0} → Machine M T → Queued M T → ℕ → ℕ → ℕ → Bool
queued_picks b n i asked taken = pick_of b n.node n.queue n.tail i asked taken

abbrev pub queued_recording : {M T : Type 0} → Machine M T → Queued M T → ℕ → Note
queued_recording b n i = recording_by (pop_note b n.node) (b.recording n.node i)

-- a row of a node with its queue is the Send over the edge that isn't recorded, or else a row of the node
abbrev pub row_of : {M T : Type 0} → Machine M T → M → List T → Tail → ℕ → ℕ → Bool
row_of b n q t asked taken = row_by (pop_note b n) (can_move (b.shown n) q t asked taken || (is_open t && b.rows n asked (node_sent q asked taken)))

abbrev pub queued_rows : {M T : Type 0} → Machine M T → Queued M T → ℕ → ℕ → Bool
queued_rows b n asked taken = row_of b n.node n.queue n.tail asked taken

-- the ending waits in the queue, or still in the node
abbrev pub ended_in : Tail → Bool → Bool
ended_in Open e = e
ended_in Completion e = true
ended_in (Failure c) e = true
ended_in Taken e = false

abbrev pub queued_ended : {M T : Type 0} → Machine M T → Queued M T → Bool
queued_ended b n = ended_in n.tail (b.ended n.node)

-- once its ending is in the queue, a node needs none of its inputs
abbrev pub queued_done : {M T : Type 0} → Machine M T → Queued M T → ℕ → Bool
queued_done b n i = is_ended n.tail || b.done n.node i

-- the node's counts, where the items in the queue count as sent by it
abbrev pub counted_in : {M T : Type 0} → Machine M T → M → List T → Tail → List ℕ → ℕ → Type 0
counted_in b n q t took sent = (t ≡ Open) × b.counted n took (sent + length q)

abbrev pub queued_counted : {M T : Type 0} → Machine M T → Queued M T → List ℕ → ℕ → Type 0
queued_counted b n took sent = counted_in b n.node n.queue n.tail took sent

abbrev pub queued_wanted : {M T : Type 0} → Machine M T → Queued M T → ℕ → ℕ → ℕ → ℕ
queued_wanted b n i asked taken = b.wanted n.node i asked (node_sent n.queue asked taken)

-- No more demand is accepted where the ending stands in the queue, and the items in front of it were asked for.
abbrev pub accepts_in : {T : Type 0} → List T → Tail → ℕ → ℕ → Bool
accepts_in q Open asked taken = true
accepts_in q Completion asked taken = nat_lt asked (taken + length q)
accepts_in q (Failure c) asked taken = nat_lt asked (taken + length q)
accepts_in q Taken asked taken = true

abbrev pub queued_accepts : {M T : Type 0} → Queued M T → ℕ → ℕ → Bool
queued_accepts n asked taken = accepts_in n.queue n.tail asked taken

-- the oldest signal leaves the queue; an item leaves room for itself
abbrev pub queued_popped : {M T : Type 0} → Queued M T → Signal T → Queued M T → Type 0
queued_popped old (Next x) new = (old.node ≡ new.node) × (old.queue ≡ x ∷ new.queue) × (old.tail ≡ new.tail) × (length new.queue < CAPACITY)
queued_popped old Complete new = (old.node ≡ new.node) × (old.queue ≡ new.queue) × (old.queue ≡ []) × (old.tail ≡ Completion) × (new.tail ≡ Taken)
queued_popped old (Error c) new = (old.node ≡ new.node) × (old.queue ≡ new.queue) × (old.queue ≡ []) × (old.tail ≡ Failure c) × (new.tail ≡ Taken)

-- it reads what the node reads, until its ending is in the queue
abbrev pub reads_in : Tail → Option Reading → Option Reading
reads_in Open r = r
reads_in Completion r = None
reads_in (Failure c) r = None
reads_in Taken r = None

abbrev pub queued_reads : {M T : Type 0} → Machine M T → Queued M T → Option Reading
queued_reads b n = reads_in n.tail (b.reads n.node)

abbrev pub queued_rooms : {M T : Type 0} → Machine M T → Queued M T → Bool
queued_rooms b n = b.rooms n.node

-- whether it takes in this signal of that hub
abbrev pub queued_takes_published : {M T : Type 0} → Machine M T → Queued M T → Signal T → Bool
queued_takes_published b n s = takes_published (queued_reads b n) (queued_rooms b n) s

abbrev pub queued_allocates : {M T : Type 0} → Machine M T → Allocates → Queued M T → Bool
queued_allocates b a n = b.signal_allocates a n.node

-- a row or a pick takes a signal out of the node, or is one of the node
abbrev pub queued_step_allocates : {M T : Type 0} → Machine M T → Allocates → Queued M T → Bool
queued_step_allocates b a n = b.pop_allocates a n.node || b.step_allocates a n.node

-- ---- the words of a node's calls

-- a signal of input i was taken in, by the counts of a node with its queue
abbrev pub QueuedCountsIn : {M T : Type 0} → Machine M T → Queued M T → ℕ → Signal T → Queued M T → Type 0
QueuedCountsIn b old i s new = CountsIn (queued_counted b) (queued_ended b) (queued_done b) old i s new

-- a step of it, by these counts
abbrev pub QueuedCountsStep : {M T : Type 0} → Machine M T → Queued M T → Queued M T → Type 0
QueuedCountsStep b old new = CountsStep (queued_counted b) (queued_ended b) (queued_done b) old new

-- it got as far in the hub that it reads, and the same of its calls may allocate; taking a signal out never does
abbrev pub QueuedAlike : {M T : Type 0} → Machine M T → Queued M T → Queued M T → Type 0
QueuedAlike b old new = StaysAlike (queued_reads b) (λ n. true) (λ a n. false) (queued_allocates b) (queued_step_allocates b) old new
