-- A signal that went over the edge into its queue, and one that was taken from there.
use Rattle.std.specs.Prelude.{◌≡◌, ℕ, ◌+◌, true, false, List, [], ◌∷◌, ◌++◌, Some, None}
use Rattle.std.specs.Option.{is_some}
use Rattle.rsx_sources.specs.Prelude.{Signal, Next, Complete, Error, Meaning, CountsOut, ends_input, LetsGo, front_of}
use Rattle.rsx_sources.specs.declared.machine.Machine.{Ghosts as Machine}
use Rattle.rsx_queued.specs.declared.queued.Queued.{Queued}
use Rattle.rsx_queued.specs.declared.tail.Tail.{Tail}
use Rattle.rsx_queued.specs.declared.tail.Tail.TheVariants.{Open, Completion, Failure}
use Rattle.rsx_queued.specs.Queued.{queue_of, sent_over, is_ended, node_sent, can_transfer, pop_note, queued_popped}

-- an item goes behind the items, an ending behind them all
abbrev pub IsPushed : {T : Type 0} → List T → Signal T → List T → Tail → Type 0
IsPushed q (Next x) q' t' = (q' ≡ q ++ x ∷ []) × (t' ≡ Open)
IsPushed q Complete q' t' = (q' ≡ q) × (t' ≡ Completion)
IsPushed q (Error c) q' t' = (q' ≡ q) × (t' ≡ Failure c)

-- the node let go the signal that it offered, and that stands at the back of the queue
pub record IsTransferred {M T : Type 0} (b : Machine M T) (m : Meaning T) (old new : Queued M T) : Type 0 where
  pub signal : Signal T
  pub offered : b.waiting m old.node ≡ Some signal
  pub popped : b.popped old.node signal new.node
  pub value : LetsGo (b.comes_out m) old.node signal new.node
  pub notes : b.recorded new.node ≡ b.recorded old.node
  pub counts : CountsOut b.counted b.ended b.done old.node (Some signal) new.node
  pub was_open : old.tail ≡ Open
  pub pushed : IsPushed old.queue signal new.queue new.tail

-- nothing went over the edge, and nothing was taken from its queue
abbrev pub IsQueueKept : {M T : Type 0} → Queued M T → Queued M T → Type 0
IsQueueKept old new = (new.queue ≡ old.queue) × (new.tail ≡ old.tail)

-- the signal that the node offered left it, and stands at the back of the queue
pub record IsMovedOver {M T : Type 0} (b : Machine M T) (old new : Queued M T) : Type 0 where
  pub signal : Signal T
  pub shown : b.shown old.node ≡ Some (front_of signal)
  pub popped : b.popped old.node signal new.node
  pub was_open : old.tail ≡ Open
  pub pushed : IsPushed old.queue signal new.queue new.tail

-- what a row makes of a node with its queue: a signal goes over the edge, where one can; or a row of the node, where none can, and
-- the queue stays
pub record IsQueuedRow {M T : Type 0} (b : Machine M T) (old : Queued M T) (asked taken : ℕ) (new : Queued M T) : Type 0 where
  pub over : can_transfer b old asked taken ≡ true → IsMovedOver b old new
  pub inside : can_transfer b old asked taken ≡ false → IsQueueKept old new × b.rowed old.node asked (node_sent old.queue asked taken) new.node

-- once it took in a signal of an input, or of the hub that it reads, the node inside is what its own call makes of it, and the queue stays
abbrev pub queued_took : {M T : Type 0} → Machine M T → Queued M T → ℕ → Signal T → Queued M T → Type 0
queued_took b old i s new = IsQueueKept old new × b.took old.node i s new.node

abbrev pub queued_heard : {M T : Type 0} → Machine M T → Queued M T → Signal T → Queued M T → Type 0
queued_heard b old s new = IsQueueKept old new × b.heard old.node s new.node

-- what a pick makes of a node with its queue: a signal goes over the edge, where the node records it by that; or a pick of the node,
-- where nothing is recorded so, and the queue stays
pub record IsQueuedPick {M T : Type 0} (b : Machine M T) (old : Queued M T) (i : ℕ) (new : Queued M T) : Type 0 where
  pub over : is_some (pop_note b old.node) ≡ true → IsMovedOver b old new
  pub inside : pop_note b old.node ≡ None → IsQueueKept old new × b.picked old.node i new.node

-- ---- the same, as callers see the edge

-- how many items a signal is
abbrev pub items_of : {T : Type 0} → Signal T → ℕ
items_of (Next x) = 1
items_of Complete = 0
items_of (Error c) = 0

-- the signal stands at the back of the queue, an item counts as sent, and an ending ends the edge
pub record IsSent {M T : Type 0} (old : Queued M T) (s : Signal T) (new : Queued M T) : Type 0 where
  pub queue : queue_of new ≡ queue_of old ++ s ∷ []
  pub sent : (taken : ℕ) → sent_over new taken ≡ sent_over old taken + items_of s
  pub ended : is_ended new.tail ≡ ends_input s

-- the signal stood at the front of the queue, and what was sent stays, where it counts as taken
pub record IsTaken {M T : Type 0} (old : Queued M T) (s : Signal T) (new : Queued M T) : Type 0 where
  pub queue : queue_of old ≡ s ∷ queue_of new
  pub sent : (taken : ℕ) → sent_over new (taken + items_of s) ≡ sent_over old taken
  pub ended : is_ended new.tail ≡ is_ended old.tail

-- this is what a Send and a Take over the edge do
abbrev pub IsEdge : {M T : Type 0} → Machine M T → Type 0
IsEdge {M} {T} b =
    ((m : Meaning T) (old new : Queued M T) (k : IsTransferred b m old new) → IsSent old k.signal new)
    × ((old : Queued M T) (s : Signal T) (new : Queued M T) → queued_popped old s new → IsTaken old s new)
