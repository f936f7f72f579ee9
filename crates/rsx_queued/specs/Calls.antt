-- What the calls of a node do, each beside the queue behind it: the queue stays, and the node is what its own call makes of it.
use Rattle.std.specs.Prelude.{ℕ, Option}
use Rattle.rsx_sources.specs.Prelude.{Signal, Meaning, CountsIn, CountsStep, IsPassed, IsReadOn, IsSteppedOut, Records, TakesIn}
use Rattle.rsx_sources.specs.declared.machine.Machine.{Ghosts as Machine}
use Rattle.rsx_sources.specs.declared.machine.Passed.{Passed}
use Rattle.rsx_queued.specs.declared.queued.Queued.{Queued}
use Rattle.rsx_queued.specs.Queued.{queued_comes_out, queued_waiting, queued_takes, queued_picks, queued_rows, queued_recording, queued_popped, queued_counted, queued_ended, queued_done}
use Rattle.rsx_queued.specs.Transfer.{IsQueuedRow}

-- ---- the node inside

-- it took this signal of input i in
abbrev pub NodeTakesIn : {M T : Type 0} → Machine M T → Meaning T → M → ℕ → Signal T → M → Type 0
NodeTakesIn b m old i s new = TakesIn (b.comes_out m) old i s new × CountsIn b.counted b.ended b.done old i s new

-- it took the next signal of the hub in that it reads
abbrev pub NodeReadsOn : {M T : Type 0} → Machine M T → M → Signal T → M → Type 0
NodeReadsOn b old s new = IsReadOn b.comes_out b.reads old s new × CountsStep b.counted b.ended b.done old new

-- it picked input i
abbrev pub NodePicks : {M T : Type 0} → Machine M T → Meaning T → M → ℕ → M → Type 0
NodePicks b m old i new = Records (b.comes_out m) old (b.recording old i) new × CountsStep b.counted b.ended b.done old new

-- ---- a node with its queue

-- an item in one go through a node with its queue
abbrev pub QueuedPassed : {M T : Type 0} → Machine M T → Meaning T → Queued M T → ℕ → T → Passed T → Queued M T → Type 0
QueuedPassed b m old i x result new =
    IsPassed (queued_comes_out b m) (queued_waiting m) (queued_takes b) queued_popped (λ n. b.recorded n.node) (queued_counted b) (queued_ended b) (queued_done b) old i x result new

-- a step of a node with its queue, whose item goes out at once
abbrev pub QueuedSteppedOut : {M T : Type 0} → Machine M T → Meaning T → Queued M T → ℕ → ℕ → Option T → Queued M T → Type 0
QueuedSteppedOut b m old asked taken result new =
    IsSteppedOut (queued_comes_out b m) (queued_waiting m) (queued_picks b) (queued_rows b) (IsQueuedRow b) queued_popped (queued_recording b) (λ n. b.recorded n.node) (queued_counted b) (queued_ended b) (queued_done b) old asked taken result new
