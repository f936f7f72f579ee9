-- One move of a part, made many times in one call.
use Rattle.std.specs.Prelude.{◌≡◌, ℕ, min, true, false, List, ◌++◌}
use Rattle.rsx_sources.specs.Prelude.{Meaning, Allocates, Signal, IsNotMade}
use Rattle.rsx_sources.specs.declared.machine.Machine.{Ghosts as Machine}
use Rattle.rsx_sources.specs.declared.machine.NotMade.{NotMade}
use Rattle.rsx_sources.specs.declared.machine.NotMade.TheVariants.{NotEnabled}
use Rattle.rsx_tree.specs.declared.edge.EdgeState.TheVariants.{Closed}
use Rattle.rsx_tree.specs.declared.look.NodeMove.{NodeMove}
use Rattle.rsx_tree.specs.declared.look.NodeMove.TheVariants.{Ask, Send, Pick, Row}
use Rattle.rsx_tree.specs.Runs.{Gives}
use Rattle.rsx_rooted.specs.declared.sink.Sink.{Ghosts as Sink}
use Rattle.rsx_pipe.specs.Part.{Part, IsEffect, IsPutOut, make_allocates, move_enabled}
use Rattle.rsx_pipe.specs.Tree.{IsAlike}
use Rattle.rsx_pipe.specs.declared.many.TheConstants.{MOST_AT_ONCE}

-- how often a call makes this move at most, where so many are wanted
abbrev pub most_of : NodeMove → ℕ → ℕ
most_of (Ask at) n = min n 1
most_of (Send at) n = min n MOST_AT_ONCE
most_of (Pick at input) n = min n 1
most_of (Row at) n = min n 1

-- this move was enabled, and was made with its effect; a state is the part and the sink
pub record IsMadeOver {M S T : Type 0} (b : Machine M T) (k : Sink S T) (m : Meaning T) (move : NodeMove) (x : Part M × S) (out : List (Signal T)) (y : Part M × S) : Type 0 where
  pub enabled : move_enabled b m x.0 (k.room x.1) move ≡ true
  pub effect : IsEffect b m move x.0 out y.0
  pub queued : k.signals y.1 ≡ k.signals x.1 ++ out

-- it was made so many times, one after the other
pub record IsMadeTimes {M S T : Type 0} (b : Machine M T) (k : Sink S T) (m : Meaning T) (move : NodeMove) (count : ℕ) (old : Part M) (sink : S) (new : Part M) (sink' : S) : Type 0 where
  -- what went over the root edge by them, which is behind what the sink held
  pub out : List (Signal T)
  pub queued : k.signals sink' ≡ k.signals sink ++ out
  pub moves : Gives (IsMadeOver b k m move) (λ (o : List (Signal T)). o) count (old, sink) out (new, sink')
  -- the part stands for what it stood for, where that went over the root edge besides
  pub stands : IsPutOut b m old out new
  -- what was asked, and that its root edge is open, stays
  pub asked : new.root.demand.asked ≡ old.root.demand.asked
  pub unclosed : (old.root.state ≡ Closed → ⊥) → new.root.state ≡ Closed → ⊥
  -- and so does whether a move may allocate
  pub alike : IsAlike b old.tree new.tree

-- why the next one is not made: it isn't enabled, or it wanted memory, which only a move does that may allocate
pub record IsRefused {M S T : Type 0} (b : Machine M T) (k : Sink S T) (m : Meaning T) (a : Allocates) (move : NodeMove) (part : Part M) (sink : S) (why : NotMade) : Type 0 where
  pub enabled : IsNotMade (move_enabled b m part (k.room sink) move) why
  pub memory : make_allocates b a part move ≡ false → why ≡ NotEnabled
