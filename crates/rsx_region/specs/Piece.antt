-- A piece of a tree that was cut: a part whose root sends into a link, and whose nodes may read other links. What it stands for is said
-- relative to its opening: what came out of it then is what went out since, and then what comes out now.
use Rattle.std.specs.Prelude.{◌≡◌, ◌⊎◌, ℕ, ◌+◌, min, true, List, [], ◌∷◌, ◌++◌}
use Rattle.rsx_demand.specs.declared.TheConstants.{UNBOUNDED}
use Rattle.rsx_sources.specs.Prelude.{Meaning, Stream, Signal, ends_input}
use Rattle.rsx_sources.specs.declared.machine.Machine.{Ghosts as Machine}
use Rattle.rsx_tree.specs.declared.edge.EdgeState.TheVariants.{Live, Closed, Ended}
use Rattle.rsx_tree.specs.declared.node.Node.{Node}
use Rattle.rsx_tree.specs.Reads.{AllGoOn, IsTreeReadAt, readings}
use Rattle.rsx_pipe.specs.Feeding.{IsSentOut}
use Rattle.rsx_pipe.specs.Output.{IsUnended, counts_in}
use Rattle.rsx_pipe.specs.Part.{Part}
use Rattle.rsx_pipe.specs.Tree.{IsAllClosed, IsBalanced}
use Rattle.rsx_link.specs.Ends.{carried_up, items_sent, seen_total, sent_signals, up_steps}
use Rattle.rsx_link.specs.Signals.{items_in}
use Rattle.rsx_link.specs.Steps.{flags_of, has_cancel, has_refusal}
use Rattle.rsx_link.specs.declared.up.Up.{Up}
use Rattle.rsx_rooted.specs.Regions.{Carries}
use Rattle.rsx_region.specs.Open.{WasClear}

-- the root edge of a part and the sending end of its link count alike
pub record IsInStep {M T : Type 0} (part : Part M) (up : Up T) : Type 0 where
  -- of an edge no more can be asked than 2^63 - 1
  pub asked : part.root.demand.asked ≡ min UNBOUNDED (seen_total up)
  pub sent : part.root.demand.sent ≡ items_sent up

-- What a part is whose root edge is live. It gave `out` and no ending since its tree was `old`, where `taken` is what the hubs took in
-- and what came over links, each from the opening on.
pub record GoesOn {M T : Type 0} (b : Machine M T) (taken : List (Stream T)) (old : Node M) (part : Part M) (out : List (Signal T)) : Type 0 where
  pub unended : IsUnended out
  -- where the counts in its tree belonged together then, with so many items sent, they do now
  pub balance : (before : ℕ) → before + items_in out ≡ part.root.demand.sent → IsBalanced b old before → IsBalanced b part.tree part.root.demand.sent
  pub reads : IsTreeReadAt b (counts_in taken) part.tree
  -- an edge over which no receiver has ended or is done now, and which is live with all over it, was so then
  pub clear : WasClear b old part.tree

-- The last signal that it gave was an ending. The part as it was before that comes back where the signal is put back.
pub record HasEnded {M T : Type 0} (b : Machine M T) (m : Meaning T) (taken : List (Stream T)) (old : Node M) (part : Part M) (out : List (Signal T)) : Type 0 where
  pub before : Part M
  pub rest : List (Signal T)
  pub last : Signal T
  pub all : out ≡ rest ++ last ∷ []
  pub ends : ends_input last ≡ true
  pub sent : IsSentOut b m before last part
  pub live : before.root.state ≡ Live
  pub on : GoesOn b taken old before rest
  pub flow : Carries b m taken old before.tree rest

-- it was closed, because a flag of the link was seen
pub record WasClosed {M T : Type 0} (part : Part M) (up : Up T) (out : List (Signal T)) : Type 0 where
  pub unended : IsUnended out
  pub edges : IsAllClosed part.tree
  pub flag : (has_cancel (flags_of (up_steps up)) ≡ true) ⊎ (has_refusal (flags_of (up_steps up)) ≡ true)

-- The equation of a piece. What was sent into its link is `queued`, which the queue of the cut edge held, and then what came out since
-- its tree was `old`.
pub record PieceStands {M T : Type 0} (b : Machine M T) (m : Meaning T) (taken : List (Stream T)) (old : Node M) (queued : List (Signal T)) (part : Part M) (up : Up T) : Type 0 where
  pub out : List (Signal T)
  pub sent : sent_signals up ≡ queued ++ out
  pub flow : Carries b m taken old part.tree out
  pub step : IsInStep part up
  -- each node, behind an edge that isn't live, too, reads what it read, or nothing any more
  pub reading : AllGoOn (readings b old) (readings b part.tree)
  -- the edge of its root has a queue if it had one
  pub crosses : b.crosses part.tree.machine ≡ b.crosses old.machine
  pub live : part.root.state ≡ Live → GoesOn b taken old part out
  pub ended : part.root.state ≡ Ended → HasEnded b m taken old part out
  pub closed : part.root.state ≡ Closed → WasClosed part up out

-- What is left of that where two pieces are joined: the tree gave `out` and no ending since it was `old`. Of a piece that sent its ending
-- this is so of the part as it was before that.
pub record HasGiven {M T : Type 0} (b : Machine M T) (m : Meaning T) (taken : List (Stream T)) (old : Node M) (part : Part M) (out : List (Signal T)) : Type 0 where
  pub flow : Carries b m taken old part.tree out
  pub reading : AllGoOn (readings b old) (readings b part.tree)
  pub crosses : b.crosses part.tree.machine ≡ b.crosses old.machine
  pub on : part.root.state ≡ Live → GoesOn b taken old part out

-- A piece that has sent no ending gave what it sent. The root edge counts that, and what was sent before.
pub record GaveAll {M T : Type 0} (b : Machine M T) (m : Meaning T) (taken : List (Stream T)) (old : Node M) (queued : List (Signal T)) (part : Part M) (up : Up T) : Type 0 where
  pub out : List (Signal T)
  pub sent : sent_signals up ≡ queued ++ out
  pub given : HasGiven b m taken old part out
  pub counted : carried_up up + items_in queued + items_in out ≡ part.root.demand.sent

-- A piece that has sent its ending gave what stands before that in the link. The part is as it was before, where that signal is put back.
pub record GaveBefore {M T : Type 0} (b : Machine M T) (m : Meaning T) (taken : List (Stream T)) (old : Node M) (queued : List (Signal T)) (part : Part M) (up : Up T) : Type 0 where
  pub before : Part M
  pub out : List (Signal T)
  pub last : Signal T
  pub sent : sent_signals up ≡ (queued ++ out) ++ last ∷ []
  pub ends : ends_input last ≡ true
  pub put_back : IsSentOut b m before last part
  pub live : before.root.state ≡ Live
  pub given : HasGiven b m taken old before out
  pub counted : carried_up up + items_in queued + items_in out ≡ before.root.demand.sent

-- What a piece gave, where its ending, if it sent one, is put back.
abbrev pub GivesBack : {M T : Type 0} → Machine M T → Type 0
GivesBack {M} {T} b =
    (m : Meaning T) (taken : List (Stream T)) (old : Node M) (queued : List (Signal T)) (part : Part M) (up : Up T) → PieceStands b m taken old queued part up →
    ((part.root.state ≡ Ended → ⊥) → GaveAll b m taken old queued part up) × (part.root.state ≡ Ended → GaveBefore b m taken old queued part up)

-- Such a part with such an end stands for what a piece stands for, since its tree is what it is. Whether the counts in the tree belong
-- together isn't asked.
abbrev pub Opens : {M T : Type 0} → Machine M T → Type 0
Opens {M} {T} b =
    (m : Meaning T) (taken : List (Stream T)) (part : Part M) (up : Up T) → part.root.state ≡ Live → IsInStep part up → IsTreeReadAt b (counts_in taken) part.tree →
    PieceStands b m taken part.tree (sent_signals up) part up
