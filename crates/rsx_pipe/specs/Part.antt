-- A part: a tree of nodes with the edge from its root. What `rsx_rooted` says of such a tree, and what is delivered where a part is
-- idle.
use Rattle.std.specs.Prelude.{◌≡◌, ℕ, ◌<◌, ◌≤◌, min, Bool, true, List, length, take, Some}
use Rattle.rsx_model.specs.declared.check.TheConstants.{MOST_NODES}
use Rattle.rsx_model.specs.declared.expr.Expr.{Expr}
use Rattle.rsx_sources.specs.Prelude.{Meaning, Stream, Open, Signal}
use Rattle.rsx_sources.specs.declared.machine.Machine.{Ghosts as Machine}
use Rattle.rsx_tree.specs.declared.edge.EdgeState.TheVariants.{Live, Closed, Ended}
use Rattle.rsx_tree.specs.Rests.{TreeHasReadAll}
pub use Rattle.rsx_rooted.specs.Output.{has_room}
pub use Rattle.rsx_rooted.specs.Rooted.{evaluated, all_edges, sent_at, IsNumbered, Stands as PartStands, ask_enabled, send_enabled, pick_enabled, row_enabled, move_enabled, make_allocates, pump_allocates, wanted, offered, receiver_ended, IsAsk, GoesOut, IsSend, IsPick, IsRow, IsEffect, IsAlone, IsPutOut, IsMoved, IsMade, IsMadeInto, IsMovedBy, IsMovedOver, IsPumped, IsQuiet, IsAwake, HasEnded, IsSpent, IsResidualOf as IsPartResidual, no_room, queue_sink}
use Rattle.rsx_rooted.specs.declared.rooted.Rooted.{Rooted}
use Rattle.rsx_pipe.specs.Output.{items_in, values_then}
use Rattle.rsx_pipe.specs.Tree.{notes_of, IsWithin}

-- what contracts see of a part: its tree, and the edge from its root
abbrev pub Part : Type 0 → Type 0
Part M = Rooted M

-- ---- idle means delivered

-- the first items of a value were sent, as many as were asked for or as there are, and the ending too where more was asked
-- for than there are and the value has one
pub record IsServed {M T : Type 0} (part : Part M) (output : List (Signal T)) (v : Stream T) : Type 0 where
  pub items : items_in output ≡ take (min part.root.demand.asked (length v.items)) v.items
  pub ending : length v.items < part.root.demand.asked → (v.ending ≡ Open → ⊥) → part.root.state ≡ Ended

-- each node of a part that reads a hub and offers nothing has got all that was published there, where these are the values of the
-- hubs; of a part whose root edge isn't live nothing is said
abbrev pub HasReadAll : {M T : Type 0} → Machine M T → Meaning T → List (Stream T) → Part M → Type 0
HasReadAll b m hubs part = part.root.state ≡ Live → TreeHasReadAll b m hubs part.tree part.root.demand.asked part.root.demand.sent

-- a part whose root edge isn't closed, with room behind it, did so, over what is published in all, as long as its nodes have
-- read that and no edge has carried 2^63-1 items; its expression has at most `MOST_NODES` nodes, as each has that isn't refused
abbrev pub IsDelivered : {M T : Type 0} → Machine M T → Meaning T → Part M → Bool → Type 0
IsDelivered {T = T} b m part room =
    (published : List (Stream T)) (e : Expr T) (joins : List ℕ) (output : List (Signal T)) → PartStands b m published part e joins output →
    (part.root.state ≡ Closed → ⊥) → room ≡ true → length (all_edges part) ≤ MOST_NODES → IsWithin part.tree →
    (more : List (Stream T)) (v : Stream T) → HasReadAll b m (values_then published more) part → evaluated m (values_then published more) joins e (notes_of b part.tree) ≡ Some v → IsServed part output v
