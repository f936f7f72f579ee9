-- The nodes of a graph may go from one thread to another, where its items may.
use denote.RattleType.{RattleType}
use denote.Enum.Enum.{Enum}
use denote.Enum.Declared.{shape}
use denote.Struct.Declared as fields
use denote.Param.Send.{IsSend, enum_send, recorded_send, sendable, struct_send}
use Rattle.std.proofs.Crossing.{crosses}
use Rattle.rsx_hub.below.circular_buffer.proofs.cells.Cells.TheSendSync as Cells
use Rattle.rsx_hub.below.circular_buffer.proofs.cells.Deed.TheSendSync as Deed
use Rattle.rsx_kinds.below.rsx_plain.proofs.chain.ChainState.TheLaws.TheKnot as Chain
use Rattle.rsx_kinds.below.rsx_plain.proofs.state.PlainState.TheSendSync as State
use Rattle.rsx_kinds.below.rsx_window.specs.contracts.node.WindowNode as WindowNode
use Rattle.rsx_kinds.below.rsx_grouping.specs.contracts.node.GroupByNode as GroupByNode
use Rattle.rsx_kinds.below.rsx_queued.specs.contracts.sender.Sender as Sender
use Rattle.rsx_kinds.specs.contracts.any_node.AnyNode as AnyNode
use Rattle.rsx_kinds.specs.contracts.boxed.Boxed as Boxed

ruleset cross = (sendable, crosses, Cells.the_send, Deed.the_send, Chain.send-ChainState, State.the_field_send)

module _ (T : RattleType) (items : IsSend T) where
  window : IsSend (WindowNode.the_field T).row
  window =
      struct_send (fields.shape (WindowNode.the_type T))
      (search cross depth 60 fits 100000, (search cross depth 60 fits 100000, (search cross depth 60 fits 100000, (search cross depth 60 fits 100000, (search cross depth 60 fits 100000, (search cross depth 60 fits 100000, tt))))))

  group_by : IsSend (GroupByNode.the_field T).row
  group_by =
      struct_send (fields.shape (GroupByNode.the_type T))
      (search cross depth 60 fits 100000, (search cross depth 60 fits 100000, (search cross depth 60 fits 100000, (search cross depth 60 fits 100000, (search cross depth 60 fits 100000, (search cross depth 60 fits 100000, (search cross depth 60 fits 100000, tt)))))))

  -- one of each kind
  any : IsSend (AnyNode.the_row T)
  any =
      let A = AnyNode.the_type T in
      recorded_send (Enum (shape A)) A.D A.to A.to_one
      (enum_send (shape A) (
        (search cross depth 60 fits 100000, tt),
        (
          (search cross depth 60 fits 100000, tt),
          (
            (search cross depth 60 fits 100000, tt),
            (
              (search cross depth 60 fits 100000, tt),
              ((search cross depth 60 fits 100000, tt), ((window, tt), ((search cross depth 60 fits 100000, tt), ((search cross depth 60 fits 100000, tt), ((group_by, tt), tt))))),
            ),
          ),
        ),
      ))

boxed : (N : RattleType) → IsSend N → IsSend (Boxed.the_row N)
boxed N node = search cross depth 60 fits 100000

sender : (N T : RattleType) → IsSend N → IsSend T → IsSend (Sender.the_row N T)
sender N T node items = search cross depth 60 fits 100000

-- a node of a tree, with the queue of its edge
pub tree_node : (T : RattleType) → IsSend T → IsSend (Boxed.the_row (Sender.the_row (AnyNode.the_row T) T))
tree_node T items = boxed (Sender.the_row (AnyNode.the_row T) T) (sender (AnyNode.the_row T) T (any T items) items)
