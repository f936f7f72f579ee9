-- A graph behind its gate may be shared by threads, and a seat of that gate may go to one, where its items and its functions may.
use mathlib.Core.List.{List, [], ◌∷◌}
use mir.Syntax.{Sym}
use denote.RattleType.{RattleType}
use denote.Ref.{NamedLft}
use denote.Enum.Enum.{Enum}
use denote.Enum.Declared.{shape}
use denote.Struct.Struct.{Struct}
use denote.Struct.Declared as fields
use denote.Struct.Field.{shr_ref_field, u32-field}
use denote.Struct.Tuple.{TupleAt, type_at}
use denote.Param.Send.{IsSend, IsSync, enum_send, recorded_send, recorded_sync, sendable, shr_send, struct_send, struct_sync}
use Rattle.std.proofs.Crossing.{crosses, sync}
use Rattle.std.below.core.specs.contracts.clone.Clone+copy.TheImpl as Copied
use Rattle.std.specs.contracts.alloc.Global as Global
use Rattle.circular_buffer.proofs.cells.Cells.TheSendSync as Cells
use Rattle.circular_buffer.proofs.cells.Deed.TheSendSync as Deed
use Rattle.std.specs.declared.clone.Clone.{Ghosts as Clone}
use Rattle.rsx_demo.specs.contracts.demo.Demo as Demo
use Rattle.rsx_demo.specs.contracts.demo.DemoOps.TheImpl as DemoOps
use Rattle.rsx_demo.specs.contracts.val.Val as Val
use Rattle.rsx_demo.proofs.val.Vals.TheLaws.TheKnot as ValKnot
use Rattle.rsx_types.specs.declared.ops.Ops.{Ghosts as Ops}
use Rattle.rsx_kinds.below.rsx_plain.proofs.chain.ChainState.TheLaws.TheKnot as Chain
use Rattle.rsx_kinds.below.rsx_plain.proofs.state.PlainState.TheSendSync as State
use Rattle.rsx_kinds.below.rsx_window.specs.contracts.node.WindowNode as WindowNode
use Rattle.rsx_kinds.below.rsx_grouping.specs.contracts.node.GroupByNode as GroupByNode
use Rattle.rsx_kinds.below.rsx_queued.specs.contracts.sender.Sender as Sender
use Rattle.rsx_kinds.below.rsx_tree.proofs.inputs.Inputs.TheLaws.TheKnot as Inputs
use Rattle.rsx_kinds.specs.contracts.any_node.AnyNode as AnyNode
use Rattle.rsx_kinds.specs.contracts.boxed.Boxed as Boxed
use Rattle.rsx_gate.below.atomic_table.specs.contracts.shared.Seat as Seat
use Rattle.rsx_gate.below.atomic_table.proofs.shared.Seat.TheSendSync as Seated
use Rattle.rsx_gate.proofs.gate.Gate.TheSendSync as Gate
use Rattle.rsx_gate.specs.contracts.view.View as View
use Rattle.rsx_link.proofs.link.Link.TheSendSync as Link
use Rattle.rsx_link.proofs.up.Up.TheSendSync as Up
use Rattle.rsx_link.proofs.cancel.CancelSeat.TheSendSync as CancelSeat
use Rattle.rsx_link.proofs.down.Down.TheSendSync as Down
use Rattle.rsx_graph.below.rsx_graph_state.specs.contracts.feed.Feed as Feed
use Rattle.rsx_graph.below.rsx_subscriber.specs.contracts.subscription.Subscription as Subscription
use Rattle.rsx_graph.below.rsx_hub.specs.contracts.hub.Hub as Hub
use Rattle.rsx_graph.specs.contracts.graph.Graph as Graph
use Rattle.rsx_serialized.specs.contracts.opening.Opening as Opening
use Rattle.rsx_serialized.specs.contracts.region.GraphRegion as GraphRegion
use Rattle.rsx_serialized.specs.contracts.serialized.SerializedGraph as SerializedGraph

ruleset cross = (sendable, crosses, Cells.the_send, Deed.the_send, Chain.send-ChainState, State.the_field_send)

module _ (T : RattleType) (items : IsSend T) where
  window : IsSend (WindowNode.the_field T).row
  window =
      struct_send (fields.shape (WindowNode.the_type T))
      (search cross depth 60 fits 100000, (search cross depth 60 fits 100000, (search cross depth 60 fits 100000, (search cross depth 60 fits 100000, (search cross depth 60 fits 100000, (search cross depth 60 fits 100000, tt))))))

  group_by : IsSend (GroupByNode.the_field T).row
  group_by =
      struct_send (fields.shape (GroupByNode.the_type T))
      (search cross depth 60 fits 100000, (search cross depth 60 fits 100000, (search cross depth 60 fits 100000, (search cross depth 60 fits 100000, (search cross depth 60 fits 100000, (search cross depth 60 fits 100000, (search cross depth 60 fits 100000, tt)))))))

  -- one of each kind
  any : IsSend (AnyNode.the_row T)
  any =
      let A = AnyNode.the_type T in
      recorded_send (Enum (shape A)) A.D A.to A.to_one
      (enum_send (shape A) (
        (search cross depth 60 fits 100000, tt),
        (
          (search cross depth 60 fits 100000, tt),
          (
            (search cross depth 60 fits 100000, tt),
            (
              (search cross depth 60 fits 100000, tt),
              ((search cross depth 60 fits 100000, tt), ((window, tt), ((search cross depth 60 fits 100000, tt), ((search cross depth 60 fits 100000, tt), ((group_by, tt), tt))))),
            ),
          ),
        ),
      ))

boxed : (N : RattleType) → IsSend N → IsSend (Boxed.the_row N)
boxed N node = search cross depth 60 fits 100000

sender : (N T : RattleType) → IsSend N → IsSend T → IsSend (Sender.the_row N T)
sender N T node items = search cross depth 60 fits 100000

-- a node of a tree, with the queue of its edge
tree_node : (T : RattleType) → IsSend T → IsSend (Boxed.the_row (Sender.the_row (AnyNode.the_row T) T))
tree_node T items = boxed (Sender.the_row (AnyNode.the_row T) T) (sender (AnyNode.the_row T) T (any T items) items)

hub : (T : RattleType) → IsSend T → IsSend (Hub.the_row T)
hub T items = search cross depth 60 fits 100000

feed : (N : RattleType) → IsSend N → IsSend (Feed.the_row N)
feed N node = search (cross, Inputs.crosses) depth 60 fits 100000

subscription : (N T : RattleType) → IsSend N → IsSend T → IsSend (Subscription.the_row N T)
subscription N T node items = search (cross, Inputs.crosses) depth 60 fits 100000

module _ (O T : RattleType) (ops : Ops O.Denot T.Denot) (clone : Clone O.Denot) (functions : IsSend O) (items : IsSend T) where
  graph : IsSend (Graph.the_field O T ops).row
  graph =
      let N = Boxed.the_row (Sender.the_row (AnyNode.the_row T) T) in
      let node = tree_node T items in
      let h = hub T items in
      let f = feed N node in
      let s = subscription N T node items in
      search (sendable, crosses) depth 40 fits 100000

  region_field : IsSend (GraphRegion.the_field O T ops).row
  region_field =
      let g = graph in
      struct_send (fields.shape (GraphRegion.the_type O T ops)) (
        g,
        (
          search (sendable, crosses, Down.the_field_send, CancelSeat.the_field_send) depth 40 fits 100000,
          (search (sendable, crosses, Up.the_field_send) depth 40 fits 100000, (search (sendable, crosses) depth 40 fits 100000, (search (sendable, crosses, Down.the_field_send, CancelSeat.the_field_send) depth 40 fits 100000, tt))),
        ),
      )

  region : IsSend (GraphRegion.the_row O T ops)
  region =
      let R = GraphRegion.the_type O T ops in
      recorded_send (Struct (fields.shape R)) R.D R.to R.to_one region_field

  serialized : IsSync (SerializedGraph.the_row O T ops clone)
  serialized =
      let G = SerializedGraph.the_type O T ops clone in
      let r = region in
      let f = region_field in
      recorded_sync (Struct (fields.shape G)) G.D G.to G.to_one
      (struct_sync (fields.shape G) (
        search (sendable, crosses, Gate.the_field_sync) depth 20 fits 10000,
        (search (sendable, crosses, Link.the_field_sync) depth 20 fits 10000, tt),
      ))

-- the functions and the items of the demonstration may
demo : IsSend Demo.the_row
demo = search sendable depth 20

val : IsSend Val.the_row
val = search (sendable, crosses, ValKnot.crosses) depth 40

-- its graphs behind a gate, what such a gate keeps, and a seat of it
abbrev graph_row : RattleType
graph_row = SerializedGraph.the_row Demo.the_row Val.the_row DemoOps.ghosts (Copied.ghosts Demo.the_row)

abbrev region_row : RattleType
region_row = GraphRegion.the_row Demo.the_row Val.the_row DemoOps.ghosts

abbrev view_row : RattleType
view_row = View.the_row (Opening.the_row Demo.the_row Val.the_row DemoOps.ghosts)

abbrev seat_row : RattleType
seat_row = Seat.the_row region_row view_row

shared : IsSync graph_row
shared = serialized Demo.the_row Val.the_row DemoOps.ghosts (Copied.ghosts Demo.the_row) demo val

pub seat : IsSend seat_row
seat = Seated.the_send region_row view_row (region Demo.the_row Val.the_row DemoOps.ghosts (Copied.ghosts Demo.the_row) demo val)

-- what the work of a thread captures that pokes: the allocator, the graph, its seat, how often and with which budget
abbrev captured : NamedLft → NamedLft → NamedLft → NamedLft → List RattleType
captured a b c d = (shr_ref_field a Global.the_row tt).row ∷ (shr_ref_field b graph_row tt).row ∷ seat_row ∷ (shr_ref_field c u32-field.row tt).row ∷ (shr_ref_field d u32-field.row tt).row ∷ []

pub work : (name : Sym) (a b c d : NamedLft) → IsSend (TupleAt name (captured a b c d))
work name a b c d =
    let T = type_at name (captured a b c d) in
    let number : IsSync u32-field.row = search sendable depth 8 in
    recorded_send (Struct (fields.shape T)) T.D T.to T.to_one
    (struct_send (fields.shape T) (
      shr_send a.mir a.lft Global.the_row sync,
      (shr_send b.mir b.lft graph_row shared, (seat, (shr_send c.mir c.lft u32-field.row number, (shr_send d.mir d.lft u32-field.row number, tt)))),
    ))
