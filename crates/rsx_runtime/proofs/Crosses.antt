-- A live graph may be shared by threads, where its nodes and its items may go from one to another and its functions may be shared.
use denote.RattleType.{RattleType}
use denote.Struct.Struct.{Struct}
use denote.Struct.Declared.{shape}
use denote.Param.Send.{IsSend, IsSync, recorded_send, recorded_sync, sendable, struct_send, struct_sync}
use Rattle.std.proofs.Crossing.{crosses}
use Rattle.std.specs.declared.clone.Clone.{Ghosts as Clone}
use Rattle.rsx_types.specs.declared.ops.Ops.{Ghosts as Ops}
use Rattle.rsx_sources.specs.declared.machine.Machine.{Ghosts as Machine}
use Rattle.rsx_tree.proofs.inputs.Inputs.TheLaws.TheKnot as Inputs
use Rattle.rsx_pipe.specs.declared.Nodes.{Ghosts as Nodes}
use Rattle.rsx_gate.proofs.gate.Gate.TheSendSync as Gate
use Rattle.rsx_link.proofs.link.Link.TheSendSync as Link
use Rattle.rsx_link.proofs.up.Up.TheSendSync as Up
use Rattle.rsx_region.proofs.inlet.Inlet.TheSendSync as Inlet
use Rattle.rsx_region.specs.contracts.region.Region as Region
use Rattle.rsx_rooted.specs.contracts.batch.Batch as Batch
use Rattle.rsx_plain.proofs.chain.ChainState.TheLaws.TheKnot as Chain
use Rattle.rsx_plain.proofs.state.PlainState.TheSendSync as State
use Rattle.rsx_runtime.specs.contracts.live.Live as Live

-- items on their way through a piece
batch : (T : RattleType) → IsSend T → IsSend (Batch.the_field T).row
batch T t =
    struct_send (shape (Batch.the_type T))
    (search (sendable, crosses) depth 60 fits 100000, (search (sendable, crosses) depth 60 fits 100000, (search (sendable, crosses, Chain.send-ChainState, State.the_field_send) depth 60 fits 100000, tt)))

pub region : (N T : RattleType) → IsSend N → IsSend T → IsSend (Region.the_row N T)
region N T n t =
    let R = Region.the_type N T in
    recorded_send (Struct (shape R)) R.D R.to R.to_one
    (struct_send (shape R) (
      search sendable,
      (
        search (sendable, crosses, Inlet.the_field_send, Up.the_field_send, Inputs.crosses) depth 60 fits 100000,
        (search (sendable, crosses) depth 60 fits 100000, (batch T t, tt)),
      ),
    ))

pub live : (N T O : RattleType) (nodes : Nodes N.Denot T.Denot) (machine : Machine N.Denot T.Denot) (ops : Ops O.Denot T.Denot) (clone : Clone O.Denot) →
    IsSend N → IsSend T → IsSync O → IsSync (Live.the_row N T O nodes machine ops clone)
live N T O nodes machine ops clone n t o =
    let L = Live.the_type N T O nodes machine ops clone in
    let r = region N T n t in
    recorded_sync (Struct (shape L)) L.D L.to L.to_one
    (struct_sync (shape L) (
      search (sendable, crosses, Gate.the_field_sync) depth 20 fits 10000,
      (
        search (sendable, crosses, Link.the_field_sync) depth 20 fits 10000,
        (search sendable, tt),
      ),
    ))
