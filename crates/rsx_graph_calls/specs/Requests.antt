-- What a subscriber of a graph with feeds did.
use Rattle.rsx_graph_state.specs.Prelude.{History, changed}
use Rattle.rsx_subscriber.specs.Past.{Past}
use Rattle.rsx_types.specs.declared.names.SubId.{SubId}

-- the past of the subscriber with this number changed so
abbrev pub with_past : {T : Type 0} → (Past T → Past T) → SubId → History T → History T
with_past f i h = record { hubs = h.hubs; pasts = changed f h.pasts i.0 }
