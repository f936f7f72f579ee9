-- What waits in front of a hub.
use Rattle.rsx_hub.specs.Hub.{HubState}
use Rattle.rsx_types.specs.Stream.{Stream}

-- what waits in the inbox of a hub
abbrev pub waiting_of : {T : Type 0} → HubState T → Stream T
waiting_of s = record { items = s.inbox; ending = s.ending }
