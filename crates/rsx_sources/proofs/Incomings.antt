-- What comes in, as a node is handed it.
use Rattle.std.proofs.Common.{◌≡◌, List, [], ◌∷◌, refl}
use Rattle.rsx_types.specs.Stream.{Stream}
use Rattle.rsx_sources.specs.Heads.{head_of}
use Rattle.rsx_sources.specs.Machine.{incoming_of}

pub first_in : {T : Type 0} (hubs vs : List (Stream T)) → (incoming_of hubs vs).first ≡ head_of vs
first_in hubs [] = refl
first_in hubs (v ∷ vs) = refl

pub hubs_in : {T : Type 0} (hubs vs : List (Stream T)) → (incoming_of hubs vs).hubs ≡ hubs
hubs_in hubs [] = refl
hubs_in hubs (v ∷ vs) = refl
