-- How the leaves of an expression join hubs.
use Rattle.std.proofs.Common.{◌≡◌, ℕ, zero, suc, ◌≤◌, List, [], ◌∷◌, length, refl, ap, arith, Some, slice_get}
use Rattle.rsx_hub.specs.Hub.{HubState, join}
use Rattle.rsx_rooted.specs.Built.{join_at, joins_now}

-- past the last hub there is none
pub join_past : {T : Type 0} (hubs : List (HubState T)) (i : ℕ) → length hubs ≤ i → join_at (joins_now hubs) i ≡ 0
join_past [] i e = refl
join_past (g ∷ gs) zero e = absurd (omega (arith, e))
join_past (g ∷ gs) (suc i) e = join_past gs i (omega (arith, e))

pub join_there : {T : Type 0} (hubs : List (HubState T)) (i : ℕ) (h : HubState T) → slice_get hubs i ≡ Some h → join_at (joins_now hubs) i ≡ join h.kind h.count
join_there [] i h e = cc
join_there (g ∷ gs) zero h e = let same : g ≡ h = cc in ap (λ k. join k.kind k.count) same
join_there (g ∷ gs) (suc i) h e = join_there gs i h e
