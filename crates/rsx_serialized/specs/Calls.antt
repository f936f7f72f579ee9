-- The link of an emitter or a tap.
use Rattle.std.specs.Prelude.{◌≡◌, ℕ, List, Some, slice_get}
use Rattle.rsx_link.specs.declared.link.Link.{Link}

-- there is a link with this number, and this holds of it
abbrev pub IsAt : {T : Type 0} → List (Link T) → ℕ → (Link T → Type 0) → Type 0
IsAt {T} links k P = (l : Link T) × (slice_get links k ≡ Some l) × P l
