-- What a look for the nodes that read a link found.
use Rattle.std.specs.Prelude.{◌≡◌, ℕ, ◌<◌, Bool, true, false}
use Rattle.rsx_region.specs.declared.readers.Readers.{Readers}
use Rattle.rsx_region.specs.declared.readers.Readers.TheVariants.{Nobody, Free, Full, Several}

-- so many nodes read it, and all of them have room for an item, or not
abbrev pub AreReaders : Readers → ℕ → Bool → Type 0
AreReaders Nobody count room = (count ≡ 0) × (room ≡ true)
AreReaders Free count room = (count ≡ 1) × (room ≡ true)
AreReaders Full count room = (count ≡ 1) × (room ≡ false)
AreReaders Several count room = 1 < count
