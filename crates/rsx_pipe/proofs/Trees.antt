-- The tree of a part: what its nodes recorded, and choices.
use Rattle.std.proofs.Common.{◌≡◌, List, [], ◌∷◌, length, ap, arith, refl}
use Rattle.rsx_sources.specs.Prelude.{notes_then, Note}
use Rattle.rsx_rooted.specs.Built.{AllUnrecorded}
pub use Rattle.rsx_rooted.proofs.Trees.{unchosen_notes, notes_then-unchosen, unchosen_tree}

-- ---- choices

pub notes_then-unrecorded : (ns ks : List Note) → AllUnrecorded ns → length ks ≡ length ns → notes_then ns ks ≡ ks
notes_then-unrecorded [] [] h e = refl
notes_then-unrecorded [] (k ∷ ks) h e = absurd (omega (arith, e))
notes_then-unrecorded (n ∷ ns) [] h e = absurd (omega (arith, e))
notes_then-unrecorded (n ∷ ns) (k ∷ ks) h e = rw (h.0 k) (ap (λ l. k ∷ l) (notes_then-unrecorded ns ks h.1 (omega (arith, e))))
