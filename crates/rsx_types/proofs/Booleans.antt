-- Booleans.
use Rattle.std.proofs.Common.{◌≡◌, Bool, true, false, refl, sym}

-- what would make false true is false
pub false_from_absurd : (b : Bool) → (b ≡ true → false ≡ true) → b ≡ false
false_from_absurd true k = sym (k refl)
false_from_absurd false k = refl
