-- The link that an emitter or a tap names by its number.
use Rattle.std.specs.Prelude.{⊤}
use Rattle.std.proofs.Common.{◌≡◌, ℕ, List, ap, ◌∙◌, sym, Some, slice_get}
use Rattle.rsx_link.specs.declared.link.Link.{Link}
use Rattle.rsx_serialized.specs.Calls.{IsAt}

module _ {T : Type 0} where
  -- there is a link with the number that it answers
  pub named : (links : List (Link T)) (n k : ℕ) (P : Link T → Type 0) → k ≡ n → IsAt links n P → IsAt links k (λ l. ⊤)
  named links n k P e (l, there, p) = (l, ap (slice_get links) e ∙ there, tt)

  -- what holds of the link that was found, holds of the one with the number
  pub found : (links : List (Link T)) (n k : ℕ) (l : Link T) (Q : Link T → Type 0) → k ≡ n → slice_get links k ≡ Some l → Q l → IsAt links n Q
  found links n k l Q e there q = (l, ap (slice_get links) (sym e) ∙ there, q)
