-- A chain that is over.
use Rattle.std.proofs.Common.{◌≡◌, Bool, true, false, refl, sym, ap, ◌∙◌}
use Rattle.rsx_sources.specs.Prelude.{Meaning, Stream}
use Rattle.rsx_plain.specs.State.{plain_from, is_over}
use Rattle.rsx_plain.proofs.Drained.{over_done}
use Rattle.rsx_plain.specs.Chain.{chain_from, chain_over}
use Rattle.rsx_plain.specs.declared.chain.ChainState.{ChainState, End, Stage'}

-- where an operator of the chain is over, what comes in does not matter
pub chain_closed : {T : Type 0} (m : Meaning T) (s : ChainState T) → chain_over s ≡ true → (v w : Stream T) → chain_from m s v ≡ chain_from m s w
chain_closed m End h v w = cc
chain_closed m (Stage' s p behind) h v w = by_first (is_over s) refl (λ o. chain_closed m behind o (plain_from m s v) (plain_from m s w))
  where
    by_first : (over : Bool) → is_over s ≡ over → (chain_over behind ≡ true → chain_from m behind (plain_from m s v) ≡ chain_from m behind (plain_from m s w)) → chain_from m behind (plain_from m s v) ≡ chain_from m behind (plain_from m s w)
    by_first true o rest = ap (chain_from m behind) (over_done m s o v ∙ sym (over_done m s o w))
    by_first false o rest = rest (rw o at h)
