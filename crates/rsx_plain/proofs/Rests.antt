-- A chain that goes on gives nothing of nothing, and one whose input has ended gives an ending.
use Rattle.std.proofs.Common.{◌≡◌, ◌||◌, Bool, true, false, refl, ap, ◌∙◌}
use Rattle.rsx_sources.specs.Prelude.{Open, Meaning, Stream, ended_by}
use Rattle.rsx_plain.specs.Moves.{has_ended}
use Rattle.rsx_plain.specs.State.{plain_from, is_over}
use Rattle.rsx_plain.proofs.Drained.{operator_rests}
use Rattle.rsx_plain.proofs.Ended.{operator_ends}
use Rattle.rsx_plain.specs.Chain.{chain_from, chain_over}
use Rattle.rsx_plain.specs.declared.chain.ChainState.{ChainState, End, Stage'}

neither : (a b : Bool) → (a || b) ≡ false → (a ≡ false) × (b ≡ false)
neither true b h = cc
neither false b h = (refl, h)

-- where no operator of the chain is over
pub chain_rests : {T : Type 0} (m : Meaning T) (c : ChainState T) → chain_over c ≡ false → chain_from m c (ended_by Open) ≡ ended_by Open
chain_rests m End o = refl
chain_rests m (Stage' s p behind) o =
    let both = neither (is_over s) (chain_over behind) o in
    ap (chain_from m behind) (operator_rests m s both.0) ∙ chain_rests m behind both.1

pub chain_ends : {T : Type 0} (m : Meaning T) (c : ChainState T) (v : Stream T) → has_ended v.ending ≡ true → has_ended (chain_from m c v).ending ≡ true
chain_ends m End v h = h
chain_ends m (Stage' s p behind) v h = chain_ends m behind (plain_from m s v) (operator_ends m s v h)
