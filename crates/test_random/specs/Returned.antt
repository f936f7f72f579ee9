-- A graph that came back from behind its gate, with the links of its emitters and its taps.
use Rattle.std.specs.Prelude.{◌≡◌, ℕ, List}
use Rattle.rsx_link.specs.Ends.{IsCancelSeatOf, IsDownOf}
use Rattle.rsx_serialized.specs.Ends.{Beside, BesideFew}
use Rattle.rsx_types.specs.declared.ops.Ops.{Ghosts as Ops}
use Rattle.test_random.specs.declared.returned.Returned.{Returned}

-- this holds of the elements of two lists that stand at one place, and there are as many of them
abbrev pub Along : {X Y : Type 0} → List X → List Y → (ℕ → X → Y → Type 0) → Type 0
Along xs ys P = Beside P xs ys

-- and there are no more of the second
abbrev pub AlongFew : {X Y : Type 0} → List X → List Y → (ℕ → X → Y → Type 0) → Type 0
AlongFew xs ys P = BesideFew P xs ys

module _ {O T : Type 0} {b : Ops O T} where
  -- what remains on the links may be taken
  pub record HasRest (o : Returned O T b) : Type 0 where
    pub inlets : Along o.links.emitters.items o.region.inlets.items (λ k l i. IsDownOf l i.down)
    pub taps : AlongFew o.links.taps.items o.taps.items (λ k l t. (t.link ≡ k) × (IsDownOf l t.down × IsCancelSeatOf l t.seat))
