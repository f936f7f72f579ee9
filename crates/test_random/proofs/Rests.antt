-- What remains of a graph that was put behind a gate with its emitters and taps.
use Rattle.std.proofs.Common.{◌≡◌, List}
use Rattle.rsx_link.specs.Ends.{IsCancelSeatOf, IsDownOf}
use Rattle.rsx_link.specs.declared.link.Link.{Link}
use Rattle.rsx_runtime.specs.declared.tap.Tap.{Tap}
use Rattle.rsx_serialized.specs.Regions.{AreInletsOf}
use Rattle.rsx_serialized.specs.Started.{AreTapsOf}
use Rattle.rsx_serialized.specs.declared.ends.FromEmitter.{FromEmitter}
use Rattle.test_random.specs.Returned.{Along, AlongFew}

module _ {T : Type 0} (links : List (Link T)) where
  -- the taps have the ends of their links
  pub own_taps : (ts : List (Tap T)) → AreTapsOf links ts → AlongFew links ts (λ k l t. (t.link ≡ k) × (IsDownOf l t.down × IsCancelSeatOf l t.seat))
  own_taps ts h = record { few = h.few; each = λ k l t at there. let own = h.each k l t at there in (own.0, own.2) }

  -- the ends that take from emitters are those of their links
  pub own_inlets : (is : List (FromEmitter T)) → AreInletsOf links is → Along links is (λ k l i. IsDownOf l i.down)
  own_inlets is h = record { count = h.ends.count; each = λ k l i at there. (h.ends.each k l i at there).0 }
