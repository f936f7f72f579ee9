-- What a seat has after its steps, and that the graph that it lends fits its key.
use Rattle.std.proofs.Common.{◌≡◌, Bool, refl, sym, subst, ◌∙◌}
use Rattle.atomic_table.specs.declared.shared.Seat.{Seat}
use Rattle.rsx_types.specs.declared.ops.Ops.{Ghosts as Ops}
use Rattle.rsx_gate.specs.Machine.{holds_after}
use Rattle.rsx_gate.specs.Seats.{Holds, Took, key_of, seat_with_value}
use Rattle.rsx_gate.specs.declared.gate.Gate.{Gate}
use Rattle.rsx_gate.specs.declared.view.Step.{Step}
use Rattle.rsx_gate.specs.declared.view.View.{View}
use Rattle.rsx_runtime.proofs.Seats.{view_kept}
use Rattle.rsx_serialized.specs.Gates.{Fits, HasFitting}
use Rattle.rsx_serialized.specs.Regions.{AreEndsOf, GoesOn}
use Rattle.rsx_serialized.specs.Resting.{IsAtRest}
use Rattle.rsx_serialized.specs.declared.opening.Opening.{Opening}
use Rattle.rsx_serialized.specs.declared.region.GraphRegion.{GraphRegion}
use Rattle.rsx_serialized.specs.declared.region.Links.{Links}
use Rattle.rsx_serialized.specs.Opened.{HasStopped}
use Rattle.rsx_serialized.proofs.Goes.{region_on, region_same}
use Rattle.rsx_serialized.proofs.Late.{since}

module _ {O T : Type 0} {b : Ops O T} where
  -- a seat that made such a step, and let nothing go, has the graph still
  pub seat_kept : (g : Gate (GraphRegion O T b) (Opening O T b)) (x : Step) (was now : Seat (GraphRegion O T b) (View (Opening O T b))) → Took x was now → now.me.1 ≡ was.me.1 → ((c : Bool) → holds_after x c ≡ c) → HasFitting g (Holds g was) → HasFitting g (Holds g now)
  seat_kept g x was now took same stays h =
      let v = view_kept was.me.0 now.me.0 x (key_of g) took.2 stays h.1.2 h.1.3 h.1.4 in
      (h.0, (took.0 ∙ h.1.0, same ∙ h.1.1, v.0, v.1, v.2), h.2)

  -- the graph that the seat lends is between these links
  pub held_ends : (g : Gate (GraphRegion O T b) (Opening O T b)) (links : Links T) (P : GraphRegion O T b → Type 0) (r : GraphRegion O T b) → (key_of g).links.value ≡ links → HasFitting g P → ((x : GraphRegion O T b) → P x → x ≡ r) → AreEndsOf links r
  held_ends g links P r opened h value =
      let L : Links T → Type 0 = λ l. AreEndsOf l r in
      let R : GraphRegion O T b → Type 0 = λ x. AreEndsOf (key_of g).links.value x in
      subst L opened (subst R (value h.0 h.1) h.2.0)

  -- what it came to fits
  pub held_now : (g : Gate (GraphRegion O T b) (Opening O T b)) (links : Links T) (old new : Seat (GraphRegion O T b) (View (Opening O T b))) (r s : GraphRegion O T b) → (key_of g).links.value ≡ links → HasFitting g (Holds g old) → ((x : GraphRegion O T b) → Holds g old x → x ≡ r) → new ≡ seat_with_value old s → GoesOn links r s → Holds g new s × Fits (key_of g) s
  held_now g links old new r s opened h value put goes =
      let key = key_of g in
      let F : GraphRegion O T b → Type 0 = λ x. Fits key x in
      let here : GoesOn key.links.value key.region.value r = subst F (value h.0 h.1) h.2 in
      let L : Links T → Type 0 = λ l. GoesOn l r s in
      let next : GoesOn key.links.value r s = subst L (sym opened) goes in
      let H : Seat (GraphRegion O T b) (View (Opening O T b)) → Type 0 = λ x. Holds g x s in
      (subst H (sym put) (h.1.0, refl, h.1.2, h.1.3, h.1.4), region_on key.links.value key.region.value r s here next)

  pub held_served : (g : Gate (GraphRegion O T b) (Opening O T b)) (links : Links T) (old new : Seat (GraphRegion O T b) (View (Opening O T b))) (r s : GraphRegion O T b) → (key_of g).links.value ≡ links → HasFitting g (Holds g old) → ((x : GraphRegion O T b) → Holds g old x → x ≡ r) → new ≡ seat_with_value old s → GoesOn links r s → HasFitting g (Holds g new)
  held_served g links old new r s opened h value put goes =
      let n = held_now g links old new r s opened h value put goes in
      (s, n.0, n.1)

  -- and rests, where it did
  pub held_rests : (g : Gate (GraphRegion O T b) (Opening O T b)) (links : Links T) (old new : Seat (GraphRegion O T b) (View (Opening O T b))) (r s : GraphRegion O T b) → (key_of g).links.value ≡ links → HasFitting g (Holds g old) → ((x : GraphRegion O T b) → Holds g old x → x ≡ r) → new ≡ seat_with_value old s → GoesOn links r s → IsAtRest s →
      HasFitting g (λ x. Holds g new x × IsAtRest x)
  held_rests g links old new r s opened h value put goes rests =
      let n = held_now g links old new r s opened h value put goes in
      (s, (n.0, rests), n.1)

  pub held_still : (g : Gate (GraphRegion O T b) (Opening O T b)) (P Q : GraphRegion O T b → Type 0) → HasFitting g (λ x. P x × Q x) → HasFitting g P
  held_still g P Q h = (h.0, h.1.0, h.2)

  -- so it is of a new gate's graph
  pub first_fits : (key : Opening O T b) (links : Links T) (r : GraphRegion O T b) → key.links.value ≡ links → key.region.value ≡ r → AreEndsOf links r → Fits key r
  first_fits key links r same first ends =
      let L : Links T → Type 0 = λ l. GoesOn l r r in
      let R : GraphRegion O T b → Type 0 = λ x. GoesOn key.links.value x r in
      subst R (sym first) (subst L (sym same) (region_same links r ends))

  -- one that fits has stopped
  pub has_stopped : (key : Opening O T b) (links : Links T) (r : GraphRegion O T b) → key.links.value ≡ links → Fits key r → HasStopped links key.region.value r
  has_stopped key links r same fits =
      let L : Links T → Type 0 = λ l. GoesOn l key.region.value r in
      let here : GoesOn links key.region.value r = subst L same fits in
      record { ends = here.0; events = here.1.0; goes = here.1.1; since = λ h. since here.1.0 h }
