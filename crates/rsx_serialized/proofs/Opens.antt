-- The ends of a link that was opened.
use Rattle.std.proofs.Common.{◌≡◌, inl, ℕ, ◌+◌, ◌≤◌, min, Bool, ◌||◌, [], ◌∷◌, refl, ap, sym, ◌∙◌, subst, arith, None}
use Rattle.rsx_demand.specs.declared.TheConstants.{UNBOUNDED}
use Rattle.rsx_types.specs.declared.limits.TheConstants.{CAPACITY}
use Rattle.rsx_types.specs.declared.names.HubId.{HubId}
use Rattle.rsx_types.specs.declared.names.SubId.{SubId}
use Rattle.rsx_link.specs.Ends.{AreOpened, IsCancelSeatOf, IsDownOf, IsUpOf, asked_total, cancel_beside, cancel_parts, cancel_steps, carried_down, carried_up, items_sent, seen_total, sent_signals}
use Rattle.rsx_link.specs.Signals.{items_in}
use Rattle.rsx_link.specs.Steps.{asked_of, flags_of, has_cancel, has_refusal, seen_of}
use Rattle.rsx_link.specs.declared.cancel.CancelSeat.{CancelSeat}
use Rattle.rsx_link.specs.declared.down.Down.{Down}
use Rattle.rsx_link.specs.declared.link.Link.{Link}
use Rattle.rsx_link.specs.declared.up.Up.{Up}
use Rattle.rsx_runtime.specs.Standing.{opened_state}
use Rattle.rsx_runtime.specs.Tapping.{given}
use Rattle.rsx_runtime.specs.declared.emitter.Emitter.{Emitter}
use Rattle.rsx_runtime.specs.declared.tap.Tap.{Tap}
use Rattle.rsx_serialized.specs.Opens.{IsEmitterLink, IsTapLink}

carried_on : (c i n m : ℕ) → c ≡ n → i ≡ 0 → n ≡ m → c + i ≡ m
carried_on c i n m e f g = omega arith

within : (n : ℕ) → n ≤ UNBOUNDED → n ≡ min UNBOUNDED n
within n le = omega arith

all_passed : (n m : ℕ) → n ≡ m → n ≤ m
all_passed n m e = omega arith

module _ {T : Type 0} where
  pub emitter_link : (hub : HubId) (room number accepted carried : ℕ) (over : Bool) (l : Link T) (u : Up T) (d : Down T) (c : CancelSeat) (e : Emitter T) → carried ≡ min UNBOUNDED accepted → room ≡ CAPACITY → AreOpened room UNBOUNDED carried l u d c → (e.hub ≡ hub) × (e.link ≡ number) × (e.up ≡ u) × (e.ended ≡ over) →
      IsEmitterLink hub number accepted over (record { link = l; emitter = e; inlet = record { hub = hub; down = d; waiting = None; seat = c } })
  emitter_link hub room number accepted carried over l u d c e count big o n =
      let sent : items_sent u ≡ min UNBOUNDED accepted = carried_on (carried_up u) (items_in (sent_signals u)) carried (min UNBOUNDED accepted) o.up.2 (ap items_in o.up.3) count in
      let P : Up T → Type 0 = λ x. IsUpOf l x × (sent_signals x ≡ []) in
      let Q : Up T → Type 0 = λ x. (items_sent x ≡ min UNBOUNDED accepted) × (seen_total x ≡ UNBOUNDED) in
      record {
        names = (n.0, n.1, n.3);
        sends = subst P (sym n.2) (o.up.0, o.up.3);
        counts = subst Q (sym n.2) (sent, ap seen_of o.up.1);
        takes = (o.down.0, o.down.3, refl, refl);
        seat = o.cancel.0;
        room = o.holds ∙ big;
      }

  pub tap_link : (sub : SubId) (room number total carried : ℕ) (is_open : Bool) (l : Link T) (u : Up T) (d : Down T) (c : CancelSeat) (t : Tap T) → total ≤ UNBOUNDED → room ≡ CAPACITY → AreOpened room total carried l u d c → (t.sub ≡ sub) × (t.link ≡ number) × (t.down ≡ d) × (t.seat ≡ c) → t.state ≡ opened_state is_open → given t ≡ [] →
      IsTapLink sub number total is_open (record { link = l; tap = t; outlet = record { up = u; asked = total } })
  tap_link sub room number total carried is_open l u d c t most big o n state nothing =
      let C : CancelSeat → Type 0 = λ x. (cancel_parts x ≡ 0 ∷ []) × (cancel_steps x ≡ []) × (cancel_beside x ≡ []) in
      let all : total ≡ min UNBOUNDED (seen_total u) = within total most ∙ ap (λ ss. min UNBOUNDED (seen_of ss)) (sym o.up.1) in
      record {
        names = (n.0, n.1);
        takes = ((subst (λ (x : Down T). IsDownOf l x) (sym n.2) o.down.0, subst (λ (x : CancelSeat). IsCancelSeatOf l x) (sym n.3) o.cancel.0), nothing, state);
        asked = (ap (λ (x : Down T). asked_total x) n.2 ∙ ap asked_of o.down.1, refl);
        seat = subst C (sym n.3) (o.cancel.3, o.cancel.1, o.cancel.2);
        sends = (o.up.0, o.up.3);
        passed = (record { most = all_passed total (min UNBOUNDED (seen_total u)) all; rest = inl all }, ap (λ ss. has_cancel (flags_of ss) || has_refusal (flags_of ss)) o.up.1);
        carried = ap (λ (x : Down T). carried_down x) n.2 ∙ (o.down.2 ∙ sym o.up.2);
        room = o.holds ∙ big;
      }
