-- What a request and a cancel change.
use Rattle.rsx_sources.specs.declared.machine.Machine.{Ghosts as Machine}
use Rattle.std.proofs.Common.{◌≡◌, ℕ, zero, suc, ℤ, pos, negsuc, true, false, nat_lt, int_lt, unsigned_abs, refl, ap, sym, ◌∙◌, subst, arith}
use Rattle.std.proofs.lemmas.Bool.Decides.{nat_tests}
use mathlib.Core.HLevel.{⊥_prop, Π_prop}
use Rattle.rsx_rooted.proofs.Sends.{same_demand}
use Rattle.rsx_tree.specs.Edges.{EdgeView}
use Rattle.rsx_subscription.specs.declared.State.{State}
use Rattle.rsx_subscription.specs.declared.State.TheVariants.{Fresh, Open as OpenState, Cancelled as CancelledState, Failed as FailedState}
use Rattle.rsx_subscriber.specs.Edited.{IsRaised, IsShut, IsRequested, IsCancelled}
use Rattle.rsx_subscriber.specs.Stands.{standing_of}
use Rattle.rsx_subscriber.specs.declared.state.SubscriptionState.{SubscriptionState}
use Rattle.rsx_subscriber.specs.declared.state.SubscriptionState.TheVariants.{Open, Ended, Cancelled, Refused}
use Rattle.rsx_subscriber.specs.declared.subscription.Subscription.{Subscription}
use Rattle.rsx_subscriber.proofs.Moves.{IsSame}
use Rattle.rsx_subscriber.proofs.Standings.{standing_open}

-- ---- one that is as it was

pub same_sub : {M T : Type 0} (old new : Subscription M T) → IsSame old new → new ≡ old
same_sub {M} {T} old new k =
    let P : State → Type 0 = λ s. (o : s ≡ Fresh → ⊥) → record { part = new.part; queue = new.queue; state = s; demand = new.demand; live = new.live; opened = o } ≡ old in
    subst P (sym k.state) known new.opened
  where
    known : (o : old.state ≡ Fresh → ⊥) → record { part = new.part; queue = new.queue; state = old.state; demand = new.demand; live = new.live; opened = o } ≡ old
    known o =
        ap (λ p. record { part = p; queue = new.queue; state = old.state; demand = new.demand; live = new.live; opened = o }) k.part
        ∙ (ap (λ q. record { part = old.part; queue = q; state = old.state; demand = new.demand; live = new.live; opened = o }) k.queue
        ∙ (ap (λ d. record { part = old.part; queue = old.queue; state = old.state; demand = d; live = new.live; opened = o }) (same_demand old.demand new.demand k.requested k.delivered)
        ∙ (ap (λ l. record { part = old.part; queue = old.queue; state = old.state; demand = old.demand; live = l; opened = o }) k.live
        ∙ ap (λ w. record { part = old.part; queue = old.queue; state = old.state; demand = old.demand; live = old.live; opened = w }) (Π_prop (λ x. ⊥_prop) o old.opened))))

-- ---- a request

pub same_view : (a b : EdgeView) → b.asked ≡ a.asked → b.sent ≡ a.sent → b.state ≡ a.state → b ≡ a
same_view a b x y z =
    ap (λ v. record { asked = v; sent = b.sent; state = b.state }) x
    ∙ (ap (λ v. record { asked = a.asked; sent = v; state = b.state }) y ∙ ap (λ v. record { asked = a.asked; sent = a.sent; state = v }) z)

pub requested_raised : {M T : Type 0} (mc : Machine M T) (old new : Subscription M T) (n : ℤ) → int_lt (pos 0) n ≡ true → standing_of old ≡ Open → IsRaised old (unsigned_abs n) new → IsRequested mc (standing_of old) n old new
requested_raised {M} {T} mc old new n good o k = rw o (by_number n good k)
  where
    by_number : (n : ℤ) → int_lt (pos 0) n ≡ true → IsRaised old (unsigned_abs n) new → IsRequested mc Open n old new
    by_number (pos zero) e k = cc
    by_number (pos (suc n)) e k = k
    by_number (negsuc n) e k = cc

pub requested_shut : {M T : Type 0} (mc : Machine M T) (old new : Subscription M T) (n : ℤ) → int_lt (pos 0) n ≡ false → standing_of old ≡ Open → IsShut mc old FailedState new → IsRequested mc (standing_of old) n old new
requested_shut {M} {T} mc old new n bad o k = rw o (by_number n bad)
  where
    above : (k : ℕ) → nat_lt 0 (suc k) ≡ false → ⊥
    above k e = grind (arith, nat_tests)

    by_number : (n : ℤ) → int_lt (pos 0) n ≡ false → IsRequested mc Open n old new
    by_number (pos zero) e = k
    by_number (pos (suc n)) e = absurd (above n e)
    by_number (negsuc n) e = k

pub requested_same : {M T : Type 0} (mc : Machine M T) (old new : Subscription M T) (n : ℤ) → (old.state ≡ OpenState → ⊥) → IsSame old new → IsRequested mc (standing_of old) n old new
requested_same {M} {T} mc old new n shut k = by_state (standing_of old) (λ e. shut (standing_open old.state old.live old.opened e))
  where
    by_state : (s : SubscriptionState) → (s ≡ Open → ⊥) → IsRequested mc s n old new
    by_state Open never = absurd (never refl)
    by_state Ended never = same_sub old new k
    by_state Cancelled never = same_sub old new k
    by_state Refused never = same_sub old new k

-- ---- a cancel

pub cancelled_shut : {M T : Type 0} (mc : Machine M T) (old new : Subscription M T) → standing_of old ≡ Open → IsShut mc old CancelledState new → IsCancelled mc (standing_of old) old new
cancelled_shut mc old new o k = rw o k
