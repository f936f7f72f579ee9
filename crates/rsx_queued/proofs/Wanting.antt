-- Inputs at which a signal is next, or that wait for more.
use Rattle.std.proofs.Common.{◌≡◌, ℕ, suc, ◌<◌, ◌⊎◌, inl, inr, ◌&&◌, Bool, true, false, List, [], ◌∷◌, length, slice_get, Option, Some, None, refl, sym, ap, ◌∙◌, arith}
use Rattle.rsx_sources.specs.Prelude.{Signal, AreWithin}
use Rattle.rsx_demand.specs.declared.TheConstants.{UNBOUNDED}
use Rattle.rsx_sources.specs.declared.machine.Front.{Front}
use Rattle.rsx_queued.specs.declared.tail.Tail.{Tail}
use Rattle.rsx_queued.specs.declared.tail.Tail.TheVariants.{Open, Completion, Failure, Taken}
use Rattle.rsx_queued.specs.Held.{is_open, first_held}
use Rattle.rsx_queued.specs.Queued.{is_ended}
use Rattle.rsx_queued.specs.declared.input.QueuedInput.{QueuedInput}
use Rattle.rsx_queued.specs.Input.{unless_taken, is_taken, is_gone, next_signal, IsCounted}
use Rattle.rsx_queued.specs.Inputs.{takes_at, next_signal_at, credits_at, done_at, are_gone, AreCounted}
use Rattle.rsx_queued.proofs.Counts.{waits}

-- an input at which a signal is next
pub record HasNext {T : Type 0} (qs : List (QueuedInput T)) : Type 0 where
  pub i : ℕ
  pub within : i < length qs
  pub signal : Signal T
  pub next : next_signal_at (slice_get qs i) ≡ Some signal

-- an input, which took in `c` items, that takes whatever comes and wants more
pub record IsWanting {T : Type 0} (qs : List (QueuedInput T)) (taken : List ℕ) : Type 0 where
  pub i : ℕ
  pub c : ℕ
  pub at : slice_get taken i ≡ Some c
  pub open_still : done_at (slice_get qs i) ≡ false
  pub takes_any : (f : Front) → takes_at (slice_get qs i) f ≡ true
  pub wants : c < credits_at (slice_get qs i)

pub wants_behind : {T : Type 0} (q : QueuedInput T) (qs : List (QueuedInput T)) (c : ℕ) (cs : List ℕ) → IsWanting qs cs → IsWanting (q ∷ qs) (c ∷ cs)
wants_behind q qs c cs p = record { i = suc p.i; c = p.c; at = p.at; open_still = p.open_still; takes_any = p.takes_any; wants = p.wants }

pub nothing_next : {T : Type 0} (t : Tail) (xs : List T) → unless_taken t (first_held xs t) ≡ None → is_taken t ≡ false → (is_open t ≡ true) × (is_ended t ≡ false)
nothing_next Open xs e g = (refl, refl)
nothing_next Completion [] e g = cc
nothing_next Completion (x ∷ xs) e g = cc
nothing_next (Failure c) [] e g = cc
nothing_next (Failure c) (x ∷ xs) e g = cc
nothing_next Taken xs e g = cc

-- the first input, where nothing is next
pub first_wants : {T : Type 0} (q : QueuedInput T) (qs : List (QueuedInput T)) (c : ℕ) (cs : List ℕ) → next_signal q ≡ None → IsCounted q c → is_gone q ≡ false → c < UNBOUNDED → IsWanting (q ∷ qs) (c ∷ cs)
first_wants q qs c cs e h g lt =
    let o = nothing_next q.tail q.queue.items e g in
    let w = waits q c h o.0 e lt in
    record { i = 0; c = c; at = refl; open_still = o.1; takes_any = w.takes_any; wants = w.wants }

abbrev pub Scanned : {T : Type 0} → List (QueuedInput T) → List ℕ → Type 0
Scanned qs taken = HasNext qs ⊎ IsWanting qs taken

behind : {T : Type 0} (q : QueuedInput T) (qs : List (QueuedInput T)) (c : ℕ) (cs : List ℕ) → Scanned qs cs → Scanned (q ∷ qs) (c ∷ cs)
behind q qs c cs (inl p) = inl (record { i = suc p.i; within = let lt = p.within in omega arith; signal = p.signal; next = p.next })
behind q qs c cs (inr p) = inr (wants_behind q qs c cs p)

scan_next : {T : Type 0} (q : QueuedInput T) (qs : List (QueuedInput T)) (c : ℕ) (cs : List ℕ) (o : Option (Signal T)) → next_signal q ≡ o → IsCounted q c → is_gone q ≡ false → c < UNBOUNDED → Scanned (q ∷ qs) (c ∷ cs)
scan_next q qs c cs None e h g lt = inr (first_wants q qs c cs e h g lt)
scan_next q qs c cs (Some s) e h g lt = inl (record { i = 0; within = omega arith; signal = s; next = e })

-- inputs of which one is not gone
pub scan : {T : Type 0} (qs : List (QueuedInput T)) (cs : List ℕ) → AreCounted qs cs → AreWithin cs → are_gone qs ≡ false → Scanned qs cs
scan [] [] h w g = cc
scan [] (c ∷ cs) h w g = absurd h
scan (q ∷ qs) [] h w g = absurd h
scan (q ∷ qs) (c ∷ cs) h w g = by_test (is_gone q) refl (λ e. scan qs cs h.1 w.1 e)
  where
    by_test : (b : Bool) → is_gone q ≡ b → (are_gone qs ≡ false → Scanned qs cs) → Scanned (q ∷ qs) (c ∷ cs)
    by_test true e r = behind q qs c cs (r (sym (ap (λ b. b && are_gone qs) e) ∙ g))
    by_test false e r = scan_next q qs c cs (next_signal q) refl h.0 e w.0
