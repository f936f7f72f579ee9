-- A node that is hungry, can make no step and reads no hub waits for more at an input.
use Rattle.std.proofs.Common.{◌≡◌, inl, inr, ℕ, ◌<◌, ◌^◌, Bool, true, false, List, Option, Some, None}
use Rattle.rsx_sources.specs.Counts.{IsHungry, IsHungryAt}
use Rattle.rsx_sources.specs.Reading.{Reading}
use Rattle.rsx_sources.specs.declared.machine.Front.{Front}

never : (b : Bool) → b ≡ true → b ≡ false → ⊥
never b x y = cc

unread : (o : Option Reading) (r : Reading) → o ≡ Some r → o ≡ None → ⊥
unread o r x y = cc

pub wants_input : {S : Type 0} (takes : S → ℕ → Front → Bool) (picks : S → ℕ → ℕ → ℕ → Bool) (rows : S → ℕ → ℕ → Bool) (done : S → ℕ → Bool) (wanted : S → ℕ → ℕ → ℕ → ℕ) (reads : S → Option Reading) (n : S) (taken : List ℕ) (asked sent : ℕ) →
    IsHungry takes picks rows done wanted reads n taken asked sent → ((i : ℕ) → i < 2 ^ 64 → picks n i asked sent ≡ false) → rows n asked sent ≡ false → reads n ≡ None → IsHungryAt takes done wanted n taken asked sent
wants_input takes picks rows done wanted reads n taken asked sent (inl k) none few nothing = absurd (never (picks n k.0 asked sent) k.2 (none k.0 k.1))
wants_input takes picks rows done wanted reads n taken asked sent (inr (inl k)) none few nothing = absurd (never (rows n asked sent) k few)
wants_input takes picks rows done wanted reads n taken asked sent (inr (inr (inl k))) none few nothing = k
wants_input takes picks rows done wanted reads n taken asked sent (inr (inr (inr k))) none few nothing = absurd (unread (reads n) k.0 k.1 nothing)
