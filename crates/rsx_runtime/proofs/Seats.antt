-- What a seat has after the steps of a round.
use Rattle.std.proofs.Common.{◌≡◌, ℕ, suc, ◌+◌, ◌<◌, Bool, true, false, MatchBool, List, Some, ◌∷◌, sym, ap, ◌∙◌, subst, arith}
use Rattle.rsx_gate.specs.declared.view.Step.{Step}
use Rattle.rsx_gate.specs.declared.view.Step.TheVariants.{Mark, Leave}
use Rattle.rsx_gate.specs.declared.view.View.{View}
use Rattle.rsx_gate.specs.Machine.{holds_after, holds_pass}
use Rattle.rsx_gate.specs.Plays.{IsHeld, more}
use Rattle.rsx_gate.specs.declared.gate.Gate.{Gate}
use Rattle.rsx_gate.specs.Seats.{Holds, Took, key_of}
use Rattle.rsx_sources.specs.Prelude.{Meaning}
use Rattle.rsx_sources.specs.declared.machine.Machine.{Ghosts as Machine}
use Rattle.rsx_region.specs.declared.opening.Opening.{Opening}
use Rattle.rsx_region.specs.declared.region.Region.{Region}
use Rattle.rsx_runtime.specs.Passing.{SeatOf}
use Rattle.rsx_runtime.specs.Poking.{AfterRounds, HasFitting}

-- a step by which the seat keeps its pass
pub view_kept : {K : Type 0} (was now : View K) (x : Step) (key : K) → now ≡ more was x → ((b : Bool) → holds_after x b ≡ b) → was.key ≡ Some key → 0 < was.parts → holds_pass was.steps ≡ true →
    (now.key ≡ Some key) × (0 < now.parts) × (holds_pass now.steps ≡ true)
view_kept {K} was now x key e stays known parts holds =
    let P : ℕ → Type 0 = λ n. 0 < n in
    (ap (λ (v : View K). v.key) e ∙ known, subst P (sym (ap (λ (v : View K). v.parts) e)) parts, ap (λ (v : View K). holds_pass v.steps) e ∙ (stays (holds_pass was.steps) ∙ holds))

-- a mark, and then a leave that found a note
pub round_view : {K : Type 0} (was marked served left : View K) (n : ℕ) → marked ≡ more was (Mark n) → served ≡ marked → left ≡ more served (Leave 2) → left ≡ more (more was (Mark n)) (Leave 2)
round_view {K} was marked served left n m s l = l ∙ ap (λ (v : View K). more v (Leave 2)) (s ∙ m)

pub round_steps : (k : ℕ) (older steps left : List Step) (n : ℕ) → IsHeld n → AfterRounds k older steps → left ≡ Leave 2 ∷ Mark n ∷ steps → AfterRounds (k + 1) older left
round_steps k older steps left n held rounds e =
    let A : ℕ → Type 0 = λ j. AfterRounds j older left in
    let next : AfterRounds (suc k) older left = (n, steps, held, rounds, e) in
    let same : k + 1 ≡ suc k = omega arith in
    subst A (sym same) next

-- a seat that made such a step, and let nothing go, has the region still
pub seat_kept : {M T O : Type 0} (b : Machine M T) (meaning : O → Meaning T) (g : Gate (Region M T) (Opening M T O)) (x : Step) (was now : SeatOf M T O) → Took x was now → now.me.1 ≡ was.me.1 → ((c : Bool) → holds_after x c ≡ c) →
    HasFitting b meaning g (Holds g was) → HasFitting b meaning g (Holds g now)
seat_kept b meaning g x was now took same stays h =
    let v = view_kept was.me.0 now.me.0 x (key_of g) took.2 stays h.1.2 h.1.3 h.1.4 in
    (h.0, (took.0 ∙ h.1.0, same ∙ h.1.1, v.0, v.1, v.2), h.2)

pub where_missed : (A P Q : Type 0) (gone : Bool) → (P → Q) → MatchBool gone A P → MatchBool gone A Q
where_missed A P Q true f h = h
where_missed A P Q false f h = f h
