-- The operators of a chain, one behind the other, as a loop reads them.
use Rattle.std.proofs.Common.{◌≡◌, ℕ, zero, suc, ◌+◌, ◌-◌, ◌<◌, List, [], ◌∷◌, ◌++◌, Option, Some, None, Result, Ok, Err, refl, sym, ap, ◌∙◌, append_assoc, arith}
use Rattle.std.proofs.lemmas.List.{append-nil}
use Rattle.rsx_types.specs.declared.stage.Stage.{Stage}
use Rattle.rsx_demo.specs.declared.val.Val.{Val}
use Rattle.rsx_script.specs.declared.words.LineRefusal.{LineRefusal}
use Rattle.rsx_script.specs.Reading.{Left, ◌>>=◌}
use Rattle.rsx_script.specs.Expressions.{chain_stage_at, more_stages, stages_at}

-- behind what was read before
abbrev pub stages_behind : List (Stage Val) → Result (List (Stage Val) × Left) LineRefusal → Result (List (Stage Val) × Left) LineRefusal
stages_behind front read = read >>= λ x. Ok (front ++ x.0, x.1)

-- what follows the next one
stages_next : (front : List (Stage Val)) (k : ℕ) (l : Left) (next : Result (Option (Stage Val) × Left) LineRefusal) → 0 < k → chain_stage_at l ≡ next → stages_behind front (stages_at k l) ≡ stages_behind front (next >>= more_stages (stages_at (k - 1)))
unfolding stages_at
stages_next front zero l next some h = absurd (omega arith)
stages_next front (suc k) l next some h =
    let less : suc k - 1 ≡ k = omega arith in
    rw less (ap (λ r. stages_behind front (r >>= more_stages (stages_at k))) h)

pub stages_refused : (front : List (Stage Val)) (k : ℕ) (l : Left) (all : Result (List (Stage Val) × Left) LineRefusal) (e : LineRefusal) → 0 < k → stages_behind front (stages_at k l) ≡ all → chain_stage_at l ≡ Err e → all ≡ Err e
stages_refused front k l all e some so_far h = sym so_far ∙ stages_next front k l (Err e) some h

pub stages_done : (front : List (Stage Val)) (k : ℕ) (l after : Left) (all : Result (List (Stage Val) × Left) LineRefusal) → 0 < k → stages_behind front (stages_at k l) ≡ all → chain_stage_at l ≡ Ok (None, after) → all ≡ Ok (front, after)
stages_done front k l after all some so_far h =
    sym so_far ∙ stages_next front k l (Ok (None, after)) some h ∙ ap (λ (gs : List (Stage Val)). Ok (gs, after)) (append-nil front)

one_stage : (front : List (Stage Val)) (g : Stage Val) (read : Result (List (Stage Val) × Left) LineRefusal) → stages_behind front (read >>= λ gs. Ok (g ∷ gs.0, gs.1)) ≡ stages_behind (front ++ g ∷ []) read
one_stage front g (Ok x) = ap (λ (gs : List (Stage Val)). Ok (gs, x.1)) (simp append_assoc)
one_stage front g (Err e) = refl

pub stages_more : (front : List (Stage Val)) (g : Stage Val) (k m : ℕ) (l after : Left) (all : Result (List (Stage Val) × Left) LineRefusal) → 0 < k → m + 1 ≡ k → stages_behind front (stages_at k l) ≡ all → chain_stage_at l ≡ Ok (Some g, after) →
    stages_behind (front ++ g ∷ []) (stages_at m after) ≡ all
stages_more front g k m l after all some one so_far h =
    let less : k - 1 ≡ m = omega arith in
    let next = stages_next front k l (Ok (Some g, after)) some h in
    sym (sym so_far ∙ next ∙ ap (λ j. stages_behind front (stages_at j after >>= λ gs. Ok (g ∷ gs.0, gs.1))) less ∙ one_stage front g (stages_at m after))
