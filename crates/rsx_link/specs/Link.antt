-- The rule of a link: its two words, and what the seats know of them.
use Rattle.std.specs.Prelude.{◌≡◌, ℕ, zero, suc, ◌+◌, ◌<◌, ◌≤◌, Bool, true, false, List, [], ◌∷◌, ◌++◌}
use mathlib.Core.Option.{some}
use lib.ListN.{get_elem?}
use Rattle.atomic_table.specs.Table.{State}
use Rattle.rsx_link.specs.declared.view.View.{View}
use Rattle.rsx_link.specs.declared.view.Role.{Role}
use Rattle.rsx_link.specs.declared.view.Role.TheVariants.{Downstream, Upstream}
use Rattle.rsx_link.specs.declared.view.Step.{Step}
use Rattle.rsx_link.specs.declared.view.Step.TheVariants.{SeeAsked}
use Rattle.rsx_link.specs.Parts.{share, size, Within}
use Rattle.rsx_link.specs.Steps.{has_cancel, has_refusal, asked_of, NeverFalls, seen_of, flags_of, cancel_count, is_refused}

abbrev pub view : Role → List ℕ → List Step → List (List Step) → View
view role parts steps beside = record { role = role; parts = parts; steps = steps; beside = beside }

-- the first seat is the receiving end's, and has the whole right to cancel until it gives it to a canceller
abbrev pub newborn : View
newborn = view Downstream (0 ∷ []) [] []

-- a seat that has made no step
abbrev pub fresh : Role → List ℕ → View
fresh role parts = view role parts [] []

-- a new seat of the sending end, which is told the total that was stored last
abbrev pub informed : ℕ → View
informed total = view Upstream [] (SeeAsked total ∷ []) []

-- the same seat with other parts of the right to cancel
abbrev pub with_parts : View → List ℕ → View
with_parts v parts = view v.role parts v.steps v.beside

-- the same seat with one step more
abbrev pub more : View → Step → View
more v x = view v.role v.parts (x ∷ v.steps) v.beside

abbrev pub lists_of : View → List (List Step)
lists_of v = v.steps ∷ v.beside

-- two seats' lists and parts in one
abbrev pub joined : View → View → View
joined v w = view v.role (v.parts ++ w.parts) v.steps (v.beside ++ lists_of w)

-- the sum of f over the list
abbrev pub total : {X : Type 0} → (X → ℕ) → List X → ℕ
total f [] = 0
total f (x ∷ xs) = f x + total f xs

-- how often a seat cancelled
abbrev pub view_cancels : View → ℕ
view_cancels v = total cancel_count (lists_of v)

abbrev pub is_positive : ℕ → Bool
is_positive zero = false
is_positive (suc n) = true

-- the word of the flags: 1 for a cancel, 2 for a bad request
abbrev pub flags : Bool → Bool → ℕ
flags false false = 0
flags true false = 1
flags false true = 2
flags true true = 3

-- what a list of steps knows of the receiving end's steps, and of how often the link was cancelled
pub record Knows (steps : List Step) (cancels : ℕ) (own : List Step) : Type 0 where
  pub asked : seen_of own ≤ asked_of steps
  pub cancel : has_cancel (flags_of own) ≡ true → 0 < cancels
  pub refusal : has_refusal (flags_of own) ≡ true → is_refused steps ≡ true

abbrev pub AllKnow : List Step → ℕ → List (List Step) → Type 0
AllKnow steps cancels [] = Unit {0}
AllKnow steps cancels (own ∷ lists) = Knows steps cancels own × AllKnow steps cancels lists

-- the receiving end is the seat down, with these steps, and what a seat saw is so
pub record Fits (down : ℕ) (steps : List Step) (cancels : ℕ) (o : ℕ) (v : View) : Type 0 where
  pub asks : v.role ≡ Downstream → (o ≡ down) × (v.steps ≡ steps)
  pub knows : AllKnow steps cancels (lists_of v)

-- The first word is the total that the receiving end stored last, which never falls. In the second, flag 1 is set exactly where some seat cancelled, and flag 2 exactly where the receiving end refused
pub record Stands (down : ℕ) (steps : List Step) (s : State Unit View) : Type 0 where
  pub words : s.words ≡ asked_of steps ∷ flags (is_positive (total view_cancels s.views)) (is_refused steps) ∷ []
  pub rises : NeverFalls steps
  pub fits : (o : ℕ) (v : View) → get_elem? s.views o ≡ some v → Fits down steps (total view_cancels s.views) o v

-- who has no part of the right to cancel has never cancelled
pub record Holds (depth : ℕ) (v : View) : Type 0 where
  pub within : Within depth v.parts
  pub idle : v.parts ≡ [] → view_cancels v ≡ 0

-- the parts of the right to cancel are one whole
pub record IsShared (views : List View) : Type 0 where
  pub depth : ℕ
  pub whole : total (λ v. size depth v.parts) views ≡ share depth 0
  pub each : (o : ℕ) (v : View) → get_elem? views o ≡ some v → Holds depth v

abbrev pub Linked : State Unit View → Type 0
Linked s = (down : ℕ) × (steps : List Step) × Stands down steps s × IsShared s.views
