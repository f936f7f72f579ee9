-- Runs: steps of one kind, one after the other. Each crate above says so much of its own moves by these words.
use Rattle.std.specs.Prelude.{◌≡◌, ℕ, List, [], ◌∷◌, length, replicate}
use Rattle.std.specs.List.{flat_map}

-- steps with these labels lead from the first state to the last, each of them from where the one before it led
abbrev pub Leads : {S L : Type 0} → (S → L → S → Type 0) → S → List L → S → Type 0
Leads step a [] b = b ≡ a
Leads {S} step a (l ∷ ls) b = (mid : S) × step a l mid × Leads step mid ls b

-- a step whose label says nothing
abbrev pub Unlabelled : {S : Type 0} → (S → S → Type 0) → S → Unit {0} → S → Type 0
Unlabelled step a l b = step a b

-- so many steps lead from the first state to the last
abbrev pub LeadsBy : {S : Type 0} → (S → S → Type 0) → ℕ → S → S → Type 0
LeadsBy step n a b = Leads (Unlabelled step) a (replicate n tt) b

-- so many steps, and all that they gave, in its order, where `out` is what a step with such a label gives
pub record Gives {S L D : Type 0} (step : S → L → S → Type 0) (out : L → List D) (n : ℕ) (a : S) (ds : List D) (b : S) : Type 0 where
  pub labels : List L
  pub count : length labels ≡ n
  pub all : ds ≡ flat_map out labels
  pub run : Leads step a labels b
