-- Lists of which each element is counted, tested or changed.
use Rattle.std.specs.Prelude.{⊤, ℕ, ◌+◌, Bool, true, ◌&&◌, List, [], ◌∷◌}

-- the numbers of all elements together
abbrev pub total : {X : Type 0} → (X → ℕ) → List X → ℕ
total f [] = 0
total f (x ∷ xs) = f x + total f xs

-- whether a test holds of each element
abbrev pub every : {X : Type 0} → (X → Bool) → List X → Bool
every f [] = true
every f (x ∷ xs) = f x && every f xs

-- each element of one list stands in this relation to that of the other in its place
abbrev pub AllChanged : {X : Type 0} → (X → X → Type 0) → List X → List X → Type 0
AllChanged P [] [] = ⊤
AllChanged P (x ∷ xs) (y ∷ ys) = P x y × AllChanged P xs ys
AllChanged P [] (y ∷ ys) = ⊥
AllChanged P (x ∷ xs) [] = ⊥
