-- The rule of a parker's token.
use Rattle.std.specs.Prelude.{◌≡◌, ℕ, ◌+◌, Bool, true, false, List, [], ◌∷◌}
use Rattle.rsx_runtime.specs.declared.tokens.Tokens.{Tokens}

abbrev pub tokens : ℕ → ℕ → ℕ → Tokens
tokens unparks given taken = record { unparks = unparks; given = given; taken = taken }

-- so much of each, added up
abbrev pub total : (Tokens → ℕ) → List Tokens → ℕ
total f [] = 0
total f (v ∷ vs) = f v + total f vs

abbrev pub worth : Bool → ℕ
worth true = 1
worth false = 0

-- what was given was taken, but for the token that is there
abbrev pub AreTaken : Bool → List Tokens → Type 0
AreTaken token views = total (λ v. v.given) views ≡ total (λ v. v.taken) views + worth token

-- an unpark leaves a token there, and gave one where there was none
abbrev pub Unparks : Tokens → Bool → Bool → Tokens → Type 0
Unparks v true after w = w ≡ tokens (v.unparks + 1) v.given v.taken
Unparks v false after w = w ≡ tokens (v.unparks + 1) (v.given + 1) v.taken

-- the token was taken
abbrev pub Takes : Tokens → Bool → Bool → Tokens → Type 0
Takes v before after w = (before ≡ true) × (after ≡ false) × (w ≡ tokens v.unparks v.given (v.taken + 1))
