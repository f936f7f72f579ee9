-- Parts of a whole that is halved again and again: a number n stands for one part of 2^n.
use Rattle.std.specs.Prelude.{◌≡◌, ℕ, zero, suc, ◌+◌, ◌≤◌, List, [], ◌∷◌}

-- how many parts of the depth's size one part of n is
abbrev pub share : ℕ → ℕ → ℕ
share zero zero = 1
share zero (suc n) = 0
share (suc depth) zero = share depth zero + share depth zero
share (suc depth) (suc n) = share depth n

abbrev pub size : ℕ → List ℕ → ℕ
size depth [] = 0
size depth (n ∷ ns) = share depth n + size depth ns

-- no part is smaller than those of the depth
abbrev pub Within : ℕ → List ℕ → Type 0
Within depth [] = Unit {0}
Within depth (n ∷ ns) = (n ≤ depth) × Within depth ns

abbrev pub halved : List ℕ → List ℕ
halved [] = []
halved (n ∷ ns) = suc n ∷ halved ns

-- the parts are all there are
pub record IsWhole (parts : List ℕ) : Type 0 where
  pub depth : ℕ
  pub within : Within depth parts
  pub all : size depth parts ≡ share depth 0
