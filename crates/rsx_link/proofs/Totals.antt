-- Sums over lists.
use Rattle.std.proofs.Common.{◌≡◌, ℕ, zero, suc, ◌+◌, ◌≤◌, List, [], ◌∷◌, ◌++◌, set, sym, ap, arith}
use mathlib.Core.Option.{some, some-injective, some-ne-none}
use lib.ListN.{get_elem?}
use Rattle.rsx_link.specs.Link.{total}

module _ {X : Type 0} (f : X → ℕ) where
  pub total-set : (l : List X) (i : ℕ) (a b : X) → get_elem? l i ≡ some a → total f (set l i b) + f a ≡ total f l + f b
  total-set [] i a b at = absurd (some-ne-none a (sym at))
  total-set (x ∷ xs) zero a b at = let e : f x ≡ f a = ap f (some-injective x a at) in omega arith
  total-set (x ∷ xs) (suc i) a b at = let h = total-set xs i a b at in omega arith

  pub total-append : (xs ys : List X) → total f (xs ++ ys) ≡ total f xs + total f ys
  total-append [] ys = omega arith
  total-append (x ∷ xs) ys = let h = total-append xs ys in omega arith

  -- an element adds no more than all of them
  pub le-total : (l : List X) (i : ℕ) (a : X) → get_elem? l i ≡ some a → f a ≤ total f l
  le-total [] i a at = absurd (some-ne-none a (sym at))
  le-total (x ∷ xs) zero a at = let e : f x ≡ f a = ap f (some-injective x a at) in omega arith
  le-total (x ∷ xs) (suc i) a at = let h = le-total xs i a at in omega arith
