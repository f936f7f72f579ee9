-- The first place that passes a test.
use Rattle.std.proofs.Common.{◌≡◌, ◌≤◌, Bool, true, false, cond, ltb, ℕ, List, length, Some, None, refl, arith}
use Rattle.std.specs.Prelude.{not}
use Rattle.std.specs.List.{position, position_or_len}
use Rattle.std.proofs.lemmas.Bool.{ltb-false}
use Rattle.std.proofs.lemmas.List.Sums.{prefix_len-le-length}

pub position_or_len_le : {A : Type 0} (p : A → Bool) (xs : List A) → position_or_len p xs ≤ length xs
position_or_len_le p xs = prefix_len-le-length (λ x. not (p x)) xs

none_past : (b : Bool) (n : ℕ) → cond b (Some n) None ≡ None → b ≡ false
none_past true n e = absurd cc
none_past false n e = refl

pub position_none : {A : Type 0} (p : A → Bool) (xs : List A) → position p xs ≡ None → length xs ≡ position_or_len p xs
position_none p xs e =
    let past : length xs ≤ position_or_len p xs = ltb-false (position_or_len p xs) (length xs) (none_past (ltb (position_or_len p xs) (length xs)) (position_or_len p xs) e) in
    omega (arith, position_or_len_le p xs)
