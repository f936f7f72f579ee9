-- Items that go from the end of a list into a member's queue, the last one first.
use Rattle.std.proofs.Common.{◌≡◌, ℕ, ◌+◌, ◌≤◌, List, ◌++◌, length, reverse}

-- so many have gone
pub record IsMoving {T : Type 0} (moved : ℕ) (was now from left : List T) : Type 0 where
  pub done : List T
  pub count : length done ≡ moved
  pub off : from ≡ left ++ reverse done
  pub on : now ≡ was ++ done

-- so many go in all: there are as many, and there are places for them
pub record HavePlaces {T : Type 0} (count : ℕ) (queue from : List T) (places : ℕ) : Type 0 where
  pub fits : length queue + count ≤ places
  pub there : count ≤ length from
