-- What a list of steps says. The newest step stands first.
use Rattle.std.specs.Prelude.{ℕ, ◌+◌, ◌≤◌, Bool, true, false, not, nat_eq, List, [], ◌∷◌, bit_and}
use Rattle.rsx_link.specs.declared.view.Step.{Step}
use Rattle.rsx_link.specs.declared.view.Step.TheVariants.{Ask, SeeAsked, SeeFlags, Cancel, Refuse}

-- flag 1: some canceller cancelled
abbrev pub has_cancel : ℕ → Bool
has_cancel flags = not (nat_eq (bit_and flags 1) 0)

-- flag 2: the receiving end made a bad request
abbrev pub has_refusal : ℕ → Bool
has_refusal flags = not (nat_eq (bit_and flags 2) 0)

abbrev pub asked_after : Step → ℕ → ℕ
asked_after (Ask n) a = n
asked_after (SeeAsked n) a = a
asked_after (SeeFlags n) a = a
asked_after (Cancel n) a = a
asked_after (Refuse n) a = a

-- the total that was stored last
abbrev pub asked_of : List Step → ℕ
asked_of [] = 0
asked_of (x ∷ xs) = asked_after x (asked_of xs)

-- no step stores a smaller total than the steps before it
abbrev pub NeverFalls : List Step → Type 0
NeverFalls [] = Unit {0}
NeverFalls (x ∷ xs) = (asked_of xs ≤ asked_after x (asked_of xs)) × NeverFalls xs

abbrev pub seen_after : Step → ℕ → ℕ
seen_after (Ask n) a = a
seen_after (SeeAsked n) a = n
seen_after (SeeFlags n) a = a
seen_after (Cancel n) a = a
seen_after (Refuse n) a = a

-- the total that was found last
abbrev pub seen_of : List Step → ℕ
seen_of [] = 0
seen_of (x ∷ xs) = seen_after x (seen_of xs)

abbrev pub flags_after : Step → ℕ → ℕ
flags_after (Ask n) a = a
flags_after (SeeAsked n) a = a
flags_after (SeeFlags n) a = n
flags_after (Cancel n) a = a
flags_after (Refuse n) a = a

-- the flags that were found last
abbrev pub flags_of : List Step → ℕ
flags_of [] = 0
flags_of (x ∷ xs) = flags_after x (flags_of xs)

abbrev pub cancel_of : Step → ℕ
cancel_of (Ask n) = 0
cancel_of (SeeAsked n) = 0
cancel_of (SeeFlags n) = 0
cancel_of (Cancel n) = 1
cancel_of (Refuse n) = 0

-- how often the steps cancel
abbrev pub cancel_count : List Step → ℕ
cancel_count [] = 0
cancel_count (x ∷ xs) = cancel_of x + cancel_count xs

abbrev pub refused_after : Step → Bool → Bool
refused_after (Ask n) b = b
refused_after (SeeAsked n) b = b
refused_after (SeeFlags n) b = b
refused_after (Cancel n) b = b
refused_after (Refuse n) b = true

-- a bad request was made
abbrev pub is_refused : List Step → Bool
is_refused [] = false
is_refused (x ∷ xs) = refused_after x (is_refused xs)
