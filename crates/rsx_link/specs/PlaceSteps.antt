-- What a list of steps says of the places. The newest step stands first.
use Rattle.std.specs.Prelude.{◌≡◌, ℕ, nat_eq, nat_lt, not, Bool, cond, List, [], ◌∷◌, ◌++◌, Option, Some, None, IfSome}
use Rattle.rsx_link.specs.declared.place.PlaceStep.{PlaceStep}
use Rattle.rsx_link.specs.declared.place.PlaceStep.TheVariants.{Ticket, Offer, Miss, Collect}
use Rattle.rsx_link.specs.Link.{total}

module _ {P : Type 0} where
  -- 1 where the ticket k was drawn
  abbrev pub ticket_of : ℕ → PlaceStep P → ℕ
  ticket_of k (Ticket n) = cond (nat_eq n k) 1 0
  ticket_of k (Offer n p) = 0
  ticket_of k (Miss n) = 0
  ticket_of k (Collect n p) = 0

  -- 1 where a ticket was drawn that names none of so many places
  abbrev pub refusal_of : ℕ → PlaceStep P → ℕ
  refusal_of places (Ticket n) = cond (nat_lt n places) 0 1
  refusal_of places (Offer n p) = 0
  refusal_of places (Miss n) = 0
  refusal_of places (Collect n p) = 0

  -- the part that was offered at the place k
  abbrev pub offer_of : ℕ → PlaceStep P → Option P
  offer_of k (Ticket n) = None
  offer_of k (Offer n p) = cond (nat_eq n k) (Some p) None
  offer_of k (Miss n) = None
  offer_of k (Collect n p) = None

  -- the part that was collected from there
  abbrev pub collect_of : ℕ → PlaceStep P → Option P
  collect_of k (Ticket n) = None
  collect_of k (Offer n p) = None
  collect_of k (Miss n) = None
  collect_of k (Collect n p) = cond (nat_eq n k) (Some p) None

  abbrev pub number_of : Option P → ℕ
  number_of None = 0
  number_of (Some p) = 1

  -- 1 where a part was offered at the place k, and 1 where one was collected from there
  abbrev pub offers_at : ℕ → PlaceStep P → ℕ
  offers_at k x = number_of (offer_of k x)

  abbrev pub collects_at : ℕ → PlaceStep P → ℕ
  collects_at k x = number_of (collect_of k x)

  abbrev pub or_else : Option P → Option P → Option P
  or_else None q = q
  or_else (Some p) q = Some p

  -- the part of the newest such step
  abbrev pub found_in : (PlaceStep P → Option P) → List (PlaceStep P) → Option P
  found_in f [] = None
  found_in f (x ∷ xs) = or_else (f x) (found_in f xs)

  -- whatever was offered at the place k or collected from there is p
  abbrev pub AllName : ℕ → P → List (PlaceStep P) → Type 0
  AllName k p [] = Unit {0}
  AllName k p (x ∷ xs) = (IfSome (offer_of k x) (λ q. q ≡ p) × IfSome (collect_of k x) (λ q. q ≡ p)) × AllName k p xs

  -- a ticket was drawn that names none of so many places
  abbrev pub is_refused : ℕ → List (PlaceStep P) → Bool
  is_refused places steps = not (nat_eq (total (refusal_of places) steps) 0)

  -- all steps of several lists
  abbrev pub flat : List (List (PlaceStep P)) → List (PlaceStep P)
  flat [] = []
  flat (l ∷ ls) = l ++ flat ls
