-- The rule of the places: the counter of tickets, a word for each place, what is at home, and what the seats know of them.
use Rattle.std.specs.Prelude.{◌≡◌, ◌≢◌, ℕ, suc, ◌+◌, ◌^◌, ◌<◌, ◌≤◌, cond, not, ◌&&◌, is_some, List, [], ◌∷◌, ◌++◌, length, Option, Some, None, IfSome}
use mathlib.Core.Option.{some, none}
use mathlib.Core.Option as maybe
use lib.ListN.{get_elem?}
use Rattle.atomic_table.specs.Table.{State}
use Rattle.rsx_link.specs.declared.place.Place.{Place}
use Rattle.rsx_link.specs.declared.place.Place.TheVariants.{Free, Offered}
use Rattle.rsx_link.specs.declared.place.PlaceStep.{PlaceStep}
use Rattle.rsx_link.specs.declared.place.PlaceView.{PlaceView}
use Rattle.rsx_link.specs.Link.{total}
use Rattle.rsx_link.specs.PlaceSteps.{ticket_of, refusal_of, offers_at, collects_at, AllName, is_refused, flat}

-- the parts of the right to draw tickets
abbrev pub all_parts : ℕ
all_parts = 4294967296

-- a table of so many words and slots has a place for each of the ends, and a word for it beside the counter
abbrev pub IsSized : {E : Type 0} → ℕ → ℕ → List E → Type 0
IsSized words slots ends = (words ≡ suc slots) × (slots ≡ length ends) × (slots < 2 ^ 32)

module _ {E P : Type 0} where
  abbrev pub view : Option (List E) → ℕ → List (PlaceStep P) → List (List (PlaceStep P)) → PlaceView E P
  view ends parts steps beside = record { ends = ends; parts = parts; steps = steps; beside = beside }

  -- the first seat, which has all parts until it gives them to an offering seat
  abbrev pub founder : List E → PlaceView E P
  founder ends = view (Some ends) all_parts [] []

  -- a seat that has made no step
  abbrev pub newcomer : Option (List E) → ℕ → PlaceView E P
  newcomer ends parts = view ends parts [] []

  -- a seat that was joined into another
  abbrev pub spent : PlaceView E P
  spent = view None 0 [] []

  -- the same seat with one step more
  abbrev pub more : PlaceView E P → PlaceStep P → PlaceView E P
  more v x = view v.ends v.parts (x ∷ v.steps) v.beside

  -- the same seat with so many parts
  abbrev pub with_parts : PlaceView E P → ℕ → PlaceView E P
  with_parts v parts = view v.ends parts v.steps v.beside

  -- two seats' parts and lists in one
  abbrev pub joined : PlaceView E P → PlaceView E P → PlaceView E P
  joined v w = view v.ends (v.parts + w.parts) v.steps (v.beside ++ w.steps ∷ w.beside)

  -- its own steps, and those of the seats that were joined into it
  abbrev pub steps_of : PlaceView E P → List (PlaceStep P)
  steps_of v = v.steps ++ flat v.beside

  abbrev pub count_in : (PlaceStep P → ℕ) → PlaceView E P → ℕ
  count_in f v = total f (steps_of v)

  -- the same over all seats
  abbrev pub tally : (PlaceStep P → ℕ) → List (PlaceView E P) → ℕ
  tally f views = total (count_in f) views

  -- how many of its tickets name no place, and one more where it may draw another such ticket
  abbrev pub claims : ℕ → PlaceView E P → ℕ
  claims places v = count_in (refusal_of places) v + cond (is_some v.ends && not (is_refused places v.steps)) 1 0

  -- what a seat knows is so. Only the seat 0 has collected
  pub record Fits (ends : List E) (o : ℕ) (v : PlaceView E P) : Type 0 where
    pub knows : IfSome v.ends (λ l. l ≡ ends)
    pub collects : o ≢ 0 → (k : ℕ) → count_in (collects_at k) v ≡ 0
    -- it offered only where it drew the ticket
    pub earned : (k : ℕ) → count_in (offers_at k) v ≤ count_in (ticket_of k) v
    pub within : count_in (refusal_of (length ends)) v ≤ v.parts
    -- who has no part of the right to draw tickets has drawn none
    pub idle : v.parts ≡ 0 → (k : ℕ) → count_in (ticket_of k) v ≡ 0

  -- the part that was offered at the place is p, and it is at home until it was collected, once
  pub record Carries (k : ℕ) (views : List (PlaceView E P)) (home : maybe.Option (Place E P)) (p : P) : Type 0 where
    pub names : (o : ℕ) (v : PlaceView E P) → get_elem? views o ≡ some v → AllName k p (steps_of v)
    pub waits : tally (collects_at k) views ≡ 0 → home ≡ some (Offered p)
    pub gone : tally (collects_at k) views ≡ 1 → home ≡ none

  -- the place k, with its word and what is at home there
  pub record IsPlace (ends : List E) (k counter : ℕ) (views : List (PlaceView E P)) (word : ℕ) (home : maybe.Option (Place E P)) : Type 0 where
    -- its ticket was drawn by one seat where the counter is beyond it, else by none
    pub below : k < counter → tally (ticket_of k) views ≡ 1
    pub above : counter ≤ k → tally (ticket_of k) views ≡ 0
    -- the word is 1 only where a part was offered there
    pub offers : word ≡ tally (offers_at k) views
    pub once : word ≤ 1
    pub collects : tally (collects_at k) views ≤ word
    -- the ends that were made for it are at home until its ticket is drawn
    pub free : counter ≤ k → (e : E) × (get_elem? ends k ≡ some e) × (home ≡ some (Free e))
    pub out : k < counter → word ≡ 0 → home ≡ none
    pub carries : word ≡ 1 → (p : P) × Carries k views home p

  pub record Kept (ends : List E) (s : State (Place E P) (PlaceView E P)) : Type 0 where
    pub counter : ℕ
    pub flags : List ℕ
    pub words : s.words ≡ counter ∷ flags
    pub each : (k : ℕ) → k < length ends → (word : ℕ) × (home : maybe.Option (Place E P)) × (get_elem? flags k ≡ some word) × (get_elem? s.homes k ≡ some home)
        × IsPlace ends k counter s.views word home
    pub fits : (o : ℕ) (v : PlaceView E P) → get_elem? s.views o ≡ some v → Fits ends o v
    -- the counter exceeds the number of places by no more than the number of seats
    pub exceeds : counter ≤ length ends + tally (refusal_of (length ends)) s.views
    pub seats : total (claims (length ends)) s.views ≤ length s.views
    pub parts : total (λ v. v.parts) s.views ≡ all_parts
