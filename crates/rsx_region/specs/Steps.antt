-- What each step of a piece changes.
use Rattle.std.specs.Prelude.{◌≡◌, ℕ, ◌+◌, Bool, cond, List, [], ◌∷◌, Some, Result, Ok, Err, map, slice_get, slice_set}
use Rattle.rsx_sources.specs.Prelude.{Meaning, Signal}
use Rattle.rsx_sources.specs.declared.machine.Machine.{Ghosts as Machine}
use Rattle.rsx_tree.specs.declared.edge.EdgeState.TheVariants.{Live}
use Rattle.rsx_tree.specs.Runs.{Leads}
use Rattle.rsx_pipe.specs.Fetched.{IsWorked}
use Rattle.rsx_pipe.specs.Published.{reader_edge}
use Rattle.rsx_link.specs.Ends.{carried_down, down_steps, received_signals, sent_signals, up_steps}
use Rattle.rsx_link.specs.declared.cancel.CancelSeat.{CancelSeat}
use Rattle.rsx_link.specs.declared.link.Link.{Link}
use Rattle.rsx_link.specs.declared.up.Found.{Found}
use Rattle.rsx_link.specs.declared.view.Step.{Step as LinkStep}
use Rattle.rsx_region.specs.Moves.{HasPopped, HasStepped, IsAskedFor, IsLooked}
use Rattle.rsx_region.specs.declared.piece.Incoming.{Incoming}
use Rattle.rsx_region.specs.declared.piece.Piece.{Piece}
use Rattle.rsx_region.specs.declared.step.Step.{Step}
use Rattle.rsx_region.specs.declared.step.Step.TheVariants.{Look, Ask, Pop, Move, Many, Try}

-- how many of the steps are moves, and how many took a signal from a link
abbrev pub move_count : Step → ℕ
move_count Look = 0
move_count Ask = 0
move_count Pop = 0
move_count Move = 1
move_count (Many n) = n
move_count Try = 0

abbrev pub pop_count : Step → ℕ
pop_count Look = 0
pop_count Ask = 0
pop_count Pop = 1
pop_count Move = 0
pop_count (Many n) = 0
pop_count Try = 0

abbrev pub moves_in : List Step → ℕ
moves_in [] = 0
moves_in (l ∷ ls) = move_count l + moves_in ls

abbrev pub pops_in : List Step → ℕ
pops_in [] = 0
pops_in (l ∷ ls) = pop_count l + pops_in ls

-- 1 where it was done, and else 0
abbrev pub done : {E : Type 0} → Result Bool E → ℕ
done (Ok b) = cond b 1 0
done (Err e) = 0

-- so many as it answers, and none where it failed
abbrev pub count_of : {E : Type 0} → Result ℕ E → ℕ
count_of (Ok n) = n
count_of (Err e) = 0

-- what other threads see of a link that comes in, and what the piece took from it
pub record Shown (T : Type 0) : Type 0 where
  pub link : ℕ
  pub hub : ℕ
  pub came : List (Signal T)
  pub asks : List LinkStep
  pub closer : CancelSeat

module _ {T : Type 0} where
  abbrev pub shown : Incoming T → Shown T
  shown i = record { link = i.link; hub = i.inlet.hub; came = received_signals i.inlet.down; asks = down_steps i.inlet.down; closer = i.inlet.closer }

module _ {M T : Type 0} where
  -- the links that come in, and the number of the one that goes out, stay
  abbrev pub SameInlets : Piece M T → Piece M T → Type 0
  SameInlets old new = (new.link ≡ old.link) × (new.inlets.items ≡ old.inlets.items)

  -- of the links that come in the one at this place changed, and the link that goes out stays
  pub record OneChanged (at : ℕ) (was is : Incoming T) (old new : Piece M T) : Type 0 where
    pub there : slice_get old.inlets.items at ≡ Some was
    pub put : new.inlets.items ≡ slice_set old.inlets.items at is
    pub number : is.link ≡ was.link
    pub hub : is.inlet.hub ≡ was.inlet.hub
    pub carried : carried_down is.inlet.down ≡ carried_down was.inlet.down
    pub link : new.link ≡ old.link
    pub up : new.up ≡ old.up

  -- a look at the link that goes out
  pub record HasLooked (b : Machine M T) (m : Meaning T) (links : List (Link T)) (old new : Piece M T) : Type 0 where
    pub out : Link T
    pub there : slice_get links old.link ≡ Some out
    pub live : old.part.root.state ≡ Live
    pub found : Found
    pub looked : IsLooked b m out found old.part old.up new.part new.up
    pub others : SameInlets old new

  -- a link that comes in was asked for as much as its reader's edge was, or cancelled
  pub record HasAsked (b : Machine M T) (old new : Piece M T) : Type 0 where
    pub at : ℕ
    pub was : Incoming T
    pub is : Incoming T
    pub changed : OneChanged at was is old new
    pub part : new.part ≡ old.part
    pub came : received_signals is.inlet.down ≡ received_signals was.inlet.down
    pub asked : IsAskedFor (reader_edge b was.inlet.hub old.part) was.inlet.down was.inlet.closer is.inlet.down is.inlet.closer

  -- a signal was taken from a link that comes in, and handed to the node that reads it
  pub record HasTaken (b : Machine M T) (old new : Piece M T) : Type 0 where
    pub at : ℕ
    pub was : Incoming T
    pub is : Incoming T
    pub changed : OneChanged at was is old new
    pub popped : HasPopped b old.part was.inlet new.part is.inlet

  -- a signal was sent into the link that goes out, or an enabled move inside the part was made
  pub record HasMade (b : Machine M T) (m : Meaning T) (old new : Piece M T) : Type 0 where
    pub live : old.part.root.state ≡ Live
    pub stepped : HasStepped b m old.part old.up new.part new.up
    pub looks : up_steps new.up ≡ up_steps old.up
    pub others : SameInlets old new

  -- so many enabled moves inside the part were made, one after the other
  pub record HasMadeMany (b : Machine M T) (m : Meaning T) (n : ℕ) (old new : Piece M T) : Type 0 where
    pub live : old.part.root.state ≡ Live
    pub worked : IsWorked b m n old.part new.part
    pub sent : sent_signals new.up ≡ sent_signals old.up
    pub looks : up_steps new.up ≡ up_steps old.up
    pub others : SameInlets old new

  -- a queue was looked at: nothing changed but what an end knows of its queue
  pub record HasTried (old new : Piece M T) : Type 0 where
    pub part : new.part ≡ old.part
    pub link : new.link ≡ old.link
    pub sent : sent_signals new.up ≡ sent_signals old.up
    pub looks : up_steps new.up ≡ up_steps old.up
    pub ins : map shown new.inlets.items ≡ map shown old.inlets.items

  abbrev pub IsStep : Machine M T → Meaning T → List (Link T) → Piece M T → Step → Piece M T → Type 0
  IsStep b m links old Look new = HasLooked b m links old new
  IsStep b m links old Ask new = HasAsked b old new
  IsStep b m links old Pop new = HasTaken b old new
  IsStep b m links old Move new = HasMade b m old new
  IsStep b m links old (Many n) new = HasMadeMany b m n old new
  IsStep b m links old Try new = HasTried old new

  -- steps lead from one to the other, of which so many are moves, and so many took a signal from a link
  pub record Goes (b : Machine M T) (m : Meaning T) (links : List (Link T)) (moves pops : ℕ) (old new : Piece M T) : Type 0 where
    pub labels : List Step
    pub made : moves_in labels ≡ moves
    pub popped : pops_in labels ≡ pops
    pub run : Leads (IsStep b m links) old labels new
