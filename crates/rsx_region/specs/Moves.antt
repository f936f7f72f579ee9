-- What each call of a piece changes.
use Rattle.std.specs.Prelude.{◌≡◌, ◌≢◌, ◌⊎◌, ℕ, zero, suc, ◌+◌, min, ◌<◌, ◌≤◌, Bool, true, false, ◌||◌, List, [], ◌∷◌, ◌++◌, length, map, Option, Some, None}
use Rattle.rsx_demand.specs.declared.TheConstants.{UNBOUNDED}
use Rattle.rsx_sources.specs.Prelude.{Meaning, Next, Signal}
use Rattle.rsx_sources.specs.declared.machine.Machine.{Ghosts as Machine}
use Rattle.rsx_tree.specs.declared.edge.Edge.{Edge}
use Rattle.rsx_tree.specs.declared.edge.EdgeState.TheVariants.{Live, Closed}
use Rattle.rsx_tree.specs.declared.look.NodeMove.{NodeMove}
use Rattle.rsx_tree.specs.Edges.{closed_view, is_live}
use Rattle.rsx_tree.specs.Runs.{Leads}
use Rattle.rsx_tree.specs.Tree.{IsKept, edges}
use Rattle.rsx_pipe.specs.Feeding.{IsMadeInside, IsQuietInside, IsSentOut, inside_enabled, next_out}
use Rattle.rsx_pipe.specs.Fetched.{IsWorked}
use Rattle.rsx_pipe.specs.Part.{Part}
use Rattle.rsx_pipe.specs.Published.{IsHanded, has_room_for, readers}
use Rattle.rsx_pipe.specs.Taking.{IsItemHanded}
use Rattle.rsx_link.specs.Ends.{HasSentNothing, IsDownOf, KeepsParts, Looks, SameDown, TakesNone, TakesOne, asked_total, cancels_of, carried_down, carried_up, down_steps, free_slots, received_signals, sent_signals, up_steps}
use Rattle.rsx_link.specs.declared.cancel.CancelSeat.{CancelSeat}
use Rattle.rsx_link.specs.declared.down.Down.{Down}
use Rattle.rsx_link.specs.declared.link.Link.{Link}
use Rattle.rsx_link.specs.declared.up.Found.{Found}
use Rattle.rsx_link.specs.declared.up.Up.{Up}
use Rattle.rsx_region.specs.Taken.{IsItemTaken, IsLookedAt}
use Rattle.rsx_region.specs.declared.inlet.Inlet.{Inlet}

-- A look at the link that goes out. What was asked of the root rose to the total that was found, and on a flag the part was closed.
pub record IsLooked {M T : Type 0} (b : Machine M T) (m : Meaning T) (l : Link T) (f : Found) (old : Part M) (up : Up T) (new : Part M) (up' : Up T) : Type 0 where
  pub end : HasSentNothing l up up'
  pub looked : Looks (up_steps up) (up_steps up') f
  pub asked : new.root.demand.asked ≡ min UNBOUNDED f.asked
  pub sent : new.root.demand.sent ≡ old.root.demand.sent
  pub goes_on : f.cancelled || f.refused ≡ false → (new.root.state ≡ Live) × (new.tree ≡ old.tree)
  pub closed : f.cancelled || f.refused ≡ true → (new.root.state ≡ Closed) × (edges new.tree ≡ map closed_view (edges old.tree)) × IsKept b m old.tree new.tree

-- an enabled move inside the part was made
pub record HasMoved {M T : Type 0} (b : Machine M T) (m : Meaning T) (old new : Part M) : Type 0 where
  pub move : NodeMove
  pub enabled : inside_enabled b m old move ≡ true
  pub made : IsMadeInside b m move old new

-- the next signal of the root went over the root edge, into the link
pub record HasSent {M T : Type 0} (b : Machine M T) (m : Meaning T) (old : Part M) (up : Up T) (new : Part M) (up' : Up T) : Type 0 where
  pub signal : Signal T
  pub out : IsSentOut b m old signal new
  pub pushed : sent_signals up' ≡ sent_signals up ++ signal ∷ []

-- nothing went: the root edge carries nothing now, or the link has no room
pub record HasKept {M T : Type 0} (b : Machine M T) (m : Meaning T) (old : Part M) (up : Up T) (new : Part M) (up' : Up T) : Type 0 where
  pub part : new ≡ old
  pub sent : sent_signals up' ≡ sent_signals up
  pub why : (next_out b m old ≡ None) ⊎ (free_slots up' ≡ 0)

-- ---- one move, and many

-- a signal was sent, or a move inside the part was made
abbrev pub HasStepped : {M T : Type 0} → Machine M T → Meaning T → Part M → Up T → Part M → Up T → Type 0
HasStepped b m old up new up' = HasSent b m old up new up' ⊎ (HasMoved b m old new × (sent_signals up' ≡ sent_signals up))

-- nothing goes over the root edge now, or the link has no room, and while that edge is live no move inside is enabled
abbrev pub IsIdle : {M T : Type 0} → Machine M T → Meaning T → Part M → Up T → Type 0
IsIdle b m part up = ((next_out b m part ≡ None) ⊎ (free_slots up ≡ 0)) × (part.root.state ≡ Live → IsQuietInside b m part)

-- there was no move to make
abbrev pub IsStill : {M T : Type 0} → Machine M T → Meaning T → Part M → Up T → Part M → Up T → Type 0
IsStill b m old up new up' = (new ≡ old) × (sent_signals up' ≡ sent_signals up) × IsIdle b m new up'

-- so many moves were made, one after the other
abbrev pub IsServed : {M T : Type 0} → Machine M T → Meaning T → ℕ → Part M → Up T → Part M → Up T → Type 0
IsServed b m zero old up new up' = (new ≡ old) × (sent_signals up' ≡ sent_signals up)
IsServed {M} {T} b m (suc n) old up new up' = (mid : Part M) × (between : Up T) × IsServed b m n old up mid between × HasStepped b m mid between new up'

-- ---- an item that is pulled through

-- so many moves inside the part led to one whose root offered an item, and that went over the root edge, into the link
pub record HasBrought {M T : Type 0} (b : Machine M T) (m : Meaning T) (inside : ℕ) (old : Part M) (up : Up T) (new : Part M) (up' : Up T) : Type 0 where
  pub item : T
  pub mid : Part M
  pub worked : IsWorked b m inside old mid
  pub out : IsSentOut b m mid (Next item) new
  pub pushed : sent_signals up' ≡ sent_signals up ++ Next item ∷ []

-- so many moves were made, the last of which sent an item; or no item came, and all were moves inside the part
abbrev pub HasPulled : {M T : Type 0} → Machine M T → Meaning T → ℕ → Part M → Up T → Part M → Up T → Type 0
HasPulled b m n old up new up' = ((inside : ℕ) × (inside + 1 ≡ n) × HasBrought b m inside old up new up') ⊎ (IsWorked b m n old new × (sent_signals up' ≡ sent_signals up))

-- ---- many items that are sent

-- an item was sent into the link
pub record IsItemSent {T : Type 0} (old : Up T) (x : T) (new : Up T) : Type 0 where
  pub pushed : sent_signals new ≡ sent_signals old ++ Next x ∷ []
  pub looks : up_steps new ≡ up_steps old
  pub carried : carried_up new ≡ carried_up old

-- ---- a link that comes in

-- the seat that cancels, and all but the receiving end, stay
abbrev pub SameInlet : {T : Type 0} → Link T → Inlet T → Inlet T → Type 0
SameInlet l old new = IsDownOf l new.down × (new.hub ≡ old.hub) × (new.closer ≡ old.closer) × (down_steps new.down ≡ down_steps old.down) × (carried_down new.down ≡ carried_down old.down)

-- one signal was taken from the link, and handed to the node that reads it
pub record HasPopped {M T : Type 0} (b : Machine M T) (old : Part M) (i : Inlet T) (new : Part M) (i' : Inlet T) : Type 0 where
  pub signal : Signal T
  pub taken : TakesOne i.down i'.down signal
  pub reader : readers b i.hub old ≡ 1
  pub room : has_room_for b i.hub old ≡ true
  pub handed : IsHanded b i.hub signal old new

-- nothing was taken: no node of the part reads the link, or more than one does, or it has no room for an item, or no signal can be taken
pub record HasLeft {M T : Type 0} (b : Machine M T) (old : Part M) (i : Inlet T) (new : Part M) (i' : Inlet T) : Type 0 where
  pub part : new ≡ old
  pub received : received_signals i'.down ≡ received_signals i.down
  pub why : (readers b i.hub old ≢ 1) ⊎ ((has_room_for b i.hub old ≡ false) ⊎ TakesNone i.down i'.down)

-- So many items were taken from the link one after the other, and all of them handed to the node that reads it. With none, nothing changed
-- but what the end knows of its queue.
pub record ArePopped {M T : Type 0} (b : Machine M T) (n : ℕ) (old : Part M) (i : Inlet T) (new : Part M) (i' : Inlet T) : Type 0 where
  pub items : List T
  pub count : length items ≡ n
  pub reader : 0 < n → readers b i.hub old ≡ 1
  pub last : Down T
  pub taken : Leads IsItemTaken i.down items last
  pub handed : Leads (IsItemHanded b i.hub) old items new
  pub rest : IsLookedAt last i'.down

-- What was asked of the reader's edge is asked of the link too; where that edge isn't live, the link is cancelled, and where there
-- is none, nothing is done.
abbrev pub IsAskedOver : {T : Type 0} → Bool → Edge → Down T → CancelSeat → Down T → CancelSeat → Type 0
IsAskedOver true e down seat down' seat' = ((asked_total down' ≡ e.demand.asked) ⊎ ((e.demand.asked ≤ asked_total down) × (down' ≡ down))) × (seat' ≡ seat)
IsAskedOver false e down seat down' seat' = (down' ≡ down) × (0 < cancels_of seat')

abbrev pub IsAskedFor : {T : Type 0} → Option Edge → Down T → CancelSeat → Down T → CancelSeat → Type 0
IsAskedFor None down seat down' seat' = (down' ≡ down) × (seat' ≡ seat)
IsAskedFor (Some e) down seat down' seat' = IsAskedOver (is_live e.state) e down seat down' seat'

-- the ends stay those of the link; no signal was taken
abbrev pub KeepsInlet : {T : Type 0} → Link T → Inlet T → Inlet T → Type 0
KeepsInlet l old new = SameDown l old.down new.down × KeepsParts l old.closer new.closer × (new.hub ≡ old.hub)
