-- When nothing is left to do for a graph between its links, and what its single steps say of that.
use Rattle.std.specs.Prelude.{◌≡◌, ◌⊎◌, ⊤, ℕ, ◌<◌, ◌≤◌, Bool, true, List, [], ◌∷◌, ◌++◌, length, Option, Some, None, slice_get, slice_set}
use Rattle.rsx_types.specs.Meaning.{Allocates, Meaning}
use Rattle.rsx_types.specs.declared.names.HubId.{HubId}
use Rattle.rsx_types.specs.declared.names.SubId.{SubId}
use Rattle.rsx_types.specs.declared.ops.Ops.{Ghosts as Ops}
use Rattle.rsx_types.specs.declared.signal.Cause.TheVariants.{User}
use Rattle.rsx_types.specs.declared.signal.Signal.{Signal}
use Rattle.rsx_types.specs.declared.signal.Signal.TheVariants.{Complete, Error, Next}
use Rattle.rsx_link.specs.Ends.{Waits, free_slots, items_sent, queued, seen_total, up_steps}
use Rattle.rsx_link.specs.Signals.{is_item}
use Rattle.rsx_link.specs.declared.view.Step.{Step}
use Rattle.rsx_link.specs.declared.view.Step.TheVariants.{SeeAsked, SeeFlags}
use Rattle.rsx_graph.specs.Done.{IsDone}
use Rattle.rsx_graph.specs.InGraph.{state_of}
use Rattle.rsx_graph.specs.Kinds.{IsAllQuiet}
use Rattle.rsx_graph.specs.Stands.{GraphState}
use Rattle.rsx_graph.specs.declared.step.Step.{Step as GraphStep}
use Rattle.rsx_graph.specs.declared.step.Step.TheVariants as step
use Rattle.rsx_graph.specs.Rows.{IsEmitRefusal}
use Rattle.rsx_graph_state.specs.declared.refusal.Refusal.{Refusal}
use Rattle.rsx_graph_state.specs.declared.step.Answer.TheVariants.{Refused}
use Rattle.rsx_serialized.specs.Ends.{Beside, is_flagged}
use Rattle.rsx_serialized.specs.Events.{Event, stopped_in}
use Rattle.rsx_serialized.specs.Regions.{GoesBy}
use Rattle.rsx_serialized.specs.declared.ends.FromEmitter.{FromEmitter}
use Rattle.rsx_serialized.specs.declared.ends.ToTap.{ToTap}
use Rattle.rsx_serialized.specs.declared.region.GraphRegion.{GraphRegion}

-- a look at a link: the total that was asked for, and then the flags
abbrev pub IsLook : List Step → List Step → Type 0
IsLook old new = (total : ℕ) × (flags : ℕ) × (new ≡ SeeFlags flags ∷ SeeAsked total ∷ old)

module _ {T : Type 0} where
  -- ---- what goes to a tap

  -- The end has no room for a signal, which is an item where this says so: it knows no place of the queue that is free, or it has sent as
  -- many items as it saw asked for.
  abbrev pub HasNoRoom : Bool → ToTap T → Type 0
  HasNoRoom item o = (free_slots o.up ≡ 0) ⊎ ((item ≡ true) × (seen_total o.up ≤ items_sent o.up))

  -- it has none for the first of these
  abbrev pub FindsNoRoom : List (SubId × Signal T) → ToTap T → Type 0
  FindsNoRoom [] o = ⊤
  FindsNoRoom (d ∷ ds) o = HasNoRoom (is_item d.1) o

  -- the tap of the first of these has none for it
  abbrev pub AreHeldUp : List (SubId × Signal T) → List (ToTap T) → Type 0
  AreHeldUp [] outlets = ⊤
  AreHeldUp (d ∷ ds) outlets = (o : ToTap T) → slice_get outlets d.0.0 ≡ Some o → HasNoRoom (is_item d.1) o

  -- the ends made no step
  abbrev pub AreStill : List (ToTap T) → List (ToTap T) → Type 0
  AreStill old new = Beside (λ k (o p : ToTap T). up_steps p.up ≡ up_steps o.up) old new

  -- The end of the tap with this number has looked, and where it saw a flag last, the subscription was cancelled, by these things that have
  -- happened since.
  pub record IsSeen (k : ℕ) (es : List (Event T)) (old new : ToTap T) : Type 0 where
    pub total : ℕ
    pub flags : ℕ
    pub since : List Step
    pub steps : up_steps new.up ≡ SeeFlags flags ∷ SeeAsked total ∷ (since ++ up_steps old.up)
    pub stopped : is_flagged new.up ≡ true → stopped_in k es ≡ true

  -- of the ends this is so of the one at the place, and the others are as they were
  abbrev pub IsOneSeen : ℕ → List (Event T) → List (ToTap T) → List (ToTap T) → Type 0
  IsOneSeen at es old new = Beside (λ k o p. (k ≡ at → IsSeen k es o p) × ((k ≡ at → ⊥) → p ≡ o)) old new

  -- it is so of those before the place, and the others are as they were
  abbrev pub AreSeenBefore : ℕ → List (Event T) → List (ToTap T) → List (ToTap T) → Type 0
  AreSeenBefore at es old new = Beside (λ k o p. (k < at → IsSeen k es o p) × (at ≤ k → p ≡ o)) old new

  -- it is so of the first so many, and the others made no step
  abbrev pub AreSeen : ℕ → List (Event T) → List (ToTap T) → List (ToTap T) → Type 0
  AreSeen n es old new = Beside (λ k o p. (k < n → IsSeen k es o p) × (n ≤ k → up_steps p.up ≡ up_steps o.up)) old new

  -- ---- what comes from an emitter

  -- the graph refuses this step as it is, for some reason that is one for the step
  abbrev pub IsRefused : GraphState T → GraphStep T → Type 0
  IsRefused g s = (why : Refusal) × ((m : Meaning T) (a : Allocates) → IsDone m a g s (Refused why) g)

  -- The hub doesn't take the signal, for this reason: it isn't there or has a feed, it has ended, its inbox is full, or it has accepted as
  -- many items as it may. An error that no emitter sends no hub takes.
  abbrev pub IsNotTaken : GraphState T → HubId → Signal T → Type 0
  IsNotTaken g hub (Next x) = (why : Refusal) × IsEmitRefusal g.rows.hubs g.rows.feeds hub.0 why
  IsNotTaken g hub Complete = IsRefused g (step.Complete hub)
  IsNotTaken g hub (Error (User n)) = IsRefused g (step.Fail hub n)
  IsNotTaken g hub (Error cause) = ⊤

  -- the signal that waits isn't taken; where none does, the link has none for the end, as far as it knows
  abbrev pub IsLeft : GraphState T → FromEmitter T → Option (Signal T) → Type 0
  IsLeft g i None = Waits i.down (queued i.down)
  IsLeft g i (Some s) = IsNotTaken g i.hub s

  -- of the end as it is
  abbrev pub IsTakenIn : GraphState T → FromEmitter T → Type 0
  IsTakenIn g i = IsLeft g i i.waiting

module _ {O T : Type 0} {b : Ops O T} where
  -- no move of the graph is enabled
  abbrev pub IsQuiet : GraphRegion O T b → Type 0
  IsQuiet r = IsAllQuiet (b.meaning r.graph.ops) (state_of r.graph).rows

  -- nothing of the emitter at the place was published, and of what it left the end nothing can be
  pub record HasLeftOne (at : ℕ) (old new : GraphRegion O T b) : Type 0 where
    pub inlet : FromEmitter T
    pub put : new.inlets.items ≡ slice_set old.inlets.items at inlet
    pub same : state_of new.graph ≡ state_of old.graph
    pub left : IsTakenIn (state_of new.graph) inlet

  -- the same of each emitter before the place
  pub record HasLeftBefore (at : ℕ) (old new : GraphRegion O T b) : Type 0 where
    pub same : state_of new.graph ≡ state_of old.graph
    pub left : (k : ℕ) (i : FromEmitter T) → k < at → slice_get new.inlets.items k ≡ Some i → IsTakenIn (state_of new.graph) i

  -- the same of each
  pub record HasLeftAll (old new : GraphRegion O T b) : Type 0 where
    pub same : state_of new.graph ≡ state_of old.graph
    pub left : (k : ℕ) (i : FromEmitter T) → slice_get new.inlets.items k ≡ Some i → IsTakenIn (state_of new.graph) i

  -- nothing was sent, and what waits finds no room
  pub record HasSentNone (old new : GraphRegion O T b) : Type 0 where
    pub pending : new.pending.items ≡ old.pending.items
    pub held : AreHeldUp new.pending.items new.outlets.items

  -- of what the graph delivers nothing is left to do: what waits finds no room at its tap, and where nothing waits no move is enabled
  pub record HasDelivered (r : GraphRegion O T b) : Type 0 where
    pub sent : AreHeldUp r.pending.items r.outlets.items
    pub moved : r.pending.items ≡ [] → IsQuiet r

  -- Nothing is left to do, as far as the ends know: what waits to be sent finds no room at its tap; where nothing waits no move of the graph
  -- is enabled; and no signal of an emitter can be published.
  pub record IsAtRest (r : GraphRegion O T b) : Type 0 where
    pub sent : AreHeldUp r.pending.items r.outlets.items
    pub moved : r.pending.items ≡ [] → IsQuiet r
    pub taken : (k : ℕ) (i : FromEmitter T) → slice_get r.inlets.items k ≡ Some i → IsTakenIn (state_of r.graph) i

  -- these things have happened, by which the tap at the place was looked at
  pub record HasSeenOne (m : Meaning T) (at : ℕ) (old new : GraphRegion O T b) : Type 0 where
    pub events : List (Event T)
    pub goes : GoesBy m events old new
    pub seen : IsOneSeen at events old.outlets.items new.outlets.items

  -- by which those before it were
  pub record HasSeenBefore (m : Meaning T) (at : ℕ) (old new : GraphRegion O T b) : Type 0 where
    pub events : List (Event T)
    pub goes : GoesBy m events old new
    pub seen : AreSeenBefore at events old.outlets.items new.outlets.items

  -- by which that of each subscription was, and each was cancelled of which a flag was seen; there was none that is new
  pub record HasSeenAll (m : Meaning T) (old new : GraphRegion O T b) : Type 0 where
    pub events : List (Event T)
    pub goes : GoesBy m events old new
    pub subs : length (state_of new.graph).joins ≡ length (state_of old.graph).joins
    pub seen : AreSeen (length (state_of old.graph).joins) events old.outlets.items new.outlets.items
