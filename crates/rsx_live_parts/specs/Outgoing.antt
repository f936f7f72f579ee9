-- A subscription whose part has become a piece.
use Rattle.std.specs.Prelude.{◌≡◌, ◌+◌, ◌≤◌, ℕ, false, List, [], ◌∷◌, Option, length}
use Rattle.rsx_types.specs.declared.limits.TheConstants.{CAPACITY}
use Rattle.rsx_sources.specs.Prelude.{Reading}
use Rattle.rsx_sources.specs.declared.machine.Machine.{Ghosts as Machine}
use Rattle.rsx_tree.specs.declared.edge.EdgeState.TheVariants.{Live}
use Rattle.rsx_tree.specs.declared.node.Node.{Node}
use Rattle.rsx_tree.specs.Reads.{readings}
use Rattle.rsx_rooted.specs.Local.{AllOf}
use Rattle.rsx_link.specs.Ends.{IsUpOf, asked_total, cancel_parts, cancels_of, capacity_of, carried_down, carried_up, down_steps, sent_signals}
use Rattle.rsx_link.specs.Signals.{items_in}
use Rattle.rsx_link.specs.Steps.{is_refused}
use Rattle.rsx_link.specs.declared.link.Link.{Link}
use Rattle.rsx_region.specs.Piece.{IsInStep}
use Rattle.rsx_region.specs.declared.piece.Piece.{Piece}
use Rattle.rsx_runtime.specs.Tapping.{IsTapOf, given}
use Rattle.rsx_runtime.specs.declared.tap.Tap.{Tap}
use Rattle.rsx_subscriber.specs.Stands.{standing_of}
use Rattle.rsx_subscriber.specs.declared.state.SubscriptionState.TheVariants.{Open}
use Rattle.rsx_subscriber.specs.declared.subscription.Subscription.{Subscription}

-- none of these nodes reads a hub
abbrev pub NoneRead : List (Option Reading) → Type 0
NoneRead rs = AllOf (λ i. ⊥) rs

-- no node of the tree reads one, whether its edge is live or not
abbrev pub ReadsNothing : {M T : Type 0} → Machine M T → Node M → Type 0
ReadsNothing b t = NoneRead (readings b t)

module _ {M T : Type 0} where
  -- the root edge is live, and as much was asked and sent over it as the subscriber asked for, was delivered and has in its queue
  pub record CountsOn (sub : Subscription M T) : Type 0 where
    pub live : sub.part.root.state ≡ Live
    pub asked : sub.part.root.demand.asked ≡ sub.demand.asked
    pub sent : sub.demand.sent + items_in sub.queue ≡ sub.part.root.demand.sent
    pub few : length sub.queue ≤ CAPACITY

  pub record MayGoOut (b : Machine M T) (sub : Subscription M T) : Type 0 where
    pub stands : standing_of sub ≡ Open
    pub counts : CountsOn sub
    pub nothing : ReadsNothing b sub.part.tree

  -- The part of an open subscription is that of a piece, which sends into the link with this number. That counts on from what the
  -- subscriber was delivered, and into it went what was in the queue.
  pub record IsOutOf (b : Machine M T) (sub : Subscription M T) (k : ℕ) (piece : Piece M T) (link : Link T) : Type 0 where
    pub may : MayGoOut b sub
    pub part : piece.part ≡ sub.part
    pub ins : piece.inlets.items ≡ []
    pub number : piece.link ≡ k
    pub end : IsUpOf link piece.up
    pub sent : sent_signals piece.up ≡ sub.queue
    pub carried : carried_up piece.up ≡ sub.demand.sent
    pub step : IsInStep piece.part piece.up
    pub small : capacity_of link ≡ CAPACITY

  -- the tap is over that link, and counts on from there, too
  abbrev pub IsTapFor : Subscription M T → Link T → Tap T → Type 0
  IsTapFor sub link tap = IsTapOf link tap × (carried_down tap.down ≡ sub.demand.sent)

  -- it gave nothing so far, and neither requested nor cancelled
  pub record IsFresh (sub : Subscription M T) (tap : Tap T) : Type 0 where
    pub none : given tap ≡ []
    pub asked : asked_total tap.down ≡ sub.demand.asked
    pub cancels : cancels_of tap.seat ≡ 0
    pub whole : cancel_parts tap.seat ≡ 0 ∷ []
    pub refused : is_refused (down_steps tap.down) ≡ false
