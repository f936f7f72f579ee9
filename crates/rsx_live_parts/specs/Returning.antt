-- A piece becomes the part of a subscription again.
use Rattle.std.specs.Prelude.{◌≡◌, ◌-◌, ◌<◌, ◌≤◌, ℕ, Bool, true, false, ◌||◌, List, [], ◌++◌, length}
use Rattle.rsx_demand.specs.Demand.{saturating_total}
use Rattle.rsx_sources.specs.Prelude.{Meaning, Signal, Stream}
use Rattle.rsx_sources.specs.declared.machine.Machine.{Ghosts as Machine}
use Rattle.rsx_model.specs.declared.expr.Expr.{Expr}
use Rattle.rsx_tree.specs.declared.edge.EdgeState.TheVariants.{Live}
use Rattle.rsx_pipe.specs.Part.{Part, PartStands, all_edges}
use Rattle.rsx_pipe.specs.Tree.{IsAllClosed}
use Rattle.rsx_link.specs.Ends.{asked_total, cancel_parts, cancels_of, down_steps, items_taken, received_signals, seen_total, sent_signals, up_steps}
use Rattle.rsx_link.specs.Link.{is_positive}
use Rattle.rsx_link.specs.Parts.{IsWhole}
use Rattle.rsx_link.specs.Steps.{flags_of, has_cancel, has_refusal, is_refused}
use Rattle.rsx_region.specs.declared.piece.Piece.{Piece}
use Rattle.rsx_runtime.specs.Ordered.{is_unended}
use Rattle.rsx_runtime.specs.Tapping.{given}
use Rattle.rsx_runtime.specs.declared.tap.Tap.{Tap}
use Rattle.rsx_subscriber.specs.Past.{Past}
use Rattle.rsx_subscriber.specs.Standing.{live_in}
use Rattle.rsx_subscriber.specs.Stands.{Stands, standing_of}
use Rattle.rsx_subscriber.specs.declared.state.SubscriptionState.{SubscriptionState}
use Rattle.rsx_subscriber.specs.declared.state.SubscriptionState.TheVariants.{Open, Ended, Cancelled, Refused}
use Rattle.rsx_subscriber.specs.declared.subscription.Subscription.{Subscription}

-- How a subscription stands that was open: refused, where its tap gave the error of a bad request; ended, where that gave an ending;
-- cancelled, where a flag of its link was set; and open else.
abbrev pub lived_state : Bool → Bool → Bool → SubscriptionState
lived_state true unended stopped = Refused
lived_state false false stopped = Ended
lived_state false true true = Cancelled
lived_state false true false = Open

module _ {T : Type 0} where
  -- by what the tap gave, and whether a flag was set
  abbrev pub tapped_state : Tap T → Bool → SubscriptionState
  tapped_state t stopped = lived_state t.error (is_unended (received_signals t.down)) stopped

  -- what has happened to a subscriber while it was live: it received what its tap gave, and asked for what that asked for
  abbrev pub lived : Tap T → Bool → Past T → Past T
  lived t stopped p = record { expression = p.expression; joins = p.joins; received = p.received ++ given t; asked = asked_total t.down; state = tapped_state t stopped }

  -- Whether a flag of the link was set, as far as its ends know: where some seat cancelled that was taken back, or a bad request was
  -- made, it was; and where all seats were taken back, nowhere else.
  pub record WasStopped (t : Tap T) (stopped : Bool) : Type 0 where
    pub cancelled : 0 < cancels_of t.seat → stopped ≡ true
    pub refused : is_refused (down_steps t.down) ≡ true → stopped ≡ true
    pub whole : IsWhole (cancel_parts t.seat) → stopped ≡ (is_positive (cancels_of t.seat) || is_refused (down_steps t.down))

module _ {M T : Type 0} where
  -- the part of a subscription that is live still is that part, and what remained of the link is queued; of another one it was closed
  abbrev pub IsPutInto : Bool → Part M → List (Signal T) → Part M → List (Signal T) → Type 0
  IsPutInto true old remaining part queue = (part.tree ≡ old.tree) × (part.root.state ≡ old.root.state) × (queue ≡ remaining)
  IsPutInto false old remaining part queue = IsAllClosed part.tree × (part.root.state ≡ Live → ⊥) × (queue ≡ [])

  -- the part stands for what that part stood for
  abbrev pub StandsAs : Machine M T → Part M → Part M → Type 0
  StandsAs b old new = (m : Meaning T) (published : List (Stream T)) (e : Expr T) (joins : List ℕ) (output : List (Signal T)) → PartStands b m published old e joins output → PartStands b m published new e joins output

  -- the subscription of this piece, and of the tap of its link
  pub record IsBackOf (b : Machine M T) (piece : Piece M T) (t : Tap T) (stopped : Bool) (sub : Subscription M T) : Type 0 where
    pub remaining : List (Signal T)
    pub signals : received_signals t.down ++ remaining ≡ sent_signals piece.up
    pub seen : seen_total piece.up ≤ asked_total t.down
    pub cancel_seen : has_cancel (flags_of (up_steps piece.up)) ≡ true → stopped ≡ true
    pub refusal_seen : has_refusal (flags_of (up_steps piece.up)) ≡ true → stopped ≡ true
    pub stands : standing_of sub ≡ tapped_state t stopped
    pub live : sub.live ≡ live_in (standing_of sub)
    pub asked : sub.demand.asked ≡ asked_total t.down
    pub taken : sub.demand.sent ≡ items_taken t.down
    pub raised : sub.part.root.demand.asked ≡ saturating_total piece.part.root.demand.asked (asked_total t.down - piece.part.root.demand.asked)
    pub part : StandsAs b piece.part sub.part
    pub put : IsPutInto (live_in (standing_of sub)) piece.part remaining sub.part sub.queue
    pub shape : length (all_edges sub.part) ≡ length (all_edges piece.part)

  -- of what the subscription stood for that the piece was made of, the one that is made of it now stands for that with what its tap gave
  abbrev pub StandsFor : Machine M T → Meaning T → Subscription M T → Tap T → Bool → Subscription M T → Type 0
  StandsFor b m was t stopped now = (published : List (Stream T)) (past : Past T) → Stands b m published was past → Stands b m published now (lived t stopped past)
