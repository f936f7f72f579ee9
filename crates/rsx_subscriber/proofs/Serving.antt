-- Where no move of a subscription is enabled, what was asked for was delivered.
use Rattle.rsx_sources.specs.declared.machine.Machine.{Ghosts as Machine}
use Rattle.rsx_rooted.specs.declared.nodes.Nodes.{Ghosts as Nodes}
use Rattle.rsx_subscriber.proofs.Laws.{Laws}
use Rattle.std.proofs.Common.{◌≡◌, ◌<◌, ◌≤◌, false, nat_eq, List, [], ◌∷◌, ◌++◌, length, Option, Some, None, refl, sym, ap, ◌∙◌, subst, arith, true}
use Rattle.std.proofs.lemmas.List.{append-nil}
use Rattle.std.proofs.lemmas.Bool.{both_ways, and_right, or_from}
use Rattle.rsx_sources.specs.Prelude.{Meaning, Stream, Move, Ask, Send, Take, Pick, Row, Accept, Signal}
use Rattle.rsx_tree.specs.declared.look.NodeMove.{NodeMove}
use Rattle.rsx_tree.specs.declared.look.NodeMove.TheVariants.{Ask as NodeAsk}
use Rattle.rsx_pipe.specs.Tree.{IsWithin}
use Rattle.rsx_model.proofs.Unfold.{sound}
use Rattle.rsx_model.specs.declared.check.TheConstants.{MOST_NODES}
use Rattle.rsx_pipe.specs.Crossing.{route_below}
use Rattle.rsx_pipe.specs.Part.{HasReadAll, all_edges, has_room}
use Rattle.rsx_pipe.specs.Part as Part
use Rattle.rsx_pipe.specs.Tree.{notes_of}
use Rattle.rsx_pipe.proofs.Parts.{delivered}
use Rattle.rsx_subscriber.specs.declared.state.SubscriptionState.{SubscriptionState}
use Rattle.rsx_subscriber.specs.declared.state.SubscriptionState.TheVariants.{Open, Ended, Cancelled, Refused}
use Rattle.rsx_subscriber.specs.declared.subscription.Subscription.{Subscription}
use Rattle.rsx_subscriber.specs.Holds.{IsServed}
use Rattle.rsx_subscriber.specs.Past.{Past, IsLive, IsUnended}
use Rattle.rsx_subscriber.specs.Pumped.{IsQuiet}
use Rattle.rsx_subscriber.specs.Stands.{Stands, enabled_inside, evaluated, inner_move, move_enabled_in, take_enabled, standing_of, values_then}
use Rattle.rsx_subscriber.specs.Moves.{IsNumbered, node_of}
use Rattle.rsx_subscriber.proofs.Names.{numbered_inside}
use Rattle.rsx_subscriber.proofs.Moves.{take_queued}

-- ---- a quiet subscription

nothing_queued : {M T : Type 0} (mc : Machine M T) (m : Meaning T) (published : List (Stream T)) (sub : Subscription M T) (past : Past T) → IsQuiet mc m sub → Stands mc m published sub past → sub.queue ≡ []
nothing_queued {M} {T} mc m published sub past q h = by_queue sub.queue refl
  where
    by_queue : (l : List (Signal T)) → sub.queue ≡ l → sub.queue ≡ []
    by_queue [] e = e
    by_queue (t ∷ l) e =
        let some : 0 < length sub.queue = rw e (omega arith) in
        absurd (both_ways (take_enabled sub 0) q.1 (take_queued mc m published sub past h some))

-- a live subscriber got all that its part put out, and that is what was asked for
served_live : {M T : Type 0} (mc : Machine M T) (lw : Laws mc) (m : Meaning T) (published : List (Stream T)) (sub : Subscription M T) (past : Past T) → IsQuiet mc m sub → Stands mc m published sub past → IsLive (standing_of sub) → IsWithin sub.part.tree → (more : List (Stream T)) (v : Stream T) → HasReadAll mc m (values_then published more) sub.part → evaluated m (values_then published more) past (notes_of mc sub.part.tree) ≡ Some v → IsServed sub past v
served_live {M} {T} mc lw m published sub past q h live w more v read e =
    let none = nothing_queued mc m published sub past q h in
    let all : past.received ≡ h.output = sym (append-nil past.received) ∙ (ap (λ l. past.received ++ l) (sym none) ∙ h.held live) in
    let room : has_room sub.queue ≡ true = ap has_room none in
    let small = (sound (length published) past.expression h.admitted).small in
    let few : length (all_edges sub.part) ≤ MOST_NODES = let k = h.shape in omega (arith, k, small) in
    let d = delivered mc m (lw m).1 (lw m).3 (lw m).0 (lw m).2 sub.part (has_room sub.queue) q.0 published past.expression past.joins h.output h.part (h.unclosed live) room few w more v read e in
    record {
      items = rw (all, ← h.asked) d.items;
      ending = λ less some. sym h.state ∙ by_state (standing_of sub) refl (λ u. h.part.ended (d.ending (rw h.asked less) some) (rw all at u));
    }
  where
    by_state : (s : SubscriptionState) → standing_of sub ≡ s → (IsUnended past.received → ⊥) → standing_of sub ≡ Ended
    by_state Open o n = absurd (n (h.waits o))
    by_state Ended o n = o
    by_state Cancelled o n = absurd (rw o at live)
    by_state Refused o n = absurd (rw o at live)

pub served : {M T : Type 0} (mc : Machine M T) (lw : Laws mc) (m : Meaning T) (published : List (Stream T)) (sub : Subscription M T) (past : Past T) → IsQuiet mc m sub → Stands mc m published sub past → IsLive past.state → IsWithin sub.part.tree → (more : List (Stream T)) (v : Stream T) → HasReadAll mc m (values_then published more) sub.part → evaluated m (values_then published more) past (notes_of mc sub.part.tree) ≡ Some v → IsServed sub past v
served {M} {T} mc lw m published sub past q h live w more v read e =
    let L : SubscriptionState → Type 0 = λ s. IsLive s in
    served_live mc lw m published sub past q h (subst L (sym h.state) live) w more v read e

-- no move of the part that is named is enabled
quiet_inside : {M T : Type 0} (mc : Machine M T) (m : Meaning T) (sub : Subscription M T) (o : Option NodeMove) → ((step : NodeMove) → o ≡ Some step → Part.IsNumbered step) → Part.IsQuiet mc m sub.part (has_room sub.queue) → enabled_inside mc m sub o ≡ false
quiet_inside mc m sub None l q = refl
quiet_inside mc m sub (Some step) l q = q step (l step refl)

inner_quiet : {M T : Type 0} (mc : Machine M T) (kd : Nodes M T) (m : Meaning T) (sub : Subscription M T) (mv : Move) → IsNumbered mv → IsQuiet mc m sub → enabled_inside mc m sub (inner_move kd sub mv) ≡ false
inner_quiet mc kd m sub mv l h = quiet_inside mc m sub (inner_move kd sub mv) (λ step e. numbered_inside (route_below kd sub.part (node_of mv)) mv step e l) h.0

-- no move that is named is enabled
pub quiet_move : {M T : Type 0} (mc : Machine M T) (kd : Nodes M T) (m : Meaning T) (sub : Subscription M T) (mv : Move) → IsNumbered mv → IsQuiet mc m sub → move_enabled_in mc kd m sub mv ≡ false
quiet_move mc kd m sub (Ask t n) l h = h.0 (NodeAsk n.0) l
quiet_move mc kd m sub (Send t n) l h = inner_quiet mc kd m sub (Send t n) l h
quiet_move mc kd m sub (Take t n) l h = or_from (take_enabled sub n.0) _ (and_right (nat_eq n.0 0) _ h.1) (inner_quiet mc kd m sub (Take t n) l h)
quiet_move mc kd m sub (Pick t n i) l h = inner_quiet mc kd m sub (Pick t n i) l h
quiet_move mc kd m sub (Row t n) l h = inner_quiet mc kd m sub (Row t n) l h
quiet_move mc kd m sub (Accept i) l h = refl
