-- What a call that makes just one move says besides of the feed or the subscription in which it made it.
use Rattle.rsx_sources.specs.declared.machine.Machine.{Ghosts as Machine}
use Rattle.rsx_rooted.specs.declared.nodes.Nodes.{Ghosts as Nodes}
use Rattle.std.proofs.Common.{◌≡◌, ℕ, true, List, slice_get, Some, ap, sym, ◌∙◌, subst}
use Rattle.std.proofs.Math.ListN.{set}
use Rattle.std.proofs.lemmas.Bool.{true≢false}
use Rattle.rsx_sources.specs.Prelude.{Meaning, Move, Take, Tree, NodeId}
use Rattle.rsx_types.proofs.Numbers.{not_zero}
use Rattle.rsx_pipe.specs.Part.{Part}
use Rattle.rsx_pipe.specs.Part as Parts
use Rattle.rsx_pipe.specs.Crossing.{route_below}
use Rattle.rsx_pipe.proofs.Signals.{some_same}
use Rattle.rsx_subscriber.specs.Prelude.{IsAlone, NodeMove, Ask as NodeAsk, Send as NodeSend, Pick as NodePick, Row as NodeRow, take_by}
use Rattle.rsx_subscriber.specs.Stands.{IsAloneBy}
use Rattle.rsx_subscriber.specs.declared.subscription.Subscription.{Subscription}
use Rattle.rsx_graph_state.specs.Moves.{IsAloneInFeed, is_out}
use Rattle.rsx_graph_state.specs.Stands.{place_of}
use Rattle.rsx_graph_state.specs.Subscriptions.{IsAloneAt}
use Rattle.rsx_graph_state.specs.declared.feed.Feed.{Feed}
use Rattle.rsx_graph_state.proofs.Sends.{set_there}

-- of a feed whose part alone changed
pub alone_in_feed : {M T : Type 0} (mc : Machine M T) (m : Meaning T) (step : NodeMove) (h at : ℕ) (fs : List (Feed M)) (x y : Feed M) → place_of fs h ≡ Some at → slice_get fs at ≡ Some x → Parts.IsAlone mc m step x.part y.part → IsAloneInFeed mc m step h fs (set fs at y)
alone_in_feed {M} mc m step h at fs x y place there alone i old new is was now =
    let same : at ≡ i = some_same at i (sym place ∙ is) in
    let before : x ≡ old = some_same x old (sym there ∙ (ap (λ k. slice_get fs k) same ∙ was)) in
    let after : y ≡ new = some_same y new (sym (set_there at fs x y there) ∙ (ap (λ k. slice_get (set fs at y) k) same ∙ now)) in
    let P : Feed M → Type 0 = λ f. Parts.IsAlone mc m step f.part new.part in
    let Q : Feed M → Type 0 = λ f. Parts.IsAlone mc m step x.part f.part in
    subst P before (subst Q after alone)

-- the Send over the root edge is about no node of the part that takes the signal in
pub alone_out : {M T : Type 0} (mc : Machine M T) (m : Meaning T) (step : NodeMove) (old new : Part M) → is_out step ≡ true → Parts.IsAlone mc m step old new
alone_out mc m (NodeAsk n) old new out = tt
alone_out mc m (NodeSend n) old new out = λ some. absurd (true≢false (sym out ∙ not_zero n some))
alone_out mc m (NodePick n i) old new out = absurd (true≢false (sym out))
alone_out mc m (NodeRow n) old new out = tt

-- of a subscription that alone changed
pub alone_at : {M T : Type 0} (mc : Machine M T) (kd : Nodes M T) (m : Meaning T) (mv : Move) (i : ℕ) (subs : List (Subscription M T)) (x y : Subscription M T) → slice_get subs i ≡ Some x → IsAlone mc kd m mv x y → IsAloneAt mc kd m mv i subs (set subs i y)
alone_at {M} {T} mc kd m mv i subs x y there alone old new was now =
    let before : x ≡ old = some_same x old (sym there ∙ was) in
    let after : y ≡ new = some_same y new (sym (set_there i subs x y there) ∙ now) in
    let P : Subscription M T → Type 0 = λ s. IsAlone mc kd m mv s new in
    let Q : Subscription M T → Type 0 = λ s. IsAlone mc kd m mv x s in
    subst P before (subst Q after alone)

-- the Take of a root, which delivers, is no move inside its tree
pub alone_delivered : {M T : Type 0} (mc : Machine M T) (kd : Nodes M T) (m : Meaning T) (t : Tree) (n : NodeId) (old new : Subscription M T) → n.0 ≡ 0 → IsAlone mc kd m (Take t n) old new
alone_delivered mc kd m t n old new root = subst (λ k. IsAloneBy mc m (take_by (route_below kd old.part k) k) old new) (sym root) tt
