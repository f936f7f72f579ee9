-- The joins of a hub's feed are those of its history.
use Rattle.rsx_sources.specs.declared.machine.Machine.{Ghosts as Machine}
use Rattle.std.proofs.Common.{◌≡◌, ℕ, zero, suc, ◌<◌, List, [], ◌∷◌, length, slice_get, Some, refl, ap, sym, ◌∙◌, arith}
use Rattle.rsx_graph_state.specs.Prelude.{AreFeedJoins, HasFeedJoins, JoinsStand, History, HubPast, Source, emitted, fed, Rows, SourceStands, StandsFor, HubState}
use Rattle.rsx_graph_state.proofs.Joins.{joins_there}
use Rattle.rsx_graph_state.proofs.Places.{feed_placed}
use Rattle.rsx_pipe.proofs.Signals.{some_same}
use Rattle.rsx_sources.specs.Prelude.{Meaning, Stream, Tree, Sub, Feed as FeedOf}
use Rattle.rsx_graph_calls.specs.Looks.{AreJoins, HasFedJoins, HasTreeJoins}

there : {A : Type 0} (xs : List A) (n : ℕ) → n < length xs → (x : A) × (slice_get xs n ≡ Some x)
there [] n l = absurd (omega (arith, l))
there (x ∷ xs) zero l = (x, refl)
there (x ∷ xs) (suc n) l = there xs n (omega (arith, l))

-- a hub that has a feed is fed by an expression, whose joins are those that are kept
fed_there : {M T : Type 0} (mc : Machine M T) (m : Meaning T) (g : Rows M T) (taken : List (Stream T)) (feed_joins : List (List ℕ)) (ps : List (HubPast T)) (i : ℕ) (v : Stream T) (s : HubState T) (p : HubPast T) (js : List ℕ) → slice_get ps i ≡ Some p → AreFeedJoins g.feeds feed_joins i js →
    (src : Source T) → p.source ≡ src → SourceStands mc m g.feeds taken i v s src → HasFeedJoins g.feeds feed_joins i src → HasFedJoins ps i js
fed_there mc m g taken feed_joins ps i v s p js e k (emitted w) is q r = let named = (feed_placed g.feeds i k.0 k.1).named in let none = q.0 in cc
fed_there mc m g taken feed_joins ps i v s p js e k (fed x ks) is q r =
    let at : k.0 ≡ r.0 = some_same k.0 r.0 (sym k.1 ∙ r.1) in
    let same : ks ≡ js = some_same ks js (sym r.2 ∙ (ap (slice_get feed_joins) (sym at) ∙ k.2)) in
    (p, x, e, is ∙ ap (fed x) same)

fed_joins : {M T : Type 0} (mc : Machine M T) (m : Meaning T) (g : Rows M T) (sub_joins feed_joins : List (List ℕ)) (h : History T) (i : ℕ) (js : List ℕ) → i < length g.hubs → AreFeedJoins g.feeds feed_joins i js → StandsFor mc m g h → JoinsStand g.feeds sub_joins feed_joins h → HasFedJoins h.hubs i js
fed_joins mc m g sub_joins feed_joins h i js lt k s j =
    let many = s.many in
    let each = s.each in
    let p = there h.hubs i (omega (arith, lt, many)) in
    let v = there s.taken i (omega (arith, lt, many, each)) in
    let t = there g.hubs i lt in
    fed_there mc m g s.taken feed_joins h.hubs i v.0 t.0 p.0 js p.1 k p.0.source refl (s.hub i v.0 t.0 p.0 v.1 t.1 p.1).source (j.fed i p.0 p.1)

-- the joins that are kept of a tree are those of the history
pub tree_joins : {M T : Type 0} (mc : Machine M T) (m : Meaning T) (g : Rows M T) (sub_joins feed_joins : List (List ℕ)) (h : History T) (tree : Tree) (js : List ℕ) → AreJoins g.hubs g.feeds sub_joins feed_joins tree js → StandsFor mc m g h → JoinsStand g.feeds sub_joins feed_joins h → HasTreeJoins h tree js
tree_joins mc m g sub_joins feed_joins h (Sub i) js k s j = joins_there h.pasts i.0 js (ap (λ l. slice_get l i.0) (sym j.subs) ∙ k)
tree_joins mc m g sub_joins feed_joins h (FeedOf i) js k s j = fed_joins mc m g sub_joins feed_joins h i.0 js k.0 k.1 s j
