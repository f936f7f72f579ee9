-- A tree from its root and the row of its inputs.
use Rattle.std.proofs.Common.{◌≡◌, ℕ, ◌+◌, Bool, true, false, ◌&&◌, List, [], ◌∷◌, map, refl, ap, sym, ◌∙◌, subst, Option, slice_get}
use Rattle.rsx_sources.specs.Prelude.{Meaning}
use Rattle.rsx_sources.specs.declared.machine.Machine.{Ghosts as Machine}
use Rattle.rsx_tree.specs.declared.edge.EdgeState.{EdgeState}
use Rattle.rsx_tree.specs.declared.edge.EdgeState.TheVariants.{Live, Closed, Ended}
use Rattle.std.specs.Box.{with_value}
use Rattle.rsx_types.proofs.Options.{nothing_in_front}
use Rattle.rsx_tree.specs.declared.edge.Edge.{Edge}
use Rattle.rsx_tree.specs.declared.inputs.Inputs.{Inputs}
use Rattle.rsx_tree.specs.declared.inputs.Inputs.TheViews.{More}
use Rattle.rsx_tree.proofs.Changes.{Rest}
use Rattle.rsx_tree.specs.declared.node.Node.{Node}
use Rattle.rsx_tree.specs.Edges.{EdgeView, closed_if, closed_view, closed_state}
use Rattle.rsx_tree.specs.Inputs.{Place, place, comes_in, through, out_of, notes_of, edges as edges_in, is_own, closed_row, closed_row_if, can_ask_in, can_ask_over, can_send_in, can_send_over, sent_edges}
use Rattle.rsx_tree.specs.Changed.{IsChanged, IsAskedOver, IsReceivedOver, IsSentOver}
use Rattle.rsx_tree.specs.Tree.{IsKept, IsReceivedAt, IsSentAt, IsAskedAt, IsJoined, NoneLive, ended_in}
use Rattle.rsx_tree.proofs.Rows.{IsGoneOver, then_same, passed_on, notes_sent, recorded_sent, notes_closed, notes_closed_if, comes_in_closed, comes_in_closed_if}
use Rattle.rsx_tree.proofs.Effects.{Found, found, row_asked, row_sent, edges_closed_if, ended_closed_if, own_ended, same_close}

abbrev pub node : {M : Type 0} → M → Inputs M → Node M
node r t = record { machine = r; inputs = t }

pub kept_closed : {M T : Type 0} (b : Machine M T) (m : Meaning T) (r : M) (t t' : Inputs M) → t' ≡ closed_row t → IsKept b m (node r t) (node r t')
kept_closed {M} b m r t t' is = let Q : Inputs M → Type 0 = λ u. IsKept b m (node r t) (node r u) in subst Q (sym is) (record {
  value = λ hubs further at. ap (λ o. out_of b m hubs r o (slice_get further at)) (comes_in_closed b m hubs further t (at + 1));
  notes = ap (λ l. b.recorded r ∷ l) (notes_closed b t);
})

pub none_live : (es : List EdgeView) → NoneLive (map closed_view es)
none_live [] = tt
none_live (e ∷ es) = (not_live e.state, none_live es)
  where
    not_live : (s : EdgeState) → closed_state s ≡ Live → ⊥
    not_live Live h = cc
    not_live Ended h = cc
    not_live Closed h = cc

pub kept_asked : {M T : Type 0} (b : Machine M T) (m : Meaning T) (r : M) (asked sent at : ℕ) (t t' : Inputs M) → IsChanged (IsAskedOver b) (λ n. false) r 0 asked sent t at r t' → IsKept b m (node r t) (node r t')
kept_asked b m r asked sent at t t' h =
    let k = row_asked b (λ n. false) r 0 asked sent t at r t' (λ n. refl) h in
    record { value = λ hubs further pos. ap (λ o. out_of b m hubs r o (slice_get further pos)) (k.value m hubs further (pos + 1)); notes = ap (λ l. b.recorded r ∷ l) k.notes }

can_ask_found : {M T : Type 0} (b : Machine M T) (o : Option (Place M)) → Found (IsAskedOver b) o → can_ask_in b o ≡ true
can_ask_found b o f = ap (can_ask_in b) f.is ∙ (ap (λ e. can_ask_over b f.there.receiver f.there.input f.there.asked f.there.sent e f.there.sender) f.edge_is ∙ f.made.can)

pub can_asked : {M T : Type 0} (b : Machine M T) (r : M) (asked sent at : ℕ) (t t' : Inputs M) → IsChanged (IsAskedOver b) (λ n. false) r 0 asked sent t at r t' → can_ask_in b (place r 0 asked sent t at) ≡ true
can_asked b r asked sent at t t' h = can_ask_found b _ (found (IsAskedOver b) (λ n. false) r 0 asked sent t at r t' h)

pub asked_effect : {M T : Type 0} (b : Machine M T) (r : M) (asked sent at : ℕ) (t t' : Inputs M) → IsChanged (IsAskedOver b) (λ n. false) r 0 asked sent t at r t' → IsAskedAt b (node r t) at asked sent (node r t')
asked_effect b r asked sent at t t' h = let k = row_asked b (λ n. false) r 0 asked sent t at r t' (λ n. refl) h in record { there = k.there; is = k.is; edges = k.edges; edge = k.edge; tree = ap (node r) k.row }

can_send_found : {M T : Type 0} (b : Machine M T) (m : Meaning T) (o : Option (Place M)) → Found (IsSentOver b m) o → can_send_in b m o ≡ true
can_send_found b m o f = ap (can_send_in b m) f.is ∙ (ap (λ e. can_send_over b m f.there.receiver f.there.input e f.there.sender) f.edge_is ∙ f.made.can)

pub can_sent : {M T : Type 0} (b : Machine M T) (m : Meaning T) (r r' : M) (at : ℕ) (t t' : Inputs M) → IsChanged (IsSentOver b m) b.ended r 0 0 0 t at r' t' → can_send_in b m (place r 0 0 0 t at) ≡ true
can_sent b m r r' at t t' h = can_send_found b m _ (found (IsSentOver b m) b.ended r 0 0 0 t at r' t' h)

-- what a Send leaves once its sender recorded what goes with the signal
pub kept_gone : {M T : Type 0} (b : Machine M T) (m : Meaning T) (r r' : M) (at : ℕ) (t mid t' : Inputs M) (c : Bool) → IsChanged (IsGoneOver b m) b.ended r 0 0 0 t at r' mid → t' ≡ closed_row_if c mid → IsKept b m (node r t) (node r' t')
kept_gone {M} b m r r' at t mid t' c h is =
    let Q : Inputs M → Type 0 = λ u. IsKept b m (node r t) (node r' u) in
    let on = passed_on b m b.ended r 0 0 0 t at r' mid h in
    subst Q (sym is) (record {
      value = λ hubs further pos.
          ap (λ o. out_of b m hubs r' o (slice_get further pos)) (comes_in_closed_if b m hubs further c mid (pos + 1))
          ∙ then_same _ _ (λ k. ap (λ o. through b m hubs r' o k) (sym (nothing_in_front (comes_in b m hubs further mid (pos + 1)))) ∙ (on [] refl hubs further (pos + 1) k ∙ ap (λ o. through b m hubs r o k) (nothing_in_front (comes_in b m hubs further t (pos + 1))))) (slice_get further pos);
      notes = ap (λ k. k ∷ notes_of b (closed_row_if c mid)) (recorded_sent b m b.ended r 0 0 0 t at r' mid h) ∙ ap (λ l. b.recorded r ∷ l) (notes_closed_if b c mid ∙ notes_sent b m b.ended r 0 0 0 t at r' mid h);
    })

pub sent_effect : {M T : Type 0} (b : Machine M T) (m : Meaning T) (r r' : M) (at : ℕ) (t mid t' : Inputs M) → IsChanged (IsSentOver b m) b.ended r 0 0 0 t at r' mid → t' ≡ closed_row_if (b.ended r' && is_own t at) mid → IsSentAt b m (node r t) at (node r' t')
sent_effect {M} b m r r' at t mid t' h is =
    let Q : Inputs M → Type 0 = λ u. IsSentAt b m (node r t) at (node r' u) in
    let k = row_sent b m r 0 0 0 t at r' mid h in
    let c = b.ended r' && is_own t at in
    let ended = ended_in b r' mid at in
    let same : c ≡ (ended && is_own t at) = same_close ended (b.ended r') (is_own t at) (λ o. own_ended b m b.ended r 0 0 0 t at r' mid h o) in
    let still : ended_in b r' (closed_row_if c mid) at ≡ ended = ended_closed_if b c r' mid at in
    subst Q (sym is) (record {
      there = k.there;
      front = k.front;
      is = k.is;
      offered = k.offered;
      edges =
          edges_closed_if c mid
          ∙ (ap (λ z. closed_if z (edges_in mid)) same
          ∙ (ap (λ es. closed_if (ended && is_own t at) es) k.edges
          ∙ ap (λ z. closed_if (z && is_own t at) (sent_edges z k.front t at)) (sym still)));
      mid = mid;
      step = h;
      shut = refl;
    })

pub received_effect : {M T : Type 0} (b : Machine M T) (m : Meaning T) (r r' : M) (at : ℕ) (t mid t' : Inputs M) → IsChanged (IsReceivedOver b m) b.ended r 0 0 0 t at r' mid → t' ≡ closed_row_if (b.ended r' && is_own t at) mid → IsReceivedAt b m (node r t) at (node r' t')
received_effect b m r r' at t mid t' h is = record { mid = mid; step = h; shut = is }

pub joined : {M : Type 0} (t : Node M) (beside : Inputs M) (e : Edge) (below others : Rest M) → e.demand.asked ≡ 0 → e.demand.sent ≡ 0 → e.state ≡ Live → below.value ≡ t.inputs → others.value ≡ beside → IsJoined t beside (More e t.machine below others)
joined t beside e below others a s l b o = record {
  e = e;
  p = record { ptr = below.ptr; alloc = below.alloc; value = tt };
  q = record { ptr = others.ptr; alloc = others.alloc; value = tt };
  row_is = ap (λ x. More e t.machine (with_value below x) others) b ∙ ap (λ x. More e t.machine (with_value below t.inputs) (with_value others x)) o;
  asked = a;
  sent = s;
  live = l;
}
