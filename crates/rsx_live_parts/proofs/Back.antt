-- A subscription that is made of a piece again.
use Rattle.std.proofs.Common.{◌≡◌, ℕ, suc, ◌-◌, ◌≤◌, Bool, true, false, not, ◌||◌, List, [], length, refl, ap, sym, ◌∙◌, subst}
use Rattle.rsx_demand.specs.Demand.{saturating_total}
use Rattle.rsx_sources.specs.Prelude.{Meaning, Signal}
use Rattle.rsx_sources.specs.declared.machine.Machine.{Ghosts as Machine}
use Rattle.rsx_tree.specs.Tree.{edges}
use Rattle.rsx_pipe.specs.Part.{IsPutOut, Part, all_edges}
use Rattle.rsx_link.specs.Ends.{Closes, asked_total, items_taken, received_signals, seen_total}
use Rattle.rsx_link.specs.declared.closed.Closed.{Closed}
use Rattle.rsx_link.specs.declared.down.Down.{Down}
use Rattle.rsx_region.specs.declared.piece.Piece.{Piece}
use Rattle.rsx_runtime.specs.Ordered.{is_unended}
use Rattle.rsx_runtime.specs.declared.tap.Tap.{Tap}
use Rattle.rsx_runtime.specs.declared.tap.TapEnds.{TapEnds}
use Rattle.rsx_subscriber.specs.Apart.{ArePartsOf}
use Rattle.rsx_subscriber.specs.Standing.{live_in, standing}
use Rattle.rsx_subscriber.specs.Stands.{standing_of}
use Rattle.rsx_subscriber.specs.declared.apart.SubscriptionParts.{SubscriptionParts}
use Rattle.rsx_subscriber.specs.declared.state.SubscriptionState.{SubscriptionState}
use Rattle.rsx_subscriber.specs.declared.subscription.Subscription.{Subscription}
use Rattle.rsx_live_parts.specs.Returning.{IsBackOf, IsPutInto, StandsAs, lived_state, tapped_state}
use Rattle.rsx_live_parts.proofs.Sending.{put_nothing}

not_not : (x : Bool) → not (not x) ≡ x
not_not true = refl
not_not false = refl

by_one : (x y : Bool) → x ≡ true → (x || y) ≡ true
by_one true y e = refl
by_one false y e = cc

by_other : (x y : Bool) → y ≡ true → (x || y) ≡ true
by_other true y e = refl
by_other false true e = refl
by_other false false e = cc

module _ {M T : Type 0} (b : Machine M T) (piece : Piece M T) (tap : Tap T) (ends : TapEnds T) (closed : Closed T) (stopped live : Bool) (more : ℕ) (mid part : Part M) (queue : List (Signal T)) (parts : SubscriptionParts M T) (sub : Subscription M T)
    (same : (ends.down ≡ tap.down) × (ends.seat ≡ tap.seat) × (ends.error ≡ tap.error)) (ended : ends.ended ≡ not (is_unended (received_signals tap.down))) (closes : Closes piece.up ends.down ends.seat closed) (stops : stopped ≡ (closed.cancelled || closed.refused)) where
  abbrev state : SubscriptionState
  state = lived_state ends.error (not ends.ended) stopped

  closes_tap : Closes piece.up tap.down ends.seat closed
  closes_tap = subst (λ (d : Down T). Closes piece.up d ends.seat closed) same.0 closes

  state_is : state ≡ tapped_state tap stopped
  state_is = ap (λ e. lived_state e (not ends.ended) stopped) same.2 ∙ ap (λ u. lived_state tap.error u stopped) (ap not ended ∙ not_not (is_unended (received_signals tap.down)))

  pub back_of : parts.demand.asked ≡ asked_total ends.down → parts.demand.sent ≡ items_taken ends.down → more ≡ parts.demand.asked - piece.part.root.demand.asked →
      ((m : Meaning T) → IsPutOut b m piece.part [] mid) → mid.root.demand.asked ≡ saturating_total piece.part.root.demand.asked more → mid.root.state ≡ piece.part.root.state → mid.tree ≡ piece.part.tree →
      live ≡ live_in state → IsPutInto live mid closed.remaining part queue → StandsAs b mid part → part.root.demand.asked ≡ mid.root.demand.asked → length (all_edges part) ≡ length (all_edges mid) →
      standing parts.state (live_in state) ≡ state → parts.part ≡ part → parts.queue ≡ queue → parts.live ≡ live → ArePartsOf sub parts → IsBackOf b piece tap stopped sub
  back_of asked taken more_is put mid_asked mid_state mid_tree live_is settled stands part_asked part_shape stood p_part p_queue p_live are =
      let live_sub : sub.live ≡ live_in state = sym are.live ∙ (p_live ∙ live_is) in
      let stands_sub : standing_of sub ≡ state = ap (λ s. standing s sub.live) (sym are.state) ∙ (ap (standing parts.state) live_sub ∙ stood) in
      let part_is : sub.part ≡ part = sym are.part ∙ p_part in
      let queue_is : sub.queue ≡ queue = sym are.queue ∙ p_queue in
      let total : asked_total ends.down ≡ asked_total tap.down = ap asked_total same.0 in
      let seen : live ≡ live_in (standing_of sub) = live_is ∙ ap live_in (sym stands_sub) in
      let asked_mid : mid.root.demand.asked ≡ saturating_total piece.part.root.demand.asked (asked_total tap.down - piece.part.root.demand.asked) =
      mid_asked ∙ ap (λ k. saturating_total piece.part.root.demand.asked k) (more_is ∙ ap (λ k. k - piece.part.root.demand.asked) (asked ∙ total)) in
      let L : Bool → Type 0 = λ l. IsPutInto l piece.part closed.remaining part queue in
      let S : Part M → Type 0 = λ p. IsPutInto (live_in (standing_of sub)) piece.part closed.remaining p queue in
      let Q : List (Signal T) → Type 0 = λ q. IsPutInto (live_in (standing_of sub)) piece.part closed.remaining sub.part q in
      let A : Part M → Type 0 = λ p. StandsAs b piece.part p in
      record {
        remaining = closed.remaining;
        signals = closes_tap.signals;
        seen = subst (λ k. seen_total piece.up ≤ k) closes_tap.asked closes_tap.seen;
        cancel_seen = λ h. stops ∙ by_one closed.cancelled closed.refused (closes_tap.cancel_seen h);
        refusal_seen = λ h. stops ∙ by_other closed.cancelled closed.refused (closes_tap.refusal_seen h);
        stands = stands_sub ∙ state_is;
        live = live_sub ∙ ap live_in (sym stands_sub);
        asked = ap (λ d. d.asked) (sym are.demand) ∙ (asked ∙ total);
        taken = ap (λ d. d.sent) (sym are.demand) ∙ (taken ∙ ap items_taken same.0);
        raised = ap (λ p. p.root.demand.asked) part_is ∙ (part_asked ∙ asked_mid);
        part = subst A (sym part_is) (λ m published e joins output h. stands m published e joins output (put_nothing b m piece.part mid (put m) published e joins output h));
        put = subst Q (sym queue_is) (subst S (sym part_is) (subst L seen (moved live settled)));
        shape = ap (λ p. length (all_edges p)) part_is ∙ (part_shape ∙ ap (λ t. suc (length (edges t))) mid_tree);
      }
    where
      moved : (l : Bool) → IsPutInto l mid closed.remaining part queue → IsPutInto l piece.part closed.remaining part queue
      moved true h = (h.0 ∙ mid_tree, h.1 ∙ mid_state, h.2)
      moved false h = h
