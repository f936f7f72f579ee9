-- How each move keeps what a part stands for.
use Rattle.std.proofs.Common.{◌≡◌, ◌⊎◌, inl, inr, ℕ, zero, suc, ◌+◌, ◌-◌, ◌<◌, ◌≤◌, Bool, true, false, ◌&&◌, nat_eq, if◌then◌else◌, List, [], ◌∷◌, ◌++◌, length, length-append, replicate, option_map, Option, Ok, refl, ap, sym, ◌∙◌, subst, arith, append_assoc, add-zero}
use Rattle.std.proofs.lemmas.List.{append-nil, length-replicate}
use Rattle.std.proofs.lemmas.Bool.{both_ways, and_parts}
use Rattle.rsx_types.proofs.Numbers.{not_zero}
use Rattle.rsx_sources.specs.Prelude.{Meaning, Allocates, notes_then, Stream, signals_then, Note, Signal, Next, Complete, Error, front_of, IsNotMade}
use Rattle.rsx_model.specs.declared.expr.Expr.{Expr}
use Rattle.rsx_tree.specs.Prelude.{IsTreeReadAt, changed_at, asked_up_to, edge_view, EdgeView, can_pass, passed, closed_view, closed_state, IsSteppedAt, IsPickedHere, IsRowMadeHere, over, station_of, node_allocates, IsStepEnabled, wanted_at, edges as edges_in}
use Rattle.rsx_rooted.specs.Output.{counts_in, items_in, IsUnended, values_then}
use Rattle.rsx_rooted.specs.Feeding.{IsSentOut}
use Rattle.rsx_rooted.specs.Fetched.{IsMovedInside, IsWorked}
use Rattle.rsx_rooted.specs.Rooted.{Stands, IsAlone, IsPutOut, IsMade, IsMadeInto, IsMoved, IsMovedBy, IsMovedOver, IsPumped, IsQuiet, IsSpent, HasEnded, IsAsk, IsSend, IsEffect, IsTreeSent, GoesOut, sent_at, send_enabled, move_enabled, make_allocates, evaluated, pump_allocates, no_room}
use Rattle.rsx_rooted.specs.Tree.{comes_out, notes, offers, edges, edges_after, can_ask, can_send, can_go, want_at, want_in, front_at, front_in, ended_at, IsAllClosed, IsKept, IsLetGo, IsAlike, step_allocates, IsAdvanced, IsAskedAt, IsSentAt, IsChosen, IsDriven, IsIdle, IsBalanced, IsBalancedAfter, pop_allocates, IsStill}
use Rattle.rsx_tree.specs.declared.look.NodeMove.{NodeMove}
use Rattle.rsx_tree.specs.declared.look.NodeMove.TheVariants.{Ask, Send, Pick, Row}
use Rattle.rsx_tree.specs.declared.node.Node.{Node}
use Rattle.rsx_tree.specs.declared.edge.Edge.{Edge}
use Rattle.rsx_tree.specs.declared.edge.EdgeState.{EdgeState}
use Rattle.rsx_tree.specs.declared.edge.EdgeState.TheVariants.{Live, Closed, Ended}
use Rattle.rsx_rooted.specs.declared.rooted.Rooted.{Rooted}
use Rattle.rsx_rooted.specs.declared.rooted.Pumped.{Pumped}
use Rattle.rsx_rooted.specs.declared.sink.Sink.{Ghosts as Sink}
use Rattle.rsx_rooted.specs.declared.rooted.Pumped.TheVariants.{Idle, Budget}
use Rattle.rsx_sources.specs.declared.machine.Machine.{Ghosts as Machine}
use Rattle.rsx_sources.specs.declared.machine.NotMade.{NotMade}
use Rattle.rsx_sources.specs.declared.machine.NotMade.TheVariants.{NotEnabled}
use Rattle.rsx_tree.proofs.Alike.{or_right, alike_still, alike_then, driven_alike, or_left}
use Rattle.rsx_tree.proofs.Drives.{chosen_run}
use Rattle.rsx_tree.proofs.Runs.{gives_none, gives_on, gives_one, leads_by_lift, leads_silent}
use Rattle.rsx_tree.specs.Runs.{LeadsBy, Unlabelled}
use Rattle.rsx_tree.proofs.Noted.{chosen_then, picked_effect, picked_enabled, row_effect, row_enabled as row_made_enabled}
use Rattle.rsx_tree.proofs.Changes.{chosen_second}
use Rattle.rsx_rooted.proofs.Numbers.{above_zero, suc_minus}
use Rattle.rsx_rooted.proofs.Signals.{IsOrderly-more, IsUnended-more, IsUnended-last, items_in-append, map_then-last}
use Rattle.rsx_tree.proofs.Shut.{pass_live, pick_alive, row_alive}
use Rattle.rsx_rooted.proofs.Trees.{advanced_not_closed, ask_not_closed, send_not_closed, go_live}
use Rattle.rsx_rooted.proofs.Numbers.{front_there, asked_all, at_zero}

-- ---- what goes out

pub same_output : {M T : Type 0} (b : Machine M T) (m : Meaning T) (published : List (Stream T)) (part : Rooted M) (e : Expr T) (joins : List ℕ) (output : List (Signal T)) → Stands b m published part e joins output → Stands b m published part e joins (output ++ [])
same_output {T = T} b m published part e joins output h =
    let P : List (Signal T) → Type 0 = λ l. Stands b m published part e joins l in
    subst P (sym (append-nil output)) h

pub put_out_none : {M T : Type 0} (b : Machine M T) (m : Meaning T) (part : Rooted M) → IsPutOut b m part [] part
put_out_none b m part published e joins output h = same_output b m published part e joins output h

closed_dead : (s : EdgeState) → s ≡ Closed → s ≡ Live → ⊥
closed_dead s c l = cc

-- moves inside the tree, by which nodes choose
pub put_out_chosen : {M T : Type 0} (b : Machine M T) (m : Meaning T) (old new : Rooted M) → IsChosen b m old.tree new.tree → ((sent : ℕ) → IsBalanced b old.tree sent → IsBalanced b new.tree sent) → new.root ≡ old.root → IsAlike b old.tree new.tree → (IsAllClosed old.tree → (old.root.state ≡ Live → ⊥) → ⊥) → IsPutOut b m old [] new
put_out_chosen b m old new k balance root alike alive published e joins output h =
    same_output b m published new e joins output (record {
      value = λ more further len.
          ap (λ o. option_map (signals_then output) o) (k.value (values_then published more) further)
          ∙ (h.value more (k.choose further) (k.count further ∙ (len ∙ k.nodes)) ∙ ap (λ ns. evaluated m (values_then published more) joins e ns) (sym (k.notes further)));
      orderly = h.orderly;
      unended = rw root h.unended;
      ended = rw root h.ended;
      counted = rw root h.counted;
      balance = rw root (λ l. balance old.root.demand.sent (h.balance l));
      reads = rw root (λ l. alike.1 (counts_in published) (h.reads l));
      alone = rw root (λ l none. alike.1 [] (h.alone l none));
      closed = λ c. let was : old.root.state ≡ Closed = ap (λ r. r.state) (sym root) ∙ c in absurd (alive (h.closed was) (closed_dead old.root.state was));
    })

passed_sent : {T : Type 0} (e : EdgeView) (s : Signal T) → (passed e (front_of s)).sent ≡ e.sent + length (items_in (s ∷ []))
passed_sent e (Next x) = refl
passed_sent e Complete = sym (add-zero e.sent)
passed_sent e (Error c) = sym (add-zero e.sent)

passed_asked : {T : Type 0} (e : EdgeView) (s : Signal T) → (passed e (front_of s)).asked ≡ e.asked
passed_asked e (Next x) = refl
passed_asked e Complete = refl
passed_asked e (Error c) = refl

passed_live : {T : Type 0} (e : EdgeView) (s : Signal T) → (passed e (front_of s)).state ≡ Live → (x : T) × (s ≡ Next x)
passed_live e (Next x) h = (x, refl)
passed_live e Complete h = cc
passed_live e (Error c) h = cc

passed_open : {T : Type 0} (e : EdgeView) (s : Signal T) → e.state ≡ Live → (passed e (front_of s)).state ≡ Closed → ⊥
passed_open e (Next x) l c = cc
passed_open e Complete l c = cc
passed_open e (Error k) l c = cc

passed_last : {T : Type 0} (e : EdgeView) (s : Signal T) → e.state ≡ Live → (passed e (front_of s)).state ≡ Ended → (x : T) → s ≡ Next x → ⊥
passed_last e (Next y) l c x i = cc
passed_last e Complete l c x i = cc
passed_last e (Error k) l c x i = cc

-- the root's signal goes over the root edge
put_out_sent : {M T : Type 0} (b : Machine M T) (m : Meaning T) (old new : Rooted M) (s : Signal T) → IsLetGo b m old.tree s new.tree → can_pass (edge_view old.root) (front_of s) ≡ true → edge_view new.root ≡ passed (edge_view old.root) (front_of s) → IsPutOut b m old (s ∷ []) new
put_out_sent {M = M} {T = T} b m old new s gone can view published e joins output h =
    let was_live : old.root.state ≡ Live = pass_live (edge_view old.root) (front_of s) can in
    let open_before : IsUnended output = h.unended was_live in
    let sent : new.root.demand.sent ≡ old.root.demand.sent + length (items_in (s ∷ [])) = ap (λ v. v.sent) view ∙ passed_sent (edge_view old.root) s in
    let live_item : new.root.state ≡ Live → (x : T) × (s ≡ Next x) = λ l. passed_live (edge_view old.root) s (sym (ap (λ v. v.state) view) ∙ l) in
    record {
      value = λ more further len.
          map_then-last output s (comes_out b m (values_then published more) further new.tree 0)
          ∙ (ap (λ o. option_map (signals_then output) o) (sym (gone.value (values_then published more) further))
          ∙ (h.value more (gone.choose further) (gone.count further ∙ (len ∙ gone.nodes)) ∙ ap (λ ns. evaluated m (values_then published more) joins e ns) (sym (gone.notes further))));
      orderly = IsOrderly-more output s open_before;
      unended = λ l. let x = live_item l in rw x.1 (IsUnended-more output x.0 open_before);
      ended = λ c u. let x = IsUnended-last output s u in passed_last (edge_view old.root) s was_live (sym (ap (λ v. v.state) view) ∙ c) x.0 x.1;
      counted = ap length (items_in-append output (s ∷ [])) ∙ (length-append (items_in output) (items_in (s ∷ [])) ∙ (ap (λ n. n + length (items_in (s ∷ []))) h.counted ∙ sym sent));
      balance = λ l.
          let x = live_item l in
          let B : Signal T → Type 0 = λ t. IsBalancedAfter b t new.tree old.root.demand.sent in
          let C : ℕ → Type 0 = λ c. IsBalanced b new.tree c in
          let one : new.root.demand.sent ≡ old.root.demand.sent + 1 = sent ∙ ap (λ t. old.root.demand.sent + length (items_in (t ∷ []))) x.1 in
          subst C (sym one) (subst B x.1 (gone.balance old.root.demand.sent (h.balance was_live)));
      reads = λ l. gone.alike.1 (counts_in published) (h.reads was_live);
      alone = λ l none. gone.alike.1 [] (h.alone was_live none);
      closed = λ c. absurd (passed_open (edge_view old.root) s was_live (sym (ap (λ v. v.state) view) ∙ c));
    }

-- what was asked over the root edge rises
pub put_out_asked : {M T : Type 0} (b : Machine M T) (m : Meaning T) (old new : Rooted M) → new.tree ≡ old.tree → new.root.state ≡ old.root.state → new.root.demand.sent ≡ old.root.demand.sent → IsPutOut b m old [] new
put_out_asked {M = M} {T = T} b m old new tree state sent published e joins output h =
    let V : Node M → Type 0 = λ t. (more : List (Stream T)) (further : List Note) → length further ≡ length (notes b t) →
    option_map (signals_then output) (comes_out b m (values_then published more) further t 0) ≡ evaluated m (values_then published more) joins e (notes_then (notes b t) further) in
    let B : Node M → Type 0 = λ t. IsBalanced b t old.root.demand.sent in
    let S : ℕ → Type 0 = λ k. IsBalanced b new.tree k in
    let C : Node M → Type 0 = λ t. IsAllClosed t in
    let R : List (Option ℕ) → Node M → Type 0 = λ counts t. IsTreeReadAt b counts t in
    same_output b m published new e joins output (record {
      value = subst V (sym tree) h.value;
      orderly = h.orderly;
      unended = λ l. h.unended (sym state ∙ l);
      ended = λ x. h.ended (sym state ∙ x);
      counted = h.counted ∙ sym sent;
      balance = λ l. subst S (sym sent) (subst B (sym tree) (h.balance (sym state ∙ l)));
      reads = λ l. subst (R (counts_in published)) (sym tree) (h.reads (sym state ∙ l));
      alone = λ l none. subst (R []) (sym tree) (h.alone (sym state ∙ l) none);
      closed = λ x. subst C (sym tree) (h.closed (sym state ∙ x));
    })

-- the part is closed
pub put_out_closed : {M T : Type 0} (b : Machine M T) (m : Meaning T) (old new : Rooted M) → IsKept b m old.tree new.tree → IsAllClosed new.tree → edge_view new.root ≡ closed_view (edge_view old.root) → IsPutOut b m old [] new
put_out_closed b m old new k closed root published e joins output h =
    same_output b m published new e joins output (record {
      value = λ more further len.
          ap (λ o. option_map (signals_then output) o) (k.value (values_then published more) further 0)
          ∙ (h.value more further (len ∙ ap length k.notes) ∙ ap (λ ns. evaluated m (values_then published more) joins e (notes_then ns further)) (sym k.notes));
      orderly = h.orderly;
      unended = λ l. absurd (never_live (edge_view old.root) (sym (ap (λ v. v.state) root) ∙ l));
      ended = λ x. h.ended (was_ended (edge_view old.root) (sym (ap (λ v. v.state) root) ∙ x));
      counted = h.counted ∙ sym (ap (λ v. v.sent) root);
      balance = λ l. absurd (never_live (edge_view old.root) (sym (ap (λ v. v.state) root) ∙ l));
      reads = λ l. absurd (never_live (edge_view old.root) (sym (ap (λ v. v.state) root) ∙ l));
      alone = λ l. absurd (never_live (edge_view old.root) (sym (ap (λ v. v.state) root) ∙ l));
      closed = λ _. closed;
    })
  where
    never_live : (e : EdgeView) → (closed_view e).state ≡ Live → ⊥
    never_live e l = by_state e.state l
      where
        by_state : (s : EdgeState) → closed_state s ≡ Live → ⊥
        by_state Live l = cc
        by_state Ended l = cc
        by_state Closed l = cc

    was_ended : (e : EdgeView) → (closed_view e).state ≡ Ended → e.state ≡ Ended
    was_ended e l = by_state e.state l
      where
        by_state : (s : EdgeState) → closed_state s ≡ Ended → s ≡ Ended
        by_state Live l = cc
        by_state Ended l = refl
        by_state Closed l = cc

pub put_out_on : {M T : Type 0} (b : Machine M T) (m : Meaning T) (a mid c : Rooted M) (first rest : List (Signal T)) → IsPutOut b m a first mid → IsPutOut b m mid rest c → IsPutOut b m a (first ++ rest) c
put_out_on {T = T} b m a mid c first rest x y published e joins output h =
    let P : List (Signal T) → Type 0 = λ l. Stands b m published c e joins l in
    subst P (append_assoc output first rest) (y published e joins (output ++ first) (x published e joins output h))

-- ---- many moves

pub pumped_none : {M S T : Type 0} (b : Machine M T) (k : Sink S T) (m : Meaning T) (part : Rooted M) (sink : S) → IsPumped b k m 0 part sink part sink
pumped_none b k m part sink = record { out = []; queued = sym (append-nil (k.signals sink)); moves = gives_none (IsMovedOver b k m) (λ o. o) (part, sink) (part, sink) refl; stands = put_out_none b m part; inside = λ _. refl; chosen = λ _. chosen_run b m true 0 part.tree part.tree 0 0 refl; balance = λ _ _ h. h; asked = refl; unclosed = λ h. h; alike = alike_still b part.tree }

nothing_first : {A : Type 0} (xs ys : List A) → xs ++ ys ≡ [] → xs ≡ []
nothing_first [] ys e = refl
nothing_first (x ∷ xs) ys e = cc

nothing_then : {A : Type 0} (xs ys : List A) → xs ++ ys ≡ [] → ys ≡ []
nothing_then [] ys e = e
nothing_then (x ∷ xs) ys e = cc

pub pumped_on : {M S T : Type 0} (b : Machine M T) (k : Sink S T) (m : Meaning T) (n i : ℕ) (a mid c : Rooted M) (q q' q'' : S) → IsPumped b k m n a q mid q' → IsPumped b k m i mid q' c q'' → IsPumped b k m (n + i) a q c q''
pumped_on b k m n i a mid c q q' q'' x y = record {
  out = x.out ++ y.out;
  queued = y.queued ∙ (ap (λ l. l ++ y.out) x.queued ∙ append_assoc (k.signals q) x.out y.out);
  moves = gives_on (IsMovedOver b k m) (λ o. o) n i (a, q) (mid, q') (c, q'') x.out y.out x.moves y.moves;
  stands = put_out_on b m a mid c x.out y.out x.stands y.stands;
  inside = λ none. y.inside (nothing_then x.out y.out none) ∙ x.inside (nothing_first x.out y.out none);
  chosen = λ none. chosen_then b m a.tree mid.tree c.tree (x.chosen (nothing_first x.out y.out none)) (y.chosen (nothing_then x.out y.out none));
  balance = λ none sent h. y.balance (nothing_then x.out y.out none) sent (x.balance (nothing_first x.out y.out none) sent h);
  asked = y.asked ∙ x.asked;
  unclosed = λ h. y.unclosed (x.unclosed h);
  alike = alike_then b a.tree mid.tree c.tree x.alike y.alike;
}

-- ---- one move

pub sent_below_root : {M T : Type 0} (b : Machine M T) (m : Meaning T) (old : Rooted M) (tree : Node M) (at : ℕ) → 0 < at → IsSentAt b m old.tree (at - 1) tree → IsSend b m old at [] (record { tree = tree; root = old.root })
sent_below_root {M = M} {T = T} b m old tree at z k =
    let Q : Bool → Type 0 = λ root. GoesOut b m old root [] in
    let S : Bool → Type 0 = λ root. IsTreeSent b m old at root [] (record { tree = tree; root = old.root }) in
    let not : nat_eq at 0 ≡ false = not_zero at z in
    let ended : Bool = ended_at b tree (at - 1) in
    let same : (if nat_eq at 0 then false else ended) ≡ ended = chosen_second (nat_eq at 0) false ended not in
    let there : sent_at ended k.front old at ≡ edge_view old.root ∷ edges_after ended k.front old.tree (at - 1) = chosen_second (nat_eq at 0) _ _ not in
    record {
      front = k.front;
      carries = front_there at (option_map front_of (offers b m old.tree)) (front_at b m old.tree (at - 1)) k.front z (ap (front_in b m) k.is ∙ k.offered);
      edges = ap (λ l. edge_view old.root ∷ l) k.edges ∙ (sym there ∙ ap (λ v. sent_at v k.front old at) (sym same));
      goes = subst Q (sym not) refl;
      tree = subst S (sym not) (k, refl);
    }

pub asked_below_root : {M T : Type 0} (b : Machine M T) (old : Rooted M) (tree : Node M) (at : ℕ) → 0 < at → IsAskedAt b old.tree (at - 1) old.root.demand.asked old.root.demand.sent tree → IsAsk b old at (record { tree = tree; root = old.root })
asked_below_root b old tree at z k =
    let want : wanted_at b k.there ≡ want_at b old.tree (at - 1) old.root.demand.asked old.root.demand.sent = sym (ap (want_in b) k.is) in
    record {
      edges = asked_all (edge_view old.root) (edges old.tree) (edges tree) at (want_at b old.tree (at - 1) old.root.demand.asked old.root.demand.sent) old.root.demand.asked z
          (k.edges ∙ ap (λ w. changed_at (asked_up_to w) (at - 1) (edges old.tree)) want);
      edge = k.edge;
      tree = k.tree;
      root = refl;
    }

pub made_sent : {M T : Type 0} (b : Machine M T) (m : Meaning T) (old new : Rooted M) (s : Signal T) → IsLetGo b m old.tree s new.tree → can_pass (edge_view old.root) (front_of s) ≡ true → edge_view new.root ≡ passed (edge_view old.root) (front_of s) → IsMade b m (Send 0) old (s ∷ []) new
made_sent b m old new s gone can view = record {
  effect = record {
    front = front_of s;
    carries = ap (option_map front_of) gone.offered;
    edges = ap (λ e. e ∷ edges new.tree) view ∙ ap (λ t. passed (edge_view old.root) (front_of s) ∷ edges_in t) (sym gone.popped.1);
    goes = (s, gone.offered, refl);
    tree = (s, refl, gone);
  };
  stands = put_out_sent b m old new s gone can view;
  inside = λ none. cc;
  chosen = λ none. cc;
  balance = λ none. cc;
  asked = ap (λ v. v.asked) view ∙ passed_asked (edge_view old.root) s;
  unclosed = λ _ c. passed_open (edge_view old.root) s (pass_live (edge_view old.root) (front_of s) can) (sym (ap (λ v. v.state) view) ∙ c);
  alike = gone.alike;
}

moved_below : {M S T : Type 0} (b : Machine M T) (k : Sink S T) (m : Meaning T) (old : Rooted M) (tree : Node M) (sink : S) → IsAdvanced b m old.tree old.root.demand.asked old.root.demand.sent tree → IsMoved b k m old sink [] (record { tree = tree; root = old.root }) sink
moved_below {M = M} b k m old tree sink a =
    let asked : ℕ = old.root.demand.asked in
    let sent : ℕ = old.root.demand.sent in
    let above : 0 < a.at + 1 = omega arith in
    let A : ℕ → Type 0 = λ i. IsAskedAt b old.tree i asked sent tree in
    let S : ℕ → Type 0 = λ i. IsSentAt b m old.tree i tree in
    elim a.made [
      | inl w ↦ record {
        move = Ask (a.at + 1);
        enabled = above_zero a.at false (can_ask b old.tree ((a.at + 1) - 1) asked sent) ∙ ap (λ i. can_ask b old.tree i asked sent) (suc_minus a.at) ∙ w.0;
        effect = (refl, asked_below_root b old tree (a.at + 1) above (subst A (sym (suc_minus a.at)) w.1));
        queued = sym (append-nil (k.signals sink));
      }
      | inr y ↦ elim y [
        | inl w ↦ record {
          move = Send (a.at + 1);
          enabled = above_zero a.at (k.room sink && can_go (edge_view old.root) (option_map front_of (offers b m old.tree))) (can_send b m old.tree ((a.at + 1) - 1)) ∙ ap (λ i. can_send b m old.tree i) (suc_minus a.at) ∙ w.0;
          effect = sent_below_root b m old tree (a.at + 1) above (subst S (sym (suc_minus a.at)) w.1);
          queued = sym (append-nil (k.signals sink));
        }
        | inr w ↦ elim w.1.made [
          | inl p ↦
              let made : IsSteppedAt (IsPickedHere b m p.0) b.ended old.tree (edge_view old.root) (suc a.at) tree = record { machine = w.1.receiver; made = p.1 } in
              record {
                move = Pick (suc a.at) p.0;
                enabled = picked_enabled b m p.0 old.tree (edge_view old.root) (suc a.at) tree made;
                effect = (refl, record { tree = picked_effect b m p.0 old.tree (edge_view old.root) (suc a.at) tree made; root = refl });
                queued = sym (append-nil (k.signals sink));
              }
          | inr p ↦
              let made : IsSteppedAt (IsRowMadeHere b m) b.ended old.tree (edge_view old.root) (suc a.at) tree = record { machine = w.1.receiver; made = p } in
              record {
                move = Row (suc a.at);
                enabled = row_made_enabled b m old.tree (edge_view old.root) (suc a.at) tree made;
                effect = (refl, record { tree = row_effect b m old.tree (edge_view old.root) (suc a.at) tree made; root = refl });
                queued = sym (append-nil (k.signals sink));
              }
        ]
      ]
    ]

-- what a call that makes a move inside the tree gives
pub made_inside : {M T : Type 0} (b : Machine M T) (m : Meaning T) (move : NodeMove) (old new : Rooted M) → IsEffect b m move old [] new → IsChosen b m old.tree new.tree → ((sent : ℕ) → IsBalanced b old.tree sent → IsBalanced b new.tree sent) → (IsAllClosed old.tree → (old.root.state ≡ Live → ⊥) → ⊥) → new.root ≡ old.root → IsAlike b old.tree new.tree → IsMade b m move old [] new
made_inside b m move old new effect chosen balance alive root alike = record {
  effect = effect;
  stands = put_out_chosen b m old new chosen balance root alike alive;
  inside = λ _. root;
  chosen = λ _. chosen;
  balance = λ _. balance;
  asked = ap (λ r. r.demand.asked) root;
  unclosed = λ h c. h (ap (λ r. r.state) (sym root) ∙ c);
  alike = alike;
}

pub made_into : {M S T : Type 0} (b : Machine M T) (k : Sink S T) (m : Meaning T) (move step : NodeMove) (old new : Rooted M) (sink : S) → move ≡ step → IsMade b m step old [] new → IsMadeInto b k m move old sink new sink
made_into b k m move step old new sink is made = ([], subst (λ s. IsMade b m s old [] new) (sym is) made, sym (append-nil (k.signals sink)))

-- what is said of a move is said of the one that it is
pub alone_as : {M T : Type 0} (b : Machine M T) (m : Meaning T) (move step : NodeMove) (old new : Rooted M) → move ≡ step → IsAlone b m step old new → IsAlone b m move old new
alone_as b m move step old new is h = subst (λ s. IsAlone b m s old new) (sym is) h

-- a Send over the root edge is about no node that takes the signal in
pub alone_root : {M T : Type 0} (b : Machine M T) (m : Meaning T) (n : ℕ) (old new : Rooted M) → n ≤ 0 → IsAlone b m (Send n) old new
alone_root b m n old new none some = absurd (omega (arith, none, some))

-- a move that a call made is a run of one move
pub pumped_made : {M S T : Type 0} (b : Machine M T) (k : Sink S T) (m : Meaning T) (move : NodeMove) (old new : Rooted M) (sink sink' : S) → move_enabled b m old (k.room sink) move ≡ true → IsMadeInto b k m move old sink new sink' → IsPumped b k m 1 old sink new sink'
pumped_made b k m move old new sink sink' can h = record {
  out = h.0;
  queued = h.2;
  moves = gives_one (IsMovedOver b k m) (λ o. o) (old, sink) (new, sink') h.0 (record { move = move; enabled = can; effect = h.1.effect; queued = h.2 });
  stands = h.1.stands;
  inside = h.1.inside;
  chosen = h.1.chosen;
  balance = h.1.balance;
  asked = h.1.asked;
  unclosed = h.1.unclosed;
  alike = h.1.alike;
}

-- a signal that went out, and stands in the sink now
pub pumped_sent : {M S T : Type 0} (b : Machine M T) (k : Sink S T) (m : Meaning T) (old new : Rooted M) (sink sink' : S) (s : Signal T) → IsSentOut b m old s new → k.room sink ≡ true → k.signals sink' ≡ k.signals sink ++ s ∷ [] → IsPumped b k m 1 old sink new sink'
pumped_sent b k m old new sink sink' s gone room put = pumped_made b k m (Send 0) old new sink sink' (rw room gone.enabled) (s ∷ [], gone.made, put)

-- a closed part makes no move
pub moved_alive : {M T : Type 0} (b : Machine M T) (m : Meaning T) (old : Rooted M) (room : Bool) (move : NodeMove) → move_enabled b m old room move ≡ true → IsAllClosed old.tree → (old.root.state ≡ Live → ⊥) → ⊥
moved_alive b m old room move can closed shut = by_move move can
  where
    by_test : (b x y : Bool) → (if b then x else y) ≡ true → (x ≡ true) ⊎ (y ≡ true)
    by_test true x y e = inl e
    by_test false x y e = inr e

    below : (at : ℕ) (x y : Bool) → (if nat_eq at 0 then x else y) ≡ true → (x ≡ true) ⊎ (y ≡ true)
    below at x y e = by_test (nat_eq at 0) x y e

    by_move : (move : NodeMove) → move_enabled b m old room move ≡ true → ⊥
    by_move (Ask n) e = elim (below n false (can_ask b old.tree (n - 1) old.root.demand.asked old.root.demand.sent) e) [
      | inl f ↦ cc
      | inr a ↦ ask_not_closed b old.tree (n - 1) old.root.demand.asked old.root.demand.sent a closed
    ]
    by_move (Send n) e = elim (below n (room && can_go (edge_view old.root) (option_map front_of (offers b m old.tree))) (can_send b m old.tree (n - 1)) e) [
      | inl r ↦ shut (go_live (edge_view old.root) (option_map front_of (offers b m old.tree)) (and_parts (room) _ r).1)
      | inr s ↦ send_not_closed b m old.tree (n - 1) s closed
    ]
    by_move (Pick n input) e = pick_alive b old.tree (edge_view old.root) n input e closed shut
    by_move (Row n) e = row_alive b old.tree (edge_view old.root) n e closed shut

-- a move below the root, one by one
moved_inside : {M T : Type 0} (b : Machine M T) (m : Meaning T) (old : Rooted M) (tree : Node M) → IsAdvanced b m old.tree old.root.demand.asked old.root.demand.sent tree → IsMovedInside b m old (record { tree = tree; root = old.root })
moved_inside b m old tree a =
    let w = moved_below b no_room m old tree tt a in
    record {
      move = w.move;
      enabled = w.enabled;
      made = made_inside b m w.move old (record { tree = tree; root = old.root }) w.effect a.chosen a.balance (λ closed _. advanced_not_closed b m old.tree tree old.root.demand.asked old.root.demand.sent a closed) refl a.alike;
    }

-- ---- many moves of the tree

pub driven_inside : {M T : Type 0} (b : Machine M T) (m : Meaning T) (n : ℕ) (root : Edge) (old new : Node M) → IsDriven b m n old root.demand.asked root.demand.sent new → LeadsBy (IsMovedInside b m) n (record { tree = old; root = root }) (record { tree = new; root = root })
driven_inside {M} b m n root old new d =
    let part : Node M → Rooted M = λ t. record { tree = t; root = root } in
    leads_by_lift (λ (x y : Node M). IsAdvanced b m x root.demand.asked root.demand.sent y) (IsMovedInside b m) part (λ x y a. moved_inside b m (part x) y a) n old new d

driven_moves : {M S T : Type 0} (b : Machine M T) (k : Sink S T) (m : Meaning T) (n : ℕ) (root : Edge) (old new : Node M) (sink : S) → IsDriven b m n old root.demand.asked root.demand.sent new → IsMovedBy b k m n (record { tree = old; root = root }) sink [] (record { tree = new; root = root }) sink
driven_moves {M = M} {S = S} b k m n root old new sink d =
    let F : Node M → Rooted M × S = λ t. (record { tree = t; root = root }, sink) in
    leads_silent (Unlabelled (λ (x y : Node M). IsAdvanced b m x root.demand.asked root.demand.sent y)) (IsMovedOver b k m) (λ o. o) F [] refl (λ x y l a. moved_below b k m (record { tree = x; root = root }) y sink a) n old new (replicate n tt) (length-replicate n tt) d

driven_put_out : {M T : Type 0} (b : Machine M T) (m : Meaning T) (n : ℕ) (root : Edge) (old new : Node M) → IsDriven b m n old root.demand.asked root.demand.sent new → ((s : ℕ) → IsBalanced b old s → IsBalanced b new s) → IsPutOut b m (record { tree = old; root = root }) [] (record { tree = new; root = root })
driven_put_out {M = M} {T = T} b m zero root old new d balance = let P : Node M → Type 0 = λ t. IsPutOut b m (record { tree = old; root = root }) [] (record { tree = t; root = root }) in subst P (sym d) (put_out_none b m (record { tree = old; root = root }))
driven_put_out b m (suc n) root old new d balance =
    put_out_chosen b m (record { tree = old; root = root }) (record { tree = new; root = root }) (chosen_run b m true (suc n) old new root.demand.asked root.demand.sent d) balance refl (driven_alike b m true (suc n) old root.demand.asked root.demand.sent new d) (λ closed _. advanced_not_closed b m old d.0 root.demand.asked root.demand.sent d.1 closed)

pub pumped_driven : {M S T : Type 0} (b : Machine M T) (k : Sink S T) (m : Meaning T) (n : ℕ) (old : Rooted M) (tree : Node M) (sink : S) → IsDriven b m n old.tree old.root.demand.asked old.root.demand.sent tree → ((s : ℕ) → IsBalanced b old.tree s → IsBalanced b tree s) → IsPumped b k m n old sink (record { tree = tree; root = old.root }) sink
pumped_driven b k m n old tree sink d balance = record {
  out = [];
  queued = sym (append-nil (k.signals sink));
  moves = driven_moves b k m n old.root old.tree tree sink d;
  stands = driven_put_out b m n old.root old.tree tree d balance;
  inside = λ _. refl;
  chosen = λ _. chosen_run b m true n old.tree tree old.root.demand.asked old.root.demand.sent d;
  balance = λ _. balance;
  asked = refl;
  unclosed = λ h. h;
  alike = driven_alike b m true n old.tree old.root.demand.asked old.root.demand.sent tree d;
}

-- moves inside the tree are moves over any sink, which stays as it is
pub worked_into : {M S T : Type 0} (b : Machine M T) (k : Sink S T) (m : Meaning T) (n : ℕ) (old new : Rooted M) (sink : S) → IsWorked b m n old new → IsPumped b k m n old sink new sink
worked_into {M = M} {S = S} {T = T} b k m n old new sink x = record {
  out = [];
  queued = sym (append-nil (k.signals sink));
  moves = leads_silent (IsMovedOver b no_room m) (IsMovedOver b k m) (λ (o : List (Signal T)). o) beside [] refl into n (old, tt) (new, tt) x.moves.labels x.moves.count x.moves.run;
  stands = subst (λ o. IsPutOut b m old o new) (sym x.queued) x.stands;
  inside = λ _. x.inside (sym x.queued);
  chosen = λ _. x.chosen (sym x.queued);
  balance = λ _. x.balance (sym x.queued);
  asked = x.asked;
  unclosed = x.unclosed;
  alike = x.alike;
}
  where
    beside : Rooted M × Unit {0} → Rooted M × S
    beside y = (y.0, sink)

    with_room : (part : Rooted M) (move : NodeMove) → move_enabled b m part false move ≡ true → move_enabled b m part (k.room sink) move ≡ true
    with_room part (Ask n) can = can
    with_room part (Send n) can = by_test (nat_eq n 0) _ _ can
      where
        by_test : (c x y : Bool) → (if c then false else y) ≡ true → (if c then x else y) ≡ true
        by_test true x y e = cc
        by_test false x y e = e
    with_room part (Pick n input) can = can
    with_room part (Row n) can = can

    into : (y z : Rooted M × Unit {0}) (out : List (Signal T)) → IsMovedOver b no_room m y out z → IsMovedOver b k m (beside y) [] (beside z)
    into y z out w = record { move = w.move; enabled = with_room y.0 w.move w.enabled; effect = subst (λ o. IsEffect b m w.move y.0 o z.0) (sym w.queued) w.effect; queued = sym (append-nil (k.signals sink)) }

-- ---- no want of memory

-- the root's signal is taken out without
pub root_free : {M T : Type 0} (b : Machine M T) (a : Allocates) (part : Rooted M) → pump_allocates b a part ≡ false → pop_allocates b a part.tree ≡ false
root_free b a part free = or_left (pop_allocates b a part.tree) _ (or_left (node_allocates b a part.tree.machine) _ free)

-- a step of the root is made without
pub root_step_free : {M T : Type 0} (b : Machine M T) (a : Allocates) (part : Rooted M) (step : NodeMove) → IsStepEnabled b (over part.root part.tree.machine) 0 step → pump_allocates b a part ≡ false → make_allocates b a part step ≡ false
root_step_free b a part (Ask n) h free = absurd h
root_step_free b a part (Send n) h free = absurd h
root_step_free b a part (Pick n input) h free = ap (λ k. step_allocates b a part.tree (edge_view part.root) k) h.0 ∙ or_right (b.signal_allocates a part.tree.machine) _ (or_right (b.pop_allocates a part.tree.machine) _ (or_left (node_allocates b a part.tree.machine) _ free))
root_step_free b a part (Row n) h free = ap (λ k. step_allocates b a part.tree (edge_view part.root) k) h.0 ∙ or_right (b.signal_allocates a part.tree.machine) _ (or_right (b.pop_allocates a part.tree.machine) _ (or_left (node_allocates b a part.tree.machine) _ free))

-- an enabled move isn't refused but for want of memory
pub not_refused : (can : Bool) (e : NotMade) → can ≡ true → IsNotMade can e → e ≡ NotEnabled → ⊥
not_refused can e enabled h is = let other : IsNotMade can NotEnabled = subst (IsNotMade can) is h in both_ways can other enabled

-- ---- where no move is enabled

pub quiet_when : {M T : Type 0} (b : Machine M T) (m : Meaning T) (part : Rooted M) (room : Bool) → send_enabled b m part room 0 ≡ false → IsIdle b m part.tree part.root.demand.asked part.root.demand.sent → IsStill b (station_of part.tree (edge_view part.root) 0) → IsQuiet b m part room
quiet_when b m part room r t still (Ask n) l = at_zero n false (can_ask b part.tree (n - 1) part.root.demand.asked part.root.demand.sent) false refl (t (n - 1) (omega (arith, l))).0
quiet_when b m part room r t still (Send n) l = at_zero n (room && can_go (edge_view part.root) (option_map front_of (offers b m part.tree))) (can_send b m part.tree (n - 1)) false r (t (n - 1) (omega (arith, l))).1
quiet_when b m part room r t still (Pick zero input) l = still.0 input l.1
quiet_when b m part room r t still (Pick (suc at) input) l = (t at (let small = l.0 in omega (arith, small))).2.0 input l.1
quiet_when b m part room r t still (Row zero) l = still.1
quiet_when b m part room r t still (Row (suc at)) l = (t at (omega (arith, l))).2.1

-- the tree made no move, and the root can't send, pick or make a row
pub quiet_driven : {M T : Type 0} (b : Machine M T) (m : Meaning T) (n left budget : ℕ) (part : Rooted M) (tree : Node M) (room : Bool) → n + left ≡ budget → budget ≤ left → IsDriven b m n part.tree part.root.demand.asked part.root.demand.sent tree → send_enabled b m part room 0 ≡ false →
    IsIdle b m tree part.root.demand.asked part.root.demand.sent → IsStill b (station_of tree (edge_view part.root) 0) → IsQuiet b m (record { tree = tree; root = part.root }) room
quiet_driven {M = M} {T = T} b m zero left budget part tree room spent all d shut idle still =
    let S : Node M → Type 0 = λ t. send_enabled b m (record { tree = t; root = part.root }) room 0 ≡ false in
    quiet_when b m (record { tree = tree; root = part.root }) room (subst S (sym d) shut) idle still
quiet_driven b m (suc n) left budget part tree room spent all d shut idle still = absurd (omega (arith, spent, all))

-- ---- how driving ends

pub spent_ended : {M T : Type 0} (b : Machine M T) (E : Type 0) (m : Meaning T) (budget n : ℕ) (part : Rooted M) (room : Bool) (p : Pumped) → n ≡ budget → IsSpent b m part room p → HasEnded {E = E} b m budget n part room (Ok p)
spent_ended b E m budget n part room (Idle left) e s = let z = s.0 in (omega (arith, e, z), s.1)
spent_ended b E m budget n part room Budget e s = (e, s)
