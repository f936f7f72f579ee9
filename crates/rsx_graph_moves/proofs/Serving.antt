-- Where no move of a graph with feeds is enabled, what was asked for was delivered.
use Rattle.rsx_rooted.specs.declared.nodes.Nodes.{Ghosts as Nodes}
use Rattle.rsx_subscriber.proofs.Laws.{Laws}
use Rattle.std.proofs.Common.{◌≡◌, ◌⊎◌, inl, inr, ℕ, zero, suc, ◌-◌, Bool, true, false, ◌||◌, List, [], ◌∷◌, Option, Some, None, slice_get, refl, sym, ap, ◌∙◌, arith}
use Rattle.rsx_graph_state.proofs.Values.{values_of}
use Rattle.rsx_graph_state.specs.Prelude.{History, Rows, StandsFor, AllServed, HasGotAll, AllStand, enabled_at, Subscription}
use Rattle.rsx_graph_state.proofs.Graphs.{past_first, suc_less}
use Rattle.rsx_pipe.proofs.Signals.{some_same}
use Rattle.rsx_subscriber.specs.Prelude.{values_then, HasReadAll, route_below, IsNumbered, delivery, inside_node, tree_of, Past, IsQuiet, Stands, move_enabled_in, take_enabled, Inputs, End, More', Node}
use Rattle.rsx_pipe.specs.Part as Part
use Rattle.rsx_sources.specs.Prelude.{Reading, Meaning, Stream, Move, Ask, Send, Take, Pick, Row, Accept, SubId, Sub}
use Rattle.rsx_sources.specs.declared.machine.Machine.{Ghosts as Machine}
use Rattle.rsx_subscriber.proofs.Moves.{part_name, part_named}
use Rattle.rsx_subscriber.proofs.Names.{numbered_name}
use Rattle.rsx_subscriber.proofs.Serving.{served}
use Rattle.rsx_tree.specs.Prelude.{is_live, IsReadAt, IsRowReadAt, IsTreeReadAt, HasReadAll as HasNodeReadAll, HaveReadAll, NothingBehind, TreeHasReadAll}
use Rattle.rsx_graph_moves.specs.Moves.{enabled_in_tree, is_enabled}
use Rattle.rsx_graph_moves.specs.Pumped.{IsAllQuiet}
use Rattle.rsx_graph_moves.specs.Served.{IsServed}

enabled_got : {M T : Type 0} (mc : Machine M T) (kd : Nodes M T) (m : Meaning T) (subs : List (Subscription M T)) (i : ℕ) (sub : Subscription M T) (mv : Move) → slice_get subs i ≡ Some sub → enabled_at mc kd m subs i mv ≡ move_enabled_in mc kd m sub mv
enabled_got mc kd m [] i sub mv e = cc
enabled_got mc kd m (s ∷ subs) zero sub mv e = ap (λ t. move_enabled_in mc kd m t mv) (some_same s sub e)
enabled_got mc kd m (s ∷ subs) (suc i) sub mv e = past_first (move_enabled_in mc kd m s mv) (enabled_at mc kd m subs (suc i - 1) mv) i ∙ (ap (λ k. enabled_at mc kd m subs k mv) (suc_less i) ∙ enabled_got mc kd m subs i sub mv e)

-- a move in the tree of a subscription is enabled where it is so there
in_tree : {M T : Type 0} (mc : Machine M T) (kd : Nodes M T) (m : Meaning T) (g : Rows M T) (i : SubId) (mv : Move) → tree_of mv ≡ Sub i → is_enabled mc kd m g mv ≡ enabled_at mc kd m g.subs i.0 mv
in_tree mc kd m g i (Ask t n) e = ap (λ k. enabled_in_tree mc kd m g k (Ask t n)) e
in_tree mc kd m g i (Send t n) e = ap (λ k. enabled_in_tree mc kd m g k (Send t n)) e
in_tree mc kd m g i (Take t n) e = ap (λ k. enabled_in_tree mc kd m g k (Take t n)) e
in_tree mc kd m g i (Pick t n input) e = ap (λ k. enabled_in_tree mc kd m g k (Pick t n input)) e
in_tree mc kd m g i (Row t n) e = ap (λ k. enabled_in_tree mc kd m g k (Row t n)) e
in_tree mc kd m g i (Accept h) e = cc

not_on : (b : Bool) → (b ≡ true → ⊥) → b ≡ false
not_on true h = absurd (h refl)
not_on false h = refl

first_off : (a b : Bool) → a || b ≡ false → a ≡ false
first_off true b e = cc
first_off false b e = refl

quiet_got : {M T : Type 0} (mc : Machine M T) (kd : Nodes M T) (m : Meaning T) (g : Rows M T) (i : ℕ) (sub : Subscription M T) → IsAllQuiet mc kd m g → slice_get g.subs i ≡ Some sub → IsQuiet mc m sub
quiet_got {M} {T} mc kd m g i sub q e = (in_part, first_off (take_enabled sub 0) _ (sym (enabled_got mc kd m g.subs i sub (delivery id) e) ∙ q (delivery id) (omega arith)))
  where
    id : SubId
    id = record { 0 = i }

    off : (mv : Move) → tree_of mv ≡ Sub id → IsNumbered mv → move_enabled_in mc kd m sub mv ≡ false
    off mv own small = sym (enabled_got mc kd m g.subs i sub mv e) ∙ (sym (in_tree mc kd m g id mv own) ∙ q mv small)

    -- each move of the part has a name
    in_part : Part.IsQuiet mc m sub.part (Part.has_room sub.queue)
    in_part step l =
        let named = part_named mc kd m id sub step in
        let none = off (part_name kd id sub.part step) named.tree (numbered_name (route_below kd sub.part (inside_node step)) (Sub id) step l) in
        not_on (Part.move_enabled mc m sub.part (Part.has_room sub.queue) step) (λ can. let on = named.enabled can in cc)

-- ---- a tree that reads no hub

unread : {T : Type 0} (hubs : List (Stream T)) (o : Option Reading) → IsReadAt [] o → NothingBehind o hubs
unread hubs None h r e = cc
unread hubs (Some k) h r e = cc

row_unread : {M T : Type 0} (b : Machine M T) (m : Meaning T) (hubs : List (Stream T)) (t : Inputs M) → IsRowReadAt b [] t → HaveReadAll b m hubs t
row_unread b m hubs End h = tt
row_unread {M} b m hubs (More' e n p below q beside) h = (λ live. first live h.0 (λ w. row_unread b m hubs below w), row_unread b m hubs beside h.1)
  where
    both : (c : Bool) → c ≡ true → c ≡ false → ⊥
    both c x y = cc

    first : is_live e.state ≡ true → (is_live e.state ≡ false) ⊎ (IsReadAt [] (b.reads n) × IsRowReadAt b [] below) → (IsRowReadAt b [] below → HaveReadAll b m hubs below) → HasNodeReadAll b m hubs n e.demand.asked e.demand.sent × HaveReadAll b m hubs below
    first live k deeper = elim k [ inl dead ↦ absurd (both (is_live e.state) live dead) | inr w ↦ ((λ _ _ _. unread hubs (b.reads n) w.0), deeper w.1) ]

tree_unread : {M T : Type 0} (b : Machine M T) (m : Meaning T) (hubs : List (Stream T)) (t : Node M) (asked sent : ℕ) → IsTreeReadAt b [] t → TreeHasReadAll b m hubs t asked sent
tree_unread b m hubs t asked sent h = ((λ _ _ _. unread hubs (b.reads t.machine) h.0), row_unread b m hubs t.inputs h.1)

got_all : {M T : Type 0} (mc : Machine M T) (m : Meaning T) (taken hubs : List (Stream T)) (s : Subscription M T) (p : Past T) → Stands mc m taken s p → HasGotAll mc m hubs s p → HasReadAll mc m hubs s.part
got_all mc m taken hubs s p h (inl alone) = λ live. tree_unread mc m hubs s.part.tree s.part.root.demand.asked s.part.root.demand.sent (h.part.alone live alone)
got_all mc m taken hubs s p h (inr read) = read

-- ---- idle means delivered

each_served : {M T : Type 0} (mc : Machine M T) (lw : Laws mc) (m : Meaning T) (taken waiting : List (Stream T)) (subs : List (Subscription M T)) (pasts : List (Past T)) → ((i : ℕ) (s : Subscription M T) → slice_get subs i ≡ Some s → IsQuiet mc m s) → AllStand mc m taken subs pasts → AllServed mc m (values_then taken waiting) subs pasts
each_served mc lw m taken waiting [] [] q h = tt
each_served mc lw m taken waiting (s ∷ ss) (p ∷ ps) q h = ((λ live got within v e. served mc lw m taken s p (q 0 s refl) h.0 live within waiting v (got_all mc m taken (values_then taken waiting) s p h.0 got) e), each_served mc lw m taken waiting ss ps (λ i t e. q (suc i) t e) h.1)
each_served mc lw m taken waiting [] (p ∷ ps) q h = absurd h
each_served mc lw m taken waiting (s ∷ ss) [] q h = absurd h

pub rows_served : {M T : Type 0} (mc : Machine M T) (kd : Nodes M T) (lw : Laws mc) (m : Meaning T) (g : Rows M T) (h : History T) → StandsFor mc m g h → IsAllQuiet mc kd m g → IsServed mc m g h
rows_served mc kd lw m g h s q =
    let r = values_of mc lw m g h s in
    record { published = values_then s.taken r.rest; values = r.values; all = each_served mc lw m s.taken r.rest g.subs h.pasts (λ i t e. quiet_got mc kd m g i t q e) s.all }
