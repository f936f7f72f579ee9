-- What is so of a subscriber that waits.
use Rattle.std.proofs.Common.{◌≡◌, inl, inr, ap, arith, Bool, true, ◌||◌, ◌-◌, ℕ, zero, suc, false, List, [], ◌∷◌, Option, None, Some, slice_get, refl, sym, subst, ◌∙◌}
use Rattle.std.specs.Prelude.{OnSome}
use Rattle.std.proofs.lemmas.Bool.{both_ways}
use Rattle.rsx_sources.specs.Prelude.{Accept, Ask, Meaning, Move, Pick, Row, Send, Stream, Sub, SubId, Take}
use Rattle.rsx_pipe.specs.Part as Part
use Rattle.rsx_subscriber.proofs.Moves.{part_name, part_named}
use Rattle.rsx_subscriber.proofs.Names.{numbered_name}
use Rattle.rsx_graph_state.proofs.Graphs.{past_first, suc_less}
use Rattle.rsx_sources.specs.declared.machine.Machine.{Ghosts as Machine}
use Rattle.rsx_rooted.specs.declared.nodes.Nodes.{Ghosts as Nodes}
use Rattle.rsx_subscriber.specs.Prelude.{IsAwake, IsNumbered, IsQuiet, IsWithin, Past, Stands, delivery, inside_node, move_enabled_in, route_below, standing_of, take_enabled, tree_of}
use Rattle.rsx_subscriber.specs.declared.state.SubscriptionState.TheVariants.{Open}
use Rattle.rsx_graph_state.specs.Prelude.{AllStand, History, Rows, StandsFor, Subscription, enabled_at}
use Rattle.rsx_graph_moves.specs.Moves.{enabled_in_tree, is_enabled}
use Rattle.rsx_graph_moves.specs.Pumped.{IsAllQuiet}
use Rattle.rsx_graph_moves.specs.Explained.{IsWait, is_for_pump}
use Rattle.rsx_waits.specs.declared.wait.HubWait.TheVariants as hub_wait
use Rattle.rsx_waits.specs.declared.wait.Wait.{Wait}
use Rattle.rsx_waits.specs.declared.wait.Wait.TheVariants.{Ended, Cancelled, Refused, Enabled, Request, Hub, Unknown}

enabled_got : {M T : Type 0} (mc : Machine M T) (kd : Nodes M T) (m : Meaning T) (subs : List (Subscription M T)) (i : ℕ) (sub : Subscription M T) (mv : Move) → slice_get subs i ≡ Some sub → enabled_at mc kd m subs i mv ≡ move_enabled_in mc kd m sub mv
enabled_got mc kd m [] i sub mv e = cc
enabled_got mc kd m (s ∷ subs) zero sub mv e = let same : s ≡ sub = cc in ap (λ t. move_enabled_in mc kd m t mv) same
enabled_got mc kd m (s ∷ subs) (suc i) sub mv e = past_first (move_enabled_in mc kd m s mv) (enabled_at mc kd m subs (suc i - 1) mv) i ∙ (ap (λ k. enabled_at mc kd m subs k mv) (suc_less i) ∙ enabled_got mc kd m subs i sub mv e)

-- a move in the tree of a subscription is enabled where it is so there
in_tree : {M T : Type 0} (mc : Machine M T) (kd : Nodes M T) (m : Meaning T) (g : Rows M T) (i : SubId) (mv : Move) → tree_of mv ≡ Sub i → is_enabled mc kd m g mv ≡ enabled_at mc kd m g.subs i.0 mv
in_tree mc kd m g i (Ask t n) e = ap (λ k. enabled_in_tree mc kd m g k (Ask t n)) e
in_tree mc kd m g i (Send t n) e = ap (λ k. enabled_in_tree mc kd m g k (Send t n)) e
in_tree mc kd m g i (Take t n) e = ap (λ k. enabled_in_tree mc kd m g k (Take t n)) e
in_tree mc kd m g i (Pick t n input) e = ap (λ k. enabled_in_tree mc kd m g k (Pick t n input)) e
in_tree mc kd m g i (Row t n) e = ap (λ k. enabled_in_tree mc kd m g k (Row t n)) e
in_tree mc kd m g i (Accept h) e = cc

not_on : (b : Bool) → (b ≡ true → ⊥) → b ≡ false
not_on true h = absurd (h refl)
not_on false h = refl

first_off : (a b : Bool) → a || b ≡ false → a ≡ false
first_off true b e = cc
first_off false b e = refl

-- a subscription of a graph in which no move is enabled
quiet_got : {M T : Type 0} (mc : Machine M T) (kd : Nodes M T) (m : Meaning T) (g : Rows M T) (i : ℕ) (sub : Subscription M T) → IsAllQuiet mc kd m g → slice_get g.subs i ≡ Some sub → IsQuiet mc m sub
quiet_got {M} {T} mc kd m g i sub q e = (in_part, first_off (take_enabled sub 0) _ (sym (enabled_got mc kd m g.subs i sub (delivery id) e) ∙ q (delivery id) (omega arith)))
  where
    id : SubId
    id = record { 0 = i }

    off : (mv : Move) → tree_of mv ≡ Sub id → IsNumbered mv → move_enabled_in mc kd m sub mv ≡ false
    off mv own small = sym (enabled_got mc kd m g.subs i sub mv e) ∙ (sym (in_tree mc kd m g id mv own) ∙ q mv small)

    -- each move of the part has a name
    in_part : Part.IsQuiet mc m sub.part (Part.has_room sub.queue)
    in_part step l =
        let named = part_named mc kd m id sub step in
        let none = off (part_name kd id sub.part step) named.tree (numbered_name (route_below kd sub.part (inside_node step)) (Sub id) step l) in
        not_on (Part.move_enabled mc m sub.part (Part.has_room sub.queue) step) (λ can. let on = named.enabled can in cc)

never_awake : {M T : Type 0} (mc : Machine M T) (m : Meaning T) (s : Subscription M T) → IsQuiet mc m s → IsAwake mc m s → ⊥
never_awake mc m s q a = elim a [
  | inl k ↦ both_ways (Part.move_enabled mc m s.part (Part.has_room s.queue) k.0) (q.0 k.0 k.1) k.2
  | inr k ↦ both_ways (take_enabled s 0) q.1 k
]

-- where no move of the graph is enabled, it doesn't wait for a pump
pub never_for_pump : {M T : Type 0} (mc : Machine M T) (kd : Nodes M T) (m : Meaning T) (g : Rows M T) (i : SubId) (wait : Wait) → IsAllQuiet mc kd m g → IsWait mc kd m g i wait → is_for_pump wait ≡ false
never_for_pump mc kd m g i Ended q w = refl
never_for_pump mc kd m g i Cancelled q w = refl
never_for_pump mc kd m g i Refused q w = refl
never_for_pump mc kd m g i (Enabled move) q w = let k = w.wait in absurd (never_awake mc m w.sub (quiet_got mc kd m g i.0 w.sub q w.there) k.1)
never_for_pump mc kd m g i (Request count) q w = refl
never_for_pump mc kd m g i (Hub node hub hub_wait.Nothing) q w = refl
never_for_pump mc kd m g i (Hub node hub hub_wait.Feed) q w = refl
never_for_pump mc kd m g i (Hub node hub (hub_wait.Enabled move)) q w = let k = w.wait.why.why in absurd (both_ways (is_enabled mc kd m g move) (q move k.0) k.2)
never_for_pump mc kd m g i (Hub node hub (hub_wait.HeldBy tree)) q w = refl
never_for_pump mc kd m g i Unknown q w = refl

one_stands : {M T : Type 0} (mc : Machine M T) (m : Meaning T) (published : List (Stream T)) (subs : List (Subscription M T)) (pasts : List (Past T)) (i : ℕ) (s : Subscription M T) → AllStand mc m published subs pasts → slice_get subs i ≡ Some s → (past : Past T) × Stands mc m published s past
one_stands mc m published [] pasts i s all e = cc
one_stands mc m published (x ∷ xs) [] i s all e = absurd all
one_stands mc m published (x ∷ xs) (p ∷ ps) zero s all e = let same : x ≡ s = cc in (p, subst (λ y. Stands mc m published y p) same all.0)
one_stands mc m published (x ∷ xs) (p ∷ ps) (suc i) s all e = one_stands mc m published xs ps i s all.1 e

-- where the graph stands for a history, and no edge of its tree has carried 2^63-1 items, it is known for what it waits
pub always_known : {M T : Type 0} (mc : Machine M T) (kd : Nodes M T) (m : Meaning T) (g : Rows M T) (h : History T) (i : SubId) (s : Subscription M T) (wait : Wait) → StandsFor mc m g h → slice_get g.subs i.0 ≡ Some s → IsWithin s.part.tree → IsWait mc kd m g i wait → wait ≡ Unknown → ⊥
always_known {M} {T} mc kd m g h i s Unknown stands there within w e =
    let same : w.sub ≡ s = some_same w.sub s (sym w.there ∙ there) in
    let one = one_stands mc m stands.taken g.subs h.pasts i.0 w.sub stands.all w.there in
    w.wait.never stands.taken one.0 (stands.each ∙ sym stands.many) one.1 (subst (λ y. IsWithin y.part.tree) (sym same) within)
  where
    some_same : {A : Type 0} (x y : A) → Some x ≡ Some y → x ≡ y
    some_same x y e = cc
always_known mc kd m g h i s Ended stands there within w e = cc
always_known mc kd m g h i s Cancelled stands there within w e = cc
always_known mc kd m g h i s Refused stands there within w e = cc
always_known mc kd m g h i s (Enabled move) stands there within w e = cc
always_known mc kd m g h i s (Request count) stands there within w e = cc
always_known mc kd m g h i s (Hub node hub why) stands there within w e = cc

-- a move of an open subscription
pub awake_there : {M T : Type 0} (mc : Machine M T) (kd : Nodes M T) (m : Meaning T) (g : Rows M T) (i : SubId) (s : Subscription M T) (mv : Move) → slice_get g.subs i.0 ≡ Some s → standing_of s ≡ Open → IsAwake mc m s → tree_of mv ≡ Sub i → move_enabled_in mc kd m s mv ≡ true → IsWait mc kd m g i (Enabled mv)
awake_there mc kd m g i s mv there o awake tree can = record {
  sub = s;
  there = there;
  wait = (o, awake, tree, in_tree mc kd m g i mv tree ∙ (enabled_got mc kd m g.subs i.0 s mv there ∙ can));
}

-- what is so is so where there is something
pub on_some : {A P : Type 0} (o : Option A) → P → OnSome o P
on_some None p = tt
on_some (Some a) p = p
