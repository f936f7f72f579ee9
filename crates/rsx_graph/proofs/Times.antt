-- One move of a graph, made many times: what the graph stands for then, and the hubs that its feeds name.
use Rattle.rsx_kinds.specs.Any.{any_machine}
use Rattle.rsx_kinds.specs.Routes.{tree_nodes}
use Rattle.rsx_graph.specs.Kinds.{Feed, IsMadeTimes, LeadTo, Rows, Subscription}
use Rattle.std.proofs.Common.{◌≡◌, ℕ, ◌≤◌, ◌<◌, List, [], ◌∷◌, length, map, replicate, Result, Ok, Err, IfOk, OnErr, refl, ap, ◌∙◌, subst, arith}
use Rattle.rsx_graph_calls.specs.Edits.{NameHubs}
use Rattle.rsx_graph_moves.proofs.Keeping.{lead_keep}
use Rattle.rsx_graph_moves.specs.Many.{most_of}
use Rattle.rsx_graph_moves.specs.Pumped.{Made}
use Rattle.rsx_graph_state.specs.Prelude.{HubState, rows_of}
use Rattle.rsx_graph_state.specs.declared.refusal.Refusal.{Refusal}
use Rattle.rsx_subscriber.specs.Prelude.{Delivered}
use Rattle.rsx_sources.specs.Prelude.{Meaning, Move, Ask, Send, Take, Pick, Row, Accept}
use Rattle.rsx_graph.specs.Many.{HasMadeTimes}
use Rattle.rsx_graph.specs.Stands.{GraphState}
use Rattle.rsx_graph.proofs.Limits.{moves_keep}
use Rattle.rsx_graph.proofs.Kept.{moved_joins, moved_regions, names_moved, state_with}

-- what the rows promise, of the graph
pub graph_times : {T : Type 0} (m : Meaning T) (mv : Move) (old : GraphState T) (before : Delivered T) (r : Result ℕ Refusal) (new : Rows T) (after : Delivered T) → IfOk r (λ k. IsMadeTimes m mv k old.rows before new after) →
    IfOk r (λ k. HasMadeTimes m mv k old before (record { rows = new; joins = old.joins; feed_joins = old.feed_joins; regions = old.regions }) after)
graph_times m mv old before (Ok k) new after x = record {
  moves = x.moves;
  named = x.named;
  lead = x.made.lead;
  same = (refl, refl, refl);
  stands = λ h s. record { rows = x.made.stands h s.rows; joined = moved_joins m old.rows new x.moves old.joins old.feed_joins h x.made.lead s.joined; placed = moved_regions m old.rows new x.moves old.regions h x.made.lead s.placed; limits = moves_keep m old.rows x.moves new x.made.lead s.limits };
  output = x.output;
}
graph_times m mv old before (Err e) new after x = tt

pub names_times : {T : Type 0} (m : Meaning T) (mv : Move) (old new : Rows T) (before after : Delivered T) (r : Result ℕ Refusal) → IfOk r (λ k. IsMadeTimes m mv k old before new after) → OnErr r ((new.hubs ≡ old.hubs) × (new.feeds ≡ old.feeds) × (new.subs ≡ old.subs) × (after ≡ before)) → length new.hubs ≡ length old.hubs →
    NameHubs (length old.hubs) old.feeds → NameHubs (length new.hubs) new.feeds
names_times m mv old new before after (Ok k) x same count names = names_moved old new (lead_keep any_machine tree_nodes m old x.moves new x.made.lead) count names
names_times m mv old new before after (Err e) x same count names = names_moved old new (ap (map (λ f. f.hub)) same.1) count names

-- ---- where none is wanted

most_none : (mv : Move) → most_of mv 0 ≡ 0
most_none (Ask t at) = refl
most_none (Send t at) = refl
most_none (Take t at) = refl
most_none (Pick t at input) = refl
most_none (Row t at) = refl
most_none (Accept h) = refl

no_moves : {A B : Type 0} (f : A → B) (xs : List A) → map f xs ≡ [] → xs ≡ []
no_moves f [] e = refl
no_moves f (x ∷ xs) e = cc

none_moved : {T : Type 0} (m : Meaning T) (mv : Move) (n k : ℕ) (old new : Rows T) (before after : Delivered T) → n ≡ 0 → k ≤ most_of mv n → IsMadeTimes m mv k old before new after → new ≡ old
none_moved {T} m mv n k old new before after e few x =
    let most : most_of mv n ≡ 0 = ap (most_of mv) e ∙ most_none mv in
    let none : k ≡ 0 = omega (arith, few, most) in
    let P : List (Made T) → Type 0 = λ l. LeadTo m old l new in
    subst P (no_moves (λ d. d.move) x.moves (x.named ∙ ap (λ i. replicate i mv) none)) x.made.lead

pub none_times : {T : Type 0} (m : Meaning T) (mv : Move) (n : ℕ) (old : GraphState T) (hubs : List (HubState T)) (feeds : List (Feed T)) (subs : List (Subscription T)) (before after : Delivered T) (r : Result ℕ Refusal) → IfOk r (λ k. IsMadeTimes m mv k old.rows before (rows_of hubs feeds subs) after) → IfOk r (λ k. (k ≤ most_of mv n) × (0 < n → 0 < k)) → OnErr r ((hubs ≡ old.rows.hubs) × (feeds ≡ old.rows.feeds) × (subs ≡ old.rows.subs) × (after ≡ before)) → (n ≡ 0 → after ≡ before) →
    n ≡ 0 → (state_with hubs feeds subs old.joins old.feed_joins old.regions ≡ old) × (after ≡ before)
none_times {T} m mv n old hubs feeds subs before after (Ok k) x count same out e =
    let with_rows : Rows T → GraphState T = λ g. record { rows = g; joins = old.joins; feed_joins = old.feed_joins; regions = old.regions } in
    (ap with_rows (none_moved m mv n k old.rows (rows_of hubs feeds subs) before after e count.0 x), out e)
none_times m mv n old hubs feeds subs before after (Err why) x count same out e =
    (λ i. state_with (same.0 i) (same.1 i) (same.2 i) old.joins old.feed_joins old.regions, same.3)
