-- What single calls of a graph add to what has happened.
use Rattle.std.proofs.Common.{◌≡◌, ◌||◌, ℕ, zero, suc, ◌+◌, ◌≤◌, Bool, true, false, if◌then◌else◌, nat_eq, List, [], ◌∷◌, ◌++◌, map, refl, ap, sym, ◌∙◌, arith, eq-eqb, Option, None}
use Rattle.std.specs.Option.{option_to_list}
use Rattle.std.proofs.lemmas.Bool.{eqb-true, ne_eqb}
use Rattle.std.proofs.lemmas.Grind.{flat_map-append}
use Rattle.rsx_demand.specs.Demand.{saturating_total}
use Rattle.rsx_demand.specs.declared.TheConstants.{UNBOUNDED}
use Rattle.rsx_types.specs.Meaning.{Meaning}
use Rattle.rsx_types.specs.declared.names.HubId.{HubId}
use Rattle.rsx_types.specs.declared.names.Move.{Move}
use Rattle.rsx_types.specs.declared.names.Move.TheVariants.{Accept, Ask, Pick, Row, Send, Take}
use Rattle.rsx_types.specs.declared.names.SubId.{SubId}
use Rattle.rsx_types.specs.declared.names.Tree.{Tree}
use Rattle.rsx_types.specs.declared.names.Tree.TheVariants.{Sub, Feed as FeedOf}
use Rattle.rsx_types.specs.declared.signal.Signal.{Signal}
use Rattle.rsx_subscriber.specs.Stands.{IsMadeAnswer}
use Rattle.rsx_graph.specs.Rows.{History, LeadTo, Made, Rows, after_move, after_moves, delivered_by}
use Rattle.rsx_serialized.specs.Events.{Event, after_events, asked_in, delivered_in, given_in, in_tree, moved, published_in, signal_for, signals_for, stopped_in}
use Rattle.rsx_serialized.specs.Told.{asks, publishes, stops}

-- ---- moves

pub moves_after : {T : Type 0} (h : History T) (ds : List (Made T)) → after_events h (map moved ds) ≡ after_moves h ds
moves_after h [] = refl
moves_after h (d ∷ ds) = moves_after (after_move h d) ds

tree_given : {T : Type 0} (t : Tree) (o : Option (SubId × Signal T)) → o ≡ None → in_tree t o ≡ o
tree_given (Sub i) o e = refl
tree_given (FeedOf i) o e = sym e

pub answer_given : {T : Type 0} (mv : Move) (o : Option (SubId × Signal T)) → IsMadeAnswer mv o → delivered_in mv o ≡ o
answer_given (Ask t n) o e = tree_given t o e
answer_given (Send t n) o e = tree_given t o e
answer_given (Take (Sub i) n) o e = refl
answer_given (Take (FeedOf h) n) o e = sym e
answer_given (Pick t n i) o e = tree_given t o e
answer_given (Row t n) o e = tree_given t o e
answer_given (Accept h) o e = sym e

pub moves_given : {T : Type 0} (m : Meaning T) (old new : Rows T) (ds : List (Made T)) (k : ℕ) → LeadTo m old ds new → given_in k (map moved ds) ≡ signals_for k (delivered_by ds)
moves_given m old new [] k l = refl
moves_given m old new (d ∷ ds) k l =
    let e = answer_given d.move d.delivered l.1.answer in
    ap (λ o. signals_for k (option_to_list o) ++ given_in k (map moved ds)) e
    ∙ (ap (λ r. signals_for k (option_to_list d.delivered) ++ r) (moves_given m l.0 new ds k l.2) ∙ sym (flat_map-append (signal_for k) (option_to_list d.delivered) (delivered_by ds)))

pub moves_published : {T : Type 0} (ds : List (Made T)) (k : ℕ) → published_in k (map moved ds) ≡ []
moves_published [] k = refl
moves_published (d ∷ ds) k = moves_published ds k

pub moves_asked : {T : Type 0} (ds : List (Made T)) (k n : ℕ) → asked_in k n (map moved ds) ≡ n
moves_asked [] k n = refl
moves_asked (d ∷ ds) k n = moves_asked ds k n

pub moves_stopped : {T : Type 0} (ds : List (Made T)) (k : ℕ) → stopped_in k (map moved ds) ≡ false
moves_stopped [] k = refl
moves_stopped (d ∷ ds) k = moves_stopped ds k

-- ---- what is told of a subscriber

abbrev pub told : {T : Type 0} → SubId → ℕ → Bool → List (Event T)
told i n s = asks i n ++ stops i s

pub choose_true : {A : Type 0} (b : Bool) (x y : A) → b ≡ true → (if b then x else y) ≡ x
choose_true true x y e = refl
choose_true false x y e = cc

pub choose_false : {A : Type 0} (b : Bool) (x y : A) → b ≡ false → (if b then x else y) ≡ y
choose_false true x y e = cc
choose_false false x y e = refl

pub told_published : (T : Type 0) (i : SubId) (n : ℕ) (s : Bool) (k : ℕ) → published_in k (told {T = T} i n s) ≡ []
told_published T i zero true k = refl
told_published T i zero false k = refl
told_published T i (suc n) true k = refl
told_published T i (suc n) false k = refl

pub told_given : (T : Type 0) (i : SubId) (n : ℕ) (s : Bool) (k : ℕ) → given_in k (told {T = T} i n s) ≡ []
told_given T i zero true k = refl
told_given T i zero false k = refl
told_given T i (suc n) true k = refl
told_given T i (suc n) false k = refl

-- the sum stays within the bound
within : (total n : ℕ) → total + n ≤ UNBOUNDED → saturating_total total n ≡ total + n
within total n le = omega arith

pub told_asked : (T : Type 0) (i : SubId) (n : ℕ) (s : Bool) (total : ℕ) → total + n ≤ UNBOUNDED → asked_in i.0 total (told {T = T} i n s) ≡ total + n
told_asked T i zero true total le = omega arith
told_asked T i zero false total le = omega arith
told_asked T i (suc n) true total le = choose_true (nat_eq i.0 i.0) (saturating_total total (suc n)) total (eq-eqb i.0 i.0 refl) ∙ within total (suc n) le
told_asked T i (suc n) false total le = choose_true (nat_eq i.0 i.0) (saturating_total total (suc n)) total (eq-eqb i.0 i.0 refl) ∙ within total (suc n) le

pub told_others : (T : Type 0) (i : SubId) (n : ℕ) (s : Bool) (k total : ℕ) → (i.0 ≡ k → ⊥) → asked_in k total (told {T = T} i n s) ≡ total
told_others T i zero true k total apart = refl
told_others T i zero false k total apart = refl
told_others T i (suc n) true k total apart = choose_false (nat_eq i.0 k) (saturating_total total (suc n)) total (ne_eqb i.0 k apart)
told_others T i (suc n) false k total apart = choose_false (nat_eq i.0 k) (saturating_total total (suc n)) total (ne_eqb i.0 k apart)

or_none : (b : Bool) → (b || false) ≡ true → b ≡ true
or_none true e = refl
or_none false e = cc

or_true : (b : Bool) → b ≡ true → (b || false) ≡ true
or_true true e = refl
or_true false e = cc

pub told_stopped : (T : Type 0) (i : SubId) (n : ℕ) (s : Bool) (k : ℕ) → stopped_in k (told {T = T} i n s) ≡ true → (i.0 ≡ k) × (s ≡ true)
told_stopped T i zero true k e = (eqb-true i.0 k (or_none (nat_eq i.0 k) e), refl)
told_stopped T i zero false k e = cc
told_stopped T i (suc n) true k e = (eqb-true i.0 k (or_none (nat_eq i.0 k) e), refl)
told_stopped T i (suc n) false k e = cc

pub told_stops : (T : Type 0) (i : SubId) (n : ℕ) (s : Bool) (k : ℕ) → i.0 ≡ k → s ≡ true → stopped_in k (told {T = T} i n s) ≡ true
told_stops T i zero true k e h = or_true (nat_eq i.0 k) (eq-eqb i.0 k e)
told_stops T i (suc n) true k e h = or_true (nat_eq i.0 k) (eq-eqb i.0 k e)
told_stops T i n false k e h = cc

-- ---- what is published

pub publishes_here : {T : Type 0} (h : HubId) (ss : List (Signal T)) (k : ℕ) → h.0 ≡ k → published_in k (publishes h ss) ≡ ss
publishes_here h [] k e = refl
publishes_here h (s ∷ ss) k e = ap (λ l. l ++ published_in k (publishes h ss)) (choose_true (nat_eq h.0 k) (s ∷ []) [] (eq-eqb h.0 k e)) ∙ ap (λ l. s ∷ l) (publishes_here h ss k e)

pub publishes_elsewhere : {T : Type 0} (h : HubId) (ss : List (Signal T)) (k : ℕ) → (h.0 ≡ k → ⊥) → published_in k (publishes h ss) ≡ []
publishes_elsewhere h [] k e = refl
publishes_elsewhere h (s ∷ ss) k e = ap (λ l. l ++ published_in k (publishes h ss)) (choose_false (nat_eq h.0 k) (s ∷ []) [] (ne_eqb h.0 k e)) ∙ publishes_elsewhere h ss k e

pub publishes_given : {T : Type 0} (h : HubId) (ss : List (Signal T)) (k : ℕ) → given_in k (publishes h ss) ≡ []
publishes_given h [] k = refl
publishes_given h (s ∷ ss) k = publishes_given h ss k

pub publishes_asked : {T : Type 0} (h : HubId) (ss : List (Signal T)) (k n : ℕ) → asked_in k n (publishes h ss) ≡ n
publishes_asked h [] k n = refl
publishes_asked h (s ∷ ss) k n = publishes_asked h ss k n

pub publishes_stopped : {T : Type 0} (h : HubId) (ss : List (Signal T)) (k : ℕ) → stopped_in k (publishes h ss) ≡ false
publishes_stopped h [] k = refl
publishes_stopped h (s ∷ ss) k = publishes_stopped h ss k

-- ---- what is sent

pub sent_here : {T : Type 0} (d : SubId × Signal T) (ds : List (SubId × Signal T)) (k : ℕ) → d.0.0 ≡ k → signals_for k (d ∷ ds) ≡ (d.1 ∷ []) ++ signals_for k ds
sent_here d ds k e = ap (λ l. l ++ signals_for k ds) (choose_true (nat_eq d.0.0 k) (d.1 ∷ []) [] (eq-eqb d.0.0 k e))

pub sent_elsewhere : {T : Type 0} (d : SubId × Signal T) (ds : List (SubId × Signal T)) (k : ℕ) → (d.0.0 ≡ k → ⊥) → signals_for k (d ∷ ds) ≡ signals_for k ds
sent_elsewhere d ds k e = ap (λ l. l ++ signals_for k ds) (choose_false (nat_eq d.0.0 k) (d.1 ∷ []) [] (ne_eqb d.0.0 k e))
