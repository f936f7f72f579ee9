-- What has happened to a graph that is moved between links, call by call.
use Rattle.std.specs.Prelude.{⊤, ℕ, pos, suc, ◌<◌, Bool, false, ◌||◌, nat_eq, if◌then◌else◌, List, [], ◌∷◌, Option, None}
use Rattle.std.specs.List.{flat_map, fold}
use Rattle.std.specs.Option.{option_to_list}
use Rattle.rsx_demand.specs.Demand.{saturating_total}
use Rattle.rsx_graph_calls.specs.Subscribing.{with_subscriber}
use Rattle.rsx_graph.specs.Rows.{History, Made, after_move, with_past, with_published}
use Rattle.rsx_subscriber.specs.Past.{cancelled, requested}
use Rattle.rsx_subscriber.specs.Prelude.{Expr}
use Rattle.rsx_types.specs.declared.names.HubId.{HubId}
use Rattle.rsx_types.specs.declared.names.Move.{Move}
use Rattle.rsx_types.specs.declared.names.Move.TheVariants.{Accept, Ask, Pick, Row, Send, Take}
use Rattle.rsx_types.specs.declared.names.SubId.{SubId}
use Rattle.rsx_types.specs.declared.names.Tree.{Tree}
use Rattle.rsx_types.specs.declared.names.Tree.TheVariants.{Sub, Feed as FeedOf}
use Rattle.rsx_types.specs.declared.signal.Signal.{Signal}

-- a move was made; a signal was published at a hub; so many items and one more were requested for a subscriber; it was cancelled; an
-- expression was subscribed to
pub data Event (T : Type 0) : Type 0 where
  moved : Made T → Event T
  published : HubId → Signal T → Event T
  asked : SubId → ℕ → Event T
  stopped : SubId → Event T
  subscribed : Expr T → Event T

module _ {T : Type 0} where
  -- the history after one of them
  abbrev pub after_event : History T → Event T → History T
  after_event h (moved d) = after_move h d
  after_event h (published k s) = with_published s k h
  after_event h (asked i n) = with_past (requested (pos (suc n))) i h
  after_event h (stopped i) = with_past cancelled i h
  after_event h (subscribed e) = with_subscriber e h

  -- after all of them
  abbrev pub after_events : History T → List (Event T) → History T
  after_events h es = fold after_event h es

  -- ---- what was published at a hub

  abbrev pub published_by : ℕ → Event T → List (Signal T)
  published_by k (moved d) = []
  published_by k (published j s) = if nat_eq j.0 k then s ∷ [] else []
  published_by k (asked i n) = []
  published_by k (stopped i) = []
  published_by k (subscribed e) = []

  abbrev pub published_in : ℕ → List (Event T) → List (Signal T)
  published_in k es = flat_map (published_by k) es

  -- ---- what was delivered to a subscriber

  abbrev pub signal_for : ℕ → SubId × Signal T → List (Signal T)
  signal_for k d = if nat_eq d.0.0 k then d.1 ∷ [] else []

  -- a move in the tree of a feed delivers nothing, and an Accept neither
  abbrev pub in_tree : Tree → Option (SubId × Signal T) → Option (SubId × Signal T)
  in_tree (Sub i) o = o
  in_tree (FeedOf i) o = None

  abbrev pub delivered_in : Move → Option (SubId × Signal T) → Option (SubId × Signal T)
  delivered_in (Ask t n) o = in_tree t o
  delivered_in (Send t n) o = in_tree t o
  delivered_in (Take t n) o = in_tree t o
  delivered_in (Pick t n i) o = in_tree t o
  delivered_in (Row t n) o = in_tree t o
  delivered_in (Accept i) o = None

  -- those of these deliveries that are for this subscriber
  abbrev pub signals_for : ℕ → List (SubId × Signal T) → List (Signal T)
  signals_for k ds = flat_map (signal_for k) ds

  abbrev pub given_by : ℕ → Event T → List (Signal T)
  given_by k (moved d) = signals_for k (option_to_list (delivered_in d.move d.delivered))
  given_by k (published j s) = []
  given_by k (asked i n) = []
  given_by k (stopped i) = []
  given_by k (subscribed e) = []

  abbrev pub given_in : ℕ → List (Event T) → List (Signal T)
  given_in k es = flat_map (given_by k) es

  -- ---- what was asked for, and who was cancelled

  abbrev pub asked_by : ℕ → ℕ → Event T → ℕ
  asked_by k total (moved d) = total
  asked_by k total (published j s) = total
  asked_by k total (asked i n) = if nat_eq i.0 k then saturating_total total (suc n) else total
  asked_by k total (stopped i) = total
  asked_by k total (subscribed e) = total

  -- what a subscriber has asked for, where it had asked for so much before
  abbrev pub asked_in : ℕ → ℕ → List (Event T) → ℕ
  asked_in k total es = fold (asked_by k) total es

  abbrev pub stopped_by : ℕ → Event T → Bool
  stopped_by k (moved d) = false
  stopped_by k (published j s) = false
  stopped_by k (asked i n) = false
  stopped_by k (stopped i) = nat_eq i.0 k
  stopped_by k (subscribed e) = false

  -- whether a subscriber was cancelled
  abbrev pub stopped_in : ℕ → List (Event T) → Bool
  stopped_in k [] = false
  stopped_in k (e ∷ es) = stopped_by k e || stopped_in k es

  -- ---- what was subscribed to

  abbrev pub subscribed_by : Event T → List (Expr T)
  subscribed_by (moved d) = []
  subscribed_by (published j s) = []
  subscribed_by (asked i n) = []
  subscribed_by (stopped i) = []
  subscribed_by (subscribed e) = e ∷ []

  -- the expressions, in the order of their subscriptions
  abbrev pub subscribed_in : List (Event T) → List (Expr T)
  subscribed_in es = flat_map subscribed_by es

  -- ---- which subscriptions were there

  -- each of these goes to one of so many subscriptions
  abbrev pub AreFor : ℕ → List (SubId × Signal T) → Type 0
  AreFor n [] = ⊤
  AreFor n (d ∷ ds) = (d.0.0 < n) × AreFor n ds

  -- What is delivered, asked for and cancelled is so for subscriptions that are there by then, where so many were there at first.
  abbrev pub AreKnown : ℕ → List (Event T) → Type 0
  AreKnown n [] = ⊤
  AreKnown n (moved d ∷ es) = AreFor n (option_to_list (delivered_in d.move d.delivered)) × AreKnown n es
  AreKnown n (published j s ∷ es) = AreKnown n es
  AreKnown n (asked i m ∷ es) = (i.0 < n) × AreKnown n es
  AreKnown n (stopped i ∷ es) = (i.0 < n) × AreKnown n es
  AreKnown n (subscribed e ∷ es) = AreKnown (suc n) es
