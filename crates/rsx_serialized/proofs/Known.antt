-- Moves deliver to subscriptions that are there.
use Rattle.std.proofs.Common.{◌≡◌, ℕ, zero, suc, ◌+◌, ◌<◌, Bool, true, false, nat_eq, List, [], ◌∷◌, ◌++◌, map, length, refl, ap, sym, ◌∙◌, subst, arith, Option, Some, None}
use Rattle.std.specs.Option.{option_to_list}
use Rattle.std.proofs.lemmas.List.{length-map, length-set}
use Rattle.std.proofs.lemmas.Option.{slice_get_within}
use Rattle.rsx_types.specs.Meaning.{Meaning}
use Rattle.rsx_types.specs.declared.names.HubId.{HubId}
use Rattle.rsx_types.specs.declared.names.Move.{Move}
use Rattle.rsx_types.specs.declared.names.Move.TheVariants.{Accept, Ask, Pick, Row, Send, Take}
use Rattle.rsx_types.specs.declared.names.SubId.{SubId}
use Rattle.rsx_types.specs.declared.names.Tree.TheVariants.{Sub, Feed as FeedOf}
use Rattle.rsx_types.specs.declared.ops.Ops.{Ghosts as Ops}
use Rattle.rsx_types.specs.declared.signal.Signal.{Signal}
use Rattle.rsx_tree.specs.declared.look.NodeMove.{NodeMove}
use Rattle.rsx_subscriber.specs.Stands.{IsMadeAnswer, IsTakeAnswer}
use Rattle.rsx_graph_state.specs.Lists.{AllChanged}
use Rattle.rsx_graph_state.specs.Moves.{is_out}
use Rattle.rsx_graph.specs.InGraph.{state_of}
use Rattle.rsx_graph.specs.Kinds.{IsMadeAt, IsMoved, IsMovedBy, IsMovedInFeed, feed_move}
use Rattle.rsx_graph.specs.Rows.{LeadTo, Made, Rows, delivered_by}
use Rattle.rsx_graph.specs.declared.graph.Graph.{Graph}
use Rattle.rsx_serialized.specs.Events.{AreFor, AreKnown, Event, asked, moved, published, stopped, subscribed, subscribed_in}
use Rattle.rsx_serialized.specs.Told.{publishes}
use Rattle.rsx_serialized.proofs.Steps.{answer_given, told}

pub for_all : {T : Type 0} (n : ℕ) (ds es : List (SubId × Signal T)) → AreFor n ds → AreFor n es → AreFor n (ds ++ es)
for_all n [] es f g = g
for_all n (d ∷ ds) es f g = (f.0, for_all n ds es f.1 g)

changed_length : {X : Type 0} (P : X → X → Type 0) (xs ys : List X) → AllChanged P xs ys → length ys ≡ length xs
changed_length P [] [] h = refl
changed_length P (x ∷ xs) (y ∷ ys) h = ap suc (changed_length P xs ys h.1)
changed_length P [] (y ∷ ys) h = absurd h
changed_length P (x ∷ xs) [] h = absurd h

module _ {T : Type 0} where
  by_length : (m : Meaning T) (step : NodeMove) (out : Bool) (h : ℕ) (old new : Rows T) → IsMovedBy m step out h old new → length new.subs ≡ length old.subs
  by_length m step true h old new x = changed_length _ old.subs new.subs x.effect.handed
  by_length m step false h old new x = ap length x.subs

  feed_length : (m : Meaning T) (move : Option NodeMove) (h : ℕ) (old new : Rows T) → IsMovedInFeed m move h old new → length new.subs ≡ length old.subs
  feed_length m None h old new x = absurd x
  feed_length m (Some step) h old new x = by_length m step (is_out step) h old new x

  made_length : (m : Meaning T) (mv : Move) (i : ℕ) (old new : Rows T) (o : Option (SubId × Signal T)) → IsMadeAt m mv i old.subs new.subs o → length new.subs ≡ length old.subs
  made_length m mv i old new o x = ap length x.others ∙ length-set old.subs i x.new

  moved_length : (m : Meaning T) (mv : Move) (old new : Rows T) (o : Option (SubId × Signal T)) → IsMoved m mv old new o → length new.subs ≡ length old.subs
  moved_length m (Ask (Sub i) n) old new o x = made_length m (Ask (Sub i) n) i.0 old new o x.0
  moved_length m (Send (Sub i) n) old new o x = made_length m (Send (Sub i) n) i.0 old new o x.0
  moved_length m (Take (Sub i) n) old new o x = made_length m (Take (Sub i) n) i.0 old new o x.0
  moved_length m (Pick (Sub i) n k) old new o x = made_length m (Pick (Sub i) n k) i.0 old new o x.0
  moved_length m (Row (Sub i) n) old new o x = made_length m (Row (Sub i) n) i.0 old new o x.0
  moved_length m (Ask (FeedOf h) n) old new o x = feed_length m (feed_move old.feeds h.0 (Ask (FeedOf h) n)) h.0 old new x
  moved_length m (Send (FeedOf h) n) old new o x = feed_length m (feed_move old.feeds h.0 (Send (FeedOf h) n)) h.0 old new x
  moved_length m (Take (FeedOf h) n) old new o x = feed_length m (feed_move old.feeds h.0 (Take (FeedOf h) n)) h.0 old new x
  moved_length m (Pick (FeedOf h) n k) old new o x = feed_length m (feed_move old.feeds h.0 (Pick (FeedOf h) n k)) h.0 old new x
  moved_length m (Row (FeedOf h) n) old new o x = feed_length m (feed_move old.feeds h.0 (Row (FeedOf h) n)) h.0 old new x
  moved_length m (Accept h) old new o x = changed_length _ old.subs new.subs x.effect.handed

  none_for : (n : ℕ) (o : Option (SubId × Signal T)) → o ≡ None → AreFor n (option_to_list o)
  none_for n None e = tt
  none_for n (Some d) e = cc

  take_for : (n : ℕ) (root : Bool) (i : SubId) (o : Option (SubId × Signal T)) → i.0 < n → IsTakeAnswer root i o → AreFor n (option_to_list o)
  take_for n true i o lt (s, e) = subst (λ (x : Option (SubId × Signal T)). AreFor n (option_to_list x)) (sym e) (lt, tt)
  take_for n false i o lt e = none_for n o e

  move_for : (m : Meaning T) (mv : Move) (old new : Rows T) (o : Option (SubId × Signal T)) → IsMoved m mv old new o → IsMadeAnswer mv o → AreFor (length old.subs) (option_to_list o)
  move_for m (Take (Sub i) n) old new o x e = take_for (length old.subs) (nat_eq n.0 0) i o (slice_get_within old.subs i.0 x.0.old x.0.there) e
  move_for m (Take (FeedOf h) n) old new o x e = none_for (length old.subs) o e
  move_for m (Ask t n) old new o x e = none_for (length old.subs) o e
  move_for m (Send t n) old new o x e = none_for (length old.subs) o e
  move_for m (Pick t n k) old new o x e = none_for (length old.subs) o e
  move_for m (Row t n) old new o x e = none_for (length old.subs) o e
  move_for m (Accept h) old new o x e = none_for (length old.subs) o e

  pub moves_for : (m : Meaning T) (n : ℕ) (old new : Rows T) (ds : List (Made T)) → length old.subs ≡ n → LeadTo m old ds new → AreFor n (delivered_by ds)
  moves_for m n old new [] long l = tt
  moves_for m n old new (d ∷ ds) long l =
      let first : AreFor n (option_to_list d.delivered) = subst (λ (k : ℕ). AreFor k (option_to_list d.delivered)) long (move_for m d.move old l.0 d.delivered l.1.effect l.1.answer) in
      for_all n (option_to_list d.delivered) (delivered_by ds) first (moves_for m n l.0 new ds (moved_length m d.move old l.0 d.delivered l.1.effect ∙ long) l.2)

  -- ---- what is said of subscriptions is said of ones that are there

  pub moves_known : (m : Meaning T) (n : ℕ) (old new : Rows T) (ds : List (Made T)) → length old.subs ≡ n → LeadTo m old ds new → AreKnown n (map moved ds)
  moves_known m n old new [] long l = tt
  moves_known m n old new (d ∷ ds) long l =
      let first : AreFor n (option_to_list d.delivered) = subst (λ (k : ℕ). AreFor k (option_to_list d.delivered)) long (move_for m d.move old l.0 d.delivered l.1.effect l.1.answer) in
      (subst (λ (o : Option (SubId × Signal T)). AreFor n (option_to_list o)) (sym (answer_given d.move d.delivered l.1.answer)) first, moves_known m n l.0 new ds (moved_length m d.move old l.0 d.delivered l.1.effect ∙ long) l.2)

  pub moves_subscribed : (ds : List (Made T)) → subscribed_in (map moved ds) ≡ []
  moves_subscribed [] = refl
  moves_subscribed (d ∷ ds) = moves_subscribed ds

  pub publishes_known : (n : ℕ) (h : HubId) (ss : List (Signal T)) → AreKnown n (publishes h ss)
  publishes_known n h [] = tt
  publishes_known n h (s ∷ ss) = publishes_known n h ss

  pub publishes_subscribed : (h : HubId) (ss : List (Signal T)) → subscribed_in (publishes h ss) ≡ []
  publishes_subscribed h [] = refl
  publishes_subscribed h (s ∷ ss) = publishes_subscribed h ss

  -- two lists of things that have happened, one behind the other
  pub known_on : (n : ℕ) (es fs : List (Event T)) → AreKnown n es → AreKnown (n + length (subscribed_in es)) fs → AreKnown n (es ++ fs)
  known_on n [] fs f g =
      let e : n + 0 ≡ n = omega arith in
      subst (λ (k : ℕ). AreKnown k fs) e g
  known_on n (moved d ∷ es) fs f g = (f.0, known_on n es fs f.1 g)
  known_on n (published k s ∷ es) fs f g = known_on n es fs f g
  known_on n (asked i m ∷ es) fs f g = (f.0, known_on n es fs f.1 g)
  known_on n (stopped i ∷ es) fs f g = (f.0, known_on n es fs f.1 g)
  known_on n (subscribed x ∷ es) fs f g =
      let e : n + suc (length (subscribed_in es)) ≡ suc n + length (subscribed_in es) = omega arith in
      known_on (suc n) es fs f (subst (λ (k : ℕ). AreKnown k fs) e g)

pub told_known : (T : Type 0) (n : ℕ) (i : SubId) (m : ℕ) (s : Bool) → i.0 < n → AreKnown n (told {T = T} i m s)
told_known T n i zero true lt = (lt, tt)
told_known T n i zero false lt = tt
told_known T n i (suc m) true lt = (lt, (lt, tt))
told_known T n i (suc m) false lt = (lt, tt)

pub told_subscribed : (T : Type 0) (i : SubId) (m : ℕ) (s : Bool) → subscribed_in (told {T = T} i m s) ≡ []
told_subscribed T i zero true = refl
told_subscribed T i zero false = refl
told_subscribed T i (suc m) true = refl
told_subscribed T i (suc m) false = refl

module _ {O T : Type 0} {b : Ops O T} where
  pub as_many : (g : Graph O T b) → length (state_of g).rows.subs ≡ length (state_of g).joins
  as_many g = sym (length-map g.joins.items (λ v. v.items) ∙ g.joined)
