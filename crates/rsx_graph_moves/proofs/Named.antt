-- The moves of a hub, by their names.
use Rattle.rsx_sources.specs.declared.machine.Machine.{Ghosts as Machine}
use Rattle.rsx_rooted.specs.declared.nodes.Nodes.{Ghosts as Nodes}
use Rattle.std.proofs.Common.{◌≡◌, ℕ, ◌<◌, Bool, true, false, ◌&&◌, nat_eq, if◌then◌else◌, List, [], ◌∷◌, length, slice_get, Option, Some, None, option_map, is_some, is_none, zero, suc, refl, ap, sym, ◌∙◌, subst, arith}
use Rattle.rsx_graph_state.specs.Prelude.{History, IsFeedMoved, accepts_at, accepts_in, feed_enabled, has_feed, is_out, sends, sends_where, sent_by, works, works_where, with_made, with_moved, with_sent, Rows, feed_of, place_of, HubState, waiting, all_have_room, can_accept, can_feed, can_feed_at, can_feed_of, takes_next, Subscription}
use Rattle.rsx_subscriber.specs.Prelude.{route, IsQuietInside, inside_enabled, next_out, IsNumbered, delivery, inside_node, node_move, node_of, tree_of, IsMadeAnswer, NodeMove, Ask as NodeAsk, Send as NodeSend, Pick as NodePick, Row as NodeRow}
use Rattle.rsx_pipe.specs.Part as Part
use Rattle.rsx_graph_state.specs.declared.feed.Feed.{Feed}
use Rattle.rsx_subscriber.proofs.Names.{name_move, name_node, name_tree, numbered_inside}
use Rattle.rsx_sources.specs.Prelude.{Meaning, HubId, Move, Ask, Send, Take, Pick, Row, Accept, NodeId, SubId, Tree, Sub, Feed as FeedOf, Signal, front_of}
use Rattle.rsx_sources.specs.declared.machine.Front.{Front}
use Rattle.rsx_graph_state.proofs.Calls.{accepts_there}
use Rattle.rsx_graph_state.proofs.Places.{unfed_there}
use Rattle.rsx_graph_state.proofs.Ready.{none_ready}
use Rattle.rsx_graph_moves.specs.Moves.{IsMoved, IsMovedInFeed, IsMovedInTree, enabled_in_tree, feed_move, feed_move_enabled, is_enabled, move_in, name_in, sent, sent_by_feed, sent_in_tree}
use Rattle.rsx_graph_moves.specs.Pumped.{IsHubQuiet}

-- ---- a move of a feed, by its names

no_accept : {M T : Type 0} (kd : Nodes M T) (o : Option (Feed M)) (i : HubId) → move_in kd o (Accept i) ≡ None
no_accept kd None i = refl
no_accept kd (Some f) i = refl

pub enabled_named : {M T : Type 0} (mc : Machine M T) (kd : Nodes M T) (m : Meaning T) (g : Rows M T) (h : HubId) (inside : NodeMove) (mv : Move) → tree_of mv ≡ FeedOf h → feed_move kd g.feeds h.0 mv ≡ Some inside → is_enabled mc kd m g mv ≡ feed_enabled mc m g h.0 inside
enabled_named {M} {T} mc kd m g h inside mv tree node = by_move mv tree node ∙ ap (λ o. feed_move_enabled mc m g h.0 o) node
  where
    by_move : (mv : Move) → tree_of mv ≡ FeedOf h → feed_move kd g.feeds h.0 mv ≡ Some inside → is_enabled mc kd m g mv ≡ feed_move_enabled mc m g h.0 (feed_move kd g.feeds h.0 mv)
    by_move (Ask t n) e k = ap (λ x. enabled_in_tree mc kd m g x (Ask t n)) e
    by_move (Send t n) e k = ap (λ x. enabled_in_tree mc kd m g x (Send t n)) e
    by_move (Take t n) e k = ap (λ x. enabled_in_tree mc kd m g x (Take t n)) e
    by_move (Pick t n i) e k = ap (λ x. enabled_in_tree mc kd m g x (Pick t n i)) e
    by_move (Row t n) e k = ap (λ x. enabled_in_tree mc kd m g x (Row t n)) e
    by_move (Accept i) e k = let none = sym (no_accept kd (feed_of g.feeds h.0) i) ∙ k in cc

pub name_in_tree : {M T : Type 0} (kd : Nodes M T) (f : Feed M) (h : HubId) (inside : NodeMove) → tree_of (name_in kd f h inside) ≡ FeedOf h
name_in_tree kd f h inside = name_tree (route kd f.part (inside_node inside)) (FeedOf h) inside

-- the move that such a name says
pub name_inside : {M T : Type 0} (kd : Nodes M T) (feeds : List (Feed M)) (h : HubId) (f : Feed M) (inside : NodeMove) → feed_of feeds h.0 ≡ Some f → feed_move kd feeds h.0 (name_in kd f h inside) ≡ Some inside
name_inside kd feeds h f inside there =
    let r = route kd f.part (inside_node inside) in
    ap (λ o. move_in kd o (name_in kd f h inside)) there
    ∙ (ap (λ n. node_move (route kd f.part n) (name_in kd f h inside)) (name_node r (FeedOf h) inside) ∙ name_move r (FeedOf h) inside)

-- it is enabled just where that move is
pub name_enabled : {M T : Type 0} (mc : Machine M T) (kd : Nodes M T) (m : Meaning T) (g : Rows M T) (h : HubId) (f : Feed M) (inside : NodeMove) → feed_of g.feeds h.0 ≡ Some f → is_enabled mc kd m g (name_in kd f h inside) ≡ feed_enabled mc m g h.0 inside
name_enabled mc kd m g h f inside there =
    enabled_named mc kd m g h inside (name_in kd f h inside) (name_in_tree kd f h inside) (name_inside kd g.feeds h f inside there)

-- it delivers nothing
pub named_answer : {T : Type 0} (h : HubId) (mv : Move) (o : Option (SubId × Signal T)) → tree_of mv ≡ FeedOf h → o ≡ None → IsMadeAnswer mv o
named_answer h (Ask t n) o e k = k
named_answer h (Send t n) o e k = k
named_answer h (Take (Sub i) n) o e k = cc
named_answer h (Take (FeedOf i) n) o e k = k
named_answer h (Pick t n i) o e k = k
named_answer h (Row t n) o e k = k
named_answer h (Accept i) o e k = k

-- it does what that move does
pub named_moved : {M T : Type 0} (mc : Machine M T) (kd : Nodes M T) (m : Meaning T) (old new : Rows M T) (h : HubId) (inside : NodeMove) (mv : Move) → tree_of mv ≡ FeedOf h → feed_move kd old.feeds h.0 mv ≡ Some inside → IsFeedMoved mc m inside h.0 old new → IsMoved mc kd m mv old new None
named_moved {M} {T} mc kd m old new h inside mv tree node k = by_move mv tree node
  where
    in_tree : (t : Tree) (mv : Move) → t ≡ FeedOf h → feed_move kd old.feeds h.0 mv ≡ Some inside → IsMovedInTree mc kd m mv t old new None
    in_tree t mv e same =
        let P : Option NodeMove → Type 0 = λ o. IsMovedInFeed mc m o h.0 old new in
        let Q : Tree → Type 0 = λ x. IsMovedInTree mc kd m mv x old new None in
        subst Q (sym e) (subst P (sym same) k)

    by_move : (mv : Move) → tree_of mv ≡ FeedOf h → feed_move kd old.feeds h.0 mv ≡ Some inside → IsMoved mc kd m mv old new None
    by_move (Ask t n) e same = in_tree t (Ask t n) e same
    by_move (Send t n) e same = in_tree t (Send t n) e same
    by_move (Take t n) e same = in_tree t (Take t n) e same
    by_move (Pick t n i) e same = in_tree t (Pick t n i) e same
    by_move (Row t n) e same = in_tree t (Row t n) e same
    by_move (Accept i) e same = let none = sym (no_accept kd (feed_of old.feeds h.0) i) ∙ same in cc

-- and the same has happened by it
pub named_happened : {M T : Type 0} (mc : Machine M T) (kd : Nodes M T) (m : Meaning T) (g : Rows M T) (h : HubId) (inside : NodeMove) (mv : Move) (x : History T) → tree_of mv ≡ FeedOf h → feed_move kd g.feeds h.0 mv ≡ Some inside → with_made mv None (sent mc kd m g mv) x ≡ with_sent (sent_by mc m g inside h.0) h.0 x
named_happened {M} {T} mc kd m g h inside mv x tree node = by_move mv tree node
  where
    in_tree : (t : Tree) (mv : Move) → t ≡ FeedOf h → feed_move kd g.feeds h.0 mv ≡ Some inside → with_moved t None (sent_in_tree mc kd m g t mv) x ≡ with_sent (sent_by mc m g inside h.0) h.0 x
    in_tree t mv e same = ap (λ k. with_moved k None (sent_in_tree mc kd m g k mv) x) e ∙ ap (λ o. with_sent (sent_by_feed mc m g h.0 o) h.0 x) same

    by_move : (mv : Move) → tree_of mv ≡ FeedOf h → feed_move kd g.feeds h.0 mv ≡ Some inside → with_made mv None (sent mc kd m g mv) x ≡ with_sent (sent_by mc m g inside h.0) h.0 x
    by_move (Ask t n) e same = in_tree t (Ask t n) e same
    by_move (Send t n) e same = in_tree t (Send t n) e same
    by_move (Take t n) e same = in_tree t (Take t n) e same
    by_move (Pick t n i) e same = in_tree t (Pick t n i) e same
    by_move (Row t n) e same = in_tree t (Row t n) e same
    by_move (Accept i) e same = let none = sym (no_accept kd (feed_of g.feeds h.0) i) ∙ same in cc

-- the Take of a root is that which delivers
pub root_take : (i : SubId) (n : NodeId) → n.0 ≡ 0 → delivery i ≡ Take (Sub i) n
root_take i n e = ap (λ k. Take (Sub i) (record { 0 = k })) (sym e)

-- ---- a quiet hub

-- no move of its feed that is named is enabled
quiet_named : {M T : Type 0} (mc : Machine M T) (m : Meaning T) (g : Rows M T) (h : ℕ) (o : Option NodeMove) → ((step : NodeMove) → o ≡ Some step → Part.IsNumbered step) → IsHubQuiet mc m g h → feed_move_enabled mc m g h o ≡ false
quiet_named mc m g h None small q = refl
quiet_named mc m g h (Some step) small q = q.feed step (small step refl)

numbered_in : {M T : Type 0} (kd : Nodes M T) (o : Option (Feed M)) (mv : Move) → IsNumbered mv → (step : NodeMove) → move_in kd o mv ≡ Some step → Part.IsNumbered step
numbered_in kd None mv small step e = cc
numbered_in kd (Some f) mv small step e = numbered_inside (route kd f.part (node_of mv)) mv step e small

pub quiet_feed : {M T : Type 0} (mc : Machine M T) (kd : Nodes M T) (m : Meaning T) (g : Rows M T) (h : ℕ) (mv : Move) → IsNumbered mv → IsHubQuiet mc m g h → feed_move_enabled mc m g h (feed_move kd g.feeds h mv) ≡ false
quiet_feed mc kd m g h mv small q = quiet_named mc m g h (feed_move kd g.feeds h mv) (λ step e. numbered_in kd (feed_of g.feeds h) mv small step e) q

-- ---- a hub with an emitter

-- what a call for it answered
pub accepts_answered : {M T : Type 0} (mc : Machine M T) (n k : ℕ) (hub : HubState T) (fs : List (Feed M)) (olds : List (Subscription M T)) (b can : Bool) → k ≡ n → can ≡ can_accept mc k hub fs olds → can ≡ b → can_accept mc n hub fs olds ≡ b
accepts_answered mc n k hub fs olds b can same is e = ap (λ j. can_accept mc j hub fs olds) (sym same) ∙ (sym is ∙ e)

pub unfed_quiet : {M T : Type 0} (mc : Machine M T) (m : Meaning T) (g : Rows M T) (h : ℕ) → feed_of g.feeds h ≡ None → accepts_at mc g h ≡ false → IsHubQuiet mc m g h
unfed_quiet mc m g h unfed rest = record { accept = rest; feed = λ step small. ap (λ b. b && (if is_out step then sends mc m g h else works mc m g.feeds h step)) (none (is_some (slice_get g.hubs h)) unfed) }
  where
    none : (b : Bool) → feed_of g.feeds h ≡ None → b && is_some (feed_of g.feeds h) ≡ false
    none true e = ap is_some e
    none false e = refl

-- nothing waits in front of its inbox
pub empty_quiet : {M T : Type 0} (mc : Machine M T) (m : Meaning T) (g : Rows M T) (h : ℕ) (hub : HubState T) (o : Option Front) → slice_get g.hubs h ≡ Some hub → place_of g.feeds h ≡ None → o ≡ option_map front_of (waiting hub) → o ≡ None → IsHubQuiet mc m g h
empty_quiet mc m g h hub o there place front none =
    let unfed = unfed_there g.feeds h place in
    unfed_quiet mc m g h unfed (accepts_there mc h g.hubs hub g.feeds g.feeds g.subs g.subs false there refl refl unfed (sym (none_ready (waiting hub) (all_have_room mc h g.feeds g.subs) (sym front ∙ none))))

-- ---- a hub with a feed

sends_is : {M T : Type 0} (mc : Machine M T) (m : Meaning T) (g : Rows M T) (h : ℕ) (hub : HubState T) (f : Feed M) → slice_get g.hubs h ≡ Some hub → feed_of g.feeds h ≡ Some f → sends mc m g h ≡ can_feed mc m f hub g.feeds g.subs
sends_is mc m g h hub f there named = ap (λ o. sends_where mc m g o (feed_of g.feeds h)) there ∙ ap (λ o. sends_where mc m g (Some hub) o) named

pub fed_enabled : {M T : Type 0} (mc : Machine M T) (m : Meaning T) (g : Rows M T) (h : ℕ) (hub : HubState T) (f : Feed M) (step : NodeMove) → slice_get g.hubs h ≡ Some hub → feed_of g.feeds h ≡ Some f → feed_enabled mc m g h step ≡ (if is_out step then can_feed mc m f hub g.feeds g.subs else inside_enabled mc m f.part step)
fed_enabled {M} {T} mc m g h hub f step there named =
    ap (λ b. b && (if is_out step then sends mc m g h else works mc m g.feeds h step)) known
    ∙ (ap (λ b. if is_out step then b else works mc m g.feeds h step) (sends_is mc m g h hub f there named) ∙ ap (λ o. if is_out step then can_feed mc m f hub g.feeds g.subs else works_where mc m o step) named)
  where
    known : has_feed g h ≡ true
    known = ap (λ o. is_some o && is_some (feed_of g.feeds h)) there ∙ ap is_some named

pub feeds_there : {M T : Type 0} (mc : Machine M T) (m : Meaning T) (at : ℕ) (hub : HubState T) (f : Feed M) (feeds fs : List (Feed M)) (subs olds : List (Subscription M T)) (b can : Bool) → slice_get feeds at ≡ Some f → fs ≡ feeds → olds ≡ subs → can ≡ can_feed_at mc m at hub fs olds → can ≡ b → can_feed mc m f hub feeds subs ≡ b
feeds_there mc m at hub f feeds fs subs olds b can there same all is e =
    ap (λ o. can_feed_of mc m o hub feeds subs) (sym there) ∙ (ap (λ l. can_feed_at mc m at hub l subs) (sym same) ∙ (ap (λ l. can_feed_at mc m at hub fs l) (sym all) ∙ (sym is ∙ e)))

pub fed_quiet : {M T : Type 0} (mc : Machine M T) (m : Meaning T) (g : Rows M T) (h : ℕ) (hub : HubState T) (f : Feed M) → slice_get g.hubs h ≡ Some hub → feed_of g.feeds h ≡ Some f → IsQuietInside mc m f.part → can_feed mc m f hub g.feeds g.subs ≡ false → IsHubQuiet mc m g h
fed_quiet {M} {T} mc m g h hub f there named quiet rest = record {
  accept = ap (λ o. accepts_in mc g o h) there ∙ ap (λ o. is_none o && can_accept mc h hub g.feeds g.subs) named;
  feed = λ step small. fed_enabled mc m g h hub f step there named ∙ none (is_out step) (inside_enabled mc m f.part step) (quiet step small);
}
  where
    none : (b c : Bool) → c ≡ false → (if b then can_feed mc m f hub g.feeds g.subs else c) ≡ false
    none true c e = rest
    none false c e = e

-- a move inside is no Send over the root edge
pub not_out : {M T : Type 0} (mc : Machine M T) (m : Meaning T) (f : Feed M) (step : NodeMove) → inside_enabled mc m f.part step ≡ true → is_out step ≡ false
not_out mc m f (NodeAsk n) e = refl
not_out mc m f (NodeSend n) e = below (nat_eq n 0) _ e
  where
    below : (b x : Bool) → (if b then false else x) ≡ true → b ≡ false
    below true x e = cc
    below false x e = refl
not_out mc m f (NodePick n i) e = refl
not_out mc m f (NodeRow n) e = refl

there : {A : Type 0} (xs : List A) (n : ℕ) → n < length xs → (x : A) × (slice_get xs n ≡ Some x)
there [] n l = absurd (omega (arith, l))
there (x ∷ xs) zero l = (x, refl)
there (x ∷ xs) (suc n) l = there xs n (omega (arith, l))

pub inside_of_feed : {M T : Type 0} (mc : Machine M T) (m : Meaning T) (g : Rows M T) (h : ℕ) (f : Feed M) (step : NodeMove) → h < length g.hubs → feed_of g.feeds h ≡ Some f → inside_enabled mc m f.part step ≡ true → feed_enabled mc m g h step ≡ true
inside_of_feed mc m g h f step within named can =
    let hub = there g.hubs h within in
    fed_enabled mc m g h hub.0 f step hub.1 named ∙ (ap (λ b. if b then can_feed mc m f hub.0 g.feeds g.subs else inside_enabled mc m f.part step) (not_out mc m f step can) ∙ can)

-- nothing can be done inside, and no Send
pub sent_quiet : {M T : Type 0} (mc : Machine M T) (m : Meaning T) (g : Rows M T) (h : ℕ) (f : Feed M) → h < length g.hubs → feed_of g.feeds h ≡ Some f → IsQuietInside mc m f.part → sends mc m g h ≡ false → IsHubQuiet mc m g h
sent_quiet mc m g h f within named quiet rest =
    let hub = there g.hubs h within in
    fed_quiet mc m g h hub.0 f hub.1 named quiet (sym (sends_is mc m g h hub.0 f hub.1 named) ∙ rest)

-- the same where its root edge carries nothing
pub silent_quiet : {M T : Type 0} (mc : Machine M T) (m : Meaning T) (g : Rows M T) (h : ℕ) (f : Feed M) → h < length g.hubs → feed_of g.feeds h ≡ Some f → IsQuietInside mc m f.part → next_out mc m f.part ≡ None → IsHubQuiet mc m g h
silent_quiet mc m g h f within named quiet none =
    let hub = there g.hubs h within in
    fed_quiet mc m g h hub.0 f hub.1 named quiet (ap (λ o. takes_next o hub.0 (all_have_room mc f.hub g.feeds g.subs)) none)

-- the Send over the root edge
pub out_of_feed : {M T : Type 0} (mc : Machine M T) (m : Meaning T) (g : Rows M T) (h : ℕ) (hub : HubState T) (f : Feed M) → slice_get g.hubs h ≡ Some hub → feed_of g.feeds h ≡ Some f → can_feed mc m f hub g.feeds g.subs ≡ true → feed_enabled mc m g h (NodeSend 0) ≡ true
out_of_feed mc m g h hub f there named can = fed_enabled mc m g h hub f (NodeSend 0) there named ∙ can

-- ---- a hub that has an enabled move is not quiet

pub not_quiet_accept : {M T : Type 0} (mc : Machine M T) (m : Meaning T) (g : Rows M T) (h : ℕ) → accepts_at mc g h ≡ true → IsHubQuiet mc m g h → ⊥
not_quiet_accept mc m g h can q = let rest = q.accept in cc

pub not_quiet_feed : {M T : Type 0} (mc : Machine M T) (m : Meaning T) (g : Rows M T) (h : ℕ) (step : NodeMove) → Part.IsNumbered step → feed_enabled mc m g h step ≡ true → IsHubQuiet mc m g h → ⊥
not_quiet_feed mc m g h step small can q = let rest = q.feed step small in cc
