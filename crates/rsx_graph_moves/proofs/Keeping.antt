-- Moves keep of which hub each feed is.
use Rattle.rsx_sources.specs.declared.machine.Machine.{Ghosts as Machine}
use Rattle.rsx_rooted.specs.declared.nodes.Nodes.{Ghosts as Nodes}
use Rattle.std.proofs.Common.{◌≡◌, ℕ, zero, suc, Bool, true, false, nat_eq, if◌then◌else◌, List, [], ◌∷◌, map, slice_get, Option, Some, None, option_map, refl, ap, sym, ◌∙◌}
use Rattle.std.proofs.Math.ListN.{set}
use Rattle.rsx_graph_state.specs.Prelude.{IsAcceptedAt, IsFedAt, IsFeedMoved, IsMadeInFeed, IsMovedBy, is_out, place_of, Rows, AllFeedsHanded}
use Rattle.rsx_pipe.proofs.Signals.{some_same}
use Rattle.rsx_graph_state.specs.declared.feed.Feed.{Feed}
use Rattle.rsx_tree.specs.declared.look.NodeMove.{NodeMove}
use Rattle.rsx_sources.specs.Prelude.{Meaning, Move, Ask, Send, Take, Pick, Row, Accept, SubId, Tree, Sub, Feed as FeedOf, Signal}
use Rattle.rsx_graph_moves.specs.Moves.{IsMoved, IsMovedInFeed, IsMovedInTree, feed_move}
use Rattle.rsx_graph_moves.specs.Pumped.{IsMoveMade, LeadTo, Made}
use Rattle.rsx_tree.proofs.Runs.{leads_keep}

-- the hub of each feed
abbrev pub hubs_of : {M : Type 0} → List (Feed M) → List ℕ
hubs_of fs = map (λ f. f.hub) fs

-- as many feeds, each of the same hub
abbrev pub KeepHubs : {M T : Type 0} → Rows M T → Rows M T → Type 0
KeepHubs old new = hubs_of new.feeds ≡ hubs_of old.feeds

-- ---- one feed changed, or a signal was handed to all

handed_keep : {M T : Type 0} (mc : Machine M T) (n : ℕ) (s : Signal T) (fs gs : List (Feed M)) → AllFeedsHanded mc n s fs gs → hubs_of gs ≡ hubs_of fs
handed_keep mc n s [] [] all = refl
handed_keep mc n s [] (g ∷ gs) all = absurd all
handed_keep mc n s (f ∷ fs) [] all = absurd all
handed_keep mc n s (f ∷ fs) (g ∷ gs) all = ap (λ k. k ∷ hubs_of gs) all.0.hub ∙ ap (λ l. f.hub ∷ l) (handed_keep mc n s fs gs all.1)

set_keep : {M : Type 0} (fs : List (Feed M)) (at : ℕ) (f g : Feed M) → slice_get fs at ≡ Some f → g.hub ≡ f.hub → hubs_of (set fs at g) ≡ hubs_of fs
set_keep [] at f g there same = refl
set_keep (x ∷ fs) zero f g there same = ap (λ k. k ∷ hubs_of fs) (same ∙ ap (λ y. y.hub) (sym (some_same x f there)))
set_keep (x ∷ fs) (suc at) f g there same = ap (λ l. x.hub ∷ l) (set_keep fs at f g there same)

-- ---- a move

accepted_keep : {M T : Type 0} (mc : Machine M T) (n : ℕ) (old new : Rows M T) → IsAcceptedAt mc n old new → KeepHubs old new
accepted_keep mc n old new k = handed_keep mc n k.effect.signal old.feeds new.feeds k.effect.fed

fed_keep : {M T : Type 0} (mc : Machine M T) (m : Meaning T) (n : ℕ) (old new : Rows M T) → IsFedAt mc m n old new → KeepHubs old new
fed_keep mc m n old new k =
    let e = k.effect in
    handed_keep mc e.feed.hub e.signal (set old.feeds k.at (record { part = e.part; hub = e.feed.hub })) new.feeds e.fed
    ∙ set_keep old.feeds k.at e.feed (record { part = e.part; hub = e.feed.hub }) e.from refl

worked_keep : {M T : Type 0} (mc : Machine M T) (m : Meaning T) (step : NodeMove) (n : ℕ) (old new : Rows M T) → IsMadeInFeed mc m step n old new → KeepHubs old new
worked_keep mc m step n old new k =
    let w = k.made in
    ap hubs_of w.others ∙ set_keep old.feeds w.at w.feed (record { part = w.part; hub = w.feed.hub }) w.there refl

feed_moved_keep : {M T : Type 0} (mc : Machine M T) (m : Meaning T) (step : NodeMove) (n : ℕ) (old new : Rows M T) → IsFeedMoved mc m step n old new → KeepHubs old new
feed_moved_keep {M} {T} mc m step n old new k = by_out (is_out step) k
  where
    by_out : (b : Bool) → IsMovedBy mc m step b n old new → KeepHubs old new
    by_out true k = fed_keep mc m n old new k
    by_out false k = worked_keep mc m step n old new k

inside_keep : {M T : Type 0} (mc : Machine M T) (m : Meaning T) (o : Option NodeMove) (n : ℕ) (old new : Rows M T) → IsMovedInFeed mc m o n old new → KeepHubs old new
inside_keep mc m None n old new k = absurd k
inside_keep mc m (Some step) n old new k = feed_moved_keep mc m step n old new k

tree_keep : {M T : Type 0} (mc : Machine M T) (kd : Nodes M T) (m : Meaning T) (mv : Move) (t : Tree) (old new : Rows M T) (o : Option (SubId × Signal T)) → IsMovedInTree mc kd m mv t old new o → KeepHubs old new
tree_keep mc kd m mv (Sub i) old new o k = ap hubs_of k.2
tree_keep mc kd m mv (FeedOf h) old new o k = inside_keep mc m (feed_move kd old.feeds h.0 mv) h.0 old new k

pub moved_keep : {M T : Type 0} (mc : Machine M T) (kd : Nodes M T) (m : Meaning T) (mv : Move) (old new : Rows M T) (o : Option (SubId × Signal T)) → IsMoved mc kd m mv old new o → KeepHubs old new
moved_keep mc kd m (Ask t n) old new o k = tree_keep mc kd m (Ask t n) t old new o k
moved_keep mc kd m (Send t n) old new o k = tree_keep mc kd m (Send t n) t old new o k
moved_keep mc kd m (Take t n) old new o k = tree_keep mc kd m (Take t n) t old new o k
moved_keep mc kd m (Pick t n i) old new o k = tree_keep mc kd m (Pick t n i) t old new o k
moved_keep mc kd m (Row t n) old new o k = tree_keep mc kd m (Row t n) t old new o k
moved_keep mc kd m (Accept h) old new o k = accepted_keep mc h.0 old new k

-- ---- many moves

pub lead_keep : {M T : Type 0} (mc : Machine M T) (kd : Nodes M T) (m : Meaning T) (old : Rows M T) (moves : List (Made T)) (new : Rows M T) → LeadTo mc kd m old moves new → KeepHubs old new
lead_keep mc kd m old moves new k = leads_keep (IsMoveMade mc kd m) (λ g. KeepHubs old g) (λ a b d made kept. moved_keep mc kd m d.move a b d.delivered made.effect ∙ kept) old new moves k refl

-- ---- where a feed stands

abbrev place_in : List ℕ → ℕ → Option ℕ
place_in [] h = None
place_in (n ∷ ns) h = if nat_eq n h then Some 0 else option_map suc (place_in ns h)

by_hubs : {M : Type 0} (fs : List (Feed M)) (h : ℕ) → place_of fs h ≡ place_in (hubs_of fs) h
by_hubs [] h = refl
by_hubs (f ∷ fs) h = ap (λ o. if nat_eq f.hub h then Some 0 else option_map suc o) (by_hubs fs h)

pub place_kept : {M T : Type 0} (old new : Rows M T) (h : ℕ) → KeepHubs old new → place_of new.feeds h ≡ place_of old.feeds h
place_kept old new h k = by_hubs new.feeds h ∙ (ap (λ l. place_in l h) k ∙ sym (by_hubs old.feeds h))
