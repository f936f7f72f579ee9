-- A graph whose subscriptions were live.
use Rattle.std.proofs.Common.{◌≡◌, ℕ, suc, ◌<◌, nat_lt, arith, false, length, Bool, List, [], ◌∷◌, map, refl, ap, sym, ◌∙◌, subst, Vec, Global}
use Rattle.rsx_types.specs.Meaning.{Meaning}
use Rattle.rsx_types.specs.declared.ops.Ops.{Ghosts as Ops}
use Rattle.rsx_types.specs.Stream.{Stream}
use Rattle.rsx_kinds.specs.Any.{TreeNode, any_machine}
use Rattle.rsx_runtime.specs.declared.tap.Tap.{Tap}
use Rattle.rsx_link.specs.declared.link.Link.{Link}
use Rattle.rsx_graph_calls.specs.Regions.{RegionLists, region_in, regions_of, senders_in}
use Rattle.rsx_graph_calls.specs.Senders.{senders_below}
use Rattle.rsx_hub.specs.Hub.{HubState}
use Rattle.rsx_graph_state.specs.History.{History}
use Rattle.rsx_graph_state.specs.Subscriptions.{AllStand}
use Rattle.rsx_graph_state.specs.Prelude.{rows_of}
use Rattle.rsx_graph.specs.Kinds.{Feed}
use Rattle.rsx_graph.specs.InGraph.{state_of}
use Rattle.rsx_graph.specs.Pieces.{ArePiecesOf}
use Rattle.rsx_graph.specs.Stands.{GraphStands, GraphState}
use Rattle.rsx_graph.specs.declared.graph.Graph.{Graph}
use Rattle.rsx_graph.specs.declared.pieces.Pieces.{Pieces}
use Rattle.rsx_model.specs.Region.{region_of}
use Rattle.rsx_subscriber.specs.Past.{Past}
use Rattle.rsx_subscriber.specs.declared.subscription.Subscription.{Subscription}
use Rattle.rsx_live.specs.Graphs.{IsLiveGraphOf, IsTogether, any_crossing, lived_history}
use Rattle.rsx_live_parts.specs.Kept.{all_lived}
use Rattle.rsx_live_parts.specs.Lives.{AreAllCut, AreNotJoined, ComeBack, IsLiveFor, StandAs}
use Rattle.rsx_live_parts.specs.declared.going.NotLive.{NotLive}
use Rattle.rsx_live_parts.specs.declared.going.NotLive.TheVariants.{NotJoined}
use Rattle.rsx_live_parts.proofs.Closings.{not_joined_of}
use Rattle.rsx_live_parts.specs.Returning.{lived}
use Rattle.rsx_live.specs.Workers.{HaveRegions}
use Rattle.rsx_graph_calls.specs.declared.regions.Regions.{Regions}
use Rattle.rsx_region.specs.Pieces.{Each}
use Rattle.std.proofs.lemmas.Bool.Decides.{nat_tests}
use Rattle.rsx_live.specs.declared.graph.GraphRest.{GraphRest}
use Rattle.rsx_live.specs.declared.graph.LiveGraph.{LiveGraph}
use Rattle.rsx_live_parts.specs.declared.kept.Kept.{Kept}
use Rattle.rsx_live_parts.specs.declared.kept.Kept.TheVariants.{Away, Here}

-- what was subscribed to stays
pub lived_shows : {M T A : Type 0} (f : Past T → A) → ((p q : Past T) → q.expression ≡ p.expression → q.joins ≡ p.joins → f q ≡ f p) → (ks : List (Kept M T)) (ts : List (Tap T)) (fs : List Bool) (ps : List (Past T)) → map f (all_lived ks ts fs ps) ≡ map f ps
lived_shows f h [] ts fs ps = refl
lived_shows f h (k ∷ ks) ts fs [] = refl
lived_shows f h (Here s ∷ ks) ts fs (p ∷ ps) = ap (λ l. f p ∷ l) (lived_shows f h ks ts fs ps)
lived_shows f h (Away q n ∷ ks) [] fs (p ∷ ps) = refl
lived_shows f h (Away q n ∷ ks) (t ∷ ts) [] (p ∷ ps) = refl
lived_shows f h (Away q n ∷ ks) (t ∷ ts) (g ∷ fs) (p ∷ ps) =
    let one = h p (lived t g p) refl refl in
    ap (λ l. f (lived t g p) ∷ l) (lived_shows f h ks ts fs ps) ∙ ap (λ a. a ∷ map f ps) one

module _ {T : Type 0} where
  -- the graph with these subscriptions in place of its own
  abbrev pub with_subs : List (Subscription (TreeNode T) T) → GraphState T → GraphState T
  with_subs subs s = record s { rows = record s.rows { subs = subs } }

  abbrev pub with_pasts : List (Past T) → History T → History T
  with_pasts pasts h = record { hubs = h.hubs; pasts = pasts }

  -- Other subscriptions stand for what has happened to their subscribers, to the same expressions with the same joins. So the graph does.
  pub stands_with : (m : Meaning T) (s : GraphState T) (h : History T) (subs : List (Subscription (TreeNode T) T)) (pasts : List (Past T)) → map (λ p. p.joins) pasts ≡ map (λ p. p.joins) h.pasts → map region_in pasts ≡ map region_in h.pasts → map senders_in pasts ≡ map senders_in h.pasts →
      ((published : List (Stream T)) → AllStand any_machine m published s.rows.subs h.pasts → AllStand any_machine m published subs pasts) → GraphStands m s h → GraphStands m (with_subs subs s) (with_pasts pasts h)
  stands_with m s h subs pasts joins roots senders all g = record {
    rows = record { taken = g.rows.taken; many = g.rows.many; each = g.rows.each; hub = g.rows.hub; all = all g.rows.taken g.rows.all };
    joined = record { subs = g.joined.subs ∙ sym joins; fed = g.joined.fed };
    placed = record { roots = g.placed.roots ∙ sym roots; senders = g.placed.senders ∙ sym senders; fed = g.placed.fed };
    limits = g.limits;
  }

module _ {T : Type 0} where
  -- a state by its parts
  abbrev state_by : List (HubState T) → List (Feed T) → List (Subscription (TreeNode T) T) → List (List ℕ) → List (List ℕ) → RegionLists → GraphState T
  state_by hubs feeds subs joins feed_joins regions = record { rows = rows_of hubs feeds subs; joins = joins; feed_joins = feed_joins; regions = regions }

  same_state : (hs hs' : List (HubState T)) (fs fs' : List (Feed T)) (ss ss' : List (Subscription (TreeNode T) T)) (js js' ks ks' : List (List ℕ)) (rs rs' : RegionLists) → hs ≡ hs' → fs ≡ fs' → ss ≡ ss' → js ≡ js' → ks ≡ ks' → rs ≡ rs' → state_by hs fs ss js ks rs ≡ state_by hs' fs' ss' js' ks' rs'
  same_state hs hs' fs fs' ss ss' js js' ks ks' rs rs' a c d e f g =
      ap (λ x. state_by x fs ss js ks rs) a ∙ (ap (λ x. state_by hs' x ss js ks rs) c ∙ (ap (λ x. state_by hs' fs' x js ks rs) d ∙ (ap (λ x. state_by hs' fs' ss' x ks rs) e ∙ (ap (λ x. state_by hs' fs' ss' js' x rs) f ∙ ap (λ x. state_by hs' fs' ss' js' ks' x) g))))

module _ {O T : Type 0} {b : Ops O T} where
  -- the state of a graph that was put together again
  pub state_with : (graph g : Graph O T b) (rest : GraphRest O T b) (ops o : O) (subs now : List (Subscription (TreeNode T) T)) → IsTogether ops subs rest graph → IsTogether o now rest g → state_of g ≡ with_subs now (state_of graph)
  state_with graph g rest ops o subs now was is =
      same_state g.hubs.items graph.hubs.items g.feeds.items graph.feeds.items g.subscriptions.items now (map (λ v. v.items) g.joins.items) (map (λ v. v.items) graph.joins.items) (map (λ v. v.items) g.feed_joins.items) (map (λ v. v.items) graph.feed_joins.items) (regions_of g.regions) (regions_of graph.regions)
      (ap (λ v. v.items) (is.hubs ∙ sym was.hubs)) (ap (λ v. v.items) (is.feeds ∙ sym was.feeds)) is.subscriptions (ap (λ v. map (λ w. w.items) v.items) (is.joins ∙ sym was.joins)) (ap (λ v. map (λ w. w.items) v.items) (is.feed_joins ∙ sym was.feed_joins)) (ap regions_of (is.regions ∙ sym was.regions))

  -- Where the subscriptions stand for so much, the graph does.
  pub graph_with : (graph g : Graph O T b) (rest : GraphRest O T b) (ops : O) (subs now : List (Subscription (TreeNode T) T)) (h : History T) (pasts : List (Past T)) → IsTogether ops subs rest graph → IsTogether ops now rest g →
      map (λ p. p.joins) pasts ≡ map (λ p. p.joins) h.pasts → map region_in pasts ≡ map region_in h.pasts → map senders_in pasts ≡ map senders_in h.pasts →
      ((published : List (Stream T)) → AllStand any_machine (b.meaning ops) published graph.subscriptions.items h.pasts → AllStand any_machine (b.meaning ops) published now pasts) → GraphStands (b.meaning graph.ops) (state_of graph) h → GraphStands (b.meaning g.ops) (state_of g) (with_pasts pasts h)
  graph_with graph g rest ops subs now h pasts was is joins roots senders all st =
      let A : O → Type 0 = λ o. GraphStands (b.meaning o) (state_of graph) h in
      let B : GraphState T → Type 0 = λ s. GraphStands (b.meaning ops) s (with_pasts pasts h) in
      let C : O → Type 0 = λ o. GraphStands (b.meaning o) (state_of g) (with_pasts pasts h) in
      subst C (sym is.functions) (subst B (sym (state_with graph g rest ops ops subs now was is)) (stands_with (b.meaning ops) (state_of graph) h now pasts joins roots senders all (subst A was.functions st)))

  pub graph_lived : (graph g : Graph O T b) (rest : GraphRest O T b) (ops : O) (subs now : List (Subscription (TreeNode T) T)) (h : History T) (ks : List (Kept (TreeNode T) T)) (ts : List (Tap T)) (fs : List Bool) → IsTogether ops subs rest graph → IsTogether ops now rest g →
      ((published : List (Stream T)) (pasts : List (Past T)) → AllStand any_machine (b.meaning ops) published graph.subscriptions.items pasts → AllStand any_machine (b.meaning ops) published now (all_lived ks ts fs pasts)) → GraphStands (b.meaning graph.ops) (state_of graph) h → GraphStands (b.meaning g.ops) (state_of g) (lived_history ks ts fs h)
  graph_lived graph g rest ops subs now h ks ts fs was is all st =
      graph_with graph g rest ops subs now h (all_lived ks ts fs h.pasts) was is
      (lived_shows (λ p. p.joins) (λ p q e j. j) ks ts fs h.pasts) (lived_shows region_in (λ p q e j. ap region_of e) ks ts fs h.pasts) (lived_shows senders_in (λ p q e j. ap senders_below e) ks ts fs h.pasts)
      (λ published a. all published h.pasts a) st

  pub graph_same : (graph g : Graph O T b) (rest : GraphRest O T b) (ops : O) (subs now : List (Subscription (TreeNode T) T)) (h : History T) → IsTogether ops subs rest graph → IsTogether ops now rest g →
      ((published : List (Stream T)) (pasts : List (Past T)) → AllStand any_machine (b.meaning ops) published graph.subscriptions.items pasts → AllStand any_machine (b.meaning ops) published now pasts) → GraphStands (b.meaning graph.ops) (state_of graph) h → GraphStands (b.meaning g.ops) (state_of g) h
  graph_same graph g rest ops subs now h was is all st = graph_with graph g rest ops subs now h h.pasts was is refl refl refl (λ published a. all published h.pasts a) st

  -- a graph whose pieces were put together at once is as it was
  pub state_again : (graph g : Graph O T b) (p : Pieces O T b) → ArePiecesOf graph p → ArePiecesOf g p → (g.ops ≡ graph.ops) × (state_of g ≡ state_of graph)
  state_again graph g p was is = (
    sym is.ops ∙ was.ops,
    same_state g.hubs.items graph.hubs.items g.feeds.items graph.feeds.items g.subscriptions.items graph.subscriptions.items (map (λ v. v.items) g.joins.items) (map (λ v. v.items) graph.joins.items) (map (λ v. v.items) g.feed_joins.items) (map (λ v. v.items) graph.feed_joins.items) (regions_of g.regions) (regions_of graph.regions)
        (ap (λ v. v.items) (sym is.hubs ∙ was.hubs)) (ap (λ v. v.items) (sym is.feeds ∙ was.feeds)) (ap (λ v. v.items) (sym is.subs ∙ was.subs)) (ap (λ v. map (λ w. w.items) v.items) (sym is.joins ∙ was.joins)) (ap (λ v. map (λ w. w.items) v.items) (sym is.feed_joins ∙ was.feed_joins)) (ap regions_of (sym is.regions ∙ was.regions)),
  )

  pub pieces_together : (graph : Graph O T b) (p : Pieces O T b) (rest : GraphRest O T b) → ArePiecesOf graph p → rest.hubs ≡ p.hubs → rest.feeds ≡ p.feeds → rest.feed_joins ≡ p.feed_joins → rest.joins ≡ p.joins → rest.regions ≡ p.regions → IsTogether p.ops p.subs.items rest graph
  pieces_together graph p rest are hubs feeds feed_joins joins regions = record {
    functions = sym are.ops;
    subscriptions = ap (λ v. v.items) (sym are.subs);
    hubs = sym (hubs ∙ are.hubs);
    feeds = sym (feeds ∙ are.feeds);
    feed_joins = sym (feed_joins ∙ are.feed_joins);
    joins = sym (joins ∙ are.joins);
    regions = sym (regions ∙ are.regions);
  }

  pub gone_live : (graph : Graph O T b) (p : Pieces O T b) (live : LiveGraph O T b) → IsTogether p.ops p.subs.items live.rest graph → live.subs.live.ops ≡ p.ops → IsLiveFor any_machine any_crossing b.meaning p.subs.items live.subs → IsLiveGraphOf graph live
  gone_live graph p live w ops is =
      let P : List (Subscription (TreeNode T) T) → Type 0 = λ l. IsLiveFor any_machine any_crossing b.meaning l live.subs in
      record {
        subs = subst P (sym w.subscriptions) is;
        rest = record { functions = w.functions ∙ sym ops; subscriptions = refl; hubs = w.hubs; feeds = w.feeds; feed_joins = w.feed_joins; joins = w.joins; regions = w.regions };
      }

  pub other_functions : (ops o : O) (now : List (Subscription (TreeNode T) T)) (rest : GraphRest O T b) (g : Graph O T b) → o ≡ ops → IsTogether o now rest g → IsTogether ops now rest g
  other_functions ops o now rest g same is = subst (λ (f : O). IsTogether f now rest g) same is

  -- where a growth was refused
  pub given_back : (graph g : Graph O T b) (p : Pieces O T b) (rest : GraphRest O T b) (o : O) (now : List (Subscription (TreeNode T) T)) (workers : ℕ) → ArePiecesOf graph p → IsTogether p.ops p.subs.items rest graph → HaveRegions workers p.regions →
      (o ≡ p.ops) × (length now ≡ length p.subs.items) × StandAs any_machine (b.meaning p.ops) p.subs.items now → IsTogether o now rest g →
      HaveRegions workers graph.regions × (g.ops ≡ graph.ops) × ((h : History T) → GraphStands (b.meaning graph.ops) (state_of graph) h → GraphStands (b.meaning g.ops) (state_of g) h)
  given_back graph g p rest o now workers are was regions back is = (
    subst (λ (r : Regions). HaveRegions workers r) are.regions regions,
    is.functions ∙ (back.0 ∙ are.ops),
    λ h st. graph_same graph g rest p.ops p.subs.items now h was (other_functions p.ops o now rest g back.0 is)
        (λ published pasts all. back.2 published pasts (subst (λ (l : List (Subscription (TreeNode T) T)). AllStand any_machine (b.meaning p.ops) published l pasts) was.subscriptions all)) st,
  )

  -- the trees of its own subscriptions were cut
  pub cut_live : (graph : Graph O T b) (p : Pieces O T b) (ks : List (Kept (TreeNode T) T)) (links : List (Link T)) → ArePiecesOf graph p → AreAllCut any_machine any_crossing p.subs.items ks links → AreAllCut any_machine any_crossing graph.subscriptions.items ks links
  cut_live graph p ks links are cut = subst (λ (v : Vec (Subscription (TreeNode T) T) Global). AreAllCut any_machine any_crossing v.items ks links) are.subs cut

  -- where pieces could not be joined then
  pub none_back : (graph : Graph O T b) (p : Pieces O T b) (workers : ℕ) (r : NotLive (TreeNode T) T O) → ArePiecesOf graph p → HaveRegions workers p.regions → r ≡ NotJoined → ComeBack any_machine any_crossing b.meaning p.ops p.subs.items r →
      HaveRegions workers graph.regions × ((ks : List (Kept (TreeNode T) T)) × AreNotJoined any_machine any_crossing (b.meaning graph.ops) graph.subscriptions.items ks)
  none_back graph p workers r are regions same back =
      let A : O → Type 0 = λ o. (ks : List (Kept (TreeNode T) T)) × AreNotJoined any_machine any_crossing (b.meaning o) p.subs.items ks in
      let B : Vec (Subscription (TreeNode T) T) Global → Type 0 = λ v. (ks : List (Kept (TreeNode T) T)) × AreNotJoined any_machine any_crossing (b.meaning graph.ops) v.items ks in (
        subst (λ (r' : Regions). HaveRegions workers r') are.regions regions,
        subst B are.subs (subst A are.ops (not_joined_of any_machine any_crossing b.meaning p.ops p.subs.items r same back)),
      )

-- ---- whether there are enough workers

pub each_parts : {X : Type 0} (P : X → Type 0) (xs ys : List X) (x : X) → xs ≡ x ∷ ys → Each P xs → P x × Each P ys
each_parts {X} P xs ys x e h = let all : Each P (x ∷ ys) = subst (λ (l : List X). Each P l) e h in (all 0 x refl, λ k y at. all (suc k) y at)

pub not_below : (a n : ℕ) → nat_lt a n ≡ false → a < n → ⊥
not_below a n e less = grind (arith, nat_tests, e, less)
