-- The joins and the regions that are kept beside the rows go on being those of the history, by new hubs, by what is published and by
-- moves.
use Rattle.rsx_sources.specs.declared.machine.Machine.{Ghosts as Machine}
use Rattle.std.proofs.Common.{◌≡◌, ℕ, zero, suc, List, [], ◌∷◌, ◌++◌, length, map, Option, Some, None, refl, ap, sym, ◌∙◌}
use Rattle.rsx_graph_state.specs.Prelude.{History, Source, accepted_at, emitted, fed, sent_at, with_delivery, with_made, with_moved, with_sent, Rows, StandsFor, changed, HasFeedJoins, JoinsStand}
use Rattle.rsx_subscriber.specs.Prelude.{Expr, new_joins, given}
use Rattle.rsx_graph_state.specs.declared.feed.Feed.{Feed}
use Rattle.rsx_sources.specs.Prelude.{Meaning, HubId, HubKind, Move, Ask, Send, Take, Pick, Row, Accept, SubId, Tree, Sub, Feed as FeedOf, Signal}
use Rattle.rsx_graph_calls.specs.Edits.{NameHubs, with_fed_hub, with_hub}
use Rattle.rsx_graph_calls.specs.Publishes.{with_published}
use Rattle.rsx_graph_calls.specs.Regions.{IsKept, RegionLists, RegionsStand, region_in, senders_in, with_fed_regions}
use Rattle.rsx_graph_calls.specs.Senders.{senders_into}
use Rattle.rsx_graph_calls.proofs.Beside.{kept_fed, kept_hub, kept_published, kept_same}
use Rattle.rsx_graph_calls.proofs.Subscribed.{new_joins_there}

-- ---- the joins of feeds: of an expression with these joins, these

abbrev own_joins : {T : Type 0} → Expr T → List ℕ → List ℕ
own_joins e js = js

as_kept : {M T : Type 0} (feeds : List (Feed M)) (kept : List (List ℕ)) (i : ℕ) (src : Source T) → HasFeedJoins feeds kept i src → IsKept own_joins feeds kept i src
as_kept feeds kept i (emitted w) r = tt
as_kept feeds kept i (fed e js) r = r

as_joins : {M T : Type 0} (feeds : List (Feed M)) (kept : List (List ℕ)) (i : ℕ) (src : Source T) → IsKept own_joins feeds kept i src → HasFeedJoins feeds kept i src
as_joins feeds kept i (emitted w) r = tt
as_joins feeds kept i (fed e js) r = r

-- ---- a feed behind the others

pub joins_fed : {M T : Type 0} (mc : Machine M T) (m : Meaning T) (k : HubKind) (e : Expr T) (old : Rows M T) (feeds : List (Feed M)) (f : Feed M) (sub_joins feed_joins news : List (List ℕ)) (h : History T) →
    feeds ≡ old.feeds ++ f ∷ [] → f.hub ≡ length old.hubs → NameHubs (length old.hubs) old.feeds → length feed_joins ≡ length old.feeds → news ≡ feed_joins ++ new_joins old.hubs e ∷ [] →
    StandsFor mc m old h → JoinsStand old.feeds sub_joins feed_joins h → JoinsStand feeds sub_joins news (with_fed_hub k e h)
joins_fed mc m k e old feeds f sub_joins feed_joins news h is named names beside is_news s j = record {
  subs = j.subs;
  fed = λ i p q. as_joins feeds news i p.source
      (kept_fed own_joins k e (length old.hubs) old.feeds feeds f feed_joins news (new_joins old.hubs e) h is named s.many names beside is_news (new_joins_there mc m e old h s) (λ n r o. as_kept old.feeds feed_joins n r.source (j.fed n r o)) i p q);
}

pub regions_fed : {M T : Type 0} (mc : Machine M T) (m : Meaning T) (k : HubKind) (e : Expr T) (old : Rows M T) (feeds : List (Feed M)) (f : Feed M) (r news : RegionLists) (h : History T) →
    feeds ≡ old.feeds ++ f ∷ [] → f.hub ≡ length old.hubs → NameHubs (length old.hubs) old.feeds → length r.feed_senders ≡ length old.feeds → news ≡ with_fed_regions e r →
    StandsFor mc m old h → RegionsStand old.feeds r h → RegionsStand feeds news (with_fed_hub k e h)
regions_fed mc m k e old feeds f r news h is named names beside is_news s j = record {
  roots = ap (λ (x : RegionLists). x.roots) is_news ∙ j.roots;
  senders = ap (λ (x : RegionLists). x.senders) is_news ∙ j.senders;
  fed = kept_fed (λ x js. senders_into 0 x) k e (length old.hubs) old.feeds feeds f r.feed_senders news.feed_senders (senders_into 0 e) h is named s.many names beside (ap (λ (x : RegionLists). x.feed_senders) is_news) refl j.fed;
}

-- ---- a hub with an emitter

pub joins_hub : {M T : Type 0} (k : HubKind) (feeds : List (Feed M)) (sub_joins feed_joins : List (List ℕ)) (h : History T) → JoinsStand feeds sub_joins feed_joins h → JoinsStand feeds sub_joins feed_joins (with_hub k h)
joins_hub k feeds sub_joins feed_joins h j = record {
  subs = j.subs;
  fed = λ i p q. as_joins feeds feed_joins i p.source (kept_hub own_joins k feeds feed_joins h (λ n r o. as_kept feeds feed_joins n r.source (j.fed n r o)) i p q);
}

pub regions_hub : {M T : Type 0} (k : HubKind) (feeds : List (Feed M)) (r : RegionLists) (h : History T) → RegionsStand feeds r h → RegionsStand feeds r (with_hub k h)
regions_hub k feeds r h j = record { roots = j.roots; senders = j.senders; fed = kept_hub (λ e js. senders_into 0 e) k feeds r.feed_senders h j.fed }

-- ---- what changes neither joins nor sources

pub joins_same : {M T : Type 0} (feeds gs : List (Feed M)) (sub_joins feed_joins : List (List ℕ)) (h k : History T) → map (λ f. f.hub) gs ≡ map (λ f. f.hub) feeds → map (λ p. p.joins) k.pasts ≡ map (λ p. p.joins) h.pasts → map (λ p. p.source) k.hubs ≡ map (λ p. p.source) h.hubs →
    JoinsStand feeds sub_joins feed_joins h → JoinsStand gs sub_joins feed_joins k
joins_same feeds gs sub_joins feed_joins h k same joins sources j = record {
  subs = j.subs ∙ sym joins;
  fed = λ i p q. as_joins gs feed_joins i p.source (kept_same own_joins feeds gs feed_joins h k same sources (λ n r o. as_kept feeds feed_joins n r.source (j.fed n r o)) i p q);
}

pub kept_changed : {A B : Type 0} (g : A → B) (f : A → A) → ((a : A) → g (f a) ≡ g a) → (xs : List A) (i : ℕ) → map g (changed f xs i) ≡ map g xs
kept_changed g f k [] i = refl
kept_changed g f k (x ∷ xs) zero = ap (λ b. b ∷ map g xs) (k x)
kept_changed g f k (x ∷ xs) (suc i) = ap (λ l. g x ∷ l) (kept_changed g f k xs i)

-- what a move adds to the history changes none of these
pub record AreKept {T : Type 0} (h k : History T) : Type 0 where
  pub joins : map (λ p. p.joins) k.pasts ≡ map (λ p. p.joins) h.pasts
  pub regions : map region_in k.pasts ≡ map region_in h.pasts
  pub senders : map senders_in k.pasts ≡ map senders_in h.pasts
  pub sources : map (λ p. p.source) k.hubs ≡ map (λ p. p.source) h.hubs

kept_delivery : {T : Type 0} (o : Option (SubId × Signal T)) (h : History T) → AreKept h (with_delivery o h)
kept_delivery None h = record { joins = refl; regions = refl; senders = refl; sources = refl }
kept_delivery (Some d) h = record {
  joins = kept_changed (λ p. p.joins) (given d.1) (λ p. refl) h.pasts d.0.0;
  regions = kept_changed region_in (given d.1) (λ p. refl) h.pasts d.0.0;
  senders = kept_changed senders_in (given d.1) (λ p. refl) h.pasts d.0.0;
  sources = refl;
}

kept_sent : {T : Type 0} (s : Option (Signal T)) (i : ℕ) (h : History T) → AreKept h (with_sent s i h)
kept_sent None i h = record { joins = refl; regions = refl; senders = refl; sources = refl }
kept_sent (Some s) i h = record { joins = refl; regions = refl; senders = refl; sources = kept_changed (λ p. p.source) (sent_at s) (λ p. refl) h.hubs i }

kept_moved : {T : Type 0} (t : Tree) (o : Option (SubId × Signal T)) (s : Option (Signal T)) (h : History T) → AreKept h (with_moved t o s h)
kept_moved (Sub i) o s h = kept_delivery o h
kept_moved (FeedOf i) o s h = kept_sent s i.0 h

pub kept_made : {T : Type 0} (mv : Move) (o : Option (SubId × Signal T)) (s : Option (Signal T)) (h : History T) → AreKept h (with_made mv o s h)
kept_made (Ask t n) o s h = kept_moved t o s h
kept_made (Send t n) o s h = kept_moved t o s h
kept_made (Take t n) o s h = kept_moved t o s h
kept_made (Pick t n i) o s h = kept_moved t o s h
kept_made (Row t n) o s h = kept_moved t o s h
kept_made (Accept i) o s h = record { joins = refl; regions = refl; senders = refl; sources = kept_changed (λ p. p.source) accepted_at (λ p. refl) h.hubs i.0 }

pub regions_same : {M T : Type 0} (feeds gs : List (Feed M)) (r : RegionLists) (h k : History T) → map (λ f. f.hub) gs ≡ map (λ f. f.hub) feeds → AreKept h k → RegionsStand feeds r h → RegionsStand gs r k
regions_same feeds gs r h k same kept j = record {
  roots = j.roots ∙ sym kept.regions;
  senders = j.senders ∙ sym kept.senders;
  fed = kept_same (λ e js. senders_into 0 e) feeds gs r.feed_senders h k same kept.sources j.fed;
}

-- ---- what is published

pub joins_published : {M T : Type 0} (s : Signal T) (n : HubId) (feeds : List (Feed M)) (sub_joins feed_joins : List (List ℕ)) (h : History T) → JoinsStand feeds sub_joins feed_joins h → JoinsStand feeds sub_joins feed_joins (with_published s n h)
joins_published s n feeds sub_joins feed_joins h j = record {
  subs = j.subs;
  fed = λ i p q. as_joins feeds feed_joins i p.source (kept_published own_joins s n feeds feed_joins h (λ x r o. as_kept feeds feed_joins x r.source (j.fed x r o)) i p q);
}

pub regions_published : {M T : Type 0} (s : Signal T) (n : HubId) (feeds : List (Feed M)) (r : RegionLists) (h : History T) → RegionsStand feeds r h → RegionsStand feeds r (with_published s n h)
regions_published s n feeds r h j = record { roots = j.roots; senders = j.senders; fed = kept_published (λ e js. senders_into 0 e) s n feeds r.feed_senders h j.fed }
