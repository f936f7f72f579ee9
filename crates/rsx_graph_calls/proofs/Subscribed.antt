-- Rows with feeds with one subscription more, whose leaves joined the hubs.
use Rattle.rsx_sources.specs.declared.machine.Machine.{Ghosts as Machine}
use Rattle.std.proofs.Common.{◌≡◌, ℕ, List, [], ◌∷◌, ◌++◌, map, ap, sym, ◌∙◌, subst}
use Rattle.rsx_graph_state.specs.Prelude.{History, rows_of, Rows, StandsFor, HubState, join, Subscription, JoinsStand}
use Rattle.rsx_graph_state.proofs.Graphs.{AllStand-push}
use Rattle.rsx_graph_state.proofs.Joins.{map_last}
use Rattle.rsx_graph_state.specs.declared.feed.Feed.{Feed}
use Rattle.rsx_rooted.specs.Leaves.{HaveJoinedFrom}
use Rattle.rsx_subscriber.specs.Prelude.{Expr, joins_now, leaf_joins, new_joins, AreTaken, region_of, subscribed, Stands}
use Rattle.rsx_types.specs.Meaning.{Meaning}
use Rattle.rsx_types.specs.Stream.{Stream}
use Rattle.rsx_graph_calls.specs.Edits.{joins_in}
use Rattle.rsx_graph_calls.specs.Regions.{RegionLists, RegionsStand, region_in, senders_in, with_regions}
use Rattle.rsx_graph_calls.specs.Senders.{senders_below}
use Rattle.rsx_graph_calls.specs.Subscribing.{with_subscriber}
use Rattle.rsx_graph_calls.proofs.Fed.{as_taken, hub_joined, members_count}

-- what the hubs of rows that stand for a history took in, and the joins that a new leaf gets there
found_there : {M T : Type 0} (mc : Machine M T) (m : Meaning T) (g : Rows M T) (h : History T) → (s : StandsFor mc m g h) → AreTaken g.hubs s.taken × (joins_now g.hubs ≡ map (λ p. join p.kind p.count) h.hubs)
found_there mc m g h s = as_taken g.hubs s.taken h.hubs (λ i v t p x y z. let one = s.hub i v t p x y z in (one.taken_in, one.kind, one.count)) s.many s.each

pub new_joins_there : {M T : Type 0} (mc : Machine M T) (m : Meaning T) (e : Expr T) (g : Rows M T) (h : History T) → StandsFor mc m g h → new_joins g.hubs e ≡ joins_in h e
new_joins_there mc m e g h s = ap (λ js. leaf_joins js e) (found_there mc m g h s).1

pub subscribed_made : {M T : Type 0} (mc : Machine M T) (m : Meaning T) (e : Expr T) (old : Rows M T) (hubs : List (HubState T)) (subs : List (Subscription M T)) (sub : Subscription M T) (h : History T) →
    subs ≡ old.subs ++ sub ∷ [] → ((published : List (Stream T)) → AreTaken old.hubs published → Stands mc m published sub (subscribed e (new_joins old.hubs e))) → HaveJoinedFrom 0 e old.hubs hubs → StandsFor mc m old h → StandsFor mc m (rows_of hubs old.feeds subs) (with_subscriber e h)
subscribed_made {M} {T} mc m e old hubs subs sub h is stands j s =
    let found = found_there mc m old h s in
    let J : List ℕ → Type 0 = λ js. Stands mc m s.taken sub (subscribed e js) in
    let P : List (Subscription M T) → Type 0 = λ l. StandsFor mc m (rows_of hubs old.feeds l) (with_subscriber e h) in
    subst P (sym is) (record {
      taken = s.taken;
      many = members_count 0 e old.hubs hubs j ∙ s.many;
      each = s.each;
      hub = hub_joined mc m e old hubs h j s;
      all = AllStand-push mc m s.taken old.subs h.pasts sub (subscribed e (joins_in h e)) (subst J (ap (λ js. leaf_joins js e) found.1) (stands s.taken found.0)) s.all;
    })

-- so do its joins, behind those of the others
pub joins_made : {M T : Type 0} (mc : Machine M T) (m : Meaning T) (e : Expr T) (old : Rows M T) (joins news feed_joins : List (List ℕ)) (h : History T) → news ≡ joins ++ new_joins old.hubs e ∷ [] → StandsFor mc m old h → JoinsStand old.feeds joins feed_joins h → JoinsStand old.feeds news feed_joins (with_subscriber e h)
joins_made mc m e old joins news feed_joins h is s k =
    let same = new_joins_there mc m e old h s in
    record {
      subs = is ∙ (ap (λ l. l ++ new_joins old.hubs e ∷ []) k.subs ∙ (ap (λ js. map (λ p. p.joins) h.pasts ++ js ∷ []) same ∙ sym (map_last (λ p. p.joins) h.pasts (subscribed e (joins_in h e)))));
      fed = k.fed;
    }

-- and so do its regions, behind those of the others
pub regions_made : {M T : Type 0} (e : Expr T) (feeds : List (Feed M)) (r news : RegionLists) (h : History T) → news ≡ with_regions e r → RegionsStand feeds r h → RegionsStand feeds news (with_subscriber e h)
regions_made {M} {T} e feeds r news h is k =
    let P : RegionLists → Type 0 = λ x. RegionsStand feeds x (with_subscriber e h) in
    subst P (sym is) (record {
      roots = ap (λ l. l ++ region_of e ∷ []) k.roots ∙ sym (map_last region_in h.pasts (subscribed e (joins_in h e)));
      senders = ap (λ l. l ++ senders_below e ∷ []) k.senders ∙ sym (map_last senders_in h.pasts (subscribed e (joins_in h e)));
      fed = k.fed;
    })
