-- Where a script begins.
use Rattle.rsx_session.specs.Prelude.{AllStand, Feed, NameHubs, Place, Session, SessionStands, Stream, Subscription, Val, begun, demo_meaning, no_history, place_of}
use Rattle.std.proofs.Common.{◌≡◌, ℕ, List, [], ◌∷◌, length, map, refl, ap, ◌∙◌, arith}
use Rattle.std.proofs.lemmas.List.{length-map, nil_from_length}
use Rattle.rsx_graph.specs.Rows.{RegionLists, no_regions, regions_of}
use Rattle.rsx_graph_state.specs.Prelude.{HubState}

no_subs : (published : List (Stream Val)) (subs : List (Subscription Val)) → AllStand demo_meaning published subs [] → subs ≡ []
no_subs published [] k = refl
no_subs published (s ∷ subs) k = absurd k

-- each feed names a hub
no_feeds : (n : ℕ) (feeds : List (Feed Val)) → n ≡ 0 → NameHubs n feeds → feeds ≡ []
no_feeds n [] e k = refl
no_feeds n (f ∷ feeds) e k = let less = k.0 in absurd (omega (arith, e, less))

-- each list of regions is empty
no_places : (r : RegionLists) → r.roots ≡ [] → r.senders ≡ [] → r.feed_senders ≡ [] → r ≡ no_regions
no_places r roots senders feeds = λ i. record { roots = roots i; senders = senders i; feed_senders = feeds i }

abbrev place_with : List (HubState Val) → List (Feed Val) → List (Subscription Val) → List (List ℕ) → List (List ℕ) → RegionLists → Place
place_with hubs feeds subs joins feed_joins regions = record { graph = record { rows = record { hubs = hubs; feeds = feeds; subs = subs }; joins = joins; feed_joins = feed_joins; regions = regions }; history = no_history }

-- a session for which nothing has happened stands where a script begins
pub at_begin : (session : Session) → SessionStands session no_history → place_of session no_history ≡ begun
at_begin session s =
    let hubs = session.graph.hubs.items in
    let feeds = session.graph.feeds.items in
    let subs = session.graph.subscriptions.items in
    let joins : List (List ℕ) = map (λ v. v.items) session.graph.joins.items in
    let feed_joins : List (List ℕ) = map (λ v. v.items) session.graph.feed_joins.items in
    let regions = regions_of session.graph.regions in
    let many : length hubs ≡ 0 = s.graph.rows.many in
    let unfed : feeds ≡ [] = no_feeds (length hubs) feeds many session.graph.named in
    let beside : length feed_joins ≡ 0 = length-map session.graph.feed_joins.items (λ v. v.items) ∙ (session.graph.beside ∙ ap length unfed) in
    let sent : length regions.feed_senders ≡ 0 = length-map session.graph.regions.feed_senders.items (λ v. v.items) ∙ (session.graph.sent ∙ ap length unfed) in
    ap (λ x. place_with x feeds subs joins feed_joins regions) (nil_from_length hubs many)
    ∙ (ap (λ x. place_with [] x subs joins feed_joins regions) unfed
    ∙ (ap (λ x. place_with [] [] x joins feed_joins regions) (no_subs s.graph.rows.taken subs s.graph.rows.all)
    ∙ (ap (λ x. place_with [] [] [] x feed_joins regions) s.graph.joined.subs
    ∙ (ap (λ x. place_with [] [] [] [] x regions) (nil_from_length feed_joins beside) ∙ ap (λ x. place_with [] [] [] [] [] x) (no_places regions s.graph.placed.roots s.graph.placed.senders (nil_from_length regions.feed_senders sent))))))
