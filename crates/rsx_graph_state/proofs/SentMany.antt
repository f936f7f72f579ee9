-- A feed that sends many items into its hub at once makes as many moves, each of them enabled.
use Rattle.std.proofs.Common.{◌≡◌, ℕ, ◌+◌, ◌-◌, ◌≤◌, ◌&&◌, Bool, true, false, nat_eq, if◌then◌else◌, List, [], ◌∷◌, length, reverse, set, slice_get, Some, is_some, refl, ap, sym, ◌∙◌, subst, arith}
use Rattle.rsx_types.specs.declared.signal.Signal.TheVariants.{Next}
use Rattle.rsx_types.specs.Meaning.{Meaning}
use Rattle.rsx_sources.specs.declared.machine.Machine.{Ghosts as Machine}
use Rattle.rsx_hub.specs.Hub.{AreTakenIn, HubState, taken_in, takes_signal}
use Rattle.rsx_tree.specs.Runs.{Leads, LeadsBy}
use Rattle.rsx_tree.proofs.Runs.{leads_by_lift}
use Rattle.rsx_tree.specs.declared.look.NodeMove.{NodeMove}
use Rattle.rsx_tree.specs.declared.look.NodeMove.TheVariants.{Ask, Send, Pick, Row}
use Rattle.rsx_rooted.proofs.ManyFetched.{fed_beside}
use Rattle.rsx_rooted.specs.Taking.{blocks}
use Rattle.rsx_pipe.specs.Feeding.{IsSentOut, inside_enabled}
use Rattle.rsx_pipe.specs.Fetched.{AreFed, IsMovedInside}
use Rattle.rsx_pipe.specs.Part.{Part}
use Rattle.rsx_subscriber.specs.declared.subscription.Subscription.{Subscription}
use Rattle.rsx_graph_state.specs.AtOnce.{AreSent, IsFeedMove, IsItemHandedToAll, spaces_of_all}
use Rattle.rsx_graph_state.specs.Feeds.{reads_at}
use Rattle.rsx_graph_state.specs.Moves.{has_feed, is_out, rows_of, sends, sends_where, works_where}
use Rattle.rsx_graph_state.specs.Publishing.{AllFeedsHanded, AllHanded, all_have_room, feed_readers, have_room, readers}
use Rattle.rsx_graph_state.specs.Sending.{can_feed, takes_next}
use Rattle.rsx_graph_state.specs.Stands.{Rows, feed_of, place_of}
use Rattle.rsx_graph_state.specs.declared.feed.Feed.{Feed}
use Rattle.rsx_graph_state.proofs.Accepts.{set_itself}
use Rattle.rsx_graph_state.proofs.Calls.{out_enabled, out_moved, work_enabled, work_moved}
use Rattle.rsx_graph_state.proofs.Graphs.{set_twice}
use Rattle.rsx_graph_state.proofs.Named.{feed_named}
use Rattle.rsx_graph_state.proofs.OneFeed.{unread_feeds, unread_rooms}
use Rattle.rsx_graph_state.proofs.Places.{place_set, placed_feed}
use Rattle.rsx_graph_state.proofs.Sends.{fed_by, reads_own, set_there, total_set}

-- what is behind a feed's root edge: its hub, and the subscriptions
abbrev Behind : Type 0 → Type 0 → Type 0
Behind M T = HubState T × List (Subscription M T)

-- the hub took an item in, and all nodes that read it got it
abbrev IsTakenBehind : {M T : Type 0} → Machine M T → ℕ → Behind M T → T → Behind M T → Type 0
IsTakenBehind mc h old x new = (takes_signal old.0 (Next x) ≡ true) × (new.0 ≡ taken_in old.0 (Next x)) × IsItemHandedToAll mc h old.1 x new.1

taken_behind : {M T : Type 0} (mc : Machine M T) (h : ℕ) (items : List T) (hub hub' : HubState T) (xs ys : List (Subscription M T)) → AreTakenIn hub items hub' → Leads (IsItemHandedToAll mc h) xs items ys → Leads (IsTakenBehind mc h) (hub, xs) items (hub', ys)
taken_behind mc h [] hub hub' xs ys taken handed = λ i. (taken i, handed i)
taken_behind mc h (x ∷ items) hub hub' xs ys taken handed = ((taken.0, handed.0), (taken.1, taken.2, handed.1), taken_behind mc h items taken.0 hub' handed.0 ys taken.3 handed.2)

-- a move inside a part isn't the Send over its root edge
inside_not_out : {M T : Type 0} (mc : Machine M T) (m : Meaning T) (part : Part M) (step : NodeMove) → inside_enabled mc m part step ≡ true → is_out step ≡ false
inside_not_out mc m part (Ask n) e = refl
inside_not_out mc m part (Send n) e = below (nat_eq n 0) _ e
  where
    below : (b x : Bool) → (if b then false else x) ≡ true → b ≡ false
    below true x e = cc
    below false x e = refl
inside_not_out mc m part (Pick n i) e = refl
inside_not_out mc m part (Row n) e = refl

pub all_sent : {M T : Type 0} (mc : Machine M T) (m : Meaning T) (h n at : ℕ) (hubs : List (HubState T)) (feeds : List (Feed M)) (hub hub' : HubState T) (f f' : Feed M) (xs ys : List (Subscription M T)) → slice_get hubs h ≡ Some hub → slice_get feeds at ≡ Some f → place_of feeds h ≡ Some at → feed_readers mc h feeds ≡ 0 → AreSent mc m h n hub hub' f f' xs ys →
    LeadsBy (IsFeedMove mc m h) n (rows_of hubs feeds xs) (rows_of (set hubs h hub') (set feeds at f') ys)
all_sent {M} {T} mc m h n at hubs feeds hub hub' f f' xs ys there from place none k =
    let run = fed_beside mc m (IsTakenBehind mc h) IsStep inside out k.items k.budget k.left f.part f'.part (hub, xs) (hub', ys) k.fed (taken_behind mc h k.items hub hub' xs ys k.taken k.handed) in
    let lifted = leads_by_lift IsStep (IsFeedMove mc m h) rows (λ a b s. s) run.0 (f.part, (hub, xs)) (f'.part, (hub', ys)) run.2 in
    let all : n ≡ run.0 = let one = k.count in let two = run.1 in omega (arith, one, two) in
    let begun : rows (f.part, (hub, xs)) ≡ rows_of hubs feeds xs = λ i. rows_of (set_itself hubs h hub hub there refl i) (set_itself feeds at f f from refl i) xs in
    let ended : feed_with f'.part ≡ f' = λ i. record { part = f'.part; hub = sym k.number i } in
    let E : Feed M → Type 0 = λ g. LeadsBy (IsFeedMove mc m h) n (rows_of hubs feeds xs) (rows_of (set hubs h hub') (set feeds at g) ys) in
    let B : Rows M T → Type 0 = λ r. LeadsBy (IsFeedMove mc m h) n r (rows (f'.part, (hub', ys))) in
    let N : ℕ → Type 0 = λ j. LeadsBy (IsFeedMove mc m h) j (rows (f.part, (hub, xs))) (rows (f'.part, (hub', ys))) in
    subst E ended (subst B begun (subst N (sym all) lifted))
  where
    feed_with : Part M → Feed M
    feed_with p = record { part = p; hub = f.hub }

    feeds_with : Part M → List (Feed M)
    feeds_with p = set feeds at (feed_with p)

    rows : Part M × Behind M T → Rows M T
    rows s = rows_of (set hubs h s.1.0) (feeds_with s.0) s.1.1

    IsStep : Part M × Behind M T → Part M × Behind M T → Type 0
    IsStep a b = IsFeedMove mc m h (rows a) (rows b)

    named : f.hub ≡ h
    named = feed_named feeds h f (placed_feed feeds h at f place from)

    hub_there : (g : HubState T) → slice_get (set hubs h g) h ≡ Some g
    hub_there g = set_there h hubs hub g there

    feed_there : (p : Part M) → slice_get (feeds_with p) at ≡ Some (feed_with p)
    feed_there p = set_there at feeds f (feed_with p) from

    placed : (p : Part M) → place_of (feeds_with p) h ≡ Some at
    placed p = place_set feeds at f (feed_with p) h from refl ∙ place

    found : (p : Part M) → feed_of (feeds_with p) h ≡ Some (feed_with p)
    found p = placed_feed (feeds_with p) h at (feed_with p) (placed p) (feed_there p)

    known : (s : Part M × Behind M T) → has_feed (rows s) h ≡ true
    known s = ap (λ o. is_some o && is_some (feed_of (feeds_with s.0) h)) (hub_there s.1.0) ∙ ap is_some (found s.0)

    unread : (p : Part M) → feed_readers mc h (feeds_with p) ≡ 0
    unread p = total_set (reads_at mc h) at feeds f (feed_with p) from (reads_own mc h (feed_with p) (sym named) ∙ sym (reads_own mc h f (sym named))) ∙ none

    inside : (x y : Part M) (u : Behind M T) → IsMovedInside mc m x y → IsStep (x, u) (y, u)
    inside x y u s =
        let still = inside_not_out mc m x s.move s.enabled in
        record {
          feed = feed_with x;
          named = found x;
          step = s.move;
          enabled = work_enabled mc m h (rows (x, u)) s.move true (known (x, u)) still (ap (λ o. works_where mc m o s.move) (found x) ∙ s.enabled);
          effect = work_moved mc m h (rows (x, u)) (rows (y, u)) s.move still (record {
            made = record { feed = feed_with x; part = y; at = at; place = placed x; there = feed_there x; effect = s.made; others = sym (set_twice feeds at (feed_with x) (feed_with y)) };
            hubs = refl;
            subs = refl;
          });
        }

    out : (x y : Part M) (u v : Behind M T) (item : T) → IsSentOut mc m x (Next item) y → IsTakenBehind mc h u item v → IsStep (x, u) (y, v)
    out x y u v item s taken =
        let fs = feeds_with x in
        let room : all_have_room mc h fs u.1 ≡ true = ap (λ b. b && have_room mc h u.1) (unread_rooms mc h fs (unread x)) ∙ taken.2.room in
        let room_there : all_have_room mc f.hub fs u.1 ≡ true = ap (λ j. all_have_room mc j fs u.1) named ∙ room in
        let can : can_feed mc m (feed_with x) u.0 fs u.1 ≡ true = ap (λ o. takes_next o u.0 (all_have_room mc f.hub fs u.1)) s.next ∙ (ap (λ b. b && all_have_room mc f.hub fs u.1) taken.0 ∙ room_there) in
        let sending : sends mc m (rows (x, u)) h ≡ true = ap (λ o. sends_where mc m (rows (x, u)) o (feed_of fs h)) (hub_there u.0) ∙ (ap (λ o. sends_where mc m (rows (x, u)) (Some u.0) o) (found x) ∙ can) in
        let P : List (Feed M) → Type 0 = λ l. AllFeedsHanded mc h (Next item) l (feeds_with y) in
        let Q : ℕ → Type 0 = λ j. AllFeedsHanded mc j (Next item) (set fs at (feed_with y)) (feeds_with y) in
        let R : ℕ → Type 0 = λ j. AllHanded mc j (Next item) u.1 v.1 in
        let fed = subst Q (sym named) (subst P (sym (set_twice feeds at (feed_with x) (feed_with y))) (unread_feeds mc h (Next item) (feeds_with y) (unread y))) in
        record {
          feed = feed_with x;
          named = found x;
          step = Send 0;
          enabled = out_enabled mc m h (rows (x, u)) (Send 0) true (known (x, u)) refl sending;
          effect = out_moved mc m h (rows (x, u)) (rows (y, v)) (Send 0) refl (record {
            hub = u.0;
            after = v.0;
            at = at;
            there = hub_there u.0;
            place = placed x;
            others = sym (set_twice hubs h u.0 v.0);
            effect = fed_by mc m at u.0 v.0 fs (feeds_with y) (feed_with x) (Next item) y u.1 v.1 (feed_there x) s taken.0 taken.1 fed (subst R (sym named) taken.2.handed);
          });
        }

-- where nothing is sent
pub none_sent : {M T : Type 0} (mc : Machine M T) (m : Meaning T) (h : ℕ) (hub : HubState T) (f : Feed M) (xs : List (Subscription M T)) → AreSent mc m h 0 hub hub f f xs xs
none_sent mc m h hub f xs = record { items = []; budget = 0; left = 0; count = refl; fed = (0, refl, refl); number = refl; taken = refl; handed = refl }

-- no more is left of a budget than there was
pub fed_less : {M T : Type 0} (b : Machine M T) (m : Meaning T) (items : List T) (budget left : ℕ) (old new : Part M) → AreFed b m budget old items left new → left ≤ budget
fed_less b m [] budget left old new k = let e = k.1 in omega (arith, e)
fed_less b m (x ∷ items) budget left old new k =
    let e = k.4 in
    let rest = fed_less b m items k.1 left k.3 new k.7 in
    omega (arith, e, rest)

-- where items were laid out for all nodes that read the hub, the part went on by them, and they were handed to these nodes
pub sent_batch : {M T : Type 0} (mc : Machine M T) (m : Meaning T) (spaces : M → ℕ) (h k count most rest found wide : ℕ) (hub hub' : HubState T) (f : Feed M) (part : Part M) (xs ys : List (Subscription M T)) (items laid left : List T) →
    k ≡ h → count ≡ length items → found ≡ readers mc h xs → wide ≤ spaces_of_all mc spaces h wide xs → length items ≤ wide → AreFed mc m most f.part items rest part →
    ((zs : List T) → length zs ≡ count → AreTakenIn hub zs hub') → laid ≡ blocks found (reverse items) →
    ((wide : ℕ) (zs : List T) → laid ≡ blocks (readers mc k xs) (reverse zs) → length zs ≡ count → count ≤ spaces_of_all mc spaces k wide xs → Leads (IsItemHandedToAll mc k) xs zs ys × (left ≡ [])) →
    AreSent mc m h (most - rest) hub hub' f (record { part = part; hub = f.hub }) xs ys
sent_batch {M} {T} mc m spaces h k count most rest found wide hub hub' f part xs ys items laid left named many all room few fed taken out handed =
    let less = fed_less mc m items most rest f.part part fed in
    let here : found ≡ readers mc k xs = all ∙ ap (λ j. readers mc j xs) (sym named) in
    let wide_here : wide ≤ spaces_of_all mc spaces k wide xs = subst (λ j. wide ≤ spaces_of_all mc spaces j wide xs) (sym named) room in
    let fits : count ≤ spaces_of_all mc spaces k wide xs = omega (arith, many, few, wide_here) in
    let done = handed wide items (out ∙ ap (λ j. blocks j (reverse items)) here) (sym many) fits in
    let L : ℕ → Type 0 = λ j. Leads (IsItemHandedToAll mc j) xs items ys in
    record { items = items; budget = most; left = rest; count = whole most rest less; fed = fed; number = refl; taken = taken items (sym many); handed = subst L named done.0 }
  where
    whole : (a b : ℕ) → b ≤ a → a - b + b ≡ a
    whole a b l = omega (arith, l)
