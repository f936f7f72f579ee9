-- A hub that takes in several items at once makes as many Accepts, each of them enabled.
use Rattle.std.proofs.Common.{◌≡◌, ℕ, zero, suc, ◌+◌, ◌≤◌, true, false, ◌&&◌, List, [], ◌∷◌, length, reverse, set, slice_get, Some, None, Result, Ok, Err, refl, ap, sym, ◌∙◌, subst, arith}
use Rattle.rsx_types.specs.declared.signal.Signal.TheVariants.{Next}
use Rattle.rsx_sources.specs.declared.machine.Machine.{Ghosts as Machine}
use Rattle.std.specs.Prelude.{OnOk, is_err}
use Rattle.rsx_hub.proofs.Accepting.{all_by_one}
use Rattle.rsx_hub.specs.Hub.{AllByOne, HubState, accepted, all_accepted, replayed, waiting}
use Rattle.rsx_rooted.proofs.TakenOff.{blocks_add}
use Rattle.rsx_rooted.specs.Taking.{AreTakenOff, blocks}
use Rattle.rsx_tree.specs.Runs.{Leads, LeadsBy}
use Rattle.rsx_subscriber.specs.declared.subscription.Subscription.{Subscription}
use Rattle.rsx_graph_state.specs.AtOnce.{AreAccepted, IsAccept, IsItemHandedToAll, IsItemHandedToFeeds, spaces_of_all, spaces_of_feeds}
use Rattle.rsx_graph_state.specs.Moves.{rows_of}
use Rattle.rsx_graph_state.specs.Publishing.{all_readers, can_accept, feed_readers, feeds_have_room, have_room, is_ready, readers}
use Rattle.rsx_graph_state.specs.Stands.{feed_of}
use Rattle.rsx_graph_state.specs.declared.feed.Feed.{Feed}
use Rattle.rsx_graph_state.proofs.Calls.{accept_effect, accepts_there}
use Rattle.rsx_graph_state.proofs.Graphs.{set_twice}
use Rattle.rsx_graph_state.proofs.Places.{feeds_length, unfed_handed}
use Rattle.rsx_graph_state.proofs.Publishes.{handed_length}
use Rattle.rsx_graph_state.proofs.Sends.{set_there}
use Rattle.rsx_graph_state.proofs.Taken.{published_on}

-- one item
accept_one : {M T : Type 0} (mc : Machine M T) (h : ℕ) (hubs : List (HubState T)) (hub mid : HubState T) (fs gs : List (Feed M)) (x : T) (xs ys : List (Subscription M T)) → slice_get hubs h ≡ Some hub → feed_of fs h ≡ None → waiting hub ≡ Some (Next x) → mid ≡ accepted hub (Some (Next x)) → IsItemHandedToFeeds mc h fs x gs → IsItemHandedToAll mc h xs x ys →
    IsAccept mc h (rows_of hubs fs xs) (rows_of (set hubs h mid) gs ys)
accept_one {M} {T} mc h hubs hub mid fs gs x xs ys there unfed waits taken fed k =
    let room = ap (λ b. b && have_room mc h xs) fed.room ∙ k.room in
    let can : can_accept mc h hub fs xs ≡ true = ap (λ o. is_ready o (feeds_have_room mc h fs && have_room mc h xs)) waits ∙ room in
    record {
      enabled = accepts_there mc h hubs hub fs fs xs xs true there refl refl unfed can;
      effect = accept_effect mc h hubs hub mid fs fs gs xs xs ys there refl refl unfed (record { signal = Next x; waited = waits; taken = taken; fed = fed.handed; handed = k.handed; published = λ v is empty. published_on hub mid (Next x) v waits taken is empty });
    }

pub set_itself : {A : Type 0} (xs : List A) (i : ℕ) (x y : A) → slice_get xs i ≡ Some x → y ≡ x → set xs i y ≡ xs
set_itself [] i x y e s = cc
set_itself (z ∷ zs) zero x y e s = let f : z ≡ x = cc in ap (λ w. w ∷ zs) (s ∙ sym f)
set_itself (z ∷ zs) (suc i) x y e s = ap (λ l. z ∷ l) (set_itself zs i x y e s)

accept_items : {M T : Type 0} (mc : Machine M T) (h : ℕ) (hubs : List (HubState T)) (hub hub' : HubState T) (fs gs : List (Feed M)) (items : List T) (xs ys : List (Subscription M T)) → slice_get hubs h ≡ Some hub → feed_of fs h ≡ None → AllByOne hub items hub' → Leads (IsItemHandedToFeeds mc h) fs items gs → Leads (IsItemHandedToAll mc h) xs items ys →
    LeadsBy (IsAccept mc h) (length items) (rows_of hubs fs xs) (rows_of (set hubs h hub') gs ys)
accept_items mc h hubs hub hub' fs gs [] xs ys there unfed taken fed handed = λ i. rows_of (set_itself hubs h hub hub' there taken i) (fed i) (handed i)
accept_items {M} {T} mc h hubs hub hub' fs gs (x ∷ items) xs ys there unfed taken fed handed =
    let mid = taken.0 in
    let after = set hubs h mid in
    let one = accept_one mc h hubs hub mid fs fed.0 x xs handed.0 there unfed taken.1 taken.2 fed.1 handed.1 in
    let still = unfed_handed mc h (Next x) fs fed.0 h fed.1.handed unfed in
    let rest = accept_items mc h after mid hub' fed.0 gs items handed.0 ys (set_there h hubs hub mid there) still taken.3 fed.2 handed.2 in
    let L : List (HubState T) → Type 0 = λ l. LeadsBy (IsAccept mc h) (length items) (rows_of after fed.0 handed.0) (rows_of l gs ys) in
    (rows_of after fed.0 handed.0, one, subst L (set_twice hubs h mid hub') rest)

-- all of them
pub all_accepts : {M T : Type 0} (mc : Machine M T) (h n : ℕ) (hubs : List (HubState T)) (hub hub' : HubState T) (feeds fs gs : List (Feed M)) (subs xs ys : List (Subscription M T)) → slice_get hubs h ≡ Some hub → feed_of feeds h ≡ None → fs ≡ feeds → xs ≡ subs → AreAccepted mc h n hub hub' fs gs xs ys →
    LeadsBy (IsAccept mc h) n (rows_of hubs feeds subs) (rows_of (set hubs h hub') gs ys)
all_accepts {M} {T} mc h n hubs hub hub' feeds fs gs subs xs ys there unfed alike same k =
    let S : List (Subscription M T) → Type 0 = λ l. LeadsBy (IsAccept mc h) n (rows_of hubs feeds l) (rows_of (set hubs h hub') gs ys) in
    let F : List (Feed M) → Type 0 = λ l. LeadsBy (IsAccept mc h) n (rows_of hubs l xs) (rows_of (set hubs h hub') gs ys) in
    let N : ℕ → Type 0 = λ j. LeadsBy (IsAccept mc h) j (rows_of hubs fs xs) (rows_of (set hubs h hub') gs ys) in
    let none : feed_of fs h ≡ None = ap (λ l. feed_of l h) alike ∙ unfed in
    subst S same (subst F alike (subst N k.count (accept_items mc h hubs hub hub' fs gs k.items xs ys there none k.taken k.fed k.handed)))

-- as many feeds as before
pub fed_as_many : {M T : Type 0} (mc : Machine M T) (h : ℕ) (items : List T) (fs gs : List (Feed M)) → Leads (IsItemHandedToFeeds mc h) fs items gs → length gs ≡ length fs
fed_as_many mc h [] fs gs k = ap length k
fed_as_many mc h (x ∷ items) fs gs k = fed_as_many mc h items k.0 gs k.2 ∙ feeds_length mc h (Next x) fs k.0 k.1.handed

-- as many subscriptions as before
pub handed_as_many : {M T : Type 0} (mc : Machine M T) (h : ℕ) (items : List T) (xs ys : List (Subscription M T)) → Leads (IsItemHandedToAll mc h) xs items ys → length ys ≡ length xs
handed_as_many mc h [] xs ys k = ap length k
handed_as_many mc h (x ∷ items) xs ys k = handed_as_many mc h items k.0 ys k.2 ∙ handed_length mc h (Next x) xs k.0 k.1.handed

-- where it does nothing
pub none_accepted : {M T : Type 0} (mc : Machine M T) (h : ℕ) (hub : HubState T) (fs : List (Feed M)) (xs : List (Subscription M T)) → AreAccepted mc h 0 hub hub fs fs xs xs
none_accepted mc h hub fs xs = record { items = []; count = refl; taken = refl; fed = refl; handed = refl }

-- where it was laid out and handed to all
pub handed_all : {M T A E : Type 0} (mc : Machine M T) (spaces : M → ℕ) (h n count found : ℕ) (hub hub' : HubState T) (fs gs : List (Feed M)) (xs ys : List (Subscription M T)) (items low left : List T) (r : Result A E) → h ≡ n → count ≡ length hub.inbox → replayed hub.kind ≡ 0 → found ≡ all_readers mc h fs xs → count ≤ spaces_of_feeds mc spaces h count fs → count ≤ spaces_of_all mc spaces h count xs → is_err r ≡ false →
    OnOk r (items ≡ blocks found (reverse hub.inbox)) → OnOk r (hub' ≡ all_accepted hub) →
    ((most : ℕ) → AreTakenOff (feed_readers mc h fs) count (spaces_of_feeds mc spaces h most fs) items low (λ given. Leads (IsItemHandedToFeeds mc h) fs given gs)) →
    ((most : ℕ) (given : List T) → low ≡ blocks (readers mc h xs) (reverse given) → length given ≡ count → count ≤ spaces_of_all mc spaces h most xs → Leads (IsItemHandedToAll mc h) xs given ys × (left ≡ [])) →
    AreAccepted mc n count hub hub' fs gs xs ys × (left ≡ [])
handed_all {M} {T} mc spaces h n count found hub hub' fs gs xs ys items low left (Ok a) named many none all feeds fits fine laid taken fed handed =
    let ys' = reverse hub.inbox in
    let turned : found ≡ readers mc h xs + feed_readers mc h fs = all ∙ swapped (feed_readers mc h fs) (readers mc h xs) in
    let listed = laid ∙ (ap (λ k. blocks k ys') turned ∙ blocks_add (readers mc h xs) (feed_readers mc h fs) ys') in
    let first = fed count (blocks (readers mc h xs) ys') hub.inbox listed (sym many) feeds in
    let done = handed count hub.inbox first.1 (sym many) fits in
    let B : HubState T → Type 0 = λ k. AllByOne hub hub.inbox k in
    let F : ℕ → Type 0 = λ k. Leads (IsItemHandedToFeeds mc k) fs hub.inbox gs in
    let L : ℕ → Type 0 = λ k. Leads (IsItemHandedToAll mc k) xs hub.inbox ys in
    (record { items = hub.inbox; count = sym many; taken = subst B (sym taken) (all_by_one hub none); fed = subst F named first.0; handed = subst L named done.0 }, done.1)
  where
    swapped : (a b : ℕ) → a + b ≡ b + a
    swapped a b = omega arith
handed_all mc spaces h n count found hub hub' fs gs xs ys items low left (Err e) named many none all feeds fits fine laid taken fed handed = cc
