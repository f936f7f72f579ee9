-- What the calls of hubs and feeds did, as moves of the rows.
use Rattle.rsx_sources.specs.declared.machine.Machine.{Ghosts as Machine}
use Rattle.std.proofs.Common.{Vec, ◌≡◌, ℕ, zero, suc, ◌<◌, ◌≤◌, Bool, true, false, ◌&&◌, if◌then◌else◌, List, [], ◌∷◌, length, slice_get, Option, Some, None, is_some, is_none, refl, ap, sym, ◌∙◌, subst, arith}
use Rattle.std.proofs.Math.ListN.{set}
use Rattle.std.proofs.lemmas.List.{length-set, with_items_is}
use Rattle.std.specs.Vec.{with_items}
use Rattle.rsx_graph_state.proofs.Publishes.{handed_length}
use Rattle.rsx_hub.specs.Hub.{HubState}
use Rattle.rsx_graph_state.specs.Publishing.{IsAccepted, can_accept}
use Rattle.rsx_graph_state.specs.Sending.{IsFed, can_feed_at, can_feed_of}
use Rattle.rsx_graph_state.specs.declared.feed.Feed.{Feed}
use Rattle.rsx_subscriber.specs.declared.subscription.Subscription.{Subscription}
use Rattle.rsx_tree.specs.declared.look.NodeMove.{NodeMove}
use Rattle.rsx_types.specs.Meaning.{Meaning, Allocates}
use Rattle.rsx_graph_state.specs.Moves.{IsAcceptedAt, IsFedAt, IsFeedMoved, IsMadeInFeed, IsMovedBy, accepts_at, accepts_in, allocates_inside, feed_allocates, feed_enabled, has_feed, is_out, rows_of, sends, sends_where, works}
use Rattle.rsx_graph_state.specs.Stands.{Rows, feed_of, place_of}
use Rattle.rsx_graph_state.specs.SubscriptionSet.{NoneReads}
use Rattle.rsx_graph_state.specs.declared.skipped.Skipped.{Skipped}
use Rattle.rsx_graph_state.proofs.Named.{feed_named}
use Rattle.rsx_graph_state.proofs.Places.{feed_placed, feeds_length, placed_feed, unfed_there}

there : {A : Type 0} (xs : List A) (n : ℕ) → n < length xs → (x : A) × (slice_get xs n ≡ Some x)
there [] n l = absurd (omega (arith, l))
there (x ∷ xs) zero l = (x, refl)
there (x ∷ xs) (suc n) l = there xs n (omega (arith, l))

none_there : {A : Type 0} (xs : List A) (n : ℕ) → length xs ≤ n → slice_get xs n ≡ None
none_there [] n l = refl
none_there (x ∷ xs) zero l = absurd (omega (arith, l))
none_there (x ∷ xs) (suc n) l = none_there xs n (omega (arith, l))

-- the place that was found
pub place_is : {M : Type 0} (h : ℕ) (feeds fs : List (Feed M)) (found o : Option ℕ) → fs ≡ feeds → found ≡ place_of fs h → found ≡ o → place_of feeds h ≡ o
place_is h feeds fs found o same is e = ap (λ l. place_of l h) (sym same) ∙ (sym is ∙ e)

-- the elements of a vector were lent as a list, and are these now
pub lent_back : {X Z : Type 0} (v : Vec X Z) (lent news : List X) → lent ≡ v.items → length lent ≡ v.len → length news ≡ length lent → length (with_items v news).items ≡ length v.items
lent_back v lent news value len many = ap length (with_items_is v news (many ∙ len)) ∙ (many ∙ ap length value)

pub lent_same : {X Z : Type 0} (v : Vec X Z) (lent news : List X) → lent ≡ v.items → length lent ≡ v.len → news ≡ lent → (with_items v news).items ≡ v.items
lent_same v lent news value len same = with_items_is v news (ap length same ∙ len) ∙ (same ∙ value)

-- ---- an Accept

pub accept_effect : {M T : Type 0} (mc : Machine M T) (n : ℕ) (hubs : List (HubState T)) (hub after : HubState T) (feeds fs gs : List (Feed M)) (subs olds news : List (Subscription M T)) → slice_get hubs n ≡ Some hub → fs ≡ feeds → olds ≡ subs → feed_of feeds n ≡ None → IsAccepted mc n hub after fs gs olds news → IsAcceptedAt mc n (rows_of hubs feeds subs) (rows_of (set hubs n after) gs news)
accept_effect {M} {T} mc n hubs hub after feeds fs gs subs olds news at same all unfed k =
    let P : List (Feed M) → Type 0 = λ l. IsAccepted mc n hub after l gs olds news in
    let Q : List (Subscription M T) → Type 0 = λ l. IsAccepted mc n hub after feeds gs l news in
    record { hub = hub; after = after; there = at; unfed = unfed; others = refl; effect = subst Q all (subst P same k) }

pub accepts_there : {M T : Type 0} (mc : Machine M T) (n : ℕ) (hubs : List (HubState T)) (hub : HubState T) (feeds fs : List (Feed M)) (subs olds : List (Subscription M T)) (b : Bool) → slice_get hubs n ≡ Some hub → fs ≡ feeds → olds ≡ subs → feed_of feeds n ≡ None → can_accept mc n hub fs olds ≡ b → accepts_at mc (rows_of hubs feeds subs) n ≡ b
accepts_there mc n hubs hub feeds fs subs olds b at same all unfed is =
    ap (λ o. accepts_in mc (rows_of hubs feeds subs) o n) at
    ∙ (ap (λ o. is_none o && can_accept mc n hub feeds subs) unfed
    ∙ (ap (λ l. can_accept mc n hub l subs) (sym same) ∙ (ap (λ l. can_accept mc n hub fs l) (sym all) ∙ is)))

-- a hub with a feed takes nothing in of an emitter
pub fed_accepts_none : {M T : Type 0} (mc : Machine M T) (n at : ℕ) (hubs : List (HubState T)) (feeds : List (Feed M)) (subs : List (Subscription M T)) → place_of feeds n ≡ Some at → accepts_at mc (rows_of hubs feeds subs) n ≡ false
fed_accepts_none {M} {T} mc n at hubs feeds subs place = by_hub (slice_get hubs n)
  where
    by_hub : (o : Option (HubState T)) → accepts_in mc (rows_of hubs feeds subs) o n ≡ false
    by_hub None = refl
    by_hub (Some hub) = ap (λ o. is_none o && can_accept mc n hub feeds subs) (feed_placed feeds n at place).named

-- ---- a feed's Send into its hub

pub fed_effect : {M T : Type 0} (mc : Machine M T) (m : Meaning T) (n at : ℕ) (hubs : List (HubState T)) (hub after : HubState T) (feeds fs gs : List (Feed M)) (subs olds news : List (Subscription M T)) → slice_get hubs n ≡ Some hub → fs ≡ feeds → olds ≡ subs → place_of feeds n ≡ Some at → IsFed mc m at hub after fs gs olds news → IsFedAt mc m n (rows_of hubs feeds subs) (rows_of (set hubs n after) gs news)
fed_effect {M} {T} mc m n at hubs hub after feeds fs gs subs olds news is same all place k =
    let P : List (Feed M) → Type 0 = λ l. IsFed mc m at hub after l gs olds news in
    let Q : List (Subscription M T) → Type 0 = λ l. IsFed mc m at hub after feeds gs l news in
    record { hub = hub; after = after; at = at; there = is; place = place; others = refl; effect = subst Q all (subst P same k) }

pub fed_length : {M T : Type 0} (mc : Machine M T) (m : Meaning T) (at : ℕ) (hub after : HubState T) (fs gs : List (Feed M)) (olds news : List (Subscription M T)) → IsFed mc m at hub after fs gs olds news → length gs ≡ length fs
fed_length {M} {T} mc m at hub after fs gs olds news k =
    let mid : Feed M = record { part = k.part; hub = k.feed.hub } in
    feeds_length mc k.feed.hub k.signal (set fs at mid) gs k.fed ∙ length-set fs at mid

pub fed_subs_length : {M T : Type 0} (mc : Machine M T) (m : Meaning T) (at : ℕ) (hub after : HubState T) (fs gs : List (Feed M)) (olds news : List (Subscription M T)) → IsFed mc m at hub after fs gs olds news → length news ≡ length olds
fed_subs_length mc m at hub after fs gs olds news k = handed_length mc k.feed.hub k.signal olds news k.handed

pub sends_there : {M T : Type 0} (mc : Machine M T) (m : Meaning T) (n at : ℕ) (hubs : List (HubState T)) (hub : HubState T) (feeds fs : List (Feed M)) (subs olds : List (Subscription M T)) (b : Bool) → slice_get hubs n ≡ Some hub → fs ≡ feeds → olds ≡ subs → place_of feeds n ≡ Some at → can_feed_at mc m at hub fs olds ≡ b → sends mc m (rows_of hubs feeds subs) n ≡ b
sends_there mc m n at hubs hub feeds fs subs olds b is same all place can =
    let f = feed_placed feeds n at place in
    ap (λ o. sends_where mc m (rows_of hubs feeds subs) o (feed_of feeds n)) is
    ∙ (ap (λ o. sends_where mc m (rows_of hubs feeds subs) (Some hub) o) f.named
    ∙ (ap (λ o. can_feed_of mc m o hub feeds subs) (sym f.there)
    ∙ (ap (λ l. can_feed_at mc m at hub l subs) (sym same) ∙ (ap (λ l. can_feed_at mc m at hub fs l) (sym all) ∙ can))))

-- those that are skipped don't read the hub that the feed names
pub unread_of : {M T : Type 0} (mc : Machine M T) (n at : ℕ) (f : Feed M) (skipped : Skipped) (feeds fs : List (Feed M)) (subs olds : List (Subscription M T)) → place_of feeds n ≡ Some at → fs ≡ feeds → olds ≡ subs → slice_get fs at ≡ Some f → NoneReads mc n skipped subs → NoneReads mc f.hub skipped olds
unread_of {M} {T} mc n at f skipped feeds fs subs olds place same all there none =
    let P : List (Feed M) → Type 0 = λ l. slice_get l at ≡ Some f in
    let Q : List (Subscription M T) → Type 0 = λ l. NoneReads mc f.hub skipped l in
    let R : ℕ → Type 0 = λ k. NoneReads mc k skipped subs in
    subst Q (sym all) (subst R (sym (feed_named feeds n f (placed_feed feeds n at f place (subst P same there)))) none)

-- ---- any move of a feed

pub unknown_hub : {M T : Type 0} (n : ℕ) (g : Rows M T) → length g.hubs ≤ n → has_feed g n ≡ false
unknown_hub n g l = ap (λ o. is_some o && is_some (feed_of g.feeds n)) (none_there g.hubs n l)

pub unknown_feed : {M T : Type 0} (n : ℕ) (g : Rows M T) → n < length g.hubs → place_of g.feeds n ≡ None → has_feed g n ≡ false
unknown_feed n g l place = ap (λ o. is_some o && is_some (feed_of g.feeds n)) (there g.hubs n l).1 ∙ ap is_some (unfed_there g.feeds n place)

pub known_feed : {M T : Type 0} (n at : ℕ) (g : Rows M T) → n < length g.hubs → place_of g.feeds n ≡ Some at → has_feed g n ≡ true
known_feed n at g l place = ap (λ o. is_some o && is_some (feed_of g.feeds n)) (there g.hubs n l).1 ∙ ap is_some (feed_placed g.feeds n at place).named

pub out_enabled : {M T : Type 0} (mc : Machine M T) (m : Meaning T) (n : ℕ) (g : Rows M T) (step : NodeMove) (b : Bool) → has_feed g n ≡ true → is_out step ≡ true → sends mc m g n ≡ b → feed_enabled mc m g n step ≡ b
out_enabled mc m n g step b known out is =
    ap (λ k. k && (if is_out step then sends mc m g n else works mc m g.feeds n step)) known ∙ (ap (λ k. if k then sends mc m g n else works mc m g.feeds n step) out ∙ is)

pub work_enabled : {M T : Type 0} (mc : Machine M T) (m : Meaning T) (n : ℕ) (g : Rows M T) (step : NodeMove) (b : Bool) → has_feed g n ≡ true → is_out step ≡ false → works mc m g.feeds n step ≡ b → feed_enabled mc m g n step ≡ b
work_enabled mc m n g step b known out is =
    ap (λ k. k && (if is_out step then sends mc m g n else works mc m g.feeds n step)) known ∙ (ap (λ k. if k then sends mc m g n else works mc m g.feeds n step) out ∙ is)

pub out_moved : {M T : Type 0} (mc : Machine M T) (m : Meaning T) (n : ℕ) (old new : Rows M T) (step : NodeMove) → is_out step ≡ true → IsFedAt mc m n old new → IsFeedMoved mc m step n old new
out_moved {M} {T} mc m n old new step out k = let P : Bool → Type 0 = λ b. IsMovedBy mc m step b n old new in subst P (sym out) k

pub work_moved : {M T : Type 0} (mc : Machine M T) (m : Meaning T) (n : ℕ) (old new : Rows M T) (step : NodeMove) → is_out step ≡ false → IsMadeInFeed mc m step n old new → IsFeedMoved mc m step n old new
work_moved {M} {T} mc m n old new step out k = let P : Bool → Type 0 = λ b. IsMovedBy mc m step b n old new in subst P (sym out) k

-- a Send into the hub may allocate
pub out_allocates : {M T : Type 0} (mc : Machine M T) (a : Allocates) (feeds : List (Feed M)) (n : ℕ) (step : NodeMove) → is_out step ≡ true → feed_allocates mc a feeds n step ≡ false → ⊥
out_allocates mc a feeds n step out free = let yes = ap (λ b. if b then true else allocates_inside mc a (feed_of feeds n) step) out in cc

pub work_allocates : {M T : Type 0} (mc : Machine M T) (a : Allocates) (feeds : List (Feed M)) (n : ℕ) (step : NodeMove) → is_out step ≡ false → feed_allocates mc a feeds n step ≡ false → allocates_inside mc a (feed_of feeds n) step ≡ false
work_allocates mc a feeds n step out free = sym (ap (λ b. if b then true else allocates_inside mc a (feed_of feeds n) step) out) ∙ free
