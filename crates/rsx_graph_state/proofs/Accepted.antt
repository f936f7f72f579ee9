-- A signal that a hub took in and that was handed to all feeds and subscriptions.
use Rattle.rsx_sources.specs.declared.machine.Machine.{Ghosts as Machine}
use Rattle.std.proofs.Common.{◌≡◌, ◌≢◌, ℕ, ◌+◌, min, Bool, true, List, [], Some, ap, sym, ◌∙◌, subst, arith}
use Rattle.rsx_types.specs.declared.signal.Signal.{Signal}
use Rattle.rsx_hub.specs.Hub.{HubState, accepted, waiting}
use Rattle.rsx_tree.specs.Handed.{IsHandedOut, times}
use Rattle.rsx_subscriber.specs.declared.subscription.Subscription.{Subscription}
use Rattle.rsx_graph_state.specs.declared.feed.Feed.{Feed}
use Rattle.rsx_graph_state.specs.Publishing.{all_readers, all_have_room, can_accept, AllFeedsHanded, AllHanded, IsAccepted}
use Rattle.rsx_graph_state.specs.SubscriptionSet.{NoneReads}
use Rattle.rsx_graph_state.specs.declared.skipped.Skipped.{Skipped}
use Rattle.rsx_graph_state.proofs.Handing.{all_found, it_waits}
use Rattle.rsx_graph_state.proofs.Taken.{published_on}

pub all_accepted : {M T : Type 0} (mc : Machine M T) (h n count most : ℕ) (hub hub' : HubState T) (fs gs : List (Feed M)) (xs ys : List (Subscription M T)) (signals left : List (Signal T)) → h ≡ n → can_accept mc h hub fs xs ≡ true → count ≡ min (all_readers mc h fs xs) most → count ≢ most →
    ((s : Signal T) → waiting hub ≡ Some s → signals ≡ times count s) → ((s : Signal T) → waiting hub ≡ Some s → hub' ≡ accepted hub (Some s)) → IsHandedOut (all_readers mc h fs xs) (all_have_room mc h fs xs) signals left (λ s. AllFeedsHanded mc h s fs gs × AllHanded mc h s xs ys) → IsAccepted mc n hub hub' fs gs xs ys × (left ≡ [])
all_accepted {M} {T} mc h n count most hub hub' fs gs xs ys signals left named enabled counted fewer copies taken handed =
    let w = it_waits (waiting hub) (all_have_room mc h fs xs) enabled in
    let s = w.0 in
    let found = all_found (all_readers mc h fs xs) count most counted fewer in
    let all : 0 + all_readers mc h fs xs ≡ count = omega (arith, found) in
    let done = handed s 0 (copies s w.1 ∙ ap (λ k. times k s) (sym all)) w.2 in (
      record {
        signal = s;
        waited = w.1;
        taken = taken s w.1;
        fed = subst (λ k. AllFeedsHanded mc k s fs gs) named done.0.0;
        handed = subst (λ k. AllHanded mc k s xs ys) named done.0.1;
        published = λ v is empty. published_on hub hub' s v w.1 (taken s w.1) is empty;
      },
      done.1,
    )

-- the same of a number that was named otherwise
pub it_can : {M T : Type 0} (mc : Machine M T) (h n : ℕ) (can : Bool) (hub : HubState T) (fs : List (Feed M)) (xs : List (Subscription M T)) → h ≡ n → can_accept mc h hub fs xs ≡ can → can_accept mc n hub fs xs ≡ can
it_can mc h n can hub fs xs named is = ap (λ k. can_accept mc k hub fs xs) (sym named) ∙ is

pub none_read : {M T : Type 0} (mc : Machine M T) (h n : ℕ) (skipped : Skipped) (xs : List (Subscription M T)) → h ≡ n → NoneReads mc n skipped xs → NoneReads mc h skipped xs
none_read {M} {T} mc h n skipped xs named none = let P : ℕ → Type 0 = λ k. NoneReads mc k skipped xs in subst P (sym named) none
