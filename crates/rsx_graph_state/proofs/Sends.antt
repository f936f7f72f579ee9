-- The signals of a feed, and the hub that takes them in.
use Rattle.rsx_sources.specs.declared.machine.Machine.{Ghosts as Machine}
use Rattle.std.proofs.Common.{◌≡◌, ◌≢◌, ℕ, zero, suc, ◌+◌, ◌≤◌, min, Bool, true, false, ◌&&◌, nat_lt, if◌then◌else◌, List, [], ◌∷◌, ◌++◌, map, set, take, slice_get, Option, Some, None, option_map, refl, ap, sym, ◌∙◌, subst, arith}
use Rattle.std.proofs.lemmas.Bool.Decides.{nat_tests}
use Rattle.std.proofs.lemmas.List.{append-nil}
use Rattle.rsx_sources.specs.Prelude.{Meaning, Stream, signals, ending_signals, Ending, Open, Done, Failed, Signal, Next, Complete, Error, front_of}
use Rattle.rsx_subscriber.specs.Prelude.{Expr, IsHandedOut, is_room_for, times, IsSentOut, next_out, with_signal, with_signal_at, Part, PartStands, IsTaken}
use Rattle.rsx_sources.specs.declared.machine.Front.{Front}
use Rattle.rsx_hub.specs.Hub.{HubState, taken_in, takes_signal}
use Rattle.rsx_hub.specs.Member.{ending_taken}
use Rattle.rsx_hub.specs.Waiting.{is_open}
use Rattle.rsx_pipe.specs.Published as Published
use Rattle.rsx_subscriber.specs.declared.subscription.Subscription.{Subscription}
use Rattle.rsx_graph_state.specs.Feeds.{FeedStands, IsFeedHanded, has_room_at, reads_at}
use Rattle.rsx_graph_state.specs.Lists.{AllChanged, every, total}
use Rattle.rsx_graph_state.specs.Publishing.{AllFeedsHanded, AllHanded, all_have_room, all_readers, feed_readers, feeds_have_room, have_room}
use Rattle.rsx_graph_state.specs.Sending.{IsFed, IsTakenOut, can_feed, can_feed_at, can_feed_of, takes_next}
use Rattle.rsx_graph_state.specs.declared.feed.Feed.{Feed}
use Rattle.rsx_graph_state.proofs.OneFeed.{with_behind}
use Rattle.rsx_graph_state.proofs.Handing.{all_found}
use Rattle.rsx_graph_state.proofs.Taken.{taken_on}

-- ---- whether a feed can send, by which signal it would

pub nothing_next : {T : Type 0} (o : Option (Signal T)) (hub : HubState T) (room : Bool) → None ≡ option_map front_of o → false ≡ takes_next o hub room
nothing_next None hub room is = refl
nothing_next (Some s) hub room is = cc

pub next_refused : {T : Type 0} (o : Option (Signal T)) (f : Front) (hub : HubState T) (room b : Bool) → Some f ≡ option_map front_of o → ((s : Signal T) → f ≡ front_of s → b ≡ takes_signal hub s) → b ≡ false → false ≡ takes_next o hub room
next_refused None f hub room b is takes wont = cc
next_refused (Some s) f hub room b is takes wont =
    let same : f ≡ front_of s = cc in
    ap (λ c. c && is_room_for s room) (sym wont ∙ takes s same)

-- what is so of the room for a signal like that which comes next, where the hub takes it in
pub next_ready : {T : Type 0} (P : Bool → Type 0) (o : Option (Signal T)) (f : Front) (hub : HubState T) (room b : Bool) → Some f ≡ option_map front_of o → ((s : Signal T) → f ≡ front_of s → b ≡ takes_signal hub s) → b ≡ true → ((s : Signal T) → f ≡ front_of s → P (is_room_for s room)) → P (takes_next o hub room)
next_ready P None f hub room b is takes will so = cc
next_ready P (Some s) f hub room b is takes will so =
    let same : f ≡ front_of s = cc in
    let yes : takes_signal hub s ≡ true = sym (takes s same) ∙ will in
    subst P (sym (ap (λ c. c && is_room_for s room) yes)) (so s same)

pub feed_there : {M T : Type 0} (mc : Machine M T) (m : Meaning T) (at : ℕ) (f : Feed M) (hub : HubState T) (fs : List (Feed M)) (xs : List (Subscription M T)) (b : Bool) → slice_get fs at ≡ Some f → b ≡ can_feed mc m f hub fs xs → b ≡ can_feed_at mc m at hub fs xs
feed_there mc m at f hub fs xs b there is = is ∙ sym (ap (λ o. can_feed_of mc m o hub fs xs) there)

-- where it can, there is room for its next signal
room_of : {T : Type 0} (o : Option (Signal T)) (s : Signal T) (hub : HubState T) (room : Bool) → o ≡ Some s → takes_next o hub room ≡ true → is_room_for s room ≡ true
room_of None s hub room is can = cc
room_of (Some t) s hub room is can =
    let same : t ≡ s = cc in
    ap (λ u. is_room_for u room) (sym same) ∙ second (takes_signal hub t) (is_room_for t room) can
  where
    second : (a b : Bool) → a && b ≡ true → b ≡ true
    second true b e = e
    second false b e = cc

-- ---- the feed itself reads nothing of its hub

own_hub : (n k : ℕ) → n ≡ k → nat_lt n k ≡ false
own_hub n k e = grind (arith, nat_tests)

pub reads_own : {M T : Type 0} (mc : Machine M T) (n : ℕ) (f : Feed M) → n ≡ f.hub → reads_at mc n f ≡ 0
reads_own mc n f e = ap (λ b. if b then Published.readers mc n f.part else 0) (own_hub n f.hub e)

room_own : {M T : Type 0} (mc : Machine M T) (n : ℕ) (f : Feed M) → n ≡ f.hub → has_room_at mc n f ≡ true
room_own mc n f e = ap (λ b. if b then Published.has_room_for mc n f.part else true) (own_hub n f.hub e)

pub total_set : {X : Type 0} (f : X → ℕ) (i : ℕ) (xs : List X) (x y : X) → slice_get xs i ≡ Some x → f y ≡ f x → total f (set xs i y) ≡ total f xs
total_set f i [] x y at same = refl
total_set f zero (u ∷ us) x y at same = let here : u ≡ x = cc in ap (λ n. n + total f us) (same ∙ ap f (sym here))
total_set f (suc i) (u ∷ us) x y at same = ap (λ n. f u + n) (total_set f i us x y at same)

every_set : {X : Type 0} (f : X → Bool) (i : ℕ) (xs : List X) (x y : X) → slice_get xs i ≡ Some x → f y ≡ f x → every f (set xs i y) ≡ every f xs
every_set f i [] x y at same = refl
every_set f zero (u ∷ us) x y at same = let here : u ≡ x = cc in ap (λ b. b && every f us) (same ∙ ap f (sym here))
every_set f (suc i) (u ∷ us) x y at same = ap (λ b. f u && b) (every_set f i us x y at same)

-- ---- in a list

changed_there : {X : Type 0} (P : X → X → Type 0) (i : ℕ) (xs ys : List X) (x : X) → slice_get xs i ≡ Some x → AllChanged P xs ys → (y : X) × (slice_get ys i ≡ Some y) × P x y
changed_there P i [] ys x at all = cc
changed_there P i (u ∷ us) [] x at all = absurd all
changed_there P zero (u ∷ us) (v ∷ vs) x at all = let here : u ≡ x = cc in (v, refl, subst (λ w. P w v) here all.0)
changed_there P (suc i) (u ∷ us) (v ∷ vs) x at all = changed_there P i us vs x at all.1

pub set_there : {X : Type 0} (i : ℕ) (xs : List X) (x y : X) → slice_get xs i ≡ Some x → slice_get (set xs i y) i ≡ Some y
set_there i [] x y at = cc
set_there zero (u ∷ us) x y at = refl
set_there (suc i) (u ∷ us) x y at = set_there i us x y at

-- ---- what the feed stands for

map-append : {A B : Type 0} (f : A → B) (xs ys : List A) → map f (xs ++ ys) ≡ map f xs ++ map f ys
map-append f [] ys = refl
map-append f (x ∷ xs) ys = ap (λ l. f x ∷ l) (map-append f xs ys)

-- the signals of a value with one signal more
signals_with : {T : Type 0} (s : Signal T) (v : Stream T) → v.ending ≡ Open → signals (with_signal s v) ≡ signals v ++ s ∷ []
signals_with {T} s v unended = by_signal s
  where
    items : List (Signal T)
    items = map Next v.items

    before : signals v ≡ items
    before = ap (λ e. items ++ ending_signals e) unended ∙ append-nil items

    by_signal : (s : Signal T) → signals (with_signal s v) ≡ signals v ++ s ∷ []
    by_signal (Next x) = ap (λ e. map Next (v.items ++ x ∷ []) ++ ending_signals e) unended ∙ (append-nil (map Next (v.items ++ x ∷ [])) ∙ (map-append Next v.items (x ∷ []) ∙ ap (λ l. l ++ Next x ∷ []) (sym before)))
    by_signal Complete = ap (λ l. l ++ Complete ∷ []) (sym before)
    by_signal (Error c) = ap (λ l. l ++ Error c ∷ []) (sym before)

value_there : {T : Type 0} (n : ℕ) (s : Signal T) (vs : List (Stream T)) (v : Stream T) → slice_get vs n ≡ Some v → slice_get (with_signal_at n s vs) n ≡ Some (with_signal s v)
value_there n s [] v at = cc
value_there zero s (w ∷ ws) v at = let here : w ≡ v = cc in ap (λ u. Some (with_signal s u)) here
value_there (suc n) s (w ∷ ws) v at = value_there n s ws v at

sent_stands : {M T : Type 0} (mc : Machine M T) (m : Meaning T) (feed : Feed M) (s : Signal T) (part : Part M) (published : List (Stream T)) (e : Expr T) (joins : List ℕ) (v : Stream T) → IsSentOut mc m feed.part s part → slice_get published feed.hub ≡ Some v → v.ending ≡ Open → FeedStands mc m published feed e joins →
    FeedStands mc m (with_signal_at feed.hub s published) (record { part = part; hub = feed.hub }) e joins
sent_stands {M} {T} mc m feed s part published e joins v k at unended f =
    let same : f.value ≡ v = let t = f.taken in cc in
    let P : List (Stream T) → Type 0 = λ vs. PartStands mc m vs part e joins (signals (with_signal s f.value)) in
    let Q : List (Signal T) → Type 0 = λ ss. PartStands mc m (take feed.hub published) part e joins ss in
    let less : feed.hub ≤ feed.hub = omega arith in
    record {
      value = with_signal s f.value;
      taken = value_there feed.hub s published f.value f.taken;
      part = subst P (sym (with_behind feed.hub feed.hub s published less)) (subst Q (sym (signals_with s f.value (ap (λ w. w.ending) same ∙ unended))) (k.made.stands (take feed.hub published) e joins (signals f.value) f.part));
      asked = k.made.asked ∙ f.asked;
      unclosed = k.made.unclosed f.unclosed;
    }

-- ---- the hub had not ended

open_taken : (b : Bool) (e : Ending) → is_open e ≡ true → ending_taken b e ≡ Open
open_taken true Open o = refl
open_taken false e o = refl
open_taken true Done o = cc
open_taken true (Failed c) o = cc

and_first : (a b : Bool) → a && b ≡ true → a ≡ true
and_first true b e = refl
and_first false b e = cc

was_open : {T : Type 0} (hub : HubState T) (s : Signal T) (v : Stream T) → takes_signal hub s ≡ true → IsTaken hub v → v.ending ≡ Open
was_open hub s v takes k = k.ending ∙ open_taken hub.has_ended hub.ending (and_first (is_open hub.ending) _ takes)

-- ---- all of it

pub fed_by : {M T : Type 0} (mc : Machine M T) (m : Meaning T) (at : ℕ) (hub hub' : HubState T) (fs gs : List (Feed M)) (f : Feed M) (s : Signal T) (part : Part M) (xs ys : List (Subscription M T)) → slice_get fs at ≡ Some f → IsSentOut mc m f.part s part → takes_signal hub s ≡ true → hub' ≡ taken_in hub s →
    AllFeedsHanded mc f.hub s (set fs at (record { part = part; hub = f.hub })) gs → AllHanded mc f.hub s xs ys → IsFed mc m at hub hub' fs gs xs ys
fed_by {M} {T} mc m at hub hub' fs gs f s part xs ys from sent takes taken fed handed =
    let after : Feed M = record { part = part; hub = f.hub } in
    record {
      feed = f;
      from = from;
      signal = s;
      part = part;
      sent = sent;
      takes = takes;
      taken = taken;
      fed = fed;
      handed = handed;
      published = λ v is. (was_open hub s v takes is, subst (λ g. IsTaken g (with_signal s v)) (sym taken) (taken_on hub s v is));
      stands = λ published v e joins at_hub is stands.
          let new = sent_stands mc m f s part published e joins v sent at_hub (was_open hub s v takes is) stands in
          let y = changed_there (IsFeedHanded mc f.hub s) at (set fs at after) gs after (set_there at fs f after from) fed in
          let not : nat_lt f.hub f.hub ≡ false = own_hub f.hub f.hub refl in
          (y.0, y.1, subst (λ g. FeedStands mc m (with_signal_at f.hub s published) g e joins) (sym (y.2.same not)) new);
    }

pub all_fed : {M T : Type 0} (mc : Machine M T) (m : Meaning T) (at n count most : ℕ) (hub hub' : HubState T) (fs gs : List (Feed M)) (f mid : Feed M) (xs ys : List (Subscription M T)) (given left : List (Signal T)) → slice_get fs at ≡ Some f → n ≡ f.hub → count ≡ min (all_readers mc n fs xs) most → count ≢ most →
    can_feed mc m f hub fs xs ≡ true → IsTakenOut mc m f hub count given mid hub' → IsHandedOut (all_readers mc n (set fs at mid) xs) (all_have_room mc n (set fs at mid) xs) given left (λ s. AllFeedsHanded mc n s (set fs at mid) gs × AllHanded mc n s xs ys) → IsFed mc m at hub hub' fs gs xs ys × (left ≡ [])
all_fed {M} {T} mc m at n count most hub hub' fs gs f mid xs ys given left from named counted fewer can out handed =
    let s = out.signal in
    let own : n ≡ mid.hub = named ∙ sym out.number in
    let found = all_found (all_readers mc n fs xs) count most counted fewer in
    let fewer_feeds : feed_readers mc n (set fs at mid) ≡ feed_readers mc n fs = total_set (reads_at mc n) at fs f mid from (reads_own mc n mid own ∙ sym (reads_own mc n f named)) in
    let same_rooms : feeds_have_room mc n (set fs at mid) ≡ feeds_have_room mc n fs = every_set (has_room_at mc n) at fs f mid from (room_own mc n mid own ∙ sym (room_own mc n f named)) in
    let all : 0 + all_readers mc n (set fs at mid) xs ≡ count = omega (arith, found, fewer_feeds) in
    let room : is_room_for s (all_have_room mc n fs xs) ≡ true = ap (λ k. is_room_for s (all_have_room mc k fs xs)) named ∙ room_of (next_out mc m f.part) s hub (all_have_room mc f.hub fs xs) out.sent.next can in
    let there : is_room_for s (all_have_room mc n (set fs at mid) xs) ≡ true = ap (λ b. is_room_for s (b && have_room mc n xs)) same_rooms ∙ room in
    let done = handed s 0 (out.copies ∙ ap (λ k. times k s) (sym all)) there in
    let after : Feed M = record { part = mid.part; hub = f.hub } in
    let mid_is : mid ≡ after = ap (λ h. record { part = mid.part; hub = h }) out.number in
    let fed : AllFeedsHanded mc f.hub s (set fs at after) gs = subst (λ k. AllFeedsHanded mc k s (set fs at after) gs) named (subst (λ g. AllFeedsHanded mc n s (set fs at g) gs) mid_is done.0.0) in (
      fed_by mc m at hub hub' fs gs f s mid.part xs ys from out.sent out.takes out.taken fed (subst (λ k. AllHanded mc k s xs ys) named done.0.1),
      done.1,
    )
