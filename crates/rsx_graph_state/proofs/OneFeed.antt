-- Feeds to whose nodes a signal of a hub is handed.
use Rattle.rsx_sources.specs.declared.machine.Machine.{Ghosts as Machine}
use Rattle.std.proofs.Common.{◌≡◌, ℕ, zero, suc, ◌+◌, ◌<◌, ◌≤◌, min, Bool, true, false, ◌&&◌, nat_lt, if◌then◌else◌, List, [], ◌∷◌, ◌++◌, length, reverse, take, slice_get, Some, refl, ap, sym, ◌∙◌, subst, arith, add-zero}
use Rattle.std.proofs.lemmas.Bool.Decides.{nat_tests}
use Rattle.std.proofs.lemmas.List.{append-nil}
use Rattle.rsx_demand.specs.Demand.{saturating_total}
use Rattle.rsx_subscriber.specs.Prelude.{fresh_edge, Expr, Live, Closed, NodeMove, IsMadeInside, IsOpenAt, with_signal_at, IsPutOut, Part as PartOf, PartStands, AreTaken}
use Rattle.rsx_tree.specs.Prelude.{edge_view, IsHandedOut, is_room_for, times}
use Rattle.rsx_demand.specs.declared.TheConstants.{UNBOUNDED}
use Rattle.rsx_sources.specs.Prelude.{Meaning, Next, Open, Stream, ended_by, signals, Signal}
use Rattle.rsx_hub.specs.Hub.{HubState}
use Rattle.rsx_tree.specs.Runs.{Leads}
use Rattle.rsx_rooted.proofs.TakenOff.{taken_as}
use Rattle.rsx_rooted.specs.Taking.{AreTakenOff, blocks}
use Rattle.rsx_pipe.specs.Published as Part
use Rattle.rsx_pipe.specs.Taking as Items
use Rattle.rsx_pipe.specs.Taking.{spaces_for}
use Rattle.rsx_graph_state.specs.Feeds.{FeedStands, IsFeedHanded, IsItemHandedToFeed, begun_edge, has_room_at, reads_at, spaces_at}
use Rattle.rsx_graph_state.specs.Publishing.{AllFeedsHanded, feed_readers, feeds_have_room}
use Rattle.rsx_graph_state.specs.declared.feed.Feed.{Feed}
use Rattle.rsx_graph_state.proofs.Skipping.{part_same, unread_room}

-- ---- numbers of hubs

pub is_before : (h n k : ℕ) → k ≡ n → h < k → nat_lt h n ≡ true
is_before h n k named less = grind (arith, nat_tests)

pub not_before : (h n k : ℕ) → k ≡ n → k ≤ h → nat_lt h n ≡ false
not_before h n k named more = grind (arith, nat_tests)

-- ---- one signal more at a hub, seen by a feed of another one

-- the hubs before a later one
with_before : {T : Type 0} (h n : ℕ) (s : Signal T) (vs : List (Stream T)) → h < n → with_signal_at h s (take n vs) ≡ take n (with_signal_at h s vs)
with_before h zero s vs less = absurd (omega (arith, less))
with_before zero (suc n) s [] less = refl
with_before (suc h) (suc n) s [] less = refl
with_before zero (suc n) s (v ∷ vs) less = refl
with_before (suc h) (suc n) s (v ∷ vs) less = ap (λ l. v ∷ l) (with_before h n s vs (omega (arith, less)))

open_before : {A : Type 0} (h n : ℕ) (vs : List A) → h < n → slice_get (take n vs) h ≡ slice_get vs h
open_before h zero vs less = absurd (omega (arith, less))
open_before zero (suc n) [] less = refl
open_before (suc h) (suc n) [] less = refl
open_before zero (suc n) (v ∷ vs) less = refl
open_before (suc h) (suc n) (v ∷ vs) less = open_before h n vs (omega (arith, less))

-- the hubs before it
pub with_behind : {T : Type 0} (h n : ℕ) (s : Signal T) (vs : List (Stream T)) → n ≤ h → take n (with_signal_at h s vs) ≡ take n vs
with_behind h zero s vs less = refl
with_behind zero (suc n) s vs less = absurd (omega (arith, less))
with_behind (suc h) (suc n) s [] less = refl
with_behind (suc h) (suc n) s (v ∷ vs) less = ap (λ l. v ∷ l) (with_behind h n s vs (omega (arith, less)))

-- another hub
with_other : {T : Type 0} (h n : ℕ) (s : Signal T) (vs : List (Stream T)) → (n ≡ h → ⊥) → slice_get (with_signal_at h s vs) n ≡ slice_get vs n
with_other zero n s [] other = refl
with_other (suc h) n s [] other = refl
with_other zero zero s (v ∷ vs) other = absurd (other refl)
with_other zero (suc n) s (v ∷ vs) other = refl
with_other (suc h) zero s (v ∷ vs) other = refl
with_other (suc h) (suc n) s (v ∷ vs) other = with_other h n s vs (λ e. other (ap suc e))

-- ---- one feed

feed_handed : {M T : Type 0} (mc : Machine M T) (h : ℕ) (s : Signal T) (old : Feed M) (part : PartOf M) → nat_lt h old.hub ≡ true → Part.IsHanded mc h s old.part part → IsFeedHanded mc h s old (record { part = part; hub = old.hub })
feed_handed {M} {T} mc h s old part below k =
    let less : h < old.hub = grind (arith, nat_tests, below) in
    record {
      hub = refl;
      part = λ _. k;
      same = λ not. cc;
      stands = λ m published e joins unended other f.
          let P : List (Stream T) → Type 0 = λ vs. PartStands mc m vs part e joins (signals f.value) in
          let here : IsOpenAt h (take old.hub published) = (unended.0, open_before h old.hub published less ∙ unended.1, unended.2) in
          record {
            value = f.value;
            taken = with_other h old.hub s published other ∙ f.taken;
            part = subst P (with_before h old.hub s published less) (k.stands m (take old.hub published) e joins (signals f.value) here f.part);
            asked = ap (λ r. r.demand.asked) k.root ∙ f.asked;
            unclosed = λ c. f.unclosed (ap (λ r. r.state) (sym k.root) ∙ c);
          };
    }

feed_unhanded : {M T : Type 0} (mc : Machine M T) (h : ℕ) (s : Signal T) (f : Feed M) → nat_lt h f.hub ≡ false → IsFeedHanded mc h s f f
feed_unhanded {M} {T} mc h s f not =
    let more : f.hub ≤ h = grind (arith, nat_tests, not) in
    record {
      hub = refl;
      part = λ below. cc;
      same = λ _. refl;
      stands = λ m published e joins unended other k.
          let P : List (Stream T) → Type 0 = λ vs. PartStands mc m vs f.part e joins (signals k.value) in
          record {
            value = k.value;
            taken = with_other h f.hub s published other ∙ k.taken;
            part = subst P (sym (with_behind h f.hub s published more)) k.part;
            asked = k.asked;
            unclosed = k.unclosed;
          };
    }

pub handed_feed : {M T : Type 0} (mc : Machine M T) (h : ℕ) (old : Feed M) (part : PartOf M) (given left : List (Signal T)) → nat_lt h old.hub ≡ true → IsHandedOut (Part.readers mc h old.part) (Part.has_room_for mc h old.part) given left (λ s. Part.IsHanded mc h s old.part part) →
    IsHandedOut (reads_at mc h old) (has_room_at mc h old) given left (λ s. IsFeedHanded mc h s old (record { part = part; hub = old.hub }))
handed_feed mc h old part given left below f = λ s k all room.
    let e = f s k (all ∙ ap (λ b. times (k + (if b then Part.readers mc h old.part else 0)) s) below) (sym (ap (λ b. is_room_for s (if b then Part.has_room_for mc h old.part else true)) below) ∙ room) in
    (feed_handed mc h s old part below e.0, e.1)

pub none_handed : {M T : Type 0} (mc : Machine M T) (h : ℕ) (f : Feed M) (given : List (Signal T)) → nat_lt h f.hub ≡ false → IsHandedOut (reads_at mc h f) (has_room_at mc h f) given given (λ s. IsFeedHanded mc h s f f)
none_handed mc h f given not = λ s k all room.
    (feed_unhanded mc h s f not, all ∙ (ap (λ b. times (k + (if b then Part.readers mc h f.part else 0)) s) not ∙ ap (λ n. times n s) (add-zero k)))

pub reads_before : {M T : Type 0} (mc : Machine M T) (h : ℕ) (f : Feed M) (n most : ℕ) → nat_lt h f.hub ≡ true → n ≡ min (Part.readers mc h f.part) most → n ≡ min (reads_at mc h f) most
reads_before mc h f n most below is = is ∙ ap (λ b. min (if b then Part.readers mc h f.part else 0) most) (sym below)

pub reads_behind : {M T : Type 0} (mc : Machine M T) (h : ℕ) (f : Feed M) (most : ℕ) → nat_lt h f.hub ≡ false → 0 ≡ min (reads_at mc h f) most
reads_behind mc h f most not = let none : 0 ≡ min 0 most = omega arith in none ∙ ap (λ b. min (if b then Part.readers mc h f.part else 0) most) (sym not)

pub room_before : {M T : Type 0} (mc : Machine M T) (h : ℕ) (f : Feed M) (b : Bool) → nat_lt h f.hub ≡ true → b ≡ Part.has_room_for mc h f.part → b ≡ has_room_at mc h f
room_before mc h f b below is = is ∙ ap (λ c. if c then Part.has_room_for mc h f.part else true) (sym below)

pub room_behind : {M T : Type 0} (mc : Machine M T) (h : ℕ) (f : Feed M) → nat_lt h f.hub ≡ false → true ≡ has_room_at mc h f
room_behind mc h f not = ap (λ c. if c then Part.has_room_for mc h f.part else true) (sym not)

-- ---- a fresh feed

take_first : {A : Type 0} (n : ℕ) (xs : List A) (x : A) → n ≡ length xs → take n (xs ++ x ∷ []) ≡ xs
take_first zero [] x e = refl
take_first zero (y ∷ ys) x e = absurd (omega (arith, e))
take_first (suc n) [] x e = absurd (omega (arith, e))
take_first (suc n) (y ∷ ys) x e = ap (λ l. y ∷ l) (take_first n ys x (omega (arith, e)))

last_there : {A : Type 0} (n : ℕ) (xs : List A) (x : A) → n ≡ length xs → slice_get (xs ++ x ∷ []) n ≡ Some x
last_there zero [] x e = refl
last_there zero (y ∷ ys) x e = absurd (omega (arith, e))
last_there (suc n) [] x e = absurd (omega (arith, e))
last_there (suc n) (y ∷ ys) x e = last_there n ys x (omega (arith, e))

as_many : {T : Type 0} (hubs : List (HubState T)) (published : List (Stream T)) → AreTaken hubs published → length hubs ≡ length published
as_many [] [] k = refl
as_many [] (v ∷ vs) k = absurd k
as_many (h ∷ hs) [] k = absurd k
as_many (h ∷ hs) (v ∷ vs) k = ap suc (as_many hs vs k.1)

pub fresh_feed : {M T : Type 0} (mc : Machine M T) (m : Meaning T) (hubs : List (HubState T)) (published : List (Stream T)) (first : PartOf M) (part : PartOf M) (hub : ℕ) (e : Expr T) (joins : List ℕ) → AreTaken hubs published → hub ≡ length hubs → PartStands mc m published first e joins [] → IsPutOut mc m first [] part →
    part.root.demand.asked ≡ UNBOUNDED → (part.root.state ≡ Closed → ⊥) → FeedStands mc m (published ++ ended_by Open ∷ []) (record { part = part; hub = hub }) e joins
fresh_feed {M} {T} mc m hubs published first part hub e joins taken number stands put asked unclosed =
    let count : hub ≡ length published = number ∙ as_many hubs published taken in
    let P : List (Stream T) → Type 0 = λ vs. PartStands mc m vs part e joins [] in
    record {
      value = ended_by Open;
      taken = last_there hub published (ended_by Open) count;
      part = subst P (sym (take_first hub published (ended_by Open) count)) (put published e joins [] stands);
      asked = asked;
      unclosed = unclosed;
    }

-- all that can be was asked of it
pub asked_all_of : {M : Type 0} (first part : PartOf M) → edge_view first.root ≡ fresh_edge → part.root.demand.asked ≡ saturating_total first.root.demand.asked UNBOUNDED → part.root.demand.asked ≡ UNBOUNDED
asked_all_of first part root asked = asked ∙ (ap (λ v. saturating_total v.asked UNBOUNDED) root ∙ all_of UNBOUNDED)
  where
    all_of : (n : ℕ) → min n (0 + n) ≡ n
    all_of n = omega arith

pub fresh_unclosed : {M : Type 0} (first part : PartOf M) → edge_view first.root ≡ fresh_edge → part.root.state ≡ first.root.state → part.root.state ≡ Closed → ⊥
fresh_unclosed first part root state closed = let live : first.root.state ≡ Live = ap (λ v. v.state) root in cc

-- the root edge of a feed that has just begun
pub begun_root : {M : Type 0} (first part : PartOf M) → edge_view first.root ≡ fresh_edge → part.root.demand.asked ≡ UNBOUNDED → part.root.demand.sent ≡ first.root.demand.sent → part.root.state ≡ first.root.state → edge_view part.root ≡ begun_edge
begun_root first part root asked sent state = λ i. record { asked = asked i; sent = (sent ∙ ap (λ v. v.sent) root) i; state = (state ∙ ap (λ v. v.state) root) i }

-- ---- a move inside a feed

-- the feed stands for the same afterwards
pub worked_feed : {M T : Type 0} (mc : Machine M T) (m : Meaning T) (old : Feed M) (part : PartOf M) (move : NodeMove) → IsMadeInside mc m move old.part part → (published : List (Stream T)) (e : Expr T) (joins : List ℕ) → FeedStands mc m published old e joins → FeedStands mc m published (record { part = part; hub = old.hub }) e joins
worked_feed {M} {T} mc m old part move k published e joins f =
    let P : List (Signal T) → Type 0 = λ ss. PartStands mc m (take old.hub published) part e joins ss in
    record {
      value = f.value;
      taken = f.taken;
      part = subst P (append-nil (signals f.value)) (k.stands (take old.hub published) e joins (signals f.value) f.part);
      asked = k.asked ∙ f.asked;
      unclosed = k.unclosed f.unclosed;
    }

-- ---- feeds of which no node reads a hub

unread_feed : {M T : Type 0} (mc : Machine M T) (h : ℕ) (s : Signal T) (f : Feed M) → reads_at mc h f ≡ 0 → IsFeedHanded mc h s f f
unread_feed {M} {T} mc h s f none = by_test (nat_lt h f.hub) refl
  where
    by_test : (b : Bool) → nat_lt h f.hub ≡ b → IsFeedHanded mc h s f f
    by_test true below = feed_handed mc h s f f.part below (part_same mc h s f.part (ap (λ b. if b then Part.readers mc h f.part else 0) (sym below) ∙ none))
    by_test false not = feed_unhanded mc h s f not

unread_feed_room : {M T : Type 0} (mc : Machine M T) (h : ℕ) (f : Feed M) → reads_at mc h f ≡ 0 → has_room_at mc h f ≡ true
unread_feed_room mc h f none = by_test (nat_lt h f.hub) none
  where
    by_test : (b : Bool) → (if b then Part.readers mc h f.part else 0) ≡ 0 → (if b then Part.has_room_for mc h f.part else true) ≡ true
    by_test true z = unread_room mc h f.part z
    by_test false z = refl

-- a signal of the hub changes none of them
pub unread_feeds : {M T : Type 0} (mc : Machine M T) (h : ℕ) (s : Signal T) (fs : List (Feed M)) → feed_readers mc h fs ≡ 0 → AllFeedsHanded mc h s fs fs
unread_feeds mc h s [] none = tt
unread_feeds mc h s (f ∷ fs) none = (unread_feed mc h s f (omega (arith, none)), unread_feeds mc h s fs (omega (arith, none)))

-- and none holds it back
pub unread_rooms : {M T : Type 0} (mc : Machine M T) (h : ℕ) (fs : List (Feed M)) → feed_readers mc h fs ≡ 0 → feeds_have_room mc h fs ≡ true
unread_rooms mc h [] none = refl
unread_rooms mc h (f ∷ fs) none = ap (λ b. b && feeds_have_room mc h fs) (unread_feed_room mc h f (omega (arith, none))) ∙ unread_rooms mc h fs (omega (arith, none))

-- the same of the feeds that were lent, of the hub with that number
pub unread_of_all : {M T : Type 0} (mc : Machine M T) (h n : ℕ) (feeds fs : List (Feed M)) → n ≡ h → fs ≡ feeds → feed_readers mc n fs ≡ 0 → feed_readers mc h feeds ≡ 0
unread_of_all mc h n feeds fs named same none = sym (ap (λ k. feed_readers mc k feeds) named) ∙ (sym (ap (λ l. feed_readers mc n l) same) ∙ none)

-- ---- several items of a hub at once

pub spaces_before : {M T : Type 0} (mc : Machine M T) (spaces : M → ℕ) (h most n : ℕ) (f : Feed M) → nat_lt h f.hub ≡ true → n ≡ spaces_for mc spaces h most f.part → n ≡ spaces_at mc spaces h most f
spaces_before mc spaces h most n f below is = is ∙ ap (λ b. if b then spaces_for mc spaces h most f.part else most) (sym below)

pub spaces_behind : {M T : Type 0} (mc : Machine M T) (spaces : M → ℕ) (h most : ℕ) (f : Feed M) → nat_lt h f.hub ≡ false → most ≡ spaces_at mc spaces h most f
spaces_behind mc spaces h most f not = ap (λ b. if b then spaces_for mc spaces h most f.part else most) (sym not)

-- the part goes on reading the hub as the feed does
fed_run : {M T : Type 0} (mc : Machine M T) (h : ℕ) (items : List T) (f : Feed M) (part : PartOf M) → nat_lt h f.hub ≡ true → Leads (Items.IsItemHanded mc h) f.part items part → Leads (IsItemHandedToFeed mc h) f items (record { part = part; hub = f.hub })
fed_run mc h [] f part below run = λ i. record { part = run i; hub = f.hub }
fed_run mc h (x ∷ items) f part below run = (
  record { part = run.0; hub = f.hub },
  record { room = ap (λ b. if b then Part.has_room_for mc h f.part else true) below ∙ run.1.room; handed = feed_handed mc h (Next x) f run.0 below run.1.handed },
  fed_run mc h items (record { part = run.0; hub = f.hub }) part below run.2,
)

pub many_feed : {M T : Type 0} (mc : Machine M T) (spaces : M → ℕ) (h count most : ℕ) (f : Feed M) (part : PartOf M) (given left : List T) → nat_lt h f.hub ≡ true → AreTakenOff (Part.readers mc h f.part) count (spaces_for mc spaces h most f.part) given left (λ xs. Leads (Items.IsItemHanded mc h) f.part xs part) →
    AreTakenOff (reads_at mc h f) count (spaces_at mc spaces h most f) given left (λ xs. Leads (IsItemHandedToFeed mc h) f xs (record { part = part; hub = f.hub }))
many_feed {M} {T} mc spaces h count most f part given left below taken =
    let readers : Part.readers mc h f.part ≡ reads_at mc h f = ap (λ b. if b then Part.readers mc h f.part else 0) (sym below) in
    let room : spaces_at mc spaces h most f ≡ spaces_for mc spaces h most f.part = ap (λ b. if b then spaces_for mc spaces h most f.part else most) below in
    taken_as (Part.readers mc h f.part) (reads_at mc h f) count (spaces_for mc spaces h most f.part) (spaces_at mc spaces h most f) given left (λ xs. Leads (Items.IsItemHanded mc h) f.part xs part) (λ xs. Leads (IsItemHandedToFeed mc h) f xs (record { part = part; hub = f.hub }))
    readers (omega (arith, room)) (λ xs run. fed_run mc h xs f part below run) taken

-- one that comes before the hub takes none in
none_run : {M T : Type 0} (mc : Machine M T) (h : ℕ) (items : List T) (f : Feed M) → nat_lt h f.hub ≡ false → Leads (IsItemHandedToFeed mc h) f items f
none_run mc h [] f not = refl
none_run mc h (x ∷ items) f not = (f, record { room = ap (λ b. if b then Part.has_room_for mc h f.part else true) not; handed = feed_unhanded mc h (Next x) f not }, none_run mc h items f not)

pub many_none : {M T : Type 0} (mc : Machine M T) (spaces : M → ℕ) (h count most : ℕ) (f : Feed M) (given : List T) → nat_lt h f.hub ≡ false →
    AreTakenOff (reads_at mc h f) count (spaces_at mc spaces h most f) given given (λ xs. Leads (IsItemHandedToFeed mc h) f xs f)
many_none mc spaces h count most f given not before xs all len fits =
    let none : reads_at mc h f ≡ 0 = ap (λ b. if b then Part.readers mc h f.part else 0) not in
    (none_run mc h xs f not, all ∙ (ap (λ n. before ++ blocks n (reverse xs)) none ∙ append-nil before))
