-- What a node that reads a hub makes of what its member does.
use Rattle.std.proofs.Common.{◌≡◌, ℕ, zero, suc, ◌+◌, Bool, true, false, ◌&&◌, ◌||◌, nat_lt, List, [], ◌∷◌, ◌++◌, Some, None, Result, Ok, Err, ◌<◌, ◌≤◌, length, get_or, arith, refl, ap, sym, ◌∙◌, subst}
use Rattle.std.specs.Prelude.{OnOk, OnErr, IfOk}
use Rattle.std.proofs.lemmas.Bool.Decides.{nat_tests}
use Rattle.std.proofs.lemmas.Result.{IfOk-weaker}
use Rattle.std.proofs.lemmas.Bool.{and_parts}
use Rattle.std.proofs.lemmas.List.{length-append}
use Rattle.rsx_sources.specs.Prelude.{Nothing, Cause, Ending, Open, Done, Failed, Signal, Next, Complete, Error, Meaning, Stream, ended_by, items_then, incoming_of, quiet, CountsStep, Reading, IsNextAt, IsReadOn, IsBehind, IsResidualOf, published_at, reading_after, takes_published, is_nil}
use Rattle.rsx_hub.specs.Member.{MemberState, rest, rest_before, behind, without, is_reading, takes, takes_items, took, IsGiven}
use Rattle.rsx_hub.specs.Waiting.{first_waiting, is_open}
use Rattle.rsx_hub.specs.declared.TheConstants.{MOST_ACCEPTED}
use Rattle.rsx_hub.specs.Leaf.{LeafState, member_of, leaf_comes_out, leaf_reads, leaf_rooms, leaf_popped, leaf_waiting, leaf_counted, reading_of}
use Rattle.rsx_sources.proofs.Incomings.{hubs_in}

-- the node that reads a hub by this member, with these two numbers for its counts
abbrev pub leaf_of : {T : Type 0} → ℕ → ℕ → ℕ → MemberState T → LeafState T
leaf_of h a z m = record { hub = h; queue = m.queue; ending = m.ending; reached = m.reached; capacity = m.capacity; places = m.places; missed = a; before = z }

pub member_is : {T : Type 0} (h a z : ℕ) (m : MemberState T) → m.gone ≡ false → member_of (leaf_of h a z m) ≡ m
member_is h a z m live i = record { queue = m.queue; ending = m.ending; gone = sym live i; reached = m.reached; capacity = m.capacity; places = m.places }

-- ---- a signal goes back

pub put_back : {T : Type 0} (h a z : ℕ) (m k : MemberState T) (x : T) (before : LeafState T) → m.gone ≡ false → ((b : MemberState T) → IsGiven b (Next x) m → k ≡ b) → leaf_popped before (Next x) (leaf_of h a z m) → leaf_of h a z k ≡ before
put_back {T} h a z m k x before live back popped =
    let G : MemberState T → Type 0 = λ u. IsGiven (member_of before) (Next x) u in
    let same : k ≡ member_of before = back (member_of before) (subst G (member_is h a z m live) popped.1) in
    λ i. record { hub = sym popped.0 i; queue = (same i).queue; ending = (same i).ending; reached = (same i).reached; capacity = (same i).capacity; places = (same i).places; missed = sym popped.2 i; before = sym popped.3 i }

-- ---- a signal of the hub is taken in

reads_open : (g : Bool) (e : Ending) (r : Reading) → is_reading g e ≡ true → reading_of e r ≡ Some r
reads_open true e r h = cc
reads_open false Open r h = refl
reads_open false Done r h = cc
reads_open false (Failed c) r h = cc

takes_open : {T : Type 0} (m : MemberState T) (s : Signal T) → takes m s ≡ true → is_reading m.gone m.ending ≡ true
takes_open m (Next x) h = (and_parts (is_reading m.gone m.ending) _ h).0
takes_open m Complete h = h
takes_open m (Error c) h = h

open_of : (g : Bool) (e : Ending) → is_reading g e ≡ true → e ≡ Open
open_of true e h = cc
open_of false Open h = refl
open_of false Done h = cc
open_of false (Failed c) h = cc

reads_after : {T : Type 0} (h a z : ℕ) (m : MemberState T) (s : Signal T) → m.ending ≡ Open → leaf_reads (leaf_of h a z (took m s)) ≡ reading_after s (record { hub = h; reached = m.reached; missed = a; before = z })
reads_after h a z m (Next x) o = rw o refl
reads_after h a z m Complete o = refl
reads_after h a z m (Error c) o = refl

gone_stays : {T : Type 0} (m : MemberState T) (s : Signal T) → (took m s).gone ≡ m.gone
gone_stays m (Next x) = refl
gone_stays m Complete = refl
gone_stays m (Error c) = refl

taken_on : {T : Type 0} (h a z : ℕ) (m k : MemberState T) (s : Signal T) → m.gone ≡ false → takes m s ≡ true → k ≡ took m s → ((w : Stream T) → IsNextAt m.reached w s → rest k w ≡ rest m w) → IsReadOn leaf_comes_out leaf_reads (leaf_of h a z m) s (leaf_of h a z k)
taken_on h a z m k s live can is value =
    let reads = takes_open m s can in
    let gone : k.gone ≡ false = ap (λ u. u.gone) is ∙ (gone_stays m s ∙ live) in
    record {
      reading = record { hub = h; reached = m.reached; missed = a; before = z };
      read = reads_open m.gone m.ending (record { hub = h; reached = m.reached; missed = a; before = z }) reads;
      reads_on = ap (λ u. leaf_reads (leaf_of h a z u)) is ∙ reads_after h a z m s (open_of m.gone m.ending reads);
      value = λ meaning inc further next.
          ap (λ u. quiet further (rest u (published_at inc.hubs h))) (member_is h a z k gone)
          ∙ (ap (quiet further) (value (published_at inc.hubs h) next)
          ∙ ap (λ u. quiet further (rest u (published_at inc.hubs h))) (sym (member_is h a z m live)));
    }

pub read_on : {T A E : Type 0} (h a z : ℕ) (m k : MemberState T) (s : Signal T) (r : Result A E) → m.gone ≡ false → OnOk r (takes m s ≡ true) → OnOk r (k ≡ took m s) → OnOk r ((w : Stream T) → IsNextAt m.reached w s → rest k w ≡ rest m w) → OnOk r (IsReadOn leaf_comes_out leaf_reads (leaf_of h a z m) s (leaf_of h a z k))
read_on h a z m k s (Ok u) live can is value = taken_on h a z m k s live can is value
read_on h a z m k s (Err e) live can is value = value

-- ---- room

-- an empty queue has room for an item, since a member's capacity is one at least
room_in : {T : Type 0} (r : Bool) (q : List T) (n c : ℕ) → 1 ≤ c → (r && (nat_lt (length q) c && nat_lt n MOST_ACCEPTED)) ≡ (r && ((is_nil q || nat_lt (length q) c) && nat_lt n MOST_ACCEPTED))
room_in r [] n c l = ap (λ b. r && (b && nat_lt n MOST_ACCEPTED)) (some_room c l)
  where
    some_room : (k : ℕ) → 1 ≤ k → nat_lt 0 k ≡ true
    some_room k e = grind (arith, nat_tests)
room_in r (x ∷ q) n c l = refl

pub room_is : {T : Type 0} (h a z : ℕ) (m : MemberState T) → m.gone ≡ false → 1 ≤ m.capacity → takes_items m ≡ leaf_rooms (leaf_of h a z m)
room_is h a z m live l = ap (λ g. is_reading g m.ending && (nat_lt (length m.queue) m.capacity && nat_lt m.reached MOST_ACCEPTED)) live ∙ room_in (is_open m.ending) m.queue m.reached m.capacity l

takes_is : {T : Type 0} (h a z : ℕ) (m : MemberState T) (s : Signal T) → m.gone ≡ false → 1 ≤ m.capacity → takes_published (leaf_reads (leaf_of h a z m)) (leaf_rooms (leaf_of h a z m)) s ≡ takes m s
takes_is {T} h a z m s live l = by_signal s
  where
    reading : Reading
    reading = record { hub = h; reached = m.reached; missed = a; before = z }

    goes_on : is_reading m.gone m.ending ≡ is_open m.ending
    goes_on = ap (λ g. is_reading g m.ending) live

    of_item : (e : Ending) (x : T) (b : Bool) → takes_published (reading_of e reading) (is_open e && b) (Next x) ≡ (is_open e && b)
    of_item Open x b = refl
    of_item Done x b = refl
    of_item (Failed c) x b = refl

    of_end : (e : Ending) (b : Bool) → takes_published {T = T} (reading_of e reading) b Complete ≡ is_open e
    of_end Open b = refl
    of_end Done b = refl
    of_end (Failed c) b = refl

    of_error : (e : Ending) (b : Bool) (k : Cause) → takes_published {T = T} (reading_of e reading) b (Error k) ≡ is_open e
    of_error Open b k = refl
    of_error Done b k = refl
    of_error (Failed c) b k = refl

    by_signal : (t : Signal T) → takes_published (leaf_reads (leaf_of h a z m)) (leaf_rooms (leaf_of h a z m)) t ≡ takes m t
    by_signal (Next x) = of_item m.ending x ((is_nil m.queue || nat_lt (length m.queue) m.capacity) && nat_lt m.reached MOST_ACCEPTED) ∙ sym (room_is h a z m live l)
    by_signal Complete = of_end m.ending (leaf_rooms (leaf_of h a z m)) ∙ sym goes_on
    by_signal (Error k) = of_error m.ending (leaf_rooms (leaf_of h a z m)) k ∙ sym goes_on

pub refused_is : {T A E : Type 0} (h a z : ℕ) (m : MemberState T) (s : Signal T) (r : Result A E) → m.gone ≡ false → 1 ≤ m.capacity → OnErr r (takes m s ≡ false) → OnErr r (takes_published (leaf_reads (leaf_of h a z m)) (leaf_rooms (leaf_of h a z m)) s ≡ false)
refused_is h a z m s (Ok u) live l k = k
refused_is h a z m s (Err e) live l k = takes_is h a z m s live l ∙ k

-- a node that reads a hub and has no room offers something, as long as it has not taken in as many items as there may be
full_in : {T : Type 0} (q : List T) (n c : ℕ) → n < MOST_ACCEPTED → (is_nil q || nat_lt (length q) c) && nat_lt n MOST_ACCEPTED ≡ false → first_waiting q Open false ≡ None → ⊥
full_in [] n c less k none = let more : nat_lt n MOST_ACCEPTED ≡ true = grind (arith, nat_tests, less) in cc
full_in (x ∷ q) n c less k none = cc

pub leaf_full : {T : Type 0} (m : Meaning T) (n : LeafState T) (r : Reading) → leaf_reads n ≡ Some r → leaf_rooms n ≡ false → r.reached < MOST_ACCEPTED → leaf_waiting m n ≡ None → ⊥
leaf_full {T} m n r reads full less none = by_ending n.ending reads full none
  where
    reached_of : (h i a z : ℕ) (k : Reading) → Some (record { hub = h; reached = i; missed = a; before = z }) ≡ Some k → i ≡ k.reached
    reached_of h i a z k e = cc

    by_ending : (e : Ending) → reading_of e (record { hub = n.hub; reached = n.reached; missed = n.missed; before = n.before }) ≡ Some r → is_open e && ((is_nil n.queue || nat_lt (length n.queue) n.capacity) && nat_lt n.reached MOST_ACCEPTED) ≡ false → first_waiting n.queue e false ≡ None → ⊥
    by_ending Open read k w = full_in n.queue n.reached n.capacity (subst (λ i. i < MOST_ACCEPTED) (sym (reached_of n.hub n.reached n.missed n.before r read)) less) k w
    by_ending Done read k w = cc
    by_ending (Failed c) read k w = cc

-- ---- what still comes out

pub published_in : {T : Type 0} (vs : List (Stream T)) (h : ℕ) (v : Stream T) → h < length vs → v ≡ get_or vs h v → published_at vs h ≡ v
published_in [] h v lt e = absurd (omega arith)
published_in (w ∷ vs) zero v lt e = sym e
published_in (w ∷ vs) (suc h) v lt e = published_in vs h v (omega arith) e

pub published_past : {T : Type 0} (vs : List (Stream T)) (h : ℕ) → length vs ≤ h → published_at vs h ≡ ended_by Open
published_past [] h e = refl
published_past (w ∷ vs) zero e = absurd (omega arith)
published_past (w ∷ vs) (suc h) e = published_past vs h (omega arith)

behind_it : {T : Type 0} (e : Ending) (h n a z : ℕ) (inboxes hubs : List (Stream T)) (v : Stream T) → published_at inboxes h ≡ v → IsBehind (reading_of e (record { hub = h; reached = n; missed = a; before = z })) inboxes hubs → behind false e (without n (published_at hubs h)) ≡ behind false e v
behind_it Open h n a z inboxes hubs v is b = b ∙ is
behind_it Done h n a z inboxes hubs v is b = refl
behind_it (Failed c) h n a z inboxes hubs v is b = refl

pub residual_is : {T E : Type 0} (meaning : Meaning T) (h a z : ℕ) (m : MemberState T) (inboxes incoming : List (Stream T)) (v : Stream T) (r : Result (Stream T) E) → m.gone ≡ false → published_at inboxes h ≡ v → IfOk r (λ u. u ≡ rest_before m v) →
    IfOk r (λ u. IsResidualOf (leaf_comes_out meaning) (λ n. Nothing) leaf_reads (leaf_of h a z m) inboxes incoming u)
residual_is {T} meaning h a z m inboxes incoming v r live is o = IfOk-weaker r (λ u. u ≡ rest_before m v) (λ u. IsResidualOf (leaf_comes_out meaning) (λ n. Nothing) leaf_reads (leaf_of h a z m) inboxes incoming u) step o
  where
    step : (u : Stream T) → u ≡ rest_before m v → IsResidualOf (leaf_comes_out meaning) (λ n. Nothing) leaf_reads (leaf_of h a z m) inboxes incoming u
    step u e hubs further b none =
        ap (λ k. quiet k (rest (member_of (leaf_of h a z m)) (published_at (incoming_of hubs incoming).hubs h))) none
        ∙ (ap (λ l. Some (rest (member_of (leaf_of h a z m)) (published_at l h))) (hubs_in hubs incoming)
        ∙ ap Some (ap (items_then m.queue) (behind_it m.ending h m.reached a z inboxes hubs v is b) ∙ (ap (λ g. items_then m.queue (behind g m.ending v)) (sym live) ∙ sym e)))

-- ---- counts

-- an item comes in
came_in : (a s r z k j : ℕ) → a + s + k ≡ r + z → j ≡ k + 1 → a + s + j ≡ r + 1 + z
came_in a s r z k j h e = omega (arith, h, e)

took_counts : {T : Type 0} (h a z : ℕ) (m : MemberState T) (s : Signal T) (taken : List ℕ) (sent : ℕ) → leaf_counted (leaf_of h a z m) taken sent → leaf_counted (leaf_of h a z (took m s)) taken sent
took_counts h a z m (Next x) taken sent c = came_in a sent m.reached z (length m.queue) (length (m.queue ++ x ∷ [])) c (length-append m.queue (x ∷ []))
took_counts h a z m Complete taken sent c = c
took_counts h a z m (Error k) taken sent c = c

pub counts_on : {T A E : Type 0} (h a z : ℕ) (m k : MemberState T) (s : Signal T) (r : Result A E) → OnOk r (k ≡ took m s) → OnOk r (CountsStep leaf_counted (λ n. false) (λ n i. false) (leaf_of h a z m) (leaf_of h a z k))
counts_on {T} h a z m k s (Ok o) is =
    let P : MemberState T → Type 0 = λ u. CountsStep leaf_counted (λ n. false) (λ n i. false) (leaf_of h a z m) (leaf_of h a z u) in
    subst P (sym is) (record { stays_ended = λ e. e; counts = λ e taken sent c. took_counts h a z m s taken sent c; stays_done = λ j e. e })
counts_on h a z m k s (Err e) is = is
