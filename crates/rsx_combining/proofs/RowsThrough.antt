-- Items of one input that go through a combineLatest in one go.
use Rattle.std.proofs.Common.{◌≡◌, ℕ, zero, suc, ◌+◌, ◌<◌, ◌≤◌, ◌&&◌, true, false, nat_eq, nat_le, List, [], ◌∷◌, length, map, slice_index_or, slice_set, slice_get, Option, Some, None, refl, ap, sym, ◌∙◌, subst, arith}
use Rattle.std.proofs.lemmas.Bool.{and_parts}
use Rattle.std.proofs.lemmas.Bool.Decides.{nat_tests}
use Rattle.std.proofs.lemmas.Option.{same_Some}
use Rattle.rsx_demand.specs.Demand.{saturating_total}
use Rattle.rsx_sources.specs.Prelude.{Next, Meaning, Stream, signal_then, IsItemOut, IsPickDone, IsTakenIn}
use Rattle.rsx_sources.specs.declared.machine.Front.TheVariants.{Item}
use Rattle.rsx_values.specs.Record.{room_of_last, added_to_last}
use Rattle.rsx_values.specs.declared.record.Run.{Run}
use Rattle.rsx_values.proofs.LastRuns.{room_after, added_twice, written_added}
use Rattle.rsx_queued.specs.declared.tail.Tail.{Tail}
use Rattle.rsx_queued.specs.declared.tail.Tail.TheVariants.{Open, Completion, Failure, Taken}
use Rattle.rsx_queued.specs.declared.input.QueuedInput.{QueuedInput}
use Rattle.rsx_queued.specs.Input.{input_passed}
use Rattle.rsx_queued.specs.Held.{is_open, tail_count}
use Rattle.rsx_queued.specs.Prelude.{still, takes, takes_at, waiting_at, with_signal, without, next_signal, next_signal_at, has_ending, is_empty}
use Rattle.rsx_queued.proofs.Outputs.{empty_is}
use Rattle.rsx_combining.specs.Latest.{LatestState, latest_comes_out, latest_waiting, latest_takes, latest_queued, latest_popped, latest_recording, row_given, gives_row, latest_picks, latest_recorded, latest_ended, latest_done, IsLatestCounted, taken_at, after_signal, after_pick}
use Rattle.rsx_combining.specs.LatestLaws.{picks_any}
use Rattle.rsx_combining.specs.LatestRows.{is_zero, rows_through, AreRows, last_item, passed_at, rows_counted, after_row, after_rows}
use Rattle.rsx_combining.proofs.Comes.{with_input, signal_in, signal_counts, row_out, state_is}
use Rattle.rsx_combining.proofs.Gives.{gives_there, gives_within, row_of_all, set_all}
use Rattle.rsx_combining.proofs.InPlace.{read_back, set_twice}

-- ---- what it takes for items to go through

-- the same as `rows_through`, part by part
pub record CanGoThrough {T : Type 0} (n : LatestState T) (i k : ℕ) : Type 0 where
  pub free : is_empty n.output ≡ true
  pub takes_it : latest_takes n i Item ≡ true
  pub none_waits : is_zero (latest_queued n i) ≡ true
  pub gives : gives_row n.latest i ≡ true
  pub room : k ≤ room_of_last n.choices i

at_most : (k r : ℕ) → nat_le k r ≡ true → k ≤ r
at_most k r e = grind (arith, nat_tests)

is_at_most : (k r : ℕ) → k ≤ r → nat_le k r ≡ true
is_at_most k r le = grind (arith, nat_tests)

pub can_go : {T : Type 0} (n : LatestState T) (i k : ℕ) → rows_through n i k ≡ true → CanGoThrough n i k
can_go n i k e =
    let free = is_empty n.output in
    let takes_it = latest_takes n i Item in
    let none = is_zero (latest_queued n i) in
    let gives = gives_row n.latest i in
    let fourth = and_parts (free && takes_it && none && gives) (nat_le k (room_of_last n.choices i)) e in
    let third = and_parts (free && takes_it && none) gives fourth.0 in
    let second = and_parts (free && takes_it) none third.0 in
    let first = and_parts free takes_it second.0 in
    record { free = first.0; takes_it = first.1; none_waits = second.1; gives = third.1; room = at_most k (room_of_last n.choices i) fourth.1 }

goes : {T : Type 0} (n : LatestState T) (i k : ℕ) → CanGoThrough n i k → rows_through n i k ≡ true
goes n i k h = rw (h.free, h.takes_it, h.none_waits, h.gives, is_at_most k (room_of_last n.choices i) h.room) refl

-- ---- the same behind one of them

takes_behind : {T : Type 0} (qs : List (QueuedInput T)) (i k : ℕ) → takes_at (slice_get (passed_at qs i k) i) Item ≡ takes_at (slice_get qs i) Item
takes_behind [] i k = refl
takes_behind (q ∷ qs) zero k = refl
takes_behind (q ∷ qs) (suc i) k = takes_behind qs i k

waits_behind : {T : Type 0} (qs : List (QueuedInput T)) (i k : ℕ) → waiting_at (slice_get (passed_at qs i k) i) ≡ waiting_at (slice_get qs i)
waits_behind [] i k = refl
waits_behind (q ∷ qs) zero k = refl
waits_behind (q ∷ qs) (suc i) k = waits_behind qs i k

gives_behind : {A : Type 0} (os : List (Option A)) (i : ℕ) (x : A) → gives_row (slice_set os i (Some x)) i ≡ gives_row os i
gives_behind [] i x = refl
gives_behind (o ∷ os) zero x = refl
gives_behind (None ∷ os) (suc i) x = refl
gives_behind (Some y ∷ os) (suc i) x = gives_behind os i x

-- where one item more goes through, the others do behind the first
pub goes_on_through : {T : Type 0} (n : LatestState T) (i k : ℕ) (x : T) → rows_through n i (suc k) ≡ true → rows_through (after_row n i x) i k ≡ true
goes_on_through n i k x e =
    let h = can_go n i (suc k) e in
    goes (after_row n i x) i k (record {
      free = h.free;
      takes_it = takes_behind n.inputs i 1 ∙ h.takes_it;
      none_waits = ap is_zero (waits_behind n.inputs i 1) ∙ h.none_waits;
      gives = gives_behind n.latest i x ∙ h.gives;
      room = room_after n.choices i k h.room;
    })

-- fewer items go through where more do
pub fewer_through : {T : Type 0} (n : LatestState T) (i k l : ℕ) → l ≤ k → rows_through n i k ≡ true → rows_through n i l ≡ true
fewer_through n i k l le e =
    let h = can_go n i k e in
    let room = h.room in
    goes n i l (record { free = h.free; takes_it = h.takes_it; none_waits = h.none_waits; gives = h.gives; room = omega (arith, le, room) })

-- ---- the input that they go through

-- an open input in which nothing waits
record IsIdle {T : Type 0} (q : QueuedInput T) : Type 0 where
  pub open_still : q.tail ≡ Open
  pub none : q.queue.items ≡ []

open_is : (t : Tail) → is_open t ≡ true → t ≡ Open
open_is Open e = refl
open_is Completion e = cc
open_is (Failure c) e = cc
open_is Taken e = cc

nothing_left : {A : Type 0} (xs : List A) (k : ℕ) → nat_eq (length xs + k) 0 ≡ true → xs ≡ []
nothing_left [] k e = refl
nothing_left (x ∷ xs) k e = absurd (above (length xs) k e)
  where
    above : (l k : ℕ) → nat_eq (suc l + k) 0 ≡ true → ⊥
    above l k e = grind (arith, nat_tests)

idle : {T : Type 0} (q : QueuedInput T) → takes q Item ≡ true → is_zero (waiting_at (Some q)) ≡ true → IsIdle q
idle q t z = record { open_still = open_is q.tail (and_parts (is_open q.tail) _ t).0; none = nothing_left q.queue.items (tail_count q.tail) z }

-- the input at place i
record IsThere {T : Type 0} (qs : List (QueuedInput T)) (i : ℕ) : Type 0 where
  pub q : QueuedInput T
  pub within : i < length qs
  pub was : q ≡ slice_index_or qs i q
  pub is_idle : IsIdle q

find : {T : Type 0} (qs : List (QueuedInput T)) (i : ℕ) → takes_at (slice_get qs i) Item ≡ true → is_zero (waiting_at (slice_get qs i)) ≡ true → IsThere qs i
find [] i t z = cc
find (q ∷ qs) zero t z = record { q = q; within = omega arith; was = refl; is_idle = idle q t z }
find (q ∷ qs) (suc i) t z =
    let p = find qs i t z in
    let lt = p.within in
    record { q = p.q; within = omega (arith, lt); was = p.was; is_idle = p.is_idle }

-- ---- an item comes in there

comes_first : {T : Type 0} (q : QueuedInput T) (x : T) → IsIdle q → (v : Stream T) → still (with_signal q (Next x)) v ≡ still q (signal_then (Next x) v)
comes_first q x h v = rw (h.open_still, h.none) refl

is_next : {T : Type 0} (q : QueuedInput T) (x : T) → IsIdle q → next_signal (with_signal q (Next x)) ≡ Some (Next x)
is_next q x h = rw (h.open_still, h.none) refl

is_passed : {T : Type 0} (q : QueuedInput T) (x : T) → IsIdle q → without (with_signal q (Next x)) (Some (Next x)) ≡ input_passed q 1
is_passed q x h = rw h.none refl

next_there : {T : Type 0} (qs : List (QueuedInput T)) (i : ℕ) (b : QueuedInput T) → i < length qs → next_signal_at (slice_get (slice_set qs i b) i) ≡ next_signal b
next_there [] i b lt = absurd (omega arith)
next_there (q ∷ qs) zero b lt = refl
next_there (q ∷ qs) (suc i) b lt = next_there qs i b (omega arith)

all_passed : {T : Type 0} (qs : List (QueuedInput T)) (i : ℕ) (q : QueuedInput T) (x : T) → i < length qs → q ≡ slice_index_or qs i q → IsIdle q → taken_at (slice_set qs i (with_signal q (Next x))) i ≡ passed_at qs i 1
all_passed [] i q x lt was h = absurd (omega arith)
all_passed (p ∷ qs) zero q x lt was h = ap (λ z. z ∷ qs) (ap (without (with_signal q (Next x))) (is_next q x h) ∙ is_passed q x h ∙ ap (λ z. input_passed z 1) was)
all_passed (p ∷ qs) (suc i) q x lt was h = ap (λ l. p ∷ l) (all_passed qs i q x (omega arith) was h)

-- ---- and its row goes out

-- the item x of input i comes in, and where one more may be sent the input is picked and the row y goes out
pub goes_through_latest : {T : Type 0} (m : Meaning T) (n : LatestState T) (i : ℕ) (x y : T) → rows_through n i 1 ≡ true → Some y ≡ row_given m.row_of n.latest i (Some (Next x)) →
    (mid : LatestState T)
    × IsTakenIn (latest_comes_out m) latest_takes latest_recorded IsLatestCounted latest_ended latest_done n i (Next x) mid
    × ((asked sent : ℕ) → sent < asked → (picked : LatestState T)
    × IsPickDone (latest_comes_out m) latest_picks latest_recording latest_recorded IsLatestCounted latest_ended latest_done mid i asked sent picked
    × (latest_ended picked ≡ false)
    × IsItemOut (latest_comes_out m) (latest_waiting m) latest_popped latest_recorded IsLatestCounted latest_ended latest_done picked y (after_row n i x))
goes_through_latest {T} m n i x y e row =
    let h = can_go n i 1 e in
    let p = find n.inputs i h.takes_it h.none_waits in
    let b = with_signal p.q (Next x) in
    let mid : LatestState T = with_input n i b in
    let noted : LatestState T = record { inputs = mid.inputs; latest = n.latest; output = n.output; choices = added_to_last n.choices 1 } in
    let at : List (QueuedInput T) → LatestState T = λ qs. record { inputs = qs; latest = slice_set n.latest i (Some x); output = n.output; choices = added_to_last n.choices 1 } in
    let next = is_next p.q x p.is_idle in
    let there = next_there n.inputs i b p.within ∙ next in
    let after : after_row n i x ≡ after_pick noted i None = sym (ap (after_signal noted i None) there ∙ ap at (all_passed n.inputs i p.q x p.within p.was p.is_idle)) in (
      mid,
      record {
        enabled = h.takes_it;
        value = signal_in m n n i (Next x) p.q b refl h.takes_it p.was refl (comes_first p.q x p.is_idle);
        notes = refl;
        counts = signal_counts n n i (Next x) p.q b refl h.takes_it p.was refl;
        goes_on = ap has_ending (empty_is n.output h.free);
      },
      λ asked sent lt.
          let picks : latest_picks mid i asked sent ≡ true = rw (h.free, there) (picks_any (Next x) (gives_row n.latest i) asked sent lt) in
          let r = row_out m mid noted (after_row n i x) i asked sent y b picks (refl, refl, refl) (read_back n.inputs i b b p.within) (row ∙ ap (row_given m.row_of n.latest i) (sym next)) (written_added n.choices i 1 h.room) after in
          (r.picked, r.pick, r.goes_on, r.out),
    )

-- ---- what is counted of all

passed_twice : (t k : ℕ) → saturating_total (saturating_total t 1) k ≡ saturating_total t (suc k)
passed_twice t k = omega arith

inputs_twice : {T : Type 0} (qs : List (QueuedInput T)) (i k : ℕ) → passed_at (passed_at qs i 1) i k ≡ passed_at qs i (suc k)
inputs_twice [] i k = refl
inputs_twice {T} (q ∷ qs) zero k =
    let at : ℕ → List (QueuedInput T) = λ t. record q { queue = record q.queue { taken = t } } ∷ qs in
    ap at (passed_twice q.queue.taken k)
inputs_twice (q ∷ qs) (suc i) k = ap (λ l. q ∷ l) (inputs_twice qs i k)

one_first : {T : Type 0} (n : LatestState T) (i k : ℕ) (x last : T) → rows_counted (after_row n i x) i k last ≡ rows_counted n i (suc k) last
one_first n i k x last = state_is (rows_counted (after_row n i x) i k last) (rows_counted n i (suc k) last) (inputs_twice n.inputs i k) (set_twice n.latest i (Some x) (Some last)) refl (added_twice n.choices k)

-- the counts of all at once are those of one after the other
pub counted_rows : {T : Type 0} (n : LatestState T) (i k : ℕ) (xs : List T) (last : T) → length xs ≡ k → last_item xs ≡ Some last → rows_counted n i k last ≡ after_rows n i xs
counted_rows n i k [] last l e = cc
counted_rows n i k (x ∷ xs) last l e = ap (λ j. rows_counted n i j last) (sym l) ∙ all n i x xs last e
  where
    all : {T : Type 0} (n : LatestState T) (i : ℕ) (x : T) (xs : List T) (last : T) → last_item (x ∷ xs) ≡ Some last → rows_counted n i (length (x ∷ xs)) last ≡ after_rows n i (x ∷ xs)
    all n i x [] last e = ap (rows_counted n i 1) (sym (same_Some x last e))
    all n i x (y ∷ xs) last e = sym (one_first n i (length (y ∷ xs)) x last) ∙ all (after_row n i x) i y xs last e

-- ---- the rows of all

pub are_rows : {T : Type 0} (row : List T → T) (latest : List (Option T)) (i : ℕ) (all : List T) (f : T → T) (xs : List T) → map Some all ≡ latest → ((z : T) → f z ≡ row (slice_set all i z)) → AreRows row latest i xs (map f xs)
are_rows row latest i all f [] same h = tt
are_rows row latest i all f (x ∷ xs) same h = (
  row_of_all row latest all i x x (f x) same refl (h x),
  are_rows row (slice_set latest i (Some x)) i (slice_set all i x) f xs (set_all all i x ∙ ap (λ l. slice_set l i (Some x)) same) (λ z. h z ∙ ap row (sym (set_twice all i x z))),
)

pub rows_long : {T : Type 0} (row : List T → T) (latest : List (Option T)) (i : ℕ) (xs ys : List T) → AreRows row latest i xs ys → length ys ≡ length xs
rows_long row latest i [] [] h = refl
rows_long row latest i [] (y ∷ ys) h = absurd h
rows_long row latest i (x ∷ xs) [] h = absurd h
rows_long row latest i (x ∷ xs) (y ∷ ys) h = ap suc (rows_long row (slice_set latest i (Some x)) i xs ys h.1)

-- ---- what the code puts together

pub input_there : {T : Type 0} (n : LatestState T) (i k : ℕ) → rows_through n i k ≡ true → i < length n.inputs
input_there n i k e = let h = can_go n i k e in (find n.inputs i h.takes_it h.none_waits).within

pub item_there : {T : Type 0} (n : LatestState T) (i k : ℕ) → rows_through n i k ≡ true → i < length n.latest
item_there n i k e = gives_there n.latest i (can_go n i k e).gives

passed_set : {T : Type 0} (qs : List (QueuedInput T)) (i k : ℕ) (a : QueuedInput T) → i < length qs → a ≡ slice_index_or qs i a → slice_set qs i (input_passed a k) ≡ passed_at qs i k
passed_set [] i k a lt was = absurd (omega arith)
passed_set (q ∷ qs) zero k a lt was = ap (λ p. input_passed p k ∷ qs) was
passed_set (q ∷ qs) (suc i) k a lt was = ap (λ l. q ∷ l) (passed_set qs i k a (omega arith) was)

pub counted_state : {T : Type 0} (start old : LatestState T) (i k : ℕ) (last : T) (a b : QueuedInput T) (latest : List (Option T)) (choices : List Run) → start ≡ old → rows_through old i k ≡ true → a ≡ slice_index_or start.inputs i a → b ≡ input_passed a k → latest ≡ slice_set start.latest i (Some last) →
    choices ≡ added_to_last start.choices k → ◌≡◌ {A = LatestState T} (record { inputs = slice_set start.inputs i b; latest = latest; output = start.output; choices = choices }) (rows_counted old i k last)
counted_state {T} start old i k last a b latest choices same e was put kept added =
    let new : LatestState T = record { inputs = slice_set start.inputs i b; latest = latest; output = start.output; choices = choices } in
    let there : i < length start.inputs = let l = ap (λ n. length n.inputs) same in let t = input_there old i k e in omega (arith, l, t) in
    state_is new (rows_counted start i k last) (ap (slice_set start.inputs i) put ∙ passed_set start.inputs i k a there was) kept refl added ∙ ap (λ n. rows_counted n i k last) same

pub rows_made : {T : Type 0} (row : List T → T) (now : List (Option T)) (all : List T) (i : ℕ) (xs ys : List T) → map Some all ≡ now → ys ≡ map (λ x. row (slice_set all i x)) xs → AreRows row now i xs ys
rows_made {T} row now all i xs ys same is =
    let P : List T → Type 0 = λ l. AreRows row now i xs l in
    subst P (sym is) (are_rows row now i all (λ x. row (slice_set all i x)) xs same (λ z. refl))

pub copy_there : {T : Type 0} (n : LatestState T) (i k : ℕ) (all : List T) → map Some all ≡ n.latest → rows_through n i k ≡ true → i < length all
copy_there n i k all same e = gives_within n.latest all (length all) i same refl (can_go n i k e).gives
