-- Items that go through a merge in one go.
use Rattle.std.proofs.Common.{◌≡◌, ℕ, zero, suc, ◌<◌, ◌≤◌, nat_le, Bool, true, false, ◌&&◌, List, [], ◌∷◌, ◌++◌, length, slice_index_or, slice_set, slice_get, Option, Some, None, option_map, is_none, drop, refl, ap, sym, ◌∙◌, subst, arith}
use Rattle.std.specs.Global.{Vec}
use Rattle.std.specs.Vec.{with_item}
use Rattle.std.proofs.lemmas.Bool.{and_parts, leb-true, le-leb}
use Rattle.std.proofs.lemmas.List.{length-set, set-set}
use Rattle.std.proofs.lemmas.Option.{same_Some}
use denote.Struct.Props.{props}
use Rattle.rsx_types.proofs.Lists.{slice_get-set_same}
use Rattle.rsx_demand.specs.Demand.{saturating_total}
use Rattle.rsx_sources.specs.Prelude.{Next, Meaning, Stream, signal_then, front_of, IsTakenIn}
use Rattle.rsx_sources.specs.declared.machine.Front.TheVariants.{Item}
use Rattle.rsx_prefetch.specs.Queue.{queue}
use Rattle.rsx_values.specs.Record.{room_of_last, added_to_last}
use Rattle.rsx_values.proofs.LastRuns.{added_twice, room_after, written_added}
use Rattle.rsx_queued.specs.declared.tail.Tail.{Tail}
use Rattle.rsx_queued.specs.declared.tail.Tail.TheVariants.{Open, Completion, Failure, Taken}
use Rattle.rsx_queued.specs.declared.input.QueuedInput.{QueuedInput}
use Rattle.rsx_queued.specs.Input.{input_passed}
use Rattle.rsx_queued.specs.declared.output.Output.TheVariants.{Empty}
use Rattle.rsx_queued.specs.Prelude.{first_held, is_open, unless_taken, still, takes, is_empty, has_ending, is_taken, may_go, may_go_less, next_signal, next_signal_at, takes_at, with_signal, without, Gives}
use Rattle.rsx_queued.proofs.Changed.{IsPut, is_put}
use Rattle.rsx_queued.proofs.Outputs.{empty_is}
use Rattle.rsx_queued.proofs.Queues.{gives_item}
use Rattle.rsx_merging.specs.declared.merge_node.MergeNode.{MergeNode}
use Rattle.rsx_merging.specs.Merge.{merge_comes_out, merge_takes, merge_picks, merge_recorded, merge_counted, merge_ended, merge_done, merges_through, inputs_passed, merged_more, after_merged, after_all_merged}
use Rattle.rsx_merging.proofs.Takes.{took, counts_in}
use Rattle.rsx_merging.proofs.Chosen.{IsPick, IsPickedOut, picked_out}

-- ---- what the test tells

place_there : {A : Type 0} (xs : List A) (i : ℕ) (x : A) → slice_get xs i ≡ Some x → i < length xs
place_there [] i x e = cc
place_there (y ∷ xs) zero x e = omega arith
place_there (y ∷ xs) (suc i) x e = let lt = place_there xs i x e in omega (arith, lt)

at_place : {A : Type 0} (xs : List A) (i : ℕ) (x : A) → slice_get xs i ≡ Some x → x ≡ slice_index_or xs i x
at_place [] i x e = cc
at_place (y ∷ xs) zero x e = sym (same_Some y x e)
at_place (y ∷ xs) (suc i) x e = at_place xs i x e

-- what was lent of it
pub lent_there : {A : Type 0} (xs : List A) (i : ℕ) (x y : A) → slice_get xs i ≡ Some x → y ≡ slice_index_or xs i y → slice_get xs i ≡ Some y
lent_there [] i x y e was = cc
lent_there (z ∷ xs) zero x y e was = ap Some (sym was)
lent_there (z ∷ xs) (suc i) x y e was = lent_there xs i x y e was

-- items of input i can go through the node, which has nothing in that queue
pub record CanPass {T : Type 0} (n : MergeNode T) (i : ℕ) : Type 0 where
  pub empty : n.output ≡ Empty
  pub input : QueuedInput T
  pub there : slice_get n.inputs.items i ≡ Some input
  pub takes_it : merge_takes n i Item ≡ true
  pub open_still : input.tail ≡ Open
  pub none_waits : input.queue.items ≡ []

idle_by : {T : Type 0} (t : Tail) (xs : List T) (b : Bool) → is_open t && b ≡ true → is_none (unless_taken t (first_held xs t)) ≡ true → (t ≡ Open) × (xs ≡ [])
idle_by Open [] b o e = (refl, refl)
idle_by Open (x ∷ xs) b o e = cc
idle_by Completion xs b o e = cc
idle_by (Failure c) xs b o e = cc
idle_by Taken xs b o e = cc

-- the parts of the test
parts : {T : Type 0} (n : MergeNode T) (i k : ℕ) → merges_through n i k ≡ true →
    (is_empty n.output ≡ true) × (merge_takes n i Item ≡ true) × (is_none (next_signal_at (slice_get n.inputs.items i)) ≡ true) × (k ≤ room_of_last n.choices i)
parts n i k e =
    let a = and_parts (is_empty n.output) _ e in
    let b = and_parts (merge_takes n i Item) _ a.1 in
    let c = and_parts (is_none (next_signal_at (slice_get n.inputs.items i))) _ b.1 in
    (a.0, b.0, c.0, leb-true k (room_of_last n.choices i) c.1)

pub can_pass : {T : Type 0} (n : MergeNode T) (i k : ℕ) → merges_through n i k ≡ true → CanPass n i
can_pass {T} n i k e = let p = parts n i k e in by_input (slice_get n.inputs.items i) refl p.0 p.1 p.2
  where
    by_input : (o : Option (QueuedInput T)) → slice_get n.inputs.items i ≡ o → is_empty n.output ≡ true → takes_at o Item ≡ true → is_none (next_signal_at o) ≡ true → CanPass n i
    by_input None at empty takes idle = cc
    by_input (Some q) at empty takes idle =
        let both = idle_by q.tail q.queue.items _ takes idle in
        record { empty = empty_is n.output empty; input = q; there = at; takes_it = ap (λ p. takes_at p Item) at ∙ takes; open_still = both.0; none_waits = both.1 }

-- the choices of one item are more of the last run
one_fits : {T : Type 0} (n : MergeNode T) (i k : ℕ) → merges_through n i (suc k) ≡ true → 1 ≤ room_of_last n.choices i
one_fits n i k e = let le = (parts n i (suc k) e).3 in omega (arith, le)

-- ---- one item

-- an input with one item in its queue and no ending
abbrev with_one : {T : Type 0} → QueuedInput T → T → QueuedInput T
with_one q x = with_signal q (Next x)

put_value : {T : Type 0} (t : Tail) (xs : List T) (p k : ℕ) (x : T) → t ≡ Open → xs ≡ [] → (v : Stream T) → still (with_one (record { queue = queue xs p k; tail = t }) x) v ≡ still (record { queue = queue xs p k; tail = t }) (signal_then (Next x) v)
put_value t xs p k x o e v = rw (o, e) refl

next_is : {T : Type 0} (t : Tail) (xs : List T) (x : T) → t ≡ Open → xs ≡ [] → unless_taken t (first_held (xs ++ x ∷ []) t) ≡ Some (Next x)
next_is t xs x o e = rw (o, e) refl

left_by : {T : Type 0} (xs : List T) (x : T) → xs ≡ [] → drop 1 (xs ++ x ∷ []) ≡ xs
left_by xs x e = rw e refl

first_by : {T : Type 0} (xs : List T) (x : T) → xs ≡ [] → xs ++ x ∷ [] ≡ x ∷ drop 1 (xs ++ x ∷ [])
first_by xs x e = rw e refl

-- the input after the item was put in and picked
left_is : {T : Type 0} (q : QueuedInput T) (x : T) → q.queue.items ≡ [] → without (with_one q x) (Some (Next x)) ≡ input_passed q 1
left_is q x e = ap (λ l. record { queue = queue l q.queue.capacity (saturating_total q.queue.taken 1); tail = q.tail }) (left_by q.queue.items x e)

gives_one : {T : Type 0} (q : QueuedInput T) (x : T) → q.tail ≡ Open → q.queue.items ≡ [] → Gives (with_one q x) (Next x) (without (with_one q x) (Some (Next x)))
gives_one q x o e = gives_item q.tail (q.queue.items ++ x ∷ []) (drop 1 (q.queue.items ++ x ∷ [])) x (first_by q.queue.items x e) (ap is_taken o)

-- the node with the item in the queue
abbrev taken_in : {T : Type 0} → MergeNode T → ℕ → QueuedInput T → T → MergeNode T
taken_in n i q x = record { inputs = with_item n.inputs i (with_one q x); output = n.output; choices = n.choices }

abbrev IsTaken : {T : Type 0} → Meaning T → MergeNode T → ℕ → T → MergeNode T → Type 0
IsTaken m n i x new = IsTakenIn (merge_comes_out m) merge_takes merge_recorded merge_counted merge_ended merge_done n i (Next x) new

item_taken : {T : Type 0} (m : Meaning T) (n : MergeNode T) (i : ℕ) (x : T) (c : CanPass n i) → IsTaken m n i x (taken_in n i c.input x)
item_taken {T} m n i x c =
    let q = c.input in
    let put : IsPut n.inputs.items i (Next x) q (with_one q x) = is_put n.inputs.items i (Next x) q (with_one q x) c.takes_it (at_place n.inputs.items i q c.there) refl in
    record {
      enabled = c.takes_it;
      value = took n.output n.inputs.items i q (with_one q x) (Next x) put (put_value q.tail q.queue.items q.queue.capacity q.queue.taken x c.open_still c.none_waits);
      notes = refl;
      counts = counts_in n (taken_in n i q x) i q (with_one q x) (Next x) put refl refl;
      goes_on = ap has_ending c.empty;
    }

-- the node with the item gone
abbrev gone_out : {T : Type 0} → MergeNode T → ℕ → QueuedInput T → MergeNode T
gone_out n i q = record { inputs = with_item n.inputs i (input_passed q 1); output = n.output; choices = added_to_last n.choices 1 }

gone_is : {T : Type 0} (n : MergeNode T) (i : ℕ) (q : QueuedInput T) → slice_get n.inputs.items i ≡ Some q → after_merged n i ≡ gone_out n i q
gone_is {T} n i q at =
    let f : Option (QueuedInput T) → MergeNode T = λ o. record { inputs = inputs_passed n.inputs i o 1; output = n.output; choices = added_to_last n.choices 1 } in
    ap f at

item_out : {T : Type 0} (m : Meaning T) (n : MergeNode T) (i asked sent : ℕ) (x : T) (c : CanPass n i) → 1 ≤ room_of_last n.choices i → sent < asked → IsPickedOut m (taken_in n i c.input x) i asked sent x (gone_out n i c.input)
item_out {T} m n i asked sent x c fits more =
    let q = c.input in
    let q' = with_one q x in
    let p = without q' (Some (Next x)) in
    let qs = n.inputs.items in
    let lt = place_there qs i q c.there in
    let at : slice_get (slice_set qs i q') i ≡ Some q' = slice_get-set_same qs i q' lt in
    let next : next_signal q' ≡ Some (Next x) = next_is q.tail q.queue.items x c.open_still c.none_waits in
    let goes : may_go (option_map front_of (next_signal_at (slice_get (slice_set qs i q') i))) asked sent ≡ true =
    ap (λ o. may_go (option_map front_of (next_signal_at o)) asked sent) at ∙ (ap (λ o. may_go (option_map front_of o) asked sent) next ∙ may_go_less Item asked sent more) in
    let picks : merge_picks (taken_in n i q x) i asked sent ≡ true = ap (λ o. is_empty o && may_go (option_map front_of (next_signal_at (slice_get (slice_set qs i q') i))) asked sent) c.empty ∙ goes in
    let k : IsPick n.output (slice_set qs i q') i (Next x) q' p = record {
      empty = c.empty;
      there = rw length-set lt;
      was = at_place (slice_set qs i q') i q' at;
      signal = sym next;
      gives = gives_one q x c.open_still c.none_waits;
      state = refl;
    } in
    let ins : slice_set qs i (input_passed q 1) ≡ slice_set (slice_set qs i q') i p = ap (slice_set qs i) (sym (left_is q x c.none_waits)) ∙ sym (set-set qs i q' p) in
    picked_out m (taken_in n i q x) (gone_out n i q) i asked sent x q' p picks k ins refl (written_added n.choices i 1 fits)

-- the item x of input i was taken in, and then, as soon as one more is asked for, it is picked and goes out
abbrev pub GoesThroughMerge : {T : Type 0} → Meaning T → MergeNode T → ℕ → T → MergeNode T → Type 0
GoesThroughMerge {T} m n i x new =
    (mid : MergeNode T)
    × IsTakenIn (merge_comes_out m) merge_takes merge_recorded merge_counted merge_ended merge_done n i (Next x) mid
    × ((asked sent : ℕ) → sent < asked → IsPickedOut m mid i asked sent x new)

pub goes_through_merge : {T : Type 0} (m : Meaning T) (n : MergeNode T) (i k : ℕ) (x : T) → merges_through n i (suc k) ≡ true → GoesThroughMerge m n i x (after_merged n i)
goes_through_merge {T} m n i k x e =
    let c = can_pass n i (suc k) e in
    let P : MergeNode T → Type 0 = λ z. GoesThroughMerge m n i x z in
    subst P (sym (gone_is n i c.input c.there)) (taken_in n i c.input x, item_taken m n i x c, λ asked sent more. item_out m n i asked sent x c (one_fits n i k e) more)

-- ---- one after the other

pub after_goes_on : {T : Type 0} (n : MergeNode T) (i k : ℕ) → merges_through n i k ≡ true → merge_ended (after_merged n i) ≡ false
after_goes_on n i k e = ap has_ending (can_pass n i k e).empty

-- the others can go through behind the first
pub merges_others : {T : Type 0} (n : MergeNode T) (i k : ℕ) → merges_through n i (suc k) ≡ true → merges_through (after_merged n i) i k ≡ true
merges_others {T} n i k e =
    let c = can_pass n i (suc k) e in
    let q = c.input in
    let lt = place_there n.inputs.items i q c.there in
    let at : slice_get (slice_set n.inputs.items i (input_passed q 1)) i ≡ Some (input_passed q 1) = slice_get-set_same n.inputs.items i (input_passed q 1) lt in
    let fits : nat_le k (room_of_last (added_to_last n.choices 1) i) ≡ true = le-leb k (room_of_last (added_to_last n.choices 1) i) (room_after n.choices i k (parts n i (suc k) e).3) in
    let takes : takes_at (Some q) Item ≡ true = ap (λ o. takes_at o Item) (sym c.there) ∙ c.takes_it in
    let idle : is_none (next_signal_at (Some q)) ≡ true = ap (λ o. is_none (next_signal_at o)) (sym c.there) ∙ (parts n i (suc k) e).2 in
    let test : Option (QueuedInput T) → Bool = λ o. is_empty n.output && (takes_at o Item && (is_none (next_signal_at o) && nat_le k (room_of_last (added_to_last n.choices 1) i))) in
    ap (λ z. merges_through z i k) (gone_is n i q c.there) ∙ (ap test at ∙ all_true (is_empty n.output) (takes_at (Some q) Item) (is_none (next_signal_at (Some q))) (nat_le k (room_of_last (added_to_last n.choices 1) i)) (parts n i (suc k) e).0 takes idle fits)
  where
    all_true : (a b c d : Bool) → a ≡ true → b ≡ true → c ≡ true → d ≡ true → a && (b && (c && d)) ≡ true
    all_true a b c d e f g h = rw (e, f, g, h) refl

-- ---- what is counted of all

-- a vector is what its elements are, and where they stand: how its length is known makes no difference
long_prop : {T : Type 0} (v : Vec T) (xs : List T) → IsProp ((v.len ≡ length xs) × (v.len ≤ v.cap))
long_prop v xs = hlevel props

set_twice : {T : Type 0} (v : Vec T) (i : ℕ) (x y : T) → with_item (with_item v i x) i y ≡ with_item v i y
set_twice {T} v i x y =
    let made : (xs : List T) → (v.len ≡ length xs) × (v.len ≤ v.cap) → Vec T = λ xs o. record { ptr = v.ptr; len = v.len; cap = v.cap; alloc = v.alloc; items = xs; ok = o; small = v.small } in
    let first = (with_item (with_item v i x) i y).ok in
    let P : List T → Type 0 = λ xs. (o : (v.len ≡ length xs) × (v.len ≤ v.cap)) → with_item (with_item v i x) i y ≡ made xs o in
    subst P (set-set v.items i x y) (λ o. ap (made (slice_set (slice_set v.items i x) i y)) (long_prop v (slice_set (slice_set v.items i x) i y) first o)) (with_item v i y).ok

counted_twice : (c k : ℕ) → saturating_total (saturating_total c 1) (suc k) ≡ saturating_total c (suc (suc k))
counted_twice c k = omega arith

passed_twice : {T : Type 0} (v : Vec (QueuedInput T)) (i k : ℕ) (o : Option (QueuedInput T)) → slice_get v.items i ≡ o → inputs_passed (inputs_passed v i o 1) i (slice_get (inputs_passed v i o 1).items i) (suc k) ≡ inputs_passed v i o (suc (suc k))
passed_twice v i k None e = ap (λ p. inputs_passed v i p (suc k)) e
passed_twice v i k (Some q) e =
    let one = with_item v i (input_passed q 1) in
    ap (λ p. inputs_passed one i p (suc k)) (slice_get-set_same v.items i (input_passed q 1) (place_there v.items i q e))
    ∙ (set_twice v i (input_passed q 1) (input_passed (input_passed q 1) (suc k))
    ∙ ap (λ c. with_item v i (record { queue = queue q.queue.items q.queue.capacity c; tail = q.tail })) (counted_twice q.queue.taken k))

merged_twice : {T : Type 0} (n : MergeNode T) (i k : ℕ) → merged_more (merged_more n i 1) i (suc k) ≡ merged_more n i (suc (suc k))
merged_twice {T} n i k =
    let f : Vec (QueuedInput T) → MergeNode T = λ v. record { inputs = v; output = n.output; choices = added_to_last (added_to_last n.choices 1) (suc k) } in
    ap f (passed_twice n.inputs i k (slice_get n.inputs.items i) refl) ∙ ap (λ l. record { inputs = inputs_passed n.inputs i (slice_get n.inputs.items i) (suc (suc k)); output = n.output; choices = l }) (added_twice n.choices (suc k))

pub all_merged : {T : Type 0} (n : MergeNode T) (i k : ℕ) → after_all_merged n i (suc k) ≡ merged_more n i (suc k)
all_merged n i zero = refl
all_merged n i (suc k) = all_merged (after_merged n i) i k ∙ merged_twice n i k

-- what is counted at once
pub merged_all : {T : Type 0} (n : MergeNode T) (i k : ℕ) (q : QueuedInput T) → (k ≡ 0 → ⊥) → slice_get n.inputs.items i ≡ Some q → record { inputs = with_item n.inputs i (input_passed q k); output = n.output; choices = added_to_last n.choices k } ≡ after_all_merged n i k
merged_all n i zero q some at = absurd (some refl)
merged_all {T} n i (suc k) q some at =
    let f : Option (QueuedInput T) → MergeNode T = λ o. record { inputs = inputs_passed n.inputs i o (suc k); output = n.output; choices = added_to_last n.choices (suc k) } in
    ap f (sym at) ∙ sym (all_merged n i k)
