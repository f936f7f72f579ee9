-- A node that reads a hub has room for so many items at once.
use Rattle.std.proofs.Common.{◌≡◌, ℕ, suc, ◌+◌, ◌-◌, ◌<◌, ◌≤◌, min, Bool, true, false, ◌&&◌, ◌||◌, if◌then◌else◌, nat_lt, [], ◌∷◌, length, Result, Ok, Err, refl, arith}
use Rattle.std.specs.Prelude.{OnOk}
use Rattle.std.proofs.lemmas.Bool.Decides.{nat_tests}
use Rattle.std.proofs.lemmas.List.{length-append}
use Rattle.rsx_sources.specs.Prelude.{CountsStep, IsReadOn, Signal, Next, Complete, Error, is_nil}
use Rattle.rsx_hub.specs.Waiting.{is_open}
use Rattle.rsx_hub.specs.declared.TheConstants.{MOST_ACCEPTED}
use Rattle.rsx_hub.specs.Member.{MemberState, took, spaces}
use Rattle.rsx_hub.specs.Leaf.{LeafState, leaf_comes_out, leaf_counted, leaf_reads, leaf_rooms, leaf_spaces, leaf_took, member_of}
use Rattle.rsx_hub.proofs.Leaves.{counts_on, leaf_of, read_on}
use Rattle.rsx_hub.proofs.Rests.{took_rest}

room_in : (b empty : Bool) (l c r m : ℕ) → 0 < (if b then min (c - l) (m - r) else 0) → (b && ((empty || nat_lt l c) && nat_lt r m)) ≡ true
room_in true true l c r m h = grind (arith, nat_tests)
room_in true false l c r m h =
    let fits : nat_lt l c ≡ true = grind (arith, nat_tests) in
    let few : nat_lt r m ≡ true = grind (arith, nat_tests) in
    rw (fits, few) refl
room_in false empty l c r m h = absurd (omega (arith, h))

-- where it has room for one at least, it has room for the next one
pub spaces_room : {T : Type 0} (n : LeafState T) → 0 < leaf_spaces n → leaf_rooms n ≡ true
spaces_room n h = room_in (is_open n.ending) (is_nil n.queue) (length n.queue) n.capacity n.reached MOST_ACCEPTED h

takes_in : (b : Bool) (l c r m : ℕ) → 0 < (if b then min (c - l) (m - r) else 0) → (b && (nat_lt l c && nat_lt r m)) ≡ true
takes_in true l c r m h =
    let fits : nat_lt l c ≡ true = grind (arith, nat_tests) in
    let few : nat_lt r m ≡ true = grind (arith, nat_tests) in
    rw (fits, few) refl
takes_in false l c r m h = absurd (omega (arith, h))

-- and it takes that in
pub item_taken : {T : Type 0} (n : LeafState T) (x : T) → 0 < leaf_spaces n → IsReadOn leaf_comes_out leaf_reads n (Next x) (leaf_took n (Next x)) × CountsStep leaf_counted (λ k. false) (λ k i. false) n (leaf_took n (Next x))
item_taken {T} n x some =
    let m : MemberState T = member_of n in
    let made : Result ℕ ℕ = Ok 0 in
    let can = takes_in (is_open n.ending) (length n.queue) n.capacity n.reached MOST_ACCEPTED some in (
      read_on n.hub n.missed n.before m (took m (Next x)) (Next x) made refl can refl (took_rest m (Next x) can),
      counts_on n.hub n.missed n.before m (took m (Next x)) (Next x) made refl,
    )

fewer_in : (b : Bool) (k l c r m : ℕ) → suc k ≤ (if b then min (c - l) (m - r) else 0) → k ≤ (if b then min (c - (l + 1)) (m - (r + 1)) else 0)
fewer_in true k l c r m h = omega (arith, h)
fewer_in false k l c r m h = absurd (omega (arith, h))

-- after it took one in, it has room for one less
pub spaces_after : {T : Type 0} (n : LeafState T) (k : ℕ) (x : T) → suc k ≤ leaf_spaces n → k ≤ leaf_spaces (leaf_took n (Next x))
spaces_after n k x h = rw (length-append n.queue (x ∷ [])) (fewer_in (is_open n.ending) k (length n.queue) n.capacity n.reached MOST_ACCEPTED h)

-- what its member took in, it took in
took_in : {T : Type 0} (h a z : ℕ) (m : MemberState T) (s : Signal T) → leaf_of h a z (took m s) ≡ leaf_took (leaf_of h a z m) s
took_in h a z m (Next x) = refl
took_in h a z m Complete = refl
took_in h a z m (Error c) = refl

pub took_on : {T A E : Type 0} (h a z : ℕ) (m k : MemberState T) (s : Signal T) (r : Result A E) → OnOk r (k ≡ took m s) → OnOk r (leaf_of h a z k ≡ leaf_took (leaf_of h a z m) s)
took_on h a z m k s (Ok u) is = rw is (took_in h a z m s)
took_on h a z m k s (Err e) is = is

-- and it has room for as many as its member
pub spaces_is : {T : Type 0} (h a z : ℕ) (m : MemberState T) → m.gone ≡ false → spaces m ≡ leaf_spaces (leaf_of h a z m)
spaces_is h a z m live = rw live refl
