-- A hub that can't take its next item in, since a node that reads it has no room: where no other node reads it, each node that does
-- offers something.
use Rattle.rsx_kinds.specs.Any.{any_machine}
use Rattle.rsx_kinds.specs.Room.{any_full}
use Rattle.rsx_graph.specs.Kinds.{has_room_at, reads_at, all_have_room, all_readers, Subscription, Part, has_room_for, readers, Feed}
use Rattle.std.proofs.Common.{◌≡◌, ◌⊎◌, inl, inr, ℕ, zero, suc, ◌+◌, ◌<◌, ◌≤◌, Bool, true, false, ◌&&◌, nat_eq, nat_lt, if◌then◌else◌, List, [], ◌∷◌, slice_get, Option, Some, None, refl, sym, ap, ◌∙◌, subst, arith}
use Rattle.std.specs.Prelude.{⊤}
use Rattle.std.proofs.lemmas.Bool.Decides.{nat_tests}
use Rattle.rsx_graph_state.proofs.Named.{same_number}
use Rattle.rsx_graph_state.specs.Prelude.{MOST_ACCEPTED, every, total}
use Rattle.rsx_pipe.proofs.Signals.{some_same}
use Rattle.rsx_subscriber.specs.Prelude.{Live, Inputs, End, More', Node}
use Rattle.rsx_sources.specs.Prelude.{Reading, reads_hub, Meaning}
use Rattle.rsx_sources.specs.declared.machine.Machine.{Ghosts as Machine}
use Rattle.rsx_tree.specs.Prelude.{is_live, has_room_in, reader_at, readers_in, room_at, IsReadAt, IsRowReadAt, IsTreeReadAt, IsStuck}
use Rattle.rsx_tree.specs.Handed as Tree

-- ---- numbers and tests

left_one : (a b : ℕ) → a + b ≤ 1 → 1 ≤ a → b ≤ 0
left_one a b l o = omega (arith, l, o)

right_one : (a b : ℕ) → a + b ≤ 1 → 1 ≤ b → a ≤ 0
right_one a b l o = omega (arith, l, o)

left_most : (a b n : ℕ) → a + b ≤ n → a ≤ n
left_most a b n l = omega (arith, l)

right_most : (a b n : ℕ) → a + b ≤ n → b ≤ n
right_most a b n l = omega (arith, l)

left_more : (a b : ℕ) → 1 ≤ a → 1 ≤ a + b
left_more a b l = omega (arith, l)

right_more : (a b : ℕ) → 1 ≤ b → 1 ≤ a + b
right_more a b l = omega (arith, l)

one_false : (a b : Bool) → a && b ≡ false → (a ≡ false) ⊎ (b ≡ false)
one_false true b e = inr e
one_false false b e = inl refl

-- ---- one node

-- where a node offers nothing, though more is asked over its edge than it sent, and can make no step, it doesn't read this hub
abbrev pub Offers : {M T : Type 0} → Machine M T → Meaning T → ℕ → M → ℕ → ℕ → Type 0
Offers b m h n asked sent = b.waiting m n ≡ None → sent < asked → IsStuck b.picks b.rows n asked sent → reads_hub h (b.reads n) ≡ false

-- a node that reads a hub and has no room offers something, where more is asked over its edge than it sent, and it can make no step
abbrev OffersWhenFull : {M T : Type 0} → Machine M T → Meaning T → Type 0
OffersWhenFull {M} b m = (n : M) (r : Reading) (asked sent : ℕ) → b.reads n ≡ Some r → b.rooms n ≡ false → r.reached < MOST_ACCEPTED → b.waiting m n ≡ None → sent < asked → IsStuck b.picks b.rows n asked sent → ⊥

-- so many items of the hub with this number were taken in
record IsCounted (counts : List (Option ℕ)) (h c : ℕ) : Type 0 where
  there : slice_get counts h ≡ Some (Some c)
  less : c < MOST_ACCEPTED

node_held : {M T : Type 0} (b : Machine M T) (m : Meaning T) (h c : ℕ) (counts : List (Option ℕ)) (n : M) (asked sent : ℕ) → OffersWhenFull b m → IsCounted counts h c → IsReadAt counts (b.reads n) → room_at b h n ≡ false → Offers b m h n asked sent
node_held {M} {T} b m h c counts n asked sent law k read room none more stuck = by_reading (b.reads n) refl
  where
    same_count : (i j : ℕ) (o : Option (Option ℕ)) → o ≡ Some (Some i) → o ≡ Some (Some j) → i ≡ j
    same_count i j o x y = let z = sym x ∙ y in cc

    by_test : (r : Reading) → b.reads n ≡ Some r → (t : Bool) → nat_eq r.hub h ≡ t → reads_hub h (b.reads n) ≡ false
    by_test r is false t = ap (reads_hub h) is ∙ t
    by_test r is true t =
        let reads : reads_hub h (b.reads n) ≡ true = ap (reads_hub h) is ∙ t in
        let full : b.rooms n ≡ false = sym (ap (λ x. if x then b.rooms n else true) reads) ∙ room in
        let there : slice_get counts r.hub ≡ Some (Some r.reached) = subst (λ o. IsReadAt counts o) is read in
        let got : r.reached ≡ c = same_count r.reached c (slice_get counts h) (ap (slice_get counts) (sym (same_number r.hub h t)) ∙ there) k.there in
        absurd (law n r asked sent is full (subst (λ i. i < MOST_ACCEPTED) (sym got) k.less) none more stuck)

    by_reading : (o : Option Reading) → b.reads n ≡ o → reads_hub h (b.reads n) ≡ false
    by_reading None is = ap (reads_hub h) is
    by_reading (Some r) is = by_test r is (nat_eq r.hub h) refl

node_reads : {M T : Type 0} (b : Machine M T) (h : ℕ) (n : M) → room_at b h n ≡ false → 1 ≤ reader_at b h n
node_reads {M} b h n room = by_test (reads_hub h (b.reads n)) room
  where
    by_test : (t : Bool) → (if t then b.rooms n else true) ≡ false → 1 ≤ (if t then 1 else 0)
    by_test true k = omega arith
    by_test false k = cc

node_unread : {M T : Type 0} (b : Machine M T) (m : Meaning T) (h : ℕ) (n : M) (asked sent : ℕ) → reader_at b h n ≤ 0 → Offers b m h n asked sent
node_unread {M} b m h n asked sent few none more stuck = by_test (reads_hub h (b.reads n)) few
  where
    by_test : (t : Bool) → (if t then 1 else 0) ≤ 0 → t ≡ false
    by_test true k = absurd (omega (arith, k))
    by_test false k = refl

-- ---- a row of nodes

-- so of each node of a row, and below it, whose edge is live
abbrev pub AllOfferIn : {M T : Type 0} → Machine M T → Meaning T → ℕ → Inputs M → Type 0
AllOfferIn b m h End = ⊤
AllOfferIn b m h (More' e n p below q beside) = (is_live e.state ≡ true → Offers b m h n e.demand.asked e.demand.sent × AllOfferIn b m h below) × AllOfferIn b m h beside

-- and of a whole tree over whose root's own edge, which is live, so many items were asked for and so many sent
abbrev pub AllOffer : {M T : Type 0} → Machine M T → Meaning T → ℕ → Node M → ℕ → ℕ → Type 0
AllOffer b m h t asked sent = Offers b m h t.machine asked sent × AllOfferIn b m h t.inputs

live_count : (t : Bool) (a b : ℕ) → t ≡ true → (if t then a else 0) + b ≡ a + b
live_count true a b e = refl
live_count false a b e = cc

row_unread : {M T : Type 0} (b : Machine M T) (m : Meaning T) (h : ℕ) (t : Inputs M) → readers_in b h t ≤ 0 → AllOfferIn b m h t
row_unread b m h End few = tt
row_unread b m h (More' e n p below q beside) few =
    let rest = right_most (if is_live e.state then reader_at b h n + readers_in b h below else 0) (readers_in b h beside) 0 few in (
      λ live.
          let here = left_most (reader_at b h n + readers_in b h below) (readers_in b h beside) 0 (subst (λ x. x ≤ 0) (live_count (is_live e.state) (reader_at b h n + readers_in b h below) (readers_in b h beside) live) few) in
          (node_unread b m h n e.demand.asked e.demand.sent (left_most (reader_at b h n) (readers_in b h below) 0 here), row_unread b m h below (right_most (reader_at b h n) (readers_in b h below) 0 here)),
      row_unread b m h beside rest,
    )

-- a node of a row and what is below it, or what is beside it, has no room
abbrev NoRoomHere : {M T : Type 0} → Machine M T → ℕ → M → Inputs M → Type 0
NoRoomHere b h n below = room_at b h n && has_room_in b h below ≡ false

here_reads : {M T : Type 0} (b : Machine M T) (h : ℕ) (n : M) (below : Inputs M) → (has_room_in b h below ≡ false → 1 ≤ readers_in b h below) → NoRoomHere b h n below → 1 ≤ reader_at b h n + readers_in b h below
here_reads b h n below deeper none = elim (one_false (room_at b h n) (has_room_in b h below) none) [
  | inl x ↦ left_more (reader_at b h n) (readers_in b h below) (node_reads b h n x)
  | inr x ↦ right_more (reader_at b h n) (readers_in b h below) (deeper x)
]

row_reads : {M T : Type 0} (b : Machine M T) (h : ℕ) (t : Inputs M) → has_room_in b h t ≡ false → 1 ≤ readers_in b h t
row_reads b h End room = cc
row_reads {M} b h (More' e n p below q beside) room = by_test (λ x. row_reads b h below x) (λ x. row_reads b h beside x) (is_live e.state) (one_false (if is_live e.state then room_at b h n && has_room_in b h below else true) (has_room_in b h beside) room)
  where
    by_test : (has_room_in b h below ≡ false → 1 ≤ readers_in b h below) → (has_room_in b h beside ≡ false → 1 ≤ readers_in b h beside) → (t : Bool) → ((if t then room_at b h n && has_room_in b h below else true) ≡ false) ⊎ (has_room_in b h beside ≡ false) → 1 ≤ (if t then reader_at b h n + readers_in b h below else 0) + readers_in b h beside
    by_test deeper further t (inr x) = right_more (if t then reader_at b h n + readers_in b h below else 0) (readers_in b h beside) (further x)
    by_test deeper further true (inl x) = left_more (reader_at b h n + readers_in b h below) (readers_in b h beside) (here_reads b h n below deeper x)
    by_test deeper further false (inl x) = cc

-- the only node that reads the hub has no room: a node, or one below it
here_held : {M T : Type 0} (b : Machine M T) (m : Meaning T) (h c : ℕ) (counts : List (Option ℕ)) (n : M) (asked sent : ℕ) (below : Inputs M) → OffersWhenFull b m → IsCounted counts h c → IsReadAt counts (b.reads n) → (has_room_in b h below ≡ false → readers_in b h below ≤ 1 → AllOfferIn b m h below) → NoRoomHere b h n below →
    reader_at b h n + readers_in b h below ≤ 1 → Offers b m h n asked sent × AllOfferIn b m h below
here_held b m h c counts n asked sent below law k read deeper none most = elim (one_false (room_at b h n) (has_room_in b h below) none) [
  | inl x ↦ (node_held b m h c counts n asked sent law k read x, row_unread b m h below (left_one (reader_at b h n) (readers_in b h below) most (node_reads b h n x)))
  | inr x ↦ (node_unread b m h n asked sent (right_one (reader_at b h n) (readers_in b h below) most (row_reads b h below x)), deeper x (right_most (reader_at b h n) (readers_in b h below) 1 most))
]

here_unread : {M T : Type 0} (b : Machine M T) (m : Meaning T) (h : ℕ) (n : M) (asked sent : ℕ) (below : Inputs M) → reader_at b h n + readers_in b h below ≤ 0 → Offers b m h n asked sent × AllOfferIn b m h below
here_unread b m h n asked sent below l = (node_unread b m h n asked sent (left_most (reader_at b h n) (readers_in b h below) 0 l), row_unread b m h below (right_most (reader_at b h n) (readers_in b h below) 0 l))

not_both : (t : Bool) → t ≡ true → t ≡ false → ⊥
not_both t x y = cc

read_behind : {M T : Type 0} (b : Machine M T) (counts : List (Option ℕ)) (t : Bool) (n : M) (below : Inputs M) → t ≡ true → (t ≡ false) ⊎ (IsReadAt counts (b.reads n) × IsRowReadAt b counts below) → IsReadAt counts (b.reads n) × IsRowReadAt b counts below
read_behind b counts t n below live k = elim k [ inl dead ↦ absurd (not_both t live dead) | inr r ↦ r ]

-- or one of the row
row_held : {M T : Type 0} (b : Machine M T) (m : Meaning T) (h c : ℕ) (counts : List (Option ℕ)) (t : Inputs M) → OffersWhenFull b m → IsCounted counts h c → IsRowReadAt b counts t → has_room_in b h t ≡ false → readers_in b h t ≤ 1 → AllOfferIn b m h t
row_held b m h c counts End law k read room few = tt
row_held {M} {T} b m h c counts (More' e n p below q beside) law k read room few =
    by_test (λ r x l. row_held b m h c counts below law k r x l) (λ x l. row_held b m h c counts beside law k read.1 x l) (is_live e.state) refl room few
  where
    by_live : (IsRowReadAt b counts below → has_room_in b h below ≡ false → readers_in b h below ≤ 1 → AllOfferIn b m h below) → (has_room_in b h beside ≡ false → readers_in b h beside ≤ 1 → AllOfferIn b m h beside) →
        is_live e.state ≡ true → (room_at b h n && has_room_in b h below) && has_room_in b h beside ≡ false → (reader_at b h n + readers_in b h below) + readers_in b h beside ≤ 1 → (is_live e.state ≡ true → Offers b m h n e.demand.asked e.demand.sent × AllOfferIn b m h below) × AllOfferIn b m h beside
    by_live deeper further live none most =
        let r = read_behind b counts (is_live e.state) n below live read.0 in
        elim (one_false (room_at b h n && has_room_in b h below) (has_room_in b h beside) none) [
          | inl x ↦ (λ _. here_held b m h c counts n e.demand.asked e.demand.sent below law k r.0 (deeper r.1) x (left_most (reader_at b h n + readers_in b h below) (readers_in b h beside) 1 most), row_unread b m h beside (left_one (reader_at b h n + readers_in b h below) (readers_in b h beside) most (here_reads b h n below (row_reads b h below) x)))
          | inr x ↦ (λ _. here_unread b m h n e.demand.asked e.demand.sent below (right_one (reader_at b h n + readers_in b h below) (readers_in b h beside) most (row_reads b h beside x)), further x (right_most (reader_at b h n + readers_in b h below) (readers_in b h beside) 1 most))
        ]

    by_test : (IsRowReadAt b counts below → has_room_in b h below ≡ false → readers_in b h below ≤ 1 → AllOfferIn b m h below) → (has_room_in b h beside ≡ false → readers_in b h beside ≤ 1 → AllOfferIn b m h beside) →
        (t : Bool) → is_live e.state ≡ t → (if t then room_at b h n && has_room_in b h below else true) && has_room_in b h beside ≡ false → (if t then reader_at b h n + readers_in b h below else 0) + readers_in b h beside ≤ 1 →
        (is_live e.state ≡ true → Offers b m h n e.demand.asked e.demand.sent × AllOfferIn b m h below) × AllOfferIn b m h beside
    by_test deeper further true is none most = by_live deeper further is none most
    by_test deeper further false is none most = (λ live. absurd (not_both (is_live e.state) live is), further none (right_most 0 (readers_in b h beside) 1 most))

-- ---- a part

tree_held : {M T : Type 0} (b : Machine M T) (m : Meaning T) (h c : ℕ) (counts : List (Option ℕ)) (t : Node M) (asked sent : ℕ) → OffersWhenFull b m → IsCounted counts h c → IsTreeReadAt b counts t → Tree.has_room b h t ≡ false → Tree.readers b h t ≤ 1 → AllOffer b m h t asked sent
tree_held b m h c counts t asked sent law k read none most = elim (one_false (room_at b h t.machine) (has_room_in b h t.inputs) none) [
  | inl x ↦ (node_held b m h c counts t.machine asked sent law k read.0 x, row_unread b m h t.inputs (left_one (reader_at b h t.machine) (readers_in b h t.inputs) most (node_reads b h t.machine x)))
  | inr x ↦ (node_unread b m h t.machine asked sent (right_one (reader_at b h t.machine) (readers_in b h t.inputs) most (row_reads b h t.inputs x)), row_held b m h c counts t.inputs law k read.1 x (right_most (reader_at b h t.machine) (readers_in b h t.inputs) 1 most))
]

tree_unread : {M T : Type 0} (b : Machine M T) (m : Meaning T) (h : ℕ) (t : Node M) (asked sent : ℕ) → Tree.readers b h t ≤ 0 → AllOffer b m h t asked sent
tree_unread b m h t asked sent few = (node_unread b m h t.machine asked sent (left_most (reader_at b h t.machine) (readers_in b h t.inputs) 0 few), row_unread b m h t.inputs (right_most (reader_at b h t.machine) (readers_in b h t.inputs) 0 few))

tree_reads : {M T : Type 0} (b : Machine M T) (h : ℕ) (t : Node M) → Tree.has_room b h t ≡ false → 1 ≤ Tree.readers b h t
tree_reads b h t none = elim (one_false (room_at b h t.machine) (has_room_in b h t.inputs) none) [
  | inl x ↦ left_more (reader_at b h t.machine) (readers_in b h t.inputs) (node_reads b h t.machine x)
  | inr x ↦ right_more (reader_at b h t.machine) (readers_in b h t.inputs) (row_reads b h t.inputs x)
]

-- each node of a part that reads this hub offers something
abbrev pub PartOffers : {T : Type 0} → Meaning T → ℕ → Part T → Type 0
PartOffers m h part = part.root.state ≡ Live → AllOffer any_machine m h part.tree part.root.demand.asked part.root.demand.sent

part_held : {T : Type 0} (m : Meaning T) (h c : ℕ) (counts : List (Option ℕ)) (part : Part T) → IsCounted counts h c → (part.root.state ≡ Live → IsTreeReadAt any_machine counts part.tree) → has_room_for h part ≡ false → readers h part ≤ 1 → PartOffers m h part
part_held {T} m h c counts part k read none most live =
    let is : is_live part.root.state ≡ true = ap is_live live in
    tree_held any_machine m h c counts part.tree part.root.demand.asked part.root.demand.sent (any_full m) k (read live) (sym (ap (λ x. if x then Tree.has_room any_machine h part.tree else true) is) ∙ none) (subst (λ x. x ≤ 1) (ap (λ x. if x then Tree.readers any_machine h part.tree else 0) is) most)

part_unread : {T : Type 0} (m : Meaning T) (h : ℕ) (part : Part T) → readers h part ≤ 0 → PartOffers m h part
part_unread {T} m h part few live =
    let is : is_live part.root.state ≡ true = ap is_live live in
    tree_unread any_machine m h part.tree part.root.demand.asked part.root.demand.sent (subst (λ x. x ≤ 0) (ap (λ x. if x then Tree.readers any_machine h part.tree else 0) is) few)

part_reads : {T : Type 0} (h : ℕ) (part : Part T) → has_room_for h part ≡ false → 1 ≤ readers h part
part_reads {T} h part none = by_test (is_live part.root.state) none
  where
    by_test : (t : Bool) → (if t then Tree.has_room any_machine h part.tree else true) ≡ false → 1 ≤ (if t then Tree.readers any_machine h part.tree else 0)
    by_test true k = tree_reads any_machine h part.tree k
    by_test false k = cc

-- ---- lists, of which each element has a count and a test, and a count where the test fails

some_counted : {X : Type 0} (count : X → ℕ) (test : X → Bool) (xs : List X) → ((x : X) → test x ≡ false → 1 ≤ count x) → every test xs ≡ false → 1 ≤ total count xs
some_counted count test [] k none = cc
some_counted count test (x ∷ xs) k none = elim (one_false (test x) (every test xs) none) [
  | inl y ↦ left_more (count x) (total count xs) (k x y)
  | inr y ↦ right_more (count x) (total count xs) (some_counted count test xs k y)
]

one_of : {X : Type 0} (count : X → ℕ) (xs : List X) (i : ℕ) (x : X) → slice_get xs i ≡ Some x → count x ≤ total count xs
one_of count [] i x e = cc
one_of {X} count (y ∷ xs) zero x e = first_of (count y) (total count xs) (count x) (ap count (some_same y x e))
  where
    first_of : (a b c : ℕ) → a ≡ c → c ≤ a + b
    first_of a b c e = omega (arith, e)
one_of count (y ∷ xs) (suc i) x e = let more = one_of count xs i x e in behind (count y) (total count xs) (count x) more
  where
    behind : (a b c : ℕ) → c ≤ b → c ≤ a + b
    behind a b c l = omega (arith, l)

-- an element that passes the test is counted beside one that doesn't
one_beside : {X : Type 0} (count : X → ℕ) (test : X → Bool) (xs : List X) (i : ℕ) (x : X) → ((y : X) → test y ≡ false → 1 ≤ count y) → every test xs ≡ false → slice_get xs i ≡ Some x → test x ≡ true → 1 + count x ≤ total count xs
one_beside count test [] i x k none e passes = cc
one_beside {X} count test (y ∷ xs) zero x k none e passes = elim (one_false (test y) (every test xs) none) [
  | inl z ↦ absurd (not_both (test x) passes (ap test (sym (some_same y x e)) ∙ z))
  | inr z ↦ first_of (count y) (total count xs) (count x) (ap count (some_same y x e)) (some_counted count test xs k z)
]
  where
    both : (t : Bool) → t ≡ true → t ≡ false → ⊥
    both t p q = cc

    first_of : (a b c : ℕ) → a ≡ c → 1 ≤ b → 1 + c ≤ a + b
    first_of a b c e l = omega (arith, e, l)
one_beside count test (y ∷ xs) (suc i) x k none e passes = elim (one_false (test y) (every test xs) none) [
  | inl z ↦ let more = one_of count xs i x e in beside (count y) (total count xs) (count x) (k y z) more
  | inr z ↦ let more = one_beside count test xs i x k z e passes in behind (count y) (total count xs) (count x) more
]
  where
    beside : (a b c : ℕ) → 1 ≤ a → c ≤ b → 1 + c ≤ a + b
    beside a b c l o = omega (arith, l, o)

    behind : (a b c : ℕ) → 1 + c ≤ b → 1 + c ≤ a + b
    behind a b c l = omega (arith, l)

-- ---- all feeds and subscriptions

-- a hub is held back by the one node that reads it
pub record IsHeld {T : Type 0} (h c : ℕ) (feeds : List (Feed T)) (subs : List (Subscription T)) : Type 0 where
  pub room : all_have_room h feeds subs ≡ false
  pub one : all_readers h feeds subs ≤ 1
  pub less : c < MOST_ACCEPTED

sub_full : {T : Type 0} (h : ℕ) (x : Subscription T) → has_room_for h x.part ≡ false → 1 ≤ readers h x.part
sub_full h x none = part_reads h x.part none

feed_full : {T : Type 0} (h : ℕ) (f : Feed T) → has_room_at h f ≡ false → 1 ≤ reads_at h f
feed_full {T} h f none = by_test (nat_lt h f.hub) none
  where
    by_test : (t : Bool) → (if t then has_room_for h f.part else true) ≡ false → 1 ≤ (if t then readers h f.part else 0)
    by_test true k = part_reads h f.part k
    by_test false k = cc

-- so each node of a subscription that reads it offers something
pub sub_offers : {T : Type 0} (m : Meaning T) (h c : ℕ) (counts : List (Option ℕ)) (feeds : List (Feed T)) (subs : List (Subscription T)) (i : ℕ) (x : Subscription T) → IsHeld h c feeds subs → slice_get counts h ≡ Some (Some c) → slice_get subs i ≡ Some x →
    (x.part.root.state ≡ Live → IsTreeReadAt any_machine counts x.part.tree) → PartOffers m h x.part
sub_offers {T} m h c counts feeds subs i x k there at read = by_room (has_room_for h x.part) refl
  where
    own : Subscription T → ℕ
    own s = readers h s.part

    room : Subscription T → Bool
    room s = has_room_for h s.part

    counted : readers h x.part ≤ total (λ s. readers h s.part) subs
    counted = one_of (λ s. readers h s.part) subs i x at

    most : readers h x.part ≤ 1
    most = within (total (reads_at h) feeds) (total (λ s. readers h s.part) subs) (readers h x.part) k.one counted
      where
        within : (a b c : ℕ) → a + b ≤ 1 → c ≤ b → c ≤ 1
        within a b c l o = omega (arith, l, o)

    none : has_room_for h x.part ≡ true → readers h x.part ≤ 0
    none passes = elim (one_false (every (has_room_at h) feeds) (every (λ s. has_room_for h s.part) subs) k.room) [
      | inl y ↦ by_feed (total (reads_at h) feeds) (total (λ s. readers h s.part) subs) (readers h x.part) k.one counted (some_counted (reads_at h) (has_room_at h) feeds (feed_full h) y)
      | inr y ↦ by_sub (total (reads_at h) feeds) (total (λ s. readers h s.part) subs) (readers h x.part) k.one (one_beside (λ s. readers h s.part) (λ s. has_room_for h s.part) subs i x (sub_full h) y at passes)
    ]
      where
        by_feed : (a b c : ℕ) → a + b ≤ 1 → c ≤ b → 1 ≤ a → c ≤ 0
        by_feed a b c l o p = omega (arith, l, o, p)

        by_sub : (a b c : ℕ) → a + b ≤ 1 → 1 + c ≤ b → c ≤ 0
        by_sub a b c l o = omega (arith, l, o)

    by_room : (t : Bool) → has_room_for h x.part ≡ t → PartOffers m h x.part
    by_room true is = part_unread m h x.part (none is)
    by_room false is = part_held m h c counts x.part (record { there = there; less = k.less }) read is most

-- and each of a feed that reads it
pub feed_offers : {T : Type 0} (m : Meaning T) (h c : ℕ) (counts : List (Option ℕ)) (feeds : List (Feed T)) (subs : List (Subscription T)) (i : ℕ) (f : Feed T) → IsHeld h c feeds subs → slice_get counts h ≡ Some (Some c) → slice_get feeds i ≡ Some f → h < f.hub →
    (f.part.root.state ≡ Live → IsTreeReadAt any_machine counts f.part.tree) → PartOffers m h f.part
feed_offers {T} m h c counts feeds subs i f k there at before read = by_room (has_room_for h f.part) refl
  where
    less : nat_lt h f.hub ≡ true
    less = grind (arith, nat_tests, before)

    reads : reads_at h f ≡ readers h f.part
    reads = ap (λ t. if t then readers h f.part else 0) less

    counted : readers h f.part ≤ total (reads_at h) feeds
    counted = subst (λ n. n ≤ total (reads_at h) feeds) reads (one_of (reads_at h) feeds i f at)

    most : readers h f.part ≤ 1
    most = within (total (reads_at h) feeds) (total (λ s. readers h s.part) subs) (readers h f.part) k.one counted
      where
        within : (a b c : ℕ) → a + b ≤ 1 → c ≤ a → c ≤ 1
        within a b c l o = omega (arith, l, o)

    none : has_room_for h f.part ≡ true → readers h f.part ≤ 0
    none passes = elim (one_false (every (has_room_at h) feeds) (every (λ s. has_room_for h s.part) subs) k.room) [
      | inl y ↦ by_feed (total (reads_at h) feeds) (total (λ s. readers h s.part) subs) (readers h f.part) k.one (subst (λ n. 1 + n ≤ total (reads_at h) feeds) reads (one_beside (reads_at h) (has_room_at h) feeds i f (feed_full h) y at (ap (λ t. if t then has_room_for h f.part else true) less ∙ passes)))
      | inr y ↦ by_sub (total (reads_at h) feeds) (total (λ s. readers h s.part) subs) (readers h f.part) k.one counted (some_counted (λ s. readers h s.part) (λ s. has_room_for h s.part) subs (sub_full h) y)
    ]
      where
        by_sub : (a b c : ℕ) → a + b ≤ 1 → c ≤ a → 1 ≤ b → c ≤ 0
        by_sub a b c l o p = omega (arith, l, o, p)

        by_feed : (a b c : ℕ) → a + b ≤ 1 → 1 + c ≤ a → c ≤ 0
        by_feed a b c l o = omega (arith, l, o)

    by_room : (t : Bool) → has_room_for h f.part ≡ t → PartOffers m h f.part
    by_room true is = part_unread m h f.part (none is)
    by_room false is = part_held m h c counts f.part (record { there = there; less = k.less }) read is most
