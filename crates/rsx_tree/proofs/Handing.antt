-- What a signal of a hub that was handed to a tree changes, and what it doesn't.
use Rattle.std.proofs.Common.{◌≡◌, ℕ, zero, suc, ◌+◌, Bool, true, false, ◌&&◌, if◌then◌else◌, List, [], ◌∷◌, ◌++◌, Option, Some, None, Result, Ok, Err, refl, ap, sym, ◌∙◌, subst, arith}
use Rattle.std.specs.Prelude.{OnOk, OnErr}
use Rattle.rsx_sources.specs.Prelude.{Signal, Next, Complete, Error, CountsStep, Reading, IsReadOn, reads_hub, takes_published, IsSameKind}
use Rattle.rsx_sources.specs.declared.machine.Machine.{Ghosts as Machine}
use Rattle.rsx_tree.specs.declared.edge.Edge.{Edge}
use Rattle.rsx_tree.specs.declared.inputs.Inputs.{Inputs}
use Rattle.rsx_tree.specs.declared.inputs.Inputs.TheViews.{More}
use Rattle.rsx_tree.specs.Edges.{is_live}
use Rattle.rsx_tree.specs.Handed.{reader_at, readers_in, room_at, has_room_in, is_room_for, times, IsTakenBy, IsTakenWhere, IsNodeHanded, OneOf, IsRowHanded}
use Rattle.std.specs.Box.{with_value}
use Rattle.std.proofs.Math.Nat.{zero-add}
use Rattle.std.proofs.lemmas.Bool.{and_parts, both_ways}
use Rattle.rsx_tree.proofs.Changes.{Rest}

-- ---- the same signal so many times

length_one : {A : Type 0} (xs : List A) (a b : A) → b ∷ [] ≡ xs ++ a ∷ [] → (a ≡ b) × (xs ≡ [])
length_one [] a b e = (cc, refl)
length_one (x ∷ []) a b e = cc
length_one (x ∷ y ∷ ys) a b e = cc

tail_of : {A : Type 0} (x y : A) (xs ys : List A) → x ∷ xs ≡ y ∷ ys → (x ≡ y) × (xs ≡ ys)
tail_of x y xs ys e = (cc, cc)

-- the last of them, and those before it
pub last_of : {A : Type 0} (n : ℕ) (xs : List A) (a s : A) → times (suc n) s ≡ xs ++ a ∷ [] → (a ≡ s) × (xs ≡ times n s)
last_of zero xs a s e = length_one xs a s e
last_of (suc n) [] a s e = cc
last_of (suc n) (x ∷ xs) a s e =
    let both = tail_of s x (times (suc n) s) (xs ++ a ∷ []) e in
    let rest = last_of n xs a s both.1 in
    (rest.0, ap (λ y. y ∷ xs) (sym both.0) ∙ ap (λ l. s ∷ l) rest.1)

-- ---- a node

pub room_first : {T : Type 0} (s : Signal T) (a b : Bool) → is_room_for s (a && b) ≡ true → is_room_for s a ≡ true
room_first (Next x) a b h = (and_parts a b h).0
room_first Complete a b h = refl
room_first (Error c) a b h = refl

pub room_second : {T : Type 0} (s : Signal T) (a b : Bool) → is_room_for s (a && b) ≡ true → is_room_for s b ≡ true
room_second (Next x) a b h = (and_parts a b h).1
room_second Complete a b h = refl
room_second (Error c) a b h = refl

can_take : {T : Type 0} (h : ℕ) (o : Option Reading) (room : Bool) (s : Signal T) → reads_hub h o ≡ true → is_room_for s (if reads_hub h o then room else true) ≡ true → takes_published o room s ≡ true
can_take h None room s r k = cc
can_take h (Some w) room (Next x) r k = sym (ap (λ c. if c then room else true) r) ∙ k
can_take h (Some w) room Complete r k = refl
can_take h (Some w) room (Error c) r k = refl

taken_by : {M T A E : Type 0} (b : Machine M T) (s : Signal T) (n n' : M) (r : Result A E) → OnOk r (IsReadOn b.comes_out b.reads n s n') → OnOk r (b.heard n s n') → b.recorded n' ≡ b.recorded n → OnOk r (CountsStep b.counted b.ended b.done n n') → OnErr r (takes_published (b.reads n) (b.rooms n) s ≡ false) → IsSameKind b.crosses b.pop_allocates b.signal_allocates b.step_allocates n n' →
    takes_published (b.reads n) (b.rooms n) s ≡ true → IsTakenBy b s n n'
taken_by b s n n' (Ok a) on heard recorded counts refused calls can = record { on = on; recorded = recorded; counts = counts; calls = calls; heard = heard }
taken_by b s n n' (Err e) on heard recorded counts refused calls can = absurd (both_ways _ refused can)

-- a node that reads the hub took the last of the signals in
pub handed_to : {M T A E : Type 0} (b : Machine M T) (h k : ℕ) (s x : Signal T) (n n' : M) (r : Result A E) (old new : List (Signal T)) → reads_hub h (b.reads n) ≡ true → old ≡ new ++ x ∷ [] →
    OnOk r (IsReadOn b.comes_out b.reads n x n') → OnOk r (b.heard n x n') → b.recorded n' ≡ b.recorded n → OnOk r (CountsStep b.counted b.ended b.done n n') → OnErr r (takes_published (b.reads n) (b.rooms n) x ≡ false) → IsSameKind b.crosses b.pop_allocates b.signal_allocates b.step_allocates n n' →
    old ≡ times (k + reader_at b h n) s → is_room_for s (room_at b h n) ≡ true → IsNodeHanded b h s n n' × (new ≡ times k s)
handed_to {M} {T} b h k s x n n' r old new reads popped on heard recorded counts refused calls all room =
    let one : k + reader_at b h n ≡ suc k = ap (λ c. k + (if c then 1 else 0)) reads ∙ more k in
    let last = last_of k new x s (sym (all ∙ ap (λ j. times j s) one) ∙ popped) in
    let can : takes_published (b.reads n) (b.rooms n) x ≡ true = ap (takes_published (b.reads n) (b.rooms n)) last.0 ∙ can_take h (b.reads n) (b.rooms n) s reads room in
    let T' : Signal T → Type 0 = λ y. IsTakenBy b y n n' in
    let W : Bool → Type 0 = λ c. IsTakenWhere b s c n n' in
    (subst W (sym reads) (subst T' last.0 (taken_by b x n n' r on heard recorded counts refused calls can)), last.1)
  where
    more : (j : ℕ) → j + 1 ≡ suc j
    more j = omega arith

-- ---- a row

-- behind an edge that isn't live nothing changed
pub row_past : {M T : Type 0} (b : Machine M T) (h k : ℕ) (s : Signal T) (t : Inputs M) (e : Edge) (n : M) (below beside : Rest M) (was new : Inputs M) (old left : List (Signal T)) → t ≡ More e n below beside → was ≡ beside.value → is_live e.state ≡ false →
    ((j : ℕ) → old ≡ times (j + readers_in b h was) s → is_room_for s (has_room_in b h was) ≡ true → IsRowHanded b h s was new × (left ≡ times j s)) →
    old ≡ times (k + readers_in b h t) s → is_room_for s (has_room_in b h t) ≡ true → IsRowHanded b h s t (More e n below (with_value beside new)) × (left ≡ times k s)
row_past {M} {T} b h k s t e n below beside was new old left is w dead rest all room =
    let here : readers_in b h t ≡ readers_in b h was = ap (readers_in b h) is ∙ (ap (λ c. (if c then reader_at b h n + readers_in b h below.value else 0) + readers_in b h beside.value) dead ∙ (zero-add (readers_in b h beside.value) ∙ ap (readers_in b h) (sym w))) in
    let there : has_room_in b h t ≡ has_room_in b h was = ap (has_room_in b h) is ∙ (ap (λ c. (if c then room_at b h n && has_room_in b h below.value else true) && has_room_in b h beside.value) dead ∙ ap (has_room_in b h) (sym w)) in
    let done = rest k (all ∙ ap (λ j. times (k + j) s) here) (ap (is_room_for s) (sym there) ∙ room) in
    let Q : Inputs M → Type 0 = λ u. IsRowHanded b h s u (More e n below (with_value beside new)) in
    let W : Inputs M → Type 0 = λ u. IsRowHanded b h s u new in
    let O : Bool → Type 0 = λ c. OneOf c (IsNodeHanded b h s n n × IsRowHanded b h s below.value below.value) ((n ≡ n) × (below.value ≡ below.value)) in
    (subst Q (sym is) (n, below.value, new, refl, subst O (sym dead) (refl, refl), subst W w done.0), done.1)

-- over a live edge the node took its part, and so did what is below it
pub row_over : {M T : Type 0} (b : Machine M T) (h k : ℕ) (s : Signal T) (t : Inputs M) (e : Edge) (n n' : M) (below beside : Rest M) (under was down new : Inputs M) (old mid low left : List (Signal T)) → t ≡ More e n below beside → under ≡ below.value → was ≡ beside.value → is_live e.state ≡ true →
    ((j : ℕ) → old ≡ times (j + reader_at b h n) s → is_room_for s (room_at b h n) ≡ true → IsNodeHanded b h s n n' × (mid ≡ times j s)) →
    ((j : ℕ) → mid ≡ times (j + readers_in b h under) s → is_room_for s (has_room_in b h under) ≡ true → IsRowHanded b h s under down × (low ≡ times j s)) →
    ((j : ℕ) → low ≡ times (j + readers_in b h was) s → is_room_for s (has_room_in b h was) ≡ true → IsRowHanded b h s was new × (left ≡ times j s)) →
    old ≡ times (k + readers_in b h t) s → is_room_for s (has_room_in b h t) ≡ true → IsRowHanded b h s t (More e n' (with_value below down) (with_value beside new)) × (left ≡ times k s)
row_over {M} {T} b h k s t e n n' below beside under was down new old mid low left is u w live one two three all room =
    let x = reader_at b h n in
    let y = readers_in b h under in
    let z = readers_in b h was in
    let here : readers_in b h t ≡ (x + y) + z = ap (readers_in b h) is ∙ (ap (λ c. (if c then x + readers_in b h below.value else 0) + readers_in b h beside.value) live ∙ (ap (λ l. (x + readers_in b h l) + readers_in b h beside.value) (sym u) ∙ ap (λ l. (x + y) + readers_in b h l) (sym w))) in
    let there : has_room_in b h t ≡ (room_at b h n && has_room_in b h under) && has_room_in b h was = ap (has_room_in b h) is ∙ (ap (λ c. (if c then room_at b h n && has_room_in b h below.value else true) && has_room_in b h beside.value) live ∙ (ap (λ l. (room_at b h n && has_room_in b h l) && has_room_in b h beside.value) (sym u) ∙ ap (λ l. (room_at b h n && has_room_in b h under) && has_room_in b h l) (sym w))) in
    let rooms = ap (is_room_for s) (sym there) ∙ room in
    let inside = room_first s (room_at b h n && has_room_in b h under) (has_room_in b h was) rooms in
    let first = one (k + z + y) (all ∙ ap (λ j. times j s) (ap (λ j. k + j) here ∙ turned k x y z)) (room_first s (room_at b h n) (has_room_in b h under) inside) in
    let second = two (k + z) first.1 (room_second s (room_at b h n) (has_room_in b h under) inside) in
    let third = three k second.1 (room_second s (room_at b h n && has_room_in b h under) (has_room_in b h was) rooms) in
    let Q : Inputs M → Type 0 = λ v. IsRowHanded b h s v (More e n' (with_value below down) (with_value beside new)) in
    let U : Inputs M → Type 0 = λ v. IsRowHanded b h s v down in
    let W : Inputs M → Type 0 = λ v. IsRowHanded b h s v new in
    let O : Bool → Type 0 = λ c. OneOf c (IsNodeHanded b h s n n' × IsRowHanded b h s below.value down) ((n' ≡ n) × (down ≡ below.value)) in
    (subst Q (sym is) (n', down, new, refl, subst O (sym live) (first.0, subst U u second.0), subst W w third.0), third.1)
  where
    turned : (j x y z : ℕ) → j + ((x + y) + z) ≡ j + z + y + x
    turned j x y z = omega arith
