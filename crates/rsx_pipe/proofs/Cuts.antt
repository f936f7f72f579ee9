-- A part that was cut at an edge and joined again.
use Rattle.std.proofs.Common.{◌≡◌, inl, inr, ℕ, ◌+◌, ◌-◌, ◌<◌, ◌≤◌, Bool, true, false, ◌&&◌, nat_eq, nat_le, List, [], ◌∷◌, ◌++◌, length, map, Option, Some, None, refl, ap, sym, ◌∙◌, subst, arith}
use Rattle.std.specs.Prelude.{not, if◌then◌else◌}
use Rattle.std.proofs.lemmas.Bool.{and_parts, cases_lt, le-leb, lt-leb}
use Rattle.rsx_rooted.proofs.Linked.{holds_over}
use Rattle.rsx_rooted.proofs.Puts.{put_again, put_below, put_beside, put_here, size_least}
use Rattle.rsx_rooted.proofs.Regions.{root_regions, two_regions}
use Rattle.rsx_rooted.specs.Flow.{HoldsQueue, ReadsLink}
use Rattle.rsx_rooted.specs.Local.{IsLocal, ReadsNot}
use Rattle.rsx_rooted.specs.Regions.{Adds, Carries, IsCutBetween}
use Rattle.rsx_rooted.specs.Cutting.{items_of}
use Rattle.rsx_rooted.specs.declared.nodes.CrossingNodes.{Ghosts as CrossingNodes}
use Rattle.rsx_pipe.specs.Cutting.{IsCut, Place, ReadsAt, can_join_in, can_take_back, fits_behind, held_in, is_end, new_root, place_at, root_below, sender_at, with_node}
use Rattle.rsx_pipe.specs.Joined.{JoinsAfterMoves, JoinsAtOnce}
use Rattle.rsx_pipe.specs.Part.{Part}
use Rattle.rsx_sources.specs.Prelude.{Meaning, Next, Reading, Signal, Stream, reads_hub}
use Rattle.rsx_sources.specs.declared.machine.Machine.{Ghosts as Machine}
use Rattle.rsx_tree.proofs.Changes.{chosen_first, chosen_second}
use Rattle.rsx_tree.specs.Edges.{EdgeView, is_live}
use Rattle.rsx_tree.specs.Inputs.{size}
use Rattle.rsx_tree.specs.Swapped.{put_at, with_sender}
use Rattle.rsx_tree.specs.declared.inputs.Inputs.{Inputs, End, More'}
use Rattle.rsx_tree.specs.declared.node.Node.{Node}
use Rattle.rsx_types.proofs.Numbers.{not_zero}
use Rattle.rsx_types.specs.declared.limits.TheConstants.{CAPACITY}

-- ---- the sender over an edge

some_place : {A : Type 0} (x y : A) → Some x ≡ Some y → x ≡ y
some_place x y h = cc

sender_below : {M : Type 0} (at : ℕ) (e : _) (n : M) (p q : _) (below beside : Inputs M) → 0 < at → at ≤ size below → sender_at at (More' e n p below q beside) ≡ sender_at (at - 1) below
sender_below at e n p q below beside a w = chosen_second (nat_eq at 0) _ _ (not_zero at a) ∙ chosen_first (nat_le at (size below)) _ _ (le-leb at (size below) w)

sender_beside : {M : Type 0} (at : ℕ) (e : _) (n : M) (p q : _) (below beside : Inputs M) → size below < at → sender_at at (More' e n p below q beside) ≡ sender_at (at - 1 - size below) beside
sender_beside at e n p q below beside w = chosen_second (nat_eq at 0) _ _ (not_zero at (omega (arith, w))) ∙ chosen_second (nat_le at (size below)) _ _ (lt-leb at (size below) w)

-- what was put at an edge is there
pub sender_put : {M : Type 0} (t : Inputs M) (at : ℕ) (x : M) (xs : Inputs M) → at < size t → sender_at at (put_at at x xs t) ≡ Some (record { node = x; below = xs })
sender_put End at x xs h = absurd (omega (arith, h))
sender_put (More' e n p below q beside) at x xs h = elim (cases_lt 0 at) [
  | inr z ↦
      let here : at ≡ 0 = omega (arith, z) in
      ap (sender_at at) (put_here at x xs e n p q below beside here) ∙ ap (λ k. sender_at k (More' e x p xs q beside)) here
  | inl l ↦ elim (cases_lt (size below) at) [
    | inr w ↦
        let enough = size_least below (at - 1) x xs (omega (arith, l, w)) in
        ap (sender_at at) (put_below at x xs e n p q below beside l w)
        ∙ (sender_below at e n p q (put_at (at - 1) x xs below) beside l (omega (arith, enough, l)) ∙ sender_put below (at - 1) x xs (omega (arith, l, w)))
    | inl w ↦
        ap (sender_at at) (put_beside at x xs e n p q below beside w)
        ∙ (sender_beside at e n p q below (put_at (at - 1 - size below) x xs beside) w ∙ sender_put beside (at - 1 - size below) x xs (omega (arith, w, h)))
  ]
]

-- to put it there again changes nothing
pub sender_is : {M : Type 0} (t : Inputs M) (at : ℕ) (p : Place M) → sender_at at t ≡ Some p → (at < size t) × (t ≡ put_at at p.node p.below t)
sender_is End at p h = cc
sender_is {M} (More' e n r below q beside) at p h = elim (cases_lt 0 at) [
  | inr z ↦
      let here : at ≡ 0 = omega (arith, z) in
      let is : record { node = n; below = below } ≡ p = some_place _ _ (sym (ap (λ k. sender_at k (More' e n r below q beside)) here) ∙ h) in
      (omega (arith, here), ap (λ k. More' e k.node r k.below q beside) is ∙ sym (put_here at p.node p.below e n r q below beside here))
  | inl l ↦ elim (cases_lt (size below) at) [
    | inr w ↦
        let rec = sender_is below (at - 1) p (sym (sender_below at e n r q below beside l w) ∙ h) in
        let less = rec.0 in
        (omega (arith, less, l), ap (λ k. More' e n r k q beside) rec.1 ∙ sym (put_below at p.node p.below e n r q below beside l w))
    | inl w ↦
        let rec = sender_is beside (at - 1 - size below) p (sym (sender_beside at e n r q below beside w) ∙ h) in
        let less = rec.0 in
        (omega (arith, less, w), ap (λ k. More' e n r below q k) rec.1 ∙ sym (put_beside at p.node p.below e n r q below beside w))
  ]
]

-- ---- an edge that is cut is there

nothing_else : {A : Type 0} (c : Bool) (o : Option A) (x : A) → (if c then o else None) ≡ Some x → o ≡ Some x
nothing_else true o x h = h
nothing_else false o x h = cc

root_under : {M T : Type 0} (queue : M → Option (List T)) (at : ℕ) (e : _) (n : M) (p q : _) (below beside : Inputs M) → 0 < at → at ≤ size below → root_below queue at (More' e n p below q beside) ≡ (if is_live e.state then root_below queue (at - 1) below else None)
root_under queue at e n p q below beside a w = chosen_second (nat_eq at 0) _ _ (not_zero at a) ∙ chosen_first (nat_le at (size below)) _ _ (le-leb at (size below) w)

root_beside : {M T : Type 0} (queue : M → Option (List T)) (at : ℕ) (e : _) (n : M) (p q : _) (below beside : Inputs M) → size below < at → root_below queue at (More' e n p below q beside) ≡ root_below queue (at - 1 - size below) beside
root_beside queue at e n p q below beside w = chosen_second (nat_eq at 0) _ _ (not_zero at (omega (arith, w))) ∙ chosen_second (nat_le at (size below)) _ _ (lt-leb at (size below) w)

root_there : {M T : Type 0} (queue : M → Option (List T)) (t : Inputs M) (at : ℕ) (x : EdgeView) → root_below queue at t ≡ Some x → at < size t
root_there queue End at x h = cc
root_there {M} {T} queue (More' e n p below q beside) at x h = elim (cases_lt 0 at) [
  | inr z ↦ omega (arith, z)
  | inl l ↦ elim (cases_lt (size below) at) [
    | inr w ↦
        let rec = root_there queue below (at - 1) x (nothing_else (is_live e.state) (root_below queue (at - 1) below) x (sym (root_under queue at e n p q below beside l w) ∙ h)) in
        omega (arith, rec, l)
    | inl w ↦
        let rec = root_there queue beside (at - 1 - size below) x (sym (root_beside queue at e n p q below beside w) ∙ h) in
        omega (arith, rec, w)
  ]
]

new_root_below : {M T : Type 0} (queue : M → Option (List T)) (part : Part M) (at : ℕ) → 0 < at → new_root queue part at ≡ (if is_live part.root.state then root_below queue (at - 1) part.tree.inputs else None)
new_root_below queue part at h = chosen_second (nat_eq at 0) _ _ (not_zero at h)

-- ---- the edge of the root, or one below it

with_here : {M : Type 0} (at : ℕ) (x : M) (xs : Inputs M) (t : Node M) → at ≡ 0 → with_node at x xs t ≡ record { machine = x; inputs = xs }
with_here at x xs t h = ap (λ k. with_node k x xs t) h

with_below : {M : Type 0} (at : ℕ) (x : M) (xs : Inputs M) (t : Node M) → 0 < at → with_node at x xs t ≡ with_sender (at - 1) x xs t
with_below at x xs t h = chosen_second (nat_eq at 0) _ _ (not_zero at h)

place_below : {M : Type 0} (at : ℕ) (t : Node M) → 0 < at → place_at at t ≡ sender_at (at - 1) t.inputs
place_below at t h = chosen_second (nat_eq at 0) _ _ (not_zero at h)

-- there is such an edge
abbrev pub IsThere : {M : Type 0} → ℕ → Node M → Type 0
IsThere at t = 0 < at → at - 1 < size t.inputs

place_put : {M : Type 0} (at : ℕ) (x : M) (xs : Inputs M) (t : Node M) → IsThere at t → place_at at (with_node at x xs t) ≡ Some (record { node = x; below = xs })
place_put at x xs t there = elim (cases_lt 0 at) [
  | inr z ↦ let here : at ≡ 0 = omega (arith, z) in ap (place_at at) (with_here at x xs t here) ∙ ap (λ k. place_at k (record { machine = x; inputs = xs })) here
  | inl l ↦ ap (place_at at) (with_below at x xs t l) ∙ (place_below at (with_sender (at - 1) x xs t) l ∙ sender_put t.inputs (at - 1) x xs (there l))
]

pub place_is : {M : Type 0} (at : ℕ) (p : Place M) (t : Node M) → place_at at t ≡ Some p → IsThere at t × (t ≡ with_node at p.node p.below t)
place_is {M} at p t h = elim (cases_lt 0 at) [
  | inr z ↦
      let here : at ≡ 0 = omega (arith, z) in
      let is : record { node = t.machine; below = t.inputs } ≡ p = some_place _ _ (sym (ap (λ k. place_at k t) here) ∙ h) in
      ((λ l. omega (arith, z, l)), ap (λ k. let n : Node M = record { machine = k.node; inputs = k.below } in n) is ∙ sym (with_here at p.node p.below t here))
  | inl l ↦
      let found = sender_is t.inputs (at - 1) p (sym (place_below at t l) ∙ h) in
      ((λ k. found.0), ap (λ r. let n : Node M = record { machine = t.machine; inputs = r } in n) found.1 ∙ sym (with_below at p.node p.below t l))
]

put_twice : {M : Type 0} (at : ℕ) (x y : M) (xs ys : Inputs M) (t : Node M) → IsThere at t → with_node at x xs (with_node at y ys t) ≡ with_node at x xs t
put_twice {M} at x y xs ys t there = elim (cases_lt 0 at) [
  | inr z ↦ let here : at ≡ 0 = omega (arith, z) in with_here at x xs (with_node at y ys t) here ∙ sym (with_here at x xs t here)
  | inl l ↦
      ap (with_node at x xs) (with_below at y ys t l)
      ∙ (with_below at x xs (with_sender (at - 1) y ys t) l
      ∙ (ap (λ r. let n : Node M = record { machine = t.machine; inputs = r } in n) (put_again t.inputs (at - 1) x y xs ys (there l))
      ∙ sym (with_below at x xs t l)))
]

pub cut_there : {M T : Type 0} (b : Machine M T) (crossing : CrossingNodes M T) (old new below : Part M) (at : ℕ) (reader : M) (queue : List T) → IsCut b crossing old at reader below queue new → IsThere at old.tree
cut_there b crossing old new below at reader queue c l =
    root_there crossing.edge_queue old.tree.inputs (at - 1) _ (nothing_else (is_live old.root.state) (root_below crossing.edge_queue (at - 1) old.tree.inputs) _ (sym (new_root_below crossing.edge_queue old at l) ∙ c.edge))

-- ---- joined at once

fits_empty : (k : ℕ) → k ≤ CAPACITY → nat_le (0 + k) CAPACITY ≡ true
fits_empty k h = le-leb (0 + k) CAPACITY (omega (arith, h))

pub at_once : {M T : Type 0} (b : Machine M T) (crossing : CrossingNodes M T) → JoinsAtOnce b crossing
at_once {M} {T} b crossing old new below at hub reader queue c none reads few =
    let there = cut_there b crossing old new below at reader queue c in
    let upper : new.tree ≡ with_node at reader End old.tree = ap (λ p. p.tree) c.upper in
    let place : place_at at new.tree ≡ Some (record { node = reader; below = End }) = ap (place_at at) upper ∙ place_put at reader End old.tree there in
    let x = crossing.queued queue below.tree.machine in
    let held : held_in crossing (place_at at new.tree) ≡ [] = ap (held_in crossing) place ∙ ap items_of none in
    let fits : fits_behind (crossing.held reader) (length queue) ≡ true = ap (λ o. fits_behind o (length queue)) none ∙ fits_empty (length queue) few in
    let can : can_join_in b crossing hub queue (place_at at new.tree) ≡ true = ap (can_join_in b crossing hub queue) place ∙ (ap (λ r. r && fits_behind (crossing.held reader) (length queue)) reads ∙ fits) in
    let tree : with_node at (crossing.queued (held_in crossing (place_at at new.tree) ++ queue) below.tree.machine) below.tree.inputs new.tree ≡ old.tree
    = ap (λ is. with_node at (crossing.queued (is ++ queue) below.tree.machine) below.tree.inputs new.tree) held
    ∙ (ap (with_node at x below.tree.inputs) upper ∙ (put_twice at x reader below.tree.inputs End old.tree there ∙ sym c.whole)) in (
      ap (λ k. not k && can_join_in b crossing hub queue (place_at at new.tree)) c.straight ∙ can,
      ap (λ p. let q : Part M = record { tree = with_node at (crossing.queued (held_in crossing (place_at at new.tree) ++ queue) below.tree.machine) below.tree.inputs new.tree; root = p.root } in q) c.upper
          ∙ ap (λ t. let q : Part M = record { tree = t; root = old.root } in q) tree,
    )

-- ---- joined after moves

pub ended_row : {M : Type 0} (t : Inputs M) → is_end t ≡ true → t ≡ End
ended_row End h = refl
ended_row (More' e n p below q beside) h = cc

pub holds_some : {T : Type 0} (o : Option (List T)) (k : ℕ) → fits_behind o k ≡ true → o ≡ Some (items_of o)
holds_some None k h = cc
holds_some (Some q) k h = refl

pub is_false : (c : Bool) → not c ≡ true → c ≡ false
is_false true h = cc
is_false false h = refl

pub next_append : {T : Type 0} (xs ys : List T) → map Next (xs ++ ys) ≡ map Next xs ++ map Next ys
next_append [] ys = refl
next_append (x ∷ xs) ys = ap (λ l. Next x ∷ l) (next_append xs ys)

-- two parts with a link between them, joined again
pub joined_regions : {M T : Type 0} (b : Machine M T) (m : Meaning T) (upper upper' lower lower' : Node M) (leaf leaf' x x' : M) (k at : ℕ) (queued came left held out went : List (Signal T)) (taken_above taken_below whole : List (Stream T)) → IsLocal b m →
    IsThere at upper → IsThere at upper' →
    IsCutBetween b m k (with_node at x lower.inputs upper) (with_node at x' lower'.inputs upper') lower lower' leaf leaf' x x' queued came left held out → Adds taken_above whole k came → Adds taken_below whole k [] →
    Carries b m taken_above (with_node at leaf End upper) (with_node at leaf' End upper') went → Carries b m taken_below lower lower' out →
    Carries b m whole (with_node at x lower.inputs upper) (with_node at x' lower'.inputs upper') went
joined_regions {M} {T} b m upper upper' lower lower' leaf leaf' x x' k at queued came left held out went taken_above taken_below whole local there there' = elim (cases_lt 0 at) [
  | inr z ↦
      let here : at ≡ 0 = omega (arith, z) in
      let way : with_node {M = M} at ≡ with_node 0 = ap (λ j. with_node {M = M} j) here in
      subst F (sym way) (λ c adds nothing above below. root_regions b m lower lower' leaf leaf' x x' k queued came left held out went taken_above taken_below whole local c adds nothing above below)
  | inl l ↦
      let way : with_node {M = M} at ≡ with_sender (at - 1) = λ j. λ y ys t. with_below at y ys t l j in
      subst F (sym way) (λ c adds nothing above below. two_regions b m upper upper' lower lower' leaf leaf' x x' k (at - 1) queued came left held out went taken_above taken_below whole local (there l) (there' l) c adds nothing above below)
]
  where
    F : (M → Inputs M → Node M → Node M) → Type 0
    F W =
        IsCutBetween b m k (W x lower.inputs upper) (W x' lower'.inputs upper') lower lower' leaf leaf' x x' queued came left held out → Adds taken_above whole k came → Adds taken_below whole k [] →
        Carries b m taken_above (W leaf End upper) (W leaf' End upper') went → Carries b m taken_below lower lower' out →
        Carries b m whole (W x lower.inputs upper) (W x' lower'.inputs upper') went

-- a reader of this hub that took in so many items gives those that it holds, and then what is published after them
pub reads_at : {M T : Type 0} (b : Machine M T) (m : Meaning T) (crossing : CrossingNodes M T) →
    ((n : M) (items taken : List T) (others : List (Signal T)) (r : Reading) → crossing.held n ≡ Some items → b.reads n ≡ Some r → r.reached ≡ length taken → ReadsLink b m r.hub n (map Next taken ++ others) (map Next items ++ others)) →
    (k : ℕ) (n : M) (items taken : List T) (others : List (Signal T)) → crossing.held n ≡ Some items → ReadsAt b k (length taken) n → ReadsLink b m k n (map Next taken ++ others) (map Next items ++ others)
reads_at b m crossing reads_on k n items taken others held reads =
    subst (λ h. ReadsLink b m h n (map Next taken ++ others) (map Next items ++ others)) reads.2 (reads_on n items taken others reads.0 held reads.1 reads.3)

pub after_moves : {M T : Type 0} (b : Machine M T) (crossing : CrossingNodes M T) → ((m : Meaning T) → IsLocal b m) →
    ((m : Meaning T) (q : List T) (n : M) → b.crosses n ≡ false → HoldsQueue b m (crossing.queued q n) q n) →
    ((m : Meaning T) (n : M) (items taken : List T) (others : List (Signal T)) (r : Reading) → crossing.held n ≡ Some items → b.reads n ≡ Some r → r.reached ≡ length taken → ReadsLink b m r.hub n (map Next taken ++ others) (map Next items ++ others)) →
    JoinsAfterMoves b crossing
after_moves {M} {T} b crossing local holds_law reads_on m old new upper below lower at k reader queue queue' taken out went taken_above taken_below whole c none reads can reached sent free free' free_below adds nothing above under =
    let there = cut_there b crossing old new below at reader queue c in
    let parts = and_parts (not (b.crosses lower.tree.machine)) _ can in
    let here = reached.place in
    let can_here : can_take_back b crossing k (length queue') here.node here.below ≡ true = sym (ap (can_join_in b crossing k queue') reached.there) ∙ parts.1 in
    let last = and_parts (is_end here.below) _ can_here in
    let fits = (and_parts (reads_hub k (b.reads here.node)) _ last.1).1 in
    let leaf = here.node in
    let items = held_in crossing (place_at at upper.tree) in
    let held_is : crossing.held leaf ≡ Some items = holds_some (crossing.held leaf) (length queue') fits ∙ ap Some (sym (ap (held_in crossing) reached.there)) in
    let stands = place_is at here upper.tree reached.there in
    let tree : upper.tree ≡ with_node at leaf End upper.tree = stands.1 ∙ ap (λ r. with_node at leaf r upper.tree) (ended_row here.below last.0) in
    let cut_tree : new.tree ≡ with_node at reader End old.tree = ap (λ p. p.tree) c.upper in
    let x = crossing.queued queue below.tree.machine in
    let x' = crossing.queued (items ++ queue') lower.tree.machine in
    let R : Node M → Type 0 = λ t. ReadsNot b k t in
    let S : List (Signal T) → Type 0 = λ l. ReadsLink b m k leaf l (map Next items ++ map Next queue') in
    let H : List (Signal T) → Type 0 = λ l. ReadsLink b m k leaf (map Next queue ++ out) l in
    let between : IsCutBetween b m k (with_node at x below.tree.inputs old.tree) (with_node at x' lower.tree.inputs upper.tree) below.tree lower.tree reader leaf x x' (map Next queue) (map Next taken) (map Next queue') (map Next (items ++ queue')) out = record {
      sent = sent;
      leaf_is = reads_at b m crossing (reads_on m) k reader [] [] (map Next queue) none reads;
      leaf_is' = subst H (sym (next_append items queue')) (subst S sent (reads_at b m crossing (reads_on m) k leaf items taken (map Next queue') held_is reached.reads));
      holds = holds_over b m x (map Next queue) below.tree (holds_law m queue below.tree.machine c.straight).holds;
      holds' = holds_over b m x' (map Next (items ++ queue')) lower.tree (holds_law m (items ++ queue') lower.tree.machine (is_false (b.crosses lower.tree.machine) parts.0)).holds;
      free = subst R c.whole free;
      free' = free';
      free_below = free_below;
    } in
    let U : Node M → Type 0 = λ t. Carries b m taken_above t upper.tree went in
    let V : Node M → Type 0 = λ t. Carries b m taken_above (with_node at reader End old.tree) t went in
    let W : Node M → Type 0 = λ t. Carries b m whole t (with_node at x' lower.tree.inputs upper.tree) went in
    subst W (sym c.whole)
    (joined_regions b m old.tree upper.tree below.tree lower.tree reader leaf x x' k at (map Next queue) (map Next taken) (map Next queue') (map Next (items ++ queue')) out went taken_above taken_below whole (local m) there stands.0 between adds nothing
    (subst V tree (subst U cut_tree above)) under)
