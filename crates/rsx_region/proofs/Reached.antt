-- How far the reader of a link got: as far as what came over it.
use Rattle.std.proofs.Common.{◌≡◌, inl, inr, ℕ, ◌+◌, ◌≤◌, Bool, true, false, nat_eq, if◌then◌else◌, List, [], ◌∷◌, ◌++◌, refl, ap, sym, ◌∙◌, subst, arith, Option, Some, None}
use Rattle.std.specs.List.{AllByRecursion}
use Rattle.std.proofs.lemmas.Bool.Decides.{nat_tests}
use Rattle.rsx_sources.specs.Prelude.{Signal, Next, Complete, Error, Reading, reads_hub}
use Rattle.rsx_sources.specs.Reading.{reading_after}
use Rattle.rsx_sources.specs.declared.machine.Machine.{Ghosts as Machine}
use Rattle.rsx_tree.specs.Edges.{is_live}
use Rattle.rsx_tree.specs.Handed.{IsNodeHanded, IsRowHanded, IsTakenWhere, OneOf, reader_at, readers_in}
use Rattle.rsx_tree.specs.Handed as Tree
use Rattle.rsx_tree.specs.Reads.{readings, row_readings}
use Rattle.rsx_tree.specs.declared.inputs.Inputs.{Inputs, End, More'}
use Rattle.rsx_tree.specs.declared.node.Node.{Node}
use Rattle.rsx_link.specs.Signals.{items_in}
use Rattle.rsx_region.specs.Inlet.{HaveReached, IsReachedAt, NoneReads, OneReads}

-- ---- how many nodes read a hub, over live edges and others alike

-- 1 where it is so
abbrev count_if : Bool → ℕ
count_if c = if c then 1 else 0

abbrev count_reads : ℕ → List (Option Reading) → ℕ
count_reads h [] = 0
count_reads h (r ∷ rs) = count_if (reads_hub h r) + count_reads h rs

count_both : (h : ℕ) (rs qs : List (Option Reading)) → count_reads h (rs ++ qs) ≡ count_reads h rs + count_reads h qs
count_both h [] qs = plain (count_reads h qs)
  where
    plain : (k : ℕ) → k ≡ 0 + k
    plain k = omega arith
count_both h (r ∷ rs) qs = let k = count_both h rs qs in sums (count_if (reads_hub h r)) (count_reads h (rs ++ qs)) (count_reads h rs) (count_reads h qs) k
  where
    sums : (x a c d : ℕ) → a ≡ c + d → x + a ≡ x + c + d
    sums x a c d e = omega (arith, e)

none_count : (h : ℕ) (rs : List (Option Reading)) → NoneReads h rs → count_reads h rs ≡ 0
none_count h [] k = refl
none_count h (r ∷ rs) k = let rest = none_count h rs k.1 in let one = no_one (reads_hub h r) k.0 in sums (count_if (reads_hub h r)) (count_reads h rs) one rest
  where
    no_one : (c : Bool) → c ≡ false → count_if c ≡ 0
    no_one true e = cc
    no_one false e = refl

    sums : (x a : ℕ) → x ≡ 0 → a ≡ 0 → x + a ≡ 0
    sums x a e f = omega (arith, e, f)

one_count : (h : ℕ) (rs : List (Option Reading)) → OneReads h rs → count_reads h rs ≤ 1
one_count h [] k = omega arith
one_count h (r ∷ rs) k = elim k [
  | inl here ↦ let none = none_count h rs here.1 in with_none (reads_hub h r) (count_reads h rs) none
  | inr there ↦ let rest = one_count h rs there.1 in with_rest (reads_hub h r) (count_reads h rs) there.0 rest
]
  where
    with_none : (c : Bool) (a : ℕ) → a ≡ 0 → count_if c + a ≤ 1
    with_none true a e = omega (arith, e)
    with_none false a e = omega (arith, e)

    with_rest : (c : Bool) (a : ℕ) → c ≡ false → a ≤ 1 → count_if c + a ≤ 1
    with_rest true a e f = cc
    with_rest false a e f = omega (arith, f)

-- those over live edges are among them
live_count : {M T : Type 0} (b : Machine M T) (h : ℕ) (t : Inputs M) → readers_in b h t ≤ count_reads h (row_readings b t)
live_count b h End = omega arith
live_count b h (More' e n p below q beside) =
    let x = live_count b h below in
    let y = live_count b h beside in
    let both = count_both h (row_readings b below) (row_readings b beside) in
    by_edge (is_live e.state) (reader_at b h n) (readers_in b h below) (readers_in b h beside) (count_reads h (row_readings b below)) (count_reads h (row_readings b beside)) (count_reads h (row_readings b below ++ row_readings b beside)) x y both
  where
    by_edge : (c : Bool) (a x y u v w : ℕ) → x ≤ u → y ≤ v → w ≡ u + v → (if c then a + x else 0) + y ≤ a + w
    by_edge true a x y u v w h1 h2 h3 = omega (arith, h1, h2, h3)
    by_edge false a x y u v w h1 h2 h3 = omega (arith, h1, h2, h3)

-- ---- one node

not_reading : (h count : ℕ) (o : Option Reading) → reads_hub h o ≡ false → IsReachedAt h count o
not_reading h count None k = tt
not_reading h count (Some r) k = λ e. absurd (apart r.hub h k e)
  where
    apart : (i h : ℕ) → nat_eq i h ≡ false → i ≡ h → ⊥
    apart i h k e = grind (arith, nat_tests, k, e)

pub eq_true : (x y : ℕ) → nat_eq x y ≡ true → x ≡ y
eq_true x y h = grind (arith, nat_tests, h)

one_further : {T : Type 0} (h count : ℕ) (s : Signal T) (r : Reading) → IsReachedAt h count (Some r) → IsReachedAt h (count + items_in (s ∷ [])) (reading_after s r)
one_further h count (Next x) r k = λ e. let was = k e in more r.reached count was
  where
    more : (x c : ℕ) → x ≡ c → x + 1 ≡ c + 1
    more x c e = omega (arith, e)
one_further h count Complete r k = tt
one_further h count (Error c) r k = tt

node_further : {M T : Type 0} (b : Machine M T) (h count : ℕ) (s : Signal T) (n n' : M) → IsNodeHanded b h s n n' → IsReachedAt h count (b.reads n) → IsReachedAt h (count + items_in (s ∷ [])) (b.reads n')
node_further {M} b h count s n n' x k = by_test (reads_hub h (b.reads n)) refl x
  where
    by_test : (c : Bool) → reads_hub h (b.reads n) ≡ c → IsTakenWhere b s c n n' → IsReachedAt h (count + items_in (s ∷ [])) (b.reads n')
    by_test true is y =
        let R : Option Reading → Type 0 = λ o. IsReachedAt h (count + items_in (s ∷ [])) o in
        let Q : Option Reading → Type 0 = λ o. IsReachedAt h count o in
        subst R (sym y.on.reads_on) (one_further h count s y.on.reading (subst Q y.on.read k))
    by_test false is y =
        let R : M → Type 0 = λ a. IsReachedAt h (count + items_in (s ∷ [])) (b.reads a) in
        subst R (sym y) (not_reading h (count + items_in (s ∷ [])) (b.reads n) is)

-- of another hub
other_after : {T : Type 0} (h j count : ℕ) (s : Signal T) (r : Reading) → r.hub ≡ h → (j ≡ h → ⊥) → IsReachedAt j count (reading_after s r)
other_after h j count (Next x) r here apart = λ e. absurd (apart (sym e ∙ here))
other_after h j count Complete r here apart = tt
other_after h j count (Error c) r here apart = tt

node_beside : {M T : Type 0} (b : Machine M T) (h j count : ℕ) (s : Signal T) (n n' : M) → (j ≡ h → ⊥) → IsNodeHanded b h s n n' → IsReachedAt j count (b.reads n) → IsReachedAt j count (b.reads n')
node_beside {M} b h j count s n n' apart x k = by_test (reads_hub h (b.reads n)) refl x
  where
    by_test : (c : Bool) → reads_hub h (b.reads n) ≡ c → IsTakenWhere b s c n n' → IsReachedAt j count (b.reads n')
    by_test true is y =
        let R : Option Reading → Type 0 = λ o. IsReachedAt j count o in
        let here : y.on.reading.hub ≡ h = eq_true y.on.reading.hub h (sym (ap (reads_hub h) y.on.read) ∙ is) in
        subst R (sym y.on.reads_on) (other_after h j count s y.on.reading here apart)
    by_test false is y = let R : M → Type 0 = λ a. IsReachedAt j count (b.reads a) in subst R (sym y) k

-- ---- a row

pub each_parts : (Q : Option Reading → Type 0) (xs ys : List (Option Reading)) → AllByRecursion Q (xs ++ ys) → AllByRecursion Q xs × AllByRecursion Q ys
each_parts Q [] ys h = (tt, h)
each_parts Q (x ∷ xs) ys h = let k = each_parts Q xs ys h.1 in ((h.0, k.0), k.1)

both : (Q : Option Reading → Type 0) (xs ys : List (Option Reading)) → AllByRecursion Q xs → AllByRecursion Q ys → AllByRecursion Q (xs ++ ys)
both Q [] ys h k = k
both Q (x ∷ xs) ys h k = (h.0, both Q xs ys h.1 k)

none_reached : (h count : ℕ) (rs : List (Option Reading)) → count_reads h rs ≡ 0 → HaveReached h count rs
none_reached h count [] k = tt
none_reached h count (r ∷ rs) k = by_test (reads_hub h r) refl (none_reached h count rs (rest (count_if (reads_hub h r)) (count_reads h rs) k))
  where
    rest : (x a : ℕ) → x + a ≡ 0 → a ≡ 0
    rest x a e = omega (arith, e)

    not_one : (a : ℕ) → 1 + a ≡ 0 → ⊥
    not_one a e = omega (arith, e)

    by_test : (c : Bool) → reads_hub h r ≡ c → HaveReached h count rs → HaveReached h count (r ∷ rs)
    by_test true is rec = absurd (not_one (count_reads h rs) (sym (ap (λ c. count_if c + count_reads h rs) is) ∙ k))
    by_test false is rec = (not_reading h count r is, rec)

either_of : (c : Bool) (A D Z : Type 0) → OneOf c A D → (c ≡ true → A → Z) → (c ≡ false → D → Z) → Z
either_of true A D Z x f g = f refl x
either_of false A D Z x f g = g refl x

row_beside : {M T : Type 0} (b : Machine M T) (h j count : ℕ) (s : Signal T) (t t' : Inputs M) → (j ≡ h → ⊥) → IsRowHanded b h s t t' → HaveReached j count (row_readings b t) → HaveReached j count (row_readings b t')
row_beside {M} b h j count s End t' apart x k = let R : Inputs M → Type 0 = λ u. HaveReached j count (row_readings b u) in subst R (sym x) tt
row_beside {M} b h j count s (More' e n p below q beside) t' apart x k =
    let R : Inputs M → Type 0 = λ u. HaveReached j count (row_readings b u) in
    let Q = IsReachedAt j count in
    let old = each_parts Q (row_readings b below) (row_readings b beside) k.1 in
    let side = row_beside b h j count s beside x.2 apart x.5 old.1 in
    let A = IsNodeHanded b h s n x.0 × IsRowHanded b h s below x.1 in
    let D = (x.0 ≡ n) × (x.1 ≡ below) in
    let low : IsReachedAt j count (b.reads x.0) × HaveReached j count (row_readings b x.1) = either_of (is_live e.state) A D (IsReachedAt j count (b.reads x.0) × HaveReached j count (row_readings b x.1)) x.4
    (λ live y. (node_beside b h j count s n x.0 apart y.0 k.0, row_beside b h j count s below x.1 apart y.1 old.0))
    (λ dead y. let N : M → Type 0 = λ a. IsReachedAt j count (b.reads a) in (subst N (sym y.0) k.0, subst R (sym y.1) old.0)) in
    subst R (sym x.3) (low.0, both Q (row_readings b x.1) (row_readings b x.2) low.1 side)

-- where all that read the hub stand over live edges
row_further : {M T : Type 0} (b : Machine M T) (h count : ℕ) (s : Signal T) (t t' : Inputs M) → count_reads h (row_readings b t) ≡ readers_in b h t → IsRowHanded b h s t t' → HaveReached h count (row_readings b t) → HaveReached h (count + items_in (s ∷ [])) (row_readings b t')
row_further {M} b h count s End t' all x k = let R : Inputs M → Type 0 = λ u. HaveReached h (count + items_in (s ∷ [])) (row_readings b u) in subst R (sym x) tt
row_further {M} b h count s (More' e n p below q beside) t' all x k =
    let now = count + items_in (s ∷ []) in
    let R : Inputs M → Type 0 = λ u. HaveReached h now (row_readings b u) in
    let old = each_parts (IsReachedAt h count) (row_readings b below) (row_readings b beside) k.1 in
    let cb = count_reads h (row_readings b below) in
    let cs = count_reads h (row_readings b beside) in
    let sum = count_both h (row_readings b below) (row_readings b beside) in
    let lb = live_count b h below in
    let ls = live_count b h beside in
    let a = reader_at b h n in
    let side = row_further b h count s beside x.2 (beside_all (is_live e.state) a (readers_in b h below) (readers_in b h beside) cb cs (count_reads h (row_readings b below ++ row_readings b beside)) lb ls sum all) x.5 old.1 in
    let A = IsNodeHanded b h s n x.0 × IsRowHanded b h s below x.1 in
    let D = (x.0 ≡ n) × (x.1 ≡ below) in
    let low : IsReachedAt h now (b.reads x.0) × HaveReached h now (row_readings b x.1) = either_of (is_live e.state) A D (IsReachedAt h now (b.reads x.0) × HaveReached h now (row_readings b x.1)) x.4
    (λ live y. (node_further b h count s n x.0 y.0 k.0, row_further b h count s below x.1 (below_all (is_live e.state) live a (readers_in b h below) (readers_in b h beside) cb cs (count_reads h (row_readings b below ++ row_readings b beside)) lb ls sum all) y.1 old.0))
    (λ dead y.
    let none = dead_none (is_live e.state) dead a (readers_in b h below) (readers_in b h beside) cb cs (count_reads h (row_readings b below ++ row_readings b beside)) lb ls sum all in
    let here = none_reached h now (b.reads n ∷ row_readings b below) none in
    let N : M → Type 0 = λ o. IsReachedAt h now (b.reads o) in (subst N (sym y.0) here.0, subst R (sym y.1) here.1)) in
    subst R (sym x.3) (low.0, both (IsReachedAt h now) (row_readings b x.1) (row_readings b x.2) low.1 side)
  where
    beside_all : (c : Bool) (a x y u v w : ℕ) → x ≤ u → y ≤ v → w ≡ u + v → a + w ≡ (if c then a + x else 0) + y → v ≡ y
    beside_all true a x y u v w h1 h2 h3 h4 = omega (arith, h1, h2, h3, h4)
    beside_all false a x y u v w h1 h2 h3 h4 = omega (arith, h1, h2, h3, h4)

    below_all : (c : Bool) → c ≡ true → (a x y u v w : ℕ) → x ≤ u → y ≤ v → w ≡ u + v → a + w ≡ (if c then a + x else 0) + y → u ≡ x
    below_all true l a x y u v w h1 h2 h3 h4 = omega (arith, h1, h2, h3, h4)
    below_all false l a x y u v w h1 h2 h3 h4 = cc

    dead_none : (c : Bool) → c ≡ false → (a x y u v w : ℕ) → x ≤ u → y ≤ v → w ≡ u + v → a + w ≡ (if c then a + x else 0) + y → a + u ≡ 0
    dead_none true l a x y u v w h1 h2 h3 h4 = cc
    dead_none false l a x y u v w h1 h2 h3 h4 = omega (arith, h1, h2, h3, h4)

-- ---- a tree

pub tree_beside : {M T : Type 0} (b : Machine M T) (h j count : ℕ) (s : Signal T) (t t' : Node M) → (j ≡ h → ⊥) → Tree.IsHanded b h s t t' → HaveReached j count (readings b t) → HaveReached j count (readings b t')
tree_beside b h j count s t t' apart x k = (node_beside b h j count s t.machine t'.machine apart x.root k.0, row_beside b h j count s t.inputs t'.inputs apart x.below k.1)

-- where one node reads the hub, and stands over live edges
pub tree_further : {M T : Type 0} (b : Machine M T) (h count : ℕ) (s : Signal T) (t t' : Node M) → Tree.readers b h t ≡ 1 → OneReads h (readings b t) → Tree.IsHanded b h s t t' → HaveReached h count (readings b t) → HaveReached h (count + items_in (s ∷ [])) (readings b t')
tree_further b h count s t t' one alone x k =
    let most = one_count h (readings b t) alone in
    let least = live_count b h t.inputs in
    let all : count_reads h (row_readings b t.inputs) ≡ readers_in b h t.inputs = same (reader_at b h t.machine) (count_reads h (row_readings b t.inputs)) (readers_in b h t.inputs) one most least in
    (node_further b h count s t.machine t'.machine x.root k.0, row_further b h count s t.inputs t'.inputs all x.below k.1)
  where
    same : (a u x : ℕ) → a + x ≡ 1 → a + u ≤ 1 → x ≤ u → u ≡ x
    same a u x e f g = omega (arith, e, f, g)
