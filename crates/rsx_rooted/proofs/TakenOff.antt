-- Several items of a hub at once: what a node takes in at once it takes in one by one, and so do the nodes of a row and of a tree.
use Rattle.std.proofs.Common.{◌≡◌, ℕ, zero, suc, ◌+◌, ◌≤◌, min, Bool, true, false, ◌&&◌, if◌then◌else◌, List, [], ◌∷◌, ◌++◌, length, reverse, refl, ap, sym, ◌∙◌, subst, append_assoc, arith}
use Rattle.std.proofs.Math.Nat.{zero-add}
use Rattle.std.proofs.lemmas.List.{append-nil}
use Rattle.std.specs.Box.{with_value}
use Rattle.rsx_sources.specs.Prelude.{reads_hub}
use Rattle.rsx_sources.specs.declared.machine.Machine.{Ghosts as Machine}
use Rattle.rsx_types.specs.declared.signal.Signal.TheVariants.{Next}
use Rattle.rsx_tree.specs.declared.edge.Edge.{Edge}
use Rattle.rsx_tree.specs.declared.inputs.Inputs.{Inputs, End, More'}
use Rattle.rsx_tree.specs.declared.inputs.Inputs.TheViews.{More}
use Rattle.rsx_tree.specs.declared.node.Node.{Node}
use Rattle.rsx_tree.specs.Edges.{is_live}
use Rattle.rsx_tree.specs.Handed.{IsNodeHanded, IsRowHanded, IsTakenWhere, OneOf, has_room_in, reader_at, readers_in, room_at}
use Rattle.rsx_tree.specs.Runs.{Leads}
use Rattle.rsx_tree.proofs.Changes.{Rest}
use Rattle.rsx_tree.proofs.Runs.{leads_lift}
use Rattle.rsx_tree.proofs.Taking.{tree_handed}
use Rattle.rsx_rooted.specs.Taking.{AreTakenOff, IsItemHanded, IsItemInNode, IsItemInRow, IsItemTaken, IsTakenOff, blocks, spaces_at, spaces_in}

-- ---- a list so many times

pub blocks_add : {A : Type 0} (n k : ℕ) (ys : List A) → blocks (n + k) ys ≡ blocks n ys ++ blocks k ys
blocks_add zero k ys = ap (λ i. blocks i ys) (zero-add k)
blocks_add (suc n) k ys = ap (λ i. blocks i ys) (next n k) ∙ (ap (λ l. ys ++ l) (blocks_add n k ys) ∙ sym (append_assoc ys (blocks n ys) (blocks k ys)))
  where
    next : (i j : ℕ) → suc i + j ≡ suc (i + j)
    next i j = omega arith

-- ---- one reader behind another

pub taken_on : {T : Type 0} (one two count first second least : ℕ) (old mid new : List T) (done also : List T → Type 0) → least ≤ first → least ≤ second →
    AreTakenOff one count first old mid done → AreTakenOff two count second mid new also → AreTakenOff (one + two) count least old new (λ xs. done xs × also xs)
taken_on one two count first second least old mid new done also l m x y before xs all len fits =
    let ys = reverse xs in
    let turned : before ++ blocks (one + two) ys ≡ (before ++ blocks two ys) ++ blocks one ys = ap (λ n. before ++ blocks n ys) (swapped one two) ∙ (ap (λ l. before ++ l) (blocks_add two one ys) ∙ sym (append_assoc before (blocks two ys) (blocks one ys))) in
    let here = x (before ++ blocks two ys) xs (all ∙ turned) len (within_both count least first fits l) in
    let there = y before xs here.1 len (within_both count least second fits m) in
    ((here.0, there.0), there.1)
  where
    swapped : (a b : ℕ) → a + b ≡ b + a
    swapped a b = omega arith

    within_both : (a b c : ℕ) → a ≤ b → b ≤ c → a ≤ c
    within_both a b c p q = omega (arith, p, q)

pub taken_as : {T : Type 0} (n k count spaces more : ℕ) (old new : List T) (done also : List T → Type 0) → n ≡ k → more ≤ spaces → ((xs : List T) → done xs → also xs) → AreTakenOff n count spaces old new done → AreTakenOff k count more old new also
taken_as n k count spaces more old new done also same l lead x before xs all len fits =
    let here = x before xs (all ∙ ap (λ i. before ++ blocks i (reverse xs)) (sym same)) len (within_both count more spaces fits l) in
    (lead xs here.0, here.1)
  where
    within_both : (a b c : ℕ) → a ≤ b → b ≤ c → a ≤ c
    within_both a b c p q = omega (arith, p, q)

-- ---- what is taken by other steps

pub taken_lift : {S U T : Type 0} (step : S → T → S → Type 0) (other : U → T → U → Type 0) (f : S → U) (n n' : S) (count spaces : ℕ) (old new : List T) → ((a b : S) (x : T) → step a x b → other (f a) x (f b)) →
    IsTakenOff count spaces old new (λ xs. Leads step n xs n') → IsTakenOff count spaces old new (λ xs. Leads other (f n) xs (f n'))
taken_lift step other f n n' count spaces old new lift taken before xs all len fits =
    let here = taken before xs all len fits in
    (leads_lift step other f lift n n' xs here.0, here.1)

-- ---- where there is no room for any, none is taken

pub none_taken : {S T : Type 0} (step : S → T → S → Type 0) (n : S) (count : ℕ) (items : List T) → IsTakenOff count 0 items items (λ xs. Leads step n xs n)
none_taken step n count items before [] all len fits = (refl, all ∙ append-nil before)
none_taken step n count items before (x ∷ xs) all len fits = absurd (beyond count (length xs) len fits)
  where
    beyond : (c k : ℕ) → suc k ≡ c → c ≤ 0 → ⊥
    beyond c k e l = omega (arith, e, l)

-- ---- room

pub at_within : {M T : Type 0} (b : Machine M T) (spaces : M → ℕ) (h most : ℕ) (n : M) → spaces_at b spaces h most n ≤ most
at_within b spaces h most n = decided (reads_hub h (b.reads n)) (spaces n) most
  where
    decided : (c : Bool) (k m : ℕ) → (if c then min k m else m) ≤ m
    decided true k m = omega arith
    decided false k m = omega arith

pub in_within : {M T : Type 0} (b : Machine M T) (spaces : M → ℕ) (h most : ℕ) (t : Inputs M) → spaces_in b spaces h most t ≤ most
in_within b spaces h most End = omega arith
in_within b spaces h most (More' e n p below q beside) =
    over (is_live e.state) (spaces_in b spaces h (spaces_at b spaces h most n) below) most (spaces_in b spaces h (if is_live e.state then spaces_in b spaces h (spaces_at b spaces h most n) below else most) beside)
    (both _ (spaces_at b spaces h most n) most (in_within b spaces h (spaces_at b spaces h most n) below) (at_within b spaces h most n))
    (in_within b spaces h (if is_live e.state then spaces_in b spaces h (spaces_at b spaces h most n) below else most) beside)
  where
    both : (a c d : ℕ) → a ≤ c → c ≤ d → a ≤ d
    both a c d x y = omega (arith, x, y)

    over : (c : Bool) (k m last : ℕ) → k ≤ m → last ≤ (if c then k else m) → last ≤ m
    over true k m last x y = omega (arith, x, y)
    over false k m last x y = y

-- a node that reads the hub has room for as many
pub at_reader : {M T : Type 0} (b : Machine M T) (spaces : M → ℕ) (h most : ℕ) (n : M) → reads_hub h (b.reads n) ≡ true → spaces_at b spaces h most n ≤ spaces n
at_reader b spaces h most n reads = decided (reads_hub h (b.reads n)) (spaces n) most reads
  where
    decided : (c : Bool) (k m : ℕ) → c ≡ true → (if c then min k m else m) ≤ k
    decided true k m r = omega arith
    decided false k m r = cc

-- ---- one node

-- a node that reads the hub goes on reading it as it takes items in
pub node_run : {M T : Type 0} (b : Machine M T) (h : ℕ) (n n' : M) (xs : List T) → reads_hub h (b.reads n) ≡ true → Leads (IsItemTaken b) n xs n' → Leads (IsItemInNode b h) n xs n'
node_run b h n n' [] reads run = run
node_run {M} {T} b h n n' (x ∷ xs) reads run =
    let step = run.1 in
    let on = step.taken.on in
    let W : Bool → Type 0 = λ c. IsTakenWhere b (Next x) c n run.0 in
    let still : reads_hub h (b.reads run.0) ≡ true = ap (reads_hub h) on.reads_on ∙ (ap (reads_hub h) (sym on.read) ∙ reads) in
    (run.0, record { room = ap (λ c. if c then b.rooms n else true) reads ∙ step.room; handed = subst W (sym reads) step.taken }, node_run b h run.0 n' xs still run.2)

-- one that doesn't read it stays as it is
pub node_unread : {M T : Type 0} (b : Machine M T) (h : ℕ) (n : M) (xs : List T) → reads_hub h (b.reads n) ≡ false → Leads (IsItemInNode b h) n xs n
node_unread b h n [] reads = refl
node_unread {M} {T} b h n (x ∷ xs) reads =
    let W : Bool → Type 0 = λ c. IsTakenWhere b (Next x) c n n in
    (n, record { room = ap (λ c. if c then b.rooms n else true) reads; handed = subst W (sym reads) refl }, node_unread b h n xs reads)

pub node_reads : {M T : Type 0} (b : Machine M T) (spaces : M → ℕ) (h count most : ℕ) (n n' : M) (old new : List T) → reads_hub h (b.reads n) ≡ true →
    IsTakenOff count (spaces n) old new (λ xs. Leads (IsItemTaken b) n xs n') → AreTakenOff (reader_at b h n) count (spaces_at b spaces h most n) old new (λ xs. Leads (IsItemInNode b h) n xs n')
node_reads {M} {T} b spaces h count most n n' old new reads taken before xs all len fits =
    let one : reader_at b h n ≡ 1 = ap (λ c. if c then 1 else 0) reads in
    let here = taken before xs (all ∙ (ap (λ k. before ++ blocks k (reverse xs)) one ∙ ap (λ l. before ++ l) (append-nil (reverse xs)))) len (both count _ (spaces n) fits (at_reader b spaces h most n reads)) in
    (node_run b h n n' xs reads here.0, here.1)
  where
    both : (a c d : ℕ) → a ≤ c → c ≤ d → a ≤ d
    both a c d x y = omega (arith, x, y)

pub node_rests : {M T : Type 0} (b : Machine M T) (h count spaces : ℕ) (n : M) (items : List T) → reads_hub h (b.reads n) ≡ false → AreTakenOff (reader_at b h n) count spaces items items (λ xs. Leads (IsItemInNode b h) n xs n)
node_rests b h count spaces n items reads before xs all len fits =
    let none : reader_at b h n ≡ 0 = ap (λ c. if c then 1 else 0) reads in
    (node_unread b h n xs reads, all ∙ (ap (λ k. before ++ blocks k (reverse xs)) none ∙ append-nil before))

-- ---- a row

pub end_run : {M T : Type 0} (b : Machine M T) (h : ℕ) (xs : List T) → Leads (IsItemInRow b h) End xs End
end_run b h [] = refl
end_run b h (x ∷ xs) = (End, record { room = refl; handed = refl }, end_run b h xs)

pub end_taken : {M T : Type 0} (b : Machine M T) (spaces : M → ℕ) (h count most : ℕ) (t : Inputs M) (items : List T) → t ≡ End → AreTakenOff (readers_in b h t) count (spaces_in b spaces h most t) items items (λ xs. Leads (IsItemInRow b h) t xs t)
end_taken {M} {T} b spaces h count most t items is before xs all len fits =
    let R : Inputs M → Type 0 = λ u. Leads (IsItemInRow b h) u xs u in
    (subst R (sym is) (end_run b h xs), all ∙ (ap (λ u. before ++ blocks (readers_in b h u) (reverse xs)) is ∙ append-nil before))

-- behind an edge that isn't live nothing is taken
pub past_run : {M T : Type 0} (b : Machine M T) (h : ℕ) (e : Edge) (n : M) (below beside : Rest M) (new : Inputs M) (xs : List T) → is_live e.state ≡ false →
    Leads (IsItemInRow b h) beside.value xs new → Leads (IsItemInRow b h) (More e n below beside) xs (More e n below (with_value beside new))
past_run b h e n below beside new [] dead run = ap (λ t. More e n below (with_value beside t)) run
past_run {M} {T} b h e n below beside new (x ∷ xs) dead run =
    let O : Bool → Type 0 = λ c. OneOf c (IsNodeHanded b h (Next x) n n × IsRowHanded b h (Next x) below.value below.value) ((n ≡ n) × (below.value ≡ below.value)) in (
      More e n below (with_value beside run.0),
      record {
        room = ap (λ c. (if c then room_at b h n && has_room_in b h below.value else true) && has_room_in b h beside.value) dead ∙ run.1.room;
        handed = (n, below.value, run.0, refl, subst O (sym dead) (refl, refl), run.1.handed);
      },
      past_run b h e n below (with_value beside run.0) new xs dead run.2,
    )

-- over a live edge the node takes its part, and so do those below it and beside it
pub over_run : {M T : Type 0} (b : Machine M T) (h : ℕ) (e : Edge) (n n' : M) (below beside : Rest M) (down new : Inputs M) (xs : List T) → is_live e.state ≡ true →
    Leads (IsItemInNode b h) n xs n' → Leads (IsItemInRow b h) below.value xs down → Leads (IsItemInRow b h) beside.value xs new →
    Leads (IsItemInRow b h) (More e n below beside) xs (More e n' (with_value below down) (with_value beside new))
over_run b h e n n' below beside down new [] live node under run =
    ap (λ k. More e k (with_value below down) (with_value beside new)) node ∙ (ap (λ t. More e n (with_value below t) (with_value beside new)) under ∙ ap (λ t. More e n below (with_value beside t)) run)
over_run {M} {T} b h e n n' below beside down new (x ∷ xs) live node under run =
    let O : Bool → Type 0 = λ c. OneOf c (IsNodeHanded b h (Next x) n node.0 × IsRowHanded b h (Next x) below.value under.0) ((node.0 ≡ n) × (under.0 ≡ below.value)) in (
      More e node.0 (with_value below under.0) (with_value beside run.0),
      record {
        room = ap (λ c. (if c then room_at b h n && has_room_in b h below.value else true) && has_room_in b h beside.value) live
            ∙ (ap (λ c. (c && has_room_in b h below.value) && has_room_in b h beside.value) node.1.room ∙ (ap (λ c. c && has_room_in b h beside.value) under.1.room ∙ run.1.room));
        handed = (node.0, under.0, run.0, refl, subst O (sym live) (node.1.handed, under.1.handed), run.1.handed);
      },
      over_run b h e node.0 n' (with_value below under.0) (with_value beside run.0) down new xs live node.2 under.2 run.2,
    )

pub row_past : {M T : Type 0} (b : Machine M T) (spaces : M → ℕ) (h count most : ℕ) (t : Inputs M) (e : Edge) (n : M) (below beside : Rest M) (was new : Inputs M) (old left : List T) → t ≡ More e n below beside → was ≡ beside.value → is_live e.state ≡ false →
    AreTakenOff (readers_in b h was) count (spaces_in b spaces h most was) old left (λ xs. Leads (IsItemInRow b h) was xs new) →
    AreTakenOff (readers_in b h t) count (spaces_in b spaces h most t) old left (λ xs. Leads (IsItemInRow b h) t xs (More e n below (with_value beside new)))
row_past {M} {T} b spaces h count most t e n below beside was new old left is w dead rest =
    let here : readers_in b h was ≡ readers_in b h t = sym (ap (readers_in b h) is ∙ (ap (λ c. (if c then reader_at b h n + readers_in b h below.value else 0) + readers_in b h beside.value) dead ∙ (zero-add (readers_in b h beside.value) ∙ ap (readers_in b h) (sym w)))) in
    let room : spaces_in b spaces h most t ≡ spaces_in b spaces h most was = ap (spaces_in b spaces h most) is ∙ (ap (λ c. spaces_in b spaces h (if c then spaces_in b spaces h (spaces_at b spaces h most n) below.value else most) beside.value) dead ∙ ap (spaces_in b spaces h most) (sym w)) in
    let Q : Inputs M → List T → Type 0 = λ u xs. Leads (IsItemInRow b h) u xs (More e n below (with_value beside new)) in
    let W : Inputs M → List T → Type 0 = λ u xs. Leads (IsItemInRow b h) u xs new in
    taken_as (readers_in b h was) (readers_in b h t) count (spaces_in b spaces h most was) (spaces_in b spaces h most t) old left (λ xs. W was xs) (λ xs. Q t xs) here (equal_within _ _ room)
    (λ xs run. subst (λ u. Q u xs) (sym is) (past_run b h e n below beside new xs dead (subst (λ u. W u xs) w run))) rest
  where
    equal_within : (a c : ℕ) → a ≡ c → a ≤ c
    equal_within a c x = omega (arith, x)

pub row_over : {M T : Type 0} (b : Machine M T) (spaces : M → ℕ) (h count most : ℕ) (t : Inputs M) (e : Edge) (n n' : M) (below beside : Rest M) (under was down new : Inputs M) (old mid low left : List T) → t ≡ More e n below beside → under ≡ below.value → was ≡ beside.value → is_live e.state ≡ true →
    ((m : ℕ) → AreTakenOff (reader_at b h n) count (spaces_at b spaces h m n) old mid (λ xs. Leads (IsItemInNode b h) n xs n')) →
    ((m : ℕ) → AreTakenOff (readers_in b h under) count (spaces_in b spaces h m under) mid low (λ xs. Leads (IsItemInRow b h) under xs down)) →
    ((m : ℕ) → AreTakenOff (readers_in b h was) count (spaces_in b spaces h m was) low left (λ xs. Leads (IsItemInRow b h) was xs new)) →
    AreTakenOff (readers_in b h t) count (spaces_in b spaces h most t) old left (λ xs. Leads (IsItemInRow b h) t xs (More e n' (with_value below down) (with_value beside new)))
row_over {M} {T} b spaces h count most t e n n' below beside under was down new old mid low left is u w live one two three =
    let m1 = spaces_at b spaces h most n in
    let m2 = spaces_in b spaces h m1 under in
    let m3 = spaces_in b spaces h m2 was in
    let x = reader_at b h n in
    let y = readers_in b h under in
    let z = readers_in b h was in
    let here : (x + y) + z ≡ readers_in b h t = sym (ap (readers_in b h) is ∙ (ap (λ c. (if c then x + readers_in b h below.value else 0) + readers_in b h beside.value) live ∙ (ap (λ l. (x + readers_in b h l) + readers_in b h beside.value) (sym u) ∙ ap (λ l. (x + y) + readers_in b h l) (sym w)))) in
    let room : spaces_in b spaces h most t ≡ m3 = ap (spaces_in b spaces h most) is ∙ (ap (λ c. spaces_in b spaces h (if c then spaces_in b spaces h m1 below.value else most) beside.value) live ∙ (ap (λ l. spaces_in b spaces h (spaces_in b spaces h m1 l) beside.value) (sym u) ∙ ap (spaces_in b spaces h m2) (sym w))) in
    let N : List T → Type 0 = λ xs. Leads (IsItemInNode b h) n xs n' in
    let D : List T → Type 0 = λ xs. Leads (IsItemInRow b h) under xs down in
    let B : List T → Type 0 = λ xs. Leads (IsItemInRow b h) was xs new in
    let Q : Inputs M → List T → Type 0 = λ v xs. Leads (IsItemInRow b h) v xs (More e n' (with_value below down) (with_value beside new)) in
    let l2 : m2 ≤ m1 = in_within b spaces h m1 under in
    let l3 : m3 ≤ m2 = in_within b spaces h m2 was in
    let pair = taken_on x y count m1 m2 m2 old mid low N D l2 (itself m2) (one most) (two m1) in
    let all = taken_on (x + y) z count m2 m3 m3 old low left (λ xs. N xs × D xs) B l3 (itself m3) pair (three m2) in
    taken_as ((x + y) + z) (readers_in b h t) count m3 (spaces_in b spaces h most t) old left (λ xs. (N xs × D xs) × B xs) (λ xs. Q t xs) here (equal_within _ _ room)
    (λ xs d. subst (λ v. Q v xs) (sym is) (over_run b h e n n' below beside down new xs live d.0.0 (subst (λ v. Leads (IsItemInRow b h) v xs down) u d.0.1) (subst (λ v. Leads (IsItemInRow b h) v xs new) w d.1))) all
  where
    equal_within : (a c : ℕ) → a ≡ c → a ≤ c
    equal_within a c x = omega (arith, x)

    itself : (a : ℕ) → a ≤ a
    itself a = omega arith

-- ---- a tree

tree_run : {M T : Type 0} (b : Machine M T) (h : ℕ) (n n' : M) (t t' : Inputs M) (xs : List T) → Leads (IsItemInNode b h) n xs n' → Leads (IsItemInRow b h) t xs t' →
    Leads (IsItemHanded b h) (record { machine = n; inputs = t }) xs (record { machine = n'; inputs = t' })
tree_run {M} b h n n' t t' [] node row = let made : M → Inputs M → Node M = λ k u. record { machine = k; inputs = u } in ap (λ k. made k t') node ∙ ap (made n) row
tree_run b h n n' t t' (x ∷ xs) node row = (
  record { machine = node.0; inputs = row.0 },
  record {
    room = ap (λ c. c && has_room_in b h t) node.1.room ∙ row.1.room;
    handed = tree_handed b h (Next x) n node.0 t row.0 node.1.handed row.1.handed;
  },
  tree_run b h node.0 n' row.0 t' xs node.2 row.2,
)

pub tree_taken : {M T : Type 0} (b : Machine M T) (spaces : M → ℕ) (h count most : ℕ) (n n' : M) (t t' : Inputs M) (old mid left : List T) →
    ((m : ℕ) → AreTakenOff (reader_at b h n) count (spaces_at b spaces h m n) old mid (λ xs. Leads (IsItemInNode b h) n xs n')) →
    ((m : ℕ) → AreTakenOff (readers_in b h t) count (spaces_in b spaces h m t) mid left (λ xs. Leads (IsItemInRow b h) t xs t')) →
    AreTakenOff (reader_at b h n + readers_in b h t) count (spaces_in b spaces h (spaces_at b spaces h most n) t) old left
    (λ xs. Leads (IsItemHanded b h) (record { machine = n; inputs = t }) xs (record { machine = n'; inputs = t' }))
tree_taken {M} {T} b spaces h count most n n' t t' old mid left one two =
    let m1 = spaces_at b spaces h most n in
    let m2 = spaces_in b spaces h m1 t in
    let N : List T → Type 0 = λ xs. Leads (IsItemInNode b h) n xs n' in
    let R : List T → Type 0 = λ xs. Leads (IsItemInRow b h) t xs t' in
    taken_as (reader_at b h n + readers_in b h t) (reader_at b h n + readers_in b h t) count m2 m2 old left (λ xs. N xs × R xs) _ refl (itself m2) (λ xs d. tree_run b h n n' t t' xs d.0 d.1)
    (taken_on (reader_at b h n) (readers_in b h t) count m1 m2 m2 old mid left N R (in_within b spaces h m1 t) (itself m2) (one most) (two m1))
  where
    itself : (a : ℕ) → a ≤ a
    itself a = omega arith
