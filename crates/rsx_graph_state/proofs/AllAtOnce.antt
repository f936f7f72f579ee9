-- A hub takes in all that waits in its inbox at once, and each of its readers takes all of it in. So it would have been item by item.
use Rattle.std.proofs.Common.{◌≡◌, ℕ, zero, suc, ◌+◌, ◌-◌, ◌<◌, ◌≤◌, inl, inr, min, Bool, true, false, ◌&&◌, if◌then◌else◌, List, [], ◌∷◌, ◌++◌, length, reverse, drop, set, get_or, slice_get, Some, nat_lt, refl, ap, sym, ◌∙◌, subst, append_assoc, arith}
use Rattle.std.proofs.lemmas.Bool.{cases_lt}
use Rattle.std.proofs.lemmas.List.{append-nil, at_drop_all, at_drop_more, drop_more, length-set}
use Rattle.std.proofs.lemmas.Option.{get_or_from_slice_get, slice_get-get_or}
use Rattle.rsx_types.specs.declared.signal.Signal.TheVariants.{Next, Complete}
use Rattle.rsx_sources.specs.Prelude.{reads_hub}
use Rattle.rsx_sources.specs.declared.machine.Machine.{Ghosts as Machine}
use Rattle.rsx_tree.specs.declared.inputs.Inputs.{Inputs, End, More'}
use Rattle.rsx_tree.specs.Edges.{is_live}
use Rattle.rsx_tree.specs.Handed.{reader_at, readers_in, times}
use Rattle.rsx_tree.specs.Handed as Tree
use Rattle.rsx_tree.specs.Runs.{Leads}
use Rattle.rsx_rooted.specs.Taking.{AreTakenOff, blocks, spaces_in}
use Rattle.rsx_rooted.specs.Taking as TreeItems
use Rattle.rsx_rooted.proofs.TakenOff.{at_within, blocks_add, in_within}
use Rattle.rsx_pipe.specs.Part.{Part}
use Rattle.rsx_pipe.specs.Published.{readers}
use Rattle.rsx_pipe.specs.Taking.{spaces_for}
use Rattle.rsx_subscriber.specs.Published.{IsItemHanded}
use Rattle.rsx_subscriber.specs.declared.subscription.Subscription.{Subscription}
use Rattle.rsx_graph_state.specs.AtOnce.{IsItemHandedToAll, IsItemHandedToFeeds, spaces_of_all, spaces_of_feeds}
use Rattle.rsx_graph_state.specs.Feeds.{IsItemHandedToFeed, reads_at, spaces_at}
use Rattle.rsx_graph_state.specs.Lists.{AllChanged, total}
use Rattle.rsx_graph_state.specs.Publishing as counts
use Rattle.rsx_graph_state.specs.Publishing.{AllFeedsHanded, AllHanded, feeds_have_room, have_room}
use Rattle.rsx_graph_state.specs.declared.feed.Feed.{Feed}
use Rattle.rsx_graph_state.proofs.Handing.{handed_through}
use Rattle.rsx_graph_state.proofs.Skipping.{HandedTo, handed_next, handed_past, unread_handed, unread_room}

-- ---- the list of items

pub one_more_block : {A : Type 0} (n : ℕ) (ys : List A) → blocks n ys ++ ys ≡ blocks (n + 1) ys
one_more_block n ys = sym (blocks_add n 1 ys ∙ ap (λ l. blocks n ys ++ l) (append-nil ys))

pub last_block : {A : Type 0} (n : ℕ) (ys : List A) → 0 < n → blocks (n - 1) ys ++ ys ≡ blocks n ys
last_block n ys some = one_more_block (n - 1) ys ∙ ap (λ k. blocks k ys) (whole n some)
  where
    whole : (k : ℕ) → 0 < k → k - 1 + 1 ≡ k
    whole k l = omega (arith, l)

-- ---- room

abbrev counted : Bool → ℕ
counted v = if v then 1 else 0

not_counted : (v : Bool) → counted v ≡ 0 → v ≡ false
not_counted true e = absurd (omega (arith, e))
not_counted false e = refl

node_spaces : {M T : Type 0} (b : Machine M T) (spaces : M → ℕ) (h most : ℕ) (n : M) → reader_at b h n ≡ 0 → TreeItems.spaces_at b spaces h most n ≡ most
node_spaces b spaces h most n none = ap (λ v. if v then min (spaces n) most else most) (not_counted (reads_hub h (b.reads n)) none)

row_spaces : {M T : Type 0} (b : Machine M T) (spaces : M → ℕ) (h most : ℕ) (t : Inputs M) → readers_in b h t ≡ 0 → spaces_in b spaces h most t ≡ most
row_spaces b spaces h most End none = refl
row_spaces {M} {T} b spaces h most (More' e n p below q beside) none = by_live (λ m z. row_spaces b spaces h m below z) (λ m z. row_spaces b spaces h m beside z) (is_live e.state) none
  where
    by_live : ((m : ℕ) → readers_in b h below ≡ 0 → spaces_in b spaces h m below ≡ m) → ((m : ℕ) → readers_in b h beside ≡ 0 → spaces_in b spaces h m beside ≡ m) → (v : Bool) → (if v then reader_at b h n + readers_in b h below else 0) + readers_in b h beside ≡ 0 →
        spaces_in b spaces h (if v then spaces_in b spaces h (TreeItems.spaces_at b spaces h most n) below else most) beside ≡ most
    by_live under side true z = side (spaces_in b spaces h (TreeItems.spaces_at b spaces h most n) below) (omega (arith, z)) ∙ (under (TreeItems.spaces_at b spaces h most n) (omega (arith, z)) ∙ node_spaces b spaces h most n (omega (arith, z)))
    by_live under side false z = side most (omega (arith, z))

-- a part of which no node reads the hub holds nothing back
unread_spaces : {M T : Type 0} (b : Machine M T) (spaces : M → ℕ) (h most : ℕ) (part : Part M) → readers b h part ≡ 0 → spaces_for b spaces h most part ≡ most
unread_spaces b spaces h most part none = by_live (is_live part.root.state) none
  where
    by_live : (v : Bool) → (if v then Tree.readers b h part.tree else 0) ≡ 0 → (if v then TreeItems.spaces_for b spaces h most part.tree else most) ≡ most
    by_live true z = row_spaces b spaces h (TreeItems.spaces_at b spaces h most part.tree.machine) part.tree.inputs (omega (arith, z)) ∙ node_spaces b spaces h most part.tree.machine (omega (arith, z))
    by_live false z = refl

part_within : {M T : Type 0} (b : Machine M T) (spaces : M → ℕ) (h most : ℕ) (part : Part M) → spaces_for b spaces h most part ≤ most
part_within b spaces h most part = by_live (is_live part.root.state) (in_within b spaces h (TreeItems.spaces_at b spaces h most part.tree.machine) part.tree.inputs) (at_within b spaces h most part.tree.machine)
  where
    by_live : (v : Bool) → TreeItems.spaces_for b spaces h most part.tree ≤ TreeItems.spaces_at b spaces h most part.tree.machine → TreeItems.spaces_at b spaces h most part.tree.machine ≤ most → (if v then TreeItems.spaces_for b spaces h most part.tree else most) ≤ most
    by_live true x y = omega (arith, x, y)
    by_live false x y = omega arith

all_within : {M T : Type 0} (mc : Machine M T) (spaces : M → ℕ) (h most : ℕ) (xs : List (Subscription M T)) → spaces_of_all mc spaces h most xs ≤ most
all_within mc spaces h most [] = omega arith
all_within mc spaces h most (x ∷ xs) =
    let one = all_within mc spaces h (spaces_for mc spaces h most x.part) xs in
    let two = part_within mc spaces h most x.part in
    omega (arith, one, two)

-- each has room for as many
pub fits_at : {M T : Type 0} (mc : Machine M T) (spaces : M → ℕ) (h count most i : ℕ) (xs : List (Subscription M T)) (x : Subscription M T) → count ≤ spaces_of_all mc spaces h most xs → slice_get xs i ≡ Some x → (k : ℕ) × (count ≤ spaces_for mc spaces h k x.part)
fits_at mc spaces h count most i [] x fits at = cc
fits_at {M} {T} mc spaces h count most zero (y ∷ ys) x fits at =
    let is : y ≡ x = cc in
    let one = all_within mc spaces h (spaces_for mc spaces h most y.part) ys in
    let here : count ≤ spaces_for mc spaces h most y.part = omega (arith, fits, one) in
    let P : Subscription M T → Type 0 = λ z. count ≤ spaces_for mc spaces h most z.part in
    (most, subst P is here)
fits_at mc spaces h count most (suc i) (y ∷ ys) x fits at = fits_at mc spaces h count (spaces_for mc spaces h most y.part) i ys x fits at

here : {X : Type 0} (xs : List X) (i : ℕ) → i < length xs → (x : X) × (slice_get xs i ≡ Some x)
here [] i l = absurd (omega (arith, l))
here (x ∷ xs) zero l = (x, refl)
here (x ∷ xs) (suc i) l = here xs i (omega (arith, l))

spaces_one : {M T : Type 0} (mc : Machine M T) (spaces : M → ℕ) (h most i : ℕ) (xs : List (Subscription M T)) → ((x : Subscription M T) → slice_get xs i ≡ Some x → readers mc h x.part ≡ 0) → spaces_of_all mc spaces h most (drop i xs) ≡ spaces_of_all mc spaces h most (drop (i + 1) xs)
spaces_one mc spaces h most i xs none = elim (cases_lt i (length xs)) [
  | inl within ↦
      let x = here xs i within in
      let is = get_or_from_slice_get xs i x.0 x.0 x.1 in
      at_drop_more (spaces_of_all mc spaces h most) xs i x.0 within ∙ (ap (λ z. spaces_of_all mc spaces h (spaces_for mc spaces h most z.part) (drop (i + 1) xs)) is ∙ ap (λ m. spaces_of_all mc spaces h m (drop (i + 1) xs)) (unread_spaces mc spaces h most x.0.part (none x.0 x.1)))
  | inr past ↦ at_drop_all (spaces_of_all mc spaces h most) xs i past ∙ sym (at_drop_all (spaces_of_all mc spaces h most) xs (i + 1) (omega (arith, past)))
]

spaces_past_by : {M T : Type 0} (mc : Machine M T) (spaces : M → ℕ) (h most d i j : ℕ) (xs : List (Subscription M T)) → i + d ≡ j → ((k : ℕ) → i ≤ k → k < j → (x : Subscription M T) → slice_get xs k ≡ Some x → readers mc h x.part ≡ 0) → spaces_of_all mc spaces h most (drop i xs) ≡ spaces_of_all mc spaces h most (drop j xs)
spaces_past_by mc spaces h most zero i j xs e none = let same : i ≡ j = omega (arith, e) in ap (λ n. spaces_of_all mc spaces h most (drop n xs)) same
spaces_past_by mc spaces h most (suc d) i j xs e none = spaces_one mc spaces h most i xs (λ x at. none i (omega arith) (omega (arith, e)) x at) ∙ spaces_past_by mc spaces h most d (i + 1) j xs (omega (arith, e)) (λ k low high x at. none k (omega (arith, low)) high x at)

-- those that are skipped hold nothing back
pub spaces_past : {M T : Type 0} (mc : Machine M T) (spaces : M → ℕ) (h most i j : ℕ) (xs : List (Subscription M T)) → i ≤ j → ((k : ℕ) → i ≤ k → k < j → (x : Subscription M T) → slice_get xs k ≡ Some x → readers mc h x.part ≡ 0) → spaces_of_all mc spaces h most (drop i xs) ≡ spaces_of_all mc spaces h most (drop j xs)
spaces_past mc spaces h most i j xs low none = spaces_past_by mc spaces h most (j - i) i j xs (omega (arith, low)) none

pub spaces_next : {M T : Type 0} (mc : Machine M T) (spaces : M → ℕ) (h most left i : ℕ) (xs : List (Subscription M T)) (x : Subscription M T) → i < length xs → x ≡ get_or xs i x → left ≡ spaces_for mc spaces h most x.part → spaces_of_all mc spaces h most (drop i xs) ≡ spaces_of_all mc spaces h left (drop (i + 1) xs)
spaces_next mc spaces h most left i xs x within read is =
    at_drop_more (spaces_of_all mc spaces h most) xs i x within ∙ (ap (λ z. spaces_of_all mc spaces h (spaces_for mc spaces h most z.part) (drop (i + 1) xs)) (sym read) ∙ ap (λ m. spaces_of_all mc spaces h m (drop (i + 1) xs)) (sym is))

-- ---- to one subscription after the other

-- those before the one with this number have changed so, and the others are as they were
abbrev Far : {X : Type 0} → (X → X → Type 0) → ℕ → List X → List X → Type 0
Far P i xs ys = HandedTo {T = Unit {0}} (λ x. 0) (λ x. true) (λ s. P) i xs ys [] []

none_in : {A : Type 0} (k n : ℕ) (s : A) → n ≡ 0 → [] ≡ times (k + n) s → [] ≡ times k s
none_in k n s z all = let e : k + n ≡ k = omega (arith, z) in all ∙ ap (λ j. times j s) e

zero_total : {X : Type 0} (xs : List X) → total (λ x. 0) xs ≡ 0
zero_total [] = refl
zero_total (x ∷ xs) = let z = zero_total xs in omega (arith, z)

far_none : {X : Type 0} (P : X → X → Type 0) (xs : List X) → Far P 0 xs xs
far_none P xs = record { count = refl; rest = refl; handed = λ s k all room. (tt, none_in k 0 s refl all) }

far_past : {X : Type 0} (P : X → X → Type 0) (i j : ℕ) (xs ys : List X) → i ≤ j → ((k : ℕ) → i ≤ k → k < j → (x : X) → slice_get xs k ≡ Some x → P x x) → Far P i xs ys → Far P j xs ys
far_past {X} P i j xs ys low same h = handed_past {T = Unit {0}} (λ x. 0) (λ x. true) (λ s. P) (j - i) i j xs ys [] [] (omega (arith, low)) (λ k l m x at. record { none = refl; room = refl; same = λ s. same k l m x at }) h

far_next : {X : Type 0} (P : X → X → Type 0) (i : ℕ) (xs ys : List X) (d y : X) → i < length xs → Far P i xs ys → P (get_or ys i d) y → Far P (i + 1) xs (set ys i y)
far_next P i xs ys d y within h made = handed_next {T = Unit {0}} (λ x. 0) (λ x. true) (λ s. P) i xs ys d y [] [] [] within h (λ s k all room. (made, none_in k 0 s refl all)) (length-set ys i y)

far_all : {X : Type 0} (P : X → X → Type 0) (i : ℕ) (xs ys : List X) → length xs ≤ i → Far P i xs ys → AllChanged P xs ys
far_all P i xs ys done h =
    let z = zero_total xs in
    let e : 0 + total (λ x. 0) xs ≡ 0 = omega (arith, z) in
    (handed_through {T = Unit {0}} (λ x. 0) (λ x. true) (λ s. P) i xs ys [] [] h.count done h.handed Complete 0 (sym (ap (λ n. times n Complete) e)) refl).0

-- one that isn't looked at
unread_run : {M T : Type 0} (mc : Machine M T) (h : ℕ) (x : Subscription M T) (items : List T) → readers mc h x.part ≡ 0 → Leads (IsItemHanded mc h) x items x
unread_run mc h x [] none = refl
unread_run mc h x (i ∷ is) none = (x, record { room = unread_room mc h x.part none; handed = unread_handed mc h (Next i) x none }, unread_run mc h x is none)

-- how far these items were handed, and what stands in the list, where so many nodes of each read the hub
pub record IsFar {X T : Type 0} (f : X → ℕ) (P : X → T → X → Type 0) (before given : List T) (i : ℕ) (xs ys : List X) (items : List T) : Type 0 where
  pub far : Far (λ x y. Leads P x given y) i xs ys
  pub left : items ≡ before ++ blocks (total f (drop i xs)) (reverse given)

pub far_begun : {X T : Type 0} (f : X → ℕ) (P : X → T → X → Type 0) (before given : List T) (xs : List X) (items : List T) → items ≡ before ++ blocks (total f xs) (reverse given) → IsFar f P before given 0 xs xs items
far_begun f P before given xs items all = record { far = far_none (λ x y. Leads P x given y) xs; left = all }

pub far_skipped : {M T : Type 0} (mc : Machine M T) (h : ℕ) (before given : List T) (i j : ℕ) (xs ys : List (Subscription M T)) (items : List T) → i ≤ j → ((k : ℕ) → i ≤ k → k < j → (x : Subscription M T) → slice_get xs k ≡ Some x → readers mc h x.part ≡ 0) →
    counts.readers mc h (drop i xs) ≡ counts.readers mc h (drop j xs) → IsFar (λ (x : Subscription M T). readers mc h x.part) (IsItemHanded mc h) before given i xs ys items → IsFar (λ (x : Subscription M T). readers mc h x.part) (IsItemHanded mc h) before given j xs ys items
far_skipped {M} {T} mc h before given i j xs ys items low none same k = record {
  far = far_past (λ (x : Subscription M T) y. Leads (IsItemHanded mc h) x given y) i j xs ys low (λ n l m x at. unread_run mc h x given (none n l m x at)) k.far;
  left = k.left ∙ ap (λ n. before ++ blocks n (reverse given)) same;
}

pub far_handed : {X T : Type 0} (f : X → ℕ) (room : ℕ → X → ℕ) (P : X → T → X → Type 0) (count : ℕ) (before given : List T) (i : ℕ) (xs ys : List X) (d y : X) (items mid : List T) → i < length xs → length given ≡ count →
    ((x : X) → slice_get xs i ≡ Some x → (m : ℕ) × (count ≤ room m x)) → ((m : ℕ) → AreTakenOff (f (get_or ys i d)) count (room m (get_or ys i d)) items mid (λ l. Leads P (get_or ys i d) l y)) →
    IsFar f P before given i xs ys items → IsFar f P before given (i + 1) xs (set ys i y) mid
far_handed {X} {T} f room P count before given i xs ys d y items mid within len fits taken k =
    let z = get_or ys i d in
    let many = k.far.count in
    let within' : i < length ys = omega (arith, many, within) in
    let heads = sym (drop_more ys i d within') ∙ (k.far.rest ∙ drop_more xs i d within) in
    let same : get_or xs i d ≡ z = cc in
    let others : ℕ = total f (drop (i + 1) xs) in
    let next : total f (drop i xs) ≡ others + f z = at_drop_more (total f) xs i d within ∙ (ap (λ x. f x + others) same ∙ swapped (f z) others) in
    let there = fits (get_or xs i d) (slice_get-get_or xs i d within) in
    let fit : count ≤ room there.0 z = subst (λ (x : X). count ≤ room there.0 x) same there.1 in
    let listed = k.left ∙ (ap (λ n. before ++ blocks n (reverse given)) next ∙ (ap (λ l. before ++ l) (blocks_add others (f z) (reverse given)) ∙ sym (append_assoc before (blocks others (reverse given)) (blocks (f z) (reverse given))))) in
    let made = taken there.0 (before ++ blocks others (reverse given)) given listed len fit in
    record { far = far_next (λ x y. Leads P x given y) i xs ys d y within k.far made.0; left = made.1 }
  where
    swapped : (a b : ℕ) → a + b ≡ b + a
    swapped a b = omega arith

pub far_ended : {X T : Type 0} (f : X → ℕ) (P : X → T → X → Type 0) (before given : List T) (i : ℕ) (xs ys : List X) (items : List T) → length xs ≤ i → IsFar f P before given i xs ys items → AllChanged (λ x y. Leads P x given y) xs ys × (items ≡ before)
far_ended f P before given i xs ys items done k = (
  far_all (λ x y. Leads P x given y) i xs ys done k.far,
  k.left ∙ (ap (λ n. before ++ blocks n (reverse given)) (at_drop_all (total f) xs i done) ∙ append-nil before),
)

-- ---- item by item

all_same : {X : Type 0} (xs ys : List X) → AllChanged (λ x y. y ≡ x) xs ys → ys ≡ xs
all_same [] [] k = refl
all_same [] (y ∷ ys) k = absurd k
all_same (x ∷ xs) [] k = absurd k
all_same (x ∷ xs) (y ∷ ys) k = ap (λ z. z ∷ ys) k.0 ∙ ap (λ zs. x ∷ zs) (all_same xs ys k.1)

pub record Halfway {X : Type 0} (P Q : X → X → Type 0) (xs ys : List X) : Type 0 where
  pub mid : List X
  pub one : AllChanged P xs mid
  pub two : AllChanged Q mid ys

halfway : {X : Type 0} (P Q : X → X → Type 0) (xs ys : List X) → AllChanged (λ x y. (z : X) × P x z × Q z y) xs ys → Halfway P Q xs ys
halfway P Q [] [] k = record { mid = []; one = tt; two = tt }
halfway P Q [] (y ∷ ys) k = absurd k
halfway P Q (x ∷ xs) [] k = absurd k
halfway P Q (x ∷ xs) (y ∷ ys) k =
    let rest = halfway P Q xs ys k.1 in
    record { mid = k.0.0 ∷ rest.mid; one = (k.0.1, rest.one); two = (k.0.2, rest.two) }

room_of_all : {M T : Type 0} (mc : Machine M T) (h : ℕ) (i : T) (xs ys : List (Subscription M T)) → AllChanged (λ (x : Subscription M T) y. IsItemHanded mc h x i y) xs ys → have_room mc h xs ≡ true
room_of_all mc h i [] ys k = refl
room_of_all mc h i (x ∷ xs) [] k = absurd k
room_of_all mc h i (x ∷ xs) (y ∷ ys) k = ap (λ c. c && have_room mc h xs) k.0.room ∙ room_of_all mc h i xs ys k.1

handed_of_all : {M T : Type 0} (mc : Machine M T) (h : ℕ) (i : T) (xs ys : List (Subscription M T)) → AllChanged (λ (x : Subscription M T) y. IsItemHanded mc h x i y) xs ys → AllHanded mc h (Next i) xs ys
handed_of_all mc h i [] [] k = tt
handed_of_all mc h i [] (y ∷ ys) k = absurd k
handed_of_all mc h i (x ∷ xs) [] k = absurd k
handed_of_all mc h i (x ∷ xs) (y ∷ ys) k = (k.0.handed, handed_of_all mc h i xs ys k.1)

item_by_item : {M T : Type 0} (mc : Machine M T) (h : ℕ) (items : List T) (xs ys : List (Subscription M T)) → AllChanged (λ (x : Subscription M T) y. Leads (IsItemHanded mc h) x items y) xs ys → Leads (IsItemHandedToAll mc h) xs items ys
item_by_item mc h [] xs ys k = all_same xs ys k
item_by_item {M} {T} mc h (i ∷ is) xs ys k =
    let w = halfway (λ (x : Subscription M T) y. IsItemHanded mc h x i y) (λ (x : Subscription M T) y. Leads (IsItemHanded mc h) x is y) xs ys k in
    (w.mid, record { room = room_of_all mc h i xs w.mid w.one; handed = handed_of_all mc h i xs w.mid w.one }, item_by_item mc h is w.mid ys w.two)

pub far_through : {M T : Type 0} (mc : Machine M T) (h : ℕ) (given : List T) (i : ℕ) (xs ys : List (Subscription M T)) (items : List T) → length xs ≤ i → IsFar (λ (x : Subscription M T). readers mc h x.part) (IsItemHanded mc h) [] given i xs ys items → Leads (IsItemHandedToAll mc h) xs given ys × (items ≡ [])
far_through {M} {T} mc h given i xs ys items done k =
    let all = far_ended (λ (x : Subscription M T). readers mc h x.part) (IsItemHanded mc h) [] given i xs ys items done k in
    (item_by_item mc h given xs ys all.0, all.1)

-- the same of whatever was laid out
unfoldable pub IsHandedOn : {M T : Type 0} → Machine M T → (M → ℕ) → ℕ → ℕ → ℕ → List (Subscription M T) → List (Subscription M T) → List T → List T → Type 0
IsHandedOn {M} {T} mc spaces h count i xs ys old new = (most : ℕ) (given : List T) → old ≡ blocks (counts.readers mc h xs) (reverse given) → length given ≡ count → count ≤ spaces_of_all mc spaces h most xs → IsFar (λ (x : Subscription M T). readers mc h x.part) (IsItemHanded mc h) [] given i xs ys new

-- ---- feeds

feed_within : {M T : Type 0} (mc : Machine M T) (spaces : M → ℕ) (h most : ℕ) (f : Feed M) → spaces_at mc spaces h most f ≤ most
feed_within mc spaces h most f = by_test (nat_lt h f.hub) (part_within mc spaces h most f.part)
  where
    by_test : (b : Bool) → spaces_for mc spaces h most f.part ≤ most → (if b then spaces_for mc spaces h most f.part else most) ≤ most
    by_test true l = l
    by_test false l = omega arith

feeds_within : {M T : Type 0} (mc : Machine M T) (spaces : M → ℕ) (h most : ℕ) (fs : List (Feed M)) → spaces_of_feeds mc spaces h most fs ≤ most
feeds_within mc spaces h most [] = omega arith
feeds_within mc spaces h most (f ∷ fs) =
    let one = feeds_within mc spaces h (spaces_at mc spaces h most f) fs in
    let two = feed_within mc spaces h most f in
    omega (arith, one, two)

-- each has room for as many
pub feed_fits : {M T : Type 0} (mc : Machine M T) (spaces : M → ℕ) (h count most i : ℕ) (fs : List (Feed M)) → count ≤ spaces_of_feeds mc spaces h most fs → (f : Feed M) → slice_get fs i ≡ Some f → (k : ℕ) × (count ≤ spaces_at mc spaces h k f)
feed_fits mc spaces h count most i [] fits f at = cc
feed_fits {M} {T} mc spaces h count most zero (y ∷ ys) fits f at =
    let is : y ≡ f = cc in
    let one = feeds_within mc spaces h (spaces_at mc spaces h most y) ys in
    let here : count ≤ spaces_at mc spaces h most y = omega (arith, fits, one) in
    let P : Feed M → Type 0 = λ z. count ≤ spaces_at mc spaces h most z in
    (most, subst P is here)
feed_fits mc spaces h count most (suc i) (y ∷ ys) fits f at = feed_fits mc spaces h count (spaces_at mc spaces h most y) i ys fits f at

feeds_room : {M T : Type 0} (mc : Machine M T) (h : ℕ) (i : T) (xs ys : List (Feed M)) → AllChanged (λ (x : Feed M) y. IsItemHandedToFeed mc h x i y) xs ys → feeds_have_room mc h xs ≡ true
feeds_room mc h i [] ys k = refl
feeds_room mc h i (x ∷ xs) [] k = absurd k
feeds_room mc h i (x ∷ xs) (y ∷ ys) k = ap (λ c. c && feeds_have_room mc h xs) k.0.room ∙ feeds_room mc h i xs ys k.1

feeds_handed : {M T : Type 0} (mc : Machine M T) (h : ℕ) (i : T) (xs ys : List (Feed M)) → AllChanged (λ (x : Feed M) y. IsItemHandedToFeed mc h x i y) xs ys → AllFeedsHanded mc h (Next i) xs ys
feeds_handed mc h i [] [] k = tt
feeds_handed mc h i [] (y ∷ ys) k = absurd k
feeds_handed mc h i (x ∷ xs) [] k = absurd k
feeds_handed mc h i (x ∷ xs) (y ∷ ys) k = (k.0.handed, feeds_handed mc h i xs ys k.1)

pub feeds_item_by_item : {M T : Type 0} (mc : Machine M T) (h : ℕ) (items : List T) (xs ys : List (Feed M)) → AllChanged (λ (x : Feed M) y. Leads (IsItemHandedToFeed mc h) x items y) xs ys → Leads (IsItemHandedToFeeds mc h) xs items ys
feeds_item_by_item mc h [] xs ys k = all_same xs ys k
feeds_item_by_item {M} {T} mc h (i ∷ is) xs ys k =
    let w = halfway (λ (x : Feed M) y. IsItemHandedToFeed mc h x i y) (λ (x : Feed M) y. Leads (IsItemHandedToFeed mc h) x is y) xs ys k in
    (w.mid, record { room = feeds_room mc h i xs w.mid w.one; handed = feeds_handed mc h i xs w.mid w.one }, feeds_item_by_item mc h is w.mid ys w.two)

-- the same of whatever was laid out
unfoldable pub IsFedOn : {M T : Type 0} → Machine M T → (M → ℕ) → ℕ → ℕ → ℕ → List (Feed M) → List (Feed M) → List T → List T → Type 0
IsFedOn {M} {T} mc spaces h count i xs ys old new = (most : ℕ) (before given : List T) → old ≡ before ++ blocks (counts.feed_readers mc h xs) (reverse given) → length given ≡ count → count ≤ spaces_of_feeds mc spaces h most xs → IsFar (reads_at mc h) (IsItemHandedToFeed mc h) before given i xs ys new
