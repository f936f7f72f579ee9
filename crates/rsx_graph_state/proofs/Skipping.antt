-- Subscriptions of which no node reads a hub: what is done for the readers of the hub skips them.
use Rattle.rsx_sources.specs.declared.machine.Machine.{Ghosts as Machine}
use Rattle.std.proofs.Common.{◌≡◌, ℕ, zero, suc, ◌+◌, ◌-◌, ◌<◌, ◌≤◌, inl, inr, Bool, true, false, ◌&&◌, if◌then◌else◌, List, [], ◌∷◌, length, take, drop, set, get_or, slice_get, Some, refl, ap, sym, ◌∙◌, subst, arith}
use Rattle.std.proofs.lemmas.Bool.{cases_lt}
use Rattle.std.proofs.lemmas.List.{at_drop_all, at_drop_more, drop_more, set-get_or, take_all}
use Rattle.std.proofs.lemmas.Option.{get_or_from_slice_get}
use Rattle.rsx_types.specs.declared.signal.Signal.{Signal}
use Rattle.rsx_sources.specs.Prelude.{reads_hub}
use Rattle.rsx_tree.specs.declared.inputs.Inputs.{Inputs, End, More'}
use Rattle.rsx_tree.specs.Edges.{is_live}
use Rattle.rsx_tree.specs.Handed as Tree
use Rattle.rsx_tree.specs.Handed.{IsHandedOut, IsNodeHanded, IsRowHanded, IsTakenWhere, OneOf, has_room_in, reader_at, readers_in, room_at, times}
use Rattle.rsx_tree.proofs.Taking.{tree_handed}
use Rattle.rsx_pipe.specs.Part.{Part}
use Rattle.rsx_pipe.specs.Published as Published
use Rattle.rsx_pipe.specs.Published.{has_room_for, readers}
use Rattle.rsx_pipe.proofs.Handing.{handed_dead, handed_part}
use Rattle.rsx_subscriber.specs.Published.{IsHanded}
use Rattle.rsx_subscriber.specs.declared.subscription.Subscription.{Subscription}
use Rattle.rsx_subscriber.proofs.Publishing.{handed_sub}
use Rattle.rsx_graph_state.specs.Lists.{AllChanged, every, total}
use Rattle.rsx_graph_state.specs.SubscriptionSet.{IsSkipped, NoneReads}
use Rattle.rsx_graph_state.specs.declared.skipped.Skipped.{Skipped}
use Rattle.rsx_graph_state.proofs.Handing.{handed_on, rest_on}

-- ---- where no node reads the hub, there is room, and it was handed to all that read it

both_true : (a b : Bool) → a ≡ true → b ≡ true → a && b ≡ true
both_true true b x y = y
both_true false b x y = cc

-- a test counted as 1 that counts nothing
abbrev counted : Bool → ℕ
counted v = if v then 1 else 0

not_counted : (v : Bool) → counted v ≡ 0 → v ≡ false
not_counted true e = absurd (omega (arith, e))
not_counted false e = refl

node_room : {M T : Type 0} (b : Machine M T) (h : ℕ) (n : M) → reader_at b h n ≡ 0 → room_at b h n ≡ true
node_room b h n none = ap (λ v. if v then b.rooms n else true) (not_counted (reads_hub h (b.reads n)) none)

row_room : {M T : Type 0} (b : Machine M T) (h : ℕ) (t : Inputs M) → readers_in b h t ≡ 0 → has_room_in b h t ≡ true
row_room b h End none = refl
row_room {M} {T} b h (More' e n p below q beside) none = by_live (λ z. row_room b h below z) (λ z. row_room b h beside z) (is_live e.state) none
  where
    by_live : (readers_in b h below ≡ 0 → has_room_in b h below ≡ true) → (readers_in b h beside ≡ 0 → has_room_in b h beside ≡ true) → (v : Bool) → (if v then reader_at b h n + readers_in b h below else 0) + readers_in b h beside ≡ 0 → (if v then room_at b h n && has_room_in b h below else true) && has_room_in b h beside ≡ true
    by_live under side true z = both_true (room_at b h n && has_room_in b h below) (has_room_in b h beside) (both_true (room_at b h n) (has_room_in b h below) (node_room b h n (omega (arith, z))) (under (omega (arith, z)))) (side (omega (arith, z)))
    by_live under side false z = side (omega (arith, z))

pub unread_room : {M T : Type 0} (b : Machine M T) (h : ℕ) (part : Part M) → readers b h part ≡ 0 → has_room_for b h part ≡ true
unread_room b h part none = by_live (is_live part.root.state) none
  where
    by_live : (v : Bool) → (if v then Tree.readers b h part.tree else 0) ≡ 0 → (if v then Tree.has_room b h part.tree else true) ≡ true
    by_live true z = both_true (room_at b h part.tree.machine) (has_room_in b h part.tree.inputs) (node_room b h part.tree.machine (omega (arith, z))) (row_room b h part.tree.inputs (omega (arith, z)))
    by_live false z = refl

node_same : {M T : Type 0} (b : Machine M T) (h : ℕ) (s : Signal T) (n : M) → reader_at b h n ≡ 0 → IsNodeHanded b h s n n
node_same {M} {T} b h s n none = let P : Bool → Type 0 = λ v. IsTakenWhere b s v n n in subst P (sym (not_counted (reads_hub h (b.reads n)) none)) refl

row_same : {M T : Type 0} (b : Machine M T) (h : ℕ) (s : Signal T) (t : Inputs M) → readers_in b h t ≡ 0 → IsRowHanded b h s t t
row_same b h s End none = refl
row_same {M} {T} b h s (More' e n p below q beside) none =
    (n, below, beside, refl, by_live (λ z. row_same b h s below z) (is_live e.state) none, row_same b h s beside (omega (arith, none)))
  where
    by_live : (readers_in b h below ≡ 0 → IsRowHanded b h s below below) → (v : Bool) → (if v then reader_at b h n + readers_in b h below else 0) + readers_in b h beside ≡ 0 → OneOf v (IsNodeHanded b h s n n × IsRowHanded b h s below below) ((n ≡ n) × (below ≡ below))
    by_live under true z = (node_same b h s n (omega (arith, z)), under (omega (arith, z)))
    by_live under false z = (refl, refl)

pub part_same : {M T : Type 0} (b : Machine M T) (h : ℕ) (s : Signal T) (part : Part M) → readers b h part ≡ 0 → Published.IsHanded b h s part part
part_same {M} {T} b h s part none = by_live (is_live part.root.state) refl none
  where
    by_live : (v : Bool) → is_live part.root.state ≡ v → (if v then Tree.readers b h part.tree else 0) ≡ 0 → Published.IsHanded b h s part part
    by_live true live z =
        let t = part.tree in
        handed_part b h s part.root t t live (tree_handed b h s t.machine t.machine t.inputs t.inputs (node_same b h s t.machine (omega (arith, z))) (row_same b h s t.inputs (omega (arith, z))))
    by_live false dead z = handed_dead b h s part dead

pub unread_handed : {M T : Type 0} (mc : Machine M T) (h : ℕ) (s : Signal T) (sub : Subscription M T) → readers mc h sub.part ≡ 0 → IsHanded mc h s sub sub
unread_handed mc h s sub none = handed_sub mc h s sub sub.part sub.opened (part_same mc h s sub.part none)

-- ---- from one that is looked at to the next

pub unread_between : {M T : Type 0} (mc : Machine M T) (h i j : ℕ) (skipped : Skipped) (subs : List (Subscription M T)) → NoneReads mc h skipped subs → ((k : ℕ) → i ≤ k → k < j → IsSkipped skipped k) → (k : ℕ) → i ≤ k → k < j → (s : Subscription M T) → slice_get subs k ≡ Some s → readers mc h s.part ≡ 0
unfolding NoneReads
unread_between mc h i j skipped subs none between k low high s e = none k (between k low high) s e

-- where none is skipped, none of the skipped reads a hub
pub none_skipped : {M T : Type 0} (mc : Machine M T) (h : ℕ) (skipped : Skipped) (subs : List (Subscription M T)) → ((i : ℕ) → IsSkipped skipped i → ⊥) → NoneReads mc h skipped subs
unfolding NoneReads
none_skipped mc h skipped subs none i is s e = absurd (none i is)

-- of an element that is there
here : {X : Type 0} (xs : List X) (i : ℕ) → i < length xs → (x : X) × (slice_get xs i ≡ Some x)
here [] i l = absurd (omega (arith, l))
here (x ∷ xs) zero l = (x, refl)
here (x ∷ xs) (suc i) l = here xs i (omega (arith, l))

total_one : {X : Type 0} (f : X → ℕ) (i : ℕ) (xs : List X) → ((x : X) → slice_get xs i ≡ Some x → f x ≡ 0) → total f (drop i xs) ≡ total f (drop (i + 1) xs)
total_one f i xs none = elim (cases_lt i (length xs)) [
  | inl within ↦
      let x = here xs i within in
      let e = at_drop_more (total f) xs i x.0 within in
      let z = ap f (get_or_from_slice_get xs i x.0 x.0 x.1) ∙ none x.0 x.1 in
      omega (arith, e, z)
  | inr past ↦ at_drop_all (total f) xs i past ∙ sym (at_drop_all (total f) xs (i + 1) (omega (arith, past)))
]

pub total_past : {X : Type 0} (f : X → ℕ) (d i j : ℕ) (xs : List X) → i + d ≡ j → ((k : ℕ) → i ≤ k → k < j → (x : X) → slice_get xs k ≡ Some x → f x ≡ 0) → total f (drop i xs) ≡ total f (drop j xs)
total_past f zero i j xs e none = let same : i ≡ j = omega (arith, e) in ap (λ n. total f (drop n xs)) same
total_past f (suc d) i j xs e none = total_one f i xs (λ x at. none i (omega arith) (omega (arith, e)) x at) ∙ total_past f d (i + 1) j xs (omega (arith, e)) (λ k low high x at. none k (omega (arith, low)) high x at)

every_one : {X : Type 0} (g : X → Bool) (i : ℕ) (xs : List X) → ((x : X) → slice_get xs i ≡ Some x → g x ≡ true) → every g (drop i xs) ≡ every g (drop (i + 1) xs)
every_one g i xs all = elim (cases_lt i (length xs)) [
  | inl within ↦
      let x = here xs i within in
      at_drop_more (every g) xs i x.0 within ∙ ap (λ v. v && every g (drop (i + 1) xs)) (ap g (get_or_from_slice_get xs i x.0 x.0 x.1) ∙ all x.0 x.1)
  | inr past ↦ at_drop_all (every g) xs i past ∙ sym (at_drop_all (every g) xs (i + 1) (omega (arith, past)))
]

pub every_past : {X : Type 0} (g : X → Bool) (d i j : ℕ) (xs : List X) → i + d ≡ j → ((k : ℕ) → i ≤ k → k < j → (x : X) → slice_get xs k ≡ Some x → g x ≡ true) → every g (drop i xs) ≡ every g (drop j xs)
every_past g zero i j xs e all = let same : i ≡ j = omega (arith, e) in ap (λ n. every g (drop n xs)) same
every_past g (suc d) i j xs e all = every_one g i xs (λ x at. all i (omega arith) (omega (arith, e)) x at) ∙ every_past g d (i + 1) j xs (omega (arith, e)) (λ k low high x at. all k (omega (arith, low)) high x at)

-- ---- a signal is handed to those that are looked at

-- one of them need not be
pub record Untouched {X T : Type 0} (f : X → ℕ) (g : X → Bool) (P : Signal T → X → X → Type 0) (x : X) : Type 0 where
  pub none : f x ≡ 0
  pub room : g x ≡ true
  pub same : (s : Signal T) → P s x x

out_same : {X T : Type 0} (f : X → ℕ) (g : X → Bool) (P : Signal T → X → X → Type 0) (x : X) (signals : List (Signal T)) → Untouched f g P x → IsHandedOut (f x) (g x) signals signals (λ s. P s x x)
out_same f g P x signals u s k all room =
    let z = u.none in
    let e : k + f x ≡ k = omega (arith, z) in
    (u.same s, all ∙ ap (λ n. times n s) e)

-- how far it was handed
pub record HandedTo {X T : Type 0} (f : X → ℕ) (g : X → Bool) (P : Signal T → X → X → Type 0) (i : ℕ) (xs ys : List X) (old new : List (Signal T)) : Type 0 where
  pub count : length ys ≡ length xs
  pub rest : drop i ys ≡ drop i xs
  pub handed : IsHandedOut (total f (take i xs)) (every g (take i xs)) old new (λ s. AllChanged (P s) (take i xs) (take i ys))

handed_one : {X T : Type 0} (f : X → ℕ) (g : X → Bool) (P : Signal T → X → X → Type 0) (i : ℕ) (xs ys : List X) (old new : List (Signal T)) → ((x : X) → slice_get xs i ≡ Some x → Untouched f g P x) → HandedTo f g P i xs ys old new → HandedTo f g P (i + 1) xs ys old new
handed_one {X} {T} f g P i xs ys old new all h = elim (cases_lt i (length xs)) [
  | inl within ↦
      let c = h.count in
      let x = here xs i within in
      let within' : i < length ys = omega (arith, c, within) in
      let heads = sym (drop_more ys i x.0 within') ∙ (h.rest ∙ drop_more xs i x.0 within) in
      let same : get_or ys i x.0 ≡ get_or xs i x.0 = cc in
      let is : x.0 ≡ get_or ys i x.0 = sym (same ∙ get_or_from_slice_get xs i x.0 x.0 x.1) in
      let y = get_or ys i x.0 in
      let U : X → Type 0 = λ z. Untouched f g P z in
      let stays : set ys i y ≡ ys = set-get_or ys i x.0 in
      let H : List X → Type 0 = λ l. HandedTo f g P (i + 1) xs l old new in
      let L : List X → Type 0 = λ l. IsHandedOut (total f (take (i + 1) xs)) (every g (take (i + 1) xs)) old new (λ s. AllChanged (P s) (take (i + 1) xs) (take (i + 1) l)) in
      let D : List X → Type 0 = λ l. drop (i + 1) l ≡ drop (i + 1) xs in
      record {
        count = c;
        rest = subst D stays (rest_on i xs ys x.0 y c within h.rest);
        handed = subst L stays (handed_on f g P i xs ys x.0 y old new new c within h.rest h.handed (out_same f g P y new (subst U is (all x.0 x.1))));
      }
  | inr past ↦
      let c = h.count in
      let x0 : take i xs ≡ xs = take_all i xs past in
      let x1 : take (i + 1) xs ≡ xs = take_all (i + 1) xs (omega (arith, past)) in
      let y0 : take i ys ≡ ys = take_all i ys (omega (arith, past, c)) in
      let y1 : take (i + 1) ys ≡ ys = take_all (i + 1) ys (omega (arith, past, c)) in
      let L : List X → List X → Type 0 = λ us vs. IsHandedOut (total f us) (every g us) old new (λ s. AllChanged (P s) us vs) in
      record {
        count = c;
        rest = at_drop_all (λ (l : List X). l) ys (i + 1) (omega (arith, past, c)) ∙ sym (at_drop_all (λ (l : List X). l) xs (i + 1) (omega (arith, past)));
        handed = subst (λ us. L us (take (i + 1) ys)) (x0 ∙ sym x1) (subst (L (take i xs)) (y0 ∙ sym y1) h.handed);
      }
]

pub handed_past : {X T : Type 0} (f : X → ℕ) (g : X → Bool) (P : Signal T → X → X → Type 0) (d i j : ℕ) (xs ys : List X) (old new : List (Signal T)) → i + d ≡ j → ((k : ℕ) → i ≤ k → k < j → (x : X) → slice_get xs k ≡ Some x → Untouched f g P x) → HandedTo f g P i xs ys old new → HandedTo f g P j xs ys old new
handed_past {X} {T} f g P zero i j xs ys old new e all h = let same : i ≡ j = omega (arith, e) in let H : ℕ → Type 0 = λ n. HandedTo f g P n xs ys old new in subst H same h
handed_past f g P (suc d) i j xs ys old new e all h = handed_past f g P d (i + 1) j xs ys old new (omega (arith, e)) (λ k low high x at. all k (omega (arith, low)) high x at) (handed_one f g P i xs ys old new (λ x at. all i (omega arith) (omega (arith, e)) x at) h)

-- one of them took it in, and the next is as it was
pub handed_next : {X T : Type 0} (f : X → ℕ) (g : X → Bool) (P : Signal T → X → X → Type 0) (i : ℕ) (xs ys : List X) (d y : X) (old mid new : List (Signal T)) → i < length xs → HandedTo f g P i xs ys old mid → IsHandedOut (f (get_or ys i d)) (g (get_or ys i d)) mid new (λ s. P s (get_or ys i d) y) → length (set ys i y) ≡ length ys → HandedTo f g P (i + 1) xs (set ys i y) old new
handed_next f g P i xs ys d y old mid new within h one many = record {
  count = many ∙ h.count;
  rest = rest_on i xs ys d y h.count within h.rest;
  handed = handed_on f g P i xs ys d y old mid new h.count within h.rest h.handed one;
}

-- a subscription of which no node reads the hub
pub unread_untouched : {M T : Type 0} (mc : Machine M T) (h : ℕ) (s : Subscription M T) → readers mc h s.part ≡ 0 → Untouched (λ (y : Subscription M T). readers mc h y.part) (λ y. has_room_for mc h y.part) (IsHanded mc h) s
unread_untouched mc h s none = record { none = none; room = unread_room mc h s.part none; same = λ sig. unread_handed mc h sig s none }

-- how far it was handed, of subscriptions
abbrev pub AreHandedTo : {M T : Type 0} → Machine M T → ℕ → ℕ → List (Subscription M T) → List (Subscription M T) → List (Signal T) → List (Signal T) → Type 0
AreHandedTo {M} {T} mc h i xs ys old new = HandedTo (λ (y : Subscription M T). readers mc h y.part) (λ y. has_room_for mc h y.part) (IsHanded mc h) i xs ys old new

pub none_handed_to : {M T : Type 0} (mc : Machine M T) (h : ℕ) (xs : List (Subscription M T)) (signals : List (Signal T)) → AreHandedTo mc h 0 xs xs signals signals
none_handed_to mc h xs signals = record { count = refl; rest = refl; handed = λ s k all room. let e : k + 0 ≡ k = omega arith in (tt, all ∙ ap (λ n. times n s) e) }

pub subs_past : {M T : Type 0} (mc : Machine M T) (h i j : ℕ) (xs ys : List (Subscription M T)) (old new : List (Signal T)) → i ≤ j → ((k : ℕ) → i ≤ k → k < j → (s : Subscription M T) → slice_get xs k ≡ Some s → readers mc h s.part ≡ 0) → AreHandedTo mc h i xs ys old new → AreHandedTo mc h j xs ys old new
subs_past {M} {T} mc h i j xs ys old new low none to = handed_past (λ (y : Subscription M T). readers mc h y.part) (λ y. has_room_for mc h y.part) (IsHanded mc h) (j - i) i j xs ys old new (omega (arith, low)) (λ k l m s at. unread_untouched mc h s (none k l m s at)) to

pub room_past : {M T : Type 0} (mc : Machine M T) (h i j : ℕ) (xs : List (Subscription M T)) → i ≤ j → ((k : ℕ) → i ≤ k → k < j → (s : Subscription M T) → slice_get xs k ≡ Some s → readers mc h s.part ≡ 0) → every (λ (y : Subscription M T). has_room_for mc h y.part) (drop i xs) ≡ every (λ (y : Subscription M T). has_room_for mc h y.part) (drop j xs)
room_past {M} {T} mc h i j xs low none = every_past (λ (y : Subscription M T). has_room_for mc h y.part) (j - i) i j xs (omega (arith, low)) (λ k l m s at. unread_room mc h s.part (none k l m s at))

pub readers_past : {M T : Type 0} (mc : Machine M T) (h i j : ℕ) (xs : List (Subscription M T)) → i ≤ j → ((k : ℕ) → i ≤ k → k < j → (s : Subscription M T) → slice_get xs k ≡ Some s → readers mc h s.part ≡ 0) → total (λ (y : Subscription M T). readers mc h y.part) (drop i xs) ≡ total (λ (y : Subscription M T). readers mc h y.part) (drop j xs)
readers_past {M} {T} mc h i j xs low none = total_past (λ (y : Subscription M T). readers mc h y.part) (j - i) i j xs (omega (arith, low)) none
