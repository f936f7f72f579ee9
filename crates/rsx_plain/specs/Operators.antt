-- What holds of each plain operator: its laws, by cases. A new operator has its lines here and in `State`.
use Rattle.std.specs.Prelude.{◌≡◌, ◌⊎◌, ℕ, zero, suc, ◌+◌, ◌-◌, ◌*◌, ◌<◌, ◌≤◌, min, Bool, true, false, nat_eq, nat_le, nat_lt, if◌then◌else◌, List, [], ◌∷◌, ◌++◌, length, Result, Ok, Err, refl}
use Rattle.std.specs.Set.{is_member}
use Rattle.std.proofs.Common.{inl, inr, ap, ◌∙◌, subst, arith, length-append}
use Rattle.std.proofs.Math.Nat.{mul-le-mul_right}
use Rattle.std.proofs.lemmas.Bool.{leb-true, leb-false}
use Rattle.std.proofs.lemmas.Bool.Decides.{nat_tests}
use Rattle.rsx_demand.specs.declared.TheConstants.{UNBOUNDED}
use Rattle.rsx_sources.specs.Prelude.{Ending, Open, Done, Failed, Signal, Next, Complete, Error, Stage, Meaning, Stream, mapped_items, filtered_items, taken_items, scanned_items, accumulated_then, buffered_items, last_list, distinct_items, new_key_then, ended_by, item_then, answer_then, kept_then, signals_then}
use Rattle.rsx_types.specs.declared.stage.Stage.TheVariants.{Filter, Take, Buffer, Distinct}
use Rattle.rsx_plain.specs.Moves.{Moves, has_ended, has_ending}
use Rattle.rsx_plain.specs.State.{plain_from, plain_start, start_slot, after_item, after_ending, is_over, balanced, wanted_from, dropped_after, gathered_after, distinct_after}
use Rattle.rsx_plain.specs.declared.state.PlainState.{PlainState}
use Rattle.rsx_plain.specs.declared.state.PlainState.TheVariants.{Map as MapFrom, Filter as FilterFrom, Take as TakeFrom, Scan as ScanFrom, Buffer as BufferFrom, Distinct as DistinctFrom}

-- ---- where it is over, and where nothing comes in

is_none : (n : ℕ) → nat_eq n 0 ≡ true → n ≡ 0
is_none n h = grind (arith, nat_tests)

-- an operator that is over completes, whatever comes in
pub over_done : {T : Type 0} (m : Meaning T) (s : PlainState T) → is_over s ≡ true → (v : Stream T) → plain_from m s v ≡ ended_by Done
over_done m (TakeFrom n left) h v = rw (is_none left h) refl
over_done m s h v = cc

-- where nothing comes in, nothing comes out of an operator that goes on
pub operator_rests : {T : Type 0} (m : Meaning T) (s : PlainState T) → is_over s ≡ false → plain_from m s (ended_by Open) ≡ ended_by Open
operator_rests m (TakeFrom n zero) h = cc
operator_rests m (BufferFrom n (x ∷ xs)) h = refl
operator_rests m s h = refl

-- where the operator goes on, the ending that comes in alone is that of what comes out
pub keeps_ending : {T : Type 0} (m : Meaning T) (s : PlainState T) (e : Ending) → is_over s ≡ false → (plain_from m s (ended_by e)).ending ≡ e
keeps_ending m (TakeFrom n zero) e h = cc
keeps_ending m (BufferFrom n (x ∷ xs)) Open h = refl
keeps_ending m (BufferFrom n (x ∷ xs)) Done h = refl
keeps_ending m (BufferFrom n (x ∷ xs)) (Failed c) h = refl
keeps_ending m s e h = refl

-- an ending leaves whether it is over
pub over_after : {T : Type 0} (s : PlainState T) → is_over (after_ending s) ≡ is_over s
over_after (BufferFrom n xs) = refl
over_after s = refl

-- ---- where its input has ended, what comes out has ended

abbrev pub Ends : {T : Type 0} → Stream T → Type 0
Ends v = has_ended v.ending ≡ true

answer_ends : {T : Type 0} (r : Result T ℕ) (v : Stream T) → Ends v → Ends (answer_then r v)
answer_ends (Ok y) v h = h
answer_ends (Err c) v h = refl

kept_ends : {T : Type 0} (x : T) (r : Result Bool ℕ) (v : Stream T) → Ends v → Ends (kept_then x r v)
kept_ends x (Ok true) v h = h
kept_ends x (Ok false) v h = h
kept_ends x (Err c) v h = refl

mapped_ends : {T : Type 0} (f : T → Result T ℕ) (xs : List T) (e : Ending) → has_ended e ≡ true → Ends (mapped_items f xs e)
mapped_ends f [] e h = h
mapped_ends f (x ∷ xs) e h = answer_ends (f x) (mapped_items f xs e) (mapped_ends f xs e h)

filtered_ends : {T : Type 0} (p : T → Result Bool ℕ) (xs : List T) (e : Ending) → has_ended e ≡ true → Ends (filtered_items p xs e)
filtered_ends p [] e h = h
filtered_ends p (x ∷ xs) e h = kept_ends x (p x) (filtered_items p xs e) (filtered_ends p xs e h)

taken_ends : {T : Type 0} (n : ℕ) (xs : List T) (e : Ending) → has_ended e ≡ true → Ends (taken_items n xs e)
taken_ends zero xs e h = refl
taken_ends (suc n) [] e h = h
taken_ends (suc n) (x ∷ xs) e h = taken_ends n xs e h

accumulated_ends : {T : Type 0} (r : Result T ℕ) (after : T → Stream T) → ((b : T) → Ends (after b)) → Ends (accumulated_then r after)
accumulated_ends (Ok b) after h = h b
accumulated_ends (Err c) after h = refl

scanned_ends : {T : Type 0} (f : T → T → Result T ℕ) (a : T) (xs : List T) (e : Ending) → has_ended e ≡ true → Ends (scanned_items f a xs e)
scanned_ends f a [] e h = h
scanned_ends f a (x ∷ xs) e h = accumulated_ends (f a x) (λ b. scanned_items f b xs e) (λ b. scanned_ends f b xs e h)

last_ends : {T : Type 0} (list : List T → T) (xs : List T) (e : Ending) → has_ended e ≡ true → Ends (last_list list xs e)
last_ends list [] e h = h
last_ends list (x ∷ xs) Done h = refl
last_ends list (x ∷ xs) Open h = h
last_ends list (x ∷ xs) (Failed c) h = refl

either_ends : {T : Type 0} (b : Bool) (v w : Stream T) → Ends v → Ends w → Ends (if b then v else w)
either_ends true v w h k = h
either_ends false v w h k = k

buffered_ends : {T : Type 0} (list : List T → T) (n : ℕ) (started xs : List T) (e : Ending) → has_ended e ≡ true → Ends (buffered_items list n started xs e)
buffered_ends list n started [] e h = last_ends list started e h
buffered_ends list n started (x ∷ xs) e h =
    either_ends (nat_le n (length started + 1)) (item_then (list (started ++ x ∷ [])) (buffered_items list n [] xs e)) (buffered_items list n (started ++ x ∷ []) xs e)
    (buffered_ends list n [] xs e h) (buffered_ends list n (started ++ x ∷ []) xs e h)

new_key_ends : {T : Type 0} (x : T) (r : Result ℕ ℕ) (seen : List ℕ) (after : List ℕ → Stream T) → ((ks : List ℕ) → Ends (after ks)) → Ends (new_key_then x r seen after)
new_key_ends x (Ok k) seen after h = either_ends (is_member nat_eq seen k) (after seen) (item_then x (after (seen ++ k ∷ []))) (h seen) (h (seen ++ k ∷ []))
new_key_ends x (Err c) seen after h = refl

distinct_ends : {T : Type 0} (key : T → Result ℕ ℕ) (seen : List ℕ) (xs : List T) (e : Ending) → has_ended e ≡ true → Ends (distinct_items key seen xs e)
distinct_ends key seen [] e h = h
distinct_ends key seen (x ∷ xs) e h = new_key_ends x (key x) seen (λ known. distinct_items key known xs e) (λ known. distinct_ends key known xs e h)

-- from a state
pub operator_ends : {T : Type 0} (m : Meaning T) (s : PlainState T) (v : Stream T) → Ends v → Ends (plain_from m s v)
operator_ends m (MapFrom f) v h = mapped_ends (m.mapped f) v.items v.ending h
operator_ends m (FilterFrom f n) v h = filtered_ends (m.tested f) v.items v.ending h
operator_ends m (TakeFrom n left) v h = taken_ends left v.items v.ending h
operator_ends m (ScanFrom f a) v h = scanned_ends (m.folded f) a v.items v.ending h
operator_ends m (BufferFrom n xs) v h = buffered_ends m.list_of n xs v.items v.ending h
operator_ends m (DistinctFrom f ks n) v h = distinct_ends (m.keyed f) ks v.items v.ending h

-- ---- how many items it puts out: what its moves say, counted

-- signals without an ending in front of a value
open_items : {T : Type 0} (out : List (Signal T)) (v : Stream T) → has_ending out ≡ false → length (signals_then out v).items ≡ length out + length v.items
open_items [] v h = omega arith
open_items (Next x ∷ ss) v h = let k = open_items ss v h in omega (arith, k)
open_items (Complete ∷ ss) v h = cc
open_items (Error c ∷ ss) v h = cc

open_ending : {T : Type 0} (out : List (Signal T)) (v : Stream T) → has_ending out ≡ false → (signals_then out v).ending ≡ v.ending
open_ending [] v h = refl
open_ending (Next x ∷ ss) v h = open_ending ss v h
open_ending (Complete ∷ ss) v h = cc
open_ending (Error c ∷ ss) v h = cc

-- the operator from a state gives one item, and then what is left gives none
pub record Gives {T : Type 0} (whole left : Stream T) (out : ℕ) : Type 0 where
  pub items : length whole.items ≡ out + length left.items
  pub ending : whole.ending ≡ left.ending

pub gives : {T : Type 0} (whole left : Stream T) (out : List (Signal T)) → whole ≡ signals_then out left → has_ending out ≡ false → Gives whole left (length out)
gives whole left out e h = record { items = ap (λ v. length v.items) e ∙ open_items out left h; ending = ap (λ v. v.ending) e ∙ open_ending out left h }

mapped_one : {T : Type 0} (r : Result T ℕ) (n : ℕ) → Gives (answer_then r (ended_by Open)) (ended_by Open) n → n ≡ 1
mapped_one (Ok y) n k = let i = k.items in omega (arith, i)
mapped_one (Err c) n k = let e = k.ending in cc

filtered_one : {T : Type 0} (x : T) (r : Result Bool ℕ) (n taken put d : ℕ) → Gives (kept_then x r (ended_by Open)) (ended_by Open) n → (d < UNBOUNDED → taken ≡ put + d) → dropped_after d r < UNBOUNDED → taken + 1 ≡ put + n + dropped_after d r
filtered_one x (Ok true) n taken put d k b l = let i = k.items in let c = b l in omega (arith, i, c)
filtered_one x (Ok false) n taken put d k b l =
    let i = k.items in
    let small : d + 1 < UNBOUNDED = below d l in
    let c : taken ≡ put + d = b (omega (arith, small)) in
    let least : min UNBOUNDED (d + 1) ≡ d + 1 = omega (arith, small) in
    omega (arith, i, c, least)
  where
    below : (d : ℕ) → min UNBOUNDED (d + 1) < UNBOUNDED → d + 1 < UNBOUNDED
    below d l = omega (arith, l)
filtered_one x (Err c) n taken put d k b l = let e = k.ending in cc

taken_none : (T : Type 0) (n : ℕ) (e : Ending) → length (taken_items {T = T} n [] e).items ≡ 0
taken_none T zero e = refl
taken_none T (suc n) e = refl

scanned_one : {T : Type 0} (r : Result T ℕ) (n : ℕ) → Gives (accumulated_then r (λ b. ended_by Open)) (ended_by Open) n → n ≡ 1
scanned_one (Ok y) n k = let i = k.items in omega (arith, i)
scanned_one (Err c) n k = let e = k.ending in cc

last_open : {T : Type 0} (list : List T → T) (xs : List T) → last_list list xs Open ≡ ended_by Open
last_open list [] = refl
last_open list (x ∷ xs) = refl

buffered_open : {T : Type 0} (list : List T → T) (n : ℕ) (xs : List T) → buffered_items list n xs [] Open ≡ ended_by Open
buffered_open list n xs = last_open list xs

-- a list that is full comes out
full_list : {T : Type 0} (list : List T → T) (b : Bool) (n count : ℕ) (xs : List T) (x : T) (taken put : ℕ) → (b ≡ true → n ≤ length xs + 1) →
    Gives (if b then item_then (list (xs ++ x ∷ [])) (ended_by Open) else ended_by Open) (ended_by Open) count →
    taken ≡ put * n + length xs → length xs < n → (b ≡ false → length xs + 1 < n) →
    (taken + 1 ≡ (put + count) * n + length (if b then [] else xs ++ x ∷ [])) × (length (if b then [] else xs ++ x ∷ []) < n)
full_list list true n count xs x taken put full k t l more =
    let one : count ≡ 1 = let i = k.items in omega (arith, i) in
    let f : n ≤ length xs + 1 = full refl in
    let m : (put + 1) * n ≡ put * n + n = distributed put n in
    (rw one (omega (arith, m, t, f, l)), omega (arith, l))
  where
    distributed : (p n : ℕ) → (p + 1) * n ≡ p * n + n
    distributed p n = grind arith
full_list list false n count xs x taken put full k t l more =
    let none : count ≡ 0 = let i = k.items in omega (arith, i) in
    let grown : length (xs ++ x ∷ []) ≡ length xs + 1 = length-append xs (x ∷ []) in
    let same : (put + 0) * n ≡ put * n = ap (λ p. p * n) (plus_none put) in
    (rw none (omega (arith, same, grown, t)), let m = more refl in omega (arith, grown, m))
  where
    plus_none : (p : ℕ) → p + 0 ≡ p
    plus_none p = omega arith

-- a key that is new, or known
key_one : {T : Type 0} (f : ℕ) (x : T) (r : Result ℕ ℕ) (ks : List ℕ) (n count taken put : ℕ) → Gives (new_key_then x r ks (λ known. ended_by Open)) (ended_by Open) count →
    (n < UNBOUNDED → taken ≡ put + n) → balanced (distinct_after {T = T} f ks n r) (taken + 1) (put + count)
key_one f x (Err c) ks n count taken put k b = let e = k.ending in cc
key_one {T} f x (Ok key) ks n count taken put k b = by_key (is_member nat_eq ks key) k
  where
    known_or : Bool → PlainState T
    known_or m = if m then DistinctFrom f ks (min UNBOUNDED (n + 1)) else DistinctFrom f (ks ++ key ∷ []) n

    by_key : (m : Bool) → Gives (if m then ended_by Open else item_then x (ended_by Open)) (ended_by Open) count → balanced (known_or m) (taken + 1) (put + count)
    by_key true g = λ l.
        let i = g.items in
        let small : n + 1 < UNBOUNDED = omega (arith, l) in
        let c : taken ≡ put + n = b (omega (arith, small)) in
        let least : min UNBOUNDED (n + 1) ≡ n + 1 = omega (arith, small) in
        omega (arith, i, c, least)
    by_key false g = λ l. let i = g.items in let c = b l in omega (arith, i, c)

distinct_open : {T : Type 0} (m : Meaning T) (f : ℕ) (ks : List ℕ) (n : ℕ) (r : Result ℕ ℕ) → plain_from m (distinct_after {T = T} f ks n r) (ended_by Open) ≡ ended_by Open
distinct_open m f ks n (Err c) = refl
distinct_open {T} m f ks n (Ok key) = either (is_member nat_eq ks key)
  where
    known_or : Bool → PlainState T
    known_or b = if b then DistinctFrom f ks (min UNBOUNDED (n + 1)) else DistinctFrom f (ks ++ key ∷ []) n

    either : (b : Bool) → plain_from m (known_or b) (ended_by Open) ≡ ended_by Open
    either true = refl
    either false = refl

-- an item that went in
pub counts_item : {T : Type 0} (m : Meaning T) (old : PlainState T) (x : T) (out : List (Signal T)) → Moves (plain_from m) old (Next x) out (after_item m old x) → (is_over (after_item m old x) ≡ true → has_ending out ≡ true) →
    has_ending out ≡ false → (taken put : ℕ) → balanced old taken put → balanced (after_item m old x) (taken + 1) (put + length out)
counts_item m (MapFrom f) x out v over none taken put b =
    let n : length out ≡ 1 = mapped_one (m.mapped f x) (length out) (gives _ _ out (v (ended_by Open)) none) in omega (arith, n, b)
counts_item m (FilterFrom f d) x out v over none taken put b = λ l. filtered_one x (m.tested f x) (length out) taken put d (gives _ _ out (v (ended_by Open)) none) b l
counts_item m (TakeFrom n zero) x out v over none taken put b = let o = over refl in cc
counts_item {T} m (TakeFrom n (suc left)) x out v over none taken put b =
    let k = gives _ _ out (v (ended_by Open)) none in
    let i = k.items in
    let none_left = taken_none T left Open in
    let more = taken_none T (suc left - 1) Open in
    let one : length out ≡ 1 = omega (arith, i, none_left, more) in
    let p = b.0 in
    let q = b.1 in
    (omega (arith, one, p), omega (arith, one, q))
counts_item m (ScanFrom f a) x out v over none taken put b =
    let n : length out ≡ 1 = scanned_one (m.folded f a x) (length out) (gives _ _ out (v (ended_by Open)) none) in omega (arith, n, b)
counts_item {T} m (BufferFrom n xs) x out v over none taken put b =
    let full : Bool = nat_le n (length xs + 1) in
    let list = m.list_of in
    let whole : plain_from m (BufferFrom n xs) (record { items = x ∷ []; ending = Open }) ≡ (if full then item_then (list (xs ++ x ∷ [])) (ended_by Open) else ended_by Open) =
    ap (λ w. if full then item_then (list (xs ++ x ∷ [])) w else buffered_items list n (xs ++ x ∷ []) [] Open) (buffered_open list n [])
    ∙ ap (λ w. if full then item_then (list (xs ++ x ∷ [])) (ended_by Open) else w) (buffered_open list n (xs ++ x ∷ [])) in
    let left : plain_from m (BufferFrom n (gathered_after n xs x)) (ended_by Open) ≡ ended_by Open = buffered_open list n (gathered_after n xs x) in
    let k = gives _ _ out (v (ended_by Open)) none in
    let P : Stream T → Type 0 = λ w. Gives w (plain_from m (BufferFrom n (gathered_after n xs x)) (ended_by Open)) (length out) in
    let Q : Stream T → Type 0 = λ w. Gives (if full then item_then (list (xs ++ x ∷ [])) (ended_by Open) else ended_by Open) w (length out) in
    full_list list full n (length out) xs x taken put (leb-true n (length xs + 1)) (subst Q left (subst P whole k)) b.0 b.1 (leb-false n (length xs + 1))
counts_item {T} m (DistinctFrom f ks d) x out v over none taken put b =
    let Q : Stream T → Type 0 = λ w. Gives (new_key_then x (m.keyed f x) ks (λ known. ended_by Open)) w (length out) in
    key_one f x (m.keyed f x) ks d (length out) taken put (subst Q (distinct_open m f ks d (m.keyed f x)) (gives _ _ out (v (ended_by Open)) none)) b

-- ---- how many items it wants

less_or_not : (a b : ℕ) → (a < b) ⊎ (b ≤ a)
less_or_not a b = by_test (nat_lt a b) refl
  where
    by_test : (t : Bool) → nat_lt a b ≡ t → (a < b) ⊎ (b ≤ a)
    by_test true e = inl (grind (arith, nat_tests))
    by_test false e = inr (grind (arith, nat_tests))

dropped_more : (taken put asked d : ℕ) → (d < UNBOUNDED → taken ≡ put + d) → put < asked → taken < UNBOUNDED → taken < min UNBOUNDED (asked + d)
dropped_more taken put asked d b l w = elim (less_or_not d UNBOUNDED) [
  | inl few ↦ let c = b few in omega (arith, c, l, w)
  | inr many ↦ omega (arith, many, l, w)
]

-- where more is asked of an operator than it put out, it wants more than it took in
pub wants_more : {T : Type 0} (state : PlainState T) (taken put asked sent : ℕ) → balanced state taken put → is_over state ≡ false → put < asked → taken < UNBOUNDED → taken < wanted_from state asked sent
wants_more (MapFrom f) taken put asked sent b o l w = omega (arith, b, l)
wants_more (FilterFrom f d) taken put asked sent b o l w = dropped_more taken put asked d b l w
wants_more (TakeFrom n zero) taken put asked sent b o l w = cc
wants_more (TakeFrom n (suc left)) taken put asked sent b o l w = let p = b.0 in let q = b.1 in omega (arith, p, q, l)
wants_more (ScanFrom f a) taken put asked sent b o l w = omega (arith, b, l)
wants_more (BufferFrom n xs) taken put asked sent b o l w =
    let more : put + 1 ≤ asked = omega (arith, l) in
    let times : (put + 1) * n ≤ asked * n = mul-le-mul_right n more in
    let spread : (put + 1) * n ≡ put * n + n = grind arith in
    let p = b.0 in
    let q = b.1 in
    omega (arith, p, q, times, spread, w)
wants_more (DistinctFrom f ks d) taken put asked sent b o l w = dropped_more taken put asked d b l w

-- ---- at the start

-- the counts of a fresh operator that has not put out its ending are balanced; the lists of a `buffer` have an item
pub starts_balanced : {T : Type 0} (g : Stage T) → ((n : ℕ) → g ≡ Buffer n → 0 < n) → has_ending (start_slot g) ≡ false → (is_over (plain_start g) ≡ false) × balanced (plain_start g) 0 (0 + length (start_slot g))
starts_balanced (Filter f) some o = (refl, λ l. refl)
starts_balanced (Take zero) some o = cc
starts_balanced (Take (suc n)) some o = (some_left n, (refl, omega arith))
  where
    some_left : (n : ℕ) → nat_eq (suc n) 0 ≡ false
    some_left n = grind (arith, nat_tests)
starts_balanced (Buffer n) some o = (refl, (none n, some n refl))
  where
    none : (n : ℕ) → 0 ≡ 0 * n + 0
    none n = grind arith
starts_balanced (Distinct f) some o = (refl, λ l. refl)
starts_balanced g some o = (refl, refl)

-- a fresh operator wants nothing before something is asked of it
pub starts_wanting : {T : Type 0} (g : Stage T) → wanted_from (plain_start g) 0 0 ≡ 0
starts_wanting (Take n) = grind arith
starts_wanting (Buffer n) = grind arith
starts_wanting g = refl
