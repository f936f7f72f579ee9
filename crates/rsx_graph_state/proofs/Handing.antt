-- A signal of a hub that is handed to one of a list after the other.
use Rattle.std.proofs.Common.{◌≡◌, ℕ, zero, suc, ◌+◌, ◌-◌, ◌<◌, ◌≤◌, ◌≢◌, min, Bool, true, false, ◌&&◌, List, [], ◌∷◌, ◌++◌, length, take, drop, set, get_or, Option, Some, None, refl, ap, sym, ◌∙◌, subst, arith}
use Rattle.std.proofs.lemmas.List.{at_drop_more, drop_more, drop-set-lt, take_all, take_more, take_more_set}
use Rattle.rsx_types.specs.declared.signal.Signal.{Signal}
use Rattle.rsx_tree.specs.Handed.{IsHandedOut, is_room_for, times}
use Rattle.rsx_tree.proofs.Handing.{room_first, room_second}
use Rattle.rsx_graph_state.specs.Lists.{AllChanged, every, total}
use Rattle.rsx_graph_state.specs.Publishing.{is_ready}

-- ---- the same signal so many times

pub times_more : {A : Type 0} (n : ℕ) (a : A) → times n a ++ a ∷ [] ≡ times (suc n) a
times_more zero a = refl
times_more (suc n) a = ap (λ l. a ∷ l) (times_more n a)

-- ---- one more of a list

total_more : {X : Type 0} (f : X → ℕ) (xs : List X) (x : X) → total f (xs ++ x ∷ []) ≡ total f xs + f x
total_more f [] x = omega arith
total_more f (y ∷ ys) x = let k = total_more f ys x in omega (arith, k)

and_all : (a b c : Bool) → a && (b && c) ≡ (a && b) && c
and_all true b c = refl
and_all false b c = refl

and_true : (a : Bool) → a && true ≡ a
and_true true = refl
and_true false = refl

every_more : {X : Type 0} (f : X → Bool) (xs : List X) (x : X) → every f (xs ++ x ∷ []) ≡ every f xs && f x
every_more f [] x = and_true (f x)
every_more f (y ∷ ys) x = ap (λ b. f y && b) (every_more f ys x) ∙ and_all (f y) (every f ys) (f x)

all_more : {X : Type 0} (P : X → X → Type 0) (xs ys : List X) (x y : X) → AllChanged P xs ys → P x y → AllChanged P (xs ++ x ∷ []) (ys ++ y ∷ [])
all_more P [] [] x y all one = (one, tt)
all_more P (u ∷ us) (v ∷ vs) x y all one = (all.0, all_more P us vs x y all.1 one)
all_more P [] (v ∷ vs) x y all one = absurd all
all_more P (u ∷ us) [] x y all one = absurd all

turned : (j a b : ℕ) → j + (a + b) ≡ j + b + a
turned j a b = omega arith

handed_more : {X T : Type 0} (f : X → ℕ) (g : X → Bool) (P : Signal T → X → X → Type 0) (xs ys : List X) (x y : X) (old mid new : List (Signal T)) →
    IsHandedOut (total f xs) (every g xs) old mid (λ s. AllChanged (P s) xs ys) → IsHandedOut (f x) (g x) mid new (λ s. P s x y) →
    IsHandedOut (total f (xs ++ x ∷ [])) (every g (xs ++ x ∷ [])) old new (λ s. AllChanged (P s) (xs ++ x ∷ []) (ys ++ y ∷ []))
handed_more f g P xs ys x y old mid new before one = λ s k all room.
    let rooms = ap (is_room_for s) (sym (every_more g xs x)) ∙ room in
    let r = f x in
    let first = before s (k + r) (all ∙ ap (λ n. times n s) (ap (λ n. k + n) (total_more f xs x) ∙ turned k (total f xs) r)) (room_first s (every g xs) (g x) rooms) in
    let second = one s k first.1 (room_second s (every g xs) (g x) rooms) in
    (all_more (P s) xs ys x y first.0 second.0, second.1)

-- where it was handed to the first of them, it is handed to the next
pub handed_on : {X T : Type 0} (f : X → ℕ) (g : X → Bool) (P : Signal T → X → X → Type 0) (i : ℕ) (xs ys : List X) (d y : X) (old mid new : List (Signal T)) → length ys ≡ length xs → i < length xs → drop i ys ≡ drop i xs →
    IsHandedOut (total f (take i xs)) (every g (take i xs)) old mid (λ s. AllChanged (P s) (take i xs) (take i ys)) → IsHandedOut (f (get_or ys i d)) (g (get_or ys i d)) mid new (λ s. P s (get_or ys i d) y) →
    IsHandedOut (total f (take (i + 1) xs)) (every g (take (i + 1) xs)) old new (λ s. AllChanged (P s) (take (i + 1) xs) (take (i + 1) (set ys i y)))
handed_on {X} {T} f g P i xs ys d y old mid new count within rest before one =
    let within' : i < length ys = omega (arith, count, within) in
    let heads = sym (drop_more ys i d within') ∙ (rest ∙ drop_more xs i d within) in
    let here : get_or xs i d ≡ get_or ys i d = cc in
    let now : take (i + 1) xs ≡ take i xs ++ get_or ys i d ∷ [] = take_more xs i d within ∙ ap (λ z. take i xs ++ z ∷ []) here in
    let then : take (i + 1) (set ys i y) ≡ take i ys ++ y ∷ [] = take_more_set ys i y within' in
    let F : List X → List X → Type 0 = λ us vs. IsHandedOut (total f us) (every g us) old new (λ s. AllChanged (P s) us vs) in
    subst (λ us. F us (take (i + 1) (set ys i y))) (sym now) (subst (F (take i xs ++ get_or ys i d ∷ [])) (sym then) (handed_more f g P (take i xs) (take i ys) (get_or ys i d) y old mid new before one))

-- behind the last all of them got it
pub handed_through : {X T : Type 0} (f : X → ℕ) (g : X → Bool) (P : Signal T → X → X → Type 0) (i : ℕ) (xs ys : List X) (old new : List (Signal T)) → length ys ≡ length xs → length xs ≤ i →
    IsHandedOut (total f (take i xs)) (every g (take i xs)) old new (λ s. AllChanged (P s) (take i xs) (take i ys)) → IsHandedOut (total f xs) (every g xs) old new (λ s. AllChanged (P s) xs ys)
handed_through {X} {T} f g P i xs ys old new count done h =
    let x : take i xs ≡ xs = take_all i xs done in
    let y : take i ys ≡ ys = take_all i ys (omega (arith, count, done)) in
    let F : List X → List X → Type 0 = λ us vs. IsHandedOut (total f us) (every g us) old new (λ s. AllChanged (P s) us vs) in
    subst (λ us. F us ys) x (subst (F (take i xs)) y h)

-- first to those of one list, and then to those of another
pub handed_then : {T : Type 0} (a b : ℕ) (c d : Bool) (P Q : Signal T → Type 0) (old mid new : List (Signal T)) → IsHandedOut a c old mid P → IsHandedOut b d mid new Q → IsHandedOut (a + b) (c && d) old new (λ s. P s × Q s)
handed_then a b c d P Q old mid new first second = λ s k all room.
    let one = first s (k + b) (all ∙ ap (λ n. times n s) (turned k a b)) (room_first s c d room) in
    let two = second s k one.1 (room_second s c d room) in
    ((one.0, two.0), two.1)

-- behind the one that took it in all are as they were
pub rest_on : {X : Type 0} (i : ℕ) (xs ys : List X) (x y : X) → length ys ≡ length xs → i < length xs → drop i ys ≡ drop i xs → drop (i + 1) (set ys i y) ≡ drop (i + 1) xs
rest_on i xs ys x y count within rest =
    let within' : i < length ys = omega (arith, count, within) in
    let heads = sym (drop_more ys i x within') ∙ (rest ∙ drop_more xs i x within) in
    let tails : drop (i + 1) ys ≡ drop (i + 1) xs = cc in
    drop-set-lt (i + 1) ys i y (omega arith) ∙ tails

-- ---- readers

-- how many there are, where fewer were found than the most that are counted
pub all_found : (all found most : ℕ) → found ≡ min all most → found ≢ most → all ≡ found
all_found all found most e ne = omega arith

-- ---- a signal that waits

pub it_waits : {T : Type 0} (o : Option (Signal T)) (room : Bool) → is_ready o room ≡ true → (s : Signal T) × (o ≡ Some s) × (is_room_for s room ≡ true)
it_waits None room h = cc
it_waits (Some s) room h = (s, refl, h)

-- ---- copies

-- the signal itself, behind a copy for each reader but one
pub times_given : {A : Type 0} (n : ℕ) (xs : List A) (a b : A) → 0 < n → xs ≡ times (n - 1) a → b ≡ a → xs ++ b ∷ [] ≡ times n a
times_given zero xs a b some e same = absurd (omega (arith, some))
times_given (suc n) xs a b some e same =
    let one : suc n - 1 ≡ n = omega arith in
    ap (λ ys. ys ++ b ∷ []) (e ∙ ap (λ j. times j a) one) ∙ (ap (λ y. times n a ++ y ∷ []) same ∙ times_more n a)

-- one more is behind the others
pub times_on : {A : Type 0} (n : ℕ) (xs ys : List A) (a b : A) → ys ≡ xs ++ b ∷ [] → xs ≡ times n a → b ≡ a → ys ≡ times (n + 1) a
times_on n xs ys a b pushed e same =
    let one : suc n ≡ n + 1 = omega arith in
    pushed ∙ (ap (λ zs. zs ++ b ∷ []) e ∙ (ap (λ y. times n a ++ y ∷ []) same ∙ (times_more n a ∙ ap (λ j. times j a) one)))

-- ---- the next of them

pub total_next : {X : Type 0} (f : X → ℕ) (i : ℕ) (xs : List X) (x : X) → i < length xs → x ≡ get_or xs i x → total f (drop i xs) ≡ f x + total f (drop (i + 1) xs)
total_next f i xs x within read = at_drop_more (total f) xs i x within ∙ ap (λ y. f y + total f (drop (i + 1) xs)) (sym read)

pub every_next : {X : Type 0} (f : X → Bool) (i : ℕ) (xs : List X) (x : X) (b : Bool) → i < length xs → x ≡ get_or xs i x → f x ≡ b → every f (drop i xs) ≡ b && every f (drop (i + 1) xs)
every_next f i xs x b within read is = at_drop_more (every f) xs i x within ∙ ap (λ c. c && every f (drop (i + 1) xs)) (ap f (sym read) ∙ is)
