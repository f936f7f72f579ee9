-- How items that went in one after the other are put together from single ones.
use Rattle.std.proofs.Common.{◌≡◌, inl, inr, ℕ, zero, suc, ◌+◌, ◌-◌, ◌<◌, ◌≤◌, List, [], ◌∷◌, ◌++◌, length, take, drop, set, get_or, reverse, refl, ap, sym, ◌∙◌, subst, append-nil, arith, rules}
use Rattle.std.proofs.lemmas.List.{append_assoc, drop_more, drop-set-lt, reverse-append, take_all, take_more, take_more_set}
use Rattle.rsx_sources.specs.Prelude.{Meaning, Next}
use Rattle.rsx_plain.specs.Passes.{GoThrough, PutsOut}
use Rattle.rsx_plain.specs.declared.state.PlainState.{PlainState}
use Rattle.rsx_plain.specs.declared.state.PlainState.TheVariants.{Take as TakeFrom}

-- ---- one more item

pub put_out : {T : Type 0} (m : Meaning T) (old mid new : PlainState T) (xs ys : List T) (x y : T) → GoThrough m old xs ys mid → PutsOut m mid x (Next y ∷ []) new → GoThrough m old (xs ++ x ∷ []) (ys ++ y ∷ []) new
put_out {T} m old mid new [] ys x y all one =
    let P : List T → PlainState T → Type 0 = λ l s. GoThrough m s (x ∷ []) (l ++ y ∷ []) new in
    let F : PlainState T → Type 0 = λ s. PutsOut m s x (Next y ∷ []) new in
    subst (λ l. GoThrough m old (x ∷ []) (l ++ y ∷ []) new) (sym all.0) (new, inr (y, [], refl, subst F all.1 one, (refl, refl)))
put_out {T} m old mid new (u ∷ us) ys x y all one = (
  all.0,
  elim all.1 [
    | inl k ↦ inl (k.0, put_out m all.0 mid new us ys x y k.1 one)
    | inr k ↦ inr (k.0, k.1 ++ y ∷ [], ap (λ l. l ++ y ∷ []) k.2, k.3, put_out m all.0 mid new us k.1 x y k.4 one)
  ],
)

pub kept : {T : Type 0} (m : Meaning T) (old mid new : PlainState T) (xs ys : List T) (x : T) → GoThrough m old xs ys mid → PutsOut m mid x [] new → GoThrough m old (xs ++ x ∷ []) ys new
kept {T} m old mid new [] ys x all one =
    let F : PlainState T → Type 0 = λ s. PutsOut m s x [] new in
    (new, inl (subst F all.1 one, (all.0, refl)))
kept {T} m old mid new (u ∷ us) ys x all one = (
  all.0,
  elim all.1 [
    | inl k ↦ inl (k.0, kept m all.0 mid new us ys x k.1 one)
    | inr k ↦ inr (k.0, k.1, k.2, k.3, kept m all.0 mid new us k.1 x k.4 one)
  ],
)

-- ---- in the place of the items

-- the items in front of one are what was put out for them; so they are with it
pub one_more : {T : Type 0} (m : Meaning T) (old mid new : PlainState T) (i : ℕ) (xs ys : List T) (d y : T) → length ys ≡ length xs → i < length xs → drop i ys ≡ drop i xs →
    GoThrough m old (take i xs) (take i ys) mid → PutsOut m mid (get_or ys i d) (Next y ∷ []) new → GoThrough m old (take (i + 1) xs) (take (i + 1) (set ys i y)) new
one_more {T} m old mid new i xs ys d y count within rest before one =
    let within' : i < length ys = omega (arith, count, within) in
    let heads = sym (drop_more ys i d within') ∙ (rest ∙ drop_more xs i d within) in
    let here : get_or xs i d ≡ get_or ys i d = cc in
    let now : take (i + 1) xs ≡ take i xs ++ get_or ys i d ∷ [] = take_more xs i d within ∙ ap (λ z. take i xs ++ z ∷ []) here in
    let then : take (i + 1) (set ys i y) ≡ take i ys ++ y ∷ [] = take_more_set ys i y within' in
    let F : List T → List T → Type 0 = λ us vs. GoThrough m old us vs new in
    subst (λ us. F us (take (i + 1) (set ys i y))) (sym now) (subst (F (take i xs ++ get_or ys i d ∷ [])) (sym then) (put_out m old mid new (take i xs) (take i ys) (get_or ys i d) y before one))

-- those behind it are as they were
pub rest_on : {T : Type 0} (i : ℕ) (xs ys : List T) (d y : T) → length ys ≡ length xs → i < length xs → drop i ys ≡ drop i xs → drop (i + 1) (set ys i y) ≡ drop (i + 1) xs
rest_on i xs ys d y count within rest =
    let within' : i < length ys = omega (arith, count, within) in
    let heads = sym (drop_more ys i d within') ∙ (rest ∙ drop_more xs i d within) in
    let tails : drop (i + 1) ys ≡ drop (i + 1) xs = cc in
    drop-set-lt (i + 1) ys i y (omega arith) ∙ tails

-- behind the last of them that is all
pub all_of : {T : Type 0} (m : Meaning T) (old new : PlainState T) (i : ℕ) (xs ys : List T) → length ys ≡ length xs → length xs ≤ i → GoThrough m old (take i xs) (take i ys) new → GoThrough m old xs ys new
all_of {T} m old new i xs ys count done h =
    let x : take i xs ≡ xs = take_all i xs done in
    let y : take i ys ≡ ys = take_all i ys (omega (arith, count, done)) in
    let F : List T → List T → Type 0 = λ us vs. GoThrough m old us vs new in
    subst (λ us. F us ys) x (subst (F (take i xs)) y h)

-- ---- through a `take`

take_one : {T : Type 0} (m : Meaning T) (n left : ℕ) (x : T) → 1 < left → PutsOut m (TakeFrom n left) x (Next x ∷ []) (TakeFrom n (left - 1))
take_one m n zero x more = absurd (omega (arith, more))
take_one m n (suc zero) x more = absurd (omega (arith, more))
take_one {T} m n (suc (suc left)) x more =
    let e : suc left ≡ suc (suc left) - 1 = omega arith in
    let F : ℕ → Type 0 = λ k. PutsOut m (TakeFrom n (suc (suc left))) x (Next x ∷ []) (TakeFrom n k) in
    subst F e (record { moves = λ rest. refl; state = ap (λ k. TakeFrom n k) e; goes_on = search rules })

minus : (left n : ℕ) → left - 1 - n ≡ left - suc n
minus left n = omega arith

pub taken : {T : Type 0} (m : Meaning T) (n left : ℕ) (xs : List T) → length xs < left → GoThrough m (TakeFrom n left) xs xs (TakeFrom n (left - length xs))
taken {T} m n left [] few =
    let all : left - 0 ≡ left = omega arith in
    (refl, ap (λ k. TakeFrom n k) all)
taken {T} m n left (x ∷ xs) few =
    let F : ℕ → Type 0 = λ k. GoThrough m (TakeFrom n (left - 1)) xs xs (TakeFrom n k) in
    let rest : GoThrough m (TakeFrom n (left - 1)) xs xs (TakeFrom n (left - 1 - length xs)) = taken m n (left - 1) xs (omega (arith, few)) in
    (TakeFrom n (left - 1), inr (x, xs, refl, take_one m n left x (omega (arith, few)), subst F (minus left (length xs)) rest))

-- ---- from one list to another

-- what goes in out of the items that are left makes what goes in of all of them, behind what is done
abbrev pub IsOnTheWay : {T : Type 0} → Meaning T → PlainState T → List T → PlainState T → List T → List T → Type 0
IsOnTheWay {T} m old xs now rest done = (ys : List T) (new : PlainState T) → GoThrough m now rest ys new → GoThrough m old xs (done ++ ys) new

pub begun : {T : Type 0} (m : Meaning T) (old : PlainState T) (xs rest done : List T) → rest ≡ xs → done ≡ [] → IsOnTheWay m old xs old rest done
begun {T} m old xs rest done same none ys new h =
    let X : List T → Type 0 = λ l. GoThrough m old l ys new in
    let D : List T → Type 0 = λ l. GoThrough m old xs (l ++ ys) new in
    subst D (sym none) (subst X same h)

pub one_out : {T : Type 0} (m : Meaning T) (old : PlainState T) (xs : List T) (now next : PlainState T) (x y : T) (left rest done more : List T) →
    IsOnTheWay m old xs now left done → left ≡ x ∷ rest → PutsOut m now x (Next y ∷ []) next → more ≡ done ++ y ∷ [] → IsOnTheWay m old xs next rest more
one_out {T} m old xs now next x y left rest done more on is o all ys new h =
    let D : List T → Type 0 = λ l. GoThrough m old xs l new in
    let L : List T → Type 0 = λ l. GoThrough m now l (y ∷ ys) new in
    let same : done ++ y ∷ ys ≡ more ++ ys = sym (ap (λ l. l ++ ys) all ∙ append_assoc done (y ∷ []) ys) in
    subst D same (on (y ∷ ys) new (subst L (sym is) (next, inr (y, ys, refl, o, h))))

pub none_out : {T : Type 0} (m : Meaning T) (old : PlainState T) (xs : List T) (now next : PlainState T) (x : T) (left rest done : List T) →
    IsOnTheWay m old xs now left done → left ≡ x ∷ rest → PutsOut m now x [] next → IsOnTheWay m old xs next rest done
none_out {T} m old xs now next x left rest done on is t ys new h =
    let L : List T → Type 0 = λ l. GoThrough m now l ys new in
    on ys new (subst L (sym is) (next, inl (t, h)))

pub ended : {T : Type 0} (m : Meaning T) (old : PlainState T) (xs : List T) (now : PlainState T) (left done : List T) →
    IsOnTheWay m old xs now left done → left ≡ [] → GoThrough m old xs done now
ended {T} m old xs now left done on none =
    let D : List T → Type 0 = λ l. GoThrough m old xs l now in
    let L : List T → Type 0 = λ l. GoThrough m now l [] now in
    subst D (append-nil done) (on [] now (subst L (sym none) (refl, refl)))

-- the last of a list is the first of it turned around
pub turned : {T : Type 0} (all front : List T) (x : T) → all ≡ front ++ x ∷ [] → reverse all ≡ x ∷ reverse front
turned all front x is = ap reverse is ∙ reverse-append front (x ∷ [])
