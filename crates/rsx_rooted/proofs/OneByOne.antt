-- How a batch through a node is put together from single calls.
use Rattle.std.proofs.Common.{◌≡◌, inl, inr, List, [], ◌∷◌, ◌++◌, length, refl, ap, sym, ◌∙◌, subst, append-nil}
use Rattle.std.proofs.lemmas.List.{append_assoc, nil_from_length}
use Rattle.rsx_rooted.specs.Items.{ArePassed, ArePopped}

-- ---- items that come out of it

-- what comes out of the node as it is now makes, behind what did already, what comes out of it as it was
abbrev pub IsComing : {T S : Type 0} → (S → T → S → Type 0) → S → S → List T → Type 0
IsComing {T} {S} out old now done = (ys : List T) (new : S) → ArePopped out now ys new → ArePopped out old (done ++ ys) new

pub coming_first : {T S : Type 0} (out : S → T → S → Type 0) (old : S) (done : List T) → done ≡ [] → IsComing out old old done
coming_first {T} out old done none ys new h =
    let D : List T → Type 0 = λ l. ArePopped out old (l ++ ys) new in
    subst D (sym none) h

pub coming_more : {T S : Type 0} (out : S → T → S → Type 0) (old now next : S) (x : T) (done more : List T) → IsComing out old now done → out now x next → more ≡ done ++ x ∷ [] → IsComing out old next more
coming_more {T} out old now next x done more on o is ys new h =
    let D : List T → Type 0 = λ l. ArePopped out old l new in
    let same : done ++ x ∷ ys ≡ more ++ ys = sym (ap (λ l. l ++ ys) is ∙ append_assoc done (x ∷ []) ys) in
    subst D same (on (x ∷ ys) new (next, o, h))

pub come : {T S : Type 0} (out : S → T → S → Type 0) (old now new : S) (done : List T) → IsComing out old now done → new ≡ now → ArePopped out old done new
come {T} out old now new done on same =
    let D : List T → Type 0 = λ l. ArePopped out old l new in
    subst D (append-nil done) (on [] new same)

-- where nothing came out, the node is as it was
pub none_out : {T S : Type 0} (out : S → T → S → Type 0) (old now new : S) (done : List T) → IsComing out old now done → new ≡ now → length done ≡ 0 → (new ≡ old) × (done ≡ [])
none_out {T} out old now new done on same long =
    let D : List T → Type 0 = λ l. ArePopped out old l new in
    let none : done ≡ [] = nil_from_length done long in
    (subst D none (come out old now new done on same), none)

-- ---- through a node that stands in another

-- what goes through a node goes through the other one in the same way
pub passed_in : {T A B : Type 0} (f : A → B) (taken out : A → T → A → Type 0) (taken' out' : B → T → B → Type 0) →
    ((s : A) (x : T) (t : A) → taken s x t → taken' (f s) x (f t)) → ((s : A) (x : T) (t : A) → out s x t → out' (f s) x (f t)) →
    (xs ys : List T) (old new : A) → ArePassed taken out old xs ys new → ArePassed taken' out' (f old) xs ys (f new)
passed_in f taken out taken' out' p q [] ys old new h = (h.0, ap f h.1)
passed_in f taken out taken' out' p q (x ∷ xs) ys old new h = (
  f h.0,
  p old x h.0 h.1,
  elim h.2 [
    | inl k ↦ inl (passed_in f taken out taken' out' p q xs ys h.0 new k)
    | inr k ↦ inr (k.0, k.1, f k.2, k.3, q h.0 k.0 k.2 k.4, passed_in f taken out taken' out' p q xs k.1 k.2 new k.5)
  ],
)

pub popped_in : {T A B : Type 0} (f : A → B) (out : A → T → A → Type 0) (out' : B → T → B → Type 0) → ((s : A) (x : T) (t : A) → out s x t → out' (f s) x (f t)) →
    (xs : List T) (old new : A) → ArePopped out old xs new → ArePopped out' (f old) xs (f new)
popped_in f out out' q [] old new h = ap f h
popped_in f out out' q (x ∷ xs) old new h = (f h.0, q old x h.0 h.1, popped_in f out out' q xs h.0 new h.2)
