-- Lists that can be gone on with to right ones, up to their first wrong item.
use Rattle.std.proofs.Common.{◌≡◌, List, [], ◌∷◌, ◌++◌, refl, sym, ap, subst, ◌∙◌}
use Rattle.std.specs.Prelude.{◌↔◌}
use Rattle.rsx_types.proofs.Lists.{same_head, same_tail}
use Rattle.rsx_tck.specs.FirstWrong.{Begins, GoesWrong}

-- no list that begins so is right
pub never : {X : Type 0} (P : List X → Type 0) (front : List X) → ((more : List X) → P (front ++ more) → ⊥) → ¬ Begins P front
never P front none (more, p) = none more p

pub begun : {X : Type 0} (P Q : List X → Type 0) (a b : List X) → ((more : List X) → P (a ++ more) → Q (b ++ more)) → Begins P a → Begins Q b
begun P Q a b to (more, p) = (more, to more p)

pub same_wrong : {X : Type 0} (P Q : List X → Type 0) (before rest : List X) → ((xs : List X) → P xs ↔ Q xs) → GoesWrong P before rest → GoesWrong Q before rest
same_wrong P Q before [] same g = record {
  begins = begun P Q before before (λ more. (same (before ++ more)).0) g.begins;
  stops = λ q. g.stops ((same before).1 q);
}
same_wrong P Q before (x ∷ rest) same g = record {
  begins = begun P Q before before (λ more. (same (before ++ more)).0) g.begins;
  stops = λ q. g.stops (begun Q P (before ++ x ∷ []) (before ++ x ∷ []) (λ more. (same ((before ++ x ∷ []) ++ more)).1) q);
}

-- one item more before
pub push_wrong : {X : Type 0} (P Q : List X → Type 0) (x : X) (before rest : List X) → ((xs : List X) → P (x ∷ xs) ↔ Q xs) → GoesWrong Q before rest → GoesWrong P (x ∷ before) rest
push_wrong P Q x before [] same g = record {
  begins = begun Q P before (x ∷ before) (λ more. (same (before ++ more)).1) g.begins;
  stops = λ p. g.stops ((same before).0 p);
}
push_wrong P Q x before (y ∷ rest) same g = record {
  begins = begun Q P before (x ∷ before) (λ more. (same (before ++ more)).1) g.begins;
  stops = λ p. g.stops (begun P Q (x ∷ (before ++ y ∷ [])) (before ++ y ∷ []) (λ more. (same ((before ++ y ∷ []) ++ more)).0) p);
}

-- one item less
pub pull_wrong : {X : Type 0} (P : List X → Type 0) (x : X) (before rest : List X) → GoesWrong P (x ∷ before) rest → GoesWrong (λ xs. P (x ∷ xs)) before rest
pull_wrong P x before [] g = record { begins = g.begins; stops = g.stops }
pull_wrong P x before (y ∷ rest) g = record { begins = g.begins; stops = g.stops }

-- a right list that begins with some items begins with the first of them
sooner : {X : Type 0} (P : List X → Type 0) (y : X) (c : List X) → Begins P (y ∷ c) → Begins P (y ∷ [])
sooner P y c (more, p) = (c ++ more, p)

-- a list that goes wrong at once doesn't go wrong later
not_later : {X : Type 0} (P : List X → Type 0) (b : List X) (y : X) (c d : List X) → b ≡ y ∷ (c ++ d) → GoesWrong P [] b → GoesWrong P (y ∷ c) d → ⊥
not_later P [] y c d e g h = absurd cc
not_later P (x ∷ b) y c d e g h = g.stops (subst (λ z. Begins P (z ∷ [])) (sym (same_head x y b (c ++ d) e)) (sooner P y c h.begins))

-- a list goes wrong at one place only
pub one_place : {X : Type 0} (P : List X → Type 0) (a b c d : List X) → a ++ b ≡ c ++ d → GoesWrong P a b → GoesWrong P c d → (a ≡ c) × (b ≡ d)
one_place P [] b [] d e g h = (refl, e)
one_place P [] b (y ∷ c) d e g h = absurd (not_later P b y c d e g h)
one_place P (x ∷ a) b [] d e g h = absurd (not_later P d x a b (sym e) h g)
one_place {X} P (x ∷ a) b (y ∷ c) d e g h =
    let first : x ≡ y = same_head x y (a ++ b) (c ++ d) e in
    let other = subst (λ z. GoesWrong P (z ∷ c) d) (sym first) h in
    let rest = one_place (λ xs. P (x ∷ xs)) a b c d (same_tail x y (a ++ b) (c ++ d) e) (pull_wrong P x a b g) (pull_wrong P x c d other) in
    (ap (λ z. z ∷ a) first ∙ ap (λ (xs : List X). y ∷ xs) rest.0, rest.1)
