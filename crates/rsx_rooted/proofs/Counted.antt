-- Members that are counted in, hub by hub.
use Rattle.std.proofs.Math.ListN.{set}
use Rattle.std.proofs.Common.{◌≡◌, ℕ, zero, suc, ◌+◌, ◌<◌, ◌≤◌, true, nat_le, add-zero, get_or, List, [], ◌∷◌, length, refl, ap, sym, ◌∙◌, subst, arith}
use Rattle.std.proofs.lemmas.Bool.{leb-true, and_parts}
use Rattle.rsx_hub.specs.Hub.{HubState, with_members}
use Rattle.rsx_hub.specs.declared.TheConstants.{MOST_MEMBERS}
use Rattle.rsx_model.specs.declared.expr.Expr.{Expr}
use Rattle.rsx_rooted.specs.Leaves.{HaveJoinedFrom, have_places, leaves_on}

-- the first of them are counted in
abbrev pub joined_up : {T : Type 0} → ℕ → Expr T → ℕ → List (HubState T) → List (HubState T)
joined_up n e zero hs = hs
joined_up n e (suc k) [] = []
joined_up n e (suc k) (h ∷ hs) = with_members h (leaves_on n e) ∷ joined_up (n + 1) e k hs

pub up_length : {T : Type 0} (n : ℕ) (e : Expr T) (k : ℕ) (hs : List (HubState T)) → length (joined_up n e k hs) ≡ length hs
up_length n e zero hs = refl
up_length n e (suc k) [] = refl
up_length n e (suc k) (h ∷ hs) = ap suc (up_length (n + 1) e k hs)

-- the next one is as it was
pub up_next : {T : Type 0} (n : ℕ) (e : Expr T) (k : ℕ) (hs : List (HubState T)) (d : HubState T) → get_or (joined_up n e k hs) k d ≡ get_or hs k d
up_next n e zero hs d = refl
up_next n e (suc k) [] d = refl
up_next n e (suc k) (h ∷ hs) d = up_next (n + 1) e k hs d

pub up_more : {T : Type 0} (n : ℕ) (e : Expr T) (k : ℕ) (hs : List (HubState T)) (h : HubState T) → k < length hs → h ≡ get_or hs k h → set (joined_up n e k hs) k (with_members h (leaves_on (n + k) e)) ≡ joined_up n e (suc k) hs
up_more n e zero [] h lt g = absurd (omega (arith, lt))
up_more n e zero (x ∷ hs) h lt g = ap (λ y. y ∷ hs) (ap (λ u. with_members u (leaves_on (n + 0) e)) g ∙ ap (λ i. with_members x (leaves_on i e)) (add-zero n))
up_more n e (suc k) [] h lt g = absurd (omega (arith, lt))
up_more n e (suc k) (x ∷ hs) h lt g =
    let same : n + suc k ≡ (n + 1) + k = omega arith in
    ap (λ l. with_members x (leaves_on n e) ∷ l) (ap (λ i. set (joined_up (n + 1) e k hs) k (with_members h (leaves_on i e))) same ∙ up_more (n + 1) e k hs h (omega (arith, lt)) g)

pub up_all : {T : Type 0} (n : ℕ) (e : Expr T) (k : ℕ) (hs : List (HubState T)) → length hs ≤ k → HaveJoinedFrom n e hs (joined_up n e k hs)
up_all n e zero [] l = tt
up_all n e zero (h ∷ hs) l = absurd (omega (arith, l))
up_all n e (suc k) [] l = tt
up_all n e (suc k) (h ∷ hs) l = (refl, up_all (n + 1) e k hs (omega (arith, l)))

pub place_at : {T : Type 0} (n : ℕ) (e : Expr T) (hs : List (HubState T)) (k : ℕ) (h : HubState T) → have_places n e hs ≡ true → k < length hs → h ≡ get_or hs k h → h.members + leaves_on (n + k) e ≤ MOST_MEMBERS
place_at n e [] k h p lt g = absurd (omega (arith, lt))
place_at {T} n e (x ∷ hs) zero h p lt g =
    let P : HubState T → Type 0 = λ u. u.members + leaves_on n e ≤ MOST_MEMBERS in
    let Q : ℕ → Type 0 = λ i. h.members + leaves_on i e ≤ MOST_MEMBERS in
    subst Q (sym (add-zero n)) (subst P (sym g) (leb-true (x.members + leaves_on n e) MOST_MEMBERS (and_parts (nat_le (x.members + leaves_on n e) MOST_MEMBERS) (have_places (n + 1) e hs) p).0))
place_at {T} n e (x ∷ hs) (suc k) h p lt g =
    let Q : ℕ → Type 0 = λ i. h.members + leaves_on i e ≤ MOST_MEMBERS in
    let same : (n + 1) + k ≡ n + suc k = omega arith in
    subst Q same (place_at (n + 1) e hs k h (and_parts (nat_le (x.members + leaves_on n e) MOST_MEMBERS) (have_places (n + 1) e hs) p).1 (omega (arith, lt)) g)

-- the same from the first hub on
pub place_first : {T : Type 0} (e : Expr T) (hs : List (HubState T)) (k : ℕ) (h : HubState T) → have_places 0 e hs ≡ true → k < length hs → h ≡ get_or hs k h → h.members + leaves_on k e ≤ MOST_MEMBERS
place_first {T} e hs k h p lt g =
    let Q : ℕ → Type 0 = λ i. h.members + leaves_on i e ≤ MOST_MEMBERS in
    let same : 0 + k ≡ k = omega arith in
    subst Q same (place_at 0 e hs k h p lt g)

pub more_first : {T : Type 0} (e : Expr T) (k : ℕ) (hs : List (HubState T)) (h : HubState T) → k < length hs → h ≡ get_or hs k h → set (joined_up 0 e k hs) k (with_members h (leaves_on k e)) ≡ joined_up 0 e (k + 1) hs
more_first {T} e k hs h lt g =
    let same : 0 + k ≡ k = omega arith in
    let next : suc k ≡ k + 1 = omega arith in
    ap (λ i. set (joined_up 0 e k hs) k (with_members h (leaves_on i e))) (sym same) ∙ (up_more 0 e k hs h lt g ∙ ap (λ i. joined_up 0 e i hs) next)
