-- The leaves of an expression that read hubs, and the places that they take there.
use Rattle.std.specs.Prelude.{◌≡◌, ⊤, ℕ, ◌+◌, Bool, true, ◌&&◌, nat_eq, nat_le, if◌then◌else◌, List, [], ◌∷◌}
use Rattle.rsx_hub.specs.Hub.{HubState, with_members}
use Rattle.rsx_hub.specs.declared.TheConstants.{MOST_MEMBERS}
use Rattle.rsx_model.specs.Shape.{children, sum_of}
use Rattle.rsx_model.specs.declared.expr.Expr.{Expr}
use Rattle.rsx_model.specs.declared.expr.Expr.TheFolds.{fold-Expr}
use Rattle.rsx_model.specs.declared.expr.Expr.TheOpen.{Expr-F, Items, Range, Hub, Plain, Concat, Merge, MergeDelay, Zip, Latest, Group, Window, Flat, FlatDelay, On, OnEager}

-- 1 if the node reads the hub with this number
abbrev pub reads_here : {T A : Type 0} → ℕ → Expr-F T A → ℕ
reads_here n (Items v) = 0
reads_here n (Range a k) = 0
reads_here n (Hub h) = if nat_eq h.0 n then 1 else 0
reads_here n (Plain g b) = 0
reads_here n (Concat v) = 0
reads_here n (Merge p v) = 0
reads_here n (MergeDelay p v) = 0
reads_here n (Zip p v) = 0
reads_here n (Latest p v) = 0
reads_here n (Group f gs b) = 0
reads_here n (Window k gs b) = 0
reads_here n (Flat f c gs b) = 0
reads_here n (FlatDelay f c gs b) = 0
reads_here n (On k p b) = 0
reads_here n (OnEager k p b) = 0

-- how many leaves of an expression read the hub with this number
abbrev pub leaves_on : {T : Type 0} → ℕ → Expr T → ℕ
leaves_on {T} n = fold-Expr T ℕ (λ e. reads_here n e + sum_of (children e))

-- whether each of these hubs has place for its leaves; the first of them has the number n
abbrev pub have_places : {T : Type 0} → ℕ → Expr T → List (HubState T) → Bool
have_places n e [] = true
have_places n e (h ∷ hs) = nat_le (h.members + leaves_on n e) MOST_MEMBERS && have_places (n + 1) e hs

-- the leaves of the expression joined each hub, and are counted there
abbrev pub HaveJoinedFrom : {T : Type 0} → ℕ → Expr T → List (HubState T) → List (HubState T) → Type 0
HaveJoinedFrom n e [] [] = ⊤
HaveJoinedFrom n e (h ∷ hs) (k ∷ ks) = (k ≡ with_members h (leaves_on n e)) × HaveJoinedFrom (n + 1) e hs ks
HaveJoinedFrom n e [] (k ∷ ks) = ⊥
HaveJoinedFrom n e (h ∷ hs) [] = ⊥

abbrev pub HaveJoined : {T : Type 0} → Expr T → List (HubState T) → List (HubState T) → Type 0
HaveJoined e old new = HaveJoinedFrom 0 e old new
