-- No leaf of an expression that is accepted over some hubs reads one that comes behind them.
use Rattle.std.proofs.Common.{◌≡◌, ℕ, suc, ◌+◌, ◌<◌, Bool, true, false, ◌&&◌, nat_eq, nat_le, nat_lt, if◌then◌else◌, List, [], ◌∷◌, ◌++◌, length, map, None, Some, refl, ap, sym, subst, ◌∙◌, arith}
use Rattle.std.proofs.lemmas.Bool.Decides.{nat_tests}
use Rattle.rsx_graph_state.specs.Prelude.{HubState, are_numbers, fresh_hub, with_members, MOST_MEMBERS}
use Rattle.rsx_rooted.specs.Leaves.{HaveJoinedFrom, have_places, leaves_on, reads_here}
use Rattle.rsx_model.proofs.Unfold.{Each, by_children, children-map, fault_out, or_none, sound}
use Rattle.rsx_subscriber.specs.Prelude.{first_fault, first_of, own_fault, refusal, unless, children, sum_of, Expr, map-Expr, fold_out-Expr, Expr-F, out-Expr}
use Rattle.rsx_model.specs.declared.check.BadExpr.TheVariants.{Hub as NoSuchHub, Number}
use Rattle.rsx_model.specs.declared.expr.Expr.TheOpen as layer
use Rattle.rsx_types.specs.declared.names.HubKind.{HubKind}
use Rattle.rsx_graph_calls.specs.Edits.{fault_of}

reads_here-map : {T A B : Type 0} (n : ℕ) (h : A → B) (x : Expr-F T A) → reads_here n (map-Expr T A B h x) ≡ reads_here n x
reads_here-map n h (layer.Items v) = refl
reads_here-map n h (layer.Range a k) = refl
reads_here-map n h (layer.Hub k) = refl
reads_here-map n h (layer.Plain g b) = refl
reads_here-map n h (layer.Concat v) = refl
reads_here-map n h (layer.Merge p v) = refl
reads_here-map n h (layer.MergeDelay p v) = refl
reads_here-map n h (layer.Zip p v) = refl
reads_here-map n h (layer.Latest p v) = refl
reads_here-map n h (layer.Group f gs b) = refl
reads_here-map n h (layer.Window k gs b) = refl
reads_here-map n h (layer.Flat f c gs b) = refl
reads_here-map n h (layer.FlatDelay f c gs b) = refl
reads_here-map n h (layer.On k p b) = refl
reads_here-map n h (layer.OnEager k p b) = refl

leaves_out : {T : Type 0} (n : ℕ) (e : Expr T) → leaves_on n e ≡ reads_here n (out-Expr T e) + sum_of (map (leaves_on n) (children (out-Expr T e)))
leaves_out {T} n e =
    let below = map-Expr T (Expr T) ℕ (leaves_on n) (out-Expr T e) in
    fold_out-Expr T ℕ (λ x. reads_here n x + sum_of (children x)) e
    ∙ ap (λ k. k + sum_of (children below)) (reads_here-map n (leaves_on n) (out-Expr T e))
    ∙ ap (λ ks. reads_here n (out-Expr T e) + sum_of ks) (children-map (leaves_on n) (out-Expr T e))

another : (i n : ℕ) → unless (nat_lt i n) NoSuchHub ≡ None → ◌≡◌ {A = ℕ} (if nat_eq i n then 1 else 0) 0
another i n e = by_test (nat_eq i n) refl
  where
    known : (i n : ℕ) → unless (nat_lt i n) NoSuchHub ≡ None → i < n
    known i n e = grind arith

    same : (i n : ℕ) → nat_eq i n ≡ true → i ≡ n
    same i n e = grind (arith, nat_tests, e)

    by_test : (b : Bool) → nat_eq i n ≡ b → ◌≡◌ {A = ℕ} (if b then 1 else 0) 0
    by_test true is = let less = known i n e in let both = same i n is in absurd (omega (arith, less, both))
    by_test false is = refl

own_none : {T A : Type 0} (n : ℕ) (x : Expr-F T A) → own_fault n x ≡ None → reads_here n x ≡ 0
own_none n (layer.Items v) h = refl
own_none n (layer.Range a i) h = refl
own_none n (layer.Hub i) h = another i.0 n h
own_none n (layer.Plain g b) h = refl
own_none n (layer.Concat v) h = refl
own_none n (layer.Merge p v) h = refl
own_none n (layer.MergeDelay p v) h = refl
own_none n (layer.Zip p v) h = refl
own_none n (layer.Latest p v) h = refl
own_none n (layer.Group f gs b) h = refl
own_none n (layer.Window k gs b) h = refl
own_none n (layer.Flat f c gs b) h = refl
own_none n (layer.FlatDelay f c gs b) h = refl
own_none n (layer.On w p b) h = refl
own_none n (layer.OnEager w p b) h = refl

all_none : {T : Type 0} (n : ℕ) (es : List (Expr T)) → Each (λ e. first_fault n e ≡ None → leaves_on n e ≡ 0) es → first_of (map (first_fault n) es) ≡ None → sum_of (map (leaves_on n) es) ≡ 0
all_none n [] each h = refl
all_none n (e ∷ es) each h =
    let both = or_none (first_fault n e) (first_of (map (first_fault n) es)) h in
    let here = each.0 both.0 in
    let below = all_none n es each.1 both.1 in
    omega (arith, here, below)

pub none_reads : {T : Type 0} (n : ℕ) (e : Expr T) → first_fault n e ≡ None → leaves_on n e ≡ 0
none_reads {T} n = by_children (λ e. first_fault n e ≡ None → leaves_on n e ≡ 0) (λ e each h.
    let cs = children (out-Expr T e) in
    let both = or_none (own_fault n (out-Expr T e)) (first_of (map (first_fault n) cs)) (sym (fault_out n e) ∙ h) in
    let here = own_none n (out-Expr T e) both.0 in
    let below = all_none n cs each both.1 in
    leaves_out n e ∙ omega (arith, here, below))

-- ---- a hub behind those that the leaves join

pub places_more : {T : Type 0} (k : HubKind) (c n : ℕ) (e : Expr T) (hubs : List (HubState T)) → leaves_on (n + length hubs) e ≡ 0 → have_places n e hubs ≡ true → have_places n e (hubs ++ fresh_hub k c ∷ []) ≡ true
places_more k c n e [] none h =
    let same : n + 0 ≡ n = omega arith in
    ap (λ i. nat_le (0 + i) MOST_MEMBERS && true) (ap (λ i. leaves_on i e) (sym same) ∙ none)
places_more k c n e (s ∷ ss) none h =
    let more : n + suc (length ss) ≡ n + 1 + length ss = omega arith in
    let both = parts (nat_le (s.members + leaves_on n e) MOST_MEMBERS) (have_places (n + 1) e ss) h in
    ap (λ b. b && have_places (n + 1) e (ss ++ fresh_hub k c ∷ [])) both.0 ∙ places_more k c (n + 1) e ss (ap (λ i. leaves_on i e) (sym more) ∙ none) both.1
  where
    parts : (a b : Bool) → a && b ≡ true → (a ≡ true) × (b ≡ true)
    parts true b e = (refl, e)
    parts false b e = cc

-- the others joined, and it has no member
pub record JoinedBefore {T : Type 0} (k : HubKind) (c n : ℕ) (e : Expr T) (hubs news : List (HubState T)) : Type 0 where
  pub joined : List (HubState T)
  pub members : HaveJoinedFrom n e hubs joined
  pub behind : news ≡ joined ++ fresh_hub k c ∷ []

pub joined_before : {T : Type 0} (k : HubKind) (c n : ℕ) (e : Expr T) (hubs news : List (HubState T)) → leaves_on (n + length hubs) e ≡ 0 → HaveJoinedFrom n e (hubs ++ fresh_hub k c ∷ []) news → JoinedBefore k c n e hubs news
joined_before k c n e [] [] none j = absurd j
joined_before k c n e [] (x ∷ y ∷ ys) none j = absurd j.1
joined_before {T} k c n e [] (x ∷ []) none j =
    let same : n + 0 ≡ n = omega arith in
    let is : x ≡ fresh_hub k c = j.0 ∙ ap (λ i. with_members (fresh_hub k c) i) (ap (λ i. leaves_on i e) (sym same) ∙ none) in
    record { joined = []; members = tt; behind = ap (λ y. y ∷ []) is }
joined_before k c n e (s ∷ ss) [] none j = absurd j
joined_before k c n e (s ∷ ss) (x ∷ xs) none j =
    let more : n + suc (length ss) ≡ n + 1 + length ss = omega arith in
    let rest = joined_before k c (n + 1) e ss xs (ap (λ i. leaves_on i e) (sym more) ∙ none) j.1 in
    record { joined = x ∷ rest.joined; members = (j.0, rest.members); behind = ap (λ l. x ∷ l) rest.behind }

-- ---- a hub with no fault, and its expression

none_behind : {T : Type 0} (k : HubKind) (c n : ℕ) (e : Expr T) → fault_of k c n e ≡ None → leaves_on (0 + n) e ≡ 0
none_behind {T} k c n e h =
    let same : 0 + n ≡ n = omega arith in
    ap (λ i. leaves_on i e) same ∙ none_reads n e (by_numbers (are_numbers k c) h)
  where
    by_numbers : (b : Bool) → (if b then refusal n e else Some Number) ≡ None → first_fault n e ≡ None
    by_numbers true q = (sound n e q).fault
    by_numbers false q = cc

pub places_behind : {T : Type 0} (k : HubKind) (c : ℕ) (e : Expr T) (hubs pushed : List (HubState T)) → fault_of k c (length hubs) e ≡ None → pushed ≡ hubs ++ fresh_hub k c ∷ [] → have_places 0 e hubs ≡ true → have_places 0 e pushed ≡ true
places_behind k c e hubs pushed fine is places = ap (have_places 0 e) is ∙ places_more k c 0 e hubs (none_behind k c (length hubs) e fine) places

pub joined_behind : {T : Type 0} (k : HubKind) (c : ℕ) (e : Expr T) (hubs pushed news : List (HubState T)) → fault_of k c (length hubs) e ≡ None → pushed ≡ hubs ++ fresh_hub k c ∷ [] → HaveJoinedFrom 0 e pushed news → JoinedBefore k c 0 e hubs news
joined_behind {T} k c e hubs pushed news fine is j =
    let P : List (HubState T) → Type 0 = λ l. HaveJoinedFrom 0 e l news in
    joined_before k c 0 e hubs news (none_behind k c (length hubs) e fine) (subst P is j)
