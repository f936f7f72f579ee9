-- The size of an expression.
use Rattle.std.specs.Prelude.{ℕ, ◌+◌, max, List, [], ◌∷◌}
use Rattle.rsx_model.specs.declared.expr.Expr.{Expr}
use Rattle.rsx_model.specs.declared.expr.Expr.TheOpen.{Expr-F, Items, Range, Hub, Plain, Concat, Merge, MergeDelay, Zip, Latest, Group, Window, Flat, FlatDelay, On, OnEager}
use Rattle.rsx_model.specs.declared.expr.Expr.TheFolds.{fold-Expr}
use Rattle.rsx_model.specs.declared.expr.Below.{Below}
use Rattle.rsx_model.specs.declared.expr.Below.TheVariants.{One, Inputs}

-- what is known of a node's children, left to right
abbrev pub children : {T A : Type 0} → Expr-F T A → List A
children (Items v) = []
children (Range a n) = []
children (Hub h) = []
children (Plain g b) = b.value ∷ []
children (Concat v) = v.items
children (Merge p v) = v.items
children (MergeDelay p v) = v.items
children (Zip p v) = v.items
children (Latest p v) = v.items
children (Group f gs b) = b.value ∷ []
children (Window n gs b) = b.value ∷ []
children (Flat f c gs b) = b.value ∷ []
children (FlatDelay f c gs b) = b.value ∷ []
children (On k p b) = b.value ∷ []
children (OnEager k p b) = b.value ∷ []

-- the children that an answer of `below_of` names
abbrev pub listed_below : {T : Type 0} → Below T → List (Expr T)
listed_below (One e) = e.now ∷ []
listed_below (Inputs es) = es.now

-- the sum of the numbers
abbrev pub sum_of : List ℕ → ℕ
sum_of [] = 0
sum_of (n ∷ ns) = n + sum_of ns

-- the largest of the numbers, or 0
abbrev pub max_of : List ℕ → ℕ
max_of [] = 0
max_of (n ∷ ns) = max n (max_of ns)

-- how many nodes
abbrev pub nodes : {T : Type 0} → Expr T → ℕ
nodes {T} = fold-Expr T ℕ (λ e. 1 + sum_of (children e))

-- how many nodes on the longest way down
abbrev pub depth : {T : Type 0} → Expr T → ℕ
depth {T} = fold-Expr T ℕ (λ e. 1 + max_of (children e))

-- 1 if the node is a hub leaf
abbrev pub leaf_here : {T A : Type 0} → Expr-F T A → ℕ
leaf_here (Items v) = 0
leaf_here (Range a n) = 0
leaf_here (Hub h) = 1
leaf_here (Plain g b) = 0
leaf_here (Concat v) = 0
leaf_here (Merge p v) = 0
leaf_here (MergeDelay p v) = 0
leaf_here (Zip p v) = 0
leaf_here (Latest p v) = 0
leaf_here (Group f gs b) = 0
leaf_here (Window n gs b) = 0
leaf_here (Flat f c gs b) = 0
leaf_here (FlatDelay f c gs b) = 0
leaf_here (On k p b) = 0
leaf_here (OnEager k p b) = 0

-- how many hub leaves
abbrev pub leaves : {T : Type 0} → Expr T → ℕ
leaves {T} = fold-Expr T ℕ (λ e. leaf_here e + sum_of (children e))
