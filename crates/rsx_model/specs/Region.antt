-- The region of an expression.
use Rattle.std.specs.Prelude.{ℕ, List, [], ◌∷◌, Option, Some, None}
use Rattle.rsx_model.specs.Shape.{children}
use Rattle.rsx_model.specs.declared.expr.Expr.{Expr}
use Rattle.rsx_model.specs.declared.expr.Expr.TheOpen.{Expr-F, Items, Range, Hub, Plain, Concat, Merge, MergeDelay, Zip, Latest, Group, Window, Flat, FlatDelay, On, OnEager}
use Rattle.rsx_model.specs.declared.expr.Expr.TheFolds.{fold-Expr}

-- the worker that a node names
abbrev pub worker_here : {T A : Type 0} → Expr-F T A → Option ℕ
worker_here (Items v) = None
worker_here (Range a n) = None
worker_here (Hub h) = None
worker_here (Plain g b) = None
worker_here (Concat v) = None
worker_here (Merge p v) = None
worker_here (MergeDelay p v) = None
worker_here (Zip p v) = None
worker_here (Latest p v) = None
worker_here (Group f gs b) = None
worker_here (Window n gs b) = None
worker_here (Flat f c gs b) = None
worker_here (FlatDelay f c gs b) = None
worker_here (On k p b) = Some k
worker_here (OnEager k p b) = Some k

-- a node's region, from those of its children: that of the worker that it names, else that of the first child, and 0 for a leaf
abbrev pub region_from : Option ℕ → List ℕ → ℕ
region_from (Some k) rs = k
region_from None [] = 0
region_from None (r ∷ rs) = r

-- the region of an expression's root
abbrev pub region_of : {T : Type 0} → Expr T → ℕ
region_of {T} = fold-Expr T ℕ (λ e. region_from (worker_here e) (children e))
