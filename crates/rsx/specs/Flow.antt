-- What a builder has: an expression or a chain, or nothing where a growth was refused.
use Rattle.std.specs.Prelude.{◌≡◌, ⊤, ℕ, ℤ, List, [], ◌∷◌, ◌++◌, Option, Some, None, Result, Ok, Err, option_map, option_and_then, Vec, Box}
use Rattle.std.specs.Global.{Global}
use Rattle.rsx_types.specs.declared.names.HubId.{HubId}
use Rattle.rsx_types.specs.declared.stage.Stage.{Stage}
use Rattle.rsx_types.specs.declared.fault.NoMemory.{NoMemory}
use Rattle.rsx_model.specs.declared.expr.Expr.{Expr}
use Rattle.rsx_model.specs.declared.expr.Expr.TheOpen.{Expr-F, Items, Range, Hub, Plain, Concat, Merge, MergeDelay, Zip, Latest, Group, Window, Flat, FlatDelay, On, OnEager}
use Rattle.rsx_model.specs.declared.expr.Expr.TheViews.{out-Expr}

-- an operator with its numbers and what it stands over, without where that lies in memory
pub data Root (T A : Type 0) : Type 0 where
  items : List T → Root T A
  range : ℤ → ℕ → Root T A
  hub : HubId → Root T A
  plain : Stage T → A → Root T A
  concat : List A → Root T A
  merge : ℕ → List A → Root T A
  merge_delay : ℕ → List A → Root T A
  zip : ℕ → List A → Root T A
  latest : ℕ → List A → Root T A
  group : ℕ → List (Stage T) → A → Root T A
  window : ℕ → List (Stage T) → A → Root T A
  flat : ℕ → ℕ → List (Stage T) → A → Root T A
  flat_delay : ℕ → ℕ → List (Stage T) → A → Root T A
  on : ℕ → ℕ → A → Root T A
  on_eager : ℕ → ℕ → A → Root T A

abbrev pub root_of : {T A : Type 0} → Expr-F T A → Root T A
root_of (Items v) = items v.items
root_of (Range a n) = range a n
root_of (Hub h) = hub h
root_of (Plain g b) = plain g b.value
root_of (Concat v) = concat v.items
root_of (Merge p v) = merge p v.items
root_of (MergeDelay p v) = merge_delay p v.items
root_of (Zip p v) = zip p v.items
root_of (Latest p v) = latest p v.items
root_of (Group f gs b) = group f gs.items b.value
root_of (Window n gs b) = window n gs.items b.value
root_of (Flat f c gs b) = flat f c gs.items b.value
root_of (FlatDelay f c gs b) = flat_delay f c gs.items b.value
root_of (On k p b) = on k p b.value
root_of (OnEager k p b) = on_eager k p b.value

-- the operator at the root of an expression, over the expressions below it
abbrev pub root : {T : Type 0} → Expr T → Root T (Expr T)
root {T} e = root_of (out-Expr T e)

-- an expression with this root; nothing only where a growth was refused
abbrev pub IfMade : {T : Type 0} → Root T (Expr T) → Option (Expr T) → Type 0
IfMade r None = ⊤
IfMade r (Some e) = root e ≡ r

-- The expression with the root that is made of what was there. Where a growth was refused before, nothing; and nothing too
-- where one is refused now.
abbrev pub Makes : {A T : Type 0} → (A → Root T (Expr T)) → Option A → Option (Expr T) → Type 0
Makes makes None made = made ≡ None
Makes makes (Some x) made = IfMade (makes x) made

-- the same of two things that were there
abbrev pub both : {A B : Type 0} → Option A → Option B → Option (A × B)
both (Some x) (Some y) = Some (x, y)
both (Some x) None = None
both None o = None

-- a chain with one operator more; nothing where a growth was refused before, and nothing too where one is refused now
abbrev pub IfChain : {T : Type 0} → List (Stage T) → Option (List (Stage T)) → Type 0
IfChain gs None = ⊤
IfChain gs (Some hs) = hs ≡ gs

abbrev pub Appends : {T : Type 0} → Stage T → Option (List (Stage T)) → Option (List (Stage T)) → Type 0
Appends g None made = made ≡ None
Appends g (Some gs) made = IfChain (gs ++ g ∷ []) made

-- all of these, where none is missing
abbrev pub all_of : {A : Type 0} → List (Option A) → Option (List A)
all_of [] = Some []
all_of (o ∷ os) = option_and_then (λ x. option_map (λ xs. x ∷ xs) (all_of os)) o

-- what was made, unless a growth was refused
abbrev pub made_of : {A : Type 0} → Result A NoMemory → Option A
made_of (Ok x) = Some x
made_of (Err e) = None

-- a chain as it lies in memory
abbrev pub stages_of : {T : Type 0} → Result (Vec (Stage T) Global) NoMemory → Option (List (Stage T))
stages_of r = option_map (λ v. v.items) (made_of r)

-- an expression in a place of its own
abbrev pub boxed_of : {T : Type 0} → Result (Box (Expr T) Global) NoMemory → Option (Expr T)
boxed_of r = option_map (λ b. b.value) (made_of r)

-- what was built, in a place of its own; nothing where a growth was refused before, and nothing too where one is refused now
abbrev pub IsBoxed : {T : Type 0} → Option (Expr T) → Result (Box (Expr T) Global) NoMemory → Type 0
IsBoxed o (Ok b) = o ≡ Some b.value
IsBoxed o (Err e) = ⊤

-- the inputs of an operator as they lie in memory
abbrev pub made_items : {A : Type 0} → Result (Vec A Global) NoMemory → Option (List A)
made_items r = option_map (λ v. v.items) (made_of r)

-- all of these; nothing where one of them is missing, and nothing too where a growth is refused now
abbrev pub Unwraps : {A : Type 0} → List (Option A) → Result (Vec A Global) NoMemory → Type 0
Unwraps os (Ok v) = all_of os ≡ Some v.items
Unwraps os (Err e) = ⊤
