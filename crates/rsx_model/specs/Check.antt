-- Which expressions are refused, and why.
use Rattle.std.specs.Prelude.{ℕ, ℤ, pos, ◌+ℤ◌, ◌^◌, Bool, true, false, ◌&&◌, ◌||◌, int_le, nat_eq, nat_le, nat_lt, List, [], ◌∷◌, length, Option, Some, None}
use Rattle.rsx_values.specs.Prelude.{Stage, Take, Buffer, MOST_ITEMS}
use Rattle.rsx_model.specs.declared.expr.Expr.{Expr}
use Rattle.rsx_model.specs.declared.expr.Expr.TheOpen.{Expr-F, Items, Range, Hub, Plain, Concat, Merge, MergeDelay, Zip, Latest, Group, Window, Flat, FlatDelay, On, OnEager}
use Rattle.rsx_model.specs.declared.expr.Expr.TheFolds.{fold-Expr}
use Rattle.rsx_model.specs.declared.check.BadExpr.{BadExpr}
use Rattle.rsx_model.specs.declared.check.TheConstants.{MOST_DEPTH, MOST_NODES, MOST_COUNT, MOST_INPUTS, MOST_PREFETCH, MOST_STAGES, MOST_WINDOW, MOST_CONCURRENCY, MOST_WORKER}
use Rattle.rsx_model.specs.declared.check.BadExpr.TheVariants.{Depth, Nodes, Inputs, Number, Chain, Hub as NoSuchHub, Length}
use Rattle.rsx_model.specs.Shape.{children, nodes, depth}

-- the number of a kind of refusal
abbrev pub kind_number : BadExpr → ℕ
kind_number Depth = 1
kind_number Nodes = 2
kind_number Inputs = 3
kind_number Number = 4
kind_number Chain = 5
kind_number NoSuchHub = 6
kind_number Length = 7

-- the first refusal of two
abbrev pub or_else : Option BadExpr → Option BadExpr → Option BadExpr
or_else (Some k) other = Some k
or_else None other = other

-- the first refusal of a list
abbrev pub first_of : List (Option BadExpr) → Option BadExpr
first_of [] = None
first_of (o ∷ os) = or_else o (first_of os)

-- refused by k, unless ok
abbrev pub unless : Bool → BadExpr → Option BadExpr
unless true k = None
unless false k = Some k

-- at most 1,000,000 numbers, and the last is at most 2^63-1
abbrev pub range_fits : ℤ → ℕ → Bool
range_fits a n = nat_le n MOST_COUNT && (nat_eq n 0 || int_le (a +ℤ pos n) (pos (2 ^ 63)))

-- a `take` of at most 1,000,000 items, and a `buffer` of lists of 1 to 1,024 items; no other operator has a limit
abbrev pub stage_fits : {T : Type 0} → Stage T → Bool
stage_fits (Take n) = nat_le n MOST_COUNT
stage_fits (Buffer n) = nat_le 1 n && nat_le n MOST_ITEMS
stage_fits g = true

-- each operator within its limit
abbrev pub stages_fit : {T : Type 0} → List (Stage T) → Bool
stages_fit [] = true
stages_fit (g ∷ gs) = stage_fits g && stages_fit gs

-- a chain of at most 8 operators, each within its limit
abbrev pub chain_fits : {T : Type 0} → List (Stage T) → Bool
chain_fits gs = nat_le (length gs) MOST_STAGES && stages_fit gs

-- windows of 1 to 1,024 items
abbrev pub window_fits : ℕ → Bool
window_fits n = nat_le 1 n && nat_le n MOST_WINDOW

-- a concurrency of 1 to 64
abbrev pub concurrency_fits : ℕ → Bool
concurrency_fits c = nat_le 1 c && nat_le c MOST_CONCURRENCY

-- 1 to 16 inputs
abbrev pub inputs_fit : ℕ → Bool
inputs_fit n = nat_le 1 n && nat_le n MOST_INPUTS

-- a prefetch of 1 to 1,024 items
abbrev pub prefetch_fits : ℕ → Bool
prefetch_fits p = nat_le 1 p && nat_le p MOST_PREFETCH

-- a worker of 0 to 15, and a prefetch of 1 to 1,024 items
abbrev pub worker_fits : ℕ → ℕ → Bool
worker_fits k p = nat_le k MOST_WORKER && prefetch_fits p

-- what is wrong with a node of so many inputs and this prefetch
abbrev pub queued_fault : ℕ → ℕ → Option BadExpr
queued_fault p n = or_else (unless (inputs_fit n) Inputs) (unless (prefetch_fits p) Number)

-- what is wrong with a chain of these operators
abbrev pub chain_fault : {T : Type 0} → List (Stage T) → Option BadExpr
chain_fault gs = unless (chain_fits gs) Chain

-- what is wrong with a node of windows of this size, each through a chain of these operators
abbrev pub window_fault : {T : Type 0} → ℕ → List (Stage T) → Option BadExpr
window_fault n gs = or_else (unless (window_fits n) Number) (chain_fault gs)

-- what is wrong with a node of this concurrency, whose lanes go each through a chain of these operators
abbrev pub flat_fault : {T : Type 0} → ℕ → List (Stage T) → Option BadExpr
flat_fault c gs = or_else (unless (concurrency_fits c) Number) (chain_fault gs)

-- what is wrong with one node where there are so many hubs, leaving out its children
abbrev pub own_fault : {T A : Type 0} → ℕ → Expr-F T A → Option BadExpr
own_fault hubs (Items v) = unless (nat_le (length v.items) MOST_ITEMS) Length
own_fault hubs (Range a n) = unless (range_fits a n) Number
own_fault hubs (Hub h) = unless (nat_lt h.0 hubs) NoSuchHub
own_fault hubs (Plain g b) = unless (stage_fits g) Number
own_fault hubs (Concat v) = unless (inputs_fit (length v.items)) Inputs
own_fault hubs (Merge p v) = queued_fault p (length v.items)
own_fault hubs (MergeDelay p v) = queued_fault p (length v.items)
own_fault hubs (Zip p v) = queued_fault p (length v.items)
own_fault hubs (Latest p v) = queued_fault p (length v.items)
own_fault hubs (Group f gs b) = chain_fault gs.items
own_fault hubs (Window n gs b) = window_fault n gs.items
own_fault hubs (Flat f c gs b) = flat_fault c gs.items
own_fault hubs (FlatDelay f c gs b) = flat_fault c gs.items
own_fault hubs (On k p b) = unless (worker_fits k p) Number
own_fault hubs (OnEager k p b) = unless (worker_fits k p) Number

-- what is wrong with the first faulty node in pre-order
abbrev pub first_fault : {T : Type 0} → ℕ → Expr T → Option BadExpr
first_fault {T} hubs = fold-Expr T (Option BadExpr) (λ e. or_else (own_fault hubs e) (first_of (children e)))

-- why an expression is refused where there are so many hubs, if it is
abbrev pub refusal : {T : Type 0} → ℕ → Expr T → Option BadExpr
refusal hubs e =
    or_else (unless (nat_le (depth e) MOST_DEPTH) Depth) (or_else (unless (nat_le (nodes e) MOST_NODES) Nodes) (first_fault hubs e))
