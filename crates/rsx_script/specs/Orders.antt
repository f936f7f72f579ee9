-- What a line asks for, without where it lies in memory.
use Rattle.std.specs.Prelude.{ℕ, ℤ, List, [], ◌∷◌}
use Rattle.rsx_values.specs.Prelude.{HubKind, Stage}
use Rattle.rsx_demo.specs.declared.val.Val.{Val}
use Rattle.rsx_model.specs.declared.expr.Expr.{Expr}
use Rattle.rsx_model.specs.declared.expr.Expr.TheOpen.{Expr-F, Items, Range, Hub, Plain, Concat, Merge, MergeDelay, Zip, Latest, Group, Window, Flat, FlatDelay, On, OnEager}
use Rattle.rsx_model.specs.declared.expr.Expr.TheFolds.{fold-Expr}
use Rattle.rsx_script.specs.declared.command.Command.{Command}
use Rattle.rsx_script.specs.declared.command.Command.TheVariants as asks

-- an expression, and several one behind the other
mutual
  pub data Tree : Type 0 where
    items : List Val → Tree
    range : ℤ → ℕ → Tree
    hub : ℕ → Tree
    plain : Stage Val → Tree → Tree
    concat : Trees → Tree
    merge : ℕ → Trees → Tree
    merge_delay : ℕ → Trees → Tree
    zip : ℕ → Trees → Tree
    latest : ℕ → Trees → Tree
    group : ℕ → List (Stage Val) → Tree → Tree
    window : ℕ → List (Stage Val) → Tree → Tree
    flat : ℕ → ℕ → List (Stage Val) → Tree → Tree
    flat_delay : ℕ → ℕ → List (Stage Val) → Tree → Tree
    on : ℕ → ℕ → Tree → Tree
    on_eager : ℕ → ℕ → Tree → Tree

  pub data Trees : Type 0 where
    none : Trees
    first : Tree → Trees → Trees

abbrev pub trees_of : List Tree → Trees
trees_of [] = none
trees_of (t ∷ ts) = first t (trees_of ts)

-- a node, whose inputs are these
abbrev pub node_of : Expr-F Val Tree → Tree
node_of (Items v) = items v.items
node_of (Range a n) = range a n
node_of (Hub h) = hub h.0
node_of (Plain g b) = plain g b.value
node_of (Concat v) = concat (trees_of v.items)
node_of (Merge p v) = merge p (trees_of v.items)
node_of (MergeDelay p v) = merge_delay p (trees_of v.items)
node_of (Zip p v) = zip p (trees_of v.items)
node_of (Latest p v) = latest p (trees_of v.items)
node_of (Group f gs b) = group f gs.items b.value
node_of (Window n gs b) = window n gs.items b.value
node_of (Flat f c gs b) = flat f c gs.items b.value
node_of (FlatDelay f c gs b) = flat_delay f c gs.items b.value
node_of (On k p b) = on k p b.value
node_of (OnEager k p b) = on_eager k p b.value

abbrev pub tree_of : Expr Val → Tree
tree_of = fold-Expr Val Tree node_of

-- a command
pub data Order : Type 0 where
  make_hub : HubKind → ℕ → Order
  feed_hub : HubKind → ℕ → Tree → Order
  emit : ℕ → ℤ → Order
  complete : ℕ → Order
  fail : ℕ → ℕ → Order
  subscribe : Tree → Order
  request : ℕ → ℤ → Order
  cancel : ℕ → Order
  pump : ℕ → Order
  pick : ℕ → ℕ → ℕ → Order
  show : ℕ → Order
  asked : ℕ → Order
  count : ℕ → Order
  joins : ℕ → Order
  choices : ℕ → Order
  check : ℕ → Order
  why : ℕ → Order
  why_feed : ℕ → Order
  draw : ℕ → Order

abbrev pub order_of : Command → Order
order_of (asks.Hub kind capacity) = make_hub kind capacity
order_of (asks.Feed kind capacity expr) = feed_hub kind capacity (tree_of expr)
order_of (asks.Emit h value) = emit h.0 value
order_of (asks.Complete h) = complete h.0
order_of (asks.Fail h number) = fail h.0 number
order_of (asks.Subscribe expr) = subscribe (tree_of expr)
order_of (asks.Request s n) = request s.0 n
order_of (asks.Cancel s) = cancel s.0
order_of (asks.Pump budget) = pump budget
order_of (asks.Pick s node input) = pick s.0 node.0 input
order_of (asks.Show s) = show s.0
order_of (asks.Asked s) = asked s.0
order_of (asks.Count s) = count s.0
order_of (asks.Joins s) = joins s.0
order_of (asks.Choices s) = choices s.0
order_of (asks.Check s) = check s.0
order_of (asks.Why s) = why s.0
order_of (asks.WhyFeed h) = why_feed h.0
order_of (asks.Draw s) = draw s.0
