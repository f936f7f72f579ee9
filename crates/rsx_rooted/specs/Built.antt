-- A tree that was made for an expression, of nodes of any kind.
use Rattle.std.specs.Prelude.{◌≡◌, ⊤, ℕ, zero, suc, ◌+◌, Bool, true, false, List, [], ◌∷◌, ◌++◌, map, Option, Some, slice_get}
use Rattle.rsx_hub.specs.Hub.{HubState, HasTakenIn, BeginsWith, join}
use Rattle.rsx_hub.specs.Member.{ending_taken}
use Rattle.rsx_model.specs.Eval.{environment_until_stop, meant}
use Rattle.rsx_model.specs.Shape.{children}
use Rattle.rsx_model.specs.declared.expr.Expr.{Expr}
use Rattle.rsx_model.specs.declared.expr.Expr.TheFolds.{fold-Expr}
use Rattle.rsx_model.specs.declared.expr.Expr.TheOpen.{Expr-F, Items, Range, Hub, Concat, Merge, MergeDelay, Zip, Latest, Group, Window, Flat, FlatDelay, On, OnEager}
use Rattle.rsx_model.specs.declared.expr.Expr.TheOpen as layer
use Rattle.rsx_types.specs.Meaning.{Meaning}
use Rattle.rsx_types.specs.Notes.{note_then}
use Rattle.rsx_types.specs.Stream.{Stream}
use Rattle.rsx_types.specs.declared.note.Note.{Note}
use Rattle.rsx_types.specs.declared.stage.Stage.{Stage}
use Rattle.rsx_types.specs.declared.stage.Stage.TheVariants.{Take}
use Rattle.rsx_tree.specs.declared.edge.EdgeState.TheVariants.{Live}
use Rattle.rsx_tree.specs.declared.inputs.Inputs.{Inputs, End, More'}
use Rattle.rsx_tree.specs.declared.node.Node.{Node}
use Rattle.rsx_tree.specs.Balance.{IsBalanced}
use Rattle.rsx_tree.specs.Edges.{EdgeView, closed_if}
use Rattle.rsx_tree.specs.Reads.{IsTreeReadAt, count_before}
use Rattle.rsx_tree.specs.Tree.{comes_out, notes, edges}
use Rattle.rsx_sources.specs.declared.machine.Machine.{Ghosts as Machine}

-- a node that recorded nothing yet: whatever it records is its note
abbrev pub IsUnrecorded : Note → Type 0
IsUnrecorded n = (k : Note) → note_then n k ≡ k

abbrev pub AllUnrecorded : List Note → Type 0
AllUnrecorded [] = Unit {0}
AllUnrecorded (n ∷ ns) = IsUnrecorded n × AllUnrecorded ns

-- an edge over which nothing was asked and nothing sent
abbrev pub fresh_edge : EdgeView
fresh_edge = record { asked = 0; sent = 0; state = Live }

-- whether a plain operator has put out its ending before it took anything: `take 0`
abbrev pub starts_ended : {T : Type 0} → Stage T → Bool
starts_ended (Take zero) = true
starts_ended g = false

-- whether a node of an expression has put out its ending before it took anything
abbrev pub begins_ended : {T A : Type 0} → Expr-F T A → Bool
begins_ended (Items v) = false
begins_ended (Range a n) = false
begins_ended (Hub h) = false
begins_ended (layer.Plain g b) = starts_ended g
begins_ended (Concat v) = false
begins_ended (Merge p v) = false
begins_ended (MergeDelay p v) = false
begins_ended (Zip p v) = false
begins_ended (Latest p v) = false
begins_ended (Group f gs b) = false
begins_ended (Window n gs b) = false
begins_ended (Flat f c gs b) = false
begins_ended (FlatDelay f c gs b) = false
begins_ended (On k p b) = false
begins_ended (OnEager k p b) = false

-- an edge for each input, with those below it
abbrev pub fresh_beside : List (List EdgeView) → List EdgeView
fresh_beside [] = []
fresh_beside (es ∷ ess) = fresh_edge ∷ (es ++ fresh_beside ess)

-- the edges of a node of an expression, from those of its inputs
abbrev pub fresh_below : {T : Type 0} → Expr-F T (List EdgeView) → List EdgeView
fresh_below e = closed_if (begins_ended e) (fresh_beside (children e))

-- the edges below the root of a tree that has just begun: where a node has put out its ending, all below it are closed
abbrev pub fresh_edges : {T : Type 0} → Expr T → List EdgeView
fresh_edges {T} = fold-Expr T (List EdgeView) fresh_below

-- ---- what its nodes want first

-- how many items are wanted over each edge of a row and below it, where nothing is asked of its receiver and nothing was sent by
-- it: a number for each edge, in pre-order. The row begins with input `i` of the receiver `r`
abbrev pub first_wants : {M T : Type 0} → Machine M T → M → ℕ → Inputs M → List ℕ
first_wants b r i End = []
first_wants b r i (More' e n p below q beside) = b.wanted r i 0 0 ∷ (first_wants b n 0 below ++ first_wants b r (i + 1) beside)

-- how many items a node of an expression is to ask of each input before something is asked of it
abbrev pub prefetch_of : {T A : Type 0} → Expr-F T A → ℕ
prefetch_of (Items v) = 0
prefetch_of (Range a n) = 0
prefetch_of (Hub h) = 0
prefetch_of (layer.Plain g b) = 0
prefetch_of (Concat v) = 0
prefetch_of (Merge p v) = p
prefetch_of (MergeDelay p v) = p
prefetch_of (Zip p v) = p
prefetch_of (Latest p v) = p
prefetch_of (Group f gs b) = 0
prefetch_of (Window n gs b) = 0
prefetch_of (Flat f c gs b) = c
prefetch_of (FlatDelay f c gs b) = c
prefetch_of (On k p b) = p
prefetch_of (OnEager k p b) = p

-- the same number for each input, with those below it
abbrev pub wants_beside : ℕ → List (List ℕ) → List ℕ
wants_beside p [] = []
wants_beside p (ws ∷ wss) = p ∷ (ws ++ wants_beside p wss)

-- how many items are to be asked over each edge of an expression's tree before something is asked of the tree
abbrev pub fresh_wants : {T : Type 0} → Expr T → List ℕ
fresh_wants {T} = fold-Expr T (List ℕ) (λ e. wants_beside (prefetch_of e) (children e))

-- ---- the hubs that its leaves read

-- each of these values begins with what the hub with its number took in; there may be values of more hubs
abbrev pub AreBegun : {T : Type 0} → List (HubState T) → List (Stream T) → Type 0
AreBegun [] ws = ⊤
AreBegun (h ∷ hs) [] = ⊥
AreBegun {T} (h ∷ hs) (w ∷ ws) = ((taken : List T) × HasTakenIn h taken × BeginsWith h taken w) × AreBegun hs ws

-- how many items each hub took in, as long as it has not taken in its ending
abbrev pub counts_of : {T : Type 0} → List (HubState T) → List (Option ℕ)
counts_of hubs = map (λ h. count_before (ending_taken h.has_ended h.ending) h.count) hubs

-- how many items a leaf misses that joins now, for each hub
abbrev pub joins_now : {T : Type 0} → List (HubState T) → List ℕ
joins_now hubs = map (λ h. join h.kind h.count) hubs

-- the number of the hub with this number
abbrev pub join_at : List ℕ → ℕ → ℕ
join_at [] n = 0
join_at (j ∷ js) zero = j
join_at (j ∷ js) (suc n) = join_at js n

-- the join of a node that reads a hub
abbrev pub join_here : {T A : Type 0} → List ℕ → Expr-F T A → List ℕ
join_here js (Items v) = []
join_here js (Range a n) = []
join_here js (Hub h) = join_at js h.0 ∷ []
join_here js (layer.Plain g b) = []
join_here js (Concat v) = []
join_here js (Merge p v) = []
join_here js (MergeDelay p v) = []
join_here js (Zip p v) = []
join_here js (Latest p v) = []
join_here js (Group f gs b) = []
join_here js (Window n gs b) = []
join_here js (Flat f c gs b) = []
join_here js (FlatDelay f c gs b) = []
join_here js (On k p b) = []
join_here js (OnEager k p b) = []

-- lists one behind the other
abbrev pub in_a_row : {A : Type 0} → List (List A) → List A
in_a_row [] = []
in_a_row (l ∷ ls) = l ++ in_a_row ls

-- the joins of an expression's leaves, from left to right
abbrev pub leaf_joins : {T : Type 0} → List ℕ → Expr T → List ℕ
leaf_joins {T} js = fold-Expr T (List ℕ) (λ e. join_here js e ++ in_a_row (children e))

-- where they join these hubs now
abbrev pub new_joins : {T : Type 0} → List (HubState T) → Expr T → List ℕ
new_joins hubs e = leaf_joins (joins_now hubs) e

-- these numbers stand in a list from a place on
abbrev pub StandAt : List ℕ → ℕ → List ℕ → Type 0
StandAt all at [] = ⊤
StandAt all at (n ∷ ns) = (slice_get all at ≡ Some n) × StandAt all (at + 1) ns

-- what comes out of the tree is what the expression means, over all whole values of the hubs that begin with what these took in,
-- where its leaves join them now; nothing is recorded, its edges are as at the start, each of its nodes wants first what the
-- expression's prefetch says, and its counts are balanced
pub record IsBuilt {M T : Type 0} (b : Machine M T) (m : Meaning T) (hubs : List (HubState T)) (e : Expr T) (t : Node M) : Type 0 where
  pub value : (whole : List (Stream T)) (joins : List ℕ) (further : List Note) (at leaf : ℕ) → AreBegun hubs whole → StandAt joins leaf (new_joins hubs e) →
      comes_out b m whole further t at ≡ (meant (environment_until_stop m whole joins further) e).value at leaf
  -- each leaf got all that its hub took in; with no leaf, no node reads a hub
  pub reads : IsTreeReadAt b (counts_of hubs) t
  pub alone : new_joins hubs e ≡ [] → IsTreeReadAt b [] t
  pub notes : AllUnrecorded (notes b t)
  pub edges : edges t ≡ fresh_edges e
  pub wants : first_wants b t.machine 0 t.inputs ≡ fresh_wants e
  pub balance : IsBalanced b t 0
