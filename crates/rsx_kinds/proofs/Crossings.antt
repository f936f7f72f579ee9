-- An empty queue behind the root of a tree changes nothing of what the tree gives.
use Rattle.std.proofs.Common.{◌≡◌, inl, inr, ℕ, ◌+◌, Bool, List, [], ◌∷◌, ◌++◌, refl, ap, sym, ◌∙◌, subst, Option, Some, None, option_map, slice_get, Result, Ok, Err}
use Rattle.std.specs.Prelude.{IfOk}
use Rattle.rsx_sources.specs.Prelude.{Meaning, Stream, NoMemory, Note}
use Rattle.rsx_sources.specs.declared.machine.Machine.{Ghosts as Machine}
use Rattle.rsx_queued.specs.Held.{held_then}
use Rattle.rsx_queued.specs.declared.queued.Queued.{Queued}
use Rattle.rsx_kinds.specs.Prelude.{AnyNode, Crossing, Direct, End, Expr, HubState, Inputs, IsBuilt, IsCrossed, IsQueuedRoot, More', Node, TreeNode, any_machine, first_wants}
use Rattle.rsx_queued.specs.declared.tail.Tail.TheVariants.{Open}
use Rattle.rsx_tree.specs.Prelude.{IsRowBalanced, comes_in, out_of}
use Rattle.rsx_kinds.proofs.Builds.{node_of}

-- a node with an empty queue
abbrev with_queue : {T : Type 0} → AnyNode T → Queued (AnyNode T) T
with_queue n = record { node = n; queue = []; tail = Open }

-- ---- a row over which nothing went

-- a receiver that wants the same of each input
same_wants : {M T : Type 0} (b : Machine M T) (x y : M) → ((i : ℕ) → b.wanted x i 0 0 ≡ b.wanted y i 0 0) → (i : ℕ) (t : Inputs M) → first_wants b x i t ≡ first_wants b y i t
same_wants b x y same i End = refl
same_wants b x y same i (More' e n p below q beside) =
    ap (λ k. k ∷ (first_wants b n 0 below ++ first_wants b x (i + 1) beside)) (same i) ∙ ap (λ l. b.wanted y i 0 0 ∷ (first_wants b n 0 below ++ l)) (same_wants b x y same (i + 1) beside)

-- a receiver that took the completion of no other input
same_balance : {M T : Type 0} (b : Machine M T) (x y : M) → ((i : ℕ) → b.done x i ≡ b.done y i) → (i : ℕ) (t : Inputs M) → IsRowBalanced b x i t → IsRowBalanced b y i t
same_balance b x y same i End h = tt
same_balance b x y same i (More' e n p below q beside) h = (elim h.0 [ inl d ↦ inl (sym (same i) ∙ d) | inr o ↦ inr o ], same_balance b x y same (i + 1) beside h.1)

-- ---- a tree

nothing_held : {T : Type 0} (o : Option (Stream T)) → option_map (held_then [] Open) o ≡ o
nothing_held None = refl
nothing_held (Some v) = refl

same_out : {T : Type 0} (m : Meaning T) (hubs : List (Stream T)) (n : AnyNode T) (o : Option (List (Stream T))) (k : Option Note) → out_of any_machine m hubs (Crossing (with_queue n)) o k ≡ out_of any_machine m hubs (Direct n) o k
same_out m hubs n o None = refl
same_out m hubs n None (Some k) = refl
same_out m hubs n (Some vs) (Some k) = nothing_held (out_of any_machine m hubs (Direct n) (Some vs) (Some k))

queued_built : {T : Type 0} (m : Meaning T) (hubs : List (HubState T)) (e : Expr T) (n : AnyNode T) (row : Inputs (TreeNode T)) → IsBuilt m hubs e (node_of (Direct n) row) → IsBuilt m hubs e (node_of (Crossing (with_queue n)) row)
queued_built {T} m hubs e n row w = record {
  value = λ whole joins further at leaf begun stand. same_out m whole n (comes_in any_machine m whole further row (at + 1)) (slice_get further at) ∙ w.value whole joins further at leaf begun stand;
  reads = w.reads;
  alone = w.alone;
  notes = w.notes;
  edges = w.edges;
  wants = same_wants any_machine (Crossing (with_queue n)) (Direct n) (λ i. refl) 0 row ∙ w.wants;
  balance = elim w.balance [
    | inl over ↦ inl over
    | inr k ↦ inr (k.0, (refl, k.1), same_balance any_machine (Direct n) (Crossing (with_queue n)) (λ i. refl) 0 row k.2)
  ];
}

queued_root : {T : Type 0} (m : Meaning T) (hubs : List (HubState T)) (e : Expr T) (old new : Node (TreeNode T)) → IsQueuedRoot old new → IsBuilt m hubs e old → IsBuilt m hubs e new
queued_root {T} m hubs e old new k w =
    let queue_is : k.queued ≡ with_queue k.node = λ i. record { node = k.inside i; queue = k.empty i; tail = k.still i } in
    let new_is : new ≡ node_of (Crossing (with_queue k.node)) old.inputs = λ i. record { machine = (k.machine ∙ ap Crossing queue_is) i; inputs = k.inputs i } in
    let old_is : old ≡ node_of (Direct k.node) old.inputs = λ i. record { machine = k.was i; inputs = old.inputs } in
    let B : Node (TreeNode T) → Type 0 = λ t. IsBuilt m hubs e t in
    subst B (sym new_is) (queued_built m hubs e k.node old.inputs (subst B old_is w))

-- what was built stays so, whether its edge crosses or not
pub crossed_built : {T : Type 0} (m : Meaning T) (hubs : List (HubState T)) (e : Expr T) (made : Result (Node (TreeNode T)) NoMemory) (crosses : Bool) (t : Node (TreeNode T)) → IfOk made (λ x. IsBuilt m hubs e x) → IsCrossed made crosses t → IsBuilt m hubs e t
crossed_built {T} m hubs e made crosses t w c = elim c.either [ inl same ↦ subst B (sym same) there | inr k ↦ queued_root m hubs e c.tree t k there ]
  where
    B : Node (TreeNode T) → Type 0
    B x = IsBuilt m hubs e x

    there : B c.tree
    there = subst (λ r. IfOk r B) c.is w

pub crossed_if : {T : Type 0} (m : Meaning T) (hubs : List (HubState T)) (e : Expr T) (made : Result (Node (TreeNode T)) NoMemory) (crosses : Bool) (r : Result (Node (TreeNode T)) NoMemory) → IfOk made (λ x. IsBuilt m hubs e x) → IfOk r (λ t. IsCrossed made crosses t) → IfOk r (λ t. IsBuilt m hubs e t)
crossed_if m hubs e made crosses (Ok t) w c = crossed_built m hubs e made crosses t w c
crossed_if m hubs e made crosses (Err x) w c = tt
