-- Trees from the parts that were made.
use Rattle.std.proofs.Common.{◌≡◌, ◌∙◌, ◌≤◌, ◌∷◌, false, List, length, Result, Ok, Err, IfOk, sym, ap}
use Rattle.std.proofs.lemmas.Result.{IfOk-at_ok}
use Rattle.rsx_kinds.specs.Prelude.{AnyNode, AreBuilt, Direct, End, Expr, HubState, Inputs, IsBuilt, IsBuiltOver, IsInFront, IsOver, IsPlain, IsPlainOver, IsSeveral, Node, SeveralKind, TreeNode, starts_ended}
use Rattle.rsx_plain.specs.Moves.{has_ending}
use Rattle.rsx_sources.specs.Prelude.{Meaning, NoMemory, Stage}
use Rattle.rsx_tree.specs.Prelude.{closed_row_if, IsJoined}
use Rattle.rsx_kinds.proofs.Plains.{starts_is}
use Rattle.rsx_kinds.proofs.Rows.{built_more}
use Rattle.rsx_kinds.proofs.Several.{built_over}

pub plain_over : {T : Type 0} (g : Stage T) (below : Node (TreeNode T)) (row : Inputs (TreeNode T)) (r : Result (AnyNode T) NoMemory) (t : Result (Node (TreeNode T)) NoMemory) →
    IsJoined below End row → IfOk r (λ n. IsPlain g n) → IfOk t (λ x. IsOver r row (starts_ended g) x) → IfOk t (λ x. IsPlainOver g below x)
plain_over {T} g below row r (Ok x) joined fresh o =
    let n = IfOk-at_ok (λ n. IsPlain g n) o.is fresh in
    record {
      node = n.node;
      row = row;
      fresh = n.fresh;
      state = n.state;
      slot = n.slot;
      joined = joined;
      machine = o.machine ∙ ap Direct n.is;
      inputs = o.inputs ∙ (ap (λ c. closed_row_if c row) (sym (starts_is g)) ∙ ap (λ s. closed_row_if (has_ending s) row) (sym n.slot));
    }
plain_over g below row r (Err e) joined fresh o = tt

pub several_over : {T : Type 0} (m : Meaning T) (hubs : List (HubState T)) (kind : SeveralKind) (es : List (Expr T)) (row : Inputs (TreeNode T)) (r : Result (AnyNode T) NoMemory) (t : Result (Node (TreeNode T)) NoMemory) →
    1 ≤ length es → AreBuilt m hubs es row → IfOk r (λ n. IsSeveral kind (length es) n) → IfOk t (λ x. IsOver r row false x) → IfOk t (λ x. IsBuiltOver m hubs kind es x)
several_over {T} m hubs kind es row r (Ok x) some w fresh o =
    let n = IfOk-at_ok (λ n. IsSeveral kind (length es) n) o.is fresh in
    built_over m hubs kind es row n.node x some w n.fresh n.recorded (n.ended some) (n.counted some) n.wanted (o.machine ∙ ap Direct n.is) o.inputs
several_over m hubs kind es row r (Err e) some w fresh o = tt

pub in_front_built : {T : Type 0} (m : Meaning T) (hubs : List (HubState T)) (all : List (Expr T)) (x : Expr T) (xs : List (Expr T)) (r : Result (Node (TreeNode T)) NoMemory) (beside : Inputs (TreeNode T)) (t : Result (Inputs (TreeNode T)) NoMemory) →
    all ≡ x ∷ xs → IfOk r (λ b. IsBuilt m hubs x b) → AreBuilt m hubs xs beside → IfOk t (λ row. IsInFront r beside row) → IfOk t (λ row. AreBuilt m hubs all row)
in_front_built m hubs all x xs r beside (Ok row) all_is first rest o =
    built_more m hubs all x xs o.tree beside row all_is (IfOk-at_ok (λ b. IsBuilt m hubs x b) o.is first) rest o.joined
in_front_built m hubs all x xs r beside (Err e) all_is first rest o = tt

pub joined_in_front : {M : Type 0} (below : Result (Node M) NoMemory) (tree : Node M) (beside : Inputs M) (t : Result (Inputs M) NoMemory) →
    below ≡ Ok tree → IfOk t (λ row. IsJoined tree beside row) → IfOk t (λ row. IsInFront below beside row)
joined_in_front below tree beside (Ok row) is h = record { tree = tree; is = is; joined = h }
joined_in_front below tree beside (Err e) is h = tt
