-- A row of trees that was built, one in front of the others.
use Rattle.std.proofs.Common.{◌≡◌, inr, ℕ, suc, ◌+◌, ◌*◌, ◌<◌, List, [], ◌∷◌, ◌++◌, length, map, refl, ap, sym, ◌∙◌, subst, arith, Option, Some, None, option_map, option_and_then}
use Rattle.rsx_types.proofs.Lists.{nil_before, nil_behind}
use Rattle.rsx_sources.specs.Prelude.{Meaning, Stream, Note}
use Rattle.rsx_kinds.specs.Prelude.{AllUnrecorded, AreBuilt, Expr, HubState, Inputs, IsBuilt, More', Node, StandAt, TreeNode, any_machine, environment_until_stop, first_fault, first_of, first_wants, fresh_edge, fresh_edges, fresh_wants, in_order, joins_now, leaves, meant, new_joins, new_joins_of, nodes, sum_of}
use Rattle.rsx_model.proofs.Unfold.{meant_leaves, meant_nodes, nodes_out, or_none}
use Rattle.rsx_tree.specs.Prelude.{IsBalanced, sent_over, beside_of, comes_in, notes_of, size, edges as edges_in, IsJoined}
use Rattle.rsx_tree.proofs.Effects.{length_edges}
use Rattle.rsx_rooted.proofs.Rows.{length_fresh, length_joins}
use Rattle.rsx_kinds.proofs.Builds.{fresh_edge_is}

-- ---- numbers that stand one behind the other

stand_first : (all : List ℕ) (at : ℕ) (xs ys : List ℕ) → StandAt all at (xs ++ ys) → StandAt all at xs
stand_first all at [] ys h = tt
stand_first all at (x ∷ xs) ys h = (h.0, stand_first all (at + 1) xs ys h.1)

stand_behind : (all : List ℕ) (at : ℕ) (xs ys : List ℕ) → StandAt all at (xs ++ ys) → StandAt all (at + length xs) ys
stand_behind all at [] ys h = let P : ℕ → Type 0 = λ k. StandAt all k ys in let e : at ≡ at + 0 = omega arith in subst P e h
stand_behind all at (x ∷ xs) ys h =
    let P : ℕ → Type 0 = λ k. StandAt all k ys in
    let e : at + 1 + length xs ≡ at + length (x ∷ xs) = omega arith in
    subst P e (stand_behind all (at + 1) xs ys h.1)

unrecorded_both : (ns ks : List Note) → AllUnrecorded ns → AllUnrecorded ks → AllUnrecorded (ns ++ ks)
unrecorded_both [] ks h g = g
unrecorded_both (n ∷ ns) ks h g = (h.0, unrecorded_both ns ks h.1 g)

-- ---- one more input in front

in_front_of : {T : Type 0} (o : Option (Stream T)) (p : Option (List (Stream T))) → beside_of o p ≡ option_and_then (λ s. option_map (λ ss. s ∷ ss) p) o
in_front_of None p = refl
in_front_of (Some s) p = refl

behind_none : (i : ℕ) → i ≡ i + 0
behind_none i = omega arith

one_more : (i k : ℕ) → i + 1 + k ≡ i + (k + 1)
one_more i k = omega arith

pub built_more : {T : Type 0} (m : Meaning T) (hubs : List (HubState T)) (all : List (Expr T)) (x : Expr T) (xs : List (Expr T)) (below : Node (TreeNode T)) (beside row : Inputs (TreeNode T)) →
    all ≡ x ∷ xs → IsBuilt m hubs x below → AreBuilt m hubs xs beside → IsJoined below beside row → AreBuilt m hubs all row
built_more {T} m hubs all x xs below beside row all_is first rest j =
    let A : List (Expr T) → Type 0 = λ l. AreBuilt m hubs l row in
    let R : Inputs (TreeNode T) → Type 0 = λ r. AreBuilt m hubs (x ∷ xs) r in
    let whole_row : Inputs (TreeNode T) = More' j.e below.machine j.p below.inputs j.q beside in
    let joins_first = new_joins hubs x in
    let joins_behind = new_joins_of hubs xs in
    let leaves_are : length joins_first ≡ leaves x = length_joins (joins_now hubs) x in
    let size_is : suc (size below.inputs) ≡ nodes x = ap suc (sym (length_edges below.inputs) ∙ ap length first.edges) ∙ length_fresh x in
    subst A (sym all_is) (subst R (sym j.row_is) (record {
      values = λ more joins further at leaf begun stand.
          let w = environment_until_stop m more joins further in
          let n_is : at + (meant w x).nodes ≡ at + 1 + size below.inputs = let k = meant_nodes w x in omega arith in
          let l_is : leaf + (meant w x).leaves ≡ leaf + length joins_first = let k = meant_leaves w x in omega arith in
          let here = first.value more joins further at leaf begun (stand_first joins leaf joins_first joins_behind stand) in
          let others = rest.values more joins further (at + 1 + size below.inputs) (leaf + length joins_first) begun (stand_behind joins leaf joins_first joins_behind stand) in
          ap (λ o. beside_of o (comes_in any_machine m more further beside (at + 1 + size below.inputs))) here
          ∙ (ap (beside_of ((meant w x).value at leaf)) (others ∙ (ap (λ k. in_order (map (meant w) xs) k (leaf + length joins_first)) (sym n_is) ∙ ap (in_order (map (meant w) xs) (at + (meant w x).nodes)) (sym l_is)))
          ∙ in_front_of ((meant w x).value at leaf) (in_order (map (meant w) xs) (at + (meant w x).nodes) (leaf + (meant w x).leaves)));
      reads = (inr first.reads, rest.reads);
      alone = λ bare. (inr (first.alone (nil_before joins_first joins_behind bare)), rest.alone (nil_behind joins_first joins_behind bare));
      notes = (first.notes.0, unrecorded_both (notes_of any_machine below.inputs) (notes_of any_machine beside) first.notes.1 rest.notes);
      edges =
          ap (λ v. v ∷ (edges_in below.inputs ++ edges_in beside)) (fresh_edge_is j.e j.asked j.sent j.live)
          ∙ (ap (λ l. fresh_edge ∷ (l ++ edges_in beside)) first.edges ∙ ap (λ l. fresh_edge ∷ (fresh_edges x ++ l)) rest.edges);
      wants = λ n i p each.
          let here : any_machine.wanted n i 0 0 ≡ p = ap (λ k. any_machine.wanted n k 0 0) (behind_none i) ∙ each 0 (omega arith) in
          let others = rest.wants n (i + 1) p (λ k lt. ap (λ at. any_machine.wanted n at 0 0) (one_more i k) ∙ each (k + 1) (omega arith)) in
          ap (λ k. k ∷ (first_wants any_machine below.machine 0 below.inputs ++ first_wants any_machine n (i + 1) beside)) here
          ∙ (ap (λ l. p ∷ (l ++ first_wants any_machine n (i + 1) beside)) first.wants ∙ ap (λ l. p ∷ (fresh_wants x ++ l)) others);
      sent = ap (λ k. k ∷ sent_over beside) j.sent ∙ ap (λ l. 0 ∷ l) rest.sent;
      balance = λ n i.
          let W : ℕ → Type 0 = λ k. IsBalanced any_machine below k in
          (inr (j.live, subst W (sym j.sent) first.balance), rest.balance n (i + 1));
    }))

-- nothing is wrong with an input or with those beside it, and each of the two has fewer nodes than all inputs together
pub record IsSplit {T : Type 0} (hubs : ℕ) (all : List (Expr T)) (x : Expr T) (xs : List (Expr T)) : Type 0 where
  pub here : first_fault hubs x ≡ None
  pub behind : first_of (map (first_fault hubs) xs) ≡ None
  pub smaller : 3 * nodes x < 3 * sum_of (map nodes all) + 1
  pub fewer : 3 * sum_of (map nodes xs) + 1 < 3 * sum_of (map nodes all) + 1

pub split : {T : Type 0} (hubs : ℕ) (all : List (Expr T)) (x : Expr T) (xs : List (Expr T)) → all ≡ x ∷ xs → first_of (map (first_fault hubs) all) ≡ None → IsSplit hubs all x xs
split hubs all x xs is h =
    let both = or_none (first_fault hubs x) (first_of (map (first_fault hubs) xs)) (ap (λ l. first_of (map (first_fault hubs) l)) (sym is) ∙ h) in
    let sum = ap (λ l. sum_of (map nodes l)) is in
    let some = nodes_out x in
    record { here = both.0; behind = both.1; smaller = omega arith; fewer = omega arith }
