-- How far a loop over the inputs of a node got that finds their values.
use Rattle.std.proofs.Common.{◌≡◌, ◌∙◌, ℕ, ◌+◌, ◌<◌, ◌≤◌, List, [], ◌∷◌, ◌++◌, length, get_or, map, drop, Result, Err, Option, Some, None, option_map, option_and_then, refl, sym, ap, subst, append-nil, arith}
use Rattle.std.proofs.lemmas.List.{drop_all}
use Rattle.rsx_types.specs.Stream.{Stream}
use Rattle.rsx_model.specs.declared.expr.Expr.{Expr}
use Rattle.rsx_model.specs.declared.check.TheConstants.{MOST_NODES}
use Rattle.rsx_model.specs.declared.evaluate.Trouble.{Trouble}
use Rattle.rsx_model.specs.declared.evaluate.Trouble.TheVariants.{BadNotes, OutOfMemory}
use Rattle.rsx_model.specs.Answer.{Gives, GivesAll}
use Rattle.std.specs.Prelude.{Vec}
use Rattle.std.specs.Global.{Global}
use Rattle.rsx_types.proofs.Options.{nothing_in_front, one_in_front}
use Rattle.rsx_types.proofs.Lists.{drop_read}
use Rattle.rsx_model.specs.declared.expr.Expr.TheViews.{out-Expr}
use Rattle.rsx_model.specs.Shape.{children, leaf_here, sum_of, nodes, leaves}
use Rattle.rsx_model.specs.Check.{first_of, first_fault}
use Rattle.rsx_model.specs.Eval.{Environment, in_order, meant}
use Rattle.rsx_model.proofs.Unfold.{fault_children, nodes_out, leaves_out, meant_nodes, meant_leaves, or_none, or_else-nothing}
use Rattle.rsx_model.proofs.Inputs.{sum_front}

-- the values of so many inputs are there, and the next input has these numbers
pub record IsSoFar {T : Type 0} (w : Environment T) (es : List (Expr T)) (at leaf : ℕ) (i : ℕ) (vs : List (Stream T)) (next next_leaf : ℕ) : Type 0 where
  pub value : in_order (map (meant w) es) at leaf ≡ option_map (λ ss. vs ++ ss) (in_order (map (meant w) (drop i es)) next next_leaf)
  pub sound : first_of (map (first_fault (length w.hubs)) (drop i es)) ≡ None
  pub nodes_left : next + sum_of (map nodes (drop i es)) ≡ at + sum_of (map nodes es)
  pub few : sum_of (map nodes (drop i es)) ≤ sum_of (map nodes es)
  pub leaves_left : next_leaf + sum_of (map leaves (drop i es)) ≡ leaf + sum_of (map leaves es)

pub so_far_none : {T : Type 0} (w : Environment T) (es : List (Expr T)) (at leaf : ℕ) → first_of (map (first_fault (length w.hubs)) es) ≡ None → IsSoFar w es at leaf 0 [] at leaf
so_far_none w es at leaf sound = record {
  value = sym (nothing_in_front (in_order (map (meant w) es) at leaf));
  sound = sound;
  nodes_left = refl;
  few = omega arith;
  leaves_left = refl;
}

-- the input that the loop comes to
pub record IsNext {T : Type 0} (w : Environment T) (es : List (Expr T)) (i : ℕ) (e : Expr T) (at leaf : ℕ) : Type 0 where
  pub sound : first_fault (length w.hubs) e ≡ None
  pub few : nodes e ≤ sum_of (map nodes (drop i es))
  pub few_leaves : leaves e ≤ sum_of (map leaves (drop i es))

pub next_input : {T : Type 0} (w : Environment T) (es : List (Expr T)) (at leaf i : ℕ) (vs : List (Stream T)) (next next_leaf : ℕ) (e : Expr T) → IsSoFar w es at leaf i vs next next_leaf → i < length es → e ≡ get_or es i e → IsNext w es i e next next_leaf
next_input w es at leaf i vs next next_leaf e s within is =
    let cons = drop_read es i e within is in
    let both = or_none (first_fault (length w.hubs) e) (first_of (map (first_fault (length w.hubs)) (drop (i + 1) es))) (sym (ap (λ ys. first_of (map (first_fault (length w.hubs)) ys)) cons) ∙ s.sound) in
    record {
      sound = both.0;
      few = omega (arith, sum_front nodes es i e cons);
      few_leaves = omega (arith, sum_front leaves es i e cons);
    }

abbrev first_then : {T : Type 0} → Environment T → List (Expr T) → Expr T → ℕ → ℕ → Option (Stream T) → Option (List (Stream T))
first_then w es e next next_leaf o =
    option_and_then (λ s. option_map (λ ss. s ∷ ss) (in_order (map (meant w) es) (next + (meant w e).nodes) (next_leaf + (meant w e).leaves))) o

pub so_far_more : {T : Type 0} (w : Environment T) (es : List (Expr T)) (at leaf i : ℕ) (vs : List (Stream T)) (next next_leaf : ℕ) (e : Expr T) (v : Stream T) → IsSoFar w es at leaf i vs next next_leaf → i < length es → e ≡ get_or es i e
    → (meant w e).value next next_leaf ≡ Some v → IsSoFar w es at leaf (i + 1) (vs ++ v ∷ []) (next + nodes e) (next_leaf + leaves e)
so_far_more {T} w es at leaf i vs next next_leaf e v s within is gives =
    let cons = drop_read es i e within is in
    let both = or_none (first_fault (length w.hubs) e) (first_of (map (first_fault (length w.hubs)) (drop (i + 1) es))) (sym (ap (λ ys. first_of (map (first_fault (length w.hubs)) ys)) cons) ∙ s.sound) in
    let rest = drop (i + 1) es in
    record {
      value =
          s.value
          ∙ ap (λ ys. option_map (λ ss. vs ++ ss) (in_order (map (meant w) ys) next next_leaf)) cons
          ∙ ap (λ o. option_map (λ ss. vs ++ ss) (first_then w rest e next next_leaf o)) gives
          ∙ sym (one_in_front vs v (in_order (map (meant w) rest) (next + (meant w e).nodes) (next_leaf + (meant w e).leaves)))
          ∙ ap (λ n. option_map (λ ss. (vs ++ v ∷ []) ++ ss) (in_order (map (meant w) rest) (next + n) (next_leaf + (meant w e).leaves))) (meant_nodes w e)
          ∙ ap (λ n. option_map (λ ss. (vs ++ v ∷ []) ++ ss) (in_order (map (meant w) rest) (next + nodes e) (next_leaf + n))) (meant_leaves w e);
      sound = both.1;
      nodes_left = omega (arith, s.nodes_left, sum_front nodes es i e cons);
      few = omega (arith, s.few, sum_front nodes es i e cons);
      leaves_left = omega (arith, s.leaves_left, sum_front leaves es i e cons);
    }

pub so_far_stops : {T : Type 0} (w : Environment T) (es : List (Expr T)) (at leaf i : ℕ) (vs : List (Stream T)) (next next_leaf : ℕ) (e : Expr T) → IsSoFar w es at leaf i vs next next_leaf → i < length es → e ≡ get_or es i e
    → (meant w e).value next next_leaf ≡ None → in_order (map (meant w) es) at leaf ≡ None
so_far_stops {T} w es at leaf i vs next next_leaf e s within is none =
    let cons = drop_read es i e within is in
    s.value
    ∙ ap (λ ys. option_map (λ ss. vs ++ ss) (in_order (map (meant w) ys) next next_leaf)) cons
    ∙ ap (λ o. option_map (λ ss. vs ++ ss) (first_then w (drop (i + 1) es) e next next_leaf o)) none

pub so_far_all : {T : Type 0} (w : Environment T) (es : List (Expr T)) (at leaf i : ℕ) (vs : List (Stream T)) (next next_leaf : ℕ) → IsSoFar w es at leaf i vs next next_leaf → length es ≤ i → in_order (map (meant w) es) at leaf ≡ Some vs
so_far_all w es at leaf i vs next next_leaf s past =
    let none = drop_all i es past in
    s.value ∙ ap (λ ys. option_map (λ ss. vs ++ ss) (in_order (map (meant w) ys) next next_leaf)) none ∙ ap Some (append-nil vs)

-- what is wrong with one input is wrong with all
pub stopped : {T : Type 0} (trouble : Trouble) (o : Option (Stream T)) (os : Option (List (Stream T))) → Gives (Err trouble) o → (o ≡ None → os ≡ None) → GivesAll (Err trouble) os
stopped BadNotes o os h none = none h
stopped OutOfMemory o os h none = tt

-- ---- what a node of several inputs hands its inputs

-- the inputs aren't refused, and there are notes and joins for them
pub record AreReady {T : Type 0} (hubs notes joins : ℕ) (es : List (Expr T)) (at leaf : ℕ) : Type 0 where
  pub sound : first_of (map (first_fault hubs) es) ≡ None
  pub small : sum_of (map nodes es) ≤ MOST_NODES
  pub noted : at + sum_of (map nodes es) ≤ notes
  pub joined : leaf + sum_of (map leaves es) ≤ joins

pub ready : {T : Type 0} (hubs notes joins : ℕ) (e : Expr T) (es : List (Expr T)) (at leaf : ℕ) → children (out-Expr T e) ≡ es → first_fault hubs e ≡ None → nodes e ≤ MOST_NODES → at + nodes e ≤ notes → leaf + leaves e ≤ joins → AreReady hubs notes joins es (at + 1) leaf
ready {T} hubs notes joins e es at leaf kids fine small noted joined =
    let many : nodes e ≡ 1 + sum_of (map nodes es) = nodes_out e ∙ ap (λ ys. 1 + sum_of (map nodes ys)) kids in
    let some : leaves e ≡ leaf_here (out-Expr T e) + sum_of (map leaves es) = leaves_out e ∙ ap (λ ys. leaf_here (out-Expr T e) + sum_of (map leaves ys)) kids in
    record {
      sound = sym (ap (λ ys. first_of (map (first_fault hubs) ys)) kids) ∙ fault_children hubs e fine;
      small = omega arith;
      noted = omega arith;
      joined = omega arith;
    }

-- the only input isn't refused, and there are notes and joins for it
pub record IsReady {T : Type 0} (hubs notes joins : ℕ) (x : Expr T) (at leaf : ℕ) : Type 0 where
  pub sound : first_fault hubs x ≡ None
  pub small : nodes x ≤ MOST_NODES
  pub noted : at + nodes x ≤ notes
  pub joined : leaf + leaves x ≤ joins

pub ready_one : {T : Type 0} (hubs notes joins : ℕ) (e x : Expr T) (at leaf : ℕ) → children (out-Expr T e) ≡ x ∷ [] → first_fault hubs e ≡ None → nodes e ≤ MOST_NODES → at + nodes e ≤ notes → leaf + leaves e ≤ joins → IsReady hubs notes joins x (at + 1) leaf
ready_one hubs notes joins e x at leaf kids fine small noted joined =
    let all = ready hubs notes joins e (x ∷ []) at leaf kids fine small noted joined in
    record {
      sound = sym (or_else-nothing (first_fault hubs x)) ∙ all.sound;
      small = omega (arith, all.small);
      noted = omega (arith, all.noted);
      joined = omega (arith, all.joined);
    }

-- the values of the children, where these are the children
pub below_gives : {T : Type 0} (w : Environment T) (e : Expr T) (es : List (Expr T)) (at leaf : ℕ) (r : Result (Vec (Stream T) Global) Trouble) → es ≡ children (out-Expr T e) → GivesAll r (in_order (map (meant w) es) at leaf) → GivesAll r (in_order (map (meant w) (children (out-Expr T e))) at leaf)
below_gives w e es at leaf r kids h = subst (λ ys. GivesAll r (in_order (map (meant w) ys) at leaf)) kids h
