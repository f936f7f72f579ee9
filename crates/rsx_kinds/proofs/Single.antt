-- The tree of a fresh node with one input over that of its input.
use Rattle.std.proofs.Common.{◌≡◌, inl, inr, ℕ, Bool, true, false, ◌+◌, List, [], ◌∷◌, ◌++◌, refl, ap, sym, ◌∙◌, subst, Option, Some, None, option_and_then, slice_get, Result, Ok, Err}
use Rattle.std.specs.Prelude.{IfOk}
use Rattle.std.proofs.lemmas.List.{append-nil}
use Rattle.rsx_sources.specs.Prelude.{Meaning, Stream, NoMemory, Note, Nothing, Picks, Ended, Incoming, incoming_of, Reading}
use Rattle.rsx_kinds.specs.Prelude.{AllUnrecorded, AnyNode, Direct, Edge, End, Expr, HubState, Inputs, IsBuilt, IsOverOne, IsUnrecorded, Live, More', Node, StandAt, TreeNode, any_machine, counts_of, environment_until_stop, first_wants, fresh_edge, fresh_edges, fresh_wants, kind_machine, meant, new_joins}
use Rattle.rsx_tree.specs.Prelude.{IsBalanced, Hold, closed_if, out_of, beside_of, closed_row_if, notes_of, edges as edges_in, IsReadAt, comes_out, notes, IsJoined}
use Rattle.rsx_tree.proofs.Effects.{edges_closed_if}
use Rattle.rsx_tree.proofs.Readings.{closed_if_reads}
use Rattle.rsx_tree.proofs.Rows.{comes_in_closed_if, notes_closed_if, then_same}
use Rattle.rsx_kinds.proofs.Builds.{fresh_edge_is, node_of}
use Rattle.rsx_kinds.proofs.Wants.{first_wants_closed_if}

-- the node is fresh and gives this under what it records, and the expression is made so of that of its input; it may have put out
-- its ending already
pub record StandsFor {T : Type 0} (m : Meaning T) (hubs : List (HubState T)) (gives : Note → Stream T → Option (Stream T)) (p : ℕ) (over : Bool) (n : AnyNode T) (input e : Expr T) : Type 0 where
  pub fresh : (inc : Incoming T) (k : Note) → kind_machine.comes_out m n inc k ≡ gives k inc.first
  pub unread : kind_machine.reads n ≡ None
  pub unrecorded : IsUnrecorded (kind_machine.recorded n)
  pub ended : kind_machine.ended n ≡ over
  pub counted : over ≡ false → kind_machine.counted n (0 ∷ []) 0
  pub wanted : kind_machine.wanted n 0 0 0 ≡ p
  pub value : (whole : List (Stream T)) (joins : List ℕ) (further : List Note) (at leaf : ℕ) →
      (meant (environment_until_stop m whole joins further) e).value at leaf ≡ option_and_then (λ k. option_and_then (gives k) ((meant (environment_until_stop m whole joins further) input).value (at + 1) leaf)) (slice_get further at)
  pub joins : new_joins hubs e ≡ new_joins hubs input
  pub edges : fresh_edges e ≡ closed_if over (fresh_edge ∷ fresh_edges input)
  pub wants : fresh_wants e ≡ p ∷ fresh_wants input

-- what comes out of it, where this comes in
out_single : {T : Type 0} (m : Meaning T) (hubs : List (Stream T)) (n : AnyNode T) (gives : Note → Stream T → Option (Stream T)) → ((inc : Incoming T) (k : Note) → kind_machine.comes_out m n inc k ≡ gives k inc.first) →
    (o : Option (Stream T)) (note : Option Note) → out_of any_machine m hubs (Direct n) (beside_of o (Some [])) note ≡ option_and_then (λ k. option_and_then (gives k) o) note
out_single m hubs n gives fresh None note = then_same _ _ (λ k. refl) note
out_single m hubs n gives fresh (Some v) note = then_same _ _ (λ k. fresh (incoming_of hubs (v ∷ [])) k) note

unread_at : (counts : List (Option ℕ)) (o : Option Reading) → o ≡ None → IsReadAt counts o
unread_at counts None e = tt
unread_at counts (Some r) e = cc

-- its counts are balanced over the edge of its input
balanced_over : {T : Type 0} (n : AnyNode T) (below : Node (TreeNode T)) (e : Edge) (p q : Hold) (over : Bool) → kind_machine.ended n ≡ over → (over ≡ false → kind_machine.counted n (0 ∷ []) 0) → e.demand.sent ≡ 0 → e.state ≡ Live → IsBalanced any_machine below 0 →
    IsBalanced any_machine (node_of (Direct n) (closed_row_if over (More' e below.machine p below.inputs q End))) 0
balanced_over n below e p q true ended counted sent live w = inl ended
balanced_over {T} n below e p q false ended counted sent live w =
    let B : ℕ → Type 0 = λ k. kind_machine.counted n (k ∷ []) 0 in
    let W : ℕ → Type 0 = λ k. IsBalanced any_machine below k in
    inr (ended, subst B (sym sent) (counted refl), (inr (live, subst W (sym sent) w), tt))

pub built_single : {T : Type 0} (m : Meaning T) (hubs : List (HubState T)) (gives : Note → Stream T → Option (Stream T)) (p : ℕ) (over : Bool) (n : AnyNode T) (input e : Expr T) (below t : Node (TreeNode T)) (row : Inputs (TreeNode T)) →
    StandsFor m hubs gives p over n input e → IsBuilt m hubs input below → IsJoined below End row → t.machine ≡ Direct n → t.inputs ≡ closed_row_if over row → IsBuilt m hubs e t
built_single {T} m hubs gives p over n input e below t row s w j n_is r_is =
    let whole : Inputs (TreeNode T) = More' j.e below.machine j.p below.inputs j.q End in
    let tree_is : t.inputs ≡ closed_row_if over whole = r_is ∙ ap (closed_row_if over) j.row_is in
    let TN : Node (TreeNode T) → Type 0 = λ x. IsBuilt m hubs e x in
    let BN : TreeNode T → Type 0 = λ x. TN (node_of x t.inputs) in
    let BR : Inputs (TreeNode T) → Type 0 = λ r. TN (node_of (Direct n) r) in
    let notes_are : notes_of any_machine (closed_row_if over whole) ≡ notes any_machine below = notes_closed_if any_machine over whole ∙ ap (λ l. any_machine.recorded below.machine ∷ l) (append-nil (notes_of any_machine below.inputs)) in
    let edges_are : edges_in whole ≡ fresh_edge ∷ fresh_edges input = ap (λ v. v ∷ (edges_in below.inputs ++ [])) (fresh_edge_is j.e j.asked j.sent j.live) ∙ ap (λ l. fresh_edge ∷ l) (append-nil (edges_in below.inputs) ∙ w.edges) in
    let N : List Note → Type 0 = λ ns. AllUnrecorded (kind_machine.recorded n ∷ ns) in
    subst BN (sym n_is) (subst BR (sym tree_is) (record {
      value = λ more joins further at leaf begun stand.
          let S : List ℕ → Type 0 = λ l. StandAt joins leaf l in
          ap (λ o. out_of any_machine m more (Direct n) o (slice_get further at)) (comes_in_closed_if any_machine m more further over whole (at + 1))
          ∙ (out_single m more n gives s.fresh (comes_out any_machine m more further below (at + 1)) (slice_get further at)
          ∙ (ap (λ o. option_and_then (λ k. option_and_then (gives k) o) (slice_get further at)) (w.value more joins further (at + 1) leaf begun (subst S s.joins stand))
          ∙ sym (s.value more joins further at leaf)));
      reads = (unread_at (counts_of hubs) (kind_machine.reads n) s.unread, closed_if_reads any_machine (counts_of hubs) over whole (inr w.reads, tt));
      alone = λ bare. (unread_at [] (kind_machine.reads n) s.unread, closed_if_reads any_machine [] over whole (inr (w.alone (sym s.joins ∙ bare)), tt));
      notes = subst N (sym notes_are) (s.unrecorded, w.notes);
      edges = edges_closed_if over whole ∙ (ap (closed_if over) edges_are ∙ sym s.edges);
      wants =
          first_wants_closed_if any_machine over (Direct n) 0 whole
          ∙ (ap (λ c. c ∷ (first_wants any_machine below.machine 0 below.inputs ++ [])) s.wanted
          ∙ (ap (λ l. p ∷ l) (append-nil (first_wants any_machine below.machine 0 below.inputs) ∙ w.wants) ∙ sym s.wants));
      balance = balanced_over n below j.e j.p j.q over s.ended s.counted j.sent j.live w.balance;
    }))

-- the same of a tree that was made unless memory ran out, over the node that was made
pub single_if : {T : Type 0} (m : Meaning T) (hubs : List (HubState T)) (gives : Note → Stream T → Option (Stream T)) (p : ℕ) (input e : Expr T) (below : Node (TreeNode T)) (P : AnyNode T → Type 0) (made : Result (AnyNode T) NoMemory) (r : Result (Node (TreeNode T)) NoMemory) →
    ((n : AnyNode T) → P n → StandsFor m hubs gives p false n input e) → IsBuilt m hubs input below → IfOk made P → IfOk r (λ t. IsOverOne made below t) → IfOk r (λ t. IsBuilt m hubs e t)
single_if m hubs gives p input e below P made (Err x) stands w fresh o = tt
single_if {T} m hubs gives p input e below P made (Ok t) stands w fresh o =
    let F : Result (AnyNode T) NoMemory → Type 0 = λ x. IfOk x P in
    built_single m hubs gives p false o.node input e below t o.row (stands o.node (subst F o.is fresh)) w o.joined o.machine o.inputs

-- ---- a node that picks

-- it has chosen nothing yet
pub no_picks : IsUnrecorded (Picks [])
no_picks Nothing = refl
no_picks (Picks cs) = refl
no_picks (Ended o) = refl
