-- A signal that goes over the root edge into the hands of the caller, and may be put back.
use Rattle.std.proofs.Common.{◌≡◌, ℕ, ◌≤◌, true, if◌then◌else◌, Some, None, option_map, ap, sym, ◌∙◌, subst}
use Rattle.std.proofs.Math.Bridge.{le_prop}
use Rattle.rsx_sources.specs.Prelude.{Meaning, Signal, front_of}
use Rattle.rsx_sources.specs.declared.machine.Front.{Front}
use Rattle.rsx_sources.specs.declared.machine.Machine.{Ghosts as Machine}
use Rattle.rsx_tree.specs.Prelude.{EdgeView, can_pass, edge_view, passed, popped}
use Rattle.rsx_tree.specs.declared.edge.EdgeState.TheVariants.{Live}
use Rattle.rsx_rooted.specs.Feeding.{IsSentOut, carried}
use Rattle.rsx_rooted.specs.Tree.{IsLetGo, can_go, offers}
use Rattle.rsx_rooted.specs.declared.rooted.Rooted.{Rooted}
use Rattle.rsx_demand.specs.declared.Demand.{Demand}
use Rattle.rsx_demand.specs.declared.TheConstants.{UNBOUNDED}
use Rattle.rsx_tree.specs.declared.edge.Edge.{Edge}
use Rattle.rsx_tree.specs.declared.node.Node.{Node}
use Rattle.rsx_tree.proofs.Shut.{pass_live}
use Rattle.rsx_rooted.proofs.Parts.{made_sent}

-- ---- it went out

pub sent_out : {M T : Type 0} (b : Machine M T) (m : Meaning T) (old new : Rooted M) (s : Signal T) → IsLetGo b m old.tree s new.tree → can_pass (edge_view old.root) (front_of s) ≡ true → edge_view new.root ≡ passed (edge_view old.root) (front_of s) → IsSentOut b m old s new
sent_out b m old new s gone can carry = record {
  next = ap (carried (edge_view old.root)) gone.offered ∙ ap (λ c. if c then Some s else None) can;
  enabled = ap (λ o. can_go (edge_view old.root) (option_map front_of o)) gone.offered ∙ can;
  made = made_sent b m old new s gone can carry;
  popped = gone.popped;
  can = can;
  root = carry;
}

-- the same, where the root showed such a signal
pub shown_out : {M T : Type 0} (b : Machine M T) (m : Meaning T) (old new : Rooted M) (s : Signal T) (f : Front) → Some f ≡ option_map front_of (offers b m old.tree) → can_pass (edge_view old.root) f ≡ true → IsLetGo b m old.tree s new.tree → edge_view new.root ≡ passed (edge_view old.root) f → IsSentOut b m old s new
shown_out b m old new s f is can gone carry =
    let named : f ≡ front_of s = let o = gone.offered in let q : Some f ≡ Some (front_of s) = is ∙ ap (option_map front_of) o in cc in
    sent_out b m old new s gone (ap (can_pass (edge_view old.root)) (sym named) ∙ can) (carry ∙ ap (passed (edge_view old.root)) named)

-- ---- it was put back

-- that a demand is covered and bounded are facts: how they are known makes no difference
pub same_demand : (a b : Demand) → b.asked ≡ a.asked → b.sent ≡ a.sent → b ≡ a
same_demand a b x y =
    let P : ℕ → Type 0 = λ n. (s : ℕ) (c : s ≤ n) (l : n ≤ UNBOUNDED) → s ≡ a.sent → demand n s c l ≡ a in
    let Q : ℕ → Type 0 = λ s. (c : s ≤ a.asked) (l : a.asked ≤ UNBOUNDED) → demand a.asked s c l ≡ a in
    subst P (sym x) (λ s c l e. subst Q (sym e) known c l) b.sent b.covered b.bounded y
  where
    demand : (n s : ℕ) → s ≤ n → n ≤ UNBOUNDED → Demand
    demand n s c l = record { asked = n; sent = s; covered = c; bounded = l }

    known : (c : a.sent ≤ a.asked) (l : a.asked ≤ UNBOUNDED) → record { asked = a.asked; sent = a.sent; covered = c; bounded = l } ≡ a
    known c l = ap (λ x. record { asked = a.asked; sent = a.sent; covered = x; bounded = l }) (le_prop c a.covered) ∙ ap (λ x. record { asked = a.asked; sent = a.sent; covered = a.covered; bounded = x }) (le_prop l a.bounded)

same_edge : (a b : Edge) → edge_view b ≡ edge_view a → b ≡ a
same_edge a b e =
    ap (λ d. record { demand = d; state = b.state }) (same_demand a.demand b.demand (ap (λ v. v.asked) e) (ap (λ v. v.sent) e))
    ∙ ap (λ s. record { demand = a.demand; state = s }) (ap (λ v. v.state) e)

pub was_before : {M T : Type 0} (b : Machine M T) (m : Meaning T) (before old : Rooted M) (s : Signal T) (tree : Node M) (root : Edge) → IsSentOut b m before s old → ((t : Node M) → popped b t s old.tree → tree ≡ t) →
    ((e : EdgeView) → edge_view old.root ≡ passed e (front_of s) → e.state ≡ Live → edge_view root ≡ e) → record { tree = tree; root = root } ≡ before
was_before b m before old s tree root k trees edge =
    let there : tree ≡ before.tree = trees before.tree k.popped in
    let here : root ≡ before.root = same_edge before.root root (edge (edge_view before.root) k.root (pass_live (edge_view before.root) (front_of s) k.can)) in
    ap (λ t. record { tree = t; root = root }) there ∙ ap (λ e. record { tree = before.tree; root = e }) here
