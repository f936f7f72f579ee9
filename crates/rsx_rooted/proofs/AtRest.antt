-- A node that rests: no move over its edge is enabled, nor a step of it.
use Rattle.std.proofs.Common.{◌≡◌, ℕ, Bool, false, ◌&&◌, Option, None, Some, refl, sym, ap, ◌∙◌}
use Rattle.std.specs.Prelude.{option_map}
use Rattle.std.proofs.Math.Bool.{and-false}
use Rattle.std.proofs.lemmas.Bool.{and_left}
use Rattle.rsx_types.specs.Meaning.{Meaning}
use Rattle.rsx_sources.specs.Machine.{front_of}
use Rattle.rsx_sources.specs.declared.machine.Machine.{Ghosts as Machine}
use Rattle.rsx_sources.specs.declared.machine.Front.{Front}
use Rattle.rsx_tree.specs.Driven.{IsRestOver}
use Rattle.rsx_tree.specs.Edges.{EdgeView, can_ask_for, edge_view}
use Rattle.rsx_tree.specs.Inputs.{can_go as can_go_to}
use Rattle.rsx_tree.specs.Stepped.{IsStill, over}
use Rattle.rsx_tree.specs.declared.edge.Edge.{Edge}
use Rattle.rsx_rooted.specs.Tree.{can_go}

-- what can't go over an edge goes to no receiver
pub no_receiver : (takes : Front → Bool) (e : EdgeView) (o : Option Front) → can_go e o ≡ false → can_go_to takes e o ≡ false
no_receiver takes e None h = refl
no_receiver takes e (Some f) h = ap (λ x. takes f && x) h ∙ and-false (takes f)

pub rest_over : {M T : Type 0} (b : Machine M T) (m : Meaning T) (r : M) (i asked sent want : ℕ) (e : Edge) (n : M) → want ≡ b.wanted r i asked sent → can_ask_for (edge_view e) want ≡ false →
    can_go (edge_view e) (option_map front_of (b.waiting m n)) ≡ false → IsStill b (Some (over e n)) → IsRestOver b m r i asked sent e n
rest_over b m r i asked sent want e n is ask stays still = record {
  ask = and_left (can_ask_for (edge_view e) (b.wanted r i asked sent)) (b.accepts n e.demand.asked e.demand.sent) (ap (can_ask_for (edge_view e)) (sym is) ∙ ask);
  send = no_receiver (b.takes r i) (edge_view e) (option_map front_of (b.waiting m n)) stays;
  still = still;
}
