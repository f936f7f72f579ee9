use Rattle.std.proofs.Common.{rules}
use Rattle.rsx_tree.specs.Edges.{edge_view}
use Rattle.rsx_tree.specs.Stepped.{IsAfterPick, IsPickedHere, IsSteppedAt}
use Rattle.rsx_tree.proofs.Alike.{picked, tree_stepped_alike}
use Rattle.rsx_tree.proofs.Noted.{node, picked_noted, picked_effect, picked_enabled}
use Rattle.rsx_tree.proofs.Steps.{stepped_root, stepped_tree}
use Rattle.rsx_tree.proofs.node.Node.pick.Goals as goal

pub returns-in-Ok-clause-made : goal.returns-in-Ok-clause-made
returns-in-Ok-clause-made g c =
    let made : IsSteppedAt (IsPickedHere g.M.Machine (g.O.Ops.meaning c.args.ops.now) c.args.input) g.M.Machine.ended c.args.self.now (edge_view c.args.root.now) c.args.at (node c.args.self.now.machine c.pick.new.self) = stepped_tree (IsPickedHere g.M.Machine (g.O.Ops.meaning c.args.ops.now) c.args.input) g.M.Machine.ended c.args.self.now.machine c.args.self.now.inputs c.pick.new.self (edge_view c.args.root.now) c.args.at c.if-at-gt0.true c.in-Ok.ensures.made in
    made

pub returns-in-Ok-clause-after : goal.returns-in-Ok-clause-after
returns-in-Ok-clause-after g c =
    let after : IsSteppedAt (IsAfterPick g.M.Machine c.args.input) g.M.Machine.ended c.args.self.now (edge_view c.args.root.now) c.args.at (node c.args.self.now.machine c.pick.new.self) = stepped_tree (IsAfterPick g.M.Machine c.args.input) g.M.Machine.ended c.args.self.now.machine c.args.self.now.inputs c.pick.new.self (edge_view c.args.root.now) c.args.at c.if-at-gt0.true c.in-Ok.ensures.after in
    after

pub returns-in-Ok-clause-enabled : goal.returns-in-Ok-clause-enabled
returns-in-Ok-clause-enabled g c =
    let made : IsSteppedAt (IsPickedHere g.M.Machine (g.O.Ops.meaning c.args.ops.now) c.args.input) g.M.Machine.ended c.args.self.now (edge_view c.args.root.now) c.args.at (node c.args.self.now.machine c.pick.new.self) = stepped_tree (IsPickedHere g.M.Machine (g.O.Ops.meaning c.args.ops.now) c.args.input) g.M.Machine.ended c.args.self.now.machine c.args.self.now.inputs c.pick.new.self (edge_view c.args.root.now) c.args.at c.if-at-gt0.true c.in-Ok.ensures.made in
    picked_enabled g.M.Machine (g.O.Ops.meaning c.args.ops.now) c.args.input c.args.self.now (edge_view c.args.root.now) c.args.at (node c.args.self.now.machine c.pick.new.self) made

pub returns-in-Ok-clause-effect : goal.returns-in-Ok-clause-effect
returns-in-Ok-clause-effect g c =
    let made : IsSteppedAt (IsPickedHere g.M.Machine (g.O.Ops.meaning c.args.ops.now) c.args.input) g.M.Machine.ended c.args.self.now (edge_view c.args.root.now) c.args.at (node c.args.self.now.machine c.pick.new.self) = stepped_tree (IsPickedHere g.M.Machine (g.O.Ops.meaning c.args.ops.now) c.args.input) g.M.Machine.ended c.args.self.now.machine c.args.self.now.inputs c.pick.new.self (edge_view c.args.root.now) c.args.at c.if-at-gt0.true c.in-Ok.ensures.made in
    picked_effect g.M.Machine (g.O.Ops.meaning c.args.ops.now) c.args.input c.args.self.now (edge_view c.args.root.now) c.args.at (node c.args.self.now.machine c.pick.new.self) made

pub returns-in-Ok-clause-chosen : goal.returns-in-Ok-clause-chosen
returns-in-Ok-clause-chosen g c =
    let made : IsSteppedAt (IsPickedHere g.M.Machine (g.O.Ops.meaning c.args.ops.now) c.args.input) g.M.Machine.ended c.args.self.now (edge_view c.args.root.now) c.args.at (node c.args.self.now.machine c.pick.new.self) = stepped_tree (IsPickedHere g.M.Machine (g.O.Ops.meaning c.args.ops.now) c.args.input) g.M.Machine.ended c.args.self.now.machine c.args.self.now.inputs c.pick.new.self (edge_view c.args.root.now) c.args.at c.if-at-gt0.true c.in-Ok.ensures.made in
    (picked_noted g.M.Machine (g.O.Ops.meaning c.args.ops.now) c.args.input c.args.self.now (edge_view c.args.root.now) c.args.at (node c.args.self.now.machine c.pick.new.self) made).chosen

pub returns-in-Ok-clause-balance : goal.returns-in-Ok-clause-balance
returns-in-Ok-clause-balance g c =
    let made : IsSteppedAt (IsPickedHere g.M.Machine (g.O.Ops.meaning c.args.ops.now) c.args.input) g.M.Machine.ended c.args.self.now (edge_view c.args.root.now) c.args.at (node c.args.self.now.machine c.pick.new.self) = stepped_tree (IsPickedHere g.M.Machine (g.O.Ops.meaning c.args.ops.now) c.args.input) g.M.Machine.ended c.args.self.now.machine c.args.self.now.inputs c.pick.new.self (edge_view c.args.root.now) c.args.at c.if-at-gt0.true c.in-Ok.ensures.made in
    (picked_noted g.M.Machine (g.O.Ops.meaning c.args.ops.now) c.args.input c.args.self.now (edge_view c.args.root.now) c.args.at (node c.args.self.now.machine c.pick.new.self) made).balance

pub returns-in-Ok-pick_over-clause-made : goal.returns-in-Ok-pick_over-clause-made
returns-in-Ok-pick_over-clause-made g c =
    let made : IsSteppedAt (IsPickedHere g.M.Machine (g.O.Ops.meaning c.args.ops.now) c.args.input) g.M.Machine.ended c.args.self.now (edge_view c.args.root.now) c.args.at (node c.pick_over.new.node c.pick_over.new.below) = stepped_root (IsPickedHere g.M.Machine (g.O.Ops.meaning c.args.ops.now) c.args.input) g.M.Machine.ended c.args.self.now.machine c.pick_over.new.node c.args.self.now.inputs c.pick_over.new.below c.args.root.now c.args.at c.if-at-gt0.false c.in-Ok-pick_over.ensures.made in
    made

pub returns-in-Ok-pick_over-clause-after : goal.returns-in-Ok-pick_over-clause-after
returns-in-Ok-pick_over-clause-after g c =
    let after : IsSteppedAt (IsAfterPick g.M.Machine c.args.input) g.M.Machine.ended c.args.self.now (edge_view c.args.root.now) c.args.at (node c.pick_over.new.node c.pick_over.new.below) = stepped_root (IsAfterPick g.M.Machine c.args.input) g.M.Machine.ended c.args.self.now.machine c.pick_over.new.node c.args.self.now.inputs c.pick_over.new.below c.args.root.now c.args.at c.if-at-gt0.false c.in-Ok-pick_over.ensures.after in
    after

pub returns-in-Ok-pick_over-clause-enabled : goal.returns-in-Ok-pick_over-clause-enabled
returns-in-Ok-pick_over-clause-enabled g c =
    let made : IsSteppedAt (IsPickedHere g.M.Machine (g.O.Ops.meaning c.args.ops.now) c.args.input) g.M.Machine.ended c.args.self.now (edge_view c.args.root.now) c.args.at (node c.pick_over.new.node c.pick_over.new.below) = stepped_root (IsPickedHere g.M.Machine (g.O.Ops.meaning c.args.ops.now) c.args.input) g.M.Machine.ended c.args.self.now.machine c.pick_over.new.node c.args.self.now.inputs c.pick_over.new.below c.args.root.now c.args.at c.if-at-gt0.false c.in-Ok-pick_over.ensures.made in
    picked_enabled g.M.Machine (g.O.Ops.meaning c.args.ops.now) c.args.input c.args.self.now (edge_view c.args.root.now) c.args.at (node c.pick_over.new.node c.pick_over.new.below) made

pub returns-in-Ok-pick_over-clause-effect : goal.returns-in-Ok-pick_over-clause-effect
returns-in-Ok-pick_over-clause-effect g c =
    let made : IsSteppedAt (IsPickedHere g.M.Machine (g.O.Ops.meaning c.args.ops.now) c.args.input) g.M.Machine.ended c.args.self.now (edge_view c.args.root.now) c.args.at (node c.pick_over.new.node c.pick_over.new.below) = stepped_root (IsPickedHere g.M.Machine (g.O.Ops.meaning c.args.ops.now) c.args.input) g.M.Machine.ended c.args.self.now.machine c.pick_over.new.node c.args.self.now.inputs c.pick_over.new.below c.args.root.now c.args.at c.if-at-gt0.false c.in-Ok-pick_over.ensures.made in
    picked_effect g.M.Machine (g.O.Ops.meaning c.args.ops.now) c.args.input c.args.self.now (edge_view c.args.root.now) c.args.at (node c.pick_over.new.node c.pick_over.new.below) made

pub returns-in-Ok-pick_over-clause-chosen : goal.returns-in-Ok-pick_over-clause-chosen
returns-in-Ok-pick_over-clause-chosen g c =
    let made : IsSteppedAt (IsPickedHere g.M.Machine (g.O.Ops.meaning c.args.ops.now) c.args.input) g.M.Machine.ended c.args.self.now (edge_view c.args.root.now) c.args.at (node c.pick_over.new.node c.pick_over.new.below) = stepped_root (IsPickedHere g.M.Machine (g.O.Ops.meaning c.args.ops.now) c.args.input) g.M.Machine.ended c.args.self.now.machine c.pick_over.new.node c.args.self.now.inputs c.pick_over.new.below c.args.root.now c.args.at c.if-at-gt0.false c.in-Ok-pick_over.ensures.made in
    (picked_noted g.M.Machine (g.O.Ops.meaning c.args.ops.now) c.args.input c.args.self.now (edge_view c.args.root.now) c.args.at (node c.pick_over.new.node c.pick_over.new.below) made).chosen

pub returns-in-Ok-pick_over-clause-balance : goal.returns-in-Ok-pick_over-clause-balance
returns-in-Ok-pick_over-clause-balance g c =
    let made : IsSteppedAt (IsPickedHere g.M.Machine (g.O.Ops.meaning c.args.ops.now) c.args.input) g.M.Machine.ended c.args.self.now (edge_view c.args.root.now) c.args.at (node c.pick_over.new.node c.pick_over.new.below) = stepped_root (IsPickedHere g.M.Machine (g.O.Ops.meaning c.args.ops.now) c.args.input) g.M.Machine.ended c.args.self.now.machine c.pick_over.new.node c.args.self.now.inputs c.pick_over.new.below c.args.root.now c.args.at c.if-at-gt0.false c.in-Ok-pick_over.ensures.made in
    (picked_noted g.M.Machine (g.O.Ops.meaning c.args.ops.now) c.args.input c.args.self.now (edge_view c.args.root.now) c.args.at (node c.pick_over.new.node c.pick_over.new.below) made).balance

pub returns-in-Ok-clause-alike : goal.returns-in-Ok-clause-alike
returns-in-Ok-clause-alike g c =
    let made : IsSteppedAt (IsPickedHere g.M.Machine (g.O.Ops.meaning c.args.ops.now) c.args.input) g.M.Machine.ended c.args.self.now (edge_view c.args.root.now) c.args.at (node c.args.self.now.machine c.pick.new.self) = stepped_tree (IsPickedHere g.M.Machine (g.O.Ops.meaning c.args.ops.now) c.args.input) g.M.Machine.ended c.args.self.now.machine c.args.self.now.inputs c.pick.new.self (edge_view c.args.root.now) c.args.at c.if-at-gt0.true c.in-Ok.ensures.made in
    tree_stepped_alike g.M.Machine (IsPickedHere g.M.Machine (g.O.Ops.meaning c.args.ops.now) c.args.input) (picked g.M.Machine (g.O.Ops.meaning c.args.ops.now) c.args.input) g.M.Machine.ended c.args.self.now (edge_view c.args.root.now) c.args.at (node c.args.self.now.machine c.pick.new.self) made

pub returns-in-Ok-pick_over-clause-alike : goal.returns-in-Ok-pick_over-clause-alike
returns-in-Ok-pick_over-clause-alike g c =
    let made : IsSteppedAt (IsPickedHere g.M.Machine (g.O.Ops.meaning c.args.ops.now) c.args.input) g.M.Machine.ended c.args.self.now (edge_view c.args.root.now) c.args.at (node c.pick_over.new.node c.pick_over.new.below) = stepped_root (IsPickedHere g.M.Machine (g.O.Ops.meaning c.args.ops.now) c.args.input) g.M.Machine.ended c.args.self.now.machine c.pick_over.new.node c.args.self.now.inputs c.pick_over.new.below c.args.root.now c.args.at c.if-at-gt0.false c.in-Ok-pick_over.ensures.made in
    tree_stepped_alike g.M.Machine (IsPickedHere g.M.Machine (g.O.Ops.meaning c.args.ops.now) c.args.input) (picked g.M.Machine (g.O.Ops.meaning c.args.ops.now) c.args.input) g.M.Machine.ended c.args.self.now (edge_view c.args.root.now) c.args.at (node c.pick_over.new.node c.pick_over.new.below) made

pub returns-in-Err-pick_over-clause-err : goal.returns-in-Err-pick_over-clause-err
returns-in-Err-pick_over-clause-err g c = search rules
