use Rattle.std.proofs.Common.{rules}
use Rattle.rsx_tree.specs.Edges.{edge_view}
use Rattle.rsx_tree.specs.Stepped.{IsRowMadeHere, IsSteppedAt}
use Rattle.rsx_tree.proofs.Alike.{row_made, tree_stepped_alike}
use Rattle.rsx_tree.proofs.Noted.{node, row_noted, row_effect, row_enabled}
use Rattle.rsx_tree.proofs.Steps.{stepped_root, stepped_tree}
use Rattle.rsx_tree.proofs.node.Node.make_row.Goals as goal

pub returns-in-Ok-clause-made : goal.returns-in-Ok-clause-made
returns-in-Ok-clause-made g c =
    let made : IsSteppedAt (IsRowMadeHere g.M.Machine (g.O.Ops.meaning c.args.ops.now)) g.M.Machine.ended c.args.self.now (edge_view c.args.root.now) c.args.at (node c.args.self.now.machine c.make_row.new.self) = stepped_tree (IsRowMadeHere g.M.Machine (g.O.Ops.meaning c.args.ops.now)) g.M.Machine.ended c.args.self.now.machine c.args.self.now.inputs c.make_row.new.self (edge_view c.args.root.now) c.args.at c.if-at-gt0.true c.in-Ok.ensures.made in
    made

pub returns-in-Ok-clause-enabled : goal.returns-in-Ok-clause-enabled
returns-in-Ok-clause-enabled g c =
    let made : IsSteppedAt (IsRowMadeHere g.M.Machine (g.O.Ops.meaning c.args.ops.now)) g.M.Machine.ended c.args.self.now (edge_view c.args.root.now) c.args.at (node c.args.self.now.machine c.make_row.new.self) = stepped_tree (IsRowMadeHere g.M.Machine (g.O.Ops.meaning c.args.ops.now)) g.M.Machine.ended c.args.self.now.machine c.args.self.now.inputs c.make_row.new.self (edge_view c.args.root.now) c.args.at c.if-at-gt0.true c.in-Ok.ensures.made in
    row_enabled g.M.Machine (g.O.Ops.meaning c.args.ops.now) c.args.self.now (edge_view c.args.root.now) c.args.at (node c.args.self.now.machine c.make_row.new.self) made

pub returns-in-Ok-clause-effect : goal.returns-in-Ok-clause-effect
returns-in-Ok-clause-effect g c =
    let made : IsSteppedAt (IsRowMadeHere g.M.Machine (g.O.Ops.meaning c.args.ops.now)) g.M.Machine.ended c.args.self.now (edge_view c.args.root.now) c.args.at (node c.args.self.now.machine c.make_row.new.self) = stepped_tree (IsRowMadeHere g.M.Machine (g.O.Ops.meaning c.args.ops.now)) g.M.Machine.ended c.args.self.now.machine c.args.self.now.inputs c.make_row.new.self (edge_view c.args.root.now) c.args.at c.if-at-gt0.true c.in-Ok.ensures.made in
    row_effect g.M.Machine (g.O.Ops.meaning c.args.ops.now) c.args.self.now (edge_view c.args.root.now) c.args.at (node c.args.self.now.machine c.make_row.new.self) made

pub returns-in-Ok-clause-chosen : goal.returns-in-Ok-clause-chosen
returns-in-Ok-clause-chosen g c =
    let made : IsSteppedAt (IsRowMadeHere g.M.Machine (g.O.Ops.meaning c.args.ops.now)) g.M.Machine.ended c.args.self.now (edge_view c.args.root.now) c.args.at (node c.args.self.now.machine c.make_row.new.self) = stepped_tree (IsRowMadeHere g.M.Machine (g.O.Ops.meaning c.args.ops.now)) g.M.Machine.ended c.args.self.now.machine c.args.self.now.inputs c.make_row.new.self (edge_view c.args.root.now) c.args.at c.if-at-gt0.true c.in-Ok.ensures.made in
    (row_noted g.M.Machine (g.O.Ops.meaning c.args.ops.now) c.args.self.now (edge_view c.args.root.now) c.args.at (node c.args.self.now.machine c.make_row.new.self) made).chosen

pub returns-in-Ok-clause-balance : goal.returns-in-Ok-clause-balance
returns-in-Ok-clause-balance g c =
    let made : IsSteppedAt (IsRowMadeHere g.M.Machine (g.O.Ops.meaning c.args.ops.now)) g.M.Machine.ended c.args.self.now (edge_view c.args.root.now) c.args.at (node c.args.self.now.machine c.make_row.new.self) = stepped_tree (IsRowMadeHere g.M.Machine (g.O.Ops.meaning c.args.ops.now)) g.M.Machine.ended c.args.self.now.machine c.args.self.now.inputs c.make_row.new.self (edge_view c.args.root.now) c.args.at c.if-at-gt0.true c.in-Ok.ensures.made in
    (row_noted g.M.Machine (g.O.Ops.meaning c.args.ops.now) c.args.self.now (edge_view c.args.root.now) c.args.at (node c.args.self.now.machine c.make_row.new.self) made).balance

pub returns-in-Ok-row_over-clause-made : goal.returns-in-Ok-row_over-clause-made
returns-in-Ok-row_over-clause-made g c =
    let made : IsSteppedAt (IsRowMadeHere g.M.Machine (g.O.Ops.meaning c.args.ops.now)) g.M.Machine.ended c.args.self.now (edge_view c.args.root.now) c.args.at (node c.row_over.new.node c.row_over.new.below) = stepped_root (IsRowMadeHere g.M.Machine (g.O.Ops.meaning c.args.ops.now)) g.M.Machine.ended c.args.self.now.machine c.row_over.new.node c.args.self.now.inputs c.row_over.new.below c.args.root.now c.args.at c.if-at-gt0.false c.in-Ok-row_over.ensures.made in
    made

pub returns-in-Ok-row_over-clause-enabled : goal.returns-in-Ok-row_over-clause-enabled
returns-in-Ok-row_over-clause-enabled g c =
    let made : IsSteppedAt (IsRowMadeHere g.M.Machine (g.O.Ops.meaning c.args.ops.now)) g.M.Machine.ended c.args.self.now (edge_view c.args.root.now) c.args.at (node c.row_over.new.node c.row_over.new.below) = stepped_root (IsRowMadeHere g.M.Machine (g.O.Ops.meaning c.args.ops.now)) g.M.Machine.ended c.args.self.now.machine c.row_over.new.node c.args.self.now.inputs c.row_over.new.below c.args.root.now c.args.at c.if-at-gt0.false c.in-Ok-row_over.ensures.made in
    row_enabled g.M.Machine (g.O.Ops.meaning c.args.ops.now) c.args.self.now (edge_view c.args.root.now) c.args.at (node c.row_over.new.node c.row_over.new.below) made

pub returns-in-Ok-row_over-clause-effect : goal.returns-in-Ok-row_over-clause-effect
returns-in-Ok-row_over-clause-effect g c =
    let made : IsSteppedAt (IsRowMadeHere g.M.Machine (g.O.Ops.meaning c.args.ops.now)) g.M.Machine.ended c.args.self.now (edge_view c.args.root.now) c.args.at (node c.row_over.new.node c.row_over.new.below) = stepped_root (IsRowMadeHere g.M.Machine (g.O.Ops.meaning c.args.ops.now)) g.M.Machine.ended c.args.self.now.machine c.row_over.new.node c.args.self.now.inputs c.row_over.new.below c.args.root.now c.args.at c.if-at-gt0.false c.in-Ok-row_over.ensures.made in
    row_effect g.M.Machine (g.O.Ops.meaning c.args.ops.now) c.args.self.now (edge_view c.args.root.now) c.args.at (node c.row_over.new.node c.row_over.new.below) made

pub returns-in-Ok-row_over-clause-chosen : goal.returns-in-Ok-row_over-clause-chosen
returns-in-Ok-row_over-clause-chosen g c =
    let made : IsSteppedAt (IsRowMadeHere g.M.Machine (g.O.Ops.meaning c.args.ops.now)) g.M.Machine.ended c.args.self.now (edge_view c.args.root.now) c.args.at (node c.row_over.new.node c.row_over.new.below) = stepped_root (IsRowMadeHere g.M.Machine (g.O.Ops.meaning c.args.ops.now)) g.M.Machine.ended c.args.self.now.machine c.row_over.new.node c.args.self.now.inputs c.row_over.new.below c.args.root.now c.args.at c.if-at-gt0.false c.in-Ok-row_over.ensures.made in
    (row_noted g.M.Machine (g.O.Ops.meaning c.args.ops.now) c.args.self.now (edge_view c.args.root.now) c.args.at (node c.row_over.new.node c.row_over.new.below) made).chosen

pub returns-in-Ok-row_over-clause-balance : goal.returns-in-Ok-row_over-clause-balance
returns-in-Ok-row_over-clause-balance g c =
    let made : IsSteppedAt (IsRowMadeHere g.M.Machine (g.O.Ops.meaning c.args.ops.now)) g.M.Machine.ended c.args.self.now (edge_view c.args.root.now) c.args.at (node c.row_over.new.node c.row_over.new.below) = stepped_root (IsRowMadeHere g.M.Machine (g.O.Ops.meaning c.args.ops.now)) g.M.Machine.ended c.args.self.now.machine c.row_over.new.node c.args.self.now.inputs c.row_over.new.below c.args.root.now c.args.at c.if-at-gt0.false c.in-Ok-row_over.ensures.made in
    (row_noted g.M.Machine (g.O.Ops.meaning c.args.ops.now) c.args.self.now (edge_view c.args.root.now) c.args.at (node c.row_over.new.node c.row_over.new.below) made).balance

pub returns-in-Ok-clause-alike : goal.returns-in-Ok-clause-alike
returns-in-Ok-clause-alike g c =
    let made : IsSteppedAt (IsRowMadeHere g.M.Machine (g.O.Ops.meaning c.args.ops.now)) g.M.Machine.ended c.args.self.now (edge_view c.args.root.now) c.args.at (node c.args.self.now.machine c.make_row.new.self) = stepped_tree (IsRowMadeHere g.M.Machine (g.O.Ops.meaning c.args.ops.now)) g.M.Machine.ended c.args.self.now.machine c.args.self.now.inputs c.make_row.new.self (edge_view c.args.root.now) c.args.at c.if-at-gt0.true c.in-Ok.ensures.made in
    tree_stepped_alike g.M.Machine (IsRowMadeHere g.M.Machine (g.O.Ops.meaning c.args.ops.now)) (row_made g.M.Machine (g.O.Ops.meaning c.args.ops.now)) g.M.Machine.ended c.args.self.now (edge_view c.args.root.now) c.args.at (node c.args.self.now.machine c.make_row.new.self) made

pub returns-in-Ok-row_over-clause-alike : goal.returns-in-Ok-row_over-clause-alike
returns-in-Ok-row_over-clause-alike g c =
    let made : IsSteppedAt (IsRowMadeHere g.M.Machine (g.O.Ops.meaning c.args.ops.now)) g.M.Machine.ended c.args.self.now (edge_view c.args.root.now) c.args.at (node c.row_over.new.node c.row_over.new.below) = stepped_root (IsRowMadeHere g.M.Machine (g.O.Ops.meaning c.args.ops.now)) g.M.Machine.ended c.args.self.now.machine c.row_over.new.node c.args.self.now.inputs c.row_over.new.below c.args.root.now c.args.at c.if-at-gt0.false c.in-Ok-row_over.ensures.made in
    tree_stepped_alike g.M.Machine (IsRowMadeHere g.M.Machine (g.O.Ops.meaning c.args.ops.now)) (row_made g.M.Machine (g.O.Ops.meaning c.args.ops.now)) g.M.Machine.ended c.args.self.now (edge_view c.args.root.now) c.args.at (node c.row_over.new.node c.row_over.new.below) made

pub returns-in-Err-row_over-clause-err : goal.returns-in-Err-row_over-clause-err
returns-in-Err-row_over-clause-err g c = search rules
