use Rattle.std.proofs.Common.{ap, sym, ◌∙◌, ◌∷◌, subst, true}
use Rattle.std.proofs.Common.{refl}
use Rattle.rsx_tree.specs.Allocates.{row_allocates}
use Rattle.rsx_tree.specs.Inputs.{edges}
use Rattle.rsx_tree.proofs.Alike.{over_alike, row_closed}
use Rattle.rsx_tree.specs.Reads.{IsRowReadAt, row_readings}
use Rattle.rsx_tree.proofs.Readings.{closed_reads, shut_readings}
use Rattle.rsx_tree.specs.Tree.{NoneLive}
use Rattle.rsx_tree.specs.Inputs.{notes_of}
use Rattle.rsx_tree.proofs.Rows.{edges_closed, notes_closed}
use Rattle.rsx_tree.proofs.Trees.{kept_closed, none_live}
use Rattle.rsx_tree.proofs.node.Node.close.Goals as goal

pub returns-clause-kept : goal.returns-clause-kept
returns-clause-kept g c = λ m. kept_closed g.M.Machine m c.args.self.now.machine c.args.self.now.inputs c.close.new.self c.close.ensures

pub returns-clause-closed : goal.returns-clause-closed
returns-clause-closed g c = subst NoneLive (sym (ap edges c.close.ensures ∙ edges_closed c.args.self.now.inputs)) (none_live (edges c.args.self.now.inputs))

pub returns-clause-edges : goal.returns-clause-edges
returns-clause-edges g c = cc (edges_closed c.args.self.now.inputs)

pub returns-clause-notes : goal.returns-clause-notes
returns-clause-notes g c = ap (λ t. g.M.Machine.recorded c.args.self.now.machine ∷ notes_of g.M.Machine t) c.close.ensures ∙ ap (λ l. g.M.Machine.recorded c.args.self.now.machine ∷ l) (notes_closed g.M.Machine c.args.self.now.inputs)

pub returns-clause-alike : goal.returns-clause-alike
returns-clause-alike g c = (
  λ a. over_alike g.M.Machine a c.args.self.now.machine c.args.self.now.machine c.args.self.now.inputs c.close.new.self refl (ap (row_allocates g.M.Machine a) c.close.ensures ∙ row_closed g.M.Machine a c.args.self.now.inputs),
  λ counts h. (h.0, subst (λ t. IsRowReadAt g.M.Machine counts t) (sym c.close.ensures) (closed_reads g.M.Machine counts c.args.self.now.inputs)),
  ap (λ t. g.M.Machine.reads c.args.self.now.machine ∷ row_readings g.M.Machine t) c.close.ensures ∙ ap (λ l. g.M.Machine.reads c.args.self.now.machine ∷ l) (shut_readings g.M.Machine true c.args.self.now.inputs),
  refl,
)
