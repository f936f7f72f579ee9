use Rattle.std.proofs.Common.{map}
use Rattle.std.proofs.lemmas.Result.{IfOk-weaker}
use Rattle.rsx_types.specs.Notes.{unchosen}
use Rattle.rsx_pipe.specs.Tree.{notes_of}
use Rattle.rsx_pipe.proofs.Trees.{unchosen_tree}
use Rattle.rsx_pipe.proofs.part.Part.residual.Goals as goal

pub returns : goal.returns
returns g c = rw (← c.self.view_is) (IfOk-weaker c.residual.result _ _ (λ v e hubs balanced behind. e hubs (map unchosen (notes_of g.N.Machine c.self.inside.rooted.tree)) 0 c.self.inside.rooted.root.demand.sent balanced behind (unchosen_tree g.N.Machine c.self.inside.rooted.tree)) c.residual.ensures)
