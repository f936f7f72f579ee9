-- The code of a part, by which a proof tells parts apart: that of a tree with the edge from its root, whose nodes have a code.
use Rattle.std.specs.Prelude.{[]}
use Rattle.std.specs.Coded.{Coded}
use Rattle.rsx_pipe.specs.Part.{Part}
use Rattle.rsx_rooted.specs.contracts.rooted.Rooted as tree
use base.Fml.{ffalse}
use denote.Exit.{unchanged}
use denote.RattleType.{RattleType}
use denote.Sharing.{said}
use mir.Syntax.{wrote, ty_param}

-- a type of nodes with this code; the rest of it is not looked at
abbrev nodes_of : {M : Type 0} → Coded M → RattleType
nodes_of {M} c = record { Denot = M; mir = []; written = wrote (ty_param 0); reaches = []; lives = []; own_val = λ x vs. ffalse; exit = λ k. unchanged; coded = c; shr_at = λ x b o. said ffalse }

abbrev pub part_code : {M : Type 0} → Coded M → Coded (Part M)
part_code c = (tree.the_row (nodes_of c)).coded
