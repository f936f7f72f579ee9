-- The laws that the nodes there are keep.
use Rattle.rsx_kinds.specs.Any.{TreeNode, any_machine}
use Rattle.rsx_kinds.specs.Rests.{any_rests}
use Rattle.rsx_kinds.specs.TreeLaws.{tree_asked_enough, tree_ending_waits, tree_settles}
use Rattle.rsx_subscriber.proofs.Laws.{Laws}

pub any_laws : {T : Type 0} → Laws {M = TreeNode T} any_machine
any_laws m = (tree_settles m, tree_ending_waits m, any_rests m, tree_asked_enough m)
