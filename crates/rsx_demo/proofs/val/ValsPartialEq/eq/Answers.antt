use Rattle.rsx_demo.specs.Same.{same_data, data_Decides}
use Rattle.rsx_demo.proofs.Tells.{tells}
use Rattle.rsx_demo.proofs.val.ValsPartialEq.eq.Goals as goal

pub returns : goal.returns
returns c =
    let x = c.args.self.now in
    let y = c.args.other.now in
    tells x y c.is_same_list.result (same_data x y) (data_Decides x y) c.is_same_list.ensures.yes c.is_same_list.ensures.no
