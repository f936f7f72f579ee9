use Rattle.rsx_demo.specs.Same.{same_item, item_Decides}
use Rattle.rsx_demo.proofs.Tells.{tells}
use Rattle.rsx_demo.proofs.val.ValPartialEq.eq.Goals as goal

pub returns : goal.returns
returns c =
    let x = c.args.self.now in
    let y = c.args.other.now in
    tells x y c.is_same_val.result (same_item x y) (item_Decides x y) c.is_same_val.ensures.yes c.is_same_val.ensures.no
