use Rattle.std.proofs.Common.{subst}
use Rattle.rsx_kinds.specs.Prelude.{SeveralNode, several_popped}
use Rattle.rsx_kinds.proofs.SeveralDispatch.{returned_concat, returned_merge, returned_merge_delay, returned_zip, returned_latest}
use Rattle.rsx_kinds.proofs.several_node.SeveralNodeMachine.put_back.Goals as goal

pub returns-in-Concat : goal.returns-in-Concat
returns-in-Concat g c = λ before h.
    let P : SeveralNode _ → Type 0 = λ t. several_popped before c.args.signal t in
    returned_concat before c.args.signal c.in-Concat.node c.put_back.new.self (subst P c.in-Concat.is h) c.put_back.ensures

pub returns-in-Merge : goal.returns-in-Merge
returns-in-Merge g c = λ before h.
    let P : SeveralNode _ → Type 0 = λ t. several_popped before c.args.signal t in
    returned_merge before c.args.signal c.in-Merge.node c.put_back-in-Merge.new.self (subst P c.in-Merge.is h) c.put_back-in-Merge.ensures

pub returns-in-MergeDelay : goal.returns-in-MergeDelay
returns-in-MergeDelay g c = λ before h.
    let P : SeveralNode _ → Type 0 = λ t. several_popped before c.args.signal t in
    returned_merge_delay before c.args.signal c.in-MergeDelay.node c.put_back-in-MergeDelay.new.self (subst P c.in-MergeDelay.is h) c.put_back-in-MergeDelay.ensures

pub returns-in-Zip : goal.returns-in-Zip
returns-in-Zip g c = λ before h.
    let P : SeveralNode _ → Type 0 = λ t. several_popped before c.args.signal t in
    returned_zip before c.args.signal c.in-Zip.node c.put_back-in-Zip.new.self (subst P c.in-Zip.is h) c.put_back-in-Zip.ensures

pub returns-in-Latest : goal.returns-in-Latest
returns-in-Latest g c = λ before h.
    let P : SeveralNode _ → Type 0 = λ t. several_popped before c.args.signal t in
    returned_latest before c.args.signal c.in-Latest.node c.put_back-in-Latest.new.self (subst P c.in-Latest.is h) c.put_back-in-Latest.ensures
