use Rattle.rsx_kinds.proofs.several_node.SeveralNodeMachine.front.Goals as goal

pub returns-in-Concat : goal.returns-in-Concat
returns-in-Concat g c = record { shown = rw c.in-Concat.is c.front.ensures.shown; first = λ m. rw c.in-Concat.is (c.front.ensures.first m) }

pub returns-in-Merge : goal.returns-in-Merge
returns-in-Merge g c = record { shown = rw c.in-Merge.is c.front-in-Merge.ensures.shown; first = λ m. rw c.in-Merge.is (c.front-in-Merge.ensures.first m) }

pub returns-in-MergeDelay : goal.returns-in-MergeDelay
returns-in-MergeDelay g c = record { shown = rw c.in-MergeDelay.is c.front-in-MergeDelay.ensures.shown; first = λ m. rw c.in-MergeDelay.is (c.front-in-MergeDelay.ensures.first m) }

pub returns-in-Zip : goal.returns-in-Zip
returns-in-Zip g c = record { shown = rw c.in-Zip.is c.front-in-Zip.ensures.shown; first = λ m. rw c.in-Zip.is (c.front-in-Zip.ensures.first m) }

pub returns-in-Latest : goal.returns-in-Latest
returns-in-Latest g c = record { shown = rw c.in-Latest.is c.front-in-Latest.ensures.shown; first = λ m. rw c.in-Latest.is (c.front-in-Latest.ensures.first m) }
