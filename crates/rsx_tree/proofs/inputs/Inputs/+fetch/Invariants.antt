use Rattle.std.specs.Prelude.{true, ◌≡◌, ◌+◌, ◌*◌, ◌<◌}
use Rattle.rsx_tree.specs.Inputs.{size}
use Rattle.rsx_tree.specs.declared.inputs.Inputs.TheViews.{More}
use Rattle.rsx_tree.proofs.Changes.{Rest}
use Rattle.rsx_tree.proofs.Drives.{IsUnderWay}
use Rattle.rsx_tree.proofs.inputs.Inputs.+fetch.Given as goal

-- one function calls the other on the same row
abbrev pub decreases-fetch : goal.decreases-fetch
decreases-fetch g l = size l.self.now * 4

abbrev pub decreases-fetch_beside : goal.decreases-fetch_beside
decreases-fetch_beside g l = size l.self.now * 4

abbrev pub decreases-fetch_row : goal.decreases-fetch_row
decreases-fetch_row g l = size l.self.now * 4 + 1

abbrev pub decreases-pull_below : goal.decreases-pull_below
decreases-pull_below g l = size l.self.now * 4 + 2

abbrev pub decreases-pull : goal.decreases-pull
decreases-pull g l = size l.self.now * 4 + 3

abbrev pub decreases-fetch-items : goal.decreases-fetch-items
decreases-fetch-items g l = l.left

-- the inputs beside the first stay, whatever they are
abbrev pub invariant-fetch-items : goal.invariant-fetch-items
invariant-fetch-items g l =
    ((beside : Rest _) → l.fn.self ≡ More l.initial.edge l.initial.sender l.initial.below beside →
    IsUnderWay g.M.Machine (g.O.Ops.meaning l.ops) true l.input l.asked l.sent l.fn.left l.fn.receiver l.fn.self l.left l.receiver (More l.edge l.sender l.below beside))
    × (size l.below.value < size l.fn.self)
