use Rattle.std.proofs.Common.{◌≡◌, ◌++◌, map, take, reverse}
use Rattle.rsx_grouping.specs.Waiting.{waiting_of}
use Rattle.rsx_grouping.proofs.waiting.WaitingItemsTagging.tagged.Given as goal

abbrev pub invariant-loop-at : goal.invariant-loop-at
invariant-loop-at g l =
    let tag = (g.O.Ops.meaning l.ops).tagged l.key in
    l.tagged.items ++ map tag (reverse (take l.at l.self-inside.behind.items)) ≡ map tag (waiting_of l.self-inside.first l.self-inside.behind.items)
