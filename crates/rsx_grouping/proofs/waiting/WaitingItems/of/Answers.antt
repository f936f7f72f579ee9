use Rattle.std.proofs.Common.{arith}
use Rattle.std.proofs.lemmas.Grind.{common_steps}
use Rattle.rsx_grouping.proofs.Waits.{of_reversed}
use Rattle.rsx_grouping.proofs.waiting.WaitingItems.of.Goals as goal

pub returns : goal.returns
returns g c =
    of_reversed c.args.items.items c.reverse.new.self.items c.pop-first.new.self.items c.pop-first.result c.reverse.ensures.items c.pop-first.ensures.items
    (λ e. let h = rw e at c.pop-first.ensures.cases in grind (arith, common_steps))
