use Rattle.std.proofs.Common.{sym, ap, slice_index_or, ◌∙◌}
use Rattle.rsx_merging.proofs.Places.{front_there}
use Rattle.rsx_merging.proofs.lanes.Lanes.front.Goals as goal

pub returns-in-Some : goal.returns-in-Some
returns-in-Some g c =
    front_there c.args.number c.args.self.now c.in-Some.at c.index.result.now c.front.result c.in-Some.ensures (ap (λ l. slice_index_or l c.in-Some.at c.index.result.now) (sym c.self.view_is) ∙ sym c.index.ensures) c.front.ensures
