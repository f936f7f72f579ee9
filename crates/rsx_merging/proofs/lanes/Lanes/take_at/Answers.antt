use Rattle.std.proofs.Common.{sym, ap, slice_index_or, ◌∙◌}
use Rattle.rsx_merging.proofs.Places.{none_next}
use Rattle.rsx_merging.proofs.lanes.Lanes.take_at.Goals as goal

pub returns-in-None : goal.returns-in-None
returns-in-None g c i here =
    none_next c.args.self.now c.args.at i c.index.result.now c.front.result c.requires here (ap (λ l. slice_index_or l c.args.at c.index.result.now) (sym c.self.view_is) ∙ sym c.index.ensures) c.front.ensures c.in-None.is
