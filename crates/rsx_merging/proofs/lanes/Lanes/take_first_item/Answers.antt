use Rattle.std.proofs.Common.{◌≡◌, sym, ap, slice_index_or, slice_set, ◌∙◌}
use Rattle.rsx_merging.proofs.Places.{item_taken}
use Rattle.rsx_merging.proofs.lanes.Lanes.take_first_item.Goals as goal

pub returns : goal.returns
returns g c = λ i place front.
    let is = c.args.self.now in
    let lane = c.index_mut.result.now in
    let at : slice_index_or is 0 lane ≡ lane = ap (λ l. slice_index_or l 0 lane) (sym c.self.view_is) ∙ sym c.index_mut.ensures.value in
    item_taken i is 0 lane c.take_item.new.self c.take_item.result _ place front at c.take_item.ensures.item c.take_item.ensures.none c.take_item.ensures.number (ap (λ l. slice_set l 0 c.take_item.new.self) c.self.view_is)
