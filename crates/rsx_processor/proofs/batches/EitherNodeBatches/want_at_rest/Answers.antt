use Rattle.std.proofs.lemmas.Option.{IfSome_then}
use Rattle.rsx_processor.proofs.batches.EitherNodeBatches.want_at_rest.Goals as goal

pub returns-in-Left : goal.returns-in-Left
returns-in-Left g c = rw c.in-Left.is (IfSome_then c.want_at_rest.result c.want_at_rest.ensures (λ want h. record { wants = h.wants; stays = h.stays; picks = h.picks; rows = h.rows }))

pub returns-in-Right : goal.returns-in-Right
returns-in-Right g c = rw c.in-Right.is (IfSome_then c.want_at_rest-in-Right.result c.want_at_rest-in-Right.ensures (λ want h. record { wants = h.wants; stays = h.stays; picks = h.picks; rows = h.rows }))
