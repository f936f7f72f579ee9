use Rattle.std.proofs.lemmas.Option.{IfSome_then}
use Rattle.rsx_kinds.proofs.batches.AnyNodeBatches.want_at_rest.Goals as goal

pub returns-in-Plain : goal.returns-in-Plain
returns-in-Plain g c = rw c.in-Plain.is (IfSome_then c.want_of_resting.result c.want_of_resting.ensures (λ want h. record { wants = h.wants; stays = h.stays; picks = h.picks; rows = h.rows }))

pub returns-in-PublishOn : goal.returns-in-PublishOn
returns-in-PublishOn g c = rw c.in-PublishOn.is (IfSome_then c.want_of_another-in-PublishOn.result c.want_of_another-in-PublishOn.ensures (λ want h. record { wants = h.wants; stays = h.stays; picks = h.picks; rows = h.rows }))

pub returns-in-PublishOnEager : goal.returns-in-PublishOnEager
returns-in-PublishOnEager g c = rw c.in-PublishOnEager.is (IfSome_then c.want_of_another-in-PublishOnEager.result c.want_of_another-in-PublishOnEager.ensures (λ want h. record { wants = h.wants; stays = h.stays; picks = h.picks; rows = h.rows }))

pub returns-in-Window : goal.returns-in-Window
returns-in-Window g c = rw c.in-Window.is (IfSome_then c.want_of_another-in-Window.result c.want_of_another-in-Window.ensures (λ want h. record { wants = h.wants; stays = h.stays; picks = h.picks; rows = h.rows }))

pub returns-in-FlatMap : goal.returns-in-FlatMap
returns-in-FlatMap g c = rw c.in-FlatMap.is (IfSome_then c.want_of_another-in-FlatMap.result c.want_of_another-in-FlatMap.ensures (λ want h. record { wants = h.wants; stays = h.stays; picks = h.picks; rows = h.rows }))

pub returns-in-FlatMapDelay : goal.returns-in-FlatMapDelay
returns-in-FlatMapDelay g c = rw c.in-FlatMapDelay.is (IfSome_then c.want_of_another-in-FlatMapDelay.result c.want_of_another-in-FlatMapDelay.ensures (λ want h. record { wants = h.wants; stays = h.stays; picks = h.picks; rows = h.rows }))

pub returns-in-GroupBy : goal.returns-in-GroupBy
returns-in-GroupBy g c = rw c.in-GroupBy.is (IfSome_then c.want_of_another-in-GroupBy.result c.want_of_another-in-GroupBy.ensures (λ want h. record { wants = h.wants; stays = h.stays; picks = h.picks; rows = h.rows }))
