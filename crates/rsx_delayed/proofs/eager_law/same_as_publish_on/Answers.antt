use Rattle.std.proofs.Common.{refl}
use Rattle.rsx_delayed.proofs.EagerValues.{unfailing}
use Rattle.rsx_delayed.proofs.eager_law.same_as_publish_on.Goals as goal

pub returns-clause-unchosen : goal.returns-clause-unchosen
returns-clause-unchosen g c value = refl

pub returns-clause-chosen : goal.returns-clause-chosen
returns-clause-chosen g c choices value out whole came = unfailing choices value.items value.ending out whole came
