use Rattle.std.proofs.Common.{◌≡◌, true, rules}
use Rattle.rsx_serialized.proofs.Telling.{stopped_stands}
use Rattle.rsx_serialized.proofs.publishing.stop.Goals as goal

pub returns-clause-stands : goal.returns-clause-stands
returns-clause-stands g c =
    let yes_stop : c.args.stopped ≡ true = search rules in
    stopped_stands c.args.graph.now c.cancel.new.self c.args.sub c.args.stopped c.cancel.result yes_stop c.requires c.cancel.ensures.stands c.cancel.ensures.err
