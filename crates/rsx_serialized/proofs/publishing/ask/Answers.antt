use Rattle.std.proofs.Common.{◌<◌, rules}
use Rattle.rsx_serialized.proofs.Telling.{asked_stands}
use Rattle.rsx_serialized.proofs.publishing.ask.Goals as goal

pub returns-clause-stands : goal.returns-clause-stands
returns-clause-stands g c =
    let some : 0 < c.args.items = search rules in
    asked_stands c.args.graph.now c.request_items.new.self c.args.sub c.args.items c.request_items.result some c.requires.most c.requires.there c.request_items.ensures.stands c.request_items.ensures.err
