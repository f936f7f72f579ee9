use Rattle.std.proofs.lemmas.Result.{IfErr-weaker, IfOk-weaker}
use Rattle.rsx_serialized.specs.Started.{opened}
use Rattle.rsx_serialized.proofs.After.{all_there, closed_from, stopped_from}
use Rattle.rsx_serialized.proofs.serialized.SerializedGraph.close.Goals as goal

pub close-requires-after_bounds : goal.close-requires-after_bounds
close-requires-after_bounds g c κs within =
    all_there (opened c.args.self) c.stop-region.result.0 c.args.self.links c.stop-region.result.1 c.args.emitters c.args.taps c.stop-region.ensures.links c.stop-region.ensures.stopped c.requires.fresh c.requires.emitters c.requires.taps

pub returns-clause-closed : goal.returns-clause-closed
returns-clause-closed g c = IfOk-weaker c.close.result _ _ (λ x h. closed_from (opened c.args.self) (record { region = c.stop-region.result.0; links = c.stop-region.result.1; emitters = c.args.emitters; taps = c.args.taps }) x c.args.self.links c.stop-region.ensures.links c.stop-region.ensures.stopped c.requires.fresh h) c.close.ensures.closed

pub returns-clause-stopped : goal.returns-clause-stopped
returns-clause-stopped g c =
    let all = all_there (opened c.args.self) c.stop-region.result.0 c.args.self.links c.stop-region.result.1 c.args.emitters c.args.taps c.stop-region.ensures.links c.stop-region.ensures.stopped c.requires.fresh c.requires.emitters c.requires.taps in
    IfErr-weaker c.close.result _ _ (λ s e. stopped_from (opened c.args.self) c.args.self.links _ s e c.stop-region.ensures.stopped all) c.close.ensures.err
