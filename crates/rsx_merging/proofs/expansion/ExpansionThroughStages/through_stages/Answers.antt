use Rattle.std.proofs.Common.{sym, ap, ◌∙◌}
use Rattle.rsx_values.specs.Prelude.{listed, chained, flat_lane}
use Rattle.rsx_plain.specs.Chain.{chain_from}
use Rattle.rsx_merging.proofs.Coming.{chain_closed}
use Rattle.rsx_merging.proofs.expansion.ExpansionThroughStages.through_stages.Goals as goal

pub returns-in_default : goal.returns-in_default
returns-in_default g c =
    let m = g.O.Ops.meaning c.args.ops.now in
    let list = listed c.args.list.items in
    chain_closed c.in_ok-chain.field-0.first (chain_from m c.in_ok-chain.field-0.chain list) (flat_lane m c.args.self.now.stages.items c.args.list.items) c.ending.result (sym c.ending.ensures) c.in_default.not-Open (ap (λ gs. chained m gs list) (sym c.deref.ensures.value) ∙ c.in_ok-chain.ensures.fresh list)
