use Rattle.std.proofs.Common.{rules}
use Rattle.std.proofs.lemmas.Result.{IfOk-weaker}
use Rattle.rsx_plain.specs.Chain.{chain_from}
use Rattle.rsx_types.specs.Plain.{chained}
use Rattle.rsx_window.proofs.Rests.{chain_open, chain_ended}
use Rattle.rsx_window.proofs.rest.VecCollecting.chain_behind.Goals as goal

pub returns-in-Open : goal.returns-in-Open
returns-in-Open g c =
    let m = g.O.Ops.meaning c.args.ops.now in
    IfOk-weaker c.rest_behind.result _ _
    (λ e h. chain_open c.args.self.now.items c.append.new.all.items c.in_ok-chain.field-0.first (chain_from m c.in_ok-chain.field-0.chain c.args.value) (chained m c.args.stages.now c.args.value) (record { items = c.rest_behind.new.self.items; ending = e }) c.ending-ending.result
    (search rules) c.ending-ending.ensures c.in-Open.is (c.in_ok-chain.ensures.fresh c.args.value) h)
    c.rest_behind.ensures

pub returns-in_default : goal.returns-in_default
returns-in_default g c =
    let m = g.O.Ops.meaning c.args.ops.now in
    chain_ended c.args.self.now.items c.append.new.all.items c.in_ok-chain.field-0.first (chain_from m c.in_ok-chain.field-0.chain c.args.value) (chained m c.args.stages.now c.args.value) c.ending-ending.result
    (search rules) c.ending-ending.ensures c.in_default.not-Open (c.in_ok-chain.ensures.fresh c.args.value)
