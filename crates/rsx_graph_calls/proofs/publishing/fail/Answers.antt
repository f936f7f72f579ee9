use Rattle.std.proofs.Common.{◌≡◌, ◌∙◌, arith, refl, sym, true}
use Rattle.rsx_graph_state.proofs.Graphs.{found}
use Rattle.rsx_graph_calls.proofs.publishing.fail.Goals as goal

pub returns-in-Ok-clause-effect : goal.returns-in-Ok-clause-effect
returns-in-Ok-clause-effect g c =
    let known : c.has_emitter.result ≡ true = grind (arith, c.if-not-has_emitter.false) in
    let old = c.index_mut.result.now in
    let at = found c.args.hubs.now.items c.args.hub.0 old (c.has_emitter.ensures.there known) (sym c.index_mut.ensures.value) in
    record { hub = old; there = at; goes_on = c.in-Ok.ensures.enabled; others = rw c.in-Ok.ensures.ok refl }

pub returns-in-Err-clause-err : goal.returns-in-Err-clause-err
returns-in-Err-clause-err g c =
    let known : c.has_emitter.result ≡ true = grind (arith, c.if-not-has_emitter.false) in
    let old = c.index_mut.result.now in
    let at = found c.args.hubs.now.items c.args.hub.0 old (c.has_emitter.ensures.there known) (sym c.index_mut.ensures.value) in
    (sym c.has_emitter.ensures.is ∙ known, (old, at, c.in-Err.ensures.err))
