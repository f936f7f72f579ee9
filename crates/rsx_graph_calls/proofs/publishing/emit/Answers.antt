use Rattle.std.proofs.Common.{◌≡◌, ◌∙◌, arith, refl, sym, true}
use Rattle.rsx_graph_state.proofs.Graphs.{found}
use Rattle.rsx_graph_calls.proofs.publishing.emit.Goals as goal

pub returns-in-Ok-clause-effect : goal.returns-in-Ok-clause-effect
returns-in-Ok-clause-effect g c =
    let known : c.has_emitter.result ≡ true = grind (arith, c.if-not-has_emitter.false) in
    let old = c.index_mut.result.now in
    let at = found c.args.hubs.now.items c.args.hub.0 old (c.has_emitter.ensures.there known) (sym c.index_mut.ensures.value) in
    record { hub = old; there = at; accepts = c.in-Ok.ensures.enabled; others = rw c.in-Ok.ensures.ok refl }

pub returns-in-Err-Ended-clause-err : goal.returns-in-Err-Ended-clause-err
returns-in-Err-Ended-clause-err g c =
    let known : c.has_emitter.result ≡ true = grind (arith, c.if-not-has_emitter.false) in
    let old = c.index_mut.result.now in
    let at = found c.args.hubs.now.items c.args.hub.0 old (c.has_emitter.ensures.there known) (sym c.index_mut.ensures.value) in
    let why = rw c.in-Err-Ended.field-0-is at c.in-Err-Ended.ensures.err in
    (sym c.has_emitter.ensures.is ∙ known, (old, at, why.1))

pub returns-in-Err-TooMany-clause-err : goal.returns-in-Err-TooMany-clause-err
returns-in-Err-TooMany-clause-err g c =
    let known : c.has_emitter.result ≡ true = grind (arith, c.if-not-has_emitter.false) in
    let old = c.index_mut.result.now in
    let at = found c.args.hubs.now.items c.args.hub.0 old (c.has_emitter.ensures.there known) (sym c.index_mut.ensures.value) in
    let why = rw c.in-Err-TooMany.field-0-is at c.in-Err-TooMany.ensures.err in
    (sym c.has_emitter.ensures.is ∙ known, (old, at, (why.1, why.2)))

pub returns-in-Err-Full-clause-err : goal.returns-in-Err-Full-clause-err
returns-in-Err-Full-clause-err g c =
    let known : c.has_emitter.result ≡ true = grind (arith, c.if-not-has_emitter.false) in
    let old = c.index_mut.result.now in
    let at = found c.args.hubs.now.items c.args.hub.0 old (c.has_emitter.ensures.there known) (sym c.index_mut.ensures.value) in
    let why = rw c.in-Err-Full.field-0-is at c.in-Err-Full.ensures.err in
    (sym c.has_emitter.ensures.is ∙ known, (old, at, (why.1, why.2, why.3)))
