use Rattle.std.proofs.Common.{◌≡◌, Some, None, ap, is_some, sym, subst, ◌∙◌}
use Rattle.rsx_graph_state.specs.Moves.{rows_of}
use Rattle.rsx_types.specs.declared.names.Move.{Move}
use Rattle.rsx_graph_moves.specs.Many.{IsMadeTimes, delivers_to}
use Rattle.rsx_graph_moves.specs.Moves.{IsMakeRefusal, is_enabled}
use Rattle.rsx_graph_moves.proofs.Times.{delivers_is, delivers_none, times_made}
use Rattle.rsx_graph_moves.proofs.many.make_into.Goals as goal

pub returns-in-Ok-clause-made : goal.returns-in-Ok-clause-made
returns-in-Ok-clause-made g c =
    let m = g.O.Ops.meaning c.args.ops.now in
    let to : delivers_to c.args.step ≡ Some c.in-Some.sub = sym c.subscriber_of.ensures ∙ c.in-Some.is in
    let first = rows_of c.args.hubs.now.items c.args.feeds.now.items c.args.subscriptions.now.items in
    let last = rows_of c.args.hubs.now.items c.args.feeds.now.items c.take_into.new.subscriptions.items in
    let P : Move → Type 0 = λ mv. IsMadeTimes g.N.Machine g.N.Nodes m mv 1 first c.args.out.now last c.take_into.new.out in
    subst P (sym (delivers_is c.args.step c.in-Some.sub to)) (c.in-Ok.ensures.made m c.args.hubs.now.items c.args.feeds.now.items)

pub returns-in-Err-clause-err : goal.returns-in-Err-clause-err
returns-in-Err-clause-err g c =
    let m = g.O.Ops.meaning c.args.ops.now in
    let to : delivers_to c.args.step ≡ Some c.in-Some.sub = sym c.subscriber_of.ensures ∙ c.in-Some.is in
    let first = rows_of c.args.hubs.now.items c.args.feeds.now.items c.args.subscriptions.now.items in
    let P : Move → Type 0 = λ mv. IsMakeRefusal first (is_enabled g.N.Machine g.N.Nodes m first mv) mv c.in-Err.why in
    record { refused = subst P (sym (delivers_is c.args.step c.in-Some.sub to)) (c.in-Err.ensures.err m); memory = λ _ none. (ap is_some to, c.in-Err.ensures.full none) }

pub returns-clause-made : goal.returns-clause-made
returns-clause-made g c =
    let m = g.O.Ops.meaning c.args.ops.now in
    let nobody : delivers_to c.args.step ≡ None = sym c.subscriber_of.ensures ∙ c.in-None.is in
    let first = rows_of c.args.hubs.now.items c.args.feeds.now.items c.args.subscriptions.now.items in
    let last = rows_of c.make.new.hubs.items c.make.new.feeds.items c.make.new.subscriptions.items in
    let k = c.in-Ok-make.ensures in
    times_made g.N.Machine g.N.Nodes m c.args.step c.in-Ok-make.field-0 first last c.args.out.now (delivers_none c.args.step c.in-Ok-make.field-0 nobody k.answer) k.enabled k.effect k.answer k.stands
