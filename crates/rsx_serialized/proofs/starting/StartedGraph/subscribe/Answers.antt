use Rattle.std.proofs.Common.{ap, sym, ◌∙◌}
use Rattle.rsx_types.specs.declared.names.SubId.{SubId}
use Rattle.rsx_serialized.proofs.Subscribes.{not_added}
use Rattle.rsx_serialized.proofs.starting.StartedGraph.subscribe.Goals as goal

pub returns-in-Ok-add_tap-clause-added : goal.returns-in-Ok-add_tap-clause-added
returns-in-Ok-add_tap-clause-added g c =
    let it = c.in-Ok-add_tap.ensures.ok in
    record {
      tap = c.in-Ok.tap;
      put = it.0;
      named = sym c.sub-sub.ensures;
      number = ap (λ (i : SubId). i.0) c.sub-sub.ensures ∙ (it.2 ∙ it.1);
      fresh = c.in-Ok.ensures.tap;
      subscribed = c.in-Ok.ensures.subscribed;
    }

pub returns-in-Err-add_tap-clause-err : goal.returns-in-Err-add_tap-clause-err
returns-in-Err-add_tap-clause-err g c = not_added c.args.self.now c.args.expr.now c.in-Ok.tap c.in-Err-add_tap.tap c.in-Err-add_tap.ensures.err c.in-Ok.ensures.tap c.in-Ok.ensures.subscribed
