use Rattle.std.proofs.Common.{◌≡◌, length, map, ◌++◌, option_map, sym, ap, ◌∙◌, arith}
use Rattle.rsx.specs.Built.{built}
use Rattle.rsx.specs.Flow.{all_of}
use Rattle.std.proofs.lemmas.List.{nil_from_length}
use Rattle.rsx.proofs.Taken.{none_taken, one_taken, all_taken}
use Rattle.rsx.proofs.flow.all_built.Goals as goal

pub loop-input-init : goal.loop-input-init
loop-input-init g c = (
  none_taken (all_of (map built c.args.inputs.items)) c.new-exprs.result.items c.new-exprs.ensures.items
      ∙ ap (λ r. option_map (λ es. c.new-exprs.result.items ++ es) (all_of (map built r))) (sym c.into_iter-input-iterator.ensures.into_iter_gives.0),
  tt,
  tt,
)

pub loop-input-preserved : goal.loop-input-preserved
loop-input-preserved g c = (
  one_taken built (all_of (map built c.args.inputs.items)) c.loop-input.input-iterator.rest.items c.next.new.self.rest.items c.in-Some.input c.in_ok-build.field-0 c.loop-input.exprs.items c.push.new.self.items c.loop-input.invariant.0 c.in-Some.ensures.steps.0 c.in_ok-build.ensures c.in_ok-push.ensures.items,
  tt,
  tt,
)

pub returns : goal.returns
returns g c =
    let none : length c.loop-input.input-iterator.rest.items ≡ 0 = omega (arith, c.in-None.ensures.steps.0, c.loop-input.input-iterator.rest.ok.0) in
    all_taken built (all_of (map built c.args.inputs.items)) c.loop-input.input-iterator.rest.items c.loop-input.exprs.items c.loop-input.invariant.0 (nil_from_length c.loop-input.input-iterator.rest.items none)
