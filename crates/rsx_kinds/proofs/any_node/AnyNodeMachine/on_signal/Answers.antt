use Rattle.std.proofs.Common.{ap, refl}
use Rattle.std.proofs.lemmas.Result.{on_ok_weaker, on_err_weaker}
use Rattle.rsx_kinds.specs.declared.any_node.AnyNode.TheVariants.{Several, PublishOn, PublishOnEager, Window, FlatMap, FlatMapDelay, GroupBy}
use Rattle.rsx_kinds.proofs.Dispatch.{taken_several, taken_publish_on, taken_window, taken_flat_map, taken_flat_map_delay, taken_publish_on_eager, taken_group_by}
use Rattle.rsx_kinds.proofs.any_node.AnyNodeMachine.on_signal.Goals as goal

pub returns-in-Several : goal.returns-in-Several
returns-in-Several g c = rw c.in-Several.is (record {
  ok = c.on_signal-in-Several.ensures.ok;
  enabled = c.on_signal-in-Several.ensures.enabled;
  made = c.on_signal-in-Several.ensures.made;
  recorded = c.on_signal-in-Several.ensures.recorded;
  counts = on_ok_weaker c.on_signal-in-Several.result (taken_several c.in-Several.node c.on_signal-in-Several.new.self c.args.input c.args.signal) c.on_signal-in-Several.ensures.counts;
  err = c.on_signal-in-Several.ensures.err;
  memory = λ e. c.on_signal-in-Several.ensures.memory;
  alike = c.on_signal-in-Several.ensures.alike;
  same = on_err_weaker c.on_signal-in-Several.result (λ e. ap Several e) c.on_signal-in-Several.ensures.same;
})

pub returns-in-PublishOn : goal.returns-in-PublishOn
returns-in-PublishOn g c = rw c.in-PublishOn.is (record {
  ok = c.on_signal-in-PublishOn.ensures.ok;
  enabled = c.on_signal-in-PublishOn.ensures.enabled;
  made = on_ok_weaker c.on_signal-in-PublishOn.result (λ e. _) c.on_signal-in-PublishOn.ensures.enabled;
  recorded = refl;
  counts = on_ok_weaker c.on_signal-in-PublishOn.result (taken_publish_on c.in-PublishOn.node c.on_signal-in-PublishOn.new.self c.args.input c.args.signal) c.on_signal-in-PublishOn.ensures.counts;
  err = c.on_signal-in-PublishOn.ensures.err;
  memory = λ e. c.on_signal-in-PublishOn.ensures.memory;
  alike = (refl, (refl, λ a. (refl, refl, refl)));
  same = on_err_weaker c.on_signal-in-PublishOn.result (λ e. ap PublishOn e) c.on_signal-in-PublishOn.ensures.same;
})

pub returns-in-Window : goal.returns-in-Window
returns-in-Window g c = rw c.in-Window.is (record {
  ok = c.on_signal-in-Window.ensures.ok;
  enabled = c.on_signal-in-Window.ensures.enabled;
  made = on_ok_weaker c.on_signal-in-Window.result (λ e. _) c.on_signal-in-Window.ensures.enabled;
  recorded = refl;
  counts = on_ok_weaker c.on_signal-in-Window.result (taken_window c.in-Window.node c.on_signal-in-Window.new.self c.args.input c.args.signal) c.on_signal-in-Window.ensures.counts;
  err = c.on_signal-in-Window.ensures.err;
  memory = λ e. cc;
  alike = (refl, (refl, λ a. (refl, refl, refl)));
  same = on_err_weaker c.on_signal-in-Window.result (λ e. ap Window e) c.on_signal-in-Window.ensures.same;
})

pub returns-in-FlatMap : goal.returns-in-FlatMap
returns-in-FlatMap g c = rw c.in-FlatMap.is (record {
  ok = c.on_signal-in-FlatMap.ensures.ok;
  enabled = c.on_signal-in-FlatMap.ensures.enabled;
  made = on_ok_weaker c.on_signal-in-FlatMap.result (λ e. _) c.on_signal-in-FlatMap.ensures.enabled;
  recorded = c.on_signal-in-FlatMap.ensures.recorded;
  counts = on_ok_weaker c.on_signal-in-FlatMap.result (taken_flat_map c.in-FlatMap.node c.on_signal-in-FlatMap.new.self c.args.input c.args.signal) c.on_signal-in-FlatMap.ensures.counts;
  err = c.on_signal-in-FlatMap.ensures.err;
  memory = λ e. cc;
  alike = (refl, (refl, λ a. (refl, refl, refl)));
  same = on_err_weaker c.on_signal-in-FlatMap.result (λ e. ap FlatMap e) c.on_signal-in-FlatMap.ensures.same;
})

pub returns-in-FlatMapDelay : goal.returns-in-FlatMapDelay
returns-in-FlatMapDelay g c = rw c.in-FlatMapDelay.is (record {
  ok = c.on_signal-in-FlatMapDelay.ensures.ok;
  enabled = c.on_signal-in-FlatMapDelay.ensures.enabled;
  made = on_ok_weaker c.on_signal-in-FlatMapDelay.result (λ e. _) c.on_signal-in-FlatMapDelay.ensures.enabled;
  recorded = c.on_signal-in-FlatMapDelay.ensures.recorded;
  counts = on_ok_weaker c.on_signal-in-FlatMapDelay.result (taken_flat_map_delay c.in-FlatMapDelay.node c.on_signal-in-FlatMapDelay.new.self c.args.input c.args.signal) c.on_signal-in-FlatMapDelay.ensures.counts;
  err = c.on_signal-in-FlatMapDelay.ensures.err;
  memory = λ e. cc;
  alike = (refl, (refl, λ a. (refl, refl, refl)));
  same = on_err_weaker c.on_signal-in-FlatMapDelay.result (λ e. ap FlatMapDelay e) c.on_signal-in-FlatMapDelay.ensures.same;
})

pub returns-in-PublishOnEager : goal.returns-in-PublishOnEager
returns-in-PublishOnEager g c = rw c.in-PublishOnEager.is (record {
  ok = c.on_signal-in-PublishOnEager.ensures.ok;
  enabled = c.on_signal-in-PublishOnEager.ensures.enabled;
  made = on_ok_weaker c.on_signal-in-PublishOnEager.result (λ e. _) c.on_signal-in-PublishOnEager.ensures.enabled;
  recorded = c.on_signal-in-PublishOnEager.ensures.recorded;
  counts = on_ok_weaker c.on_signal-in-PublishOnEager.result (taken_publish_on_eager c.in-PublishOnEager.node c.on_signal-in-PublishOnEager.new.self c.args.input c.args.signal) c.on_signal-in-PublishOnEager.ensures.counts;
  err = c.on_signal-in-PublishOnEager.ensures.err;
  memory = λ e. c.on_signal-in-PublishOnEager.ensures.memory;
  alike = (refl, (refl, λ a. (refl, refl, refl)));
  same = on_err_weaker c.on_signal-in-PublishOnEager.result (λ e. ap PublishOnEager e) c.on_signal-in-PublishOnEager.ensures.same;
})

pub returns-in-GroupBy : goal.returns-in-GroupBy
returns-in-GroupBy g c = rw c.in-GroupBy.is (record {
  ok = c.on_signal-in-GroupBy.ensures.ok;
  enabled = c.on_signal-in-GroupBy.ensures.enabled;
  made = on_ok_weaker c.on_signal-in-GroupBy.result (λ e. _) c.on_signal-in-GroupBy.ensures.enabled;
  recorded = c.on_signal-in-GroupBy.ensures.recorded;
  counts = on_ok_weaker c.on_signal-in-GroupBy.result (taken_group_by c.in-GroupBy.node c.on_signal-in-GroupBy.new.self c.args.input c.args.signal) c.on_signal-in-GroupBy.ensures.counts;
  err = c.on_signal-in-GroupBy.ensures.err;
  memory = λ e. cc;
  alike = (refl, (refl, λ a. (refl, refl, refl)));
  same = on_err_weaker c.on_signal-in-GroupBy.result (λ e. ap GroupBy e) c.on_signal-in-GroupBy.ensures.same;
})
