use Rattle.std.proofs.Common.{ap, refl}
use Rattle.std.proofs.lemmas.Result.{on_ok_weaker, on_err_weaker}
use Rattle.rsx_kinds.specs.declared.any_node.AnyNode.TheVariants.{Several, PublishOnEager, FlatMap, FlatMapDelay, GroupBy}
use Rattle.rsx_kinds.proofs.Dispatch.{stepped_several, stepped_flat_map, stepped_flat_map_delay, stepped_publish_on_eager, stepped_group_by}
use Rattle.rsx_kinds.proofs.any_node.AnyNodeMachine.on_pick.Goals as goal

pub returns-in-Several-clause-ok : goal.returns-in-Several-clause-ok
returns-in-Several-clause-ok g c = rw c.in-Several.is c.on_pick.ensures.ok

pub returns-in-Several-clause-counts : goal.returns-in-Several-clause-counts
returns-in-Several-clause-counts g c = rw c.in-Several.is (on_ok_weaker c.on_pick.result (stepped_several c.in-Several.node c.on_pick.new.self) c.on_pick.ensures.counts)

pub returns-in-Several-clause-same : goal.returns-in-Several-clause-same
returns-in-Several-clause-same g c = rw c.in-Several.is (on_err_weaker c.on_pick.result (λ e. ap Several e) c.on_pick.ensures.same)

pub returns-in-FlatMap : goal.returns-in-FlatMap
returns-in-FlatMap g c = rw c.in-FlatMap.is (record {
  ok = c.on_pick-in-FlatMap.ensures.ok;
  enabled = c.on_pick-in-FlatMap.ensures.enabled;
  made = on_ok_weaker c.on_pick-in-FlatMap.result (λ e. _) c.on_pick-in-FlatMap.ensures.enabled;
  recorded = c.on_pick-in-FlatMap.ensures.recorded;
  composes = c.on_pick-in-FlatMap.ensures.composes;
  counts = on_ok_weaker c.on_pick-in-FlatMap.result (stepped_flat_map c.in-FlatMap.node c.on_pick-in-FlatMap.new.self) c.on_pick-in-FlatMap.ensures.counts;
  err = c.on_pick-in-FlatMap.ensures.err;
  memory = λ e. cc;
  alike = (refl, (refl, λ a. (refl, refl, refl)));
  same = on_err_weaker c.on_pick-in-FlatMap.result (λ e. ap FlatMap e) c.on_pick-in-FlatMap.ensures.same;
})

pub returns-in-FlatMapDelay : goal.returns-in-FlatMapDelay
returns-in-FlatMapDelay g c = rw c.in-FlatMapDelay.is (record {
  ok = c.on_pick-in-FlatMapDelay.ensures.ok;
  enabled = c.on_pick-in-FlatMapDelay.ensures.enabled;
  made = on_ok_weaker c.on_pick-in-FlatMapDelay.result (λ e. _) c.on_pick-in-FlatMapDelay.ensures.enabled;
  recorded = c.on_pick-in-FlatMapDelay.ensures.recorded;
  composes = c.on_pick-in-FlatMapDelay.ensures.composes;
  counts = on_ok_weaker c.on_pick-in-FlatMapDelay.result (stepped_flat_map_delay c.in-FlatMapDelay.node c.on_pick-in-FlatMapDelay.new.self) c.on_pick-in-FlatMapDelay.ensures.counts;
  err = c.on_pick-in-FlatMapDelay.ensures.err;
  memory = λ e. cc;
  alike = (refl, (refl, λ a. (refl, refl, refl)));
  same = on_err_weaker c.on_pick-in-FlatMapDelay.result (λ e. ap FlatMapDelay e) c.on_pick-in-FlatMapDelay.ensures.same;
})

pub returns-in-PublishOnEager : goal.returns-in-PublishOnEager
returns-in-PublishOnEager g c = rw c.in-PublishOnEager.is (record {
  ok = c.on_pick-in-PublishOnEager.ensures.ok;
  enabled = c.on_pick-in-PublishOnEager.ensures.enabled;
  made = on_ok_weaker c.on_pick-in-PublishOnEager.result (λ e. _) c.on_pick-in-PublishOnEager.ensures.enabled;
  recorded = c.on_pick-in-PublishOnEager.ensures.recorded;
  composes = c.on_pick-in-PublishOnEager.ensures.composes;
  counts = on_ok_weaker c.on_pick-in-PublishOnEager.result (stepped_publish_on_eager c.in-PublishOnEager.node c.on_pick-in-PublishOnEager.new.self) c.on_pick-in-PublishOnEager.ensures.counts;
  err = c.on_pick-in-PublishOnEager.ensures.err;
  memory = λ e. c.on_pick-in-PublishOnEager.ensures.memory;
  alike = (refl, (refl, λ a. (refl, refl, refl)));
  same = on_err_weaker c.on_pick-in-PublishOnEager.result (λ e. ap PublishOnEager e) c.on_pick-in-PublishOnEager.ensures.same;
})

pub returns-in-GroupBy : goal.returns-in-GroupBy
returns-in-GroupBy g c = rw c.in-GroupBy.is (record {
  ok = c.on_pick-in-GroupBy.ensures.ok;
  enabled = c.on_pick-in-GroupBy.ensures.enabled;
  made = on_ok_weaker c.on_pick-in-GroupBy.result (λ e. _) c.on_pick-in-GroupBy.ensures.enabled;
  recorded = c.on_pick-in-GroupBy.ensures.recorded;
  composes = c.on_pick-in-GroupBy.ensures.composes;
  counts = on_ok_weaker c.on_pick-in-GroupBy.result (stepped_group_by c.in-GroupBy.node c.on_pick-in-GroupBy.new.self) c.on_pick-in-GroupBy.ensures.counts;
  err = c.on_pick-in-GroupBy.ensures.err;
  memory = λ e. cc;
  alike = (refl, (refl, λ a. (refl, refl, refl)));
  same = on_err_weaker c.on_pick-in-GroupBy.result (λ e. ap GroupBy e) c.on_pick-in-GroupBy.ensures.same;
})
