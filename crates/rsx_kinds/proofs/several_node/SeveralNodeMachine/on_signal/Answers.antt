use Rattle.std.proofs.Common.{ap, refl}
use Rattle.std.proofs.lemmas.Result.{on_ok_weaker, on_err_weaker}
use Rattle.rsx_kinds.proofs.SeveralDispatch.{taken_concat, taken_merge, taken_merge_delay, taken_zip, taken_latest}
use Rattle.rsx_kinds.specs.declared.several_node.SeveralNode.TheVariants.{Concat, Merge, MergeDelay, Zip, Latest}
use Rattle.rsx_kinds.proofs.several_node.SeveralNodeMachine.on_signal.Goals as goal

pub returns-in-Concat : goal.returns-in-Concat
returns-in-Concat g c = rw c.in-Concat.is (record {
  ok = c.on_signal.ensures.ok;
  enabled = c.on_signal.ensures.enabled;
  made = on_ok_weaker c.on_signal.result (λ e. _) c.on_signal.ensures.enabled;
  recorded = refl;
  counts = on_ok_weaker c.on_signal.result (taken_concat c.in-Concat.node c.on_signal.new.self c.args.input c.args.signal) c.on_signal.ensures.counts;
  err = c.on_signal.ensures.err;
  memory = c.on_signal.ensures.memory;
  alike = (refl, (refl, λ a. (refl, refl, refl)));
  same = on_err_weaker c.on_signal.result (λ e. ap Concat e) c.on_signal.ensures.same;
})

pub returns-in-Merge : goal.returns-in-Merge
returns-in-Merge g c = rw c.in-Merge.is (record {
  ok = c.on_signal-in-Merge.ensures.ok;
  enabled = c.on_signal-in-Merge.ensures.enabled;
  made = on_ok_weaker c.on_signal-in-Merge.result (λ e. _) c.on_signal-in-Merge.ensures.enabled;
  recorded = c.on_signal-in-Merge.ensures.recorded;
  counts = on_ok_weaker c.on_signal-in-Merge.result (taken_merge c.in-Merge.node c.on_signal-in-Merge.new.self c.args.input c.args.signal) c.on_signal-in-Merge.ensures.counts;
  err = c.on_signal-in-Merge.ensures.err;
  memory = c.on_signal-in-Merge.ensures.memory;
  alike = (refl, (refl, λ a. (refl, refl, refl)));
  same = on_err_weaker c.on_signal-in-Merge.result (λ e. ap Merge e) c.on_signal-in-Merge.ensures.same;
})

pub returns-in-MergeDelay : goal.returns-in-MergeDelay
returns-in-MergeDelay g c = rw c.in-MergeDelay.is (record {
  ok = c.on_signal-in-MergeDelay.ensures.ok;
  enabled = c.on_signal-in-MergeDelay.ensures.enabled;
  made = on_ok_weaker c.on_signal-in-MergeDelay.result (λ e. _) c.on_signal-in-MergeDelay.ensures.enabled;
  recorded = c.on_signal-in-MergeDelay.ensures.recorded;
  counts = on_ok_weaker c.on_signal-in-MergeDelay.result (taken_merge_delay c.in-MergeDelay.node c.on_signal-in-MergeDelay.new.self c.args.input c.args.signal) c.on_signal-in-MergeDelay.ensures.counts;
  err = c.on_signal-in-MergeDelay.ensures.err;
  memory = c.on_signal-in-MergeDelay.ensures.memory;
  alike = (refl, (refl, λ a. (refl, refl, refl)));
  same = on_err_weaker c.on_signal-in-MergeDelay.result (λ e. ap MergeDelay e) c.on_signal-in-MergeDelay.ensures.same;
})

pub returns-in-Zip : goal.returns-in-Zip
returns-in-Zip g c = rw c.in-Zip.is (record {
  ok = c.on_signal-in-Zip.ensures.ok;
  enabled = c.on_signal-in-Zip.ensures.enabled;
  made = c.on_signal-in-Zip.ensures.made;
  recorded = c.on_signal-in-Zip.ensures.recorded;
  counts = on_ok_weaker c.on_signal-in-Zip.result (taken_zip c.in-Zip.node c.on_signal-in-Zip.new.self c.args.input c.args.signal) c.on_signal-in-Zip.ensures.counts;
  err = c.on_signal-in-Zip.ensures.err;
  memory = c.on_signal-in-Zip.ensures.memory;
  alike = (refl, (refl, λ a. (refl, refl, refl)));
  same = on_err_weaker c.on_signal-in-Zip.result (λ e. ap Zip e) c.on_signal-in-Zip.ensures.same;
})

pub returns-in-Latest : goal.returns-in-Latest
returns-in-Latest g c = rw c.in-Latest.is (record {
  ok = c.on_signal-in-Latest.ensures.ok;
  enabled = c.on_signal-in-Latest.ensures.enabled;
  made = c.on_signal-in-Latest.ensures.made;
  recorded = c.on_signal-in-Latest.ensures.recorded;
  counts = on_ok_weaker c.on_signal-in-Latest.result (taken_latest c.in-Latest.node c.on_signal-in-Latest.new.self c.args.input c.args.signal) c.on_signal-in-Latest.ensures.counts;
  err = c.on_signal-in-Latest.ensures.err;
  memory = c.on_signal-in-Latest.ensures.memory;
  alike = (refl, (refl, λ a. (refl, refl, refl)));
  same = on_err_weaker c.on_signal-in-Latest.result (λ e. ap Latest e) c.on_signal-in-Latest.ensures.same;
})
