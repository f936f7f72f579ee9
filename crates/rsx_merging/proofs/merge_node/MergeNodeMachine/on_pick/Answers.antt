use Rattle.std.proofs.lemmas.Grind.{common_steps}
use Rattle.std.proofs.Common.{◌≡◌, true, refl, sym, ◌∙◌, rules, arith}
use Rattle.rsx_types.specs.declared.signal.Signal.TheVariants.{Next, Complete, Error}
use Rattle.rsx_merging.specs.Merge.{merge_picks}
use Rattle.rsx_merging.proofs.Chosen.{is_pick, item_picked, completion_picked, last_picked, failure_picked, gives_some, item_counts, completion_counts, last_counts, failure_counts}
use Rattle.rsx_merging.proofs.merge_node.MergeNodeMachine.on_pick.Goals as goal

pub returns-in-Some-Next-clause-ok : goal.returns-in-Some-Next-clause-ok
returns-in-Some-Next-clause-ok g c =
    let n = c.args.self.now in
    let picks : merge_picks n c.args.input c.args.asked c.args.sent ≡ true = search rules in
    let p = is_pick n.output n.inputs.items c.args.input c.args.asked c.args.sent c.take.result c.in-Some-Next.field-0 (Next c.in-Some-Next.item) c.index_mut.result.now c.take.new.self picks c.index_mut.ensures.value c.take.ensures.signal c.take.ensures.state c.take.ensures.value c.in-Some-Next.is c.in-Some-Next.field-0-is in
    item_picked n.output c.put.new.self n.inputs.items c.args.input c.in-Some-Next.item c.index_mut.result.now c.take.new.self p c.put.ensures

pub returns-in-Some-Next-clause-counts : goal.returns-in-Some-Next-clause-counts
returns-in-Some-Next-clause-counts g c =
    let n = c.args.self.now in
    let picks : merge_picks n c.args.input c.args.asked c.args.sent ≡ true = search rules in
    let p = is_pick n.output n.inputs.items c.args.input c.args.asked c.args.sent c.take.result c.in-Some-Next.field-0 (Next c.in-Some-Next.item) c.index_mut.result.now c.take.new.self picks c.index_mut.ensures.value c.take.ensures.signal c.take.ensures.state c.take.ensures.value c.in-Some-Next.is c.in-Some-Next.field-0-is in
    item_counts n _ c.args.input c.in-Some-Next.item c.index_mut.result.now c.take.new.self p refl c.put.ensures

pub returns-else-are_gone-clause-ok : goal.returns-else-are_gone-clause-ok
returns-else-are_gone-clause-ok g c =
    let n = c.args.self.now in
    let picks : merge_picks n c.args.input c.args.asked c.args.sent ≡ true = search rules in
    let p = is_pick n.output n.inputs.items c.args.input c.args.asked c.args.sent c.take.result c.in-Some-Complete.field-0 Complete c.index_mut.result.now c.take.new.self picks c.index_mut.ensures.value c.take.ensures.signal c.take.ensures.state c.take.ensures.value c.in-Some-Complete.is c.in-Some-Complete.field-0-is in
    completion_picked n.output n.inputs.items c.args.input c.index_mut.result.now c.take.new.self p

pub returns-else-are_gone-clause-counts : goal.returns-else-are_gone-clause-counts
returns-else-are_gone-clause-counts g c =
    let n = c.args.self.now in
    let picks : merge_picks n c.args.input c.args.asked c.args.sent ≡ true = search rules in
    let p = is_pick n.output n.inputs.items c.args.input c.args.asked c.args.sent c.take.result c.in-Some-Complete.field-0 Complete c.index_mut.result.now c.take.new.self picks c.index_mut.ensures.value c.take.ensures.signal c.take.ensures.state c.take.ensures.value c.in-Some-Complete.is c.in-Some-Complete.field-0-is in
    completion_counts n _ c.args.input c.index_mut.result.now c.take.new.self p refl refl (search rules)

pub returns-then-are_gone-clause-ok : goal.returns-then-are_gone-clause-ok
returns-then-are_gone-clause-ok g c =
    let n = c.args.self.now in
    let picks : merge_picks n c.args.input c.args.asked c.args.sent ≡ true = search rules in
    let p = is_pick n.output n.inputs.items c.args.input c.args.asked c.args.sent c.take.result c.in-Some-Complete.field-0 Complete c.index_mut.result.now c.take.new.self picks c.index_mut.ensures.value c.take.ensures.signal c.take.ensures.state c.take.ensures.value c.in-Some-Complete.is c.in-Some-Complete.field-0-is in
    last_picked n.output c.put-then-are_gone.new.self n.inputs.items c.args.input c.index_mut.result.now c.take.new.self p c.put-then-are_gone.ensures (search rules)

pub returns-then-are_gone-clause-counts : goal.returns-then-are_gone-clause-counts
returns-then-are_gone-clause-counts g c =
    let n = c.args.self.now in
    let picks : merge_picks n c.args.input c.args.asked c.args.sent ≡ true = search rules in
    let p = is_pick n.output n.inputs.items c.args.input c.args.asked c.args.sent c.take.result c.in-Some-Complete.field-0 Complete c.index_mut.result.now c.take.new.self picks c.index_mut.ensures.value c.take.ensures.signal c.take.ensures.state c.take.ensures.value c.in-Some-Complete.is c.in-Some-Complete.field-0-is in
    last_counts n _ c.args.input c.index_mut.result.now c.take.new.self p refl c.put-then-are_gone.ensures

pub returns-in-Some-Error-clause-ok : goal.returns-in-Some-Error-clause-ok
returns-in-Some-Error-clause-ok g c =
    let n = c.args.self.now in
    let picks : merge_picks n c.args.input c.args.asked c.args.sent ≡ true = search rules in
    let p = is_pick n.output n.inputs.items c.args.input c.args.asked c.args.sent c.take.result c.in-Some-Error.field-0 (Error c.in-Some-Error.cause) c.index_mut.result.now c.take.new.self picks c.index_mut.ensures.value c.take.ensures.signal c.take.ensures.state c.take.ensures.value c.in-Some-Error.is c.in-Some-Error.field-0-is in
    failure_picked n.output c.put-in-Some-Error.new.self n.inputs.items c.clear.new.self.items c.args.input c.in-Some-Error.cause c.index_mut.result.now c.take.new.self p c.put-in-Some-Error.ensures

pub returns-in-Some-Error-clause-counts : goal.returns-in-Some-Error-clause-counts
returns-in-Some-Error-clause-counts g c =
    let n = c.args.self.now in
    let picks : merge_picks n c.args.input c.args.asked c.args.sent ≡ true = search rules in
    let p = is_pick n.output n.inputs.items c.args.input c.args.asked c.args.sent c.take.result c.in-Some-Error.field-0 (Error c.in-Some-Error.cause) c.index_mut.result.now c.take.new.self picks c.index_mut.ensures.value c.take.ensures.signal c.take.ensures.state c.take.ensures.value c.in-Some-Error.is c.in-Some-Error.field-0-is in
    failure_counts n _ c.args.input c.in-Some-Error.cause c.index_mut.result.now c.take.new.self p c.clear.ensures.items c.put-in-Some-Error.ensures

pub unreachable-requires : goal.unreachable-requires
unreachable-requires g c =
    let n = c.args.self.now in
    let picks : merge_picks n c.args.input c.args.asked c.args.sent ≡ true = search rules in
    gives_some n.output n.inputs.items c.args.input c.args.asked c.args.sent c.index_mut.result.now picks c.index_mut.ensures.value (sym c.take.ensures.signal ∙ c.in-None.is)

pub returns-then-not-can_pick-clause-err : goal.returns-then-not-can_pick-clause-err
returns-then-not-can_pick-clause-err g c = search rules

pub returns-then-not-can_pick-clause-same : goal.returns-then-not-can_pick-clause-same
returns-then-not-can_pick-clause-same g c = search rules

pub returns-then-not-can_pick-clause-joined : goal.returns-then-not-can_pick-clause-joined
returns-then-not-can_pick-clause-joined g c = search rules

pub returns-in-Err-clause-err : goal.returns-in-Err-clause-err
returns-in-Err-clause-err g c = search rules

pub returns-in-Err-clause-same : goal.returns-in-Err-clause-same
returns-in-Err-clause-same g c = search rules

pub returns-in-Err-clause-joined : goal.returns-in-Err-clause-joined
returns-in-Err-clause-joined g c = search rules

pub put-requires : goal.put-requires
put-requires g c = search rules

pub put-requires-then-are_gone : goal.put-requires-then-are_gone
put-requires-then-are_gone g c = search rules

pub returns-then-are_gone-clause-enabled : goal.returns-then-are_gone-clause-enabled
returns-then-are_gone-clause-enabled g c = search rules

pub returns-then-are_gone-clause-recorded : goal.returns-then-are_gone-clause-recorded
returns-then-are_gone-clause-recorded g c = search rules

pub returns-then-are_gone-clause-composes : goal.returns-then-are_gone-clause-composes
returns-then-are_gone-clause-composes g c = grind (arith, common_steps) steps 1000000

pub put-requires-in-Some-Error : goal.put-requires-in-Some-Error
put-requires-in-Some-Error g c = search rules

pub unreachable-unreachable : goal.unreachable-unreachable
unreachable-unreachable g c = search rules

pub returns-in-Some-Next-clause-enabled : goal.returns-in-Some-Next-clause-enabled
returns-in-Some-Next-clause-enabled g c = search rules

pub returns-in-Some-Next-clause-recorded : goal.returns-in-Some-Next-clause-recorded
returns-in-Some-Next-clause-recorded g c = search rules

pub returns-in-Some-Next-clause-composes : goal.returns-in-Some-Next-clause-composes
returns-in-Some-Next-clause-composes g c = grind (arith, common_steps) steps 1000000

pub returns-else-are_gone-clause-enabled : goal.returns-else-are_gone-clause-enabled
returns-else-are_gone-clause-enabled g c = search rules

pub returns-else-are_gone-clause-recorded : goal.returns-else-are_gone-clause-recorded
returns-else-are_gone-clause-recorded g c = search rules

pub returns-else-are_gone-clause-composes : goal.returns-else-are_gone-clause-composes
returns-else-are_gone-clause-composes g c = grind (arith, common_steps) steps 1000000

pub returns-in-Some-Error-clause-enabled : goal.returns-in-Some-Error-clause-enabled
returns-in-Some-Error-clause-enabled g c = search rules

pub returns-in-Some-Error-clause-recorded : goal.returns-in-Some-Error-clause-recorded
returns-in-Some-Error-clause-recorded g c = search rules

pub returns-in-Some-Error-clause-composes : goal.returns-in-Some-Error-clause-composes
returns-in-Some-Error-clause-composes g c = grind (arith, common_steps) steps 1000000
