use Rattle.std.proofs.Common.{◌≡◌, true, refl, sym, ap, ◌∙◌, rules}
use Rattle.rsx_types.specs.declared.signal.Signal.TheVariants.{Next, Complete, Error}
use Rattle.rsx_merging.proofs.Chosen.{is_pick, gives_some}
use Rattle.rsx_delayed.specs.MergeDelay.{delayed_picks}
use Rattle.rsx_delayed.proofs.Picked.{item_picked, completion_picked, failure_picked, item_counts, ending_counts}
use Rattle.rsx_delayed.proofs.merge_delay_node.MergeDelayNodeMachine.on_pick.Goals as goal

pub returns-in-Some-Next-clause-ok : goal.returns-in-Some-Next-clause-ok
returns-in-Some-Next-clause-ok g c =
    let n = c.args.self.now in
    let picks : delayed_picks n c.args.input c.args.asked c.args.sent ≡ true = search rules in
    let p = is_pick n.output n.inputs.items c.args.input c.args.asked c.args.sent c.take.result c.in-Some-Next.field-0 (Next c.in-Some-Next.item) c.index_mut.result.now c.take.new.self picks c.index_mut.ensures.value c.take.ensures.signal c.take.ensures.state c.take.ensures.value c.in-Some-Next.is c.in-Some-Next.field-0-is in
    item_picked n.output c.put.new.self n.kept n.inputs.items c.args.input c.in-Some-Next.item c.index_mut.result.now c.take.new.self p c.put.ensures

pub returns-in-Some-Next-clause-counts : goal.returns-in-Some-Next-clause-counts
returns-in-Some-Next-clause-counts g c =
    let n = c.args.self.now in
    let picks : delayed_picks n c.args.input c.args.asked c.args.sent ≡ true = search rules in
    let p = is_pick n.output n.inputs.items c.args.input c.args.asked c.args.sent c.take.result c.in-Some-Next.field-0 (Next c.in-Some-Next.item) c.index_mut.result.now c.take.new.self picks c.index_mut.ensures.value c.take.ensures.signal c.take.ensures.state c.take.ensures.value c.in-Some-Next.is c.in-Some-Next.field-0-is in
    item_counts n _ c.args.input c.in-Some-Next.item c.index_mut.result.now c.take.new.self p refl c.put.ensures

pub returns-in-Some-Complete-clause-ok : goal.returns-in-Some-Complete-clause-ok
returns-in-Some-Complete-clause-ok g c =
    let n = c.args.self.now in
    let picks : delayed_picks n c.args.input c.args.asked c.args.sent ≡ true = search rules in
    let p = is_pick n.output n.inputs.items c.args.input c.args.asked c.args.sent c.take.result c.in-Some-Complete.field-0 Complete c.index_mut.result.now c.take.new.self picks c.index_mut.ensures.value c.take.ensures.signal c.take.ensures.state c.take.ensures.value c.in-Some-Complete.is c.in-Some-Complete.field-0-is in
    completion_picked n.output c.end_input.new.self.output n.kept c.end_input.new.self.kept n.inputs.items c.end_input.new.self.inputs.items c.args.input c.index_mut.result.now c.take.new.self p (ap (λ v. v.items) c.end_input.ensures.inputs) c.end_input.ensures.kept c.end_input.ensures.output

pub returns-in-Some-Complete-clause-counts : goal.returns-in-Some-Complete-clause-counts
returns-in-Some-Complete-clause-counts g c =
    let n = c.args.self.now in
    let picks : delayed_picks n c.args.input c.args.asked c.args.sent ≡ true = search rules in
    let p = is_pick n.output n.inputs.items c.args.input c.args.asked c.args.sent c.take.result c.in-Some-Complete.field-0 Complete c.index_mut.result.now c.take.new.self picks c.index_mut.ensures.value c.take.ensures.signal c.take.ensures.state c.take.ensures.value c.in-Some-Complete.is c.in-Some-Complete.field-0-is in
    ending_counts n _ c.args.input Complete c.index_mut.result.now c.take.new.self n.kept p (ap (λ v. v.items) c.end_input.ensures.inputs) c.end_input.ensures.output

pub returns-in-Some-Error-clause-ok : goal.returns-in-Some-Error-clause-ok
returns-in-Some-Error-clause-ok g c =
    let n = c.args.self.now in
    let picks : delayed_picks n c.args.input c.args.asked c.args.sent ≡ true = search rules in
    let p = is_pick n.output n.inputs.items c.args.input c.args.asked c.args.sent c.take.result c.in-Some-Error.field-0 (Error c.in-Some-Error.cause) c.index_mut.result.now c.take.new.self picks c.index_mut.ensures.value c.take.ensures.signal c.take.ensures.state c.take.ensures.value c.in-Some-Error.is c.in-Some-Error.field-0-is in
    failure_picked n.output c.end_input-in-Some-Error.new.self.output n.kept c.first_cause-self.result c.end_input-in-Some-Error.new.self.kept n.inputs.items c.end_input-in-Some-Error.new.self.inputs.items c.args.input c.in-Some-Error.cause c.index_mut.result.now c.take.new.self p (ap (λ v. v.items) c.end_input-in-Some-Error.ensures.inputs) c.first_cause-self.ensures c.end_input-in-Some-Error.ensures.kept c.end_input-in-Some-Error.ensures.output

pub returns-in-Some-Error-clause-counts : goal.returns-in-Some-Error-clause-counts
returns-in-Some-Error-clause-counts g c =
    let n = c.args.self.now in
    let picks : delayed_picks n c.args.input c.args.asked c.args.sent ≡ true = search rules in
    let p = is_pick n.output n.inputs.items c.args.input c.args.asked c.args.sent c.take.result c.in-Some-Error.field-0 (Error c.in-Some-Error.cause) c.index_mut.result.now c.take.new.self picks c.index_mut.ensures.value c.take.ensures.signal c.take.ensures.state c.take.ensures.value c.in-Some-Error.is c.in-Some-Error.field-0-is in
    ending_counts n _ c.args.input (Error c.in-Some-Error.cause) c.index_mut.result.now c.take.new.self c.first_cause-self.result p (ap (λ v. v.items) c.end_input-in-Some-Error.ensures.inputs) c.end_input-in-Some-Error.ensures.output

pub unreachable-requires : goal.unreachable-requires
unreachable-requires g c =
    let n = c.args.self.now in
    let picks : delayed_picks n c.args.input c.args.asked c.args.sent ≡ true = search rules in
    gives_some n.output n.inputs.items c.args.input c.args.asked c.args.sent c.index_mut.result.now picks c.index_mut.ensures.value (sym c.take.ensures.signal ∙ c.in-None.is)
