use Rattle.std.proofs.Common.{◌≡◌, ◌&&◌, true, false, refl, sym, ap, ◌∙◌, rules}
use Rattle.std.proofs.lemmas.Bool.{and_parts}
use Rattle.rsx_sources.specs.Prelude.{Next, Complete, Error, is_nil}
use Rattle.rsx_queued.specs.Output.{has_ending}
use Rattle.rsx_merging.specs.FlatMap.{flat_picks}
use Rattle.rsx_merging.proofs.Places.{placed_taken}
use Rattle.rsx_merging.proofs.Picked.{is_pick, item_picked, completion_picked, last_picked, failure_picked, gives_some, item_counts, completion_counts, ending_counts}
use Rattle.rsx_merging.proofs.flat_map_node.FlatMapNodeMachine.on_pick.Goals as goal

pub returns-in-Some-Next-clause-ok : goal.returns-in-Some-Next-clause-ok
returns-in-Some-Next-clause-ok g c =
    let n = c.args.self.now in
    let picks : flat_picks n c.args.input c.args.asked c.args.sent ≡ true = search rules in
    let p = is_pick n c.args.input c.args.asked c.args.sent c.take_at.result c.in-Some-Next.field-0 (Next c.in-Some-Next.item) c.take_at.new.self picks (placed_taken c.args.input n.lanes c.in-Some.at c.take_at.result c.take_at.new.self c.in-Some.ensures.place c.take_at.ensures) c.in-Some-Next.is c.in-Some-Next.field-0-is in
    item_picked (g.O.Ops.meaning c.args.ops.now) n c.args.input c.in-Some-Next.item c.take_at.new.self c.put.new.self c.push.new.self p c.put.ensures

pub returns-in-Some-Next-clause-counts : goal.returns-in-Some-Next-clause-counts
returns-in-Some-Next-clause-counts g c =
    let n = c.args.self.now in
    let picks : flat_picks n c.args.input c.args.asked c.args.sent ≡ true = search rules in
    let p = is_pick n c.args.input c.args.asked c.args.sent c.take_at.result c.in-Some-Next.field-0 (Next c.in-Some-Next.item) c.take_at.new.self picks (placed_taken c.args.input n.lanes c.in-Some.at c.take_at.result c.take_at.new.self c.in-Some.ensures.place c.take_at.ensures) c.in-Some-Next.is c.in-Some-Next.field-0-is in
    item_counts n c.args.input c.in-Some-Next.item c.take_at.new.self c.put.new.self c.push.new.self p c.put.ensures

pub returns-else-is_gone-clause-ok : goal.returns-else-is_gone-clause-ok
returns-else-is_gone-clause-ok g c =
    let n = c.args.self.now in
    let picks : flat_picks n c.args.input c.args.asked c.args.sent ≡ true = search rules in
    let p = is_pick n c.args.input c.args.asked c.args.sent c.take_at.result c.in-Some-Complete.field-0 Complete c.take_at.new.self picks (placed_taken c.args.input n.lanes c.in-Some.at c.take_at.result c.take_at.new.self c.in-Some.ensures.place c.take_at.ensures) c.in-Some-Complete.is c.in-Some-Complete.field-0-is in
    completion_picked (g.O.Ops.meaning c.args.ops.now) n c.args.input c.take_at.new.self c.push.new.self p

pub returns-else-is_gone-clause-counts : goal.returns-else-is_gone-clause-counts
returns-else-is_gone-clause-counts g c =
    let n = c.args.self.now in
    let picks : flat_picks n c.args.input c.args.asked c.args.sent ≡ true = search rules in
    let p = is_pick n c.args.input c.args.asked c.args.sent c.take_at.result c.in-Some-Complete.field-0 Complete c.take_at.new.self picks (placed_taken c.args.input n.lanes c.in-Some.at c.take_at.result c.take_at.new.self c.in-Some.ensures.place c.take_at.ensures) c.in-Some-Complete.is c.in-Some-Complete.field-0-is in
    let some : n.closed && is_nil c.take_at.new.self ≡ false = sym c.is_gone.ensures ∙ c.if-is_gone.false in
    completion_counts n c.args.input c.take_at.new.self c.push.new.self p some

pub returns-then-is_gone-clause-ok : goal.returns-then-is_gone-clause-ok
returns-then-is_gone-clause-ok g c =
    let n = c.args.self.now in
    let picks : flat_picks n c.args.input c.args.asked c.args.sent ≡ true = search rules in
    let p = is_pick n c.args.input c.args.asked c.args.sent c.take_at.result c.in-Some-Complete.field-0 Complete c.take_at.new.self picks (placed_taken c.args.input n.lanes c.in-Some.at c.take_at.result c.take_at.new.self c.in-Some.ensures.place c.take_at.ensures) c.in-Some-Complete.is c.in-Some-Complete.field-0-is in
    let gone : n.closed && is_nil c.take_at.new.self ≡ true = sym c.is_gone.ensures ∙ c.if-is_gone.true in
    last_picked (g.O.Ops.meaning c.args.ops.now) n c.args.input c.take_at.new.self c.put-then-is_gone.new.self c.push.new.self p c.put-then-is_gone.ensures (and_parts n.closed (is_nil c.take_at.new.self) gone).0 (and_parts n.closed (is_nil c.take_at.new.self) gone).1

pub returns-then-is_gone-clause-counts : goal.returns-then-is_gone-clause-counts
returns-then-is_gone-clause-counts g c =
    let n = c.args.self.now in
    let picks : flat_picks n c.args.input c.args.asked c.args.sent ≡ true = search rules in
    let p = is_pick n c.args.input c.args.asked c.args.sent c.take_at.result c.in-Some-Complete.field-0 Complete c.take_at.new.self picks (placed_taken c.args.input n.lanes c.in-Some.at c.take_at.result c.take_at.new.self c.in-Some.ensures.place c.take_at.ensures) c.in-Some-Complete.is c.in-Some-Complete.field-0-is in
    ending_counts n _ p.empty (ap has_ending c.put-then-is_gone.ensures) (λ d. d)

pub returns-in-Some-Error-clause-ok : goal.returns-in-Some-Error-clause-ok
returns-in-Some-Error-clause-ok g c =
    let n = c.args.self.now in
    let picks : flat_picks n c.args.input c.args.asked c.args.sent ≡ true = search rules in
    let p = is_pick n c.args.input c.args.asked c.args.sent c.take_at.result c.in-Some-Error.field-0 (Error c.in-Some-Error.cause) c.take_at.new.self picks (placed_taken c.args.input n.lanes c.in-Some.at c.take_at.result c.take_at.new.self c.in-Some.ensures.place c.take_at.ensures) c.in-Some-Error.is c.in-Some-Error.field-0-is in
    failure_picked (g.O.Ops.meaning c.args.ops.now) n c.args.input c.in-Some-Error.cause c.take_at.new.self c.clear.new.self c.put-in-Some-Error.new.self c.push.new.self p c.put-in-Some-Error.ensures

pub returns-in-Some-Error-clause-counts : goal.returns-in-Some-Error-clause-counts
returns-in-Some-Error-clause-counts g c =
    let n = c.args.self.now in
    let picks : flat_picks n c.args.input c.args.asked c.args.sent ≡ true = search rules in
    let p = is_pick n c.args.input c.args.asked c.args.sent c.take_at.result c.in-Some-Error.field-0 (Error c.in-Some-Error.cause) c.take_at.new.self picks (placed_taken c.args.input n.lanes c.in-Some.at c.take_at.result c.take_at.new.self c.in-Some.ensures.place c.take_at.ensures) c.in-Some-Error.is c.in-Some-Error.field-0-is in
    ending_counts n _ p.empty (ap has_ending c.put-in-Some-Error.ensures) (λ d. refl)

pub unreachable-requires : goal.unreachable-requires
unreachable-requires g c =
    let n = c.args.self.now in
    let picks : flat_picks n c.args.input c.args.asked c.args.sent ≡ true = search rules in
    gives_some n c.args.input c.args.asked c.args.sent c.take_at.result c.take_at.new.self picks (placed_taken c.args.input n.lanes c.in-Some.at c.take_at.result c.take_at.new.self c.in-Some.ensures.place c.take_at.ensures) c.in-None-take_at.is
