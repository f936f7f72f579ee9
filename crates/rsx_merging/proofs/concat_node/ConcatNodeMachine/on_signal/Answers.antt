use Rattle.std.proofs.Common.{◌≡◌, true, refl, rules}
use Rattle.rsx_sources.specs.Machine.{front_of}
use Rattle.rsx_sources.specs.declared.machine.Front.TheVariants.{Item, Completion, Failure}
use Rattle.rsx_merging.specs.Concat.{concat_takes}
use Rattle.rsx_merging.proofs.Concats.{item_taken, done_taken, failure_taken}
use Rattle.rsx_merging.proofs.Turns.{takeable, its_turn, item_counts, done_counts, failure_counts}
use Rattle.rsx_merging.proofs.concat_node.ConcatNodeMachine.on_signal.Goals as goal

pub returns-in-Next-clause-ok : goal.returns-in-Next-clause-ok
returns-in-Next-clause-ok g c =
    let n = c.args.self.now in
    let i = c.args.input in
    let any : concat_takes n i (front_of c.args.signal) ≡ true = search rules in
    let takes : concat_takes n i (Item) ≡ true = rw c.in-Next.is at any in
    let t = takeable n i (Item) takes in
    rw c.in-Next.is (item_taken n.output c.put.new.self n.endings.items i c.in-Next.item t.empty c.put.ensures (its_turn n i takes) t.open_there)

pub returns-in-Next-clause-counts : goal.returns-in-Next-clause-counts
returns-in-Next-clause-counts g c =
    let n = c.args.self.now in
    let i = c.args.input in
    let any : concat_takes n i (front_of c.args.signal) ≡ true = search rules in
    let takes : concat_takes n i (Item) ≡ true = rw c.in-Next.is at any in
    let t = takeable n i (Item) takes in
    rw c.in-Next.is (item_counts n _ i c.in-Next.item t.empty c.put.ensures refl refl c.saturating_total-self.ensures (its_turn n i takes))

pub returns-in-Complete-clause-ok : goal.returns-in-Complete-clause-ok
returns-in-Complete-clause-ok g c =
    let n = c.args.self.now in
    let i = c.args.input in
    let any : concat_takes n i (front_of c.args.signal) ≡ true = search rules in
    let takes : concat_takes n i (Completion) ≡ true = rw c.in-Complete.is at any in
    let t = takeable n i (Completion) takes in
    rw c.in-Complete.is (done_taken n.output c.end.new.self.output n.endings.items c.end.new.self.endings.items i t.empty c.end.ensures.endings c.end.ensures.output t.open_there)

pub returns-in-Complete-clause-counts : goal.returns-in-Complete-clause-counts
returns-in-Complete-clause-counts g c =
    let n = c.args.self.now in
    let i = c.args.input in
    let any : concat_takes n i (front_of c.args.signal) ≡ true = search rules in
    let takes : concat_takes n i (Completion) ≡ true = rw c.in-Complete.is at any in
    let t = takeable n i (Completion) takes in
    rw c.in-Complete.is (done_counts n c.end.new.self i (record { empty = t.empty; open_there = t.open_there; endings = c.end.ensures.endings; output = c.end.ensures.output; earlier = c.end.ensures.earlier; current = c.end.ensures.current }))

pub returns-in-Error-clause-ok : goal.returns-in-Error-clause-ok
returns-in-Error-clause-ok g c =
    let n = c.args.self.now in
    let i = c.args.input in
    let any : concat_takes n i (front_of c.args.signal) ≡ true = search rules in
    let takes : concat_takes n i (Failure c.in-Error.cause) ≡ true = rw c.in-Error.is at any in
    let t = takeable n i (Failure c.in-Error.cause) takes in
    rw c.in-Error.is (failure_taken n.output c.end-in-Error.new.self.output n.endings.items c.end-in-Error.new.self.endings.items i c.in-Error.cause t.empty c.end-in-Error.ensures.endings c.end-in-Error.ensures.output t.open_there)

pub returns-in-Error-clause-counts : goal.returns-in-Error-clause-counts
returns-in-Error-clause-counts g c =
    let n = c.args.self.now in
    let i = c.args.input in
    let any : concat_takes n i (front_of c.args.signal) ≡ true = search rules in
    let takes : concat_takes n i (Failure c.in-Error.cause) ≡ true = rw c.in-Error.is at any in
    let t = takeable n i (Failure c.in-Error.cause) takes in
    rw c.in-Error.is (failure_counts n c.end-in-Error.new.self i c.in-Error.cause (record { empty = t.empty; open_there = t.open_there; endings = c.end-in-Error.ensures.endings; output = c.end-in-Error.ensures.output; earlier = c.end-in-Error.ensures.earlier; current = c.end-in-Error.ensures.current }))
