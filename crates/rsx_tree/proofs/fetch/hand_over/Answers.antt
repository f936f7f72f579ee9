use Rattle.std.proofs.Common.{arith, rules}
use Rattle.rsx_types.specs.declared.signal.Signal.TheVariants.{Next}
use Rattle.rsx_tree.proofs.Alike.{alike_before}
use Rattle.rsx_tree.proofs.Fetches.{sent_over}
use Rattle.rsx_tree.proofs.Popped.{unrecorded_out}
use Rattle.rsx_tree.proofs.fetch.hand_over.Goals as goal

pub returns-in-Item : goal.returns-in-Item
returns-in-Item g c = λ offering out.
    let m = g.O.Ops.meaning c.args.ops.now in
    let p = c.in-Item.ensures.passed in
    let last = g.met.M.Machine.popped_alike p.0 (Next c.in-Item.item) c.pass.new.self p.2.popped_out in
    let first = alike_before g.M.Machine c.args.receiver.now p.0 c.pass.new.self c.pass.ensures.alike last in
    let some = c.if-left-eq0.false in (
      p.0,
      omega (arith, some),
      sent_over g.M.Machine m c.args.receiver.now c.args.input c.args.edge.now offering p.0 c.carry.new.self c.args.sender.now c.args.item out p.1 first c.requires c.carry.ensures,
      p.1.goes_on,
      unrecorded_out g.M.Machine m p.0 c.pass.new.self c.in-Item.item p.2 last,
    )

pub returns-then-left-eq0 : goal.returns-then-left-eq0
returns-then-left-eq0 g c = search rules
