use Rattle.std.proofs.Common.{◌≡◌, true, ap, sym}
use Rattle.rsx_sources.specs.Prelude.{quiet, ends_input}
use Rattle.rsx_sources.proofs.Endings.{ending_cuts}
use Rattle.rsx_plain.specs.Node.{plain_ended}
use Rattle.rsx_plain.specs.State.{plain_from}
use Rattle.rsx_plain.proofs.Endings.{ended_none, ended_first, ended_one, ended_second}
use Rattle.rsx_plain.proofs.node.PlainNodeMachine.has_ended.Goals as goal

pub returns-in-None-clause-ended : goal.returns-in-None-clause-ended
returns-in-None-clause-ended g c = ended_none c.args.self.now.slot c.in-None.ensures

pub returns-in-Some-Complete-clause-ended : goal.returns-in-Some-Complete-clause-ended
returns-in-Some-Complete-clause-ended g c = ended_first c.args.self.now.slot c.in-Some-Complete.field-0.now c.in-Some-Complete.ensures (ap ends_input c.in-Some-Complete.field-0-is)

pub returns-in-Some-Complete-clause-closed : goal.returns-in-Some-Complete-clause-closed
returns-in-Some-Complete-clause-closed g c =
    let e : true ≡ plain_ended c.args.self.now = ended_first c.args.self.now.slot c.in-Some-Complete.field-0.now c.in-Some-Complete.ensures (ap ends_input c.in-Some-Complete.field-0-is) in
    λ t m inc other further. ap (quiet further) (ending_cuts c.args.self.now.slot (plain_from m c.args.self.now.state inc.first) (plain_from m c.args.self.now.state other.first) (sym e))

pub returns-in-Some-Error-clause-ended : goal.returns-in-Some-Error-clause-ended
returns-in-Some-Error-clause-ended g c = ended_first c.args.self.now.slot c.in-Some-Error.field-0.now c.in-Some-Error.ensures (ap ends_input c.in-Some-Error.field-0-is)

pub returns-in-Some-Error-clause-closed : goal.returns-in-Some-Error-clause-closed
returns-in-Some-Error-clause-closed g c =
    let e : true ≡ plain_ended c.args.self.now = ended_first c.args.self.now.slot c.in-Some-Error.field-0.now c.in-Some-Error.ensures (ap ends_input c.in-Some-Error.field-0-is) in
    λ t m inc other further. ap (quiet further) (ending_cuts c.args.self.now.slot (plain_from m c.args.self.now.state inc.first) (plain_from m c.args.self.now.state other.first) (sym e))

pub returns-in-None-get-clause-ended : goal.returns-in-None-get-clause-ended
returns-in-None-get-clause-ended g c = ended_one c.args.self.now.slot c.in-Some-Next.field-0.now c.in-Some-Next.ensures (ap ends_input c.in-Some-Next.field-0-is) c.in-None-get.ensures.signal

pub returns-in-Some-Complete-get-clause-ended : goal.returns-in-Some-Complete-get-clause-ended
returns-in-Some-Complete-get-clause-ended g c = ended_second c.args.self.now.slot c.in-Some-Next.field-0.now c.in-Some-Complete-get.field-0.now _ c.get.ensures.most c.in-Some-Next.ensures (ap ends_input c.in-Some-Next.field-0-is) c.in-Some-Complete-get.ensures.signal (ap ends_input c.in-Some-Complete-get.field-0-is)

pub returns-in-Some-Complete-get-clause-closed : goal.returns-in-Some-Complete-get-clause-closed
returns-in-Some-Complete-get-clause-closed g c =
    let e : true ≡ plain_ended c.args.self.now = ended_second c.args.self.now.slot c.in-Some-Next.field-0.now c.in-Some-Complete-get.field-0.now _ c.get.ensures.most c.in-Some-Next.ensures (ap ends_input c.in-Some-Next.field-0-is) c.in-Some-Complete-get.ensures.signal (ap ends_input c.in-Some-Complete-get.field-0-is) in
    λ t m inc other further. ap (quiet further) (ending_cuts c.args.self.now.slot (plain_from m c.args.self.now.state inc.first) (plain_from m c.args.self.now.state other.first) (sym e))

pub returns-in-Some-Error-get-clause-ended : goal.returns-in-Some-Error-get-clause-ended
returns-in-Some-Error-get-clause-ended g c = ended_second c.args.self.now.slot c.in-Some-Next.field-0.now c.in-Some-Error-get.field-0.now _ c.get.ensures.most c.in-Some-Next.ensures (ap ends_input c.in-Some-Next.field-0-is) c.in-Some-Error-get.ensures.signal (ap ends_input c.in-Some-Error-get.field-0-is)

pub returns-in-Some-Error-get-clause-closed : goal.returns-in-Some-Error-get-clause-closed
returns-in-Some-Error-get-clause-closed g c =
    let e : true ≡ plain_ended c.args.self.now = ended_second c.args.self.now.slot c.in-Some-Next.field-0.now c.in-Some-Error-get.field-0.now _ c.get.ensures.most c.in-Some-Next.ensures (ap ends_input c.in-Some-Next.field-0-is) c.in-Some-Error-get.ensures.signal (ap ends_input c.in-Some-Error-get.field-0-is) in
    λ t m inc other further. ap (quiet further) (ending_cuts c.args.self.now.slot (plain_from m c.args.self.now.state inc.first) (plain_from m c.args.self.now.state other.first) (sym e))

pub returns-in-Some-Next-get-clause-ended : goal.returns-in-Some-Next-get-clause-ended
returns-in-Some-Next-get-clause-ended g c = ended_second c.args.self.now.slot c.in-Some-Next.field-0.now c.in-Some-Next-get.field-0.now _ c.get.ensures.most c.in-Some-Next.ensures (ap ends_input c.in-Some-Next.field-0-is) c.in-Some-Next-get.ensures.signal (ap ends_input c.in-Some-Next-get.field-0-is)
