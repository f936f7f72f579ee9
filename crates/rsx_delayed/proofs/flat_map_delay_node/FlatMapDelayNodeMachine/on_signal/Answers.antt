use Rattle.std.proofs.Common.{◌≡◌, ◌<◌, refl, rules, arith, Err}
use Rattle.rsx_sources.specs.Prelude.{Function, Done, Failed, Next, Complete, Error}
use Rattle.rsx_merging.specs.Coming.{lane_answer}
use Rattle.rsx_merging.proofs.Coming.{lane_fault}
use Rattle.rsx_delayed.proofs.FlatTaken.{lane_comes_in, main_comes_in, lane_counts_in, main_counts_in}
use Rattle.rsx_delayed.proofs.flat_map_delay_node.FlatMapDelayNodeMachine.on_signal.Goals as goal

pub returns-in-Ok-add_lane-clause-ok : goal.returns-in-Ok-add_lane-clause-ok
returns-in-Ok-add_lane-clause-ok g c =
    let n = c.args.self.now in
    lane_comes_in (g.O.Ops.meaning c.args.ops.now) n c.add_lane.new.self c.args.input c.args.signal c.in-Next.item c.in-Ok.value c.if-input-ne0.false c.in-Next.is c.if-self.false c.in-Ok.ensures.answer c.in-Ok-add_lane.ensures.ok

pub returns-in-Ok-add_lane-clause-counts : goal.returns-in-Ok-add_lane-clause-counts
returns-in-Ok-add_lane-clause-counts g c =
    let n = c.args.self.now in
    let few : n.flat.next < 18446744073709551615 = c.in-Ok-add_lane.ensures.number in
    lane_counts_in n c.add_lane.new.self c.args.input c.args.signal c.in-Next.item c.in-Ok.value c.if-input-ne0.false c.in-Next.is c.if-self.false (omega (arith, few)) c.in-Ok.ensures.ended c.in-Ok-add_lane.ensures.ok

pub returns-in-Ok-close-clause-ok : goal.returns-in-Ok-close-clause-ok
returns-in-Ok-close-clause-ok g c =
    let n = c.args.self.now in
    let m = g.O.Ops.meaning c.args.ops.now in
    let answer : lane_answer m n.flat.expansion.function n.flat.expansion.stages.items c.in-Next.item ≡ Err c.in-Err-Code.fault = search rules in
    main_comes_in m n c.close.new.self c.args.input c.args.signal (Next c.in-Next.item) (Failed (Function c.in-Err-Code.fault)) c.if-input-ne0.false c.in-Next.is c.if-self.false
    (λ v. lane_fault m n.flat.expansion.function n.flat.expansion.stages.items n.flat.next c.in-Next.item v.items v.ending c.in-Err-Code.fault answer) c.in-Ok-close.ensures.ok

pub returns-in-Ok-close-clause-counts : goal.returns-in-Ok-close-clause-counts
returns-in-Ok-close-clause-counts g c =
    main_counts_in c.args.self.now c.close.new.self c.args.input c.args.signal (Failed (Function c.in-Err-Code.fault)) c.if-input-ne0.false refl c.in-Ok-close.ensures.ok

pub returns-in-Ok-close-2-clause-ok : goal.returns-in-Ok-close-2-clause-ok
returns-in-Ok-close-2-clause-ok g c =
    main_comes_in (g.O.Ops.meaning c.args.ops.now) c.args.self.now c.close-in-Complete.new.self c.args.input c.args.signal Complete Done c.if-input-ne0.false c.in-Complete.is c.if-self.false (λ v. refl) c.in-Ok-close-2.ensures.ok

pub returns-in-Ok-close-2-clause-counts : goal.returns-in-Ok-close-2-clause-counts
returns-in-Ok-close-2-clause-counts g c =
    main_counts_in c.args.self.now c.close-in-Complete.new.self c.args.input c.args.signal Done c.if-input-ne0.false refl c.in-Ok-close-2.ensures.ok

pub returns-in-Ok-close-3-clause-ok : goal.returns-in-Ok-close-3-clause-ok
returns-in-Ok-close-3-clause-ok g c =
    main_comes_in (g.O.Ops.meaning c.args.ops.now) c.args.self.now c.close-in-Error.new.self c.args.input c.args.signal (Error c.in-Error.cause) (Failed c.in-Error.cause) c.if-input-ne0.false c.in-Error.is c.if-self.false (λ v. refl) c.in-Ok-close-3.ensures.ok

pub returns-in-Ok-close-3-clause-counts : goal.returns-in-Ok-close-3-clause-counts
returns-in-Ok-close-3-clause-counts g c =
    main_counts_in c.args.self.now c.close-in-Error.new.self c.args.input c.args.signal (Failed c.in-Error.cause) c.if-input-ne0.false refl c.in-Ok-close-3.ensures.ok
