use Rattle.std.proofs.Common.{◌≢◌, ℕ, List, ◌∙◌, sym, take, get_or, arith}
use Rattle.rsx_tck.specs.declared.event.Event.TheVariants.{Subscribe}
use Rattle.rsx_tck.specs.declared.event.Stamped.{Stamped}
use Rattle.rsx_tck.specs.Events.{subscriber_of}
use Rattle.rsx_tck.proofs.Prefixes.{shorter, going-on}
use Rattle.rsx_tck.proofs.pass.first_breach.Goals as goal
use Rattle.rsx_tck.proofs.pass.first_breach.Goals.{then-subscriber+in-Nothing, else-subscriber}

pub returns-in-Breaks : goal.returns-in-Breaks
returns-in-Breaks g c = (
  c.loop-position-test.true,
  (λ kept. c.in-Breaks.ensures c.args.subscriber (sym c.subscriber.ensures ∙ c.if-subscriber.true) _
      c.loop-position.invariant.knows c.loop-position.invariant.kept
      (shorter (g.P.Pass.keeps c.args.subscriber) c.args.trace.now c.loop-position.position _ c.loop-position-test.true kept)),
  c.loop-position.invariant.through,
)

pub loop-position-preserved : goal.loop-position-preserved
loop-position-preserved g c =
    let s = c.args.subscriber in
    let t : List Stamped = c.args.trace.now in
    let i : ℕ = c.loop-position.position in
    let read : Stamped = record { worker = 0; event = Subscribe 0 } in
    let invariant = c.loop-position.invariant in
    elim c.if-subscriber.branch [
      | then-subscriber+in-Nothing w ↦
          (let on = going-on (λ (pass : g.row.P.Denot). g.P.Pass.knows pass s) (g.P.Pass.keeps s) t i read
          w.step.new.self c.if-subscriber.pass c.loop-position-test.true invariant.through w.pass-is
          (w.in-Nothing.ensures s (sym c.subscriber.ensures ∙ w.if-subscriber.true) (take i t) invariant.knows invariant.kept) in
          record { knows = on.0; kept = on.1; through = on.2 })
      | else-subscriber w ↦
          (let other : subscriber_of (get_or t i read).event ≢ s = (λ same. w.if-subscriber.false (c.subscriber.ensures ∙ same)) in
          let on = going-on (λ (pass : g.row.P.Denot). g.P.Pass.knows pass s) (g.P.Pass.keeps s) t i read
          c.loop-position.pass c.if-subscriber.pass c.loop-position-test.true invariant.through w.pass-is (
            g.met.P.Pass.knows_on c.loop-position.pass s (take i t) (get_or t i read) other invariant.knows,
            g.met.P.Pass.keeps_on s (take i t) (get_or t i read) other invariant.kept,
          ) in
          record { knows = on.0; kept = on.1; through = on.2 })
    ]

pub returns : goal.returns
returns g c = λ j lt. c.loop-position.invariant.through j (omega arith)

pub loop-position-init : goal.loop-position-init
loop-position-init g c = record {
  knows = c.start-pass.ensures c.args.subscriber;
  kept = g.met.P.Pass.kept_at_first c.args.subscriber;
  through = λ j lt. absurd (omega arith);
}
