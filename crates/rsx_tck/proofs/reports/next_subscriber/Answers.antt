use Rattle.std.proofs.Common.{ℕ, ◌++◌, ◌∷◌, [], Option, take, get_or, subst, sym, ap, ◌∙◌}
use Rattle.std.proofs.lemmas.List.{take_all}
use Rattle.rsx_tck.specs.declared.event.Event.TheVariants.{Subscribe}
use Rattle.rsx_tck.specs.declared.event.Stamped.{Stamped}
use Rattle.rsx_tck.specs.Passes.{BeginsAt, least_from}
use Rattle.rsx_tck.proofs.Prefixes.{longer}
use Rattle.rsx_tck.proofs.Subscribers.{begins_at-more}
use Rattle.rsx_tck.proofs.reports.next_subscriber.Goals as goal

pub loop-stamped-init : goal.loop-stamped-init
loop-stamped-init c = λ i e h. absurd (cc)

pub loop-stamped-preserved : goal.loop-stamped-preserved
loop-stamped-preserved c =
    let t = c.args.trace.now in
    let i = c.loop-stamped.stamped-index in
    let read : Stamped = record { worker = 0; event = Subscribe 0 } in
    longer (λ u. BeginsAt u c.args.from c.lesser_from-least.result) t i read c.loop-stamped-test.true
    (subst (λ (n : Option ℕ). BeginsAt (take i t ++ get_or t i read ∷ []) c.args.from n)
    (ap (λ n. least_from c.args.from n c.loop-stamped.least) (sym c.subscriber.ensures) ∙ sym c.lesser_from-least.ensures)
    (begins_at-more (take i t) (get_or t i read) c.args.from c.loop-stamped.least c.loop-stamped.invariant))

pub returns : goal.returns
returns c =
    subst (λ t. BeginsAt t c.args.from c.loop-stamped.least)
    (take_all c.loop-stamped.stamped-index c.args.trace.now c.loop-stamped-test.false) c.loop-stamped.invariant
