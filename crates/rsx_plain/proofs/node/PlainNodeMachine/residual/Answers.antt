use Rattle.std.proofs.Common.{◌≡◌, ◌++◌, ◌∷◌, [], ap, ◌∙◌, refl, arith, rules}
use Rattle.rsx_sources.specs.Prelude.{signal_then, incoming_of}
use Rattle.rsx_plain.proofs.Residuals.{ends_here, after_item, after_none, rest_behind, first_is, first_none}
use Rattle.rsx_plain.proofs.node.PlainNodeMachine.residual.Goals as goal
use Rattle.rsx_plain.proofs.node.PlainNodeMachine.residual.Goals.{in-Some-Next+in_ok-copy-in-Some-Next+in_ok-push-in-Some-Next, in-None}

pub returns-in-Some-Complete : goal.returns-in-Some-Complete
returns-in-Some-Complete g c hubs further behind =
    ends_here (g.O.Ops.meaning c.args.ops.now) c.args.self.now (incoming_of hubs c.args.incoming.now) c.loop-at.out.items c.loop-at.at c.in-Some-Complete.field-0.now _ c.new.result c.loop-at.invariant
    c.in-Some-Complete.ensures.signal (λ v. ap (λ t. signal_then t v) c.in-Some-Complete.field-0-is) c.new.ensures.items c.new.ensures.ending further

pub returns-in-Some-Error : goal.returns-in-Some-Error
returns-in-Some-Error g c hubs further behind =
    ends_here (g.O.Ops.meaning c.args.ops.now) c.args.self.now (incoming_of hubs c.args.incoming.now) c.loop-at.out.items c.loop-at.at c.in-Some-Error.field-0.now _ c.new-in-Some-Error.result c.loop-at.invariant
    c.in-Some-Error.ensures.signal (λ v. ap (λ t. signal_then t v) c.in-Some-Error.field-0-is) c.new-in-Some-Error.ensures.items c.new-in-Some-Error.ensures.ending further

pub loop-at-preserved : goal.loop-at-preserved
loop-at-preserved g c =
    elim c.match-get.branch [
      | in-Some-Next+in_ok-copy-in-Some-Next+in_ok-push-in-Some-Next w ↦
          (let e : c.match-get.out.items ≡ c.loop-at.out.items ++ w.in-Some-Next.item ∷ [] = search rules in
          after_item c.loop-at.out.items c.match-get.out.items c.loop-at.at c.args.self.now.slot w.in-Some-Next.field-0.now w.in-Some-Next.item c.loop-at.invariant w.in-Some-Next.ensures.signal w.in-Some-Next.field-0-is e)
      | in-None w ↦
          (let e : c.match-get.out.items ≡ c.loop-at.out.items = search rules in
          rw e (after_none c.loop-at.out.items c.loop-at.at c.args.self.now.slot c.loop-at.invariant (search rules)))
    ]

pub returns-in-Some : goal.returns-in-Some
returns-in-Some g c =
    rest_behind (g.O.Ops.meaning c.args.ops.now) c.args.self.now c.args.inboxes.now c.args.incoming.now c.loop-at.out.items c.loop-at.at _ c.rest.result c.loop-at.invariant
    (omega arith) (λ hubs. first_is hubs c.args.incoming.now c.in-Some.value.now c.in-Some.ensures.value ∙ rw (c.items.ensures, c.ending.ensures) refl) c.rest.ensures

pub returns-in-None-first : goal.returns-in-None-first
returns-in-None-first g c =
    rest_behind (g.O.Ops.meaning c.args.ops.now) c.args.self.now c.args.inboxes.now c.args.incoming.now c.loop-at.out.items c.loop-at.at _ c.rest-in-None-first.result c.loop-at.invariant
    (omega arith) (λ hubs. first_none hubs c.args.incoming.now c.in-None-first.ensures.value) c.rest-in-None-first.ensures
