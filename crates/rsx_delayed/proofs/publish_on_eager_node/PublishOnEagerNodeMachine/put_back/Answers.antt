use Rattle.std.proofs.Common.{subst, sym}
use Rattle.rsx_merging.specs.PublishOn.{publish_popped}
use Rattle.rsx_delayed.proofs.EagerMoves.{put_before}
use Rattle.rsx_delayed.proofs.publish_on_eager_node.PublishOnEagerNodeMachine.put_back.Goals as goal

pub returns : goal.returns
returns g c before h =
    put_before before c.args.self.now _ c.args.signal h (λ b popped. c.put_back.ensures b (subst (λ k. publish_popped b c.args.signal k) (sym c.forget.ensures.held) popped)) c.forget.ensures.chosen c.forget.ensures.choices
