use Rattle.std.proofs.Common.{subst, sym}
use Rattle.rsx_types.specs.declared.signal.Signal.TheVariants.{Next}
use Rattle.rsx_hub.specs.Leaf.{leaf_popped}
use Rattle.rsx_hub.proofs.Leaves.{put_back}
use Rattle.rsx_hub.proofs.leaf.HubLeafMachine.put_back.Goals as goal

pub returns-in-Next : goal.returns-in-Next
returns-in-Next g c before h =
    put_back c.self.inside.hub c.self.inside.missed c.self.inside.before c.self.inside.member c.put_back.new.self c.in-Next.item before c.self.invariant c.put_back.ensures.state
    (subst (λ n. leaf_popped before (Next c.in-Next.item) n) (sym c.self.view_is) (subst (λ s. leaf_popped before s c.args.self.now) c.in-Next.is h))
