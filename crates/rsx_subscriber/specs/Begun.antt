-- A subscription that has just begun.
use Rattle.std.specs.Prelude.{◌≡◌, true, false, [], ◌∷◌}
use Rattle.rsx_model.specs.declared.expr.Expr.{Expr}
use Rattle.rsx_subscription.specs.declared.State.TheVariants.{Open}
use Rattle.rsx_subscriber.specs.declared.subscription.Subscription.{Subscription}
use Rattle.rsx_pipe.specs.Built.{fresh_edge, fresh_edges}
use Rattle.rsx_pipe.specs.Crossings.{IsPlaced}
use Rattle.rsx_pipe.specs.Part.{all_edges}
use Rattle.rsx_sources.specs.declared.machine.Machine.{Ghosts as Machine}

-- nothing was asked and nothing sent or delivered, and what a node that has put out its ending closes is closed
pub record IsFresh {M T : Type 0} (mc : Machine M T) (e : Expr T) (sub : Subscription M T) : Type 0 where
  pub edges : all_edges sub.part ≡ fresh_edge ∷ fresh_edges e
  -- the edges below the root have a queue just where they join two regions
  pub placed : IsPlaced mc.crosses e false sub.part.tree
  pub queue : sub.queue ≡ []
  pub state : sub.state ≡ Open
  pub live : sub.live ≡ true
  pub asked : sub.demand.asked ≡ 0
  pub delivered : sub.demand.sent ≡ 0
