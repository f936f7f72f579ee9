use Rattle.rsx_plain.specs.State.{plain_from}
use Rattle.rsx_plain.proofs.Drained.{takes_signal}
use Rattle.rsx_plain.proofs.rest.VecCollected.take_in.Goals as goal

pub returns-in_ok-last-in-Ok-clause-moves : goal.returns-in_ok-last-in-Ok-clause-moves
returns-in_ok-last-in-Ok-clause-moves g c = takes_signal (plain_from (g.O.Ops.meaning c.args.ops.now)) c.args.state.now c.react.new.self c.args.signal _ _ _ _ c.in-Ok.ensures.ok c.in_ok-last-in-Ok.ensures.moves
