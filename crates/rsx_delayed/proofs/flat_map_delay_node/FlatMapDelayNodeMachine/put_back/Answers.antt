use Rattle.std.proofs.Common.{sym}
use Rattle.rsx_delayed.proofs.flat_map_delay_node.FlatMapDelayNodeMachine.put_back.Goals as goal

pub returns : goal.returns
returns g c before h = λ i. record { flat = c.put_back.ensures before.flat h.0 i; kept = sym h.1 i }
