use Rattle.rsx_graph_calls.proofs.Sent.{one_each}
use Rattle.rsx_graph_calls.proofs.senders.one_sender_for_each.Goals as goal

pub returns : goal.returns
returns g c = λ crosses receiver e t. one_each crosses receiver e t
