use Rattle.std.proofs.Common.{◌∙◌, sym}
use Rattle.rsx_pipe.specs.Feeding.{next_out}
use Rattle.rsx_graph_state.proofs.Ready.{no_signal}
use Rattle.rsx_graph_state.proofs.feed.Feed.rests.Goals as goal

pub returns-in-None : goal.returns-in-None
returns-in-None g c = λ m e. (c.is_idle.ensures.yes m e, no_signal (next_out g.N.Machine m c.args.self.now.part) (sym (c.next_out.ensures m) ∙ c.in-None.is))
