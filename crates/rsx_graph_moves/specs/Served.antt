-- What the subscribers of a graph with feeds got where no move is enabled.
use Rattle.rsx_sources.specs.declared.machine.Machine.{Ghosts as Machine}
use Rattle.std.specs.Prelude.{List, []}
use Rattle.rsx_graph_state.specs.Prelude.{AreValues, History, Rows, AllServed}
use Rattle.rsx_sources.specs.Prelude.{Meaning, Stream}

-- over the values of the hubs, each live subscriber got what it asked for whose expression reads no hub, or each of whose nodes that
-- reads a hub has got all that was published there, where it offers nothing, though more is asked over its edge than it sent, and
-- can make no step
pub record IsServed {M T : Type 0} (mc : Machine M T) (m : Meaning T) (g : Rows M T) (h : History T) : Type 0 where
  pub published : List (Stream T)
  pub values : AreValues mc m g.feeds [] h.hubs published
  pub all : AllServed mc m published g.subs h.pasts
