use Rattle.std.proofs.Common.{◌≡◌}
use Rattle.rsx_graph_state.proofs.Named.{place_from}
use Rattle.rsx_graph_state.specs.Stands.{place_of}
use Rattle.rsx_graph_calls.proofs.feeds.place_of.Given as goal

abbrev pub invariant-loop-at : goal.invariant-loop-at
invariant-loop-at g l = place_from l.at l.feeds l.hub ≡ place_of l.feeds l.hub
