use Rattle.std.proofs.Common.{rules}
use Rattle.rsx_graph_state.specs.Prelude.{rows_of, StandsFor}
use Rattle.rsx_graph_moves.proofs.moves.make.Goals as goal
use Rattle.rsx_graph_moves.proofs.moves.make.Goals.{in-Ask-Sub-default, in-Ask-Sub-default-2, in-Ask-Sub-default-3, in-Ask-Sub-default-4, in-Ask-Feed-default, in-Ask-Feed-default-2, in-Ask-Feed-default-3, in-Ask-Feed-default-4, in-Ask-Feed-default-5}

pub returns-in-Ok-make_in_tree-clause-stands : goal.returns-in-Ok-make_in_tree-clause-stands
returns-in-Ok-make_in_tree-clause-stands g c = λ h s.
    let m = g.O.Ops.meaning c.args.ops.now in
    let new = rows_of c.args.hubs.now.items c.args.feeds.now.items c.make_in_tree.new.subscriptions.items in
    let base : StandsFor g.N.Machine m new h = record { taken = s.taken; many = s.many; each = s.each; hub = s.hub; all = c.in-Ok-make_in_tree.ensures.stands s.taken h.pasts s.all } in
    search (rules, base)

-- one branch for each kind of move
pub returns-in-Ok-make_of_feed-clause-stands : goal.returns-in-Ok-make_of_feed-clause-stands
returns-in-Ok-make_of_feed-clause-stands g c = elim c.in-Ask-Feed-default-1.branch [
  | in-Ask-Feed-default w ↦ search rules
  | in-Ask-Feed-default-2 w ↦ search rules
  | in-Ask-Feed-default-3 w ↦ search rules
  | in-Ask-Feed-default-4 w ↦ search rules
  | in-Ask-Feed-default-5 w ↦ search rules
]

pub returns-in-Ok-make_in_tree-clause-alone : goal.returns-in-Ok-make_in_tree-clause-alone
returns-in-Ok-make_in_tree-clause-alone g c = elim c.in-Ask-Sub-default-1.branch [
  | in-Ask-Sub-default w ↦ search rules
  | in-Ask-Sub-default-2 w ↦ search rules
  | in-Ask-Sub-default-3 w ↦ search rules
  | in-Ask-Sub-default-4 w ↦ search rules
]
