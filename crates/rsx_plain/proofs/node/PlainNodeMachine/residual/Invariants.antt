use Rattle.std.proofs.Common.{◌≡◌, drop}
use Rattle.rsx_types.specs.Stream.{Stream, items_then, signals_then}
use Rattle.rsx_plain.proofs.node.PlainNodeMachine.residual.Given as goal

abbrev pub invariant-loop-at : goal.invariant-loop-at
invariant-loop-at g l =
    (v : Stream g.row.T.Denot) → items_then l.out.items (signals_then (drop l.at l.self.slot) v) ≡ signals_then l.self.slot v
