use Rattle.std.proofs.Common.{◌≡◌, ◌+◌, ◌-◌, ◌++◌, vec_len, vec_capacity}
use Rattle.rsx_sources.specs.Range.{range_from, range_left}
use Rattle.rsx_sources.proofs.range.RangeNodeMachine.residual.Given as goal

abbrev pub invariant-loop-at : goal.invariant-loop-at
invariant-loop-at g l =
    let m = g.O.Ops.meaning l.ops in
    record {
      made : l.left.items ++ range_from m l.self.first l.at l.self.count ≡ range_left m l.self;
      room : vec_capacity l.left ≡ l.self.count - l.self.at;
      counted : vec_len l.left + l.self.at ≡ l.at;
    }
