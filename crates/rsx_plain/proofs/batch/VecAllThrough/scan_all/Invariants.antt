use Rattle.std.proofs.Common.{◌≡◌, length, take, drop}
use Rattle.rsx_plain.specs.Passes.{GoThrough}
use Rattle.rsx_plain.specs.declared.state.PlainState.TheVariants.{Scan as ScanFrom}
use Rattle.rsx_plain.proofs.batch.VecAllThrough.scan_all.Given as goal

abbrev pub invariant-loop-item : goal.invariant-loop-item
invariant-loop-item g l =
    let i = l.item-index in
    let before = l.fn.self.items in record {
      count : length l.item-items ≡ length before;
      rest : drop i l.item-items ≡ drop i before;
      through : GoThrough (g.O.Ops.meaning l.ops) (ScanFrom l.function l.fn.last) (take i before) (take i l.item-items) (ScanFrom l.function l.last);
    }
