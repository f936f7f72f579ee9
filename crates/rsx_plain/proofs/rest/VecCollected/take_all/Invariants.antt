use Rattle.std.proofs.Common.{◌≡◌, false, drop}
use Rattle.rsx_types.specs.Stream.{items_then}
use Rattle.rsx_plain.specs.State.{plain_from, is_over}
use Rattle.rsx_plain.proofs.rest.VecCollected.take_all.Given as goal

abbrev pub invariant-loop-item : goal.invariant-loop-item
invariant-loop-item g l =
    let m = g.O.Ops.meaning l.ops in
    record {
      whole : items_then l.self.items (plain_from m l.state (record { items = drop l.item-index l.items; ending = l.ending })) ≡ items_then l.fn.self.items (plain_from m l.fn.state (record { items = l.items; ending = l.ending }));
      goes_on : is_over l.state ≡ false;
    }
