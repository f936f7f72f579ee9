use Rattle.std.proofs.Common.{◌≡◌, false, max, ◌++◌}
use Rattle.rsx_types.specs.declared.signal.Ending.TheVariants.{Open}
use Rattle.rsx_hub.specs.Hub.{replayed}
use Rattle.rsx_hub.proofs.hub.Hub.member.Given as goal

abbrev pub invariant-loop-item : goal.invariant-loop-item
invariant-loop-item g l = record {
  copied : l.member.queue ++ l.item-iterator ≡ l.self.kept;
  ending : l.member.ending ≡ Open;
  stays : l.member.gone ≡ false;
  reached : l.member.reached ≡ l.self.count;
  capacity : l.member.capacity ≡ l.self.capacity;
  places : l.member.places ≡ max l.self.capacity (replayed l.self.kind);
}
