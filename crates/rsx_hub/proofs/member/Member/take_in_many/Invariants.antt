use Rattle.std.proofs.Common.{◌≡◌}
use Rattle.rsx_hub.proofs.Moving.{HavePlaces, IsMoving}
use Rattle.rsx_hub.proofs.member.Member.take_in_many.Given as goal

abbrev pub invariant-loop-taken : goal.invariant-loop-taken
invariant-loop-taken g l = record {
  moving : IsMoving l.taken l.initial.self-inside.queue.items l.self-inside.queue.items l.initial.items.items l.items.items;
  places : HavePlaces l.fewer l.initial.self-inside.queue.items l.initial.items.items l.self-inside.queue.capacity;
  stored : l.self-inside.queue.capacity ≡ l.initial.self-inside.queue.capacity;
  ending : l.self-inside.ending ≡ l.initial.self-inside.ending;
  gone : l.self-inside.gone ≡ l.initial.self-inside.gone;
  reached : l.self-inside.reached ≡ l.initial.self-inside.reached;
  capacity : l.self-inside.capacity ≡ l.initial.self-inside.capacity;
}
