use Rattle.std.proofs.Common.{◌≡◌, map}
use Rattle.std.specs.Vec.Iter.{drain_items, DrainKeeps}
use Rattle.rsx_session.specs.Kept.{all_taken, known}
use Rattle.rsx_session.proofs.session.take_in_all.Given as goal

-- what is left to take in leads from here to where all the signals lead from the start
abbrev pub invariant-loop-sub : goal.invariant-loop-sub
invariant-loop-sub l = (goal.iterator-loop-sub).can_next l.sub-iterator
    × (goal.iterator-loop-sub).is_finite l.sub-iterator
    × DrainKeeps l.initial.sub-iterator l.sub-iterator
    × (all_taken (drain_items l.sub-iterator) (map known l.records.items) ≡ all_taken (drain_items l.initial.sub-iterator) (map known l.initial.records.items))
