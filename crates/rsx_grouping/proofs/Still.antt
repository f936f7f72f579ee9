-- Nothing can be picked of a groupBy as long as its input goes on and nothing waits.
use Rattle.std.proofs.Common.{◌≡◌, ℕ, ◌==◌, ◌&&◌, Bool, true, false, if◌then◌else◌, slice_get, List, Option, refl}
use Rattle.rsx_sources.specs.Prelude.{NeverSteps}
use Rattle.rsx_queued.specs.Prelude.{is_empty}
use Rattle.rsx_values.specs.declared.limits.TheConstants.{MAIN}
use Rattle.rsx_grouping.specs.GroupBy.{can_pick_from, group_picks}
use Rattle.rsx_grouping.specs.MainState.{is_coming}
use Rattle.rsx_grouping.specs.Rows.{are_quiet, can_pick_at}
use Rattle.rsx_grouping.specs.declared.main_state.MainState.{MainState}
use Rattle.rsx_grouping.specs.declared.main_state.MainState.TheVariants.{Coming, Completed, Failing, Taken}
use Rattle.rsx_grouping.specs.declared.node.GroupByNode.{GroupByNode}
use Rattle.rsx_grouping.specs.declared.table.KeyedLane.{KeyedLane}
use Rattle.rsx_grouping.proofs.MayWait.{none_picked}

and_false : (a b : Bool) → b ≡ false → a && b ≡ false
and_false true b h = h
and_false false b h = refl

main_or : {T : Type 0} (main : Bool) (row : Option (KeyedLane T)) (asked sent : ℕ) → can_pick_at row false asked sent ≡ false → (if main then false else can_pick_at row false asked sent) ≡ false
main_or true row asked sent h = refl
main_or false row asked sent h = h

from_none : {T : Type 0} (rows : List (KeyedLane T)) (main : MainState) (i asked sent : ℕ) → is_coming main ≡ true → are_quiet rows ≡ true → can_pick_from rows main i asked sent ≡ false
from_none rows Coming i asked sent h quiet = main_or (i == MAIN) (slice_get rows i) asked sent (none_picked rows asked sent quiet i)
from_none rows Completed i asked sent h quiet = cc
from_none rows (Failing c) i asked sent h quiet = cc
from_none rows Taken i asked sent h quiet = cc

pub none_steps : {T : Type 0} (n : GroupByNode T) → is_coming n.main ≡ true → are_quiet n.table ≡ true → NeverSteps group_picks (λ n a s. false) n
none_steps n coming quiet asked sent = (λ i. and_false (is_empty n.output) (can_pick_from n.table n.main i asked sent) (from_none n.table n.main i asked sent coming quiet), refl)
