-- The law of rest holds of every kind of node, and of each node of a tree.
use Rattle.std.proofs.Common.{◌≡◌, ℕ, ◌<◌, false, List, ◌∷◌, Some, None, refl}
use Rattle.rsx_sources.specs.Prelude.{Open, Meaning, unchosen, ended_by, AreWithin, Incoming}
use Rattle.rsx_kinds.specs.Several.{several_comes_out, several_counted, several_done, several_ended, several_picks, several_recorded, several_rows, several_takes, several_waiting, several_wanted}
use Rattle.rsx_kinds.specs.declared.several_node.SeveralNode.{SeveralNode}
use Rattle.rsx_kinds.specs.declared.several_node.SeveralNode.TheVariants.{Concat, Merge, MergeDelay, Zip, Latest}
use Rattle.rsx_merging.proofs.Rests.{flat_rests}
use Rattle.rsx_delayed.proofs.EagerRests.{eager_rests}
use Rattle.rsx_delayed.proofs.FlatRests.{flat_delay_rests}
use Rattle.rsx_grouping.proofs.Rests.{group_rests}
use Rattle.rsx_kinds.specs.Any.{TreeNode, any_machine, kind_machine}
use Rattle.rsx_kinds.specs.Laws.{any_shows}
use Rattle.rsx_kinds.specs.declared.any_node.AnyNode.{AnyNode}
use Rattle.rsx_kinds.specs.declared.any_node.AnyNode.TheVariants.{Source, Plain, Several, PublishOn, PublishOnEager, Window, FlatMap, FlatMapDelay, GroupBy}
use Rattle.rsx_kinds.specs.ConcatRests.{concat_rests}
use Rattle.rsx_kinds.specs.LatestRests.{latest_rests}
use Rattle.rsx_kinds.specs.MergeRests.{merge_delay_rests, merge_rests}
use Rattle.rsx_kinds.specs.OneInputRests.{plain_rests, publish_rests, window_rests}
use Rattle.rsx_kinds.specs.SenderRests.{sender_rests}
use Rattle.rsx_kinds.specs.SourcesRests.{source_rests}
use Rattle.rsx_kinds.specs.ZipRests.{zip_rests}
use Rattle.rsx_tree.specs.Rests.{IsStuck, NothingComes, Rests}

several_rests : {T : Type 0} (m : Meaning T) (n : SeveralNode T) (taken : List ℕ) (asked sent : ℕ) (inc : Incoming T) → several_ended n ≡ false → several_counted n taken sent → several_waiting m n ≡ None → sent < asked → AreWithin taken →
    IsStuck several_picks several_rows n asked sent → NothingComes several_takes several_done several_wanted n taken asked sent (inc.first ∷ inc.others) → several_comes_out m n inc (unchosen (several_recorded n)) ≡ Some (ended_by Open)
several_rests m (Concat n) taken asked sent inc still counted waits more within stuck none = concat_rests m n taken asked sent inc still counted waits more within none
several_rests m (Merge n) taken asked sent inc still counted waits more within stuck none = merge_rests m n taken asked sent inc counted waits more within stuck.0 none
several_rests m (MergeDelay n) taken asked sent inc still counted waits more within stuck none = merge_delay_rests m n taken asked sent inc counted waits more within stuck.0 none
several_rests m (Zip n) taken asked sent inc still counted waits more within stuck none = zip_rests m n taken asked sent inc counted waits more within stuck.0 stuck.1 none
several_rests m (Latest n) taken asked sent inc still counted waits more within stuck none = latest_rests m n taken asked sent inc counted waits more within stuck.0 none

kind_rests : {T : Type 0} (m : Meaning T) → Rests {M = AnyNode T} kind_machine m
kind_rests m (Source n) taken asked sent inc still counted waits more within stuck none behind = source_rests m n inc waits behind
kind_rests m (Plain n) taken asked sent inc still counted waits more within stuck none behind = plain_rests m n taken asked sent inc still counted waits more within none
kind_rests m (Several n) taken asked sent inc still counted waits more within stuck none behind = several_rests m n taken asked sent inc still counted waits more within stuck none
kind_rests m (PublishOn n) taken asked sent inc still counted waits more within stuck none behind = publish_rests m n taken asked sent inc still counted waits more within none
kind_rests m (PublishOnEager n) taken asked sent inc still counted waits more within stuck none behind = eager_rests m n taken asked sent inc counted waits more within stuck.0 (λ c at open_still takes wants. none 0 c at open_still takes wants)
kind_rests m (Window n) taken asked sent inc still counted waits more within stuck none behind = window_rests m n taken asked sent inc still counted waits more within none
kind_rests m (FlatMap n) taken asked sent inc still counted waits more within stuck none behind = flat_rests m n taken asked sent inc counted waits more within stuck.0 (λ c at alive wants. none 0 c at alive (λ f. refl) wants)
kind_rests m (FlatMapDelay n) taken asked sent inc still counted waits more within stuck none behind = flat_delay_rests m n taken asked sent inc counted waits more within stuck.0 (λ c at alive wants. none 0 c at alive (λ f. refl) wants)
kind_rests m (GroupBy n) taken asked sent inc still counted waits more within stuck none behind = group_rests m n taken asked sent inc still counted waits more within stuck.0 (λ c at alive takes wants. none 0 c at alive (λ f. takes) wants)

pub any_rests : {T : Type 0} (m : Meaning T) → Rests {M = TreeNode T} any_machine m
any_rests m n taken asked sent inc still counted waits more within stuck none behind = sender_rests kind_machine m (any_shows m) (kind_rests m) n taken asked sent inc still counted waits more within stuck none behind
