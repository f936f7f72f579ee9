-- What files of this crate and of those above import most, in one place.
pub use Rattle.rsx_grouping.specs.GroupBy.{GivesGroups, IsPoppedGroup, group_comes_out, group_counted, group_done, group_ended, group_recorded, group_takes, group_waiting, group_wanted}
pub use Rattle.rsx_grouping.specs.declared.node.GroupByNode.{GroupByNode}
pub use Rattle.rsx_hub.specs.Hub.{BeginsWith, HasTakenIn, HubState, join}
pub use Rattle.rsx_hub.specs.Leaf.{LeafState, leaf_comes_out, leaf_counted, leaf_popped, leaf_reads, leaf_waiting, member_of, reading_of}
pub use Rattle.rsx_kinds.specs.Any.{TreeNode, any_comes_out, any_counted, any_done, any_ended, any_machine, any_popped, any_popping, any_recorded, any_takes, any_waiting, kind_machine}
pub use Rattle.rsx_kinds.specs.Built.{AllUnrecorded, AreBegun, AreBuilt, IsBuilt, IsBuiltOver, IsPlainOver, IsUnrecorded, StandAt, WantsOfEach, counts_of, first_wants, fresh_beside, fresh_edge, fresh_edges, fresh_wants, join_at, joins_now, new_joins, new_joins_of, prefetch_of, starts_ended, wants_beside}
pub use Rattle.rsx_kinds.specs.Crossings.{ArePlaced, IsAlone, IsPlaced, IsPlacedOver, Placed, crossings, differ, fresh_crossings, is_crossing, opposite, placed, placed_beside, placed_here, placed_in}
pub use Rattle.rsx_kinds.specs.Kind.{GivesKind, IsWithin, first_wanted, joined, recorded_first}
pub use Rattle.rsx_kinds.specs.Made.{IsCrossed, IsFlatMap, IsFlatMapDelay, IsGroupBy, IsInFront, IsOver, IsOverOne, IsPlain, IsPublishOn, IsPublishOnEager, IsQueuedRoot, IsSeveral, IsWindow}
pub use Rattle.rsx_kinds.specs.Several.{several_comes_out, several_counted, several_done, several_ended, several_popped, several_recorded, several_takes, several_waiting, several_wanted}
pub use Rattle.rsx_kinds.specs.Source.{source_comes_out, source_counted, source_popped, source_reads, source_waiting}
pub use Rattle.rsx_kinds.specs.declared.any_node.AnyNode.{AnyNode}
pub use Rattle.rsx_kinds.specs.declared.any_node.AnyNode.TheVariants.{FlatMap, FlatMapDelay, GroupBy, Several, Source}
pub use Rattle.rsx_kinds.specs.declared.kind.SeveralKind.{SeveralKind}
pub use Rattle.rsx_kinds.specs.declared.several_node.SeveralNode.{SeveralNode}
pub use Rattle.rsx_kinds.specs.declared.source_node.SourceNode.{SourceNode}
pub use Rattle.rsx_delayed.specs.FlatMapDelay.{GivesFlatMapDelay, flat_delay_comes_out, flat_delay_counted, flat_delay_done, flat_delay_ended, flat_delay_popped, flat_delay_recorded, flat_delay_takes, flat_delay_waiting, flat_delay_wanted}
pub use Rattle.rsx_delayed.specs.declared.flat_map_delay_node.FlatMapDelayNode.{FlatMapDelayNode}
pub use Rattle.rsx_delayed.specs.PublishOnEager.{IsEagerCounted, eager_comes_out, eager_done, eager_ended, eager_popped, eager_popping, eager_recorded, eager_takes, eager_waiting, eager_wanted}
pub use Rattle.rsx_delayed.specs.declared.publish_on_eager_node.PublishOnEagerNode.{PublishOnEagerNode}
pub use Rattle.rsx_merging.specs.FlatMap.{GivesFlatMap, IsGoing, flat_comes_out, flat_done, flat_ended, flat_popped, flat_recorded, flat_takes, flat_waiting, flat_wanted}
pub use Rattle.rsx_merging.specs.PublishOn.{publish_comes_out, publish_counted, publish_ended, publish_popped, publish_takes, publish_waiting, publish_wanted}
pub use Rattle.rsx_merging.specs.declared.flat_map_node.FlatMapNode.{FlatMapNode}
pub use Rattle.rsx_model.specs.Check.{concurrency_fits, first_fault, first_of, inputs_fit, or_else, prefetch_fits, queued_fault, stage_fits, unless, worker_fits}
pub use Rattle.rsx_model.specs.Eval.{Meant, chosen, ended_by_record, environment_until_stop, in_order, meant, quiet}
pub use Rattle.rsx_model.specs.Region.{region_from, region_of, worker_here}
pub use Rattle.rsx_model.specs.Shape.{children, leaves, nodes, sum_of}
pub use Rattle.rsx_model.specs.declared.check.BadExpr.TheVariants.{Number}
pub use Rattle.rsx_model.specs.declared.check.TheConstants.{MOST_CONCURRENCY, MOST_INPUTS, MOST_PREFETCH}
pub use Rattle.rsx_model.specs.declared.expr.Expr.{Expr}
pub use Rattle.rsx_model.specs.declared.expr.Expr.TheFolds.{fold_out-Expr, map-Expr}
pub use Rattle.rsx_model.specs.declared.expr.Expr.TheOpen.{Expr-F}
pub use Rattle.rsx_model.specs.declared.expr.Expr.TheViews.{Flat, FlatDelay, Group, On, OnEager, outs-Flat, outs-FlatDelay, outs-Group, outs-Hub, outs-Items, outs-On, outs-OnEager, outs-Range}
pub use Rattle.rsx_plain.specs.Node.{plain_comes_out, plain_counted, plain_ended, plain_popped, plain_takes, plain_waiting, start_slot}
pub use Rattle.rsx_plain.specs.declared.node.PlainNode.{PlainNode}
pub use Rattle.rsx_queued.specs.Inputs.{picked}
pub use Rattle.rsx_queued.specs.declared.sender.Sender.TheVariants.{Crossing, Direct}
pub use Rattle.rsx_sources.specs.declared.machine.Passed.{Passed}
pub use Rattle.rsx_sources.specs.declared.machine.Passed.TheVariants.{Declined, Item, Kept}
pub use Rattle.rsx_sources.specs.declared.range.RangeNode.{RangeNode}
pub use Rattle.rsx_tree.specs.Inputs.{closed_row, closed_row_if, out_of}
pub use Rattle.rsx_tree.specs.declared.edge.Edge.{Edge}
pub use Rattle.rsx_tree.specs.declared.edge.EdgeState.TheVariants.{Live}
pub use Rattle.rsx_tree.specs.declared.inputs.Inputs.{End, Inputs, More'}
pub use Rattle.rsx_tree.specs.declared.node.Node.{Node}
pub use Rattle.rsx_values.specs.declared.record.Run.{Run}
pub use Rattle.rsx_window.specs.Window.{CountsItems, IsPoppedWindow, window_comes_out, window_done, window_ended, window_takes, window_waiting, window_wanted}
pub use Rattle.rsx_window.specs.declared.node.WindowNode.{WindowNode}
