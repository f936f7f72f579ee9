-- What files of the crates above import most, in one place.
pub use Rattle.rsx_model.specs.Answer.{IsScratch, name_codes}
pub use Rattle.rsx_model.specs.Check.{first_fault, first_of, own_fault, refusal, unless}
pub use Rattle.rsx_model.specs.Eval.{environment, environment_until_stop}
pub use Rattle.rsx_model.specs.Region.{region_of}
pub use Rattle.rsx_model.specs.Shape.{children, sum_of}
pub use Rattle.rsx_model.specs.declared.check.BadExpr.{BadExpr}
pub use Rattle.rsx_model.specs.declared.check.BadExpr.TheVariants.{Number}
pub use Rattle.rsx_model.specs.declared.check.TheConstants.{MOST_NODES}
pub use Rattle.rsx_model.specs.declared.evaluate.ScratchRefusal.{ScratchRefusal}
pub use Rattle.rsx_model.specs.declared.expr.Expr.{Expr}
pub use Rattle.rsx_model.specs.declared.expr.Expr.TheFolds.{fold_out-Expr, map-Expr}
pub use Rattle.rsx_model.specs.declared.expr.Expr.TheOpen.{Expr-F}
pub use Rattle.rsx_model.specs.declared.expr.Expr.TheVariants.{Hub}
pub use Rattle.rsx_model.specs.declared.expr.Expr.TheViews.{out-Expr}
pub use Rattle.rsx_pipe.specs.Built.{fresh_edge, joins_now, leaf_joins, new_joins}
pub use Rattle.rsx_pipe.specs.Crossing.{route, route_below}
pub use Rattle.rsx_pipe.specs.Crossings.{IsPlaced, differ}
pub use Rattle.rsx_pipe.specs.Feeding.{IsMadeInside, IsQuietInside, IsSentOut, carried, goes_out, inside_enabled, next_out}
pub use Rattle.rsx_pipe.specs.Output.{IsOpenAt, IsUnended, counts_in, more_after, published_then, values_then, with_signal, with_signal_at}
pub use Rattle.rsx_pipe.specs.Part.{HasReadAll, IsPartResidual, IsPutOut, Part, PartStands, all_edges, evaluated}
pub use Rattle.rsx_pipe.specs.Published.{AreTaken, IsTaken, has_room_for, readers}
pub use Rattle.rsx_pipe.specs.Tree.{IsWithin, can_go, comes_out, notes_of}
pub use Rattle.rsx_rooted.specs.declared.nodes.Nodes.{Ghosts as Nodes}
pub use Rattle.rsx_rooted.specs.declared.nodes.Route.TheVariants.{Straight}
pub use Rattle.rsx_sources.specs.declared.machine.Machine.{Ghosts as Machine}
pub use Rattle.rsx_subscriber.specs.Begun.{IsFresh}
pub use Rattle.rsx_subscriber.specs.Delivered.{Delivered}
pub use Rattle.rsx_subscriber.specs.Edited.{IsCancelled, IsRequested, IsShut}
pub use Rattle.rsx_subscriber.specs.Holds.{Holds, IsServed}
pub use Rattle.rsx_subscriber.specs.Moves.{IsNumbered, delivery, inside_node, name_of, node_move, node_of, take_by, tree_of}
pub use Rattle.rsx_subscriber.specs.Past.{IsLive, IsPrefixOf, Past, cancelled, given, items_in, request_answer, requested, requested_in, subscribed}
pub use Rattle.rsx_subscriber.specs.Published.{IsHanded}
pub use Rattle.rsx_subscriber.specs.Pumped.{HasRested, IsAwake, IsMoved, IsPumped, IsQuiet, given_all, to}
pub use Rattle.rsx_subscriber.specs.Standing.{delivers, input_of, is_delivery, standing}
pub use Rattle.rsx_subscriber.specs.Stands.{IsAlone, IsEffect, IsKeptBeside, IsMadeAnswer, IsStillOwed, IsTake, IsTakeAnswer, Stands, enabled_inside, inner_move, make_allocates, move_enabled_in, owes_in, standing_of, take_enabled}
pub use Rattle.rsx_tree.specs.Handed.{IsHandedOut, is_room_for, times}
pub use Rattle.rsx_tree.specs.declared.edge.EdgeState.{EdgeState}
pub use Rattle.rsx_tree.specs.declared.edge.EdgeState.TheVariants.{Closed, Live}
pub use Rattle.rsx_tree.specs.declared.inputs.Inputs.{End, Inputs, More'}
pub use Rattle.rsx_tree.specs.declared.look.NodeMove.{NodeMove}
pub use Rattle.rsx_tree.specs.declared.look.NodeMove.TheVariants.{Ask, Pick, Row, Send}
pub use Rattle.rsx_tree.specs.declared.node.Node.{Node}
