-- The tree of a part.
pub use Rattle.rsx_rooted.specs.Tree.{can_go, can_pick, can_row, pop_allocates, want_at, front_at, edges_after, IsAdvanced, IsDriven, IsAlike, tree_allocates, IsBalanced, IsBalancedAfter, IsWithin, IsChosen, IsPickedAt, IsRowAt, IsIdle, IsStill, step_allocates, comes_out, notes as notes_of, offers, edges, can_ask, can_send, send_allocates, ended_at, IsAllClosed, IsKept, IsLetGo, IsAskedAt, IsSentAt}
