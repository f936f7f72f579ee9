-- A signal that goes over the root edge into the hands of the caller, and the moves inside the tree.
pub use Rattle.rsx_rooted.specs.Feeding.{carried, next_out, goes_out, IsSentOut, inside_enabled, IsQuietInside, IsMadeInside}
