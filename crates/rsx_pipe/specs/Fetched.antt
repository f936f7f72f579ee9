-- Items that are pulled through a part, each in one go, and out over its root edge.
pub use Rattle.rsx_rooted.specs.Fetched.{AreFed, AreFetched, IsFetched, IsMovedInside, IsWorked}
