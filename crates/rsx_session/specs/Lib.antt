-- Definitions that contracts cite.
pub mod Answers
pub mod Kept
pub mod Places
pub use Rattle.rsx_graph.specs.Rows
pub mod Prelude
pub mod Recorded
pub mod Sessions
pub use Rattle.rsx_graph.specs.Stands
pub use Rattle.rsx_graph.specs.Steps
