-- Definitions that contracts cite.
pub use Rattle.rsx_rooted.specs.Built
pub use Rattle.rsx_rooted.specs.Crossings
pub mod Code
pub mod Crossing
pub mod Cutting
pub mod Feeding
pub mod Fetched
pub mod Joined
pub mod Many
pub mod Output
pub mod Part
pub mod Published
pub mod Rejoined
pub mod Taking
pub mod Tree
