-- Lemmas about lanes.
pub mod Chosen
pub mod Coming
pub mod Concats
pub mod Copied
pub mod Fresh
pub mod LaneItems
pub mod Merged
pub mod Passes
pub mod Picked
pub mod Places
pub mod Rest
pub mod Rests
pub mod Taken
pub mod Takes
pub mod Through
pub mod Turns
