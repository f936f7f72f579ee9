-- Definitions that contracts cite.
pub mod Explained
pub mod FeedWaits
pub mod Hubs
pub mod Idle
pub mod IdleSet
pub mod Many
pub mod Moves
pub mod Pictures
pub mod Pumped
pub mod Resting
pub mod Rows
pub mod Served
pub mod Waiting
