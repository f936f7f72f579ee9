-- Definitions that contracts cite.
pub mod Calls
pub mod Held
pub mod Input
pub mod Inputs
pub mod Laws
pub mod Merged
pub mod Output
pub mod Prelude
pub mod Queued
pub mod QueuedLaws
pub mod Sender
pub mod Transfer
pub mod Values
