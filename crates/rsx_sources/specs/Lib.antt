-- Definitions that contracts cite.
pub mod Counts
pub mod Endings
pub mod Heads
pub mod Items
pub mod Machine
pub mod Offered
pub mod Passed
pub mod Popping
pub mod Prelude
pub mod Range
pub mod Reading
pub mod Slot
pub mod Steps
