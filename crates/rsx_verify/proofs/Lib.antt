-- Lemmas about runs.
pub mod Acting
pub mod Counted
pub mod Kept
pub mod Leading
pub mod Lines
pub mod Moving
pub mod Once
pub mod Ordered
pub mod Paired
pub mod Placed
pub mod Progress
pub mod Signalled
pub mod Subscribed
