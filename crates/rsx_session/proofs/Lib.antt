-- Lemmas about sessions.
pub mod Calls
pub mod Compared
pub mod Hubs
pub mod Lines
pub mod Looks
pub mod Pumps
pub mod Starts
