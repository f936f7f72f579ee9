-- Lemmas about graphs.
pub mod Delivered
pub mod Held
pub mod Kept
pub mod Known
pub mod Laws
pub mod Limits
pub mod Reading
pub mod Runs
pub mod Times
