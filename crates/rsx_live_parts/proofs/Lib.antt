-- Lemmas.
pub mod Again
pub mod Back
pub mod Closings
pub mod Counts
pub mod Opens
pub mod Parts
pub mod Ready
pub mod Returns
pub mod Sending
pub mod Staying
pub mod Sweeps
pub mod Taps
