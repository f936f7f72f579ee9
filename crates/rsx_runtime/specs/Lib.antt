-- Definitions that contracts cite.
pub mod Beginning
pub mod Closing
pub mod Emitting
pub mod Ordered
pub mod Passing
pub mod Poking
pub mod Resting
pub mod Seated
pub mod Standing
pub mod Stopping
pub mod Tapping
pub mod Tokens
