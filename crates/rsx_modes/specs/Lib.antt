-- Definitions that contracts cite.
pub mod Judged
pub mod Laws
pub mod Modes
pub mod Scripts
