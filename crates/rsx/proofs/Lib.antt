-- Lemmas of this crate.
pub mod Makes
pub mod Taken
