-- Lemmas about expressions.
pub mod Smaller
