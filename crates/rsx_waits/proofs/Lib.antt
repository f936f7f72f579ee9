-- Lemmas.
pub mod Looks
