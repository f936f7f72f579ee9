-- Lemmas about feeds whose parts were cut.
pub mod Names
