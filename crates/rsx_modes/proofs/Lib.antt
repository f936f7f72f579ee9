-- Lemmas about what answers the lines of a script.
pub mod Lines
pub mod Starts
