-- Lemmas.
pub mod Crosses
pub mod Graphs
pub mod Seated
pub mod Starts
