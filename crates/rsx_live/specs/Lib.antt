-- Definitions that contracts cite.
pub mod Graphs
pub mod Starts
pub mod Workers
