-- Definitions that contracts cite.
pub mod Meaning
pub mod Notes
pub mod Plain
pub mod Stream
