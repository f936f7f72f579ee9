-- Definitions that contracts cite.
pub mod Cancelling
