-- Definitions that contracts cite.
pub mod Skip
