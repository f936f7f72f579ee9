-- Definitions that contracts cite.
pub mod Keys
pub mod Signals
