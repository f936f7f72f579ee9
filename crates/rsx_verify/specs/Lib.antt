-- Definitions that contracts cite.
pub mod Events
pub mod Kept
pub mod Prelude
pub mod Refusals
pub mod Reports
pub mod Runs
pub mod Texts
