-- Definitions that contracts cite.
pub mod Code
pub mod GroupBy
pub mod Keys
pub mod Lane
pub mod Laws
pub mod MainState
pub mod Rest
pub mod Rows
pub mod Table
pub mod Waiting
