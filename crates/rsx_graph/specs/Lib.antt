-- Definitions that contracts cite.
pub mod Delivered
pub mod Done
pub mod InGraph
pub mod Kinds
pub mod Limits
pub mod Many
pub mod Pieces
pub mod Places
pub mod Pumped
pub mod Read
pub mod Replayed
pub mod Rows
pub mod Stands
pub mod Steps
