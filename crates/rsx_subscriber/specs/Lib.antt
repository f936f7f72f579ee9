-- Definitions that contracts cite.
pub mod Apart
pub mod Begun
pub mod Delivered
pub mod Edited
pub mod Holds
pub mod Lending
pub mod Moves
pub mod Past
pub mod Prelude
pub mod Published
pub mod Pumped
pub mod Standing
pub mod Stands
pub mod Taken
