-- Definitions that contracts cite.
pub mod Chain
pub mod Collected
pub mod Emission
pub mod Emissions
pub mod Laws
pub mod Moves
pub mod Node
pub mod Operators
pub mod Passes
pub mod Prepared
pub mod State
