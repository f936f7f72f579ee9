-- Definitions that contracts cite.
pub mod Either
pub mod Laws
pub mod Node
pub mod Trees
