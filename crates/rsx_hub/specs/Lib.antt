-- Definitions that contracts cite.
pub mod Hub
pub mod Laws
pub mod Leaf
pub mod Member
pub mod Reading
pub mod Waiting
