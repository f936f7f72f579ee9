-- Definitions that contracts cite.
pub mod Looks
pub mod Operators
pub mod Texts
