-- Definitions that contracts cite.
pub mod Data
pub mod Demo
pub mod Falls
pub mod Items
pub mod Lawful
pub mod Names
pub mod Same
pub mod Texts
