-- Definitions that contracts cite.
pub mod Ends
pub mod Integers
pub mod Returned
