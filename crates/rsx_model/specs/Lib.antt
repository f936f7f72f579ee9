-- Definitions that contracts cite.
pub mod Answer
pub mod Check
pub mod Eval
pub mod Kinds
pub mod Laws
pub mod Region
pub mod Shape
pub mod WorkedEager
pub mod WorkedJoins
