-- Lemmas about an operator with its out slot, and about nodes of either kind and their trees.
pub mod Batched
pub mod Kept
pub mod Passed
pub mod Taken
pub mod TakenOff
