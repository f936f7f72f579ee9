-- Lemmas about a queue behind a node.
pub mod Changed
pub mod Counts
pub mod Edges
pub mod Going
pub mod Merged
pub mod Nothing
pub mod Outputs
pub mod Picks
pub mod Queues
pub mod Senders
pub mod Values
pub mod Wanting
