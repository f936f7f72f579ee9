-- Lemmas about hubs and their members.
-- Lemmas about a node that reads a hub.
pub mod Accepting
pub mod Leaves
pub mod Lists
pub mod Moving
pub mod Offers
pub mod Readings
pub mod Rests
pub mod Spaces
