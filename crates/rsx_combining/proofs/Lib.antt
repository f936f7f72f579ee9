-- Lemmas about the zip as a node.
-- Lemmas about the combineLatest as a node.
pub mod Chooses
pub mod Comes
pub mod Filled
pub mod Fresh
pub mod Gives
pub mod Heads
pub mod InPlace
pub mod RowsThrough
pub mod Steps
pub mod Takes
pub mod Zips
