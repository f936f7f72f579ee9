-- Lemmas about edits of rows with feeds.
-- Lemmas about looks at rows with feeds.
pub mod Behind
pub mod Beside
pub mod Fed
pub mod Kept
pub mod Leaves
pub mod Names
pub mod Noted
pub mod Published
pub mod Sent
pub mod Subscribed
pub mod ToComes
