-- Definitions that contracts cite.
pub mod Cursors
pub mod Cutting
pub mod Kept
pub mod Lives
pub mod Outgoing
pub mod Returning
pub mod Tapping
