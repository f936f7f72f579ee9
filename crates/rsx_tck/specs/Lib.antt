-- Definitions that contracts cite.
pub mod Rule
pub mod Sentences
pub mod Passes
pub mod Laws
pub mod Verdicts
pub mod Report
pub mod Purpose
pub mod Explained
pub mod Events
pub mod Format
pub mod Texts
pub mod Grammar
pub mod FirstWrong
pub mod Reading
pub mod Gives
pub mod RefusalText
pub mod Opening
