-- Definitions that contracts cite.
pub mod Answered
pub mod Drawings
pub mod Drawn
pub mod JudgeLaws
pub mod Judged
pub mod Names
pub mod Taken
pub mod Text
