-- Definitions that contracts cite.
pub mod Answers
pub mod Commands
pub mod Expected
pub mod Expressions
pub mod Fault
pub mod Live
pub mod Modes
pub mod Numbers
pub mod Orders
pub mod Reading
pub mod Texts
pub mod Words
