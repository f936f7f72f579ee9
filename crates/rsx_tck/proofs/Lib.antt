-- Lemmas.
pub mod Prefixes
pub mod Subscribers
pub mod Twelve
pub mod ReportLines
pub mod Numbers
pub mod Lines
pub mod Words
pub mod KindWords
pub mod Events
pub mod Traces
pub mod Sound
pub mod WorkersRead
pub mod Continuing
pub mod Parts
pub mod WrongWords
pub mod WrongLines
pub mod Openings
