-- Lemmas about runs over an input, and about the text of expressions.
pub mod Back
pub mod Bytes
pub mod Drawings
pub mod DrawnLines
pub mod Ending
pub mod Levels
pub mod Parts
pub mod Put
pub mod Reading
pub mod Shown
pub mod Steps
pub mod Words
pub mod Writing
