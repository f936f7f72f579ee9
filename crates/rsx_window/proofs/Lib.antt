pub mod Cuts
pub mod NothingLeft
pub mod Passes
pub mod Rests
pub mod Runs
