pub mod Closing
pub mod Joining
pub mod Keeps
pub mod Runs
