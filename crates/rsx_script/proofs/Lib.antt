-- Lemmas of this crate.
pub mod Digits
pub mod Lists
pub mod Notes
pub mod Places
pub mod Runs
pub mod Stages
