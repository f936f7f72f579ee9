-- Definitions that contracts cite.
pub mod Inputs
pub mod Latest
pub mod LatestLaws
pub mod LatestRows
pub mod Zip
pub mod ZipLaws
