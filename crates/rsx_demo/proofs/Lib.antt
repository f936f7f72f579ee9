-- Lemmas that proofs cite.
pub mod Lengths
pub mod Lists
pub mod Tells
pub mod Texts
