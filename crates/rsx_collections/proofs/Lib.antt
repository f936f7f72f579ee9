-- Lemmas that proofs cite.
pub mod Places
