-- Lemmas.
mod Cancelling
