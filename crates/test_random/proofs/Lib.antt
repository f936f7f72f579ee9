-- Lemmas about the ends of links, and about what crosses threads.
pub mod Along
pub mod Crosses
pub mod Emitters
pub mod Rests
