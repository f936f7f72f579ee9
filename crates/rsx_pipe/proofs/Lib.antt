-- Lemmas about parts.
pub use Rattle.rsx_rooted.proofs.Rows
pub mod Cuts
pub mod Handing
pub mod Parts
pub mod Rejoins
pub mod Signals
pub mod Swaps
pub mod TakenOff
pub mod Times
pub mod Trees
