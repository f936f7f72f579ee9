-- Lemmas.
pub mod Backs
pub mod Begins
pub mod Crosses
pub mod Fits
pub mod Gates
pub mod Parking
pub mod Rests
pub mod Seated
pub mod Seats
pub mod Signals
pub mod Stops
