pub mod Laws
pub mod Machine
pub mod Plays
pub mod Seats
