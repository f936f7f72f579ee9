-- Definitions that contracts cite.
pub mod Calls
pub mod Closing
pub mod Driven
pub mod Ends
pub mod Events
pub mod Gates
pub mod Opened
pub mod Opens
pub mod Regions
pub mod Resting
pub mod Rounds
pub mod Sending
pub mod Since
pub mod Started
pub mod Starting
pub mod Subscribing
pub mod Told
