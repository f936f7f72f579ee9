-- Definitions that contracts cite.
pub mod Edits
pub mod Looks
pub mod Places
pub mod Publishes
pub mod Regions
pub mod Requests
pub mod Senders
pub mod Subscribing
pub mod ToCome
