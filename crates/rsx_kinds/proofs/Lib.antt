-- Lemmas about nodes of several inputs.
-- Lemmas about nodes of any kind.
-- Lemmas about trees that were built.
pub mod Batched
pub mod Builds
pub mod Crossings
pub mod Dispatch
pub mod FlatMapDelays
pub mod FlatMaps
pub mod Fresh
pub mod GroupBys
pub mod Made
pub mod NodeValues
pub mod Placings
pub mod Plains
pub mod PublishOn
pub mod PublishOnEager
pub mod Rows
pub mod Several
pub mod SeveralDispatch
pub mod Single
pub mod SteppedOut
pub mod TakenOff
pub mod Wants
pub mod Windows
pub mod ZipRows
