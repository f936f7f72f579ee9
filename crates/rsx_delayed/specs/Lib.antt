-- Definitions that contracts cite.
pub mod FlatDelayed
pub mod FlatMapDelay
pub mod FlatMapDelayLaws
pub mod FlatWorked
pub mod MergeDelay
pub mod MergeDelayLaws
pub mod PublishOnEager
pub mod PublishOnEagerLaws
pub mod Rest
pub mod TwoRuns
