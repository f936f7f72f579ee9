-- Definitions that contracts cite.
pub mod Coming
pub mod Concat
pub mod ConcatLaws
pub mod FlatMap
pub mod FlatMapLaws
pub mod Lanes
pub mod Merge
pub mod MergeLaws
pub mod PublishOn
pub mod PublishOnLaws
