-- Lemmas about nodes that delay failures, and about one whose failure overtakes items.
pub mod Choices
pub mod EagerItems
pub mod EagerMoves
pub mod EagerRests
pub mod EagerValues
pub mod FlatChosen
pub mod FlatLeft
pub mod FlatPicked
pub mod FlatRests
pub mod FlatTaken
pub mod Fresh
pub mod LastChoice
pub mod OneRun
pub mod Picked
pub mod Rests
pub mod SteppedOut
pub mod Taken
