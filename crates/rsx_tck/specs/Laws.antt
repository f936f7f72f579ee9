-- Laws of the sentences: how they go on as a trace grows by one event.
pub mod Positions
pub mod Following
pub mod Counting
pub mod Answering
pub mod Running
pub mod Working
pub mod Refusing
