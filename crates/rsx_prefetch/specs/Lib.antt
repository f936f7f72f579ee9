pub mod Credits
pub mod Queue
