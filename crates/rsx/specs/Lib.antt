-- What contracts of an `impl Ops` name, and the definitions that contracts of the builder cite.
pub mod Built
pub mod Flow
pub mod Meaning
