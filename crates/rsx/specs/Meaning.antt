-- What the functions of a caller mean, and which of them may allocate.
pub use Rattle.rsx_types.specs.Meaning.{Allocates, Meaning, none_allocates}
