-- What a part has put out, and what was published to it.
pub use Rattle.rsx_rooted.specs.Output.{items_in, IsUnended, IsOrderly, IsPrefixOf, more_after, published_then, values_then, counts_in, with_signal, with_signal_at, IsOpenAt}
