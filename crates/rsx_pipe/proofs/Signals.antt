-- Lists of signals that went out.
pub use Rattle.rsx_rooted.proofs.Signals.{unended_before, IsOrderly-more, IsUnended-more, IsUnended-last, IsUnended-front, items_in-append, some_same, map_then-append, cut_value, prefix_of_orderly}
