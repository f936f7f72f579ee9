-- Places for subscriptions that are still to come.
pub use Rattle.rsx_graph_calls.specs.Places.{places}
