-- What holds of each subscriber whose subscription stands for its past.
use Rattle.rsx_sources.specs.declared.machine.Machine.{Ghosts as Machine}
use Rattle.std.specs.Prelude.{◌≡◌, ◌<◌, ◌≤◌, min, List, length, take, map, Some, Ok, option_map}
use Rattle.rsx_sources.specs.Prelude.{Meaning, notes_then, unchosen, Stream, signals, signals_then, Note, Open as NotEnded}
use Rattle.rsx_model.specs.Answer.{IsScratch}
use Rattle.rsx_model.specs.Eval.{environment}
use Rattle.rsx_pipe.specs.Tree.{notes_of}
use Rattle.rsx_subscriber.specs.declared.state.SubscriptionState.TheVariants.{Ended}
use Rattle.rsx_subscriber.specs.declared.subscription.Subscription.{Subscription}
use Rattle.rsx_subscriber.specs.Past.{Past, IsLive, IsOrderly, IsPrefixOf, items_in}
use Rattle.rsx_subscriber.specs.Stands.{owed_from, evaluated, values_then}

-- the sentence for one subscriber
pub record Holds {M T : Type 0} (mc : Machine M T) (m : Meaning T) (published : List (Stream T)) (sub : Subscription M T) (past : Past T) : Type 0 where
  -- live: what it received, followed by what it is still owed, is its expression evaluated from scratch over what was
  -- published, whatever is published after it and whatever is still chosen; behind the point where the rows of a combineLatest
  -- stop nothing is chosen any more
  pub live : IsLive past.state → (more : List (Stream T)) (further : List Note) → length further ≡ length (notes_of mc sub.part.tree) →
      option_map (signals_then past.received) (owed_from mc m (values_then published more) further sub) ≡ evaluated m (values_then published more) past (notes_then (notes_of mc sub.part.tree) further)
  -- under what its nodes recorded, the slow evaluator answers a value over what was published
  pub value : Stream T
  pub scratch : IsScratch (environment m published past.joins (notes_of mc sub.part.tree)) past.expression (Ok value)
  -- and nothing was chosen behind such a point
  pub until_stop : evaluated m published past (notes_of mc sub.part.tree) ≡ Some value
  -- live: that is what it received, followed by what it is still owed where nothing more is published and nothing more chosen
  pub owed : IsLive past.state → option_map (signals_then past.received) (owed_from mc m published (map unchosen (notes_of mc sub.part.tree)) sub) ≡ Some value
  -- it got its ending: that is all that it received
  pub whole : past.state ≡ Ended → past.received ≡ signals value
  -- it received no more items than it asked for
  pub asked : length (items_in past.received) ≤ past.asked
  -- and nothing after an ending
  pub ended : IsOrderly past.received
  -- not live: the items that it received begin that value
  pub prefix : (IsLive past.state → ⊥) → (more : List (Stream T)) (further : List Note) → length further ≡ length (notes_of mc sub.part.tree) →
      (v : Stream T) → evaluated m (values_then published more) past (notes_then (notes_of mc sub.part.tree) further) ≡ Some v → IsPrefixOf (items_in past.received) v.items

-- a subscriber got the first items of its expression's value, as many as it asked for or as there are, and the ending too
-- where it asked for more than there are and the value has one
pub record IsServed {M T : Type 0} (sub : Subscription M T) (past : Past T) (v : Stream T) : Type 0 where
  pub items : items_in past.received ≡ take (min past.asked (length v.items)) v.items
  pub ending : length v.items < past.asked → (v.ending ≡ NotEnded → ⊥) → past.state ≡ Ended
