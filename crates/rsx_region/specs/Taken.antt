-- Items that are taken from a link, one after the other.
use Rattle.std.specs.Prelude.{◌≡◌, ℕ, List, ◌++◌, length, reverse}
use Rattle.rsx_tree.specs.Runs.{Leads}
use Rattle.rsx_types.specs.declared.signal.Signal.TheVariants.{Next}
use Rattle.rsx_link.specs.Ends.{TakesOne, carried_down, down_steps, received_signals}
use Rattle.rsx_link.specs.declared.down.Down.{Down}

-- an item was taken, and nothing else was done
pub record IsItemTaken {T : Type 0} (old : Down T) (x : T) (new : Down T) : Type 0 where
  pub taken : TakesOne old new (Next x)
  pub steps : down_steps new ≡ down_steps old
  pub carried : carried_down new ≡ carried_down old

-- nothing was taken, but the queue may have been looked at
pub record IsLookedAt {T : Type 0} (old new : Down T) : Type 0 where
  pub received : received_signals new ≡ received_signals old
  pub steps : down_steps new ≡ down_steps old
  pub carried : carried_down new ≡ carried_down old

-- So many items were taken one after the other, and stand behind what was in the list.
pub record AreTakenInTurn {T : Type 0} (n : ℕ) (old : Down T) (before after : List T) (new : Down T) : Type 0 where
  pub items : List T
  pub count : length items ≡ n
  pub put : after ≡ before ++ items
  pub run : Leads IsItemTaken old items new

-- So many items were taken one after the other. They stand behind what was in the list, the first of them last.
pub record AreTaken {T : Type 0} (n : ℕ) (old : Down T) (before after : List T) (new : Down T) : Type 0 where
  pub items : List T
  pub count : length items ≡ n
  pub put : after ≡ before ++ reverse items
  pub last : Down T
  pub run : Leads IsItemTaken old items last
  pub rest : IsLookedAt last new
