-- Rounds in each of which something was done.
use Rattle.std.specs.Prelude.{◌≡◌, ◌⊎◌, ℕ, zero, suc, ◌<◌, Bool, true, false, ◌||◌, List, [], ◌∷◌, length, Some, slice_get}
use Rattle.rsx_types.specs.Meaning.{Meaning}
use Rattle.rsx_types.specs.declared.ops.Ops.{Ghosts as Ops}
use Rattle.rsx_link.specs.Ends.{sent_signals}
use Rattle.rsx_serialized.specs.Events.{Event, asked, moved, published, stopped, subscribed}
use Rattle.rsx_serialized.specs.Regions.{GoesBy}
use Rattle.rsx_serialized.specs.declared.ends.ToTap.{ToTap}
use Rattle.rsx_serialized.specs.declared.region.GraphRegion.{GraphRegion}

module _ {T : Type 0} where
  -- a move was made, or a signal was published
  abbrev pub is_work : Event T → Bool
  is_work (moved d) = true
  is_work (published k s) = true
  is_work (asked i n) = false
  is_work (stopped i) = false
  is_work (subscribed e) = false

  -- some of these is so
  abbrev pub has_worked : List (Event T) → Bool
  has_worked [] = false
  has_worked (e ∷ es) = is_work e || has_worked es

  -- to some tap more was sent
  pub record HasSentSome (old new : List (ToTap T)) : Type 0 where
    pub tap : ℕ
    pub before : ToTap T
    pub after : ToTap T
    pub was : slice_get old tap ≡ Some before
    pub is : slice_get new tap ≡ Some after
    pub more : length (sent_signals before.up) < length (sent_signals after.up)

module _ {O T : Type 0} {b : Ops O T} where
  -- these things have happened, and something was done: a move was made, a signal of an emitter was published, or one was sent to a tap
  pub record IsBusy (m : Meaning T) (old new : GraphRegion O T b) : Type 0 where
    pub events : List (Event T)
    pub goes : GoesBy m events old new
    pub did : (has_worked events ≡ true) ⊎ HasSentSome old.outlets.items new.outlets.items

  -- it was so, as many times
  abbrev pub AreRounds : Meaning T → ℕ → GraphRegion O T b → GraphRegion O T b → Type 0
  AreRounds m zero old new = new ≡ old
  AreRounds m (suc n) old new = (mid : GraphRegion O T b) × AreRounds m n old mid × IsBusy m mid new
