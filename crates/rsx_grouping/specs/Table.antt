-- What still comes out of all lanes of a `groupBy`, of those that are there and of those that aren't yet.
use Rattle.std.specs.Prelude.{◌≡◌, ℕ, suc, ◌<◌, nat_eq, if◌then◌else◌, List, [], ◌∷◌, ◌++◌, map, length, Option, Some, slice_get, slice_set}
use Rattle.std.specs.Set.{is_member}
use Rattle.rsx_sources.specs.Prelude.{Stage, Meaning, Stream, item_then}
use Rattle.rsx_values.specs.Prelude.{InputLeft, written, numbered, of_key, group_lane}
use Rattle.rsx_values.specs.declared.limits.TheConstants.{MAIN}
use Rattle.rsx_values.specs.declared.record.Run.{Run}
use Rattle.rsx_queued.specs.Inputs.{here}
use Rattle.rsx_grouping.specs.Lane.{lane_left, after_pick, TakesFirst, IsItemPicked}
use Rattle.rsx_grouping.specs.Rows.{keys_of}
use Rattle.rsx_grouping.specs.declared.lane.Lane.{Lane}
use Rattle.rsx_grouping.specs.declared.lane.LanePick.{LanePick}
use Rattle.rsx_grouping.specs.declared.table.KeyedLane.{KeyedLane}

-- the keys that come first among these items, where some were seen
abbrev pub fresh_keys : {T : Type 0} → List ℕ → List (ℕ × T) → List ℕ
fresh_keys seen [] = []
fresh_keys seen (p ∷ ps) = if is_member nat_eq seen p.0 then fresh_keys seen ps else p.0 ∷ fresh_keys (seen ++ p.0 ∷ []) ps

-- the lanes that are there, numbered from n on, with what still comes out of each where these items with their keys come in; then
-- the rest. A lane whose ending was picked is no input any more
abbrev pub lanes_there : {T : Type 0} → Meaning T → ℕ → List (KeyedLane T) → Stream (ℕ × T) → List (InputLeft T) → List (InputLeft T)
lanes_there m n [] w rest = rest
lanes_there m n (r ∷ rows) w rest = here n (lane_left m r.key r.lane (of_key r.key w)) (lanes_there m (suc n) rows w rest)

-- the lanes of the keys that come first then, and the rest
abbrev pub lanes_to_come : {T : Type 0} → Meaning T → List (Stage T) → List ℕ → Stream (ℕ × T) → List (InputLeft T) → List (InputLeft T)
lanes_to_come m gs ks w rest = numbered (length ks) (map (group_lane m gs w) (fresh_keys ks w.items)) ++ rest

abbrev pub lanes_left : {T : Type 0} → Meaning T → List (Stage T) → List (KeyedLane T) → Stream (ℕ × T) → List (InputLeft T) → List (InputLeft T)
lanes_left m gs rows w rest = lanes_there m 0 rows w (lanes_to_come m gs (keys_of rows) w rest)

-- an item with its key came in: what comes out of the lanes stays
abbrev pub TakesKeyed : {T : Type 0} → Meaning T → List (Stage T) → List (KeyedLane T) → ℕ → T → List (KeyedLane T) → Type 0
TakesKeyed {T} m gs old k x new = (w : Stream (ℕ × T)) (rest : List (InputLeft T)) → lanes_left m gs old (item_then (k, x) w) rest ≡ lanes_left m gs new w rest

-- the pick takes the first of what comes out of the lane at a place
abbrev pub TakesFirstAt : {T : Type 0} → Meaning T → List (KeyedLane T) → ℕ → LanePick T → Type 0
TakesFirstAt {T} m rows i p = (r : KeyedLane T) → slice_get rows i ≡ Some r → TakesFirst m r.key r.lane p

-- the lane at a place, after a pick
abbrev pub CommitsAt : {T : Type 0} → List (KeyedLane T) → ℕ → Option (Lane T) → List (KeyedLane T) → Type 0
CommitsAt {T} old i lane new = (r : KeyedLane T) → slice_get old i ≡ Some r → new ≡ slice_set old i (record { key = r.key; lane = after_pick lane r.lane })

-- an item was picked of the lane at some place, and left the lanes with the tag; the choice of that place was recorded behind the others
pub record IsItemPickedAt {T : Type 0} (m : Meaning T) (old : List (KeyedLane T)) (choices : List Run) (x : T) (new : List (KeyedLane T)) (choices' : List Run) : Type 0 where
  pub place : ℕ
  pub row : KeyedLane T
  pub lane : Lane T
  pub at : slice_get old place ≡ Some row
  pub small : place < MAIN
  pub item : IsItemPicked m row.key row.lane x lane
  pub left : new ≡ slice_set old place (record { key = row.key; lane = lane })
  pub choice : written choices' ≡ written choices ++ place ∷ []
