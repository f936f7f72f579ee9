-- The keys of lanes.
use Rattle.std.specs.Prelude.{◌≡◌, ◌<◌, ◌≤◌, ⊤, ℕ, false, nat_eq, List, [], ◌∷◌, length, slice_get, slice_index_or, Some}
use Rattle.std.specs.Set.{is_member}
use Rattle.rsx_values.specs.Group.{has_place}
use Rattle.rsx_values.specs.declared.limits.TheConstants.{MOST_KEYS}
use Rattle.rsx_grouping.specs.declared.keys.NumberedKey.{NumberedKey}
use Rattle.rsx_grouping.specs.declared.keys.KeyPlace.{KeyPlace}
use Rattle.rsx_grouping.specs.declared.keys.KeyPlace.TheVariants.{Lane, New, Nowhere}

-- no key comes twice
abbrev pub AreDistinct : List ℕ → Type 0
AreDistinct [] = ⊤
AreDistinct (k ∷ ks) = (is_member nat_eq ks k ≡ false) × AreDistinct ks

-- where an item of a key goes, among these keys: into the lane that has the key, into a new one, or nowhere
abbrev pub IsPlaceOf : List ℕ → ℕ → KeyPlace → Type 0
IsPlaceOf ks k (Lane i) = slice_get ks i ≡ Some k
IsPlaceOf ks k New = (is_member nat_eq ks k ≡ false) × (length ks < MOST_KEYS)
IsPlaceOf ks k Nowhere = has_place ks k ≡ false

-- ---- keys with the numbers of their lanes

-- what stands at a place
abbrev pub entry_at : List NumberedKey → ℕ → NumberedKey
entry_at es i = slice_index_or es i (record { key = 0; lane = 0 })

-- the keys rise, so no key comes twice
abbrev pub Rises : List NumberedKey → Type 0
Rises es = (i j : ℕ) → i < j → j < length es → (entry_at es i).key < (entry_at es j).key

-- the key stands at a place
pub record IsAt (es : List NumberedKey) (k i : ℕ) : Type 0 where
  pub in_range : i < length es
  pub has_key : (entry_at es i).key ≡ k

-- the key would stand at a place: the lower ones stand before it, and the higher ones from it on
pub record IsGapFor (es : List NumberedKey) (k i : ℕ) : Type 0 where
  pub in_range : i ≤ length es
  pub lower_before : (j : ℕ) → j < i → (entry_at es j).key < k
  pub higher_behind : (j : ℕ) → i ≤ j → j < length es → k < (entry_at es j).key

-- the place of a key, which has the number of this lane
pub record IsEntry (es : List NumberedKey) (k lane : ℕ) : Type 0 where
  pub at : ℕ
  pub there : IsAt es k at
  pub has_lane : (entry_at es at).lane ≡ lane

-- they are these keys with the numbers of their lanes, the lowest key first
pub record IsIndex (ks : List ℕ) (es : List NumberedKey) : Type 0 where
  pub rises : Rises es
  pub stands : (i : ℕ) → i < length es → slice_get ks (entry_at es i).lane ≡ Some (entry_at es i).key
  pub found : (k lane : ℕ) → slice_get ks lane ≡ Some k → IsEntry es k lane
