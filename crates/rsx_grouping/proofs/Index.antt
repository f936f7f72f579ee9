-- The keys of lanes, sorted, each with the number of its lane.
use Rattle.std.proofs.Common.{◌≡◌, ◌≢◌, ◌∙◌, ℕ, ◌+◌, ◌-◌, ◌<◌, ◌≤◌, Bool, true, false, nat_eq, List, [], ◌∷◌, ◌++◌, length, slice_get, Some, Result, Ok, Err, IfOk, IfErr, refl, sym, ap, subst, arith, inl, inr, ◌⊎◌}
use Rattle.std.specs.List.{insert, remove}
use Rattle.std.specs.List.Sorted.{IsSearchInRange, IsBinarySearchResult, IsNonDecreasingBy}
use Rattle.std.specs.Ordering.{nat_cmp, ordering_index}
use Rattle.std.specs.Set.{is_member}
use Rattle.std.proofs.lemmas.Cmp.{ranked}
use Rattle.std.proofs.lemmas.Bool.{cases_lt}
use Rattle.std.proofs.lemmas.Bool.Decides.{nat_tests}
use Rattle.std.proofs.lemmas.List.Sorted.{IsNonDecreasingBy-from_default}
use Rattle.std.proofs.lemmas.List.Edits.{length-insert, get_or-insert_below, get_or-insert_at, get_or-insert_above, length-remove, get_or-remove_below, get_or-remove_above}
use Rattle.std.proofs.lemmas.Option.{slice_get_within}
use Rattle.rsx_types.proofs.Lists.{slice_get_behind}
use Rattle.rsx_collections.proofs.Places.{before_or_last, key_there, stands_somewhere, stays_in_place}
use Rattle.rsx_grouping.specs.Keys.{entry_at, Rises, IsAt, IsGapFor, IsEntry, IsIndex}
use Rattle.rsx_grouping.specs.declared.keys.NumberedKey.{NumberedKey}

-- ---- what a search finds

module _ (es : List NumberedKey) (rises : Rises es) (k : ℕ) where
  -- the comparisons with k rise along the list, as a binary search asks
  comparisons_rise : IsNonDecreasingBy (λ e. ordering_index (nat_cmp e.key k)) es
  comparisons_rise = IsNonDecreasingBy-from_default (λ e. ordering_index (nat_cmp e.key k)) es (record { key = 0; lane = 0 }) (λ i j le in_range.
      let keys_rise : (entry_at es i).key ≤ (entry_at es j).key = grind (arith, rises i j, λ (same : i ≡ j). ap (λ q. (entry_at es q).key) same) in
      grind (arith, nat_tests))

  -- a binary search by key ends at the key, or at the gap for it
  pub searched : (r : Result ℕ ℕ) → IsSearchInRange r (length es) → IsBinarySearchResult (λ e. nat_cmp e.key k) es r → IfOk r (IsAt es k) × IfErr r (IsGapFor es k)
  searched (Ok at) in_range equal = (record { in_range = in_range; has_key = ranked _ k _ (sym (equal (record { key = 0; lane = 0 }))) }, tt)
  searched (Err at) in_range parted = (
    tt,
    record {
      in_range = in_range;
      lower_before = λ j lt. ranked _ k _ (sym ((parted comparisons_rise).0 j (record { key = 0; lane = 0 }) (omega arith) lt));
      higher_behind = λ j le lt. ranked _ k _ (sym ((parted comparisons_rise).1 j (record { key = 0; lane = 0 }) le lt));
    },
  )

  -- it stands at one place alone
  one_place : (i j : ℕ) → IsAt es k i → IsAt es k j → i ≡ j
  one_place i j p q = grind (arith, p.in_range, q.in_range, p.has_key, q.has_key, rises i j, rises j i)

module _ (ks : List ℕ) (es : List NumberedKey) (h : IsIndex ks es) (k at : ℕ) where
  -- the key that was found is a lane's
  pub found_there : IsAt es k at → is_member nat_eq ks k ≡ true
  found_there there = key_there ks k (entry_at es at).lane (h.stands at there.in_range ∙ ap Some there.has_key)

  -- the key for which there is a gap is no lane's
  pub gap_out : IsGapFor es k at → is_member nat_eq ks k ≡ false
  gap_out gap = by_test (is_member nat_eq ks k) refl
    where
      by_test : (t : Bool) → is_member nat_eq ks k ≡ t → is_member nat_eq ks k ≡ false
      by_test false e = e
      by_test true e =
          let there = stands_somewhere ks k e in
          let entry : IsEntry es k there.0 = h.found k there.0 there.1 in
          absurd (grind (arith, entry.there.in_range, entry.there.has_key, gap.lower_before entry.at, gap.higher_behind entry.at))

-- ---- one key more

module _ (ks : List ℕ) (es : List NumberedKey) (h : IsIndex ks es) (k at : ℕ) (gap : IsGapFor es k at) where
  new : List NumberedKey
  new = insert es at (record { key = k; lane = length ks })

  length_new : length new ≡ length es + 1
  unfolding new
  length_new = length-insert es at (record { key = k; lane = length ks }) gap.in_range

  new_below : (i : ℕ) → i < at → entry_at new i ≡ entry_at es i
  unfolding new
  new_below i lt = get_or-insert_below es at (record { key = k; lane = length ks }) (record { key = 0; lane = 0 }) i lt gap.in_range

  new_here : entry_at new at ≡ record { key = k; lane = length ks }
  unfolding new
  new_here = get_or-insert_at es at (record { key = k; lane = length ks }) (record { key = 0; lane = 0 }) gap.in_range

  new_above : (i : ℕ) → at ≤ i → entry_at new (i + 1) ≡ entry_at es i
  unfolding new
  new_above i le = get_or-insert_above es at (record { key = k; lane = length ks }) (record { key = 0; lane = 0 }) i le gap.in_range

  more_rise : Rises new
  more_rise i j lt in_range =
      let key = λ (x : NumberedKey). x.key in
      let size = length_new in
      let key_below : (q : ℕ) → q < at → (entry_at new q).key ≡ (entry_at es q).key = λ q below. ap key (new_below q below) in
      let key_here : (q : ℕ) → q ≡ at → (entry_at new q).key ≡ k = λ q here. rw here (ap key new_here) in
      let key_above : (q : ℕ) → at < q → (entry_at new q).key ≡ (entry_at es (q - 1)).key = λ q above. subst (λ p. (entry_at new p).key ≡ (entry_at es (q - 1)).key) {x = q - 1 + 1} (omega arith) (ap key (new_above (q - 1) (omega arith))) in
      grind (arith, key_below i, key_here i, key_above i, key_below j, key_here j, key_above j, h.rises i j, h.rises i (j - 1), h.rises (i - 1) (j - 1), gap.lower_before i, gap.higher_behind (j - 1))

  abbrev Stands : NumberedKey → Type 0
  Stands e = slice_get (ks ++ k ∷ []) e.lane ≡ Some e.key

  old_stands : (i : ℕ) → i < length es → Stands (entry_at es i)
  old_stands i lt = stays_in_place ks (k ∷ []) (entry_at es i).key (entry_at es i).lane (h.stands i lt)

  more_stand : (i : ℕ) → i < length new → Stands (entry_at new i)
  more_stand i lt = elim (cases_lt i at) [
    | inl below ↦ let bound = gap.in_range in subst Stands (sym (new_below i below)) (old_stands i (omega arith))
    | inr le ↦ at_or_above le (cases_lt at i)
  ]
    where
      size : length new ≡ length es + 1
      size = length_new

      at_or_above : at ≤ i → (at < i) ⊎ (i ≤ at) → Stands (entry_at new i)
      at_or_above le (inl above) =
          let moved : entry_at new i ≡ entry_at es (i - 1) = subst (λ q. entry_at new q ≡ entry_at es (i - 1)) {x = i - 1 + 1} (omega arith) (new_above (i - 1) (omega arith)) in
          subst Stands (sym moved) (old_stands (i - 1) (omega (arith, size, lt)))
      at_or_above le (inr last) =
          let here : at ≡ i = omega arith in
          subst (λ q. Stands (entry_at new q)) here (subst Stands (sym new_here) (slice_get_behind ks k []))

  old_found : (q lane : ℕ) → IsEntry es q lane → IsEntry new q lane
  old_found q lane entry = elim (cases_lt entry.at at) [
    | inl below ↦ let size = length_new in let same = new_below entry.at below in record {
      at = entry.at;
      there = record { in_range = omega (arith, entry.there.in_range); has_key = ap (λ (x : NumberedKey). x.key) same ∙ entry.there.has_key };
      has_lane = ap (λ (x : NumberedKey). x.lane) same ∙ entry.has_lane;
    }
    | inr le ↦ let size = length_new in let same = new_above entry.at le in record {
      at = entry.at + 1;
      there = record { in_range = omega (arith, entry.there.in_range); has_key = ap (λ (x : NumberedKey). x.key) same ∙ entry.there.has_key };
      has_lane = ap (λ (x : NumberedKey). x.lane) same ∙ entry.has_lane;
    }
  ]

  more_found : (q lane : ℕ) → slice_get (ks ++ k ∷ []) lane ≡ Some q → IsEntry new q lane
  more_found q lane e = by_place (before_or_last ks k q lane e)
    where
      by_place : (slice_get ks lane ≡ Some q) ⊎ ((lane ≡ length ks) × (k ≡ q)) → IsEntry new q lane
      by_place (inl there) = old_found q lane (h.found q lane there)
      by_place (inr last) = let size = length_new in record {
        at = at;
        there = record { in_range = omega (arith, gap.in_range); has_key = ap (λ (x : NumberedKey). x.key) new_here ∙ last.1 };
        has_lane = ap (λ (x : NumberedKey). x.lane) new_here ∙ sym last.0;
      }

  -- a key that wasn't there stands in its gap then
  pub index_more : IsIndex (ks ++ k ∷ []) (insert es at (record { key = k; lane = length ks }))
  unfolding new
  index_more = record { rises = more_rise; stands = more_stand; found = more_found }

-- ---- one key less

module _ (ks : List ℕ) (k : ℕ) (es : List NumberedKey) (h : IsIndex (ks ++ k ∷ []) es) where
  last : IsEntry es k (length ks)
  last = h.found k (length ks) (slice_get_behind ks k [])

  -- the last key is found
  pub last_there : (at : ℕ) → IsGapFor es k at → ⊥
  last_there at gap = grind (arith, last.there.in_range, last.there.has_key, gap.lower_before last.at, gap.higher_behind last.at)

  module _ (at : ℕ) (there : IsAt es k at) where
    left : List NumberedKey
    left = remove es at

    length_left : length left + 1 ≡ length es
    unfolding left
    length_left = length-remove es at there.in_range

    left_below : (i : ℕ) → i < at → entry_at left i ≡ entry_at es i
    unfolding left
    left_below i lt = get_or-remove_below es at (record { key = 0; lane = 0 }) i lt there.in_range

    left_above : (i : ℕ) → at ≤ i → entry_at left i ≡ entry_at es (i + 1)
    unfolding left
    left_above i le = get_or-remove_above es at (record { key = 0; lane = 0 }) i le there.in_range

    last_lane : (entry_at es at).lane ≡ length ks
    last_lane = ap (λ q. (entry_at es q).lane) (one_place es h.rises k at last.at there last.there) ∙ last.has_lane

    less_rise : Rises left
    less_rise i j lt in_range =
        let key = λ (x : NumberedKey). x.key in
        let size = length_left in
        let key_below : (q : ℕ) → q < at → (entry_at left q).key ≡ (entry_at es q).key = λ q below. ap key (left_below q below) in
        let key_above : (q : ℕ) → at ≤ q → (entry_at left q).key ≡ (entry_at es (q + 1)).key = λ q above. ap key (left_above q above) in
        grind (arith, key_below i, key_above i, key_below j, key_above j, h.rises i j, h.rises i (j + 1), h.rises (i + 1) (j + 1))

    abbrev Stands_less : NumberedKey → Type 0
    Stands_less e = slice_get ks e.lane ≡ Some e.key

    other_stands : (i : ℕ) → i < length es → i ≢ at → Stands_less (entry_at es i)
    other_stands i lt other = by_place (before_or_last ks k (entry_at es i).key (entry_at es i).lane (h.stands i lt))
      where
        by_place : (slice_get ks (entry_at es i).lane ≡ Some (entry_at es i).key) ⊎ (((entry_at es i).lane ≡ length ks) × (k ≡ (entry_at es i).key)) → Stands_less (entry_at es i)
        by_place (inl stays) = stays
        by_place (inr gone) = absurd (other (one_place es h.rises k i at (record { in_range = lt; has_key = sym gone.1 }) there))

    less_stand : (i : ℕ) → i < length left → Stands_less (entry_at left i)
    less_stand i lt = elim (cases_lt i at) [
      | inl below ↦ subst Stands_less (sym (left_below i below)) (other_stands i (let size = length_left in omega arith) (λ (same : i ≡ at). omega arith))
      | inr le ↦ subst Stands_less (sym (left_above i le)) (other_stands (i + 1) (let size = length_left in omega arith) (λ (same : i + 1 ≡ at). omega arith))
    ]

    less_found : (q lane : ℕ) → slice_get ks lane ≡ Some q → IsEntry left q lane
    less_found q lane e = by_order (cases_lt entry.at at) (cases_lt at entry.at)
      where
        entry : IsEntry es q lane
        entry = h.found q lane (stays_in_place ks (k ∷ []) q lane e)

        size : length left + 1 ≡ length es
        size = length_left

        by_order : (entry.at < at) ⊎ (at ≤ entry.at) → (at < entry.at) ⊎ (entry.at ≤ at) → IsEntry left q lane
        by_order (inl below) other = let same = left_below entry.at below in record {
          at = entry.at;
          there = record { in_range = omega (arith, there.in_range, size, below); has_key = ap (λ (x : NumberedKey). x.key) same ∙ entry.there.has_key };
          has_lane = ap (λ (x : NumberedKey). x.lane) same ∙ entry.has_lane;
        }
        by_order (inr le) (inl above) =
            let same : entry_at left (entry.at - 1) ≡ entry_at es entry.at = subst (λ p. entry_at left (entry.at - 1) ≡ entry_at es p) {x = entry.at - 1 + 1} (omega arith) (left_above (entry.at - 1) (omega arith)) in
            record {
              at = entry.at - 1;
              there = record { in_range = omega (arith, entry.there.in_range, size, above); has_key = ap (λ (x : NumberedKey). x.key) same ∙ entry.there.has_key };
              has_lane = ap (λ (x : NumberedKey). x.lane) same ∙ entry.has_lane;
            }
        by_order (inr le) (inr ge) =
            let here : entry.at ≡ at = omega arith in
            let at_last : lane ≡ length ks = sym entry.has_lane ∙ ap (λ p. (entry_at es p).lane) here ∙ last_lane in
            let within : lane < length ks = slice_get_within ks lane q e in
            absurd (omega arith)

    -- the last key goes
    pub index_less : IsIndex ks (remove es at)
    unfolding left
    index_less = record { rises = less_rise; stands = less_stand; found = less_found }
