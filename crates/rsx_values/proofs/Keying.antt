-- Items with their keys: one more of them, and the lanes of all.
use Rattle.std.proofs.Common.{◌≡◌, ℕ, List, [], ◌∷◌, ◌++◌, map, Result, Ok, refl, sym, ap, ◌∙◌}
use Rattle.rsx_types.specs.declared.signal.Ending.{Ending}
use Rattle.rsx_types.specs.declared.stage.Stage.{Stage}
use Rattle.rsx_types.specs.Meaning.{Meaning}
use Rattle.rsx_types.specs.Stream.{Stream, item_then}
use Rattle.rsx_values.specs.Group.{IsKeyed, first_seen, group_lane, group_lanes, keyed_items, keyed_then, placed, see}
use Rattle.rsx_values.specs.Lanes.{merged_lanes}

-- an item whose key has a place
pub keyed_item : {T : Type 0} (key : T → Result ℕ ℕ) (x : T) (seen seen' : List ℕ) (k : ℕ) (xs : List T) (e : Ending) → Ok k ≡ placed seen (key x) → seen' ≡ see seen k → keyed_items key seen (x ∷ xs) e ≡ item_then (k, x) (keyed_items key seen' xs e)
keyed_item key x seen seen' k xs e h now = rw now (ap (λ r. keyed_then x seen r (λ known. keyed_items key known xs e)) (sym h))

-- the keys after one more item
pub first_seen_more : {T : Type 0} (seen : List ℕ) (ps : List (ℕ × T)) (p : ℕ × T) → first_seen seen (ps ++ p ∷ []) ≡ see (first_seen seen ps) p.0
first_seen_more seen [] p = refl
first_seen_more seen (q ∷ ps) p = first_seen_more (see seen q.0) ps p

-- the keys stay those of the items
pub keys_more : {T : Type 0} (ps ps' : List (ℕ × T)) (p : ℕ × T) (keys keys' : List ℕ) → keys ≡ first_seen [] ps → keys' ≡ see keys p.0 → ps' ≡ ps ++ p ∷ [] → keys' ≡ first_seen [] ps'
keys_more ps ps' p keys keys' h now more = now ∙ ap (λ ks. see ks p.0) h ∙ sym (first_seen_more [] ps p) ∙ ap (first_seen []) (sym more)

-- each lane has the items of its key
pub groups_are : {T : Type 0} (m : Meaning T) (gs : List (Stage T)) (cs : List ℕ) (v : Stream (ℕ × T)) (keys : List ℕ) (items : List (ℕ × T)) (e : Ending) (lanes : List (Stream T)) →
    IsKeyed v keys items e → lanes ≡ map (group_lane m gs (record { items = items; ending = e })) keys → merged_lanes cs lanes e ≡ merged_lanes cs (group_lanes m gs v) v.ending
groups_are m gs cs v keys items e lanes (xs, ks, end) is =
    ap (λ l. merged_lanes cs l e) is ∙ (λ j. merged_lanes cs (map (group_lane m gs (record { items = xs j; ending = end j })) (ks j)) (end j))
