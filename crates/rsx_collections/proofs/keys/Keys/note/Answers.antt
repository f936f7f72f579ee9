use Rattle.std.proofs.Common.{rules, ◌≡◌, ◌∙◌, nat_eq, true, false, length, sym, ap, None, ◌∷◌, [], ◌++◌}
use Rattle.std.specs.Prelude.{is_some}
use Rattle.std.specs.Set.{is_member}
use Rattle.std.specs.HashMap.{get}
use Rattle.std.specs.HashMap.Entry.{map_with_value}
use Rattle.rsx_collections.specs.Keys.{HasPlaces}
use Rattle.rsx_collections.proofs.Places.{is_found, places_kept, places_more}
use Rattle.rsx_collections.proofs.keys.Keys.note.Goals as goal
use Rattle.rsx_collections.proofs.keys.Keys.note.Goals.{After-entry, then-len-capacity+else-contains_key+in_ok-make_room, else-len-capacity}

-- with room made or not, the keys are the same
keys_kept : (c : After-entry) → c.if-len-capacity.self-inside.order.items ≡ c.args.self.now
keys_kept c = elim c.if-len-capacity.branch [
  | then-len-capacity+else-contains_key+in_ok-make_room w ↦ (let here = w.self-inside-is in rw here (w.make_room.ensures.order ∙ c.self.view_is))
  | else-len-capacity w ↦ (let here = w.self-inside-is in rw here c.self.view_is)
]

has_places : (c : After-entry) → HasPlaces c.if-len-capacity.self-inside.order.items (get nat_eq c.if-len-capacity.self-inside.places)
has_places c = elim c.if-len-capacity.branch [
  | then-len-capacity+else-contains_key+in_ok-make_room w ↦ (let here = w.self-inside-is in rw (here, w.make_room.ensures.order) (places_kept _ _ _ c.self.invariant w.make_room.ensures.places))
  | else-len-capacity w ↦ (let here = w.self-inside-is in rw here c.self.invariant)
]

is_there : (c : After-entry) → is_some (get nat_eq c.if-len-capacity.self-inside.places c.args.key) ≡ is_member nat_eq c.args.self.now c.args.key
is_there c = rw (← keys_kept c) (is_found _ _ c.args.key (has_places c))

pub returns-then-contains_key-clause-known : goal.returns-then-contains_key-clause-known
returns-then-contains_key-clause-known c =
    let there : true ≡ is_member nat_eq c.self.inside.order.items c.args.key = sym c.if-contains_key.true ∙ (c.contains_key.ensures ∙ is_found _ _ c.args.key c.self.invariant) in
    rw (← c.self.view_is) there

pub returns-then-contains_key-clause-keys : goal.returns-then-contains_key-clause-keys
returns-then-contains_key-clause-keys c =
    let there : true ≡ is_member nat_eq c.self.inside.order.items c.args.key = sym c.if-contains_key.true ∙ (c.contains_key.ensures ∙ is_found _ _ c.args.key c.self.invariant) in
    rw (← c.self.view_is, sym there) (search rules)

pub invariant_of-self-in-Ok-Vacant : goal.invariant_of-self-in-Ok-Vacant
invariant_of-self-in-Ok-Vacant c =
    let before = c.if-len-capacity.self-inside in
    let none : get nat_eq before.places c.args.key ≡ None = rw c.in-Ok-Vacant.field-0-is at c.in-Ok-Vacant.ensures.found in
    let last : c.len-place.result ≡ length before.order.items = search rules in
    let more : HasPlaces (before.order.items ++ c.args.key ∷ []) (get nat_eq (map_with_value c.in-Ok-Vacant.field-0 c.len-place.result)) = places_more before.order.items (get nat_eq before.places) _ c.args.key (has_places (goal.at.invariant_of-self-in-Ok-Vacant c).After-entry) (ap is_some none) c.len-place.result last (c.in-Ok-Vacant.ensures.update.0 c.len-place.result).0 in
    rw c.push_reserved.ensures.items (search rules)

pub returns-in-Ok-Vacant-clause-known : goal.returns-in-Ok-Vacant-clause-known
returns-in-Ok-Vacant-clause-known c =
    let none : get nat_eq c.if-len-capacity.self-inside.places c.args.key ≡ None = rw c.in-Ok-Vacant.field-0-is at c.in-Ok-Vacant.ensures.found in
    sym (ap is_some none) ∙ is_there (goal.at.returns-in-Ok-Vacant-clause-known c).After-entry

pub returns-in-Ok-Vacant-clause-keys : goal.returns-in-Ok-Vacant-clause-keys
returns-in-Ok-Vacant-clause-keys c =
    let none : get nat_eq c.if-len-capacity.self-inside.places c.args.key ≡ None = rw c.in-Ok-Vacant.field-0-is at c.in-Ok-Vacant.ensures.found in
    let new : is_member nat_eq c.args.self.now c.args.key ≡ false = sym (is_there (goal.at.returns-in-Ok-Vacant-clause-keys c).After-entry) ∙ ap is_some none in
    rw (new, ← keys_kept (goal.at.returns-in-Ok-Vacant-clause-keys c).After-entry) c.push_reserved.ensures.items

pub returns-in-Ok-Occupied-clause-known : goal.returns-in-Ok-Occupied-clause-known
returns-in-Ok-Occupied-clause-known c =
    let found = rw c.in-Ok-Occupied.field-0-is at c.in-Ok-Occupied.ensures.found in
    let there : is_some (get nat_eq c.if-len-capacity.self-inside.places c.args.key) ≡ true = search rules in
    sym there ∙ is_there (goal.at.returns-in-Ok-Occupied-clause-known c).After-entry

pub returns-in-Ok-Occupied-clause-keys : goal.returns-in-Ok-Occupied-clause-keys
returns-in-Ok-Occupied-clause-keys c =
    let found = rw c.in-Ok-Occupied.field-0-is at c.in-Ok-Occupied.ensures.found in
    let there : is_some (get nat_eq c.if-len-capacity.self-inside.places c.args.key) ≡ true = search rules in
    let known : is_member nat_eq c.args.self.now c.args.key ≡ true = sym (is_there (goal.at.returns-in-Ok-Occupied-clause-keys c).After-entry) ∙ there in
    rw known (keys_kept (goal.at.returns-in-Ok-Occupied-clause-keys c).After-entry)
