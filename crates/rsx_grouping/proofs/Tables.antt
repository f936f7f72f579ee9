-- An item with its key comes in at the lanes.
use Rattle.std.proofs.Common.{◌≡◌, ℕ, zero, suc, ◌+◌, ◌<◌, ◌^◌, Bool, true, false, nat_eq, List, [], ◌∷◌, ◌++◌, map, length, slice_set, slice_get, slice_index_or, Option, Some, None, Result, Ok, Err, OnOk, refl, ap, sym, ◌∙◌, subst, arith, length-append}
use Rattle.std.specs.Set.{is_member}
use Rattle.std.proofs.lemmas.Option.{same_Some}
use Rattle.std.proofs.lemmas.Bool.{and_parts, eq-eqb, or_parts}
use Rattle.rsx_sources.specs.Prelude.{Stage, Meaning, chained, Stream, item_then}
use Rattle.rsx_values.specs.Group.{keyed_items, keyed_then, placed}
use Rattle.rsx_values.specs.Record.{written}
use Rattle.rsx_values.specs.declared.record.Run.{Run}
use Rattle.rsx_grouping.specs.GroupBy.{lanes_and_main, main_left, TakesItem}
use Rattle.rsx_grouping.specs.MainState.{is_coming}
use Rattle.rsx_grouping.specs.declared.main_state.MainState.{MainState}
use Rattle.rsx_grouping.specs.declared.main_state.MainState.TheVariants.{Coming, Completed, Failing, Taken}
use Rattle.rsx_values.specs.Prelude.{InputLeft, numbered, of_key, tagged_items, group_lane, see}
use Rattle.rsx_queued.specs.Inputs.{here}
use Rattle.rsx_collections.proofs.Places.{key_there}
use Rattle.rsx_grouping.proofs.SeenKeys.{other_key, stays_seen, last_seen, distinct_more}
use Rattle.rsx_grouping.specs.Keys.{AreDistinct}
use Rattle.rsx_grouping.specs.Lane.{lane_left, TakesOne, BeginsWith, is_quiet, after_pick, without_next, GoesOn, PickGoesOn, IsItemPicked}
use Rattle.rsx_grouping.specs.Rows.{keys_of, are_quiet, GoOn}
use Rattle.rsx_grouping.specs.Table.{fresh_keys, lanes_there, lanes_to_come, TakesKeyed, CommitsAt, IsItemPickedAt}
use Rattle.rsx_grouping.specs.declared.lane.Lane.{Lane}
use Rattle.rsx_grouping.specs.declared.table.KeyedLane.{KeyedLane}

-- ---- one lane

key_here : {T : Type 0} (k : ℕ) (x : T) (v : Stream (ℕ × T)) → of_key k (item_then (k, x) v) ≡ item_then x (of_key k v)
key_here k x v = rw (eq-eqb k k refl) refl

key_other : {T : Type 0} (k j : ℕ) (x : T) (v : Stream (ℕ × T)) → nat_eq k j ≡ false → of_key j (item_then (k, x) v) ≡ of_key j v
key_other k j x v h = rw h refl

-- ---- the lanes that aren't there yet

fresh_other : {T : Type 0} (m : Meaning T) (gs : List (Stage T)) (seen : List ℕ) (k : ℕ) (x : T) (v : Stream (ℕ × T)) (ps : List (ℕ × T)) → is_member nat_eq seen k ≡ true →
    map (group_lane m gs (item_then (k, x) v)) (fresh_keys seen ps) ≡ map (group_lane m gs v) (fresh_keys seen ps)
fresh_other m gs seen k x v [] h = refl
fresh_other {T} m gs seen k x v (p ∷ ps) h = by_test (is_member nat_eq seen p.0) refl (fresh_other m gs seen k x v ps h) (fresh_other m gs (seen ++ p.0 ∷ []) k x v ps (stays_seen seen (p.0 ∷ []) k h))
  where
    by_test : (t : Bool) → is_member nat_eq seen p.0 ≡ t → map (group_lane m gs (item_then (k, x) v)) (fresh_keys seen ps) ≡ map (group_lane m gs v) (fresh_keys seen ps) →
        map (group_lane m gs (item_then (k, x) v)) (fresh_keys (seen ++ p.0 ∷ []) ps) ≡ map (group_lane m gs v) (fresh_keys (seen ++ p.0 ∷ []) ps) → map (group_lane m gs (item_then (k, x) v)) (fresh_keys seen (p ∷ ps)) ≡ map (group_lane m gs v) (fresh_keys seen (p ∷ ps))
    by_test true e known new = rw e known
    by_test false e known new =
        let at : of_key p.0 (item_then (k, x) v) ≡ of_key p.0 v = key_other k p.0 x v (other_key seen k p.0 h e) in
        let first : group_lane m gs (item_then (k, x) v) p.0 ≡ group_lane m gs v p.0 = ap (λ w. tagged_items m p.0 (chained m gs w)) at in
        rw e (ap (λ w. w ∷ map (group_lane m gs (item_then (k, x) v)) (fresh_keys (seen ++ p.0 ∷ []) ps)) first ∙ ap (λ ws. group_lane m gs v p.0 ∷ ws) new)

-- ---- the lanes that are there

there_other : {T : Type 0} (m : Meaning T) (n : ℕ) (rows : List (KeyedLane T)) (k : ℕ) (x : T) (v : Stream (ℕ × T)) (rest : List (InputLeft T)) → is_member nat_eq (keys_of rows) k ≡ false →
    lanes_there m n rows (item_then (k, x) v) rest ≡ lanes_there m n rows v rest
there_other m n [] k x v rest h = refl
there_other m n (r ∷ rows) k x v rest h =
    ap (λ w. here n (lane_left m r.key r.lane w) (lanes_there m (suc n) rows (item_then (k, x) v) rest)) (key_other k r.key x v (or_parts (nat_eq k r.key) (is_member nat_eq (keys_of rows) k) h).0)
    ∙ ap (here n (lane_left m r.key r.lane (of_key r.key v))) (there_other m (suc n) rows k x v rest (or_parts (nat_eq k r.key) (is_member nat_eq (keys_of rows) k) h).1)

there_first : {T : Type 0} (m : Meaning T) (n : ℕ) (r : KeyedLane T) (new : Lane T) (rows : List (KeyedLane T)) (x : T) (v : Stream (ℕ × T)) (rest : List (InputLeft T)) → is_member nat_eq (keys_of rows) r.key ≡ false → TakesOne m r.lane x new →
    lanes_there m n (r ∷ rows) (item_then (r.key, x) v) rest ≡ lanes_there m n (record { key = r.key; lane = new } ∷ rows) v rest
there_first m n r new rows x v rest out takes =
    ap (λ w. here n (lane_left m r.key r.lane w) (lanes_there m (suc n) rows (item_then (r.key, x) v) rest)) (key_here r.key x v)
    ∙ ap (λ o. here n o (lanes_there m (suc n) rows (item_then (r.key, x) v) rest)) (takes r.key (of_key r.key v))
    ∙ ap (here n (lane_left m r.key new (of_key r.key v))) (there_other m (suc n) rows r.key x v rest out)

key_at_row : {T : Type 0} (rows : List (KeyedLane T)) (i : ℕ) (r : KeyedLane T) → slice_get rows i ≡ Some r → slice_get (keys_of rows) i ≡ Some r.key
key_at_row [] i r h = cc
key_at_row (q ∷ rows) zero r h = ap (λ z. Some z.key) (same_Some q r h)
key_at_row (q ∷ rows) (suc i) r h = key_at_row rows i r h

there_known : {T : Type 0} (m : Meaning T) (n : ℕ) (rows : List (KeyedLane T)) (i : ℕ) (r : KeyedLane T) (new : Lane T) (x : T) (v : Stream (ℕ × T)) (rest : List (InputLeft T)) → AreDistinct (keys_of rows) → slice_get rows i ≡ Some r → TakesOne m r.lane x new →
    lanes_there m n rows (item_then (r.key, x) v) rest ≡ lanes_there m n (slice_set rows i (record { key = r.key; lane = new })) v rest
there_known m n [] i r new x v rest d at takes = cc
there_known {T} m n (q ∷ rows) zero r new x v rest d at takes =
    let same : q ≡ r = same_Some q r at in
    let P : KeyedLane T → Type 0 = λ z. is_member nat_eq (keys_of rows) z.key ≡ false in
    let Q : KeyedLane T → Type 0 = λ z. lanes_there m n (z ∷ rows) (item_then (r.key, x) v) rest ≡ lanes_there m n (record { key = r.key; lane = new } ∷ rows) v rest in
    subst Q (sym same) (there_first m n r new rows x v rest (subst P same d.0) takes)
there_known m n (q ∷ rows) (suc i) r new x v rest d at takes =
    let seen : is_member nat_eq (keys_of rows) r.key ≡ true = key_there (keys_of rows) r.key i (key_at_row rows i r at) in
    ap (λ w. here n (lane_left m q.key q.lane w) (lanes_there m (suc n) rows (item_then (r.key, x) v) rest)) (key_other r.key q.key x v (other_key (keys_of rows) r.key q.key seen d.0))
    ∙ ap (here n (lane_left m q.key q.lane (of_key q.key v))) (there_known m (suc n) rows i r new x v rest d.1 at takes)

there_more : {T : Type 0} (m : Meaning T) (n : ℕ) (rows : List (KeyedLane T)) (r : KeyedLane T) (v : Stream (ℕ × T)) (rest : List (InputLeft T)) →
    lanes_there m n (rows ++ r ∷ []) v rest ≡ lanes_there m n rows v (here (n + length rows) (lane_left m r.key r.lane (of_key r.key v)) rest)
there_more m n [] r v rest = let e : n ≡ n + zero = omega arith in ap (λ j. here j (lane_left m r.key r.lane (of_key r.key v)) rest) e
there_more m n (q ∷ rows) r v rest =
    let e : suc n + length rows ≡ n + length (q ∷ rows) = omega arith in
    ap (here n (lane_left m q.key q.lane (of_key q.key v))) (there_more m (suc n) rows r v rest ∙ ap (λ j. lanes_there m (suc n) rows v (here j (lane_left m r.key r.lane (of_key r.key v)) rest)) e)

-- ---- all lanes

pub keys_set : {T : Type 0} (rows : List (KeyedLane T)) (i : ℕ) (r : KeyedLane T) (new : Lane T) → slice_get rows i ≡ Some r → keys_of (slice_set rows i (record { key = r.key; lane = new })) ≡ keys_of rows
keys_set [] i r new h = refl
keys_set (q ∷ rows) zero r new h = ap (λ z. z.key ∷ keys_of rows) (sym (same_Some q r h))
keys_set (q ∷ rows) (suc i) r new h = ap (λ ks. q.key ∷ ks) (keys_set rows i r new h)

pub length_keys : {T : Type 0} (rows : List (KeyedLane T)) → length (keys_of rows) ≡ length rows
length_keys [] = refl
length_keys (r ∷ rows) = ap suc (length_keys rows)

-- an item of a key that a lane has
known_key : {T : Type 0} (m : Meaning T) (gs : List (Stage T)) (rows : List (KeyedLane T)) (i : ℕ) (r : KeyedLane T) (new : Lane T) (x : T) → AreDistinct (keys_of rows) → is_member nat_eq (keys_of rows) r.key ≡ true → slice_get rows i ≡ Some r → TakesOne m r.lane x new →
    TakesKeyed m gs rows r.key x (slice_set rows i (record { key = r.key; lane = new }))
known_key {T} m gs rows i r new x d seen at takes w rest =
    let fresh : map (group_lane m gs (item_then (r.key, x) w)) (fresh_keys (keys_of rows) w.items) ≡ map (group_lane m gs w) (fresh_keys (keys_of rows) w.items) = fresh_other m gs (keys_of rows) r.key x w w.items seen in
    let none : fresh_keys (keys_of rows) ((r.key, x) ∷ w.items) ≡ fresh_keys (keys_of rows) w.items = rw seen refl in
    let come : lanes_to_come m gs (keys_of rows) (item_then (r.key, x) w) rest ≡ lanes_to_come m gs (keys_of rows) w rest =
    ap (λ ks. numbered (length (keys_of rows)) (map (group_lane m gs (item_then (r.key, x) w)) ks) ++ rest) none ∙ ap (λ vs. numbered (length (keys_of rows)) vs ++ rest) fresh in
    ap (lanes_there m 0 rows (item_then (r.key, x) w)) come
    ∙ there_known m 0 rows i r new x w (lanes_to_come m gs (keys_of rows) w rest) d at takes
    ∙ ap (λ ks. lanes_there m 0 (slice_set rows i (record { key = r.key; lane = new })) w (lanes_to_come m gs ks w rest)) (sym (keys_set rows i r new at))

keys_more : {T : Type 0} (rows : List (KeyedLane T)) (r : KeyedLane T) → keys_of (rows ++ r ∷ []) ≡ keys_of rows ++ r.key ∷ []
keys_more [] r = refl
keys_more (q ∷ rows) r = ap (λ ks. q.key ∷ ks) (keys_more rows r)

-- an item of a new key
new_key : {T : Type 0} (m : Meaning T) (gs : List (Stage T)) (rows : List (KeyedLane T)) (k : ℕ) (x : T) (new : Lane T) → is_member nat_eq (keys_of rows) k ≡ false → BeginsWith m gs x new →
    TakesKeyed m gs rows k x (rows ++ record { key = k; lane = new } ∷ [])
new_key {T} m gs rows k x new out begins w rest =
    let ks : List ℕ = keys_of rows in
    let r : KeyedLane T = record { key = k; lane = new } in
    let v : Stream (ℕ × T) = item_then (k, x) w in
    let first : fresh_keys ks ((k, x) ∷ w.items) ≡ k ∷ fresh_keys (ks ++ k ∷ []) w.items = rw out refl in
    let others : map (group_lane m gs v) (fresh_keys (ks ++ k ∷ []) w.items) ≡ map (group_lane m gs w) (fresh_keys (ks ++ k ∷ []) w.items) = fresh_other m gs (ks ++ k ∷ []) k x w w.items (last_seen ks k) in
    let lane : Some (group_lane m gs v k) ≡ lane_left m k new (of_key k w) = ap (λ u. Some (tagged_items m k (chained m gs u))) (key_here k x w) ∙ begins k (of_key k w) in
    let more : List (InputLeft T) = numbered (suc (length ks)) (map (group_lane m gs w) (fresh_keys (ks ++ k ∷ []) w.items)) ++ rest in
    let come : lanes_to_come m gs ks v rest ≡ here (length ks) (lane_left m k new (of_key k w)) more =
    ap (λ js. numbered (length ks) (map (group_lane m gs v) js) ++ rest) first
    ∙ ap (λ vs. numbered (length ks) (group_lane m gs v k ∷ vs) ++ rest) others
    ∙ ap (λ o. here (length ks) o more) lane in
    let place : length ks ≡ 0 + length rows = length_keys rows ∙ omega arith in
    let longer : suc (length ks) ≡ length (ks ++ k ∷ []) = sym (length-append ks (k ∷ []) ∙ omega arith) in
    there_other m 0 rows k x w (lanes_to_come m gs ks v rest) out
    ∙ ap (lanes_there m 0 rows w) (come
    ∙ ap (λ n. here n (lane_left m k new (of_key k w)) more) place
    ∙ ap (λ n. here (0 + length rows) (lane_left m k new (of_key k w)) (numbered n (map (group_lane m gs w) (fresh_keys (ks ++ k ∷ []) w.items)) ++ rest)) longer)
    ∙ sym (there_more m 0 rows r w (lanes_to_come m gs (ks ++ k ∷ []) w rest))
    ∙ ap (λ js. lanes_there m 0 (rows ++ r ∷ []) w (lanes_to_come m gs js w rest)) (sym (keys_more rows r))

-- ---- what the code knows

row_at : {T : Type 0} (rows : List (KeyedLane T)) (i k : ℕ) (r : KeyedLane T) → slice_get (keys_of rows) i ≡ Some k → r ≡ slice_index_or rows i r → (slice_get rows i ≡ Some r) × (r.key ≡ k)
row_at [] i k r h is = cc
row_at (q ∷ rows) zero k r h is = (ap Some (sym is), ap (λ z. z.key) is ∙ same_Some q.key k h)
row_at (q ∷ rows) (suc i) k r h is = row_at rows i k r h is

-- the lane of the key took the item
known_taken : {T : Type 0} (m : Meaning T) (gs : List (Stage T)) (rows : List (KeyedLane T)) (i k : ℕ) (r : KeyedLane T) (new : Lane T) (x : T) → AreDistinct (keys_of rows) → slice_get (keys_of rows) i ≡ Some k → r ≡ slice_index_or rows i r → TakesOne m r.lane x new →
    TakesKeyed m gs rows k x (slice_set rows i (record { key = r.key; lane = new }))
known_taken {T} m gs rows i k r new x d at is takes =
    let found = row_at rows i k r at is in
    let seen : is_member nat_eq (keys_of rows) r.key ≡ true = key_there (keys_of rows) r.key i (at ∙ ap Some (sym found.1)) in
    let P : ℕ → Type 0 = λ z. TakesKeyed m gs rows z x (slice_set rows i (record { key = r.key; lane = new })) in
    subst P found.1 (known_key m gs rows i r new x d seen found.0 takes)

-- nothing waits in it
pub quiet_at : {T : Type 0} (rows : List (KeyedLane T)) (i : ℕ) (r : KeyedLane T) → are_quiet rows ≡ true → i < length rows → r ≡ slice_index_or rows i r → is_quiet r.lane ≡ true
quiet_at [] i r q lt is = absurd (omega arith)
quiet_at (p ∷ rows) zero r q lt is = ap (λ z. is_quiet z.lane) is ∙ (and_parts (is_quiet p.lane) (are_quiet rows) q).0
quiet_at (p ∷ rows) (suc i) r q lt is = quiet_at rows i r (and_parts (is_quiet p.lane) (are_quiet rows) q).1 (omega arith) is

new_keys : {T : Type 0} (rows : List (KeyedLane T)) (k : ℕ) (new : Lane T) → is_member nat_eq (keys_of rows) k ≡ false → keys_of (rows ++ record { key = k; lane = new } ∷ []) ≡ see (keys_of rows) k
new_keys rows k new out = rw out (keys_more rows (record { key = k; lane = new }))

new_distinct : {T : Type 0} (rows : List (KeyedLane T)) (k : ℕ) (new : Lane T) → is_member nat_eq (keys_of rows) k ≡ false → AreDistinct (keys_of rows) → AreDistinct (keys_of (rows ++ record { key = k; lane = new } ∷ []))
new_distinct rows k new out d = subst AreDistinct (sym (keys_more rows (record { key = k; lane = new }))) (distinct_more (keys_of rows) k d out)

-- a key that was added and removed again
see_new : (ks : List ℕ) (k : ℕ) → is_member nat_eq ks k ≡ false → see ks k ≡ ks ++ k ∷ []
see_new ks k out = rw out refl

-- ---- what the table keeps

abbrev pub Keeps : {T : Type 0} → List ℕ → List (KeyedLane T) → Type 0
Keeps ks rows = (ks ≡ keys_of rows) × AreDistinct (keys_of rows)

pub kept : {T : Type 0} (ks ks' : List ℕ) (rows rows' : List (KeyedLane T)) → Keeps ks rows → ks' ≡ ks → rows' ≡ rows → Keeps ks' rows'
kept ks ks' rows rows' h k r = rw (k, r) h

pub kept_more : {T : Type 0} (ks ks' : List ℕ) (now rows rows' more : List (KeyedLane T)) (k : ℕ) (new : Lane T) → Keeps ks rows → rows ≡ now → is_member nat_eq (keys_of now) k ≡ false → ks' ≡ see ks k → rows' ≡ rows → more ≡ rows' ++ record { key = k; lane = new } ∷ [] → Keeps ks' more
kept_more ks ks' now rows rows' more k new h view out added same is =
    let there : is_member nat_eq (keys_of rows) k ≡ false = ap (λ z. is_member nat_eq (keys_of z) k) view ∙ out in
    rw (is, same) (added ∙ ap (λ z. see z k) h.0 ∙ sym (new_keys rows k new there), new_distinct rows k new there h.1)

pub removed : {T : Type 0} (ks ks' left : List ℕ) (now rows rows' : List (KeyedLane T)) (k : ℕ) → Keeps ks rows → rows ≡ now → is_member nat_eq (keys_of now) k ≡ false → ks' ≡ see ks k → ((js : List ℕ) (j : ℕ) → ks' ≡ js ++ j ∷ [] → left ≡ js) → rows' ≡ rows → Keeps left rows'
removed ks ks' left now rows rows' k h view out added back same =
    let there : is_member nat_eq ks k ≡ false = ap (λ z. is_member nat_eq z k) h.0 ∙ ap (λ z. is_member nat_eq (keys_of z) k) view ∙ out in
    kept ks left rows rows' h (back ks k (added ∙ see_new ks k there)) same

pub set_keys : {T : Type 0} (rows : List (KeyedLane T)) (i : ℕ) (r : KeyedLane T) (new : Lane T) → r ≡ slice_index_or rows i r → keys_of (slice_set rows i (record { key = r.key; lane = new })) ≡ keys_of rows
set_keys [] i r new is = refl
set_keys (q ∷ rows) zero r new is = ap (λ z. z.key ∷ keys_of rows) is
set_keys (q ∷ rows) (suc i) r new is = ap (λ ks. q.key ∷ ks) (set_keys rows i r new is)

pub kept_at : {T : Type 0} (ks : List ℕ) (rows : List (KeyedLane T)) (i : ℕ) (r : KeyedLane T) (new : Lane T) → Keeps ks rows → r ≡ slice_index_or rows i r → Keeps ks (slice_set rows i (record { key = r.key; lane = new }))
kept_at ks rows i r new h is = let same = set_keys rows i r new is in (h.0 ∙ sym same, subst AreDistinct (sym same) h.1)

-- ---- what the calls answer

pub opened : {T : Type 0} (m : Meaning T) (gs : List (Stage T)) (now rows rows' more : List (KeyedLane T)) (k : ℕ) (x : T) (new : Lane T) → rows ≡ now → is_member nat_eq (keys_of now) k ≡ false → rows' ≡ rows → more ≡ rows' ++ record { key = k; lane = new } ∷ [] → BeginsWith m gs x new →
    TakesKeyed m gs now k x more
opened {T} m gs now rows rows' more k x new view out same is begins =
    let whole : now ++ record { key = k; lane = new } ∷ [] ≡ more = sym (is ∙ ap (λ z. z ++ record { key = k; lane = new } ∷ []) (same ∙ view)) in
    subst (TakesKeyed m gs now k x) whole (new_key m gs now k x new out begins)

pub taken_there : {T : Type 0} (m : Meaning T) (gs : List (Stage T)) (now rows : List (KeyedLane T)) (i k : ℕ) (r : KeyedLane T) (new : Lane T) (x : T) → AreDistinct (keys_of rows) → rows ≡ now → slice_get (keys_of now) i ≡ Some k → r ≡ slice_index_or rows i r → TakesOne m r.lane x new →
    TakesKeyed m gs now k x (slice_set rows i (record { key = r.key; lane = new }))
taken_there {T} m gs now rows i k r new x d view at is takes =
    let P : List (KeyedLane T) → Type 0 = λ z. TakesKeyed m gs z k x (slice_set rows i (record { key = r.key; lane = new })) in
    subst P view (known_taken m gs rows i k r new x d (ap (λ z. slice_get (keys_of z) i) view ∙ at) is takes)

pub set_back : {T : Type 0} (now rows : List (KeyedLane T)) (i : ℕ) (r : KeyedLane T) (new : Lane T) → rows ≡ now → r ≡ slice_index_or rows i r → new ≡ r.lane → slice_set rows i (record { key = r.key; lane = new }) ≡ now
set_back {T} now rows i r new view is same = ap (λ l. slice_set rows i (record { key = r.key; lane = l })) same ∙ as_it_was rows i is ∙ view
  where
    as_it_was : (ls : List (KeyedLane T)) (j : ℕ) → r ≡ slice_index_or ls j r → slice_set ls j (record { key = r.key; lane = r.lane }) ≡ ls
    as_it_was [] j e = refl
    as_it_was (q ∷ ls) zero e = ap (λ z. z ∷ ls) e
    as_it_was (q ∷ ls) (suc j) e = ap (λ zs. q ∷ zs) (as_it_was ls j e)

pub commits : {T : Type 0} (now rows : List (KeyedLane T)) (i : ℕ) (r : KeyedLane T) (lane : Option (Lane T)) (new : Lane T) → rows ≡ now → r ≡ slice_index_or rows i r → new ≡ after_pick lane r.lane → CommitsAt now i lane (slice_set rows i (record { key = r.key; lane = new }))
commits {T} now rows i r lane new view is after q at =
    let same : r ≡ q = is ∙ got rows i (ap (λ z. slice_get z i) view ∙ at) in
    let P : List (KeyedLane T) → Type 0 = λ z. slice_set rows i (record { key = r.key; lane = new }) ≡ slice_set z i (record { key = q.key; lane = after_pick lane q.lane }) in
    subst P view (ap (λ l. slice_set rows i (record { key = r.key; lane = l })) after ∙ ap (λ z. slice_set rows i (record { key = z.key; lane = after_pick lane z.lane })) same)
  where
    got : (ls : List (KeyedLane T)) (j : ℕ) → slice_get ls j ≡ Some q → slice_index_or ls j r ≡ q
    got [] j h = cc
    got (p ∷ ls) zero h = same_Some p q h
    got (p ∷ ls) (suc j) h = got ls j h

-- an item was picked of it
pub picked_there : {T : Type 0} (m : Meaning T) (now rows : List (KeyedLane T)) (i : ℕ) (r : KeyedLane T) (cs cs' : List Run) (x : T) (new : Lane T) → rows ≡ now → i < length rows → length rows < 2 ^ 64 → r ≡ slice_index_or rows i r → IsItemPicked m r.key r.lane x new → written cs' ≡ written cs ++ i ∷ [] →
    IsItemPickedAt m now cs x (slice_set rows i (record { key = r.key; lane = new })) cs'
picked_there {T} m now rows i r cs cs' x new view within few is item choice = record {
  place = i;
  row = r;
  lane = new;
  at = ap (λ z. slice_get z i) (sym view) ∙ got rows i within is;
  small = omega arith;
  item = item;
  left = ap (λ z. slice_set z i (record { key = r.key; lane = new })) view;
  choice = choice;
}
  where
    got : (ls : List (KeyedLane T)) (j : ℕ) → j < length ls → r ≡ slice_index_or ls j r → slice_get ls j ≡ Some r
    got [] j lt e = absurd (omega (arith, lt))
    got (q ∷ ls) zero lt e = ap Some (sym e)
    got (q ∷ ls) (suc j) lt e = got ls j (omega (arith, lt)) e

-- ---- no chain is over

pub go_on_set : {T : Type 0} (rows : List (KeyedLane T)) (i : ℕ) (q : KeyedLane T) → GoOn rows → GoesOn q.lane.state → GoOn (slice_set rows i q)
go_on_set [] i q h new = tt
go_on_set (r ∷ rows) zero q h new = (new, h.1)
go_on_set (r ∷ rows) (suc i) q h new = (h.0, go_on_set rows i q h.1 new)

go_on_more : {T : Type 0} (rows : List (KeyedLane T)) (q : KeyedLane T) → GoOn rows → GoesOn q.lane.state → GoOn (rows ++ q ∷ [])
go_on_more [] q h new = (new, tt)
go_on_more (r ∷ rows) q h new = (h.0, go_on_more rows q h.1 new)

pub opened_goes_on : {T : Type 0} (now rows rows' more : List (KeyedLane T)) (q : KeyedLane T) → rows ≡ now → rows' ≡ rows → more ≡ rows' ++ q ∷ [] → GoesOn q.lane.state → GoOn now → GoOn more
opened_goes_on now rows rows' more q view same is new h = rw (is, same, view) (go_on_more now q h new)

pub set_goes_on : {T : Type 0} (now rows : List (KeyedLane T)) (i : ℕ) (q : KeyedLane T) → rows ≡ now → GoesOn q.lane.state → GoOn now → GoOn (slice_set rows i q)
set_goes_on now rows i q view new h = rw view (go_on_set now i q h new)

-- after a pick
pub picked_goes_on : {T : Type 0} (old new : List (KeyedLane T)) (i : ℕ) (r : KeyedLane T) (pick : Option (Lane T)) → slice_get old i ≡ Some r → CommitsAt old i pick new → PickGoesOn pick → GoOn old → GoOn new
picked_goes_on {T} old new i r pick at committed rests h = subst GoOn (sym (committed r at)) (go_on_set old i (record { key = r.key; lane = after_pick pick r.lane }) h (by_pick pick rests))
  where
    there : (rows : List (KeyedLane T)) (j : ℕ) → slice_get rows j ≡ Some r → GoOn rows → GoesOn r.lane.state
    there [] j e k = cc
    there (q ∷ rows) zero e k = subst (λ (z : KeyedLane T). GoesOn z.lane.state) (same_Some q r e) k.0
    there (q ∷ rows) (suc j) e k = there rows j e k.1

    behind : (xs : List T) → GoesOn (without_next r.lane.state xs).state
    behind [] = tt
    behind (x ∷ xs) = there old i at h

    by_pick : (p : Option (Lane T)) → PickGoesOn p → GoesOn (after_pick p r.lane).state
    by_pick None k = behind r.lane.waiting
    by_pick (Some l) k = k

-- ---- what the node does

-- an item came into the lane of its key
pub lane_takes : {T U E : Type 0} (r : Result U E) (m : Meaning T) (f : ℕ) (gs : List (Stage T)) (rows rows' : List (KeyedLane T)) (main : MainState) (x : T) (k : ℕ) → is_coming main ≡ true → m.keyed f x ≡ Ok k → is_member nat_eq (keys_of rows) k ≡ true → OnOk r (keys_of rows' ≡ keys_of rows) → OnOk r (TakesKeyed m gs rows k x rows') →
    OnOk r (TakesItem m f gs rows main x rows' main)
lane_takes (Err e) m f gs rows rows' main x k coming key seen keys takes = tt
lane_takes (Ok u) m f gs rows rows' Completed x k coming key seen keys takes = cc
lane_takes (Ok u) m f gs rows rows' (Failing c) x k coming key seen keys takes = cc
lane_takes (Ok u) m f gs rows rows' Taken x k coming key seen keys takes = cc
lane_takes (Ok u) m f gs rows rows' Coming x k coming key seen keys takes = λ v.
    let ks = keys_of rows in
    let after = λ (js : List ℕ). keyed_items (m.keyed f) js v.items v.ending in
    let w = after ks in
    let at : placed ks (m.keyed f x) ≡ Ok k = rw (key, seen) refl in
    let same : see ks k ≡ ks = rw seen refl in
    let known : keyed_then x ks (placed ks (m.keyed f x)) after ≡ item_then (k, x) w = ap (λ p. keyed_then x ks p after) at ∙ ap (λ js. item_then (k, x) (after js)) same in
    ap (λ js. lanes_and_main m gs rows' Coming (after js)) keys
    ∙ sym (takes w (main_left Coming w.ending))
    ∙ ap (lanes_and_main m gs rows Coming) (sym known)
