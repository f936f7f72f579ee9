-- What still comes out of the lanes, copied part by part.
use Rattle.std.proofs.Common.{◌≡◌, ℕ, suc, ◌+◌, ◌<◌, Bool, true, false, nat_eq, List, [], ◌∷◌, ◌++◌, map, drop, length, get_or, Option, Some, None, Result, Ok, refl, ap, sym, ◌∙◌, subst, arith, append_assoc}
use Rattle.std.specs.Set.{is_member}
use Rattle.std.proofs.lemmas.List.{append-nil, at_drop_more}
use Rattle.std.proofs.lemmas.Bool.{eq-eqb, eqb-true, or_right}
use Rattle.rsx_sources.specs.Prelude.{Ending, Stage, Meaning, Stream, item_then, items_then, signals}
use Rattle.rsx_values.specs.Prelude.{InputLeft, numbered, first_seen, group_lane, keyed_items, keys_after, of_key, placed, see}
use Rattle.rsx_values.proofs.Keying.{keyed_item, first_seen_more}
use Rattle.rsx_queued.specs.Inputs.{here}
use Rattle.rsx_grouping.proofs.Tables.{length_keys}
use Rattle.rsx_grouping.specs.Keys.{AreDistinct}
use Rattle.rsx_grouping.specs.Lane.{lane_left, IsFresh}
use Rattle.rsx_grouping.specs.Rest.{see_all}
use Rattle.rsx_grouping.specs.Rows.{keys_of}
use Rattle.rsx_grouping.specs.Table.{fresh_keys, lanes_there, lanes_left}
use Rattle.rsx_grouping.specs.declared.lane.Lane.{Lane}
use Rattle.rsx_grouping.specs.declared.table.KeyedLane.{KeyedLane}

-- ---- the keys of lanes, one by one

key_among : (seen : List ℕ) (k : ℕ) (ks : List ℕ) → is_member nat_eq (seen ++ k ∷ ks) k ≡ true
key_among [] k ks = rw (eq-eqb k k refl) refl
key_among (j ∷ seen) k ks = or_right (nat_eq k j) (is_member nat_eq (seen ++ k ∷ ks) k) (key_among seen k ks)

not_before : (seen : List ℕ) (k : ℕ) (ks : List ℕ) → AreDistinct (seen ++ k ∷ ks) → is_member nat_eq seen k ≡ false
not_before [] k ks d = refl
not_before (j ∷ seen) k ks d = by_test (nat_eq k j) refl (not_before seen k ks d.1)
  where
    by_test : (t : Bool) → nat_eq k j ≡ t → is_member nat_eq seen k ≡ false → is_member nat_eq (j ∷ seen) k ≡ false
    by_test false e rest = rw e rest
    by_test true e rest =
        let same : k ≡ j = eqb-true k j e in
        let there : is_member nat_eq (seen ++ k ∷ ks) j ≡ true = subst (λ i. is_member nat_eq (seen ++ k ∷ ks) i ≡ true) same (key_among seen k ks) in
        let out : is_member nat_eq (seen ++ k ∷ ks) j ≡ false = d.0 in
        cc

-- where no key comes twice they stand as they are
pub all_seen : (seen ks : List ℕ) → AreDistinct (seen ++ ks) → see_all seen ks ≡ seen ++ ks
all_seen seen [] d = sym (append-nil seen)
all_seen seen (k ∷ ks) d =
    let new : see seen k ≡ seen ++ k ∷ [] = rw (not_before seen k ks d) refl in
    let whole : (seen ++ k ∷ []) ++ ks ≡ seen ++ k ∷ ks = append_assoc seen (k ∷ []) ks in
    ap (λ s. see_all s ks) new ∙ all_seen (seen ++ k ∷ []) ks (subst AreDistinct (sym whole) d) ∙ whole

-- the keys that were seen, and those that come first then
pub first_then_fresh : {T : Type 0} (seen : List ℕ) (ps : List (ℕ × T)) → first_seen seen ps ≡ seen ++ fresh_keys seen ps
first_then_fresh seen [] = sym (append-nil seen)
first_then_fresh {T} seen (p ∷ ps) = by_test (is_member nat_eq seen p.0) refl (first_then_fresh seen ps) (first_then_fresh (seen ++ p.0 ∷ []) ps)
  where
    by_test : (t : Bool) → is_member nat_eq seen p.0 ≡ t → first_seen seen ps ≡ seen ++ fresh_keys seen ps → first_seen (seen ++ p.0 ∷ []) ps ≡ (seen ++ p.0 ∷ []) ++ fresh_keys (seen ++ p.0 ∷ []) ps → first_seen seen (p ∷ ps) ≡ seen ++ fresh_keys seen (p ∷ ps)
    by_test true e known new = rw e known
    by_test false e known new = rw e (new ∙ append_assoc seen (p.0 ∷ []) (fresh_keys (seen ++ p.0 ∷ []) ps))

-- ---- an item behind its key

pub key_copied : {T : Type 0} (key : T → Result ℕ ℕ) (before seen seen' : List ℕ) (keyed keyed' : List (ℕ × T)) (xs : List T) (i k : ℕ) (x : T) (e : Ending) (whole : Stream (ℕ × T)) (r : Result ℕ ℕ) → i < length xs → x ≡ get_or xs i x → r ≡ placed seen (key x) → seen' ≡ keys_after seen r → r ≡ Ok k → keyed' ≡ keyed ++ (k, x) ∷ [] →
    items_then keyed (keyed_items key seen (drop i xs) e) ≡ whole → seen ≡ first_seen before keyed →
    (items_then keyed' (keyed_items key seen' (drop (i + 1) xs) e) ≡ whole) × (seen' ≡ first_seen before keyed')
key_copied {T} key before seen seen' keyed keyed' xs i k x e whole r within at is keys ok put came all =
    let rest : Stream (ℕ × T) = keyed_items key seen' (drop (i + 1) xs) e in
    let more : seen' ≡ see seen k = keys ∙ ap (keys_after seen) ok in
    let item : drop i xs ≡ x ∷ drop (i + 1) xs = at_drop_more (λ l. l) xs i x within ∙ ap (λ z. z ∷ drop (i + 1) xs) (sym at) in
    let step : keyed_items key seen (drop i xs) e ≡ item_then (k, x) rest = ap (λ l. keyed_items key seen l e) item ∙ keyed_item key x seen seen' k (drop (i + 1) xs) e (sym ok ∙ is) more in (
      rw put (ap (λ l. record { items = l; ending = rest.ending }) (append_assoc keyed ((k, x) ∷ []) rest.items) ∙ ap (items_then keyed) (sym step) ∙ came),
      more ∙ ap (λ s. see s k) all ∙ sym (first_seen_more before keyed (k, x)) ∙ ap (first_seen before) (sym put),
    )

-- ---- the lanes that are there

pub here_apart : {T : Type 0} (n : ℕ) (o : Option (Stream T)) (is : List (InputLeft T)) → here n o is ≡ here n o [] ++ is
here_apart n None is = refl
here_apart n (Some v) is = refl

pub there_apart : {T : Type 0} (m : Meaning T) (n : ℕ) (rows : List (KeyedLane T)) (w : Stream (ℕ × T)) (rest : List (InputLeft T)) → lanes_there m n rows w rest ≡ lanes_there m n rows w [] ++ rest
there_apart m n [] w rest = refl
there_apart {T} m n (r ∷ rows) w rest =
    let o : Option (Stream T) = lane_left m r.key r.lane (of_key r.key w) in
    here_apart n o (lanes_there m (suc n) rows w rest)
    ∙ ap (λ is. here n o [] ++ is) (there_apart m (suc n) rows w rest)
    ∙ sym (append_assoc (here n o []) (lanes_there m (suc n) rows w []) rest)
    ∙ ap (λ is. is ++ rest) (sym (here_apart n o (lanes_there m (suc n) rows w [])))

-- what still comes out of the lanes, and then the rest
pub lanes_apart : {T : Type 0} (m : Meaning T) (gs : List (Stage T)) (rows : List (KeyedLane T)) (w : Stream (ℕ × T)) (rest : List (InputLeft T)) → lanes_left m gs rows w rest ≡ lanes_left m gs rows w [] ++ rest
lanes_apart {T} m gs rows w rest =
    let come : List (InputLeft T) = numbered (length (keys_of rows)) (map (group_lane m gs w) (fresh_keys (keys_of rows) w.items)) in
    there_apart m 0 rows w (come ++ rest)
    ∙ sym (append_assoc (lanes_there m 0 rows w []) come rest)
    ∙ ap (λ is. (lanes_there m 0 rows w [] ++ is) ++ rest) (sym (append-nil come))
    ∙ ap (λ is. is ++ rest) (sym (there_apart m 0 rows w (come ++ [])))

-- one lane was put behind the others
pub there_pushed : {T : Type 0} (m : Meaning T) (before now new whole : List (InputLeft T)) (rows : List (KeyedLane T)) (w : Stream (ℕ × T)) (i : ℕ) (r : KeyedLane T) → i < length rows → r ≡ get_or rows i r →
    new ≡ now ++ here i (lane_left m r.key r.lane (of_key r.key w)) [] → now ++ lanes_there m i (drop i rows) w [] ≡ before ++ whole → new ++ lanes_there m (i + 1) (drop (i + 1) rows) w [] ≡ before ++ whole
there_pushed {T} m before now new whole rows w i r within at put came =
    let o : Option (Stream T) = lane_left m r.key r.lane (of_key r.key w) in
    let item : drop i rows ≡ r ∷ drop (i + 1) rows = at_drop_more (λ l. l) rows i r within ∙ ap (λ z. z ∷ drop (i + 1) rows) (sym at) in
    let next : suc i ≡ i + 1 = omega arith in
    let rest : List (InputLeft T) = lanes_there m (i + 1) (drop (i + 1) rows) w [] in
    let step : lanes_there m i (drop i rows) w [] ≡ here i o [] ++ rest = ap (λ l. lanes_there m i l w []) item ∙ ap (λ j. here i o (lanes_there m j (drop (i + 1) rows) w [])) next ∙ here_apart i o rest in
    rw put (append_assoc now (here i o []) rest ∙ ap (λ is. now ++ is) (sym step) ∙ came)

-- ---- the lanes that aren't there yet

pub fresh_pushed : {T : Type 0} (m : Meaning T) (gs : List (Stage T)) (before now new whole : List (InputLeft T)) (ks : List ℕ) (w : Stream (ℕ × T)) (i : ℕ) (l : Lane T) → i < length ks → IsFresh m gs l →
    new ≡ now ++ here i (lane_left m (get_or ks i 0) l (of_key (get_or ks i 0) w)) [] → now ++ numbered i (map (group_lane m gs w) (drop i ks)) ≡ before ++ whole → new ++ numbered (i + 1) (map (group_lane m gs w) (drop (i + 1) ks)) ≡ before ++ whole
fresh_pushed {T} m gs before now new whole ks w i l within fresh put came =
    let k : ℕ = get_or ks i 0 in
    let item : drop i ks ≡ k ∷ drop (i + 1) ks = at_drop_more (λ j. j) ks i 0 within in
    let next : suc i ≡ i + 1 = omega arith in
    let rest : List (InputLeft T) = numbered (i + 1) (map (group_lane m gs w) (drop (i + 1) ks)) in
    let step : numbered i (map (group_lane m gs w) (drop i ks)) ≡ (i, signals (group_lane m gs w k)) ∷ rest = ap (λ js. numbered i (map (group_lane m gs w) js)) item ∙ ap (λ j. (i, signals (group_lane m gs w k)) ∷ numbered j (map (group_lane m gs w) (drop (i + 1) ks))) next in
    let pushed : new ≡ now ++ (i, signals (group_lane m gs w k)) ∷ [] = put ∙ ap (λ o. now ++ here i o []) (sym (fresh k (of_key k w))) in
    rw pushed (append_assoc now ((i, signals (group_lane m gs w k)) ∷ []) rest ∙ ap (λ is. now ++ is) (sym step) ∙ came)

-- ---- all lanes

behind_all : {A : Type 0} (xs ys : List A) → drop (length xs) (xs ++ ys) ≡ ys
behind_all [] ys = refl
behind_all (x ∷ xs) ys = behind_all xs ys

pub all_pushed : {T : Type 0} (m : Meaning T) (gs : List (Stage T)) (rows : List (KeyedLane T)) (keys : List ℕ) (w : Stream (ℕ × T)) (count : ℕ) (none there all : List (InputLeft T)) → keys ≡ first_seen (keys_of rows) w.items → count ≡ length rows → none ≡ [] →
    there ≡ none ++ lanes_there m 0 rows w [] → all ≡ there ++ numbered count (map (group_lane m gs w) (drop count keys)) → all ≡ lanes_left m gs rows w []
all_pushed {T} m gs rows keys w count none there all seen len empty put behind =
    let ks : List ℕ = keys_of rows in
    let many : count ≡ length ks = len ∙ sym (length_keys rows) in
    let fresh : drop count keys ≡ fresh_keys ks w.items = rw (many, seen, first_then_fresh ks w.items) (behind_all ks (fresh_keys ks w.items)) in
    let come : List (InputLeft T) = numbered (length ks) (map (group_lane m gs w) (fresh_keys ks w.items)) in
    let more : numbered count (map (group_lane m gs w) (drop count keys)) ≡ come = ap (λ js. numbered count (map (group_lane m gs w) js)) fresh ∙ ap (λ n. numbered n (map (group_lane m gs w) (fresh_keys ks w.items))) many in
    behind
    ∙ ap (λ is. is ++ numbered count (map (group_lane m gs w) (drop count keys))) (put ∙ ap (λ is. is ++ lanes_there m 0 rows w []) empty)
    ∙ ap (λ is. lanes_there m 0 rows w [] ++ is) (more ∙ sym (append-nil come))
    ∙ sym (there_apart m 0 rows w (come ++ []))
