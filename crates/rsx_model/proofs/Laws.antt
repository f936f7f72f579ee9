-- The laws of `scan`, `buffer` and `distinct` in the words of lists, and of the endings of expressions.
use Rattle.std.proofs.Common.{◌≡◌, inl, inr, ◌∙◌, ℕ, zero, suc, ◌+◌, ◌<◌, ◌≤◌, Bool, true, false, ◌||◌, nat_eq, nat_le, List, [], ◌∷◌, ◌++◌, length, take, map, length-append, append_assoc, append-nil, Option, Some, None, option_map, option_and_then, slice_get, Result, Ok, Err, refl, sym, ap, subst, arith}
use Rattle.std.specs.Prelude.{fold, if◌then◌else◌, MatchResult}
use Rattle.std.specs.List.{All}
use Rattle.std.specs.Result.{result_ok}
use Rattle.std.specs.Set.{is_member}
use Rattle.std.proofs.lemmas.List.Elements.{All-get_or, All-head, All-tail}
use Rattle.std.proofs.lemmas.Option.{slice_get_cases}
use Rattle.std.proofs.lemmas.List.Folds.{list_any-append}
use Rattle.std.proofs.lemmas.Bool.{eqb-true}
use Rattle.rsx_values.specs.Prelude.{Note, Nothing, Picks, Ended, Function, Ending, Open, Done, Failed, Stage, Map, Filter, Take, Scan, Buffer, Distinct, Meaning, mapped_items, filtered_items, taken_items, accumulated_then, scanned_items, last_list, buffered_items, new_key_then, distinct_items, plain, chained, listed, range_items, Stream, ended_by, item_then, answer_then, kept_then, cut_by, concat, merge, merge_delay, eager_of, list_then, expanded_items, flat_lane, flat_map, flat_map_delay, placed, see, keyed_then, keyed_items, lane_ending, of_key, group_lane, group_lanes, first_seen, group_by, last_window, windows, windows_and_main, window, latest_by, zip}
use Rattle.rsx_model.specs.declared.expr.Expr.{Expr}
use Rattle.rsx_model.specs.declared.expr.Expr.TheOpen.{Expr-F}
use Rattle.rsx_model.specs.declared.expr.Expr.TheOpen as layer
use Rattle.rsx_model.specs.declared.expr.Expr.TheFolds.{map-Expr}
use Rattle.rsx_model.specs.declared.expr.Expr.TheViews.{out-Expr}
use Rattle.rsx_model.specs.Shape.{children}
use Rattle.rsx_model.specs.Eval.{Environment, Meant, meant, in_order, node_value, quiet, chosen, ended_by_record, behind, joined_value}
use Rattle.rsx_model.specs.Laws.{folded_in, folded, ScanFolds, joined, IsCut, given_lists, BufferCuts, DistinctKeepsFirst, NoBadRequest}
use Rattle.rsx_model.proofs.Steps.{buffered_full, buffered_more}
use Rattle.rsx_model.proofs.Unfold.{Each, by_children, children-map, value_out}
use Rattle.rsx_model.proofs.Endings.{Fine, AllFine, FineMeant, in_order_fine, concat_values_fine, merge_values_fine, merge_delay_values_fine, eager_values_fine, zip_values_fine, latest_values_fine, merged_lanes_fine, merged_lanes_delay_fine}

-- ---- scan

fault_stays : {T : Type 0} (f : T → T → Result T ℕ) (c : ℕ) (xs : List T) → fold (folded_in f) (Err c) xs ≡ Err c
fault_stays f c [] = refl
fault_stays f c (x ∷ xs) = fault_stays f c xs

scan_item : {T : Type 0} (f : T → T → Result T ℕ) (a : T) (xs : List T) (e : Ending) (k : ℕ) → k ≤ length xs → slice_get (a ∷ (scanned_items f a xs e).items) k ≡ result_ok (folded f a (take k xs))
scan_item f a xs e zero h = refl
scan_item f a [] e (suc k) h = absurd (omega (arith, h))
scan_item {T} f a (x ∷ xs) e (suc k) h = after (λ b. scan_item f b xs e k (omega (arith, h))) (f a x)
  where
    after : ((b : T) → slice_get (b ∷ (scanned_items f b xs e).items) k ≡ result_ok (folded f b (take k xs))) → (r : Result T ℕ) → slice_get (accumulated_then r (λ b. scanned_items f b xs e)).items k ≡ result_ok (fold (folded_in f) r (take k xs))
    after more (Ok b) = more b
    after more (Err c) = ap result_ok (sym (fault_stays f c (take k xs)))

scan_past : {T : Type 0} (f : T → T → Result T ℕ) (a : T) (xs : List T) (e : Ending) (k : ℕ) → length xs < k → slice_get (a ∷ (scanned_items f a xs e).items) k ≡ None
scan_past f a xs e zero h = absurd (omega (arith, h))
scan_past f a [] e (suc k) h = refl
scan_past {T} f a (x ∷ xs) e (suc k) h = after (λ b. scan_past f b xs e k (omega (arith, h))) (f a x)
  where
    after : ((b : T) → slice_get (b ∷ (scanned_items f b xs e).items) k ≡ None) → (r : Result T ℕ) → slice_get (accumulated_then r (λ b. scanned_items f b xs e)).items k ≡ None
    after more (Ok b) = more b
    after more (Err c) = refl

abbrev EndsAs : {T : Type 0} → Ending → Stream T → Result T ℕ → Type 0
EndsAs e v r = MatchResult r (λ y. v.ending ≡ e) (λ c. v.ending ≡ Failed (Function c))

scan_ending : {T : Type 0} (f : T → T → Result T ℕ) (a : T) (xs : List T) (e : Ending) → EndsAs e (scanned_items f a xs e) (folded f a xs)
scan_ending f a [] e = refl
scan_ending {T} f a (x ∷ xs) e = after (λ b. scan_ending f b xs e) (f a x)
  where
    after : ((b : T) → EndsAs e (scanned_items f b xs e) (folded f b xs)) → (r : Result T ℕ) → EndsAs e (accumulated_then r (λ b. scanned_items f b xs e)) (fold (folded_in f) r xs)
    after more (Ok b) = more b
    after more (Err c) = subst (EndsAs e (cut_by {T = T} c)) (sym (fault_stays f c xs)) refl

pub scan_folds_law : {T : Type 0} (m : Meaning T) (f : ℕ) (s : T) (v : Stream T) → ScanFolds m f s v
scan_folds_law m f s v = record {
  item = λ k h. scan_item (m.folded f) s v.items v.ending k h;
  past = λ k h. scan_past (m.folded f) s v.items v.ending k h;
  ending = scan_ending (m.folded f) s v.items v.ending;
}

-- ---- buffer

-- the items that fill the started list
list_full : {T : Type 0} (list : List T → T) (n : ℕ) (started : List T) (y : T) (ys zs : List T) (e : Ending) → length started + length (y ∷ ys) ≡ n → buffered_items list n started ((y ∷ ys) ++ zs) e ≡ item_then (list (started ++ y ∷ ys)) (buffered_items list n [] zs e)
list_full list n started y [] zs e h = buffered_full list n started y zs e (omega (arith, h))
list_full list n started y (z ∷ ys) zs e h =
    let grown = length-append started (y ∷ []) in
    let more = buffered_more list n started y ((z ∷ ys) ++ zs) e (omega (arith, h)) in
    let rest = list_full list n (started ++ y ∷ []) z ys zs e (omega (arith, h, grown)) in
    more ∙ rest ∙ ap (λ l. item_then (list l) (buffered_items list n [] zs e)) (append_assoc started (y ∷ []) (z ∷ ys))

-- the items behind the last full list
list_rest : {T : Type 0} (list : List T → T) (n : ℕ) (started rest : List T) (e : Ending) → length started + length rest < n → buffered_items list n started rest e ≡ last_list list (started ++ rest) e
list_rest list n started [] e h = ap (λ l. last_list list l e) (sym (append-nil started))
list_rest list n started (y ∷ ys) e h =
    let grown = length-append started (y ∷ []) in
    let more = buffered_more list n started y ys e (omega (arith, h)) in
    let rest = list_rest list n (started ++ y ∷ []) ys e (omega (arith, h, grown)) in
    more ∙ rest ∙ ap (λ l. last_list list l e) (append_assoc started (y ∷ []) ys)

last_given : {T : Type 0} (list : List T → T) (rest : List T) (e : Ending) → last_list list rest e ≡ record { items = map list (given_lists [] rest e); ending = e }
last_given list [] e = refl
last_given list (x ∷ xs) Done = refl
last_given list (x ∷ xs) Open = refl
last_given list (x ∷ xs) (Failed c) = refl

given_more : {T : Type 0} (l : List T) (ls : List (List T)) (rest : List T) (e : Ending) → given_lists (l ∷ ls) rest e ≡ l ∷ given_lists ls rest e
given_more l ls [] e = refl
given_more l ls (x ∷ xs) Done = refl
given_more l ls (x ∷ xs) Open = refl
given_more l ls (x ∷ xs) (Failed c) = refl

cut_lists : {T : Type 0} (list : List T → T) (n : ℕ) (lists : List (List T)) (rest : List T) (e : Ending) → All (λ l. length l ≡ n) lists → length rest < n → buffered_items list n [] (joined lists ++ rest) e ≡ record { items = map list (given_lists lists rest e); ending = e }
cut_lists list n [] rest e full short = list_rest list n [] rest e (omega (arith, short)) ∙ last_given list rest e
cut_lists list n ([] ∷ ls) rest e full short =
    let none = All-head (λ l. length l ≡ n) [] ls full in
    absurd (omega (arith, none, short))
cut_lists list n ((y ∷ ys) ∷ ls) rest e full short =
    let here = All-head (λ l. length l ≡ n) (y ∷ ys) ls full in
    let below = cut_lists list n ls rest e (All-tail (λ l. length l ≡ n) (y ∷ ys) ls full) short in
    ap (λ xs. buffered_items list n [] xs e) (append_assoc (y ∷ ys) (joined ls) rest)
    ∙ list_full list n [] y ys (joined ls ++ rest) e (omega (arith, here))
    ∙ ap (item_then (list (y ∷ ys))) below
    ∙ ap (λ ps. record { items = map list ps; ending = e }) (sym (given_more (y ∷ ys) ls rest e))

pub buffer_cuts_law : {T : Type 0} (m : Meaning T) (n : ℕ) (v : Stream T) (lists : List (List T)) (rest : List T) → IsCut n v.items lists rest → BufferCuts m n v lists rest
buffer_cuts_law m n v lists rest cut =
    let same = ap (λ xs. buffered_items m.list_of n [] xs v.ending) cut.whole ∙ cut_lists m.list_of n lists rest v.ending cut.full cut.short in
    record { items = ap (λ s. s.items) same; ending = ap (λ s. s.ending) same }

-- ---- distinct

or_known : (a b c : Bool) → (b ≡ true → a ≡ true) → (a || c) ≡ (a || (b || c))
or_known true b c h = refl
or_known false true c h = let no : false ≡ true = h refl in cc
or_known false false c h = refl

or_new : (a b c : Bool) → ((a || (b || false)) || c) ≡ (a || (b || c))
or_new true b c = refl
or_new false true c = refl
or_new false false c = refl

abbrev kept_behind : {T : Type 0} → Bool → Stream T → T → Ending → Stream T
kept_behind b v x e = record { items = if b then v.items else v.items ++ x ∷ []; ending = e }

first_item : {T : Type 0} (x : T) (b : Bool) (e : Ending) → (if b then ended_by e else item_then x (ended_by e)) ≡ kept_behind (b || false) (ended_by e) x e
first_item x true e = refl
first_item x false e = refl

behind_item : {T : Type 0} (y x : T) (b : Bool) (v : Stream T) (e : Ending) → item_then y (kept_behind b v x e) ≡ kept_behind b (item_then y v) x e
behind_item y x true v e = refl
behind_item y x false v e = refl

-- behind items with these keys, where some keys were seen before them
distinct_behind : {T : Type 0} (key : T → Result ℕ ℕ) (seen : List ℕ) (xs : List T) (keys : List ℕ) (x : T) (k : ℕ) (e : Ending) → map key xs ≡ map Ok keys → key x ≡ Ok k →
    distinct_items key seen (xs ++ x ∷ []) e ≡ kept_behind (is_member nat_eq seen k || is_member nat_eq keys k) (distinct_items key seen xs e) x e
distinct_behind key seen [] [] x k e h is =
    ap (λ r. new_key_then x r seen (λ known. distinct_items key known [] e)) is ∙ first_item x (is_member nat_eq seen k) e
distinct_behind key seen [] (j ∷ js) x k e h is = cc
distinct_behind key seen (y ∷ ys) [] x k e h is = cc
distinct_behind {T} key seen (y ∷ ys) (j ∷ js) x k e h is =
    let here : key y ≡ Ok j = cc in
    let below : map key ys ≡ map Ok js = cc in
    let whole = ap (λ r. new_key_then y r seen (λ known. distinct_items key known (ys ++ x ∷ []) e)) here in
    let part = ap (λ r. new_key_then y r seen (λ known. distinct_items key known ys e)) here in
    let same = distinct_behind key seen ys js x k e below is in
    let more = distinct_behind key (seen ++ j ∷ []) ys js x k e below is in
    whole ∙ either same more (is_member nat_eq seen j) refl ∙ ap (λ (v : Stream T). kept_behind (is_member nat_eq seen k || (nat_eq k j || is_member nat_eq js k)) v x e) (sym part)
  where
    known_or : Bool → List T → Stream T
    known_or b l = if b then distinct_items key seen l e else item_then y (distinct_items key (seen ++ j ∷ []) l e)

    Behind : List ℕ → Type 0
    Behind known = distinct_items key known (ys ++ x ∷ []) e ≡ kept_behind (is_member nat_eq known k || is_member nat_eq js k) (distinct_items key known ys e) x e

    either : Behind seen → Behind (seen ++ j ∷ []) → (b : Bool) → b ≡ is_member nat_eq seen j → known_or b (ys ++ x ∷ []) ≡ kept_behind (is_member nat_eq seen k || (nat_eq k j || is_member nat_eq js k)) (known_or b ys) x e
    either same more true old =
        let known = or_known (is_member nat_eq seen k) (nat_eq k j) (is_member nat_eq js k) (λ t. ap (is_member nat_eq seen) (eqb-true k j t) ∙ sym old) in
        same ∙ ap (λ b. kept_behind b (distinct_items key seen ys e) x e) known
    either same more false new =
        let grown = list_any-append (nat_eq k) seen (j ∷ []) in
        let known = ap (λ b. b || is_member nat_eq js k) grown ∙ or_new (is_member nat_eq seen k) (nat_eq k j) (is_member nat_eq js k) in
        ap (item_then y) (more ∙ ap (λ b. kept_behind b (distinct_items key (seen ++ j ∷ []) ys e) x e) known)
        ∙ behind_item y x (is_member nat_eq seen k || (nat_eq k j || is_member nat_eq js k)) (distinct_items key (seen ++ j ∷ []) ys e) e

-- a fault behind items with these keys
distinct_cut : {T : Type 0} (key : T → Result ℕ ℕ) (seen : List ℕ) (xs : List T) (keys : List ℕ) (x : T) (c : ℕ) (more : List T) (e : Ending) → map key xs ≡ map Ok keys → key x ≡ Err c →
    distinct_items key seen (xs ++ x ∷ more) e ≡ record { items = (distinct_items key seen xs e).items; ending = Failed (Function c) }
distinct_cut key seen [] keys x c more e h is = ap (λ r. new_key_then x r seen (λ known. distinct_items key known more e)) is
distinct_cut key seen (y ∷ ys) [] x c more e h is = cc
distinct_cut {T} key seen (y ∷ ys) (j ∷ js) x c more e h is =
    let here : key y ≡ Ok j = cc in
    let below : map key ys ≡ map Ok js = cc in
    let whole = ap (λ r. new_key_then y r seen (λ known. distinct_items key known (ys ++ x ∷ more) e)) here in
    let part = ap (λ r. new_key_then y r seen (λ known. distinct_items key known ys e)) here in
    let same = distinct_cut key seen ys js x c more e below is in
    let grown = distinct_cut key (seen ++ j ∷ []) ys js x c more e below is in
    whole ∙ either same grown (is_member nat_eq seen j) ∙ ap (λ (v : Stream T). record { items = v.items; ending = Failed (Function c) }) (sym part)
  where
    known_or : Bool → List T → Stream T
    known_or b l = if b then distinct_items key seen l e else item_then y (distinct_items key (seen ++ j ∷ []) l e)

    Cut : List ℕ → Type 0
    Cut known = distinct_items key known (ys ++ x ∷ more) e ≡ record { items = (distinct_items key known ys e).items; ending = Failed (Function c) }

    either : Cut seen → Cut (seen ++ j ∷ []) → (b : Bool) → known_or b (ys ++ x ∷ more) ≡ record { items = (known_or b ys).items; ending = Failed (Function c) }
    either same grown true = same
    either same grown false = ap (item_then y) grown

pub distinct_keeps_first_law : {T : Type 0} (m : Meaning T) (f : ℕ) (xs : List T) (keys : List ℕ) (x : T) → map (m.keyed f) xs ≡ map Ok keys → DistinctKeepsFirst m f xs keys x
distinct_keeps_first_law m f xs keys x h = record {
  item = λ k e is. distinct_behind (m.keyed f) [] xs keys x k e h is;
  fault = λ c more e is. distinct_cut (m.keyed f) [] xs keys x c more e h is;
}

-- ---- endings

map_fine : {T : Type 0} (f : T → Result T ℕ) (xs : List T) (e : Ending) → Fine e → Fine (mapped_items f xs e).ending
map_fine f [] e h = h
map_fine {T} f (x ∷ xs) e h = after (map_fine f xs e h) (f x)
  where
    after : Fine (mapped_items f xs e).ending → (r : Result T ℕ) → Fine (answer_then r (mapped_items f xs e)).ending
    after more (Ok y) = more
    after more (Err c) = λ p. cc

filter_fine : {T : Type 0} (p : T → Result Bool ℕ) (xs : List T) (e : Ending) → Fine e → Fine (filtered_items p xs e).ending
filter_fine p [] e h = h
filter_fine p (x ∷ xs) e h = after (filter_fine p xs e h) (p x)
  where
    after : Fine (filtered_items p xs e).ending → (r : Result Bool ℕ) → Fine (kept_then x r (filtered_items p xs e)).ending
    after more (Ok true) = more
    after more (Ok false) = more
    after more (Err c) = λ q. cc

take_fine : {T : Type 0} (n : ℕ) (xs : List T) (e : Ending) → Fine e → Fine (taken_items n xs e).ending
take_fine zero xs e h = λ p. cc
take_fine (suc n) [] e h = h
take_fine (suc n) (x ∷ xs) e h = take_fine n xs e h

scan_fine : {T : Type 0} (f : T → T → Result T ℕ) (a : T) (xs : List T) (e : Ending) → Fine e → Fine (scanned_items f a xs e).ending
scan_fine f a [] e h = h
scan_fine {T} f a (x ∷ xs) e h = after (λ b. scan_fine f b xs e h) (f a x)
  where
    after : ((b : T) → Fine (scanned_items f b xs e).ending) → (r : Result T ℕ) → Fine (accumulated_then r (λ b. scanned_items f b xs e)).ending
    after more (Ok b) = more b
    after more (Err c) = λ p. cc

last_fine : {T : Type 0} (list : List T → T) (xs : List T) (e : Ending) → Fine e → Fine (last_list list xs e).ending
last_fine list [] e h = h
last_fine list (x ∷ xs) Done h = h
last_fine list (x ∷ xs) Open h = h
last_fine list (x ∷ xs) (Failed c) h = h

buffer_fine : {T : Type 0} (list : List T → T) (n : ℕ) (started xs : List T) (e : Ending) → Fine e → Fine (buffered_items list n started xs e).ending
buffer_fine list n started [] e h = last_fine list started e h
buffer_fine {T} list n started (x ∷ xs) e h = after (λ l. buffer_fine list n l xs e h) (nat_le n (length started + 1))
  where
    after : ((l : List T) → Fine (buffered_items list n l xs e).ending) → (b : Bool) → Fine (if b then item_then (list (started ++ x ∷ [])) (buffered_items list n [] xs e) else buffered_items list n (started ++ x ∷ []) xs e).ending
    after more true = more []
    after more false = more (started ++ x ∷ [])

distinct_fine : {T : Type 0} (key : T → Result ℕ ℕ) (seen : List ℕ) (xs : List T) (e : Ending) → Fine e → Fine (distinct_items key seen xs e).ending
distinct_fine key seen [] e h = h
distinct_fine {T} key seen (x ∷ xs) e h = after (λ known. distinct_fine key known xs e h) (key x)
  where
    known_or : ℕ → Bool → Stream T
    known_or k b = if b then distinct_items key seen xs e else item_then x (distinct_items key (seen ++ k ∷ []) xs e)

    either : ((known : List ℕ) → Fine (distinct_items key known xs e).ending) → (k : ℕ) (b : Bool) → Fine (known_or k b).ending
    either more k true = more seen
    either more k false = more (seen ++ k ∷ [])

    after : ((known : List ℕ) → Fine (distinct_items key known xs e).ending) → (r : Result ℕ ℕ) → Fine (new_key_then x r seen (λ known. distinct_items key known xs e)).ending
    after more (Ok k) = either more k (is_member nat_eq seen k)
    after more (Err c) = λ p. cc

plain_fine : {T : Type 0} (m : Meaning T) (g : Stage T) (v : Stream T) → Fine v.ending → Fine (plain m g v).ending
plain_fine m (Map f) v h = map_fine (m.mapped f) v.items v.ending h
plain_fine m (Filter f) v h = filter_fine (m.tested f) v.items v.ending h
plain_fine m (Take n) v h = take_fine n v.items v.ending h
plain_fine m (Scan f s) v h = scan_fine (m.folded f) s v.items v.ending h
plain_fine m (Buffer n) v h = buffer_fine m.list_of n [] v.items v.ending h
plain_fine m (Distinct f) v h = distinct_fine (m.keyed f) [] v.items v.ending h

quiet_fine : {T : Type 0} (n : Option Note) (o : Option (Stream T)) → AllFine o → AllFine (quiet n o)
quiet_fine None o h = tt
quiet_fine (Some Nothing) o h = h
quiet_fine (Some (Picks cs)) o h = tt
quiet_fine (Some (Ended i)) o h = tt

below_fine : {T : Type 0} (m : Meaning T) (g : Stage T) (o : Option (Stream T)) → AllFine o → AllFine (option_map (plain m g) o)
below_fine m g None h = tt
below_fine m g (Some v) h = plain_fine m g v h

-- ---- window

abbrev EachFine : {T : Type 0} → List (Stream T) → Type 0
EachFine {T} vs = Each (λ (v : Stream T). Fine v.ending) vs

chained_fine : {T : Type 0} (m : Meaning T) (gs : List (Stage T)) (v : Stream T) → Fine v.ending → Fine (chained m gs v).ending
chained_fine m [] v h = h
chained_fine m (g ∷ gs) v h = chained_fine m gs (plain m g v) (plain_fine m g v h)

last_window_fine : {T : Type 0} (xs : List T) (e : Ending) → Fine e → EachFine (last_window xs e)
last_window_fine [] e h = tt
last_window_fine (x ∷ xs) e h = (h, tt)

cut_or_on_fine : {T : Type 0} (b : Bool) (vs ws : List (Stream T)) → EachFine vs → EachFine ws → EachFine (if b then vs else ws)
cut_or_on_fine true vs ws h k = h
cut_or_on_fine false vs ws h k = k

windows_fine : {T : Type 0} (n : ℕ) (started xs : List T) (e : Ending) → Fine e → EachFine (windows n started xs e)
windows_fine n started [] e h = last_window_fine started e h
windows_fine n started (x ∷ xs) e h =
    cut_or_on_fine (nat_le n (length started + 1)) (listed (started ++ x ∷ []) ∷ windows n [] xs e) (windows n (started ++ x ∷ []) xs e) ((λ p. cc), windows_fine n [] xs e h) (windows_fine n (started ++ x ∷ []) xs e h)

lanes_fine : {T : Type 0} (m : Meaning T) (gs : List (Stage T)) (ws : List (Stream T)) (e : Ending) → EachFine ws → Fine e → EachFine (windows_and_main (chained m gs) ws e)
lanes_fine m gs [] e hs h = (h, tt)
lanes_fine m gs (w ∷ ws) e hs h = (chained_fine m gs w hs.0, lanes_fine m gs ws e hs.1 h)

window_fine : {T : Type 0} (m : Meaning T) (n : ℕ) (gs : List (Stage T)) (o : Option (Stream T)) → AllFine o → AllFine (option_map (window m n gs) o)
window_fine m n gs None h = tt
window_fine m n gs (Some v) h =
    concat_values_fine (Some (windows_and_main (chained m gs) (windows n [] v.items v.ending) v.ending)) (lanes_fine m gs (windows n [] v.items v.ending) v.ending (windows_fine n [] v.items v.ending h) h)

-- ---- flatMap

list_then_fine : {T : Type 0} (r : Result (List T) ℕ) (v : Stream (List T)) → Fine v.ending → Fine (list_then r v).ending
list_then_fine (Ok ys) v h = h
list_then_fine (Err c) v h = λ p. cc

expanded_fine : {T : Type 0} (f : T → Result (List T) ℕ) (xs : List T) (e : Ending) → Fine e → Fine (expanded_items f xs e).ending
expanded_fine f [] e h = h
expanded_fine f (x ∷ xs) e h = list_then_fine (f x) (expanded_items f xs e) (expanded_fine f xs e h)

flat_lanes_fine : {T : Type 0} (m : Meaning T) (gs : List (Stage T)) (ls : List (List T)) → EachFine (map (flat_lane m gs) ls)
flat_lanes_fine m gs [] = tt
flat_lanes_fine m gs (ys ∷ ls) = (chained_fine m gs (listed ys) (λ p. cc), flat_lanes_fine m gs ls)

flat_fine : {T : Type 0} (m : Meaning T) (f : ℕ) (gs : List (Stage T)) (cs : List ℕ) (o : Option (Stream T)) → AllFine o → AllFine (option_and_then (flat_map m f gs cs) o)
flat_fine m f gs cs None h = tt
flat_fine m f gs cs (Some v) h =
    let lists = expanded_items (m.expanded f) v.items v.ending in
    merged_lanes_fine cs (map (flat_lane m gs) lists.items) lists.ending (flat_lanes_fine m gs lists.items) (expanded_fine (m.expanded f) v.items v.ending h)

flat_delay_fine : {T : Type 0} (m : Meaning T) (f : ℕ) (gs : List (Stage T)) (cs : List ℕ) (o : Option (Stream T)) → AllFine o → AllFine (option_and_then (flat_map_delay m f gs cs) o)
flat_delay_fine m f gs cs None h = tt
flat_delay_fine m f gs cs (Some v) h =
    let lists = expanded_items (m.expanded f) v.items v.ending in
    merged_lanes_delay_fine cs (map (flat_lane m gs) lists.items) lists.ending (flat_lanes_fine m gs lists.items) (expanded_fine (m.expanded f) v.items v.ending h)

-- ---- groupBy

keyed_fine : {T : Type 0} (key : T → Result ℕ ℕ) (seen : List ℕ) (xs : List T) (e : Ending) → Fine e → Fine (keyed_items key seen xs e).ending
keyed_fine key seen [] e h = h
keyed_fine {T} key seen (x ∷ xs) e h = after (λ known. keyed_fine key known xs e h) (placed seen (key x))
  where
    after : ((known : List ℕ) → Fine (keyed_items key known xs e).ending) → (r : Result ℕ ℕ) → Fine (keyed_then x seen r (λ known. keyed_items key known xs e)).ending
    after more (Ok k) = more (see seen k)
    after more (Err c) = λ p. cc

lane_ending_fine : (e : Ending) → Fine (lane_ending e)
lane_ending_fine Open = λ p. cc
lane_ending_fine Done = λ p. cc
lane_ending_fine (Failed c) = λ p. cc

group_lanes_fine : {T : Type 0} (m : Meaning T) (gs : List (Stage T)) (v : Stream (ℕ × T)) (ks : List ℕ) → EachFine (map (group_lane m gs v) ks)
group_lanes_fine m gs v [] = tt
group_lanes_fine m gs v (k ∷ ks) = (chained_fine m gs (of_key k v) (lane_ending_fine v.ending), group_lanes_fine m gs v ks)

group_fine : {T : Type 0} (m : Meaning T) (f : ℕ) (gs : List (Stage T)) (cs : List ℕ) (o : Option (Stream T)) → AllFine o → AllFine (option_and_then (group_by m f gs cs) o)
group_fine m f gs cs None h = tt
group_fine m f gs cs (Some v) h =
    let keyed = keyed_items (m.keyed f) [] v.items v.ending in
    merged_lanes_fine cs (group_lanes m gs keyed) keyed.ending (group_lanes_fine m gs keyed (first_seen [] keyed.items)) (keyed_fine (m.keyed f) [] v.items v.ending h)

-- a value of a list of fine ones, and what stands of it behind a join
one_fine : {T : Type 0} (hubs : List (Stream T)) (hub : ℕ) → All (λ (v : Stream T). Fine v.ending) hubs → AllFine (slice_get hubs hub)
one_fine {T} hubs hub h = elim ((slice_get_cases hubs hub).1) [
  | inl s ↦ subst AllFine (sym s.2) (subst (λ (v : Stream T). Fine v.ending) s.3 (All-get_or (λ (v : Stream T). Fine v.ending) hubs hub s.0 s.1 h))
  | inr p ↦ subst AllFine (sym p.1) tt
]

behind_fine : {T : Type 0} (o : Option (Stream T)) (join : Option ℕ) → AllFine o → AllFine (option_and_then (λ j. option_map (behind j) o) join)
behind_fine o None h = tt
behind_fine None (Some j) h = tt
behind_fine (Some v) (Some j) h = h

chosen_fine : {T : Type 0} (n : Option Note) (f : List ℕ → Option (Stream T)) → ((cs : List ℕ) → AllFine (f cs)) → AllFine (chosen n f)
chosen_fine None f h = tt
chosen_fine (Some Nothing) f h = tt
chosen_fine (Some (Picks cs)) f h = h cs
chosen_fine (Some (Ended i)) f h = tt

record_fine : {T : Type 0} (n : Option Note) (f : Option ℕ → Option (Stream T)) → ((i : Option ℕ) → AllFine (f i)) → AllFine (ended_by_record n f)
record_fine None f h = tt
record_fine (Some Nothing) f h = tt
record_fine (Some (Picks cs)) f h = tt
record_fine (Some (Ended i)) f h = h i

node_fine : {T : Type 0} (w : Environment T) → All (λ (v : Stream T). Fine v.ending) w.hubs → (x : Expr-F T (Meant T)) → Each FineMeant (children x) → (at leaf : ℕ) → AllFine (node_value w x at leaf)
node_fine w fine (layer.Items v) kids at leaf = quiet_fine (slice_get w.notes at) (Some (listed v.items)) (λ p. cc)
node_fine w fine (layer.Range a n) kids at leaf = quiet_fine (slice_get w.notes at) (Some (listed (range_items w.meaning a n))) (λ p. cc)
node_fine w fine (layer.Hub h) kids at leaf = quiet_fine (slice_get w.notes at) (joined_value w h.0 leaf) (behind_fine (slice_get w.hubs h.0) (slice_get w.joins leaf) (one_fine w.hubs h.0 fine))
node_fine w fine (layer.Plain g b) kids at leaf = quiet_fine (slice_get w.notes at) (option_map (plain w.meaning g) (b.value.value (at + 1) leaf)) (below_fine w.meaning g (b.value.value (at + 1) leaf) (kids.0 (at + 1) leaf))
node_fine w fine (layer.Group f gs b) kids at leaf = chosen_fine (slice_get w.notes at) (λ cs. option_and_then (group_by w.meaning f gs.items cs) (b.value.value (at + 1) leaf)) (λ cs. group_fine w.meaning f gs.items cs (b.value.value (at + 1) leaf) (kids.0 (at + 1) leaf))
node_fine w fine (layer.Flat f c gs b) kids at leaf = chosen_fine (slice_get w.notes at) (λ cs. option_and_then (flat_map w.meaning f gs.items cs) (b.value.value (at + 1) leaf)) (λ cs. flat_fine w.meaning f gs.items cs (b.value.value (at + 1) leaf) (kids.0 (at + 1) leaf))
node_fine w fine (layer.FlatDelay f c gs b) kids at leaf = chosen_fine (slice_get w.notes at) (λ cs. option_and_then (flat_map_delay w.meaning f gs.items cs) (b.value.value (at + 1) leaf)) (λ cs. flat_delay_fine w.meaning f gs.items cs (b.value.value (at + 1) leaf) (kids.0 (at + 1) leaf))
node_fine w fine (layer.Window n gs b) kids at leaf = quiet_fine (slice_get w.notes at) (option_map (window w.meaning n gs.items) (b.value.value (at + 1) leaf)) (window_fine w.meaning n gs.items (b.value.value (at + 1) leaf) (kids.0 (at + 1) leaf))
node_fine w fine (layer.On k p b) kids at leaf = quiet_fine (slice_get w.notes at) (b.value.value (at + 1) leaf) (kids.0 (at + 1) leaf)
node_fine w fine (layer.OnEager k p b) kids at leaf = chosen_fine (slice_get w.notes at) (λ cs. option_and_then (eager_of cs) (b.value.value (at + 1) leaf)) (λ cs. eager_values_fine cs (b.value.value (at + 1) leaf) (kids.0 (at + 1) leaf))
node_fine w fine (layer.Concat v) kids at leaf =
    let values = in_order v.items (at + 1) leaf in
    quiet_fine (slice_get w.notes at) (option_map concat values) (concat_values_fine values (in_order_fine v.items kids (at + 1) leaf))
node_fine w fine (layer.Merge p v) kids at leaf =
    let values = in_order v.items (at + 1) leaf in
    chosen_fine (slice_get w.notes at) (λ cs. option_and_then (merge cs) values) (λ cs. merge_values_fine cs values (in_order_fine v.items kids (at + 1) leaf))
node_fine w fine (layer.MergeDelay p v) kids at leaf =
    let values = in_order v.items (at + 1) leaf in
    chosen_fine (slice_get w.notes at) (λ cs. option_and_then (merge_delay cs) values) (λ cs. merge_delay_values_fine cs values (in_order_fine v.items kids (at + 1) leaf))
node_fine w fine (layer.Zip p v) kids at leaf =
    let values = in_order v.items (at + 1) leaf in
    record_fine (slice_get w.notes at) (λ i. option_and_then (zip w.meaning.row_of i) values) (λ i. zip_values_fine w.meaning.row_of i values (in_order_fine v.items kids (at + 1) leaf))
node_fine w fine (layer.Latest p v) kids at leaf =
    let values = in_order v.items (at + 1) leaf in
    chosen_fine (slice_get w.notes at) (λ cs. option_and_then (latest_by w.until_stop w.meaning.row_of cs) values) (λ cs. latest_values_fine w.until_stop w.meaning.row_of cs values (in_order_fine v.items kids (at + 1) leaf))

-- what holds of what each child means holds of the list of the meanings
each_meant : {T : Type 0} (w : Environment T) (es : List (Expr T)) → Each (λ e. FineMeant (meant w e)) es → Each FineMeant (map (meant w) es)
each_meant w [] h = tt
each_meant w (e ∷ es) h = (h.0, each_meant w es h.1)

value_fine : {T : Type 0} (w : Environment T) → All (λ (v : Stream T). Fine v.ending) w.hubs → (e : Expr T) → FineMeant (meant w e)
value_fine {T} w fine = by_children (λ e. FineMeant (meant w e)) (λ e kids at leaf.
    let x = out-Expr T e in
    subst AllFine (sym (value_out w e at leaf)) (node_fine w fine (map-Expr T (Expr T) (Meant T) (meant w) x) (subst (Each FineMeant) (sym (children-map (meant w) x)) (each_meant w (children x) kids)) at leaf))

pub never_a_bad_request_law : {T : Type 0} (w : Environment T) (e : Expr T) → NoBadRequest w e
never_a_bad_request_law w e = λ fine s is. subst AllFine is (value_fine w fine e 0 0)
