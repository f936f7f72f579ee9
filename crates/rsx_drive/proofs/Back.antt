-- The text of an expression is read as that expression.
use Rattle.std.proofs.Common.{◌≡◌, ℕ, zero, suc, ◌+◌, ◌<◌, ◌≤◌, ◌^◌, ℤ, true, false, List, [], ◌∷◌, ◌++◌, length, Result, Ok, refl, sym, ap, subst, ◌∙◌, arith}
use Rattle.std.specs.Prelude.{nat_lt, codes, IsSome}
use Rattle.std.specs.Fmt.{decimal, signed_decimal}
use Rattle.std.proofs.lemmas.Bool.Decides.{nat_tests}
use Rattle.std.proofs.lemmas.List.{append-nil}
use Rattle.rsx_types.specs.declared.stage.Stage.{Stage}
use Rattle.rsx_types.specs.declared.stage.Stage.TheVariants.{Map, Filter, Take, Scan, Buffer, Distinct}
use Rattle.rsx_demo.specs.declared.val.Val.{Val}
use Rattle.rsx_demo.specs.declared.names.Role.TheVariants as for
use Rattle.rsx_script.specs.declared.words.LineRefusal.{LineRefusal}
use Rattle.rsx_script.specs.Words.{column_of, is_separator}
use Rattle.rsx_script.specs.Numbers.{u8_of, u32_of, signed_of}
use Rattle.rsx_script.specs.Reading.{Left, left_at, is_opening_next}
use Rattle.rsx_script.specs.Orders.{Tree, Trees, items, range, hub, plain, concat, merge, merge_delay, zip, latest, group, window, flat, flat_delay, on, on_eager, none, first}
use Rattle.rsx_script.specs.Expressions.{stage_at, range_at, hub_at, group_at, window_at, flat_at, flat_delay_at, on_at, on_eager_at, one_input_at, over_one_at, operator_at, expression_at, inputs_at}
use Rattle.rsx_script.specs.Commands.{expression_of_line}
use Rattle.rsx_script.proofs.Runs.{is_opening_at}
use Rattle.rsx_drive.specs.Names.{name_of, function_text}
use Rattle.rsx_drive.specs.Text.{tree_text, IsSmallInt, AreLineItems, IsLine, AreLines, AreLineStages, ReadsBack}
use Rattle.rsx_drive.proofs.Put.{put_items, put_rest, stage_name, put_chain, put_tree, put_trees, tree_put, weight, weights, weight_len}
use Rattle.rsx_drive.proofs.Steps.{u64_is, items_are, stage_is, stage_word, chain_is}
use Rattle.rsx_drive.proofs.Words.{IsWord, word_of, space_is, name_is, opened, closed, ended, number_is, function_is, decimal_word, signed_word, unsigned_reads, signed_reads}

-- reads an expression
abbrev pub Reader : Type 0
Reader = Left → Result (Tree × Left) LineRefusal

-- the parenthesis and the name of an operator
front_is : (most end b : ℕ) (w r : List ℕ) → IsWord w → is_separator b ≡ true
    → expression_at (suc most) (left_at end (40 ∷ (w ++ b ∷ r))) ≡ operator_at (expression_at most) most (column_of end (w ++ b ∷ r)) w (left_at end (b ∷ r))
unfolding expression_at
front_is most end b w r h s = rw (opened end (w ++ b ∷ r)) (rw (name_is end w b r h s) refl)

-- ---- sources

range_is : (a : ℤ) (n end : ℕ) (r : List ℕ) → IsSmallInt a → n < 2 ^ 64 → range_at (left_at end (32 ∷ (signed_decimal a ++ (32 ∷ (decimal n ++ (41 ∷ r)))))) ≡ Ok (range a n, left_at end r)
unfolding range_at
range_is a n end r h k =
    rw (number_is signed_of end (signed_decimal a) a 32 (decimal n ++ (41 ∷ r)) (signed_word a h) (signed_reads a h) refl)
    (rw (u64_is n end 41 r k refl) (rw (closed end r) refl))

hub_is : (h end : ℕ) (r : List ℕ) → h < 2 ^ 32 → hub_at (left_at end (32 ∷ (decimal h ++ (41 ∷ r)))) ≡ Ok (hub h, left_at end r)
unfolding hub_at
hub_is h end r k =
    rw (number_is u32_of end (decimal h) h 41 r (decimal_word h (omega arith)) (unsigned_reads 32 h (omega arith) k) refl) (rw (closed end r) refl)

-- ---- operators with one input

group_is : (f : ℕ) (gs : List (Stage Val)) (most end : ℕ) (r : List ℕ) → IsSome (name_of for.Key f) → AreLineStages gs → length gs < most
    → group_at most (left_at end (32 ∷ (function_text for.Key f ++ (32 ∷ put_chain gs r)))) ≡ Ok (group f gs, left_at end r)
unfolding group_at
group_is f gs most end r h k l = rw (function_is for.Key f end 32 (put_chain gs r) h refl) (rw (chain_is gs most end r k l) refl)

window_is : (n : ℕ) (gs : List (Stage Val)) (most end : ℕ) (r : List ℕ) → n < 2 ^ 64 → AreLineStages gs → length gs < most
    → window_at most (left_at end (32 ∷ (decimal n ++ (32 ∷ put_chain gs r)))) ≡ Ok (window n gs, left_at end r)
unfolding window_at
window_is n gs most end r h k l = rw (u64_is n end 32 (put_chain gs r) h refl) (rw (chain_is gs most end r k l) refl)

flat_is : (f c : ℕ) (gs : List (Stage Val)) (most end : ℕ) (r : List ℕ) → IsSome (name_of for.Expand f) → c < 2 ^ 64 → AreLineStages gs → length gs < most
    → flat_at most (left_at end (32 ∷ (function_text for.Expand f ++ (32 ∷ (decimal c ++ (32 ∷ put_chain gs r)))))) ≡ Ok (flat f c gs, left_at end r)
unfolding flat_at
flat_is f c gs most end r h j k l =
    rw (function_is for.Expand f end 32 (decimal c ++ (32 ∷ put_chain gs r)) h refl)
    (rw (u64_is c end 32 (put_chain gs r) j refl) (rw (chain_is gs most end r k l) refl))

flat_delay_is : (f c : ℕ) (gs : List (Stage Val)) (most end : ℕ) (r : List ℕ) → IsSome (name_of for.Expand f) → c < 2 ^ 64 → AreLineStages gs → length gs < most
    → flat_delay_at most (left_at end (32 ∷ (function_text for.Expand f ++ (32 ∷ (decimal c ++ (32 ∷ put_chain gs r)))))) ≡ Ok (flat_delay f c gs, left_at end r)
unfolding flat_delay_at
flat_delay_is f c gs most end r h j k l =
    rw (function_is for.Expand f end 32 (decimal c ++ (32 ∷ put_chain gs r)) h refl)
    (rw (u64_is c end 32 (put_chain gs r) j refl) (rw (chain_is gs most end r k l) refl))

on_is : (k p end : ℕ) (r : List ℕ) → k < 2 ^ 8 → p < 2 ^ 64 → on_at (left_at end (32 ∷ (decimal k ++ (32 ∷ (decimal p ++ (32 ∷ r)))))) ≡ Ok (on k p, left_at end (32 ∷ r))
unfolding on_at
on_is k p end r h j =
    rw (number_is u8_of end (decimal k) k 32 (decimal p ++ (32 ∷ r)) (decimal_word k (omega arith)) (unsigned_reads 8 k (omega arith) h) refl)
    (rw (u64_is p end 32 r j refl) refl)

on_eager_is : (k p end : ℕ) (r : List ℕ) → k < 2 ^ 8 → p < 2 ^ 64 → on_eager_at (left_at end (32 ∷ (decimal k ++ (32 ∷ (decimal p ++ (32 ∷ r)))))) ≡ Ok (on_eager k p, left_at end (32 ∷ r))
unfolding on_eager_at
on_eager_is k p end r h j =
    rw (number_is u8_of end (decimal k) k 32 (decimal p ++ (32 ∷ r)) (decimal_word k (omega arith)) (unsigned_reads 8 k (omega arith) h) refl)
    (rw (u64_is p end 32 r j refl) refl)

-- one of them over an expression that is read so
over_is : (read : Reader) (most column end : ℕ) (name : List ℕ) (makes : Tree → Tree) (t : Tree) (l : Left) (r : List ℕ)
    → one_input_at most column name l ≡ Ok (makes, left_at end (32 ∷ put_tree t (41 ∷ r))) → read (left_at end (put_tree t (41 ∷ r))) ≡ Ok (t, left_at end (41 ∷ r))
    → over_one_at read most column name l ≡ Ok (makes t, left_at end r)
unfolding over_one_at
over_is read most column end name makes t l r h k =
    let below : read (left_at end (32 ∷ put_tree t (41 ∷ r))) ≡ Ok (t, left_at end (41 ∷ r)) = ap read (space_is end (put_tree t (41 ∷ r))) ∙ k in
    rw h (rw below (rw (closed end r) refl))

-- the plain ones have no other name
is_over : (g : Stage Val) (read : Reader) (most column : ℕ) (l : Left) → operator_at read most column (stage_name g) l ≡ over_one_at read most column (stage_name g) l
unfolding operator_at
is_over (Map f) read most column l = refl
is_over (Filter f) read most column l = refl
is_over (Take n) read most column l = refl
is_over (Scan f s) read most column l = refl
is_over (Buffer n) read most column l = refl
is_over (Distinct f) read most column l = refl

is_plain : (g h : Stage Val) (most column : ℕ) (l after : Left) → stage_at column (stage_name g) l ≡ Ok (h, after) → one_input_at most column (stage_name g) l ≡ Ok (plain h, after)
unfolding one_input_at
is_plain (Map f) h most column l after k = rw k refl
is_plain (Filter f) h most column l after k = rw k refl
is_plain (Take n) h most column l after k = rw k refl
is_plain (Scan f s) h most column l after k = rw k refl
is_plain (Buffer n) h most column l after k = rw k refl
is_plain (Distinct f) h most column l after k = rw k refl

-- ---- operators with several inputs

-- an expression begins with a parenthesis
begins : (t : Tree) (end : ℕ) (r : List ℕ) → is_opening_next (left_at end (put_tree t r)) ≡ true
begins (items vs) end r = is_opening_at end 40 _ refl
begins (range a n) end r = is_opening_at end 40 _ refl
begins (hub h) end r = is_opening_at end 40 _ refl
begins (plain g t) end r = is_opening_at end 40 _ refl
begins (concat ts) end r = is_opening_at end 40 _ refl
begins (merge p ts) end r = is_opening_at end 40 _ refl
begins (merge_delay p ts) end r = is_opening_at end 40 _ refl
begins (zip p ts) end r = is_opening_at end 40 _ refl
begins (latest p ts) end r = is_opening_at end 40 _ refl
begins (group f gs t) end r = is_opening_at end 40 _ refl
begins (window n gs t) end r = is_opening_at end 40 _ refl
begins (flat f c gs t) end r = is_opening_at end 40 _ refl
begins (flat_delay f c gs t) end r = is_opening_at end 40 _ refl
begins (on k p t) end r = is_opening_at end 40 _ refl
begins (on_eager k p t) end r = is_opening_at end 40 _ refl

-- the last input, and one with others behind it
last_is : (read : Reader) (most end : ℕ) (t : Tree) (r : List ℕ) → read (left_at end (put_tree t (41 ∷ r))) ≡ Ok (t, left_at end (41 ∷ r))
    → inputs_at read (suc most) (left_at end (32 ∷ put_tree t (41 ∷ r))) ≡ Ok (first t none, left_at end r)
unfolding inputs_at
last_is read most end t r h =
    let no : is_opening_next (left_at end (41 ∷ r)) ≡ false = is_opening_at end 41 r refl in
    rw (space_is end (put_tree t (41 ∷ r))) (rw h (rw no (rw (closed end r) refl)))

next_is : (read : Reader) (most end : ℕ) (t u : Tree) (us : Trees) (q : List ℕ) (after : Left) → read (left_at end (put_tree t (32 ∷ put_tree u q))) ≡ Ok (t, left_at end (32 ∷ put_tree u q))
    → inputs_at read most (left_at end (32 ∷ put_tree u q)) ≡ Ok (us, after)
    → inputs_at read (suc most) (left_at end (32 ∷ put_tree t (32 ∷ put_tree u q))) ≡ Ok (first t us, after)
unfolding inputs_at
next_is read most end t u us q after h k =
    let yes : is_opening_next (left_at end (32 ∷ put_tree u q)) ≡ true = ap is_opening_next (space_is end (put_tree u q)) ∙ begins u end q in
    rw (space_is end (put_tree t (32 ∷ put_tree u q))) (rw h (rw yes (rw k refl)))

concat_is : (read : Reader) (most column : ℕ) (ts : Trees) (l after : Left) → inputs_at read most l ≡ Ok (ts, after) → operator_at read most column (codes "concat") l ≡ Ok (concat ts, after)
unfolding operator_at
concat_is read most column ts l after h = rw h refl

merge_is : (read : Reader) (most column p end : ℕ) (ts : Trees) (r : List ℕ) (after : Left) → p < 2 ^ 64 → inputs_at read most (left_at end (32 ∷ r)) ≡ Ok (ts, after)
    → operator_at read most column (codes "merge") (left_at end (32 ∷ (decimal p ++ (32 ∷ r)))) ≡ Ok (merge p ts, after)
unfolding operator_at
merge_is read most column p end ts r after k h = rw (u64_is p end 32 r k refl) (rw h refl)

merge_delay_is : (read : Reader) (most column p end : ℕ) (ts : Trees) (r : List ℕ) (after : Left) → p < 2 ^ 64 → inputs_at read most (left_at end (32 ∷ r)) ≡ Ok (ts, after)
    → operator_at read most column (codes "mergeDelayError") (left_at end (32 ∷ (decimal p ++ (32 ∷ r)))) ≡ Ok (merge_delay p ts, after)
unfolding operator_at
merge_delay_is read most column p end ts r after k h = rw (u64_is p end 32 r k refl) (rw h refl)

zip_is : (read : Reader) (most column p end : ℕ) (ts : Trees) (r : List ℕ) (after : Left) → p < 2 ^ 64 → inputs_at read most (left_at end (32 ∷ r)) ≡ Ok (ts, after)
    → operator_at read most column (codes "zip") (left_at end (32 ∷ (decimal p ++ (32 ∷ r)))) ≡ Ok (zip p ts, after)
unfolding operator_at
zip_is read most column p end ts r after k h = rw (u64_is p end 32 r k refl) (rw h refl)

latest_is : (read : Reader) (most column p end : ℕ) (ts : Trees) (r : List ℕ) (after : Left) → p < 2 ^ 64 → inputs_at read most (left_at end (32 ∷ r)) ≡ Ok (ts, after)
    → operator_at read most column (codes "combineLatest") (left_at end (32 ∷ (decimal p ++ (32 ∷ r)))) ≡ Ok (latest p ts, after)
unfolding operator_at
latest_is read most column p end ts r after k h = rw (u64_is p end 32 r k refl) (rw h refl)

-- ---- all of them

items_case : (vs : List Val) (read : Reader) (most column end : ℕ) (r : List ℕ) → AreLineItems vs → operator_at read most column (codes "items") (left_at end (put_items vs (41 ∷ r))) ≡ Ok (items vs, left_at end r)
unfolding operator_at
items_case vs read most column end r h = rw (items_are vs end r h) refl

range_case : (a : ℤ) (n : ℕ) (read : Reader) (most column end : ℕ) (r : List ℕ) → IsSmallInt a → n < 2 ^ 64 → operator_at read most column (codes "range") (left_at end (32 ∷ (signed_decimal a ++ (32 ∷ (decimal n ++ (41 ∷ r)))))) ≡ Ok (range a n, left_at end r)
unfolding operator_at
range_case a n read most column end r h k = range_is a n end r h k

hub_case : (h : ℕ) (read : Reader) (most column end : ℕ) (r : List ℕ) → h < 2 ^ 32 → operator_at read most column (codes "hub") (left_at end (32 ∷ (decimal h ++ (41 ∷ r)))) ≡ Ok (hub h, left_at end r)
unfolding operator_at
hub_case h read most column end r k = hub_is h end r k

group_case : (read : Reader) (most column : ℕ) (l : Left) → operator_at read most column (codes "groupBy") l ≡ over_one_at read most column (codes "groupBy") l
unfolding operator_at
group_case read most column l = refl

window_case : (read : Reader) (most column : ℕ) (l : Left) → operator_at read most column (codes "window") l ≡ over_one_at read most column (codes "window") l
unfolding operator_at
window_case read most column l = refl

flat_case : (read : Reader) (most column : ℕ) (l : Left) → operator_at read most column (codes "flatMap") l ≡ over_one_at read most column (codes "flatMap") l
unfolding operator_at
flat_case read most column l = refl

flat_delay_case : (read : Reader) (most column : ℕ) (l : Left) → operator_at read most column (codes "flatMapDelayError") l ≡ over_one_at read most column (codes "flatMapDelayError") l
unfolding operator_at
flat_delay_case read most column l = refl

on_case : (read : Reader) (most column : ℕ) (l : Left) → operator_at read most column (codes "publishOn") l ≡ over_one_at read most column (codes "publishOn") l
unfolding operator_at
on_case read most column l = refl

on_eager_case : (read : Reader) (most column : ℕ) (l : Left) → operator_at read most column (codes "publishOnEager") l ≡ over_one_at read most column (codes "publishOnEager") l
unfolding operator_at
on_eager_case read most column l = refl

is_group : (most column : ℕ) (l : Left) → one_input_at most column (codes "groupBy") l ≡ group_at most l
unfolding one_input_at
is_group most column l = refl

is_window : (most column : ℕ) (l : Left) → one_input_at most column (codes "window") l ≡ window_at most l
unfolding one_input_at
is_window most column l = refl

is_flat : (most column : ℕ) (l : Left) → one_input_at most column (codes "flatMap") l ≡ flat_at most l
unfolding one_input_at
is_flat most column l = refl

is_flat_delay : (most column : ℕ) (l : Left) → one_input_at most column (codes "flatMapDelayError") l ≡ flat_delay_at most l
unfolding one_input_at
is_flat_delay most column l = refl

is_on : (most column : ℕ) (l : Left) → one_input_at most column (codes "publishOn") l ≡ on_at l
unfolding one_input_at
is_on most column l = refl

is_on_eager : (most column : ℕ) (l : Left) → one_input_at most column (codes "publishOnEager") l ≡ on_eager_at l
unfolding one_input_at
is_on_eager most column l = refl

-- an operator over one input, from its parenthesis on
over_case : (most end b column : ℕ) (name q : List ℕ) (makes : Tree → Tree) (t : Tree) (r : List ℕ) → IsWord name → is_separator b ≡ true
    → operator_at (expression_at most) most (column_of end (name ++ b ∷ q)) name (left_at end (b ∷ q)) ≡ over_one_at (expression_at most) most (column_of end (name ++ b ∷ q)) name (left_at end (b ∷ q))
    → one_input_at most (column_of end (name ++ b ∷ q)) name (left_at end (b ∷ q)) ≡ Ok (makes, left_at end (32 ∷ put_tree t (41 ∷ r)))
    → expression_at most (left_at end (put_tree t (41 ∷ r))) ≡ Ok (t, left_at end (41 ∷ r))
    → expression_at (suc most) (left_at end (40 ∷ (name ++ b ∷ q))) ≡ Ok (makes t, left_at end r)
over_case most end b column name q makes t r w s is_it reads below =
    front_is most end b name q w s ∙ is_it ∙ over_is (expression_at most) most (column_of end (name ++ b ∷ q)) end name makes t (left_at end (b ∷ q)) r reads below

-- inputs begin with a space
several_case : (most end : ℕ) (name q : List ℕ) (t : Tree) (after : Left) → IsWord name
    → operator_at (expression_at most) most (column_of end (name ++ 32 ∷ q)) name (left_at end (32 ∷ q)) ≡ Ok (t, after)
    → expression_at (suc most) (left_at end (40 ∷ (name ++ 32 ∷ q))) ≡ Ok (t, after)
several_case most end name q t after w h = front_is most end 32 name q w refl ∙ h

items_front : (vs : List Val) (most end : ℕ) (r : List ℕ) → AreLineItems vs → expression_at (suc most) (left_at end (codes "(items" ++ put_items vs (41 ∷ r))) ≡ Ok (items vs, left_at end r)
items_front [] most end r h = front_is most end 41 (codes "items") r (word_of (codes "items") refl) refl ∙ items_case [] (expression_at most) most _ end r h
items_front (v ∷ vs) most end r h = front_is most end 32 (codes "items") _ (word_of (codes "items") refl) refl ∙ items_case (v ∷ vs) (expression_at most) most _ end r h

concat_front : (ts : Trees) (most end : ℕ) (r : List ℕ) → AreLines ts → inputs_at (expression_at most) most (left_at end (put_trees ts (41 ∷ r))) ≡ Ok (ts, left_at end r)
    → expression_at (suc most) (left_at end (codes "(concat" ++ put_trees ts (41 ∷ r))) ≡ Ok (concat ts, left_at end r)
concat_front none most end r h k = absurd h
concat_front (first t ts) most end r h k =
    several_case most end (codes "concat") (put_tree t (put_trees ts (41 ∷ r))) (concat (first t ts)) (left_at end r) (word_of (codes "concat") refl)
    (concat_is (expression_at most) most _ (first t ts) (left_at end (32 ∷ put_tree t (put_trees ts (41 ∷ r)))) (left_at end r) k)

merge_front : (p : ℕ) (ts : Trees) (most end : ℕ) (r : List ℕ) → p < 2 ^ 64 → AreLines ts → inputs_at (expression_at most) most (left_at end (put_trees ts (41 ∷ r))) ≡ Ok (ts, left_at end r)
    → expression_at (suc most) (left_at end (codes "(merge " ++ (decimal p ++ put_trees ts (41 ∷ r)))) ≡ Ok (merge p ts, left_at end r)
merge_front p none most end r s h k = absurd h
merge_front p (first t ts) most end r s h k =
    several_case most end (codes "merge") (decimal p ++ put_trees (first t ts) (41 ∷ r)) (merge p (first t ts)) (left_at end r) (word_of (codes "merge") refl)
    (merge_is (expression_at most) most _ p end (first t ts) (put_tree t (put_trees ts (41 ∷ r))) (left_at end r) s k)

merge_delay_front : (p : ℕ) (ts : Trees) (most end : ℕ) (r : List ℕ) → p < 2 ^ 64 → AreLines ts → inputs_at (expression_at most) most (left_at end (put_trees ts (41 ∷ r))) ≡ Ok (ts, left_at end r)
    → expression_at (suc most) (left_at end (codes "(mergeDelayError " ++ (decimal p ++ put_trees ts (41 ∷ r)))) ≡ Ok (merge_delay p ts, left_at end r)
merge_delay_front p none most end r s h k = absurd h
merge_delay_front p (first t ts) most end r s h k =
    several_case most end (codes "mergeDelayError") (decimal p ++ put_trees (first t ts) (41 ∷ r)) (merge_delay p (first t ts)) (left_at end r) (word_of (codes "mergeDelayError") refl)
    (merge_delay_is (expression_at most) most _ p end (first t ts) (put_tree t (put_trees ts (41 ∷ r))) (left_at end r) s k)

zip_front : (p : ℕ) (ts : Trees) (most end : ℕ) (r : List ℕ) → p < 2 ^ 64 → AreLines ts → inputs_at (expression_at most) most (left_at end (put_trees ts (41 ∷ r))) ≡ Ok (ts, left_at end r)
    → expression_at (suc most) (left_at end (codes "(zip " ++ (decimal p ++ put_trees ts (41 ∷ r)))) ≡ Ok (zip p ts, left_at end r)
zip_front p none most end r s h k = absurd h
zip_front p (first t ts) most end r s h k =
    several_case most end (codes "zip") (decimal p ++ put_trees (first t ts) (41 ∷ r)) (zip p (first t ts)) (left_at end r) (word_of (codes "zip") refl)
    (zip_is (expression_at most) most _ p end (first t ts) (put_tree t (put_trees ts (41 ∷ r))) (left_at end r) s k)

latest_front : (p : ℕ) (ts : Trees) (most end : ℕ) (r : List ℕ) → p < 2 ^ 64 → AreLines ts → inputs_at (expression_at most) most (left_at end (put_trees ts (41 ∷ r))) ≡ Ok (ts, left_at end r)
    → expression_at (suc most) (left_at end (codes "(combineLatest " ++ (decimal p ++ put_trees ts (41 ∷ r)))) ≡ Ok (latest p ts, left_at end r)
latest_front p none most end r s h k = absurd h
latest_front p (first t ts) most end r s h k =
    several_case most end (codes "combineLatest") (decimal p ++ put_trees (first t ts) (41 ∷ r)) (latest p (first t ts)) (left_at end r) (word_of (codes "combineLatest") refl)
    (latest_is (expression_at most) most _ p end (first t ts) (put_tree t (put_trees ts (41 ∷ r))) (left_at end r) s k)

some_weight : (t : Tree) → 0 < weight t
some_weight (items vs) = omega arith
some_weight (range a n) = omega arith
some_weight (hub h) = omega arith
some_weight (plain g t) = omega arith
some_weight (concat ts) = omega arith
some_weight (merge p ts) = omega arith
some_weight (merge_delay p ts) = omega arith
some_weight (zip p ts) = omega arith
some_weight (latest p ts) = omega arith
some_weight (group f gs t) = omega arith
some_weight (window n gs t) = omega arith
some_weight (flat f c gs t) = omega arith
some_weight (flat_delay f c gs t) = omega arith
some_weight (on k p t) = omega arith
some_weight (on_eager k p t) = omega arith

mutual
  -- with one more than is needed inside
  tree_is : (t : Tree) (most end : ℕ) (r : List ℕ) → IsLine t → weight t ≤ suc most → expression_at (suc most) (left_at end (put_tree t r)) ≡ Ok (t, left_at end r)
  tree_is (items vs) most end r h k = items_front vs most end r h
  tree_is (range a n) most end r h k = front_is most end 32 (codes "range") _ (word_of (codes "range") refl) refl ∙ range_case a n (expression_at most) most _ end r h.0 h.1
  tree_is (hub i) most end r h k = front_is most end 32 (codes "hub") _ (word_of (codes "hub") refl) refl ∙ hub_case i (expression_at most) most _ end r h
  tree_is (plain g t) zero end r h k = absurd (omega (arith, some_weight t))
  tree_is (plain g t) (suc most) end r h k =
      over_case (suc most) end 32 0 (stage_name g) (put_rest g (32 ∷ put_tree t (41 ∷ r))) (plain g) t r (stage_word g) refl
      (is_over g (expression_at (suc most)) (suc most) _ _)
      (is_plain g g (suc most) _ _ _ (stage_is g _ end 32 (put_tree t (41 ∷ r)) h.0 refl))
      (tree_is t most end (41 ∷ r) h.1 (omega arith))
  tree_is (concat ts) most end r h k = concat_front ts most end r h (trees_are ts most most end r h (omega arith) (omega arith))
  tree_is (merge p ts) most end r h k = merge_front p ts most end r h.0 h.1 (trees_are ts most most end r h.1 (omega arith) (omega arith))
  tree_is (merge_delay p ts) most end r h k = merge_delay_front p ts most end r h.0 h.1 (trees_are ts most most end r h.1 (omega arith) (omega arith))
  tree_is (zip p ts) most end r h k = zip_front p ts most end r h.0 h.1 (trees_are ts most most end r h.1 (omega arith) (omega arith))
  tree_is (latest p ts) most end r h k = latest_front p ts most end r h.0 h.1 (trees_are ts most most end r h.1 (omega arith) (omega arith))
  tree_is (group f gs t) zero end r h k = absurd (omega (arith, some_weight t))
  tree_is (group f gs t) (suc most) end r h k =
      over_case (suc most) end 32 0 (codes "groupBy") (function_text for.Key f ++ (32 ∷ put_chain gs (32 ∷ put_tree t (41 ∷ r)))) (group f gs) t r (word_of (codes "groupBy") refl) refl
      (group_case (expression_at (suc most)) (suc most) _ _)
      (is_group (suc most) _ _ ∙ group_is f gs (suc most) end (32 ∷ put_tree t (41 ∷ r)) h.0 h.1 (omega arith))
      (tree_is t most end (41 ∷ r) h.2 (omega arith))
  tree_is (window n gs t) zero end r h k = absurd (omega (arith, some_weight t))
  tree_is (window n gs t) (suc most) end r h k =
      over_case (suc most) end 32 0 (codes "window") (decimal n ++ (32 ∷ put_chain gs (32 ∷ put_tree t (41 ∷ r)))) (window n gs) t r (word_of (codes "window") refl) refl
      (window_case (expression_at (suc most)) (suc most) _ _)
      (is_window (suc most) _ _ ∙ window_is n gs (suc most) end (32 ∷ put_tree t (41 ∷ r)) h.0 h.1 (omega arith))
      (tree_is t most end (41 ∷ r) h.2 (omega arith))
  tree_is (flat f c gs t) zero end r h k = absurd (omega (arith, some_weight t))
  tree_is (flat f c gs t) (suc most) end r h k =
      over_case (suc most) end 32 0 (codes "flatMap") (function_text for.Expand f ++ (32 ∷ (decimal c ++ (32 ∷ put_chain gs (32 ∷ put_tree t (41 ∷ r)))))) (flat f c gs) t r (word_of (codes "flatMap") refl) refl
      (flat_case (expression_at (suc most)) (suc most) _ _)
      (is_flat (suc most) _ _ ∙ flat_is f c gs (suc most) end (32 ∷ put_tree t (41 ∷ r)) h.0 h.1 h.2 (omega arith))
      (tree_is t most end (41 ∷ r) h.3 (omega arith))
  tree_is (flat_delay f c gs t) zero end r h k = absurd (omega (arith, some_weight t))
  tree_is (flat_delay f c gs t) (suc most) end r h k =
      over_case (suc most) end 32 0 (codes "flatMapDelayError") (function_text for.Expand f ++ (32 ∷ (decimal c ++ (32 ∷ put_chain gs (32 ∷ put_tree t (41 ∷ r)))))) (flat_delay f c gs) t r (word_of (codes "flatMapDelayError") refl) refl
      (flat_delay_case (expression_at (suc most)) (suc most) _ _)
      (is_flat_delay (suc most) _ _ ∙ flat_delay_is f c gs (suc most) end (32 ∷ put_tree t (41 ∷ r)) h.0 h.1 h.2 (omega arith))
      (tree_is t most end (41 ∷ r) h.3 (omega arith))
  tree_is (on i p t) zero end r h k = absurd (omega (arith, some_weight t))
  tree_is (on i p t) (suc most) end r h k =
      over_case (suc most) end 32 0 (codes "publishOn") (decimal i ++ (32 ∷ (decimal p ++ (32 ∷ put_tree t (41 ∷ r))))) (on i p) t r (word_of (codes "publishOn") refl) refl
      (on_case (expression_at (suc most)) (suc most) _ _)
      (is_on (suc most) _ _ ∙ on_is i p end (put_tree t (41 ∷ r)) h.0 h.1)
      (tree_is t most end (41 ∷ r) h.2 (omega arith))
  tree_is (on_eager i p t) zero end r h k = absurd (omega (arith, some_weight t))
  tree_is (on_eager i p t) (suc most) end r h k =
      over_case (suc most) end 32 0 (codes "publishOnEager") (decimal i ++ (32 ∷ (decimal p ++ (32 ∷ put_tree t (41 ∷ r))))) (on_eager i p) t r (word_of (codes "publishOnEager") refl) refl
      (on_eager_case (expression_at (suc most)) (suc most) _ _)
      (is_on_eager (suc most) _ _ ∙ on_eager_is i p end (put_tree t (41 ∷ r)) h.0 h.1)
      (tree_is t most end (41 ∷ r) h.2 (omega arith))

  trees_are : (ts : Trees) (n m end : ℕ) (r : List ℕ) → AreLines ts → weights ts ≤ n → weights ts ≤ m → inputs_at (expression_at n) m (left_at end (put_trees ts (41 ∷ r))) ≡ Ok (ts, left_at end r)
  trees_are none n m end r h k l = absurd h
  trees_are (first t none) zero m end r h k l = absurd (omega arith)
  trees_are (first t none) (suc n) zero end r h k l = absurd (omega arith)
  trees_are (first t none) (suc n) (suc m) end r h k l = last_is (expression_at (suc n)) m end t r (tree_is t n end (41 ∷ r) h (omega arith))
  trees_are (first t (first u us)) zero m end r h k l = absurd (omega arith)
  trees_are (first t (first u us)) (suc n) zero end r h k l = absurd (omega arith)
  trees_are (first t (first u us)) (suc n) (suc m) end r h k l =
      next_is (expression_at (suc n)) m end t u (first u us) (put_trees us (41 ∷ r)) (left_at end r)
      (tree_is t n end (32 ∷ put_tree u (put_trees us (41 ∷ r))) h.0 (omega arith))
      (trees_are (first u us) (suc n) m end r h.1 (omega arith) (omega arith))

whole : (line : List ℕ) (t : Tree) → length line ≤ 4096 → expression_at (length line + 1) (left_at (length line + 1) line) ≡ Ok (t, left_at (length line + 1) []) → expression_of_line line ≡ Ok t
unfolding expression_of_line
whole line t h k =
    let short : nat_lt 4096 (length line) ≡ false = grind (arith, nat_tests) in
    rw short (rw k (rw (ended (length line + 1)) refl))

pub reads_back : (t : Tree) → ReadsBack t
reads_back t h k =
    let same : put_tree t [] ≡ tree_text t = tree_put t [] ∙ append-nil (tree_text t) in
    let long : weight t ≤ length (tree_text t) = subst (λ l. weight t ≤ length l) same (omega (arith, weight_len t [])) in
    let next : length (tree_text t) + 1 ≡ suc (length (tree_text t)) = omega arith in
    let read : expression_at (suc (length (tree_text t))) (left_at (length (tree_text t) + 1) (tree_text t)) ≡ Ok (t, left_at (length (tree_text t) + 1) []) =
    ap (λ l. expression_at (suc (length (tree_text t))) (left_at (length (tree_text t) + 1) l)) (sym same) ∙ tree_is t (length (tree_text t)) (length (tree_text t) + 1) [] h (omega arith) in
    whole (tree_text t) t k (ap (λ n. expression_at n (left_at (length (tree_text t) + 1) (tree_text t))) next ∙ read)
