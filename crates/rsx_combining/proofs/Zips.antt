-- The value of a zip: a row that is made, an ending that is taken, and the rest.
use Rattle.std.proofs.Common.{◌≡◌, ℕ, zero, suc, ◌≤◌, ◌^◌, ◌&&◌, Bool, true, false, nat_eq, nat_lt, if◌then◌else◌, List, [], ◌∷◌, ◌++◌, length, slice_get, Option, Some, None, option_map, refl, ap, sym, ◌∙◌, subst, arith}
use Rattle.std.proofs.lemmas.Bool.Decides.{nat_tests}
use Rattle.std.proofs.lemmas.Option.{same_Some}
use Rattle.std.proofs.lemmas.List.{nil_from_length}
use Rattle.std.proofs.lemmas.Bool.{and_parts}
use Rattle.rsx_sources.specs.Prelude.{Note, Nothing, Picks, Ended, Ending, Done, Signal, Next, Complete, Error, Meaning, note_then, Stream, ended_by, item_then, signal_then, CountsStep, incoming_of}
use Rattle.rsx_queued.specs.declared.tail.Tail.{Tail}
use Rattle.rsx_queued.specs.declared.tail.Tail.TheVariants.{Open as Coming, Completion, Failure, Taken}
use Rattle.rsx_queued.specs.Prelude.{first_held, unless_taken, next_signal, without, IsCounted, output_then, next_signal_at, done_at, head_of, tail_of}
use Rattle.rsx_queued.specs.declared.input.QueuedInput.{QueuedInput}
use Rattle.rsx_queued.specs.declared.output.Output.{Output}
use Rattle.rsx_queued.specs.declared.output.Output.TheVariants.{Empty, Waiting}
use Rattle.rsx_queued.proofs.Outputs.{not_ended}
use Rattle.rsx_queued.proofs.Counts.{counted_without}
use Rattle.rsx_values.specs.Zip.{items_of, shortest, heads, tails, rows, has_ended, ends_after, first_ending, ending_after, zip_ending, zip_rows, zip}
use Rattle.rsx_combining.specs.Inputs.{left, lefts, is_item, ending_only, ending_at, is_some_input, all_have_items, queued, shortened, all_shortened, AllCounted}
use Rattle.rsx_combining.specs.Zip.{ZipState, zip_of, zip_ended, zip_done, IsZipCounted}

-- ---- a row in front of stream values

-- an item in front of each
abbrev each_then : {T : Type 0} → List T → List (Stream T) → List (Stream T)
each_then [] vs = []
each_then (x ∷ xs) [] = []
each_then (x ∷ xs) (v ∷ vs) = item_then x v ∷ each_then xs vs

heads_each : {T : Type 0} (xs : List T) (vs : List (Stream T)) → length xs ≡ length vs → heads (items_of (each_then xs vs)) ≡ xs
heads_each [] vs e = refl
heads_each (x ∷ xs) [] e = absurd (omega (arith, e))
heads_each (x ∷ xs) (v ∷ vs) e = ap (λ l. x ∷ l) (heads_each xs vs (omega (arith, e)))

tails_each : {T : Type 0} (xs : List T) (vs : List (Stream T)) → length xs ≡ length vs → tails (items_of (each_then xs vs)) ≡ items_of vs
tails_each [] [] e = refl
tails_each [] (v ∷ vs) e = absurd (omega (arith, e))
tails_each (x ∷ xs) [] e = absurd (omega (arith, e))
tails_each (x ∷ xs) (v ∷ vs) e = ap (λ l. v.items ∷ l) (tails_each xs vs (omega (arith, e)))

shortest_each : {T : Type 0} (x : T) (xs : List T) (v : Stream T) (vs : List (Stream T)) → length xs ≡ length vs →
    shortest (items_of (each_then (x ∷ xs) (v ∷ vs))) ≡ suc (shortest (items_of (v ∷ vs)))
shortest_each x [] v [] e = refl
shortest_each x [] v (w ∷ vs) e = absurd (omega (arith, e))
shortest_each x (y ∷ xs) v [] e = absurd (omega (arith, e))
shortest_each x (y ∷ xs) v (w ∷ vs) e = let h = shortest_each y xs w vs (omega (arith, e)) in omega (arith, h)

same_suc : (a b : ℕ) → nat_eq (suc a) (suc b) ≡ nat_eq a b
same_suc a b = grind (arith, nat_tests)

ends_item : {T : Type 0} (n : ℕ) (x : T) (v : Stream T) → ends_after (suc n) (item_then x v) ≡ ends_after n v
ends_item n x v = ap (λ b. b && has_ended v.ending) (same_suc (length v.items) n)

first_each : {T : Type 0} (n : ℕ) (xs : List T) (vs : List (Stream T)) → length xs ≡ length vs → first_ending (suc n) (each_then xs vs) ≡ first_ending n vs
first_each n [] [] e = refl
first_each n [] (v ∷ vs) e = absurd (omega (arith, e))
first_each n (x ∷ xs) [] e = absurd (omega (arith, e))
first_each n (x ∷ xs) (v ∷ vs) e = rw (ends_item n x v, first_each n xs vs (omega (arith, e))) refl

after_each : {T : Type 0} (n : ℕ) (xs : List T) (vs : List (Stream T)) (i : ℕ) → length xs ≡ length vs → ending_after (suc n) (slice_get (each_then xs vs) i) ≡ ending_after n (slice_get vs i)
after_each n [] [] i e = refl
after_each n [] (v ∷ vs) i e = absurd (omega (arith, e))
after_each n (x ∷ xs) [] i e = absurd (omega (arith, e))
after_each n (x ∷ xs) (v ∷ vs) zero e = rw (ends_item n x v) refl
after_each n (x ∷ xs) (v ∷ vs) (suc i) e = after_each n xs vs i (omega (arith, e))

ending_each : {T : Type 0} (n : ℕ) (o : Option ℕ) (xs : List T) (vs : List (Stream T)) → length xs ≡ length vs → zip_ending (suc n) o (each_then xs vs) ≡ zip_ending n o vs
ending_each n None xs vs e = ap (λ z. Some z) (first_each n xs vs e)
ending_each n (Some i) xs vs e = after_each n xs vs i e

row_before : {T : Type 0} (row : List T → T) (y : T) (n : ℕ) (ls : List (List T)) (vs : List (Stream T)) (o : Option Ending) →
    option_map (λ e. item_then y (record { items = rows row n ls; ending = e })) o ≡ option_map (item_then {T = T} y) (option_map (λ e. record { items = rows row n ls; ending = e }) o)
row_before row y n ls vs None = refl
row_before row y n ls vs (Some e) = refl

-- the zip of values with a row in front is that row, and then their zip
zip_each : {T : Type 0} (row : List T → T) (o : Option ℕ) (x : T) (xs : List T) (v : Stream T) (vs : List (Stream T)) → length xs ≡ length vs →
    zip row o (each_then (x ∷ xs) (v ∷ vs)) ≡ option_map (item_then (row (x ∷ xs))) (zip row o (v ∷ vs))
zip_each {T} row o x xs v vs e =
    let same : length (x ∷ xs) ≡ length (v ∷ vs) = omega (arith, e) in
    let n = shortest (items_of (v ∷ vs)) in
    let ws = each_then (x ∷ xs) (v ∷ vs) in
    let of : ℕ → Option (Stream T) = λ k. option_map (zip_rows row k ws) (zip_ending k o ws) in
    let with_items : List (List T) → Option (Stream T) = λ ls. option_map (λ z. record { items = row (heads (items_of ws)) ∷ rows row n ls; ending = z }) (zip_ending n o (v ∷ vs)) in
    let with_row : List T → Option (Stream T) = λ hs. option_map (λ z. record { items = row hs ∷ rows row n (items_of (v ∷ vs)); ending = z }) (zip_ending n o (v ∷ vs)) in
    ap of (shortest_each x xs v vs e)
    ∙ ap (option_map (zip_rows row (suc n) ws)) (ending_each n o (x ∷ xs) (v ∷ vs) same)
    ∙ ap with_items (tails_each (x ∷ xs) (v ∷ vs) same)
    ∙ ap with_row (heads_each (x ∷ xs) (v ∷ vs) same)
    ∙ row_before row (row (x ∷ xs)) n (items_of (v ∷ vs)) (v ∷ vs) (zip_ending n o (v ∷ vs))

-- ---- a row in front of what is still to come

item_left : {T : Type 0} (t : Tail) (q : QueuedInput T) (xs : List T) (v : Stream T) → q.tail ≡ t → q.queue.items ≡ xs → is_item (unless_taken t (first_held xs t)) ≡ true →
    (x : T) × ((heads (q.queue.items ∷ []) ≡ x ∷ []) × (left q v ≡ item_then x (left (shortened q) v)))
item_left Coming q [] v t e h = cc
item_left Coming q (x ∷ xs) v t e h = (x, (rw e refl, rw (t, e) refl))
item_left Completion q [] v t e h = cc
item_left Completion q (x ∷ xs) v t e h = (x, (rw e refl, rw (t, e) refl))
item_left (Failure c) q [] v t e h = cc
item_left (Failure c) q (x ∷ xs) v t e h = (x, (rw e refl, rw (t, e) refl))
item_left Taken q xs v t e h = cc

heads_behind : {T : Type 0} (xs : List T) (ls : List (List T)) (x : T) → heads (xs ∷ []) ≡ x ∷ [] → heads (xs ∷ ls) ≡ x ∷ heads ls
heads_behind [] ls x e = cc
heads_behind (y ∷ xs) ls x e = ap (λ l. l ++ heads ls) e

-- what each input has next stands in front of what it has left then
row_lefts : {T : Type 0} (qs : List (QueuedInput T)) (vs : List (Stream T)) → all_have_items qs ≡ true →
    (lefts qs vs ≡ each_then (heads (queued qs)) (lefts (all_shortened qs) vs)) × (length (heads (queued qs)) ≡ length (lefts (all_shortened qs) vs))
row_lefts [] vs h = (refl, refl)
row_lefts (q ∷ qs) vs h =
    let p = item_left q.tail q q.queue.items (head_of vs) refl refl (and_parts (is_item (next_signal q)) (all_have_items qs) h).0 in
    let r = row_lefts qs (tail_of vs) (and_parts (is_item (next_signal q)) (all_have_items qs) h).1 in
    let hs : heads (queued (q ∷ qs)) ≡ p.0 ∷ heads (queued qs) = heads_behind q.queue.items (queued qs) p.0 (p.1).0 in
    let ws = left (shortened q) (head_of vs) ∷ lefts (all_shortened qs) (tail_of vs) in (
      ap (λ l. l ∷ lefts qs (tail_of vs)) (p.1).1 ∙ ap (λ l. item_then p.0 (left (shortened q) (head_of vs)) ∷ l) r.0 ∙ sym (ap (λ l. each_then l ws) hs),
      ap length hs ∙ ap suc r.1,
    )

zip_of_each : {T : Type 0} (row : List T → T) (o : Option ℕ) (hs : List T) (v : Stream T) (vs : List (Stream T)) → length hs ≡ length (v ∷ vs) →
    zip row o (each_then hs (v ∷ vs)) ≡ option_map (item_then (row hs)) (zip row o (v ∷ vs))
zip_of_each row o [] v vs e = absurd (omega (arith, e))
zip_of_each row o (x ∷ xs) v vs e = zip_each row o x xs v vs (omega (arith, e))

zip_lefts : {T : Type 0} (row : List T → T) (o : Option ℕ) (qs : List (QueuedInput T)) (vs : List (Stream T)) → is_some_input qs ≡ true → all_have_items qs ≡ true →
    zip row o (lefts qs vs) ≡ option_map (item_then (row (heads (queued qs)))) (zip row o (lefts (all_shortened qs) vs))
zip_lefts row o [] vs s h = cc
zip_lefts row o (q ∷ qs) vs s h =
    let r = row_lefts (q ∷ qs) vs h in
    ap (zip row o) r.0 ∙ zip_of_each row o (heads (queued (q ∷ qs))) (left (shortened q) (head_of vs)) (lefts (all_shortened qs) (tail_of vs)) r.1

-- the value stays where a row is made
pub row_made : {T : Type 0} (m : Meaning T) (qs : List (QueuedInput T)) (y : T) → is_some_input qs ≡ true → all_have_items qs ≡ true → y ≡ m.row_of (heads (queued qs)) → (vs : List (Stream T)) (further : Note) →
    zip_of m (Waiting (Next y)) (all_shortened qs) vs further ≡ zip_of m Empty qs vs further
row_made m qs y s h is vs Nothing = refl
row_made m qs y s h is vs (Picks cs) = refl
row_made m qs y s h is vs (Ended o) = rw is (sym (zip_lefts m.row_of o qs vs s h))

some_shortened : {T : Type 0} (qs : List (QueuedInput T)) → is_some_input qs ≡ true → is_some_input (all_shortened qs) ≡ true
some_shortened [] s = s
some_shortened (q ∷ qs) s = refl

pub length_shortened : {T : Type 0} (qs : List (QueuedInput T)) → length (all_shortened qs) ≡ length qs
length_shortened [] = refl
length_shortened (q ∷ qs) = ap suc (length_shortened qs)

without_item : {T : Type 0} (q : QueuedInput T) (o : Option (Signal T)) → is_item o ≡ true → without q o ≡ shortened q
without_item q None e = cc
without_item q (Some (Next x)) e = refl
without_item q (Some Complete) e = cc
without_item q (Some (Error c)) e = cc

counted_shortened : {T : Type 0} (qs : List (QueuedInput T)) (cs : List ℕ) → all_have_items qs ≡ true → AllCounted qs cs → AllCounted (all_shortened qs) cs
counted_shortened [] [] h c = c
counted_shortened [] (k ∷ cs) h c = absurd c
counted_shortened (q ∷ qs) [] h c = absurd c
counted_shortened {T = T} (q ∷ qs) (k ∷ cs) h c =
    let P : QueuedInput T → Type 0 = λ p. IsCounted p k in (
      subst P (without_item q (next_signal q) (and_parts (is_item (next_signal q)) (all_have_items qs) h).0) (counted_without q k c.0),
      c.1,
      counted_shortened qs cs (and_parts (is_item (next_signal q)) (all_have_items qs) h).1 c.2,
    )

done_shortened : {T : Type 0} (qs : List (QueuedInput T)) (j : ℕ) → done_at (slice_get qs j) ≡ true → done_at (slice_get (all_shortened qs) j) ≡ true
done_shortened [] j d = d
done_shortened (q ∷ qs) zero d = d
done_shortened (q ∷ qs) (suc j) d = done_shortened qs j d

-- so do the counts
pub row_counts : {T : Type 0} (old : ZipState T) (y : T) → is_some_input old.inputs ≡ true → all_have_items old.inputs ≡ true → old.output ≡ Empty →
    CountsStep IsZipCounted zip_ended zip_done old (record { inputs = all_shortened old.inputs; output = Waiting (Next y); chosen = old.chosen })
row_counts old y s h empty =
    record {
      stays_ended = λ e. absurd (not_ended old.output empty e);
      counts = λ e taken sent c. record {
        unchosen = c.unchosen;
        goes_on = refl;
        some_input = some_shortened old.inputs s;
        few = let P : ℕ → Type 0 = λ n. n ≤ 2 ^ 32 in subst P (sym (length_shortened old.inputs)) c.few;
        counts = counted_shortened old.inputs taken h c.counts;
      };
      stays_done = λ j d. done_shortened old.inputs j d;
    }

-- ---- an ending that is taken

ending_left : {T : Type 0} (t : Tail) (q : QueuedInput T) (xs : List T) (s : Signal T) (v w : Stream T) → q.tail ≡ t → q.queue.items ≡ xs → ending_only (unless_taken t (first_held xs t)) ≡ Some s →
    (left q v ≡ signal_then s w) × ((length (left q v).items ≡ 0) × (has_ended (left q v).ending ≡ true))
ending_left Coming q [] s v w t e h = cc
ending_left Coming q (x ∷ xs) s v w t e h = cc
ending_left Completion q [] s v w t e h = (rw (t, e) (ap (λ z. signal_then z w) (same_Some Complete s h)), (rw (t, e) refl, rw t refl))
ending_left Completion q (x ∷ xs) s v w t e h = cc
ending_left (Failure c) q [] s v w t e h = (rw (t, e) (ap (λ z. signal_then z w) (same_Some (Error c) s h)), (rw (t, e) refl, rw t refl))
ending_left (Failure c) q (x ∷ xs) s v w t e h = cc
ending_left Taken q xs s v w t e h = cc

-- a value with no item is the shortest
shortest_none : {T : Type 0} (vs : List (Stream T)) (i : ℕ) (v : Stream T) → slice_get vs i ≡ Some v → length v.items ≡ 0 → shortest (items_of vs) ≡ 0
shortest_none [] i v at e = cc
shortest_none (w ∷ []) zero v at e = ap (λ z. length z.items) (same_Some w v at) ∙ e
shortest_none (w ∷ []) (suc i) v at e = cc
shortest_none (w ∷ u ∷ vs) zero v at e = let same : length w.items ≡ 0 = ap (λ z. length z.items) (same_Some w v at) ∙ e in omega (arith, same)
shortest_none (w ∷ u ∷ vs) (suc i) v at e = let h = shortest_none (u ∷ vs) i v at e in omega (arith, h)

-- the value of an input whose ending is next
left_at : {T : Type 0} (qs : List (QueuedInput T)) (i : ℕ) (s : Signal T) (vs : List (Stream T)) (w : Stream T) → ending_only (next_signal_at (slice_get qs i)) ≡ Some s →
    (v : Stream T) × ((slice_get (lefts qs vs) i ≡ Some v) × ((v ≡ signal_then s w) × ((length v.items ≡ 0) × (has_ended v.ending ≡ true))))
left_at [] i s vs w e = cc
left_at (q ∷ qs) zero s vs w e = (left q (head_of vs), (refl, ending_left q.tail q q.queue.items s (head_of vs) w refl refl e))
left_at (q ∷ qs) (suc i) s vs w e = left_at qs i s (tail_of vs) w e

ends_now : {T : Type 0} (v : Stream T) → length v.items ≡ 0 → has_ended v.ending ≡ true → ends_after 0 v ≡ true
ends_now v e h = rw (e, h) refl

none_is : {T : Type 0} (v : Stream T) → length v.items ≡ 0 → record { items = []; ending = v.ending } ≡ v
none_is {T} v e = let at : List T → Stream T = λ l. record { items = l; ending = v.ending } in sym (ap at (nil_from_length v.items e))

ended_zip : {T : Type 0} (row : List T → T) (i : ℕ) (vs : List (Stream T)) (v : Stream T) → slice_get vs i ≡ Some v → length v.items ≡ 0 → has_ended v.ending ≡ true → zip row (Some i) vs ≡ Some v
ended_zip {T} row i vs v at e h =
    let of : ℕ → Option (Stream T) = λ n. option_map (zip_rows row n vs) (ending_after n (slice_get vs i)) in
    ap of (shortest_none vs i v at e)
    ∙ ap (λ o. option_map (zip_rows row 0 vs) (ending_after 0 o)) at
    ∙ ap (λ b. option_map (zip_rows row 0 vs) (if b then Some v.ending else None)) (ends_now v e h)
    ∙ ap (λ z. Some z) (none_is v e)

is_ending : {T : Type 0} (s : Signal T) → ending_only (Some s) ≡ Some s → (o p : Option (Stream T)) → output_then (Waiting s) o p ≡ option_map (signal_then s) p
is_ending (Next x) e o p = cc
is_ending Complete e o p = refl
is_ending (Error c) e o p = refl

ends_only : {T : Type 0} (o : Option (Signal T)) (s : Signal T) → ending_only o ≡ Some s → ending_only (Some s) ≡ Some s
ends_only None s e = cc
ends_only (Some (Next x)) s e = cc
ends_only (Some Complete) s e = ap ending_only (sym e) ∙ e
ends_only (Some (Error c)) s e = ap ending_only (sym e) ∙ e

number_fits : {A : Type 0} (b : Bool) (o : Option A) (s : A) → (if b then o else None) ≡ Some s → o ≡ Some s
number_fits true o s e = e
number_fits false o s e = cc

-- the value where the input i is recorded is that where its ending is put out
pub ending_taken : {T : Type 0} (m : Meaning T) (qs : List (QueuedInput T)) (i : ℕ) (s : Signal T) → ending_at qs i ≡ Some s → (vs : List (Stream T)) (further : Note) →
    zip_of m (Waiting s) qs vs further ≡ zip_of m Empty qs vs (note_then (Ended (Some i)) further)
ending_taken m qs i s e vs Nothing = refl
ending_taken m qs i s e vs (Picks cs) = refl
ending_taken m qs i s e vs (Ended (Some j)) =
    let next = number_fits (nat_lt i (2 ^ 32)) (ending_only (next_signal_at (slice_get qs i))) s e in
    is_ending s (ends_only (next_signal_at (slice_get qs i)) s next) (zip m.row_of (Some j) (lefts qs vs)) None
ending_taken m qs i s e vs (Ended None) =
    let next = number_fits (nat_lt i (2 ^ 32)) (ending_only (next_signal_at (slice_get qs i))) s e in
    let p = left_at qs i s vs (ended_by Done) next in
    is_ending s (ends_only (next_signal_at (slice_get qs i)) s next) (zip m.row_of None (lefts qs vs)) (Some (ended_by Done))
    ∙ ap (λ z. Some z) (sym ((p.1).1).0)
    ∙ sym (ended_zip m.row_of i (lefts qs vs) p.0 (p.1).0 (((p.1).1).1).0 (((p.1).1).1).1)

-- ---- the rest

padded : {T : Type 0} (qs : List (QueuedInput T)) (hubs vs : List (Stream T)) → lefts qs ((incoming_of hubs vs).first ∷ (incoming_of hubs vs).others) ≡ lefts qs vs
padded [] hubs vs = refl
padded (q ∷ qs) hubs [] = refl
padded (q ∷ qs) hubs (v ∷ vs) = refl

-- where nothing more is recorded, further notes record nothing
none_more : (o : Option ℕ) (k : Note) → note_then (Ended o) k ≡ Ended o → k ≡ Ended None
none_more None k e = then_none k e
  where
    then_none : (k : Note) → note_then (Ended None) k ≡ Ended None → k ≡ Ended None
    then_none Nothing e = e
    then_none (Picks cs) e = e
    then_none (Ended o) e = e
none_more (Some i) Nothing e = cc
none_more (Some i) (Picks cs) e = cc
none_more (Some i) (Ended None) e = refl
none_more (Some i) (Ended (Some j)) e = cc

pub rest_out : {T : Type 0} (m : Meaning T) (out : Output T) (qs : List (QueuedInput T)) (chosen : Option ℕ) (vs : List (Stream T)) (rest v : Stream T) →
    Some rest ≡ zip m.row_of None (lefts qs vs) → output_then out (Some rest) (Some (ended_by Done)) ≡ Some v →
    (hubs : List (Stream T)) (further : Note) → note_then (Ended chosen) further ≡ Ended chosen →
    zip_of m out qs ((incoming_of hubs vs).first ∷ (incoming_of hubs vs).others) further ≡ Some v
rest_out m out qs chosen vs rest v is gives hubs further none =
    ap (zip_of m out qs ((incoming_of hubs vs).first ∷ (incoming_of hubs vs).others)) (none_more chosen further none)
    ∙ ap (λ l. output_then out (zip m.row_of None l) (Some (ended_by Done))) (padded qs hubs vs)
    ∙ ap (λ o. output_then out o (Some (ended_by Done))) (sym is)
    ∙ gives
