-- What comes out where all that still comes in is taken, signal by signal.
use Rattle.std.proofs.Common.{append_assoc, ◌≡◌, ℕ, zero, suc, ◌+◌, ◌<◌, ◌≤◌, Bool, true, false, List, [], ◌∷◌, ◌++◌, drop, get_or, length, Option, Some, Result, refl, sym, ap, ◌∙◌, add-one, append-nil, arith}
use Rattle.std.proofs.Math.Seq.{drop-cons}
use Rattle.std.specs.Prelude.{slice_get, IfOk}
use Rattle.std.proofs.lemmas.Result.{IfOk-weaker}
use Rattle.std.specs.Option.{option_to_list}
use Rattle.rsx_sources.specs.Prelude.{Ending, Open, Done, Failed, Signal, Next, Complete, Error, Meaning, Stream, ended_by, items_then, signal_then, signals_then, ending_signals}
use Rattle.rsx_plain.specs.Moves.{Moves, has_ending, has_ended, ended_or}
use Rattle.rsx_plain.specs.State.{plain_from, is_over}
pub use Rattle.rsx_plain.specs.Operators.{over_done, operator_rests}
use Rattle.rsx_plain.specs.declared.state.PlainState.{PlainState}

pub drop_all : {A : Type 0} (at : ℕ) (xs : List A) → length xs ≤ at → drop at xs ≡ []
drop_all zero [] h = refl
drop_all (suc at) [] h = refl
drop_all zero (x ∷ xs) h = absurd (omega arith)
drop_all (suc at) (x ∷ xs) h = drop_all at xs (omega arith)

-- ---- the signals of a slot

signals_append : {T : Type 0} (a b : List (Signal T)) (v : Stream T) → signals_then (a ++ b) v ≡ signals_then a (signals_then b v)
signals_append [] b v = refl
signals_append (s ∷ ss) b v = ap (signal_then s) (signals_append ss b v)

-- what was taken out is all of a slot with at most one signal
emptied : {A : Type 0} (old : List A) (r : Option A) → length old < 2 → r ≡ slice_get old 0 → old ≡ option_to_list r
emptied [] r h g = rw g refl
emptied (x ∷ []) r h g = rw g refl
emptied (x ∷ y ∷ ys) r h g = absurd (omega (arith, h))

cut_off : {T : Type 0} (e : Ending) (v w : Stream T) → (e ≡ Open → ⊥) → ended_or e v ≡ ended_or e w
cut_off Open v w h = absurd (h refl)
cut_off Done v w h = refl
cut_off (Failed c) v w h = refl

-- the first signal brought an ending
pub drained_first : {T : Type 0} (out mid : List T) (slot left : List (Signal T)) (s : Option (Signal T)) (e : Ending) → slot ≡ option_to_list s ++ left → ((v : Stream T) → items_then out (signals_then (option_to_list s) v) ≡ items_then mid (ended_or e v)) → (e ≡ Open → ⊥) →
    (v : Stream T) → items_then out (signals_then slot v) ≡ items_then mid (ended_or e v)
drained_first out mid slot left s e a h n v =
    ap (λ l. items_then out (signals_then l v)) a ∙ ap (items_then out) (signals_append (option_to_list s) left v) ∙ h (signals_then left v) ∙ ap (items_then mid) (cut_off e (signals_then left v) v n)

-- it brought none, and the second one is taken out
pub drained_second : {T E : Type 0} (out mid new : List T) (slot left : List (Signal T)) (s t : Option (Signal T)) (first : Ending) (r : Result Ending E) → slot ≡ option_to_list s ++ left → ((v : Stream T) → items_then out (signals_then (option_to_list s) v) ≡ items_then mid (ended_or first v)) → first ≡ Open → length left < 2 → t ≡ slice_get left 0 →
    IfOk r (λ e. (v : Stream T) → items_then mid (signals_then (option_to_list t) v) ≡ items_then new (ended_or e v)) → IfOk r (λ e. (v : Stream T) → items_then out (signals_then slot v) ≡ items_then new (ended_or e v))
drained_second {T} out mid new slot left s t first r a h o l g k =
    IfOk-weaker r (λ e. (v : Stream T) → items_then mid (signals_then (option_to_list t) v) ≡ items_then new (ended_or e v)) (λ e. (v : Stream T) → items_then out (signals_then slot v) ≡ items_then new (ended_or e v)) step k
  where
    step : (e : Ending) → ((v : Stream T) → items_then mid (signals_then (option_to_list t) v) ≡ items_then new (ended_or e v)) → (v : Stream T) → items_then out (signals_then slot v) ≡ items_then new (ended_or e v)
    step e k v =
        ap (λ l. items_then out (signals_then l v)) a ∙ ap (items_then out) (signals_append (option_to_list s) left v) ∙ h (signals_then left v) ∙ ap (λ f. items_then mid (ended_or f (signals_then left v))) o ∙ ap (λ l. items_then mid (signals_then l v)) (emptied left t l g) ∙ k v

pub ended_closed : (e : Ending) → (e ≡ Open → ⊥) → has_ended e ≡ true
ended_closed Open h = absurd (h refl)
ended_closed Done h = refl
ended_closed (Failed c) h = refl

either_ending : {T : Type 0} (a b : List (Signal T)) → has_ending (a ++ b) ≡ true → (has_ending a ≡ true → ⊥) → has_ending b ≡ true
either_ending [] b h n = h
either_ending (Next x ∷ ss) b h n = either_ending ss b h n
either_ending (Complete ∷ ss) b h n = absurd (n refl)
either_ending (Error c ∷ ss) b h n = absurd (n refl)

pub ended_second : {T E : Type 0} (slot left : List (Signal T)) (s t : Option (Signal T)) (first : Ending) (r : Result Ending E) → slot ≡ option_to_list s ++ left → (has_ending (option_to_list s) ≡ true → has_ended first ≡ true) → first ≡ Open → length left < 2 → t ≡ slice_get left 0 →
    IfOk r (λ e. has_ending (option_to_list t) ≡ true → has_ended e ≡ true) → IfOk r (λ e. has_ending slot ≡ true → has_ended e ≡ true)
ended_second {T} slot left s t first r a n o l g k =
    IfOk-weaker r (λ e. has_ending (option_to_list t) ≡ true → has_ended e ≡ true) (λ e. has_ending slot ≡ true → has_ended e ≡ true) step k
  where
    step : (e : Ending) → (has_ending (option_to_list t) ≡ true → has_ended e ≡ true) → has_ending slot ≡ true → has_ended e ≡ true
    step e k h =
        let both : has_ending (option_to_list s ++ left) ≡ true = sym (ap has_ending a) ∙ h in
        let here : has_ending left ≡ true = either_ending (option_to_list s) left both (λ x. let f : has_ended first ≡ true = n x in let e : has_ended first ≡ false = ap has_ended o in cc) in
        k (sym (ap has_ending (emptied left t l g)) ∙ here)

-- ---- one signal

pub item_out : {T : Type 0} (old new : List T) (r : Option (Signal T)) (s : Signal T) (x : T) → r ≡ Some s → s ≡ Next x → new ≡ old ++ x ∷ [] → (v : Stream T) → items_then old (signals_then (option_to_list r) v) ≡ items_then new v
item_out old new r s x i n e v =
    ap (λ o. items_then old (signals_then (option_to_list o) v)) (i ∙ ap Some n) ∙ ap (λ l. record { items = l; ending = v.ending }) (sym (append_assoc old (x ∷ []) v.items)) ∙ ap (λ l. items_then l v) (sym e)

pub item_is_none : {T : Type 0} (r : Option (Signal T)) (s : Signal T) (x : T) (b : Bool) → r ≡ Some s → s ≡ Next x → has_ending (option_to_list r) ≡ true → b ≡ true
item_is_none r s x b i n h = let e : has_ending (option_to_list r) ≡ false = ap (λ o. has_ending (option_to_list o)) (i ∙ ap Some n) in cc

-- ---- an operator that takes them

not_over : (over : Bool) → (over ≡ true → false ≡ true) → over ≡ false
not_over true h = let f = h refl in cc
not_over false h = refl

-- where nothing follows, the items that came out and the ending are all
nothing_behind : {T : Type 0} (out : List T) (e : Ending) → items_then out (ended_by e) ≡ record { items = out; ending = e }
nothing_behind out e = rw append-nil refl

-- a signal was answered by a slot, which was emptied
pub takes_signal : {T S : Type 0} (from : S → Stream T → Stream T) (old new : S) (s : Signal T) (slot : List (Signal T)) (last : Ending) (out out' : List T) → Moves from old s slot new → ((v : Stream T) → items_then out (signals_then slot v) ≡ items_then out' (ended_or last v)) →
    (v : Stream T) → items_then out (from old (signal_then s v)) ≡ items_then out' (ended_or last (from new v))
takes_signal from old new s slot last out out' m k v = ap (items_then out) (m v) ∙ k (from new v)

-- ---- of any operator

item_in : {T S : Type 0} (from : S → Stream T → Stream T) (old new : S) (x copy : T) (items : List T) (at : ℕ) (e last : Ending) (out out' : List T) (whole : Stream T) →
    items_then out (from old (record { items = drop at items; ending = e })) ≡ whole → x ≡ get_or items at x → at < length items → copy ≡ x → ((v : Stream T) → items_then out (from old (signal_then (Next copy) v)) ≡ items_then out' (ended_or last (from new v))) →
    items_then out' (ended_or last (from new (record { items = drop (at + 1) items; ending = e }))) ≡ whole
item_in {T} from old new x copy items at e last out out' whole h i b c k =
    let d : x ∷ drop (at + 1) items ≡ drop at items = sym (rw add-one (drop-cons items at x b ∙ ap (λ y. y ∷ drop (suc at) items) (sym i))) in
    let left : Stream T = record { items = drop (at + 1) items; ending = e } in
    let named : items_then out (from old (record { items = copy ∷ drop (at + 1) items; ending = e })) ≡ items_then out (from old (record { items = x ∷ drop (at + 1) items; ending = e })) = ap (λ y. items_then out (from old (record { items = y ∷ drop (at + 1) items; ending = e }))) c in
    let whole_left : items_then out (from old (record { items = x ∷ drop (at + 1) items; ending = e })) ≡ items_then out (from old (record { items = drop at items; ending = e })) = ap (λ l. items_then out (from old (record { items = l; ending = e }))) d in
    sym (k left) ∙ named ∙ whole_left ∙ h

open_in : {T S : Type 0} (from : S → Stream T → Stream T) (s : S) (items : List T) (at : ℕ) (e : Ending) (out : List T) (whole : Stream T) →
    items_then out (from s (record { items = drop at items; ending = e })) ≡ whole → from s (ended_by Open) ≡ ended_by Open → length items ≤ at → e ≡ Open → whole ≡ record { items = out; ending = Open }
open_in from s items at e out whole h o b n =
    let none : from s (record { items = drop at items; ending = e }) ≡ from s (ended_by Open) = ap (λ f. from s (record { items = drop at items; ending = f })) n ∙ ap (λ l. from s (record { items = l; ending = Open })) (drop_all at items b) in
    sym h ∙ ap (items_then out) (none ∙ o) ∙ nothing_behind out Open

ending_in : {T : Type 0} (s : Signal T) (e : Ending) (v : Stream T) → s ∷ [] ≡ ending_signals e → ended_by e ≡ signal_then s v
ending_in s Open v h = cc
ending_in s Done v h = let k : s ≡ Complete = cc in rw k refl
ending_in s (Failed c) v h = let k : s ≡ Error c = cc in rw k refl

signal_in : {T S : Type 0} (from : S → Stream T → Stream T) (old new : S) (s : Signal T) (items : List T) (at : ℕ) (e last : Ending) (out out' : List T) (whole : Stream T) →
    items_then out (from old (record { items = drop at items; ending = e })) ≡ whole → length items ≤ at → s ∷ [] ≡ ending_signals e → ((v : Stream T) → items_then out (from old (signal_then s v)) ≡ items_then out' (ended_or last (from new v))) →
    ended_or last (from new (ended_by Open)) ≡ ended_by last → whole ≡ record { items = out'; ending = last }
signal_in from old new s items at e last out out' whole h b i k closed =
    let all : from old (record { items = drop at items; ending = e }) ≡ from old (signal_then s (ended_by Open)) = ap (λ l. from old (record { items = l; ending = e })) (drop_all at items b) ∙ ap (from old) (ending_in s e (ended_by Open) i) in
    sym h ∙ ap (items_then out) all ∙ k (ended_by Open) ∙ ap (items_then out') closed ∙ nothing_behind out' last

-- ---- of a plain operator

-- an item went in: what came out and what still comes out are the whole
pub takes_item : {T : Type 0} (m : Meaning T) (old new : PlainState T) (x copy : T) (items : List T) (at : ℕ) (e last : Ending) (out out' : List T) (whole : Stream T) →
    items_then out (plain_from m old (record { items = drop at items; ending = e })) ≡ whole → x ≡ get_or items at x → at < length items → copy ≡ x → ((v : Stream T) → items_then out (plain_from m old (signal_then (Next copy) v)) ≡ items_then out' (ended_or last (plain_from m new v))) →
    items_then out' (ended_or last (plain_from m new (record { items = drop (at + 1) items; ending = e }))) ≡ whole
takes_item m = item_in (plain_from m)

-- none came out, so the operator is not over
pub goes_on : {T : Type 0} (s : PlainState T) (last : Ending) → (is_over s ≡ true → has_ended last ≡ true) → last ≡ Open → is_over s ≡ false
goes_on s last over o = not_over (is_over s) (λ t. let f : has_ended last ≡ true = over t in let e : has_ended last ≡ false = ap has_ended o in cc)

-- an ending came out, and cuts what still comes out
pub ends_at : {T : Type 0} (last : Ending) (out : List T) (v whole : Stream T) → (last ≡ Open → ⊥) → items_then out (ended_or last v) ≡ whole → whole ≡ record { items = out; ending = last }
ends_at Open out v whole n h = absurd (n refl)
ends_at Done out v whole n h = sym h ∙ nothing_behind out Done
ends_at (Failed c) out v whole n h = sym h ∙ nothing_behind out (Failed c)

stays_so : {T : Type 0} (e : Ending) → ending_signals {T = T} e ≡ [] → e ≡ Open
stays_so Open h = refl
stays_so Done h = cc
stays_so (Failed c) h = cc

-- all items went in, and no ending follows
pub stays_open : {T : Type 0} (m : Meaning T) (s : PlainState T) (items : List T) (at : ℕ) (e : Ending) (out : List T) (whole : Stream T) →
    items_then out (plain_from m s (record { items = drop at items; ending = e })) ≡ whole → is_over s ≡ false → length items ≤ at → ending_signals {T = T} e ≡ [] → whole ≡ record { items = out; ending = Open }
stays_open {T} m s items at e out whole h o b n = open_in (plain_from m) s items at e out whole h (operator_rests m s o) b (stays_so {T = T} e n)

closed_by : {T : Type 0} (m : Meaning T) (s : PlainState T) (last : Ending) → (is_over s ≡ true → has_ended last ≡ true) → ended_or last (plain_from m s (ended_by Open)) ≡ ended_by last
closed_by m s Open h = operator_rests m s (not_over (is_over s) h)
closed_by m s Done h = refl
closed_by m s (Failed c) h = refl

-- all items and the ending went in
pub takes_ending : {T : Type 0} (m : Meaning T) (old new : PlainState T) (s : Signal T) (items : List T) (at : ℕ) (e last : Ending) (out out' : List T) (whole : Stream T) →
    items_then out (plain_from m old (record { items = drop at items; ending = e })) ≡ whole → length items ≤ at → s ∷ [] ≡ ending_signals e → ((v : Stream T) → items_then out (plain_from m old (signal_then s v)) ≡ items_then out' (ended_or last (plain_from m new v))) →
    (is_over new ≡ true → has_ended last ≡ true) → whole ≡ record { items = out'; ending = last }
takes_ending m old new s items at e last out out' whole h b i k over = signal_in (plain_from m) old new s items at e last out out' whole h b i k (closed_by m new last over)

-- the operator is over at once
pub over_at_once : {T : Type 0} (m : Meaning T) (s : PlainState T) (v : Stream T) (out : List T) (r : Stream T) → is_over s ≡ true → r.items ≡ out → r.ending ≡ Done → r ≡ items_then out (plain_from m s v)
over_at_once m s v out r o p q = rw (over_done m s o v, append-nil, ← p, ← q) refl
