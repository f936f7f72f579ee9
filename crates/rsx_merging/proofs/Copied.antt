-- What still comes out of a concat, copied input by input.
use Rattle.std.proofs.Common.{◌≡◌, ℕ, ◌+◌, ◌<◌, ◌≤◌, List, [], ◌∷◌, ◌++◌, drop, length, slice_index_or, slice_get, Some, None, refl, ap, sym, ◌∙◌}
use Rattle.std.specs.Prelude.{⊤}
use Rattle.std.proofs.lemmas.List.{append-nil, drop_more, drop_all}
use Rattle.rsx_sources.specs.Prelude.{Note, Nothing, Picks, Ended, Ending, Open, Done, Failed, Signal, Next, note_then, Stream, item_then, items_then, incoming_of, ended_or}
use Rattle.rsx_queued.specs.declared.output.Output.{Output}
use Rattle.rsx_queued.specs.declared.output.Output.TheVariants.{Empty, Waiting}
use Rattle.rsx_values.specs.Concat.{value_then}
use Rattle.rsx_queued.specs.Values.{head_of, tail_of, value_at}
use Rattle.rsx_merging.specs.Concat.{concat_left, concat_of}
use Rattle.rsx_queued.proofs.Values.{value_there, value_missing, tail_drop, some_at}
use Rattle.rsx_values.proofs.Behind.{goes_on, stops, stream_is}

-- ---- one input

-- the value that comes in there was copied
pub copied_value : {T : Type 0} (old new : List T) (vs : List (Stream T)) (k : ℕ) (v : Stream T) (x e : Ending) → x ≡ Open → Some v ≡ slice_get vs k → new ≡ old ++ v.items → e ≡ v.ending → ◌≡◌ {A = Stream T} (record { items = new; ending = e }) (items_then old (ended_or x (value_at vs k)))
copied_value old new vs k v x e o at put ends = rw (o, value_there vs k v at) (stream_is new (old ++ v.items) e v.ending put ends)

-- nothing comes in there
pub copied_none : {T : Type 0} (old : List T) (vs : List (Stream T)) (k : ℕ) (x : Ending) → x ≡ Open → None ≡ slice_get vs k → ◌≡◌ {A = Stream T} (record { items = old; ending = Open }) (items_then old (ended_or x (value_at vs k)))
copied_none old vs k x o at = rw (o, value_missing vs k at) (stream_is old (old ++ []) Open Open (sym (append-nil old)) refl)

first_left : {T : Type 0} (x : Ending) (es : List Ending) (vs : List (Stream T)) → concat_left (x ∷ es) vs ≡ value_then (ended_or x (head_of vs)) (concat_left es (tail_of vs))
first_left Open es vs = refl
first_left Done es vs = refl
first_left (Failed c) es vs = refl

left_from : {T : Type 0} (es : List Ending) (vs : List (Stream T)) (k : ℕ) (x : Ending) → k < length es → x ≡ slice_index_or es k x →
    concat_left (drop k es) (drop k vs) ≡ value_then (ended_or x (value_at vs k)) (concat_left (drop (k + 1) es) (drop (k + 1) vs))
left_from es vs k x lt at =
    ap (λ l. concat_left l (drop k vs)) (drop_more es k x lt ∙ ap (λ z. z ∷ drop (k + 1) es) (sym at))
    ∙ (first_left x (drop (k + 1) es) (drop k vs) ∙ ap (λ l. value_then (ended_or x (value_at vs k)) (concat_left (drop (k + 1) es) l)) (tail_drop vs k))

-- ---- the loop

pub one_more : {T : Type 0} (es : List Ending) (vs : List (Stream T)) (k : ℕ) (old new : List T) (e : Ending) (whole : Stream T) → k < length es → ((x : Ending) → x ≡ slice_index_or es k x → ◌≡◌ {A = Stream T} (record { items = new; ending = e }) (items_then old (ended_or x (value_at vs k)))) → e ≡ Done →
    items_then old (concat_left (drop k es) (drop k vs)) ≡ whole → items_then new (concat_left (drop (k + 1) es) (drop (k + 1) vs)) ≡ whole
one_more es vs k old new e whole lt copied d h =
    let x = some_at es k lt in
    goes_on old new e (ended_or x.0 (value_at vs k)) (concat_left (drop (k + 1) es) (drop (k + 1) vs)) (copied x.0 x.1) d ∙ (ap (items_then old) (sym (left_from es vs k x.0 lt x.1)) ∙ h)

pub stops_here : {T : Type 0} (es : List Ending) (vs : List (Stream T)) (k : ℕ) (old new : List T) (e : Ending) (v whole : Stream T) → k < length es → ((x : Ending) → x ≡ slice_index_or es k x → ◌≡◌ {A = Stream T} (record { items = new; ending = e }) (items_then old (ended_or x (value_at vs k)))) → (e ≡ Done → ⊥) →
    items_then old (concat_left (drop k es) (drop k vs)) ≡ whole → v.items ≡ new → v.ending ≡ e → v ≡ whole
stops_here es vs k old new e v whole lt copied n h items ending =
    let x = some_at es k lt in
    stream_is v.items new v.ending e items ending ∙ (stops old new e (ended_or x.0 (value_at vs k)) (concat_left (drop (k + 1) es) (drop (k + 1) vs)) (copied x.0 x.1) n ∙ (ap (items_then old) (sym (left_from es vs k x.0 lt x.1)) ∙ h))

pub all_done : {T : Type 0} (es : List Ending) (vs : List (Stream T)) (k : ℕ) (old : List T) (v whole : Stream T) → length es ≤ k → items_then old (concat_left (drop k es) (drop k vs)) ≡ whole → v.items ≡ old → v.ending ≡ Done → v ≡ whole
all_done es vs k old v whole le h items ending =
    stream_is v.items (old ++ []) v.ending Done (items ∙ sym (append-nil old)) ending ∙ (ap (λ l. items_then old (concat_left l (drop k vs))) (sym (drop_all k es le)) ∙ h)

-- ---- the whole

padded : {T : Type 0} (hubs : List (Stream T)) (es : List Ending) (vs : List (Stream T)) → concat_left es ((incoming_of hubs vs).first ∷ (incoming_of hubs vs).others) ≡ concat_left es vs
padded hubs [] vs = refl
padded hubs (Open ∷ es) [] = refl
padded hubs (Done ∷ es) [] = refl
padded hubs (Failed c ∷ es) [] = refl
padded hubs (Open ∷ es) (v ∷ vs) = refl
padded hubs (Done ∷ es) (v ∷ vs) = refl
padded hubs (Failed c ∷ es) (v ∷ vs) = refl

-- what still comes out where nothing waits
pub owed_empty : {T : Type 0} (out : Output T) (es : List Ending) (vs : List (Stream T)) (items : List T) (v : Stream T) → out ≡ Empty → items ≡ [] → v ≡ items_then items (concat_left es vs) →
    (hubs : List (Stream T)) (further : Note) → ⊤ → note_then Nothing further ≡ Nothing → concat_of out es (incoming_of hubs vs) further ≡ Some v
owed_empty out es vs items v empty none is hubs Nothing b e = rw (empty, is, none) (ap Some (padded hubs es vs))
owed_empty out es vs items v empty none is hubs (Picks cs) b e = cc
owed_empty out es vs items v empty none is hubs (Ended o) b e = cc

-- and where an item does
pub owed_item : {T : Type 0} (out : Output T) (s : Signal T) (x y : T) (es : List Ending) (vs : List (Stream T)) (items : List T) (v : Stream T) → out ≡ Waiting s → s ≡ Next x → y ≡ x → items ≡ y ∷ [] → v ≡ items_then items (concat_left es vs) →
    (hubs : List (Stream T)) (further : Note) → ⊤ → note_then Nothing further ≡ Nothing → concat_of out es (incoming_of hubs vs) further ≡ Some v
owed_item out s x y es vs items v waits next copied one is hubs Nothing b e = rw (waits, next, is, one, copied) (ap (λ w. Some (item_then x w)) (padded hubs es vs))
owed_item out s x y es vs items v waits next copied one is hubs (Picks cs) b e = cc
owed_item out s x y es vs items v waits next copied one is hubs (Ended o) b e = cc
