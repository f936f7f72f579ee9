-- What still comes out, copied part by part.
use Rattle.std.proofs.Common.{◌≡◌, ℕ, zero, suc, ◌-◌, ◌<◌, ◌≤◌, List, [], ◌∷◌, ◌++◌, take, drop, length, Some, refl, ap, sym, ◌∙◌, arith, append_assoc}
use Rattle.std.specs.Prelude.{⊤}
use Rattle.rsx_sources.specs.Prelude.{Note, Nothing, Picks, Ended, Ending, Open, Done, Signal, Stage, Meaning, note_then, chained, taken_items, Stream, item_then, items_then, signals_then, incoming_of, head_of}
use Rattle.rsx_values.specs.Prelude.{value_then, window}
use Rattle.rsx_plain.specs.Emissions.{followed_by}
use Rattle.rsx_sources.proofs.Incomings.{first_in}
use Rattle.rsx_window.specs.Cut.{window_rest, window_left}
use Rattle.rsx_window.specs.Window.{windows_of}
use Rattle.rsx_window.specs.declared.current.CurrentWindow.{CurrentWindow}
use Rattle.rsx_window.proofs.Cuts.{window_first}
use Rattle.rsx_values.proofs.Behind.{goes_on, stops, stream_is}
use Rattle.rsx_plain.proofs.Followed.{followed_ended}

-- ---- the items of one window

pub whole_part : {T : Type 0} (k : ℕ) (xs : List T) (e : Ending) → length xs ≤ k → ◌≡◌ {A = Stream T} (record { items = take (suc k) xs; ending = e }) (taken_items (suc k) xs e)
whole_part k [] e h = refl
whole_part zero (x ∷ xs) e h = absurd (omega arith)
whole_part (suc k) (x ∷ xs) e h = ap (item_then x) (whole_part k xs e (omega arith))

pub full_part : {T : Type 0} (k : ℕ) (xs : List T) (e : Ending) → k < length xs → ◌≡◌ {A = Stream T} (record { items = take (suc k) xs; ending = Done }) (taken_items (suc k) xs e)
full_part k [] e h = absurd (omega arith)
full_part zero (x ∷ xs) e h = refl
full_part (suc k) (x ∷ xs) e h = ap (item_then x) (full_part k xs e (omega arith))

-- they were copied
pub copied_first : {T : Type 0} (k : ℕ) (xs : List T) (e : Ending) (none copies part : List T) (f : Ending) (first : Stream T) → none ≡ [] → copies ≡ none ++ part → part ≡ take (suc k) xs → ◌≡◌ {A = Stream T} (record { items = take (suc k) xs; ending = f }) (window_rest (suc k) (record { items = xs; ending = e })) →
    first.items ≡ copies → first.ending ≡ f → first ≡ window_rest (suc k) (record { items = xs; ending = e })
copied_first k xs e none copies part f first empty put is whole items ending =
    stream_is first.items (take (suc k) xs) first.ending f (items ∙ (put ∙ rw (empty, is) refl)) ending ∙ whole

-- ---- a new chain

-- what came out at its start, and what came out of it then
pub chain_open : {T : Type 0} (old mid : List T) (first x whole r : Stream T) (e : Ending) → mid ≡ old ++ first.items → e ≡ first.ending → e ≡ Open → whole ≡ followed_by first x → r ≡ items_then mid x → r ≡ items_then old whole
chain_open old mid first x whole r e put ends o is h =
    let open_first : first.ending ≡ Open = sym ends ∙ o in
    h ∙ (ap (λ l. items_then l x) put ∙ (stream_is ((old ++ first.items) ++ x.items) (old ++ (first.items ++ x.items)) x.ending x.ending (append_assoc old first.items x.items) refl ∙ ap (items_then old) (sym (is ∙ rw open_first refl))))

-- it was over from the start
pub chain_ended : {T : Type 0} (old mid : List T) (first x whole : Stream T) (e : Ending) → mid ≡ old ++ first.items → e ≡ first.ending → (e ≡ Open → ⊥) → whole ≡ followed_by first x → ◌≡◌ {A = Stream T} (record { items = mid; ending = e }) (items_then old whole)
chain_ended old mid first x whole e put ends n is = stream_is mid (old ++ first.items) e e put refl ∙ ap (items_then old) (sym (is ∙ followed_ended first x e (sym ends) n))

-- ---- windows one behind the other

-- the first of them, of items that are left
cut_first : {T : Type 0} (m : Meaning T) (n : ℕ) (gs : List (Stage T)) (xs : List T) (e : Ending) → 0 < length xs →
    window m n gs (record { items = xs; ending = e }) ≡ value_then (chained m gs (window_rest (suc (n - 1)) (record { items = xs; ending = e }))) (window m n gs (record { items = drop (suc (n - 1)) xs; ending = e }))
cut_first m n gs [] e h = absurd (omega arith)
cut_first m n gs (x ∷ xs) e h = window_first m n gs x (record { items = xs; ending = e })

-- it completed, and the next one follows
pub next_window : {T : Type 0} (m : Meaning T) (n : ℕ) (gs : List (Stage T)) (more : ℕ) (left then : List T) (e last : Ending) (first : Stream T) (old new : List T) (whole : Stream T) → more ≡ n - 1 → 0 < length left → then ≡ drop (suc more) left →
    first ≡ window_rest (suc more) (record { items = left; ending = e }) → ◌≡◌ {A = Stream T} (record { items = new; ending = last }) (items_then old (chained m gs first)) → last ≡ Done →
    items_then old (window m n gs (record { items = left; ending = e })) ≡ whole → items_then new (window m n gs (record { items = then; ending = e })) ≡ whole
next_window m n gs more left then e last first old new whole size some is part put done h =
    let here : items_then new (window m n gs (record { items = then; ending = e })) ≡ items_then old (value_then (chained m gs first) (window m n gs (record { items = then; ending = e }))) = goes_on old new last (chained m gs first) (window m n gs (record { items = then; ending = e })) put done in
    here ∙ (rw (is, part, size) (ap (items_then old) (sym (cut_first m n gs left e some))) ∙ h)

-- it did not complete, so nothing follows
pub last_window_out : {T : Type 0} (m : Meaning T) (n : ℕ) (gs : List (Stage T)) (more : ℕ) (left : List T) (e last : Ending) (first : Stream T) (old new : List T) (whole : Stream T) → more ≡ n - 1 → 0 < length left →
    first ≡ window_rest (suc more) (record { items = left; ending = e }) → ◌≡◌ {A = Stream T} (record { items = new; ending = last }) (items_then old (chained m gs first)) → (last ≡ Done → ⊥) →
    items_then old (window m n gs (record { items = left; ending = e })) ≡ whole → ◌≡◌ {A = Stream T} (record { items = new; ending = last }) whole
last_window_out m n gs more left e last first old new whole size some part put not_done h =
    stops old new last (chained m gs first) (window m n gs (record { items = drop (suc (n - 1)) left; ending = e })) put not_done ∙ (rw (part, size) (ap (items_then old) (sym (cut_first m n gs left e some))) ∙ h)

-- ---- the whole

pub owed : {T : Type 0} (m : Meaning T) (size : ℕ) (gs : List (Stage T)) (waits : List (Signal T)) (current : CurrentWindow T) (incoming : List (Stream T)) (xs none out : List T) (e last : Ending) (w v : Stream T) →
    xs ≡ (head_of incoming).items → e ≡ (head_of incoming).ending → none ≡ [] → ◌≡◌ {A = Stream T} (record { items = out; ending = last }) (items_then none (window_left m size gs current (record { items = xs; ending = e }))) →
    w.items ≡ out → w.ending ≡ last → v ≡ signals_then waits w →
    (hubs : List (Stream T)) (further : Note) → ⊤ → note_then Nothing further ≡ Nothing → windows_of m size gs waits current (incoming_of hubs incoming) further ≡ Some v
owed {T} m size gs waits current incoming xs none out e last w v items ends empty left o l is hubs Nothing b f =
    let v_in : ◌≡◌ {A = Stream T} (record { items = xs; ending = e }) (head_of incoming) = stream_is xs (head_of incoming).items e (head_of incoming).ending items ends in
    let w_is : w ≡ window_left m size gs current (head_of incoming) = stream_is w.items out w.ending last o l ∙ (left ∙ (ap (λ z. items_then z (window_left m size gs current (record { items = xs; ending = e }))) empty ∙ ap (window_left m size gs current) v_in)) in
    ap Some (ap (λ z. signals_then waits (window_left m size gs current z)) (first_in hubs incoming) ∙ (ap (signals_then waits) (sym w_is) ∙ sym is))
owed m size gs waits current incoming xs none out e last w v items ends empty left o l is hubs (Picks cs) b f = cc
owed m size gs waits current incoming xs none out e last w v items ends empty left o l is hubs (Ended n) b f = cc
