-- The choices of a merge of lanes that delays failures, one by one.
use Rattle.std.proofs.Common.{◌≡◌, ℕ, ◌+◌, List, [], ◌∷◌, ◌++◌, drop, Option, Some, None, option_map, refl, ap, sym, ◌∙◌, append_assoc}
use Rattle.std.proofs.lemmas.List.{append-nil}
use Rattle.rsx_sources.specs.Prelude.{Cause, Signal, Next, Complete, Error, Stream, item_then}
use Rattle.rsx_values.specs.Pick.{InputLeft, next_of}
use Rattle.rsx_delayed.proofs.Choices.{delayed_step}
use Rattle.rsx_delayed.proofs.FlatLeft.{behind_items}
use Rattle.rsx_values.specs.Delayed.{first_cause, merge_delayed_inputs, taken_first}
use Rattle.rsx_delayed.specs.FlatDelayed.{item_of, kept_after}

one_item : {T : Type 0} (xs : List T) (x : T) (o : Option (Stream T)) → behind_items (xs ++ x ∷ []) o ≡ behind_items xs (option_map (item_then x) o)
one_item xs x None = refl
one_item {T} xs x (Some v) = let at : List T → Option (Stream T) = λ l. Some (record { items = l; ending = v.ending }) in ap at (append_assoc xs (x ∷ []) v.items)

-- the signal stands behind the items before it
one_signal : {T : Type 0} (xs : List T) (s : Signal T) (kept : Option Cause) (cs : List ℕ) (js : List (InputLeft T)) → behind_items (xs ++ item_of s) (merge_delayed_inputs (kept_after s kept) cs js) ≡ behind_items xs (taken_first s kept cs js)
one_signal xs (Next x) kept cs js = one_item xs x (merge_delayed_inputs kept cs js)
one_signal xs Complete kept cs js = ap (λ l. behind_items l (merge_delayed_inputs kept cs js)) (append-nil xs)
one_signal xs (Error c) kept cs js = ap (λ l. behind_items l (merge_delayed_inputs (first_cause kept c) cs js)) (append-nil xs)

-- the choice at place k took it
pub signal_taken : {T : Type 0} (es : List ℕ) (k c : ℕ) (is js : List (InputLeft T)) (kept now : Option Cause) (xs new : List T) (s : Signal T) (whole : Option (Stream T)) → drop k es ≡ c ∷ drop (k + 1) es → next_of c is ≡ Some (s, js) → new ≡ xs ++ item_of s → now ≡ kept_after s kept →
    behind_items xs (merge_delayed_inputs kept (drop k es) is) ≡ whole → behind_items new (merge_delayed_inputs now (drop (k + 1) es) js) ≡ whole
signal_taken es k c is js kept now xs new s whole more next pushed first h =
    ap (λ l. behind_items l (merge_delayed_inputs now (drop (k + 1) es) js)) pushed
    ∙ ap (λ z. behind_items (xs ++ item_of s) (merge_delayed_inputs z (drop (k + 1) es) js)) first
    ∙ one_signal xs s kept (drop (k + 1) es) js
    ∙ ap (behind_items xs) (sym (ap (λ ds. merge_delayed_inputs kept ds is) more ∙ delayed_step c (drop (k + 1) es) is js s kept next)) ∙ h
