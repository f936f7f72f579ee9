-- What still comes out of a `groupBy`, computed over copies.
use Rattle.std.proofs.Common.{◌≡◌, ℕ, true, false, List, [], ◌∷◌, ◌++◌, Some, refl, ap, sym, ◌∙◌}
use Rattle.std.specs.Prelude.{⊤}
use Rattle.rsx_sources.specs.Prelude.{Note, Picks, Ending, Done, Stage, Meaning, note_then, Stream, ended_by, signals, incoming_of, head_of}
use Rattle.rsx_values.specs.Prelude.{merge_inputs, InputLeft, keyed_items, main_input}
use Rattle.rsx_values.specs.declared.limits.TheConstants.{MAIN}
use Rattle.rsx_queued.proofs.Merged.{none_chosen}
use Rattle.rsx_queued.specs.Prelude.{merge_behind, output_then}
use Rattle.rsx_sources.proofs.Incomings.{first_in}
use Rattle.rsx_grouping.proofs.Copies.{lanes_apart}
use Rattle.rsx_grouping.specs.Rows.{keys_of}
use Rattle.rsx_grouping.specs.Table.{lanes_left}
use Rattle.rsx_grouping.specs.declared.table.KeyedLane.{KeyedLane}
use Rattle.rsx_grouping.specs.GroupBy.{keyed_left, main_left, lanes_and_main, inputs_left, group_comes_out}
use Rattle.rsx_grouping.specs.MainState.{is_taken, items_before, ending_behind}
use Rattle.rsx_grouping.specs.declared.main_state.MainState.{MainState}
use Rattle.rsx_grouping.specs.declared.main_state.MainState.TheVariants.{Coming, Completed, Failing, Taken}
use Rattle.rsx_grouping.specs.declared.node.GroupByNode.{GroupByNode}

-- ---- what still comes in with its keys

keyed_same : {T : Type 0} (m : Meaning T) (f : ℕ) (ks : List ℕ) (main : MainState) (v : Stream T) → keyed_items (m.keyed f) ks (items_before main v.items) (ending_behind main v.ending) ≡ keyed_left m f ks main v
keyed_same m f ks Coming v = refl
keyed_same m f ks Completed v = refl
keyed_same m f ks (Failing c) v = refl
keyed_same m f ks Taken v = refl

keyed_is : {T : Type 0} (m : Meaning T) (f : ℕ) (ks : List ℕ) (main : MainState) (v : Stream T) (firsts items : List T) (last e : Ending) (w : Stream (ℕ × T)) → firsts ≡ v.items → last ≡ v.ending → items ≡ items_before main firsts → e ≡ ending_behind main last →
    w ≡ keyed_items (m.keyed f) ks items e → w ≡ keyed_left m f ks main v
keyed_is m f ks main v firsts items last e w first end is ending keyed =
    keyed ∙ ap (λ xs. keyed_items (m.keyed f) ks xs e) (is ∙ ap (items_before main) first) ∙ ap (keyed_items (m.keyed f) ks (items_before main v.items)) (ending ∙ ap (ending_behind main) end) ∙ keyed_same m f ks main v

-- ---- the inputs of the merge

taken_left : {T : Type 0} (main : MainState) (e : Ending) → is_taken main ≡ true → main_left {T = T} main e ≡ []
taken_left Coming e h = cc
taken_left Completed e h = cc
taken_left (Failing c) e h = cc
taken_left Taken e h = refl

still_left : {T : Type 0} (main : MainState) (e : Ending) → is_taken main ≡ false → main_left {T = T} main e ≡ main_input e
still_left Coming e h = refl
still_left Completed e h = refl
still_left (Failing c) e h = refl
still_left Taken e h = cc

main_pushed : {T : Type 0} (is all : List (InputLeft T)) (i : InputLeft T) (v : Stream T) (xs : List T) (e : Ending) → xs ≡ [] → v.items ≡ xs → v.ending ≡ e → i ≡ (MAIN, signals v) → all ≡ is ++ i ∷ [] → all ≡ is ++ main_input e
main_pushed is all i v xs e none items ending here put =
    put ∙ ap (λ j. is ++ j ∷ []) (here ∙ (λ k. (MAIN, signals (record { items = (items ∙ none) k; ending = ending k }))))

-- where Main was picked
pub without_main : {T : Type 0} (m : Meaning T) (f : ℕ) (gs hs : List (Stage T)) (rows : List (KeyedLane T)) (main : MainState) (v : Stream T) (firsts items : List T) (last e : Ending) (w : Stream (ℕ × T)) (is : List (InputLeft T)) → firsts ≡ v.items → last ≡ v.ending → items ≡ items_before main firsts → e ≡ ending_behind main last →
    w ≡ keyed_items (m.keyed f) (keys_of rows) items e → hs ≡ gs → is ≡ lanes_left m hs rows w [] → is_taken main ≡ true → is ≡ inputs_left m f gs rows main v
without_main m f gs hs rows main v firsts items last e w is first end some ending keyed same lanes taken =
    lanes
    ∙ ap (λ l. lanes_left m l rows w []) same
    ∙ ap (lanes_left m gs rows w) (sym (taken_left main w.ending taken))
    ∙ ap (lanes_and_main m gs rows main) (keyed_is m f (keys_of rows) main v firsts items last e w first end some ending keyed)

-- and where it wasn't
pub with_main : {T : Type 0} (m : Meaning T) (f : ℕ) (gs hs : List (Stage T)) (rows : List (KeyedLane T)) (main : MainState) (v : Stream T) (firsts items : List T) (last e : Ending) (w : Stream (ℕ × T)) (is all : List (InputLeft T)) (i : InputLeft T) (u : Stream T) (xs : List T) → firsts ≡ v.items → last ≡ v.ending → items ≡ items_before main firsts → e ≡ ending_behind main last →
    w ≡ keyed_items (m.keyed f) (keys_of rows) items e → hs ≡ gs → is ≡ lanes_left m hs rows w [] → xs ≡ [] → u.items ≡ xs → u.ending ≡ w.ending → i ≡ (MAIN, signals u) → all ≡ is ++ i ∷ [] → is_taken main ≡ false → all ≡ inputs_left m f gs rows main v
with_main m f gs hs rows main v firsts items last e w is all i u xs first end some ending keyed same lanes none empty ends here put there =
    main_pushed is all i u xs w.ending none empty ends here put
    ∙ ap (λ l. l ++ main_input w.ending) (lanes ∙ ap (λ l. lanes_left m l rows w []) same)
    ∙ sym (lanes_apart m gs rows w (main_input w.ending))
    ∙ ap (lanes_left m gs rows w) (sym (still_left main w.ending there))
    ∙ ap (lanes_and_main m gs rows main) (keyed_is m f (keys_of rows) main v firsts items last e w first end some ending keyed)

-- ---- the value

-- where these choices are the last
pub rest_out : {T : Type 0} (m : Meaning T) (n : GroupByNode T) (cs : List ℕ) (vs : List (Stream T)) (rest v : Stream T) → merge_inputs [] (inputs_left m n.function n.stages.items n.table n.main (head_of vs)) ≡ Some rest → output_then n.output (Some rest) (Some (ended_by Done)) ≡ Some v →
    (hubs : List (Stream T)) (further : Note) → ⊤ → note_then (Picks cs) further ≡ Picks cs → group_comes_out m n (incoming_of hubs vs) further ≡ Some v
rest_out m n cs vs rest v is gives hubs further behind none =
    ap (λ w. merge_behind n.output (inputs_left m n.function n.stages.items n.table n.main w) further) (first_in hubs vs) ∙ none_chosen n.output (inputs_left m n.function n.stages.items n.table n.main (head_of vs)) cs rest v is gives further none
