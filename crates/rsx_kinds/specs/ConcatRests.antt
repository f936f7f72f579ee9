-- Nothing comes out of a concat where nothing more comes in at the input whose turn it is.
use Rattle.std.proofs.Common.{◌≡◌, ℕ, ◌<◌, ◌&&◌, Bool, false, true, nat_eq, List, [], ◌∷◌, slice_get, Some, None, refl, ap, sym, ◌∙◌, arith}
use Rattle.std.proofs.lemmas.Bool.Decides.{nat_tests}
use Rattle.rsx_sources.specs.Prelude.{Nothing, Ending, Open, Done, Failed, Meaning, Stream, ended_by, AreWithin, Incoming}
use Rattle.rsx_sources.proofs.Hungry.{wants_input}
use Rattle.rsx_sources.specs.declared.machine.Front.TheVariants.{Item}
use Rattle.rsx_queued.specs.Prelude.{empty_of, tail_of}
use Rattle.rsx_queued.proofs.Outputs.{empty_then}
use Rattle.rsx_values.specs.Concat.{value_then}
use Rattle.rsx_merging.specs.Concat.{IsInTurn, concat_comes_out, concat_done, concat_ended, concat_left, concat_takes, concat_waiting, concat_wanted, turn}
use Rattle.rsx_merging.specs.ConcatLaws.{concat_hungry, turn_open}
use Rattle.rsx_merging.specs.declared.concat_node.ConcatNode.{ConcatNode}
use Rattle.rsx_kinds.specs.QueuesRests.{coming_behind, first_coming}
use Rattle.rsx_tree.specs.Rests.{NothingComes, coming}

-- an item is taken only of the input whose turn it is
in_turn : (a b : Bool) (i k : ℕ) → a && (b && nat_eq i k) ≡ true → i ≡ k
in_turn true true i k e = grind (arith, nat_tests)
in_turn true false i k e = cc
in_turn false b i k e = cc

-- nothing comes where that input is open and has nothing
left_none : {T : Type 0} (es : List Ending) (vs : List (Stream T)) → slice_get es (turn es) ≡ Some Open → coming vs (turn es) ≡ ended_by Open → concat_left es vs ≡ ended_by Open
left_none [] vs o e = cc
left_none (Open ∷ es) vs o e = ap (λ v. value_then v (concat_left es (tail_of vs))) (sym (first_coming vs) ∙ e)
left_none (Done ∷ es) vs o e = left_none es (tail_of vs) o (sym (coming_behind vs (turn es)) ∙ e)
left_none (Failed c ∷ es) vs o e = cc

pub concat_rests : {T : Type 0} (m : Meaning T) (n : ConcatNode T) (taken : List ℕ) (asked sent : ℕ) (inc : Incoming T) → concat_ended n ≡ false → IsInTurn n taken sent → concat_waiting m n ≡ None → sent < asked → AreWithin taken →
    NothingComes concat_takes concat_done concat_wanted n taken asked sent (inc.first ∷ inc.others) → concat_comes_out m n inc Nothing ≡ Some (ended_by Open)
concat_rests {T} m n taken asked sent inc still counted waits more within none =
    let k = wants_input concat_takes (λ k i a s. false) (λ k a s. false) concat_done concat_wanted (λ k. None) n taken asked sent (concat_hungry m n taken asked sent still counted waits more within) (λ i l. refl) refl refl in
    let mine : k.i ≡ turn n.endings.items = in_turn _ _ k.i (turn n.endings.items) (k.takes_any Item) in
    let nothing : coming (inc.first ∷ inc.others) (turn n.endings.items) ≡ ended_by Open = ap (coming (inc.first ∷ inc.others)) (sym mine) ∙ none k.i k.c k.at k.open_still k.takes_any k.wants in
    empty_then n.output (Some (concat_left n.endings.items (inc.first ∷ inc.others))) (Some (ended_by Done)) (empty_of n.output waits counted.not_over)
    ∙ ap Some (left_none n.endings.items (inc.first ∷ inc.others) (turn_open n.endings.items taken counted.before counted.mine counted.split) nothing)
