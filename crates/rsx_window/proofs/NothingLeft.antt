-- Nothing comes out of a `window` that goes on, and into which nothing more comes.
use Rattle.std.proofs.Common.{◌≡◌, ℕ, suc, List, [], ◌∷◌, slice_get, Some, None, refl, ap, ◌∙◌}
use Rattle.rsx_sources.specs.Prelude.{Nothing, Open, Signal, Stage, Meaning, Stream, ended_by, signals_then, Incoming}
use Rattle.rsx_values.specs.Prelude.{value_then, window}
use Rattle.rsx_window.specs.Cut.{behind, window_left, GoesOn}
use Rattle.rsx_window.specs.Window.{window_comes_out, window_waiting, CountsItems}
use Rattle.rsx_window.specs.declared.current.CurrentWindow.{CurrentWindow}
use Rattle.rsx_window.specs.declared.current.CurrentWindow.TheVariants.{Running, Passing, Over}
use Rattle.rsx_window.specs.declared.node.WindowNode.{WindowNode}
use Rattle.rsx_plain.proofs.Rests.{chain_rests}
use Rattle.rsx_window.proofs.Cuts.{nothing_behind}

left_rests : {T : Type 0} (m : Meaning T) (n : ℕ) (gs : List (Stage T)) (current : CurrentWindow T) → GoesOn current → window_left m n gs current (ended_by Open) ≡ ended_by Open
left_rests m n gs (Running c more) o = ap (λ z. value_then z (window m n gs (behind (suc more) (ended_by Open)))) (chain_rests m c o)
left_rests m n gs (Passing left) o = nothing_behind m n left gs Open
left_rests m n gs Over o = refl

none_waits : {A : Type 0} (xs : List A) → slice_get xs 0 ≡ None → xs ≡ []
none_waits [] e = refl
none_waits (x ∷ xs) e = cc

-- where no signal waits and nothing more comes in, nothing comes out
pub nothing_left : {T : Type 0} (m : Meaning T) (n : WindowNode T) (taken : List ℕ) (sent : ℕ) (inc : Incoming T) → CountsItems n taken sent → window_waiting m n ≡ None → inc.first ≡ ended_by Open → window_comes_out m n inc Nothing ≡ Some (ended_by Open)
nothing_left {T} m n taken sent inc counted waits none =
    let S : List (Signal T) → Stream T = λ l. signals_then l (window_left m n.size n.stages.items n.current inc.first) in
    ap Some (ap S (none_waits n.pending.left waits) ∙ (ap (window_left m n.size n.stages.items n.current) none ∙ left_rests m n.size n.stages.items n.current counted.goes_on))
