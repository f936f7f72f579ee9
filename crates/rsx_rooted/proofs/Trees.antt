-- The tree of a part: choices, and closed trees.
use Rattle.std.proofs.Common.{◌≡◌, inl, inr, ℕ, suc, ◌+◌, true, List, [], ◌∷◌, ◌++◌, length, length-append, map, refl, ap, sym, ◌∙◌, subst, arith, append_assoc, Option, Some, None}
use Rattle.std.proofs.lemmas.List.{append-nil, map-append}
use Rattle.rsx_types.proofs.Lists.{slice_get_behind}
use Rattle.rsx_sources.specs.Prelude.{Meaning, note_then, notes_then, unchosen, Note, Nothing, Picks, Ended}
use Rattle.rsx_sources.specs.declared.machine.Front.{Front}
use Rattle.rsx_sources.specs.declared.machine.Machine.{Ghosts as Machine}
use Rattle.rsx_tree.specs.declared.edge.EdgeState.TheVariants.{Live}
use Rattle.rsx_tree.specs.declared.inputs.Inputs.{Inputs, End, More'}
use Rattle.rsx_tree.specs.declared.node.Node.{Node}
use Rattle.rsx_tree.specs.Prelude.{EdgeView, IsUnchosen}
use Rattle.rsx_tree.specs.Inputs.{size, notes_of as notes_in, IsUnchosen as IsUnchosenIn}
use Rattle.rsx_tree.proofs.Shut.{pass_live}
use Rattle.rsx_tree.proofs.Shut as Shut
use Rattle.rsx_rooted.specs.Tree.{can_ask, can_send, can_go, notes, IsAllClosed, IsAdvanced}

-- ---- a closed tree

pub go_live : (e : EdgeView) (o : Option Front) → can_go e o ≡ true → e.state ≡ Live
go_live e None h = cc
go_live e (Some f) h = pass_live e f h

pub ask_not_closed : {M T : Type 0} (b : Machine M T) (t : Node M) (at asked sent : ℕ) → can_ask b t at asked sent ≡ true → IsAllClosed t → ⊥
ask_not_closed b t at asked sent e h = Shut.ask_not_closed b t at asked sent e h

pub send_not_closed : {M T : Type 0} (b : Machine M T) (m : Meaning T) (t : Node M) (at : ℕ) → can_send b m t at ≡ true → IsAllClosed t → ⊥
send_not_closed b m t at e h = Shut.send_not_closed b m t at e h

pub advanced_not_closed : {M T : Type 0} (b : Machine M T) (m : Meaning T) (old new : Node M) (asked sent : ℕ) → IsAdvanced b m old asked sent new → IsAllClosed old → ⊥
advanced_not_closed b m old new asked sent a h = elim a.made [
  | inl k ↦ ask_not_closed b old a.at asked sent k.0 h
  | inr y ↦ elim y [ inl k ↦ send_not_closed b m old a.at k.0 h | inr k ↦ Shut.step_not_closed b m old a.at new.inputs k.1.made h ]
]

-- ---- choices

pub unchosen_notes : (ns : List Note) → length (map unchosen ns) ≡ length ns
unchosen_notes [] = refl
unchosen_notes (n ∷ ns) = ap suc (unchosen_notes ns)

length_notes : {M T : Type 0} (b : Machine M T) (t : Inputs M) → length (notes_in b t) ≡ size t
length_notes b End = refl
length_notes b (More' e n p below q beside) =
    ap suc (length-append (notes_in b below) (notes_in b beside) ∙ (ap (λ k. k + length (notes_in b beside)) (length_notes b below) ∙ ap (λ k. size below + k) (length_notes b beside))) ∙ one_more (size below + size beside)
  where
    one_more : (k : ℕ) → suc k ≡ k + 1
    one_more k = omega arith

unchosen_row : {M T : Type 0} (b : Machine M T) (t : Inputs M) (before behind : List Note) → IsUnchosenIn b (before ++ (map unchosen (notes_in b t) ++ behind)) t (length before)
unchosen_row b End before behind = tt
unchosen_row {T = T} b (More' e n p below q beside) before behind =
    let k : Note = unchosen (b.recorded n) in
    let inside : List Note = map unchosen (notes_in b below) in
    let c : List Note = map unchosen (notes_in b beside) in
    let all : map unchosen (notes_in b below ++ notes_in b beside) ≡ inside ++ c = map-append unchosen (notes_in b below) (notes_in b beside) in
    let first : List Note = before ++ k ∷ [] in
    let longer : length first ≡ length before + 1 = length-append before (k ∷ []) in
    let through : length (first ++ inside) ≡ length before + 1 + size below = length-append first inside ∙ (ap (λ i. i + length inside) longer ∙ ap (λ i. length before + 1 + i) (unchosen_notes (notes_in b below) ∙ length_notes b below)) in
    let whole : before ++ (k ∷ (map unchosen (notes_in b below ++ notes_in b beside) ++ behind)) ≡ first ++ (inside ++ (c ++ behind)) =
    ap (λ l. before ++ (k ∷ (l ++ behind))) all ∙ (ap (λ l. before ++ (k ∷ l)) (append_assoc inside c behind) ∙ sym (append_assoc before (k ∷ []) (inside ++ (c ++ behind)))) in
    let P : List Note → Type 0 = λ l. IsUnchosenIn b l below (length before + 1) in
    let Q : List Note → Type 0 = λ l. IsUnchosenIn b l beside (length before + 1 + size below) in
    let A : ℕ → Type 0 = λ i. IsUnchosenIn b (first ++ (inside ++ (c ++ behind))) below i in
    let B : ℕ → Type 0 = λ i. IsUnchosenIn b ((first ++ inside) ++ (c ++ behind)) beside i in
    let under : IsUnchosenIn b (first ++ (inside ++ (c ++ behind))) below (length before + 1) = subst A longer (unchosen_row b below first (c ++ behind)) in
    let side : IsUnchosenIn b ((first ++ inside) ++ (c ++ behind)) beside (length before + 1 + size below) = subst B through (unchosen_row b beside (first ++ inside) behind) in
    (slice_get_behind before k (map unchosen (notes_in b below ++ notes_in b beside) ++ behind), subst P (sym whole) under, subst Q (sym whole) (subst Q (append_assoc first inside (c ++ behind)) side))

pub unchosen_tree : {M T : Type 0} (b : Machine M T) (t : Node M) → IsUnchosen b (map unchosen (notes b t)) t 0
unchosen_tree {T = T} b t =
    let k : Note = unchosen (b.recorded t.machine) in
    let ns : List Note = map unchosen (notes_in b t.inputs) in
    let P : List Note → Type 0 = λ l. IsUnchosenIn b (k ∷ l) t.inputs 1 in
    (refl, subst P (append-nil ns) (unchosen_row b t.inputs (k ∷ []) []))

pub note_then-unchosen : (n : Note) → note_then n (unchosen n) ≡ n
note_then-unchosen Nothing = refl
note_then-unchosen (Picks cs) = ap Picks (append-nil cs)
note_then-unchosen (Ended None) = refl
note_then-unchosen (Ended (Some i)) = refl

pub notes_then-unchosen : (ns : List Note) → notes_then ns (map unchosen ns) ≡ ns
notes_then-unchosen [] = refl
notes_then-unchosen (n ∷ ns) = rw (note_then-unchosen n) (ap (λ l. n ∷ l) (notes_then-unchosen ns))
