-- Why a piece isn't cut.
use Rattle.std.proofs.Common.{◌≡◌, ℕ, suc, if◌then◌else◌, List, ◌∷◌, refl, ap, sym, ◌∙◌, subst, Some, None}
use Rattle.rsx_sources.specs.declared.machine.Machine.{Ghosts as Machine}
use Rattle.rsx_tree.specs.Handed.{reader_edge_in}
use Rattle.rsx_tree.specs.Reads.{readings}
use Rattle.rsx_tree.specs.declared.edge.Edge.{Edge}
use Rattle.rsx_pipe.specs.Part.{Part}
use Rattle.rsx_pipe.specs.Published.{reader_edge}
use Rattle.rsx_region.specs.Cuts.{NoneHasNumber, NoneReadsIn, ReadsNone}
use Rattle.rsx_region.specs.Pieces.{hub_of}
use Rattle.rsx_region.specs.declared.piece.Incoming.{Incoming}
use Rattle.rsx_region.proofs.Beside.{none_edge, none_free}

-- where the edge of a reader is found, a node reads it
pub read_somewhere : {M T : Type 0} (b : Machine M T) (h number : ℕ) (p : Part M) (e : Edge) → number ≡ h → reader_edge b number p ≡ Some e → NoneReadsIn b h p → ⊥
read_somewhere {M} {T} b h number p e same found free =
    let none = none_free h (readings b p.tree) free in
    let is : reader_edge b h p ≡ None = ap (λ c. if c then Some p.root else reader_edge_in b h p.tree.inputs) none.0 ∙ none_edge b h p.tree.inputs none.1 in
    let both : Some e ≡ None = sym found ∙ (ap (λ k. reader_edge b k p) same ∙ is) in cc

-- what is so of all is so of the first, and of the others
pub numbers_first : {T : Type 0} (h : ℕ) (all others : List (Incoming T)) (first : Incoming T) → all ≡ first ∷ others → NoneHasNumber h all → (hub_of first ≡ h → ⊥) × NoneHasNumber h others
numbers_first {T} h all others first is w =
    let N : List (Incoming T) → Type 0 = λ l. NoneHasNumber h l in
    let both : NoneHasNumber h (first ∷ others) = subst N is w in
    (both 0 first refl, λ k i at. both (suc k) i at)

pub reads_first : {M T : Type 0} (b : Machine M T) (part : Part M) (all others : List (Incoming T)) (first : Incoming T) → all ≡ first ∷ others → ReadsNone b all part → NoneReadsIn b (hub_of first) part × ReadsNone b others part
reads_first {M} {T} b part all others first is w =
    let N : List (Incoming T) → Type 0 = λ l. ReadsNone b l part in
    let both : ReadsNone b (first ∷ others) part = subst N is w in
    (both 0 first refl, λ k i at. both (suc k) i at)
