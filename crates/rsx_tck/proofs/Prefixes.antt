-- The first events of a trace, one by one.
use Rattle.std.proofs.Common.{◌≡◌, ℕ, suc, ◌+◌, ◌<◌, List, [], ◌∷◌, ◌++◌, length, take, get_or, sym, subst, ◌∙◌, ap, add-one}
use Rattle.std.proofs.Math.Seq.{take-suc}
use borrow.Author.Count.{below_more}
use Rattle.rsx_tck.specs.declared.event.Stamped.{Stamped}
use Rattle.rsx_tck.specs.Passes.{KeepsThrough}

-- what holds of the events read and one more holds of one more of the first events
pub longer : (P : List Stamped → Type 0) (t : List Stamped) (i : ℕ) (d : Stamped) → i < length t →
    P (take i t ++ get_or t i d ∷ []) → P (take (i + 1) t)
longer P t i d lt h = subst P (sym (ap (λ n. take n t) (add-one i) ∙ take-suc t i d lt)) h

pub shorter : (P : List Stamped → Type 0) (t : List Stamped) (i : ℕ) (d : Stamped) → i < length t →
    P (take (suc i) t) → P (take i t ++ get_or t i d ∷ [])
shorter P t i d lt h = subst P (take-suc t i d lt) h

pub through-more : (P : List Stamped → Type 0) (t : List Stamped) (i : ℕ) → KeepsThrough P t i →
    P (take (i + 1) t) → KeepsThrough P t (i + 1)
through-more P t i through h =
    below_more (λ j. P (take (suc j) t)) i through (subst P (ap (λ n. take n t) (add-one i)) h)

-- one event more: what is known and kept of the events read and that one
pub going-on : {S : Type 0} (knows : S → List Stamped → Type 0) (keeps : List Stamped → Type 0) (t : List Stamped) (i : ℕ) (d : Stamped)
    (state state' : S) → i < length t → KeepsThrough keeps t i → state' ≡ state →
    knows state (take i t ++ get_or t i d ∷ []) × keeps (take i t ++ get_or t i d ∷ []) →
    knows state' (take (i + 1) t) × keeps (take (i + 1) t) × KeepsThrough keeps t (i + 1)
going-on knows keeps t i d state state' lt through same (known, kept) = (
  longer (knows state') t i d lt (subst (λ x. knows x (take i t ++ get_or t i d ∷ [])) (sym same) known),
  longer keeps t i d lt kept,
  through-more keeps t i through (longer keeps t i d lt kept),
)
