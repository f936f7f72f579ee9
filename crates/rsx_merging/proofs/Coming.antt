-- What an item, or an ending, that comes in is of the lanes that still come.
use Rattle.std.proofs.Common.{◌≡◌, ℕ, suc, List, ◌∷◌, Result, Ok, Err, refl, ap, sym, ◌∙◌}
use Rattle.rsx_sources.specs.Prelude.{Function, Ending, Open, Failed, Stage, Meaning, Stream, signals}
use Rattle.rsx_plain.specs.Emissions.{followed_by}
use Rattle.rsx_values.specs.Prelude.{expanded_items, list_then, main_input}
use Rattle.rsx_merging.specs.Coming.{through_chain, lane_answer, lanes_of}
use Rattle.rsx_values.proofs.Behind.{stream_is}
use Rattle.rsx_plain.proofs.Followed.{followed_ended}

stream_or : {T : Type 0} → Stream T → Result (Stream T) ℕ → Stream T
stream_or d (Ok v) = v
stream_or d (Err c) = d

fault_or : {T : Type 0} → ℕ → Result (Stream T) ℕ → ℕ
fault_or d (Ok v) = d
fault_or d (Err c) = c

-- the lane of an item stands in front of the others
pub lane_next : {T : Type 0} (m : Meaning T) (f : ℕ) (gs : List (Stage T)) (n : ℕ) (x : T) (xs : List T) (e : Ending) (v : Stream T) → lane_answer m f gs x ≡ Ok v →
    lanes_of m gs n (expanded_items (m.expanded f) (x ∷ xs) e) ≡ (n, signals v) ∷ lanes_of m gs (suc n) (expanded_items (m.expanded f) xs e)
unfolding stream_or
lane_next {T} m f gs n x xs e v = by_answer (m.expanded f x)
  where
    rest : Stream (List T)
    rest = expanded_items (m.expanded f) xs e

    by_answer : (r : Result (List T) ℕ) → through_chain m gs r ≡ Ok v → lanes_of m gs n (list_then r rest) ≡ (n, signals v) ∷ lanes_of m gs (suc n) rest
    by_answer (Ok ys) h = ap (λ w. (n, signals w) ∷ lanes_of m gs (suc n) rest) (ap (stream_or v) h)
    by_answer (Err c) h = cc

-- a fault of an expansion is the last that comes
pub lane_fault : {T : Type 0} (m : Meaning T) (f : ℕ) (gs : List (Stage T)) (n : ℕ) (x : T) (xs : List T) (e : Ending) (c : ℕ) → lane_answer m f gs x ≡ Err c →
    lanes_of m gs n (expanded_items (m.expanded f) (x ∷ xs) e) ≡ main_input (Failed (Function c))
unfolding fault_or
lane_fault {T} m f gs n x xs e c = by_answer (m.expanded f x)
  where
    rest : Stream (List T)
    rest = expanded_items (m.expanded f) xs e

    by_answer : (r : Result (List T) ℕ) → through_chain m gs r ≡ Err c → lanes_of m gs n (list_then r rest) ≡ main_input (Failed (Function c))
    by_answer (Ok ys) h = cc
    by_answer (Err d) h = ap (λ k. main_input (Failed (Function k))) (ap (fault_or c) h)

-- ---- the lane of a list

-- it was over from the start
pub chain_closed : {T : Type 0} (first rest whole : Stream T) (e : Ending) → first.ending ≡ e → (e ≡ Open → ⊥) → whole ≡ followed_by first rest → first ≡ whole
chain_closed first rest whole e o n is = stream_is first.items first.items first.ending e refl o ∙ sym (is ∙ followed_ended first rest e o n)
