-- The numbers of a range, one after another.
use Rattle.std.proofs.Common.{◌≡◌, ℕ, suc, ◌+◌, ◌-◌, ◌<◌, ℤ, pos, ◌+ℤ◌, List, [], ◌∷◌, ◌++◌, refl, sym, ap, ◌∙◌, arith, append_assoc}
use Rattle.rsx_types.specs.Meaning.{Meaning}
use Rattle.rsx_sources.specs.Range.{range_from}

pub range_next : {T : Type 0} (m : Meaning T) (first : ℤ) (at count : ℕ) → at < count → range_from m first at count ≡ m.number (first +ℤ pos at) ∷ range_from m first (at + 1) count
range_next m first at count h =
    let e : count - at ≡ suc (count - (at + 1)) = omega arith in
    rw e refl

-- one more item was made
pub makes_next : {T : Type 0} (m : Meaning T) (first : ℤ) (at count : ℕ) (made made' all : List T) → at < count → made' ≡ made ++ m.number (first +ℤ pos at) ∷ [] → made ++ range_from m first at count ≡ all → made' ++ range_from m first (at + 1) count ≡ all
makes_next m first at count made made' all h e i =
    rw (e, append_assoc) (ap (λ r. made ++ r) (sym (range_next m first at count h)) ∙ i)
