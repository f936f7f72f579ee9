-- Ranges with the same numbers.
use Rattle.std.proofs.Common.{◌≡◌, ℕ, ◌+◌, ◌<◌, ◌≤◌, ◌^◌, min, arith, ℤ, pos, ◌+ℤ◌, ◌≤ℤ◌, ap, sym, ◌∙◌, subst}
use Rattle.std.proofs.Math.Bridge.{le_prop}
use denote.Struct.Props.{props}
use Rattle.rsx_sources.specs.declared.range.RangeNode.{RangeNode}

fits_prop : (first : ℤ) (count : ℕ) → IsProp (0 < count → (first +ℤ pos count) ≤ℤ pos (2 ^ 63))
fits_prop first count = hlevel props

-- a range is what its numbers are: how its limits are known makes no difference
pub same_range : {T : Type 0} (a b : RangeNode T) → b.first ≡ a.first → b.count ≡ a.count → b.at ≡ a.at → b ≡ a
same_range {T} a b f c t =
    let P : ℤ → Type 0 = λ z. (k n : ℕ) (w : n ≤ k) (l : k ≤ 1000000) (u : 0 < k → (z +ℤ pos k) ≤ℤ pos (2 ^ 63)) → k ≡ a.count → n ≡ a.at → build z k n w l u ≡ a in
    let Q : ℕ → Type 0 = λ k. (n : ℕ) (w : n ≤ k) (l : k ≤ 1000000) (u : 0 < k → (a.first +ℤ pos k) ≤ℤ pos (2 ^ 63)) → n ≡ a.at → build a.first k n w l u ≡ a in
    let R : ℕ → Type 0 = λ n. (w : n ≤ a.count) (l : a.count ≤ 1000000) (u : 0 < a.count → (a.first +ℤ pos a.count) ≤ℤ pos (2 ^ 63)) → build a.first a.count n w l u ≡ a in
    subst P (sym f) (λ k n w l u x y. subst Q (sym x) (λ n w l u y. subst R (sym y) known w l u) n w l u y) b.count b.at b.within b.limited b.fits c t
  where
    build : (z : ℤ) (k n : ℕ) → n ≤ k → k ≤ 1000000 → (0 < k → (z +ℤ pos k) ≤ℤ pos (2 ^ 63)) → RangeNode T
    build z k n w l u = record { first = z; count = k; at = n; item = a.item; within = w; limited = l; fits = u }

    known : (w : a.at ≤ a.count) (l : a.count ≤ 1000000) (u : 0 < a.count → (a.first +ℤ pos a.count) ≤ℤ pos (2 ^ 63)) → build a.first a.count a.at w l u ≡ a
    known w l u =
        ap (λ x. build a.first a.count a.at x l u) (le_prop w a.within) ∙ (ap (λ x. build a.first a.count a.at a.within x u) (le_prop l a.limited) ∙ ap (λ x. build a.first a.count a.at a.within a.limited x) (fits_prop a.first a.count u a.fits))

-- it has come as far as the numbers that it gave are many
pub as_many_on : (at given made count now all : ℕ) → given ≡ made → now ≡ at + made → all ≡ count → now ≤ all → min (at + given) count ≡ now
as_many_on at given made count now all same on of within = omega (arith, same, on, of, within)
