-- Lists in which one element stands for several others.
use Rattle.std.proofs.Common.{◌≡◌, ℕ, zero, suc, ◌+◌, ◌<◌, ◌≤◌, List, [], ◌∷◌, ◌++◌, length, length-append, drop, refl, ap, sym, ◌∙◌, arith, append_assoc, Some, slice_get, get_or}
use Rattle.std.proofs.lemmas.List.{length-drop, length-take-le, take-append-drop}
use Rattle.std.proofs.lemmas.Option.{slice_get-get_or}
use Rattle.std.proofs.Math.Nat.{zero-add}
use Rattle.rsx_sources.specs.Prelude.{note_then, notes_then, Note, Nothing, Picks, Ended}
use Rattle.rsx_tree.proofs.Noted.{get_left, get_right}
use Rattle.rsx_rooted.specs.Splice.{IsSpliced, splice, folded, lifted}

-- ---- cut, and spliced again

pub splice_back : {A : Type 0} (c many : ℕ) (x : A) (ws : List A) → c + many ≤ length ws → splice c (lifted c many ws) (folded c many x ws) ≡ ws
splice_back zero many x ws h = take-append-drop many ws
splice_back (suc c) many x [] h = absurd (omega arith)
splice_back (suc c) many x (w ∷ ws) h = ap (λ l. w ∷ l) (splice_back c many x ws (omega arith))

pub lifted_length : {A : Type 0} (c many : ℕ) (ws : List A) → c + many ≤ length ws → length (lifted c many ws) ≡ many
lifted_length c many ws h = let r = length-drop c ws in length-take-le many (drop c ws) (omega (arith, r))

pub folded_length : {A : Type 0} (c many : ℕ) (x : A) (ws : List A) → c + many ≤ length ws → length (folded c many x ws) + many ≡ length ws + 1
folded_length zero many x ws h = let r = length-drop many ws in omega (arith, r)
folded_length (suc c) many x [] h = absurd (omega arith)
folded_length (suc c) many x (w ∷ ws) h = let r = folded_length c many x ws (omega arith) in omega (arith, r)

pub folded_at : {A : Type 0} (c many : ℕ) (x : A) (ws : List A) → c ≤ length ws → slice_get (folded c many x ws) c ≡ Some x
folded_at zero many x ws h = refl
folded_at (suc c) many x [] h = absurd (omega arith)
folded_at (suc c) many x (w ∷ ws) h = folded_at c many x ws (omega arith)

pub splice_length : {A : Type 0} (c : ℕ) (low up : List A) → c < length up → length (splice c low up) + 1 ≡ length up + length low
splice_length c low [] h = absurd (omega arith)
splice_length zero low (u ∷ us) h = let r = length-append low us in omega (arith, r)
splice_length (suc c) low (u ∷ us) h = let r = splice_length c low us (omega arith) in omega (arith, r)

-- ---- elements

suc_plus : (c i : ℕ) → suc c + i ≡ suc (c + i)
suc_plus c i = omega arith

one_plus : (i : ℕ) → 0 + 1 + i ≡ suc i
one_plus i = omega arith

-- an element of a list with one in front
get_after : {A : Type 0} (x : A) (xs : List A) (i j : ℕ) → j ≡ suc i → slice_get (x ∷ xs) j ≡ slice_get xs i
get_after x xs i j e = ap (λ k. slice_get (x ∷ xs) k) e

pub spliced : (c many : ℕ) (low up : List Note) → length low ≡ many → c < length up → IsSpliced c many (splice c low up) up low
spliced c many low [] len h = absurd (omega (arith, h))
spliced zero many low (u ∷ us) len h = record {
  before = λ i l. absurd (omega (arith, l));
  inside = λ i l. ap (λ k. slice_get (low ++ us) k) (zero-add i) ∙ get_left i low us (omega (arith, l, len));
  behind = λ i. ap (λ k. slice_get (low ++ us) k) (place many i) ∙ (ap (λ n. slice_get (low ++ us) (n + i)) (sym len) ∙ (get_right i low us ∙ sym (get_after u us i (0 + 1 + i) (one_plus i))));
}
  where
    place : (k i : ℕ) → 0 + k + i ≡ k + i
    place k i = omega arith
spliced (suc c) many low (u ∷ us) len h =
    let r = spliced c many low us len (omega arith) in
    record {
      before = first u us (splice c low us) r.before;
      inside = λ i l. get_after u (splice c low us) (c + i) (suc c + i) (suc_plus c i) ∙ r.inside i l;
      behind = λ i. get_after u (splice c low us) (c + many + i) (suc c + many + i) (far c many i) ∙ (r.behind i ∙ sym (get_after u us (c + 1 + i) (suc c + 1 + i) (far c 1 i)));
    }
  where
    first : {c : ℕ} (u : Note) (us vs : List Note) → ((i : ℕ) → i < c → slice_get vs i ≡ slice_get us i) → (i : ℕ) → i < suc c → slice_get (u ∷ vs) i ≡ slice_get (u ∷ us) i
    first u us vs h zero l = refl
    first u us vs h (suc i) l = h i (omega arith)

    far : (c n i : ℕ) → suc c + n + i ≡ suc (c + n + i)
    far c n i = omega arith

-- ---- splices of what is appended

pub splice_left : {A : Type 0} (c : ℕ) (low xs ys : List A) → c < length xs → splice c low (xs ++ ys) ≡ splice c low xs ++ ys
splice_left c low [] ys h = absurd (omega arith)
splice_left zero low (x ∷ xs) ys h = sym (append_assoc low xs ys)
splice_left (suc c) low (x ∷ xs) ys h = ap (λ l. x ∷ l) (splice_left c low xs ys (omega arith))

pub splice_right : {A : Type 0} (c : ℕ) (low xs ys : List A) → splice (length xs + c) low (xs ++ ys) ≡ xs ++ splice c low ys
splice_right c low [] ys = ap (λ k. splice k low ys) (zero-add c)
splice_right c low (x ∷ xs) ys = ap (λ k. splice k low (x ∷ (xs ++ ys))) (suc_plus (length xs) c) ∙ ap (λ l. x ∷ l) (splice_right c low xs ys)

-- ---- notes

notes_append : (ns ks ms ls : List Note) → length ns ≡ length ks → notes_then (ns ++ ms) (ks ++ ls) ≡ notes_then ns ks ++ notes_then ms ls
notes_append [] [] ms ls h = refl
notes_append [] (k ∷ ks) ms ls h = absurd (omega arith)
notes_append (n ∷ ns) [] ms ls h = absurd (omega arith)
notes_append (n ∷ ns) (k ∷ ks) ms ls h = ap (λ l. note_then n k ∷ l) (notes_append ns ks ms ls (omega arith))

pub notes_splice : (c : ℕ) (ns ms ks ls : List Note) → length ns ≡ length ks → length ms ≡ length ls → notes_then (splice c ns ms) (splice c ks ls) ≡ splice c (notes_then ns ks) (notes_then ms ls)
notes_splice c ns [] ks [] h g = refl
notes_splice c ns [] ks (l ∷ ls) h g = absurd (omega arith)
notes_splice c ns (m ∷ ms) ks [] h g = absurd (omega arith)
notes_splice zero ns (m ∷ ms) ks (l ∷ ls) h g = notes_append ns ks ms ls h
notes_splice (suc c) ns (m ∷ ms) ks (l ∷ ls) h g = ap (λ x. note_then m l ∷ x) (notes_splice c ns ms ks ls h (omega arith))

notes_at : (i : ℕ) (ns ks : List Note) (n k : Note) → slice_get ns i ≡ Some n → slice_get ks i ≡ Some k → slice_get (notes_then ns ks) i ≡ Some (note_then n k)
notes_at i [] ks n k h g = cc
notes_at i (x ∷ ns) [] n k h g = cc
notes_at zero (x ∷ ns) (y ∷ ks) n k h g = let a : x ≡ n = cc in let e : y ≡ k = cc in ap (λ z. Some (note_then z y)) a ∙ ap (λ z. Some (note_then n z)) e
notes_at (suc i) (x ∷ ns) (y ∷ ks) n k h g = notes_at i ns ks n k h g

-- a node that records nothing chose nothing
pub still_nothing : (i : ℕ) (ns ms ks ls : List Note) → slice_get ns i ≡ Some Nothing → slice_get ms i ≡ Some Nothing → slice_get ks i ≡ Some Nothing → i < length ls → notes_then ns ks ≡ notes_then ms ls → slice_get ls i ≡ Some Nothing
still_nothing i ns ms ks ls n m k l e =
    let x = get_or ls i Nothing in
    let there : slice_get ls i ≡ Some x = slice_get-get_or ls i Nothing l in
    let was : Some Nothing ≡ Some (note_then Nothing x) = sym (notes_at i ns ks Nothing Nothing n k) ∙ (ap (λ z. slice_get z i) e ∙ notes_at i ms ls Nothing x m there) in
    there ∙ (ap Some (sym (nothing_then x)) ∙ sym was)
  where
    nothing_then : (k : Note) → note_then Nothing k ≡ k
    nothing_then Nothing = refl
    nothing_then (Picks cs) = refl
    nothing_then (Ended o) = refl
