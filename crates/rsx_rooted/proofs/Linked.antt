-- Two trees with a link between them, put together again.
use Rattle.std.proofs.Common.{◌≡◌, inl, inr, ℕ, ◌+◌, ◌-◌, ◌<◌, List, [], ◌∷◌, ◌++◌, refl, ap, sym, ◌∙◌, arith, Option, Some, None, option_map, slice_get}
use Rattle.std.proofs.lemmas.Bool.{cases_lt}
use Rattle.rsx_sources.specs.Prelude.{Meaning, Stream, ended_by, signal_then, signals_then, Open, Note, Nothing, Signal, incoming_of, published_at}
use Rattle.rsx_sources.specs.declared.machine.Machine.{Ghosts as Machine}
use Rattle.rsx_tree.specs.declared.inputs.Inputs.{Inputs, End, More'}
use Rattle.rsx_tree.specs.declared.node.Node.{Node}
use Rattle.rsx_tree.specs.Inputs.{size, comes_in, out_of, beside_of, through}
use Rattle.rsx_tree.specs.Tree.{comes_out}
use Rattle.rsx_tree.specs.Swapped.{put_at, with_sender}
use Rattle.rsx_rooted.specs.Splice.{IsSpliced}
use Rattle.rsx_rooted.specs.Flow.{AreFor, Holds, HoldsOver, ReadsLink, AreLinked, Fill, as_root}
use Rattle.rsx_rooted.proofs.Puts.{AreSame, same_in, same_choices, put_here, put_below, put_beside}

-- ---- signals in front

pub then_append : {T : Type 0} (xs ys : List (Signal T)) (v : Stream T) → signals_then (xs ++ ys) v ≡ signals_then xs (signals_then ys v)
then_append [] ys v = refl
then_append (x ∷ xs) ys v = ap (signal_then x) (then_append xs ys v)

-- ---- a node with signals in front of it

held_through : {M T : Type 0} (b : Machine M T) (m : Meaning T) (hubs : List (Stream T)) (x n : M) (q : List (Signal T)) → Holds b m x q n → (o : Option (List (Stream T))) (k : Note) → through b m hubs x o k ≡ option_map (signals_then q) (through b m hubs n o k)
held_through b m hubs x n q h None k = refl
held_through b m hubs x n q h (Some vs) k = h.out (incoming_of hubs vs) k

pub held_out : {M T : Type 0} (b : Machine M T) (m : Meaning T) (hubs : List (Stream T)) (x n : M) (q : List (Signal T)) → Holds b m x q n → (o : Option (List (Stream T))) (k : Option Note) → out_of b m hubs x o k ≡ option_map (signals_then q) (out_of b m hubs n o k)
held_out b m hubs x n q h o None = refl
held_out b m hubs x n q h o (Some k) = held_through b m hubs x n q h o k

-- so does the tree with it at its root
pub holds_over : {M T : Type 0} (b : Machine M T) (m : Meaning T) (x : M) (q : List (Signal T)) (t : Node M) → Holds b m x q t.machine → HoldsOver b m x q t
holds_over b m x q t h = record { out = λ hubs g. held_out b m hubs x t.machine q h (comes_in b m hubs g t.inputs (0 + 1)) (slice_get g 0); recorded = h.recorded }

-- ---- what comes out of the tree at the number c of another

lower_out : {M T : Type 0} (b : Machine M T) (m : Meaning T) (hubs : List (Stream T)) (f g : List Note) (c : ℕ) (low : Node M) → ((i : ℕ) → i < size low.inputs + 1 → slice_get f (c + i) ≡ slice_get g i) →
    out_of b m hubs low.machine (comes_in b m hubs f low.inputs (c + 1)) (slice_get f c) ≡ comes_out b m hubs g low 0
lower_out b m hubs f g c low h =
    let here : slice_get f c ≡ slice_get g 0 = ap (λ i. slice_get f i) (plus_none c) ∙ h 0 (omega arith) in
    let row : comes_in b m hubs f low.inputs (c + 1) ≡ comes_in b m hubs g low.inputs (0 + 1) = same_choices b m hubs f g low.inputs (c + 1) (0 + 1) (λ i l. ap (λ j. slice_get f j) (shift c i) ∙ (h (i + 1) (omega (arith, l)) ∙ ap (λ j. slice_get g j) (back i))) in
    ap (λ o. out_of b m hubs low.machine o (slice_get f c)) row ∙ ap (λ k. out_of b m hubs low.machine (comes_in b m hubs g low.inputs (0 + 1)) k) here
  where
    plus_none : (k : ℕ) → k ≡ k + 0
    plus_none k = omega arith

    shift : (k i : ℕ) → k + 1 + i ≡ k + (i + 1)
    shift k i = omega arith

    back : (i : ℕ) → i + 1 ≡ 0 + 1 + i
    back i = omega arith

-- ---- trees

same_tree : {M T : Type 0} (b : Machine M T) (m : Meaning T) (hubs : List (Stream T)) (f g : List Note) (x y : M) (xs ys : Inputs M) (t : Node M) (at : ℕ) → at < size t.inputs → AreSame b m hubs f g (0 + 1 + at) x y xs ys → comes_out b m hubs f (with_sender at x xs t) 0 ≡ comes_out b m hubs g (with_sender at y ys t) 0
same_tree b m hubs f g x y xs ys t at l k =
    ap (λ o. out_of b m hubs t.machine o (slice_get f 0)) (same_in b m hubs f g (0 + 1 + at) x y xs ys k t.inputs at (0 + 1) l refl)
    ∙ ap (λ n. out_of b m hubs t.machine (comes_in b m hubs g (put_at at y ys t.inputs) (0 + 1)) n) (k.before 0 (omega arith))

-- where nothing fits at one node, nothing does in all
beside_none : {A : Type 0} (o : Option A) → beside_of o None ≡ None
beside_none None = refl
beside_none (Some a) = refl

out_none : {M T : Type 0} (b : Machine M T) (m : Meaning T) (hubs : List (Stream T)) (n : M) (k : Option Note) → out_of b m hubs n None k ≡ None
out_none b m hubs n None = refl
out_none b m hubs n (Some k) = refl

none_in : {M T : Type 0} (b : Machine M T) (m : Meaning T) (hubs : List (Stream T)) (f : List Note) (c : ℕ) (x : M) (xs : Inputs M) → out_of b m hubs x (comes_in b m hubs f xs (c + 1)) (slice_get f c) ≡ None →
    (t : Inputs M) (at pos : ℕ) → at < size t → pos + at ≡ c → comes_in b m hubs f (put_at at x xs t) pos ≡ None
none_in b m hubs f c x xs none End at pos h is = absurd (omega (arith, h))
none_in {M} {T} b m hubs f c x xs none (More' e n p below q beside) at pos h is = elim (cases_lt 0 at) [
  | inr z ↦
      let here : at ≡ 0 = omega (arith, z) in
      let there : pos ≡ c = omega (arith, here, is) in
      ap (λ r. comes_in b m hubs f r pos) (put_here at x xs e n p q below beside here)
      ∙ (ap (λ j. comes_in b m hubs f (More' e x p xs q beside) j) there
      ∙ ap (λ o. beside_of o (comes_in b m hubs f beside (c + 1 + size xs))) none)
  | inl l ↦ elim (cases_lt (size below) at) [
    | inr w ↦
        let row = put_at (at - 1) x xs below in
        let low : comes_in b m hubs f row (pos + 1) ≡ None = none_in b m hubs f c x xs none below (at - 1) (pos + 1) (omega (arith, l, w)) (omega (arith, l, is)) in
        ap (λ r. comes_in b m hubs f r pos) (put_below at x xs e n p q below beside l w)
        ∙ (ap (λ o. beside_of (out_of b m hubs n o (slice_get f pos)) (comes_in b m hubs f beside (pos + 1 + size row))) low
        ∙ ap (λ o. beside_of o (comes_in b m hubs f beside (pos + 1 + size row))) (out_none b m hubs n (slice_get f pos)))
    | inl w ↦
        let row = put_at (at - 1 - size below) x xs beside in
        let side : comes_in b m hubs f row (pos + 1 + size below) ≡ None = none_in b m hubs f c x xs none beside (at - 1 - size below) (pos + 1 + size below) (omega (arith, w, h)) (omega (arith, w, is)) in
        ap (λ r. comes_in b m hubs f r pos) (put_beside at x xs e n p q below beside w)
        ∙ (ap (λ o. beside_of (out_of b m hubs n (comes_in b m hubs f below (pos + 1)) (slice_get f pos)) o) side
        ∙ beside_none (out_of b m hubs n (comes_in b m hubs f below (pos + 1)) (slice_get f pos)))
  ]
]

none_tree : {M T : Type 0} (b : Machine M T) (m : Meaning T) (hubs : List (Stream T)) (f : List Note) (x : M) (xs : Inputs M) (t : Node M) (at : ℕ) → at < size t.inputs → out_of b m hubs x (comes_in b m hubs f xs (0 + 1 + at + 1)) (slice_get f (0 + 1 + at)) ≡ None → comes_out b m hubs f (with_sender at x xs t) 0 ≡ None
none_tree b m hubs f x xs t at l none =
    ap (λ o. out_of b m hubs t.machine o (slice_get f 0)) (none_in b m hubs f (0 + 1 + at) x xs none t.inputs at (0 + 1) l refl) ∙ out_none b m hubs t.machine (slice_get f 0)

-- ---- a tree with another in the place of the node that reads a link

-- over values of which the link's is what the other tree gives, the joined tree gives what the one with the reader does
pub cut_same : {M T : Type 0} (b : Machine M T) (m : Meaning T) (hubs : List (Stream T)) (k at : ℕ) (upper low : Node M) (x leaf : M) (sent held : List (Signal T)) (whole above below : List Note) (v : Stream T) →
    at < size upper.inputs → HoldsOver b m x held low → ReadsLink b m k leaf sent held → IsSpliced (0 + 1 + at) (size low.inputs + 1) whole above below → slice_get above (0 + 1 + at) ≡ Some Nothing →
    comes_out b m hubs below low 0 ≡ Some v → published_at hubs k ≡ signals_then sent v →
    comes_out b m hubs whole (with_sender at x low.inputs upper) 0 ≡ comes_out b m hubs above (with_sender at leaf End upper) 0
cut_same {M} {T} b m hubs k at upper low x leaf sent held whole above below v there h r s nothing value published =
    same_tree b m hubs whole above x leaf low.inputs End upper at there (record {
      before = s.before;
      behind = λ i. ap (λ j. slice_get whole j) (wide (0 + 1 + at) (size low.inputs) i) ∙ (s.behind i ∙ ap (λ j. slice_get above j) (thin (0 + 1 + at) i));
      out =
          lower_out b m hubs whole below (0 + 1 + at) (as_root x low) s.inside
          ∙ (h.out hubs below ∙ ap (option_map (signals_then held)) value
          ∙ (sym (r.out hubs v published) ∙ ap (λ n. out_of b m hubs leaf (Some []) n) (sym nothing)));
    })
  where
    wide : (c n i : ℕ) → c + 1 + n + i ≡ c + (n + 1) + i
    wide c n i = omega arith

    thin : (c i : ℕ) → c + 1 + i ≡ c + 1 + 0 + i
    thin c i = omega arith

-- and where the other gives nothing, nothing comes out
pub cut_none : {M T : Type 0} (b : Machine M T) (m : Meaning T) (hubs : List (Stream T)) (at : ℕ) (upper low : Node M) (x : M) (held : List (Signal T)) (whole above below : List Note) →
    at < size upper.inputs → HoldsOver b m x held low → IsSpliced (0 + 1 + at) (size low.inputs + 1) whole above below → comes_out b m hubs below low 0 ≡ None →
    comes_out b m hubs whole (with_sender at x low.inputs upper) 0 ≡ None
cut_none b m hubs at upper low x held whole above below there h s value =
    none_tree b m hubs whole x low.inputs upper at there
    (lower_out b m hubs whole below (0 + 1 + at) (as_root x low) s.inside ∙ (h.out hubs below ∙ ap (option_map (signals_then held)) value))

-- ---- two regions with a link

-- whatever moves were made in either region, the trees joined again give what the first whole gave, without what went out
pub joined_value : {M T : Type 0} (b : Machine M T) (m : Meaning T) (FitsUpper FitsLower : List (Stream T) → Type 0) (k at : ℕ) (upper upper' lower lower' : Node M) (leaf leaf' x x' : M) (queued held out went : List (Signal T)) →
    (l : AreLinked b m FitsUpper FitsLower k at upper upper' lower lower' leaf leaf' queued held out went) →
    HoldsOver b m x queued lower → HoldsOver b m x' held lower' →
    (whole whole' above below : List Note) →
    IsSpliced (0 + 1 + at) (size lower.inputs + 1) whole (l.above.choose above) (l.below.choose below) → slice_get (l.above.choose above) (0 + 1 + at) ≡ Some Nothing →
    IsSpliced (0 + 1 + at) (size lower'.inputs + 1) whole' above below → slice_get above (0 + 1 + at) ≡ Some Nothing →
    AreFor b (with_sender at leaf' End upper') above → AreFor b lower' below →
    (hubs : List (Stream T)) →
    ((v : Stream T) → Fill b m FitsUpper FitsLower k hubs (signals_then (queued ++ out) v) (with_sender at x lower.inputs upper) (with_sender at x' lower'.inputs upper') lower') →
    comes_out b m hubs whole (with_sender at x lower.inputs upper) 0 ≡ option_map (signals_then went) (comes_out b m hubs whole' (with_sender at x' lower'.inputs upper') 0)
joined_value {M} {T} b m FitsUpper FitsLower k at upper upper' lower lower' leaf leaf' x x' queued held out went l h h' whole whole' above below s nothing s' nothing' many few hubs fill = by_value (comes_out b m hubs below lower' 0) refl
  where
    by_value : (o : Option (Stream T)) → comes_out b m hubs below lower' 0 ≡ o → comes_out b m hubs whole (with_sender at x lower.inputs upper) 0 ≡ option_map (signals_then went) (comes_out b m hubs whole' (with_sender at x' lower'.inputs upper') 0)
    by_value None e =
        let n = fill (ended_by Open) in
        let now : comes_out b m n.others below lower' 0 ≡ None = sym (n.same_below below) ∙ e in
        n.same whole
        ∙ (cut_none b m n.others at upper lower x queued whole (l.above.choose above) (l.below.choose below) l.there h s (l.below.value n.others below n.fits_below few ∙ ap (option_map (signals_then out)) now)
        ∙ ap (option_map (signals_then went)) (sym (n.same' whole' ∙ cut_none b m n.others at upper' lower' x' held whole' above below l.there' h' s' now)))
    by_value (Some v) e =
        let n = fill v in
        let others = n.others in
        let now : comes_out b m others below lower' 0 ≡ Some v = sym (n.same_below below) ∙ e in
        let first : comes_out b m others (l.below.choose below) lower 0 ≡ Some (signals_then out v) = l.below.value others below n.fits_below few ∙ ap (option_map (signals_then out)) now in
        n.same whole
        ∙ (cut_same b m others k at upper lower x leaf queued queued whole (l.above.choose above) (l.below.choose below) (signals_then out v) l.there h l.leaf_is s nothing first (n.link ∙ then_append queued out v)
        ∙ (l.above.value others above n.fits_above many
        ∙ ap (option_map (signals_then went)) (sym (n.same' whole' ∙ cut_same b m others k at upper' lower' x' leaf' (queued ++ out) held whole' above below v l.there' h' l.leaf_is' s' nothing' now n.link))))
