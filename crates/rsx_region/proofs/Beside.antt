-- What stands of the links that come into a piece, where another node with inputs takes the place of one that reads none of them.
use Rattle.std.proofs.Common.{◌≡◌, inl, inr, ℕ, zero, suc, ◌+◌, ◌-◌, ◌<◌, Bool, true, false, nat_eq, if◌then◌else◌, List, [], ◌∷◌, ◌++◌, length, refl, ap, sym, ◌∙◌, subst, arith, Option, Some, None, slice_get}
use Rattle.std.proofs.lemmas.Bool.{cases_lt}
use Rattle.std.proofs.lemmas.Bool.Decides.{nat_tests}
use Rattle.std.specs.List.{AllByRecursion}
use Rattle.std.specs.Option.{option_or}
use Rattle.rsx_sources.specs.Prelude.{Reading, Stream, reads_hub}
use Rattle.rsx_sources.specs.declared.machine.Machine.{Ghosts as Machine}
use Rattle.rsx_tree.specs.Handed.{reader_edge_in}
use Rattle.rsx_tree.specs.Inputs.{size}
use Rattle.rsx_tree.specs.Reads.{readings, row_readings}
use Rattle.rsx_tree.specs.Swapped.{put_at}
use Rattle.rsx_tree.specs.declared.inputs.Inputs.{Inputs, End, More'}
use Rattle.rsx_tree.specs.declared.node.Node.{Node}
use Rattle.rsx_pipe.specs.Cutting.{Place, place_at, sender_at, with_node}
use Rattle.rsx_pipe.specs.Part.{Part}
use Rattle.rsx_pipe.specs.Published.{reader_edge}
use Rattle.rsx_link.specs.Ends.{carried_down, received_signals}
use Rattle.rsx_link.specs.Signals.{items_in}
use Rattle.rsx_link.specs.declared.cancel.CancelSeat.{CancelSeat}
use Rattle.rsx_link.specs.declared.down.Down.{Down}
use Rattle.rsx_rooted.proofs.Puts.{put_below, put_beside, put_here}
use Rattle.rsx_rooted.specs.Local.{AllOf}
use Rattle.rsx_rooted.specs.Splice.{splice}
use Rattle.rsx_region.specs.Inlet.{HaveBegun, HaveReached, IsBegunAt, IsReachedAt, LinkStands, NoneReads, OneReads}
use Rattle.rsx_region.proofs.CutParts.{readings_put}
use Rattle.rsx_region.proofs.EdgePlaces.{place_below, same_some, sender_below, sender_beside, sender_here, with_below}
use Rattle.rsx_region.proofs.Rejoining.{place_is}
use Rattle.rsx_region.proofs.Spliced.{length_readings}

-- ---- who reads a hub

pub eq_true : (x y : ℕ) → nat_eq x y ≡ true → x ≡ y
eq_true x y h = grind (arith, nat_tests, h)

pub apart_false : (x y : ℕ) → (x ≡ y → ⊥) → nat_eq x y ≡ false
apart_false x y apart = of (nat_eq x y) refl
  where
    of : (c : Bool) → nat_eq x y ≡ c → nat_eq x y ≡ false
    of true e = absurd (apart (eq_true x y e))
    of false e = e

pub none_free : (h : ℕ) (rs : List (Option Reading)) → AllOf (λ i. i ≡ h → ⊥) rs → NoneReads h rs
none_free h [] a = tt
none_free h (None ∷ rs) a = (refl, none_free h rs a.1)
none_free h (Some r ∷ rs) a = (apart_false r.hub h a.0, none_free h rs a.1)

pub reached_free : (h count : ℕ) (rs : List (Option Reading)) → AllOf (λ i. i ≡ h → ⊥) rs → HaveReached h count rs
reached_free h count [] a = tt
reached_free h count (None ∷ rs) a = (tt, reached_free h count rs a.1)
reached_free h count (Some r ∷ rs) a = (λ e. absurd (a.0 e), reached_free h count rs a.1)

pub begun_free : (h before : ℕ) (rs : List (Option Reading)) → AllOf (λ i. i ≡ h → ⊥) rs → HaveBegun h before rs
begun_free h before [] a = tt
begun_free h before (None ∷ rs) a = (tt, begun_free h before rs a.1)
begun_free h before (Some r ∷ rs) a = (λ e. absurd (a.0 e), begun_free h before rs a.1)

none_append : (h : ℕ) (low us : List (Option Reading)) → NoneReads h low → NoneReads h us → NoneReads h (low ++ us)
none_append h [] us n k = k
none_append h (r ∷ low) us n k = (n.0, none_append h low us n.1 k)

none_spliced : (h c : ℕ) (low rs : List (Option Reading)) → NoneReads h low → NoneReads h rs → NoneReads h (splice c low rs)
none_spliced h c low [] n k = n
none_spliced h zero low (u ∷ us) n k = none_append h low us n k.1
none_spliced h (suc c) low (u ∷ us) n k = (k.0, none_spliced h c low us n k.1)

one_append : (h : ℕ) (low us : List (Option Reading)) → NoneReads h low → OneReads h us → OneReads h (low ++ us)
one_append h [] us n o = o
one_append h (r ∷ low) us n o = inr (n.0, one_append h low us n.1 o)

one_spliced : (h c : ℕ) (low rs : List (Option Reading)) (r : Option Reading) → slice_get rs c ≡ Some r → reads_hub h r ≡ false → NoneReads h low → OneReads h rs → OneReads h (splice c low rs)
one_spliced h c low [] r at apart n o = cc
one_spliced h zero low (u ∷ us) r at apart n o = elim o [
  | inl y ↦
      let same : u ≡ r = same_some _ _ at in
      let both : true ≡ false = sym y.0 ∙ (ap (reads_hub h) same ∙ apart) in cc
  | inr y ↦ one_append h low us n y.1
]
one_spliced h (suc c) low (u ∷ us) r at apart n o = elim o [
  | inl y ↦ inl (y.0, none_spliced h c low us n y.1)
  | inr y ↦ inr (y.0, one_spliced h c low us r at apart n y.1)
]

each_append : {A : Type 0} (P : A → Type 0) (low us : List A) → AllByRecursion P low → AllByRecursion P us → AllByRecursion P (low ++ us)
each_append P [] us a k = k
each_append P (r ∷ low) us a k = (a.0, each_append P low us a.1 k)

each_spliced : {A : Type 0} (P : A → Type 0) (c : ℕ) (low rs : List A) → AllByRecursion P low → AllByRecursion P rs → AllByRecursion P (splice c low rs)
each_spliced P c low [] a k = a
each_spliced P zero low (u ∷ us) a k = each_append P low us a k.1
each_spliced P (suc c) low (u ∷ us) a k = (k.0, each_spliced P c low us a k.1)

-- ---- what stands at a place

get_left : {A : Type 0} (xs ys : List A) (i : ℕ) → i < length xs → slice_get (xs ++ ys) i ≡ slice_get xs i
get_left [] ys i w = absurd (omega (arith, w))
get_left (x ∷ xs) ys zero w = refl
get_left (x ∷ xs) ys (suc i) w = get_left xs ys i (omega (arith, w))

get_right : {A : Type 0} (xs ys : List A) (i : ℕ) → slice_get (xs ++ ys) (length xs + i) ≡ slice_get ys i
get_right [] ys i = ap (slice_get ys) (let e : 0 + i ≡ i = omega arith in e)
get_right (x ∷ xs) ys i = ap (slice_get (x ∷ (xs ++ ys))) (let e : suc (length xs) + i ≡ suc (length xs + i) = omega arith in e) ∙ get_right xs ys i

row_at : {M T : Type 0} (b : Machine M T) (t : Inputs M) (at : ℕ) (k : Place M) → sender_at at t ≡ Some k → slice_get (row_readings b t) at ≡ Some (b.reads k.node)
row_at b End at k place = cc
row_at {M} b (More' e n p below q beside) at k place =
    let rb = row_readings b below in
    let rs = row_readings b beside in
    let all = b.reads n ∷ (rb ++ rs) in
    let size_is = length_readings b below in
    elim (cases_lt 0 at) [
      | inr z ↦
          let here : at ≡ 0 = omega (arith, z) in
          let node : record { node = n; below = below } ≡ k = same_some _ _ (sym (sender_here at e n p q below beside here) ∙ place) in
          ap (slice_get all) here ∙ ap (λ (x : Place M). Some (b.reads x.node)) node
      | inl l ↦
          let next : at ≡ suc (at - 1) = omega (arith, l) in
          elim (cases_lt (size below) at) [
            | inr w ↦
                let within : at - 1 < length rb = omega (arith, l, w, size_is) in
                ap (slice_get all) next ∙ (get_left rb rs (at - 1) within ∙ row_at b below (at - 1) k (sym (sender_below at e n p q below beside l w) ∙ place))
            | inl w ↦
                let far : at - 1 ≡ length rb + (at - 1 - size below) = omega (arith, l, w, size_is) in
                ap (slice_get all) next ∙ (ap (slice_get (rb ++ rs)) far ∙ (get_right rb rs (at - 1 - size below) ∙ row_at b beside (at - 1 - size below) k (sym (sender_beside at e n p q below beside w) ∙ place)))
          ]
    ]

-- what the node at a place below the root reads
pub read_there : {M T : Type 0} (b : Machine M T) (t : Node M) (at : ℕ) (k : Place M) → 0 < at → place_at at t ≡ Some k → slice_get (readings b t) at ≡ Some (b.reads k.node)
read_there b t at k pos place =
    let next : at ≡ suc (at - 1) = omega (arith, pos) in
    ap (slice_get (readings b t)) next ∙ row_at b t.inputs (at - 1) k (sym (place_below at t pos) ∙ place)

-- ---- the edge of a reader

pub row_edge_put : {M T : Type 0} (b : Machine M T) (h : ℕ) (x : M) (xs t : Inputs M) (at : ℕ) (k : Place M) → sender_at at t ≡ Some k → k.below ≡ End → reads_hub h (b.reads k.node) ≡ false → reads_hub h (b.reads x) ≡ false → reader_edge_in b h xs ≡ None → reader_edge_in b h (put_at at x xs t) ≡ reader_edge_in b h t
row_edge_put b h x xs End at k place alone apart none rows = cc
row_edge_put {M} b h x xs (More' e n p below q beside) at k place alone apart none rows =
    let other = reader_edge_in b h beside in
    elim (cases_lt 0 at) [
      | inr z ↦
          let here : at ≡ 0 = omega (arith, z) in
          let node : record { node = n; below = below } ≡ k = same_some _ _ (sym (sender_here at e n p q below beside here) ∙ place) in
          let row_is : below ≡ End = ap (λ (y : Place M). y.below) node ∙ alone in
          let reads_n : reads_hub h (b.reads n) ≡ false = ap (λ (y : Place M). reads_hub h (b.reads y.node)) node ∙ apart in
          ap (reader_edge_in b h) (put_here at x xs e n p q below beside here)
          ∙ (ap (λ c. if c then Some e else option_or (reader_edge_in b h xs) other) none
          ∙ (ap (λ o. option_or o other) rows
          ∙ sym (ap (λ c. if c then Some e else option_or (reader_edge_in b h below) other) reads_n ∙ ap (λ r. option_or (reader_edge_in b h r) other) row_is)))
      | inl l ↦ elim (cases_lt (size below) at) [
        | inr w ↦
            ap (reader_edge_in b h) (put_below at x xs e n p q below beside l w)
            ∙ ap (λ o. if reads_hub h (b.reads n) then Some e else option_or o other) (row_edge_put b h x xs below (at - 1) k (sym (sender_below at e n p q below beside l w) ∙ place) alone apart none rows)
        | inl w ↦
            ap (reader_edge_in b h) (put_beside at x xs e n p q below beside w)
            ∙ ap (λ o. if reads_hub h (b.reads n) then Some e else option_or (reader_edge_in b h below) o) (row_edge_put b h x xs beside (at - 1 - size below) k (sym (sender_beside at e n p q below beside w) ∙ place) alone apart none rows)
      ]
    ]

none_parts : (h : ℕ) (xs ys : List (Option Reading)) → NoneReads h (xs ++ ys) → NoneReads h xs × NoneReads h ys
none_parts h [] ys n = (tt, n)
none_parts h (x ∷ xs) ys n = let k = none_parts h xs ys n.1 in ((n.0, k.0), k.1)

pub none_edge : {M T : Type 0} (b : Machine M T) (h : ℕ) (t : Inputs M) → NoneReads h (row_readings b t) → reader_edge_in b h t ≡ None
none_edge b h End n = refl
none_edge b h (More' e n p below q beside) k =
    let parts = none_parts h (row_readings b below) (row_readings b beside) k.1 in
    ap (λ c. if c then Some e else option_or (reader_edge_in b h below) (reader_edge_in b h beside)) k.0
    ∙ (ap (λ o. option_or o (reader_edge_in b h beside)) (none_edge b h below parts.0) ∙ none_edge b h beside parts.1)

-- ---- a link that comes in beside

abbrev put_over : {M : Type 0} → ℕ → M → Inputs M → Part M → Part M
put_over at x xs p = record p { tree = with_node at x xs p.tree }

pub beside_stands : {M T : Type 0} (b : Machine M T) (taken taken' : List (Stream T)) (p : Part M) (at : ℕ) (x : M) (xs : Inputs M) (k : Place M) (h : ℕ) (d : Down T) (c : CancelSeat) → 0 < at → place_at at p.tree ≡ Some k → k.below ≡ End → reads_hub h (b.reads k.node) ≡ false →
    AllOf (λ i. i ≡ h → ⊥) (b.reads x ∷ row_readings b xs) → slice_get taken' h ≡ slice_get taken h → LinkStands b taken p h d c → LinkStands b taken' (put_over at x xs p) h d c
beside_stands {M} b taken taken' p at x xs k h d c pos place alone apart free same st =
    let is = place_is at k p.tree place in
    let low = b.reads x ∷ row_readings b xs in
    let leaf : p.tree ≡ with_node at k.node End p.tree = is.1 ∙ ap (λ r. with_node at k.node r p.tree) alone in
    let reads : readings b (with_node at x xs p.tree) ≡ splice at low (readings b p.tree) = readings_put b at x k.node xs p.tree is.0 ∙ ap (λ t. splice at low (readings b t)) (sym leaf) in
    let none = none_free h low free in
    let got = items_in (received_signals d) in
    let O : List (Option Reading) → Type 0 = λ l. OneReads h l in
    let R : List (Option Reading) → Type 0 = λ l. HaveReached h got l in
    let B : List (Option Reading) → Type 0 = λ l. HaveBegun h (carried_down d) l in
    let edge : reader_edge b h (put_over at x xs p) ≡ reader_edge b h p =
    ap (λ (t : Node M). if reads_hub h (b.reads t.machine) then Some p.root else reader_edge_in b h t.inputs) (with_below at x xs p.tree pos)
    ∙ ap (λ o. if reads_hub h (b.reads p.tree.machine) then Some p.root else o) (row_edge_put b h x xs p.tree.inputs (at - 1) k (sym (place_below at p.tree pos) ∙ place) alone apart none.0 (none_edge b h xs none.1)) in
    record {
      came = same ∙ st.came;
      one = subst O (sym reads) (one_spliced h at low (readings b p.tree) (b.reads k.node) (read_there b p.tree at k pos place) apart none st.one);
      reached = subst R (sym reads) (each_spliced (IsReachedAt h got) at low (readings b p.tree) (reached_free h got low free) st.reached);
      began = subst B (sym reads) (each_spliced (IsBegunAt h (carried_down d)) at low (readings b p.tree) (begun_free h (carried_down d) low free) st.began);
      asked = λ e e_is. st.asked e (sym edge ∙ e_is);
      cancelled = λ e e_is many. st.cancelled e (sym edge ∙ e_is) many;
    }
