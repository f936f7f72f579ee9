-- What the nodes of a tree read, in which another node, with what is below it, sends over one of the edges.
use Rattle.std.proofs.Common.{◌≡◌, inl, inr, ℕ, zero, suc, ◌+◌, ◌-◌, ◌<◌, ◌≤◌, true, List, [], ◌∷◌, ◌++◌, length, length-append, refl, ap, sym, ◌∙◌, subst, arith, Option, Some, None, slice_get}
use Rattle.std.specs.Prelude.{⊤}
use Rattle.std.proofs.lemmas.Bool.{and_parts, cases_Bool, cases_lt}
use Rattle.rsx_sources.specs.Prelude.{Reading}
use Rattle.rsx_sources.specs.declared.machine.Machine.{Ghosts as Machine}
use Rattle.rsx_tree.specs.Edges.{is_live}
use Rattle.rsx_tree.specs.Inputs.{size}
use Rattle.rsx_tree.specs.Reads.{AllGoOn, IsReadAt, IsRowReadAt, row_readings}
use Rattle.rsx_tree.specs.Swapped.{put_at}
use Rattle.rsx_tree.specs.declared.inputs.Inputs.{Inputs, End, More'}
use Rattle.rsx_rooted.proofs.Locals.{reads_not_on}
use Rattle.rsx_rooted.proofs.Puts.{put_below, put_beside, put_here, size_least}
use Rattle.rsx_rooted.proofs.Splices.{splice_left, splice_right}
use Rattle.rsx_rooted.specs.Local.{AllOf, IsOf}
use Rattle.rsx_rooted.specs.Splice.{splice}
use Rattle.rsx_pipe.specs.Cutting.{Place, sender_at}
use Rattle.rsx_region.specs.Open.{is_row_live}
use Rattle.rsx_region.proofs.EdgePlaces.{both, live_below, live_beside, live_here, same_some, sender_below, sender_beside, sender_here}

-- ---- all but one

-- each but the one with this number
abbrev pub AllBut : (ℕ → Type 0) → ℕ → List (Option Reading) → Type 0
AllBut P c [] = ⊤
AllBut P zero (r ∷ rs) = AllOf P rs
AllBut P (suc c) (r ∷ rs) = IsOf P r × AllBut P c rs

pub all_parts : (P : ℕ → Type 0) (xs ys : List (Option Reading)) → AllOf P (xs ++ ys) → AllOf P xs × AllOf P ys
all_parts P [] ys h = (tt, h)
all_parts P (x ∷ xs) ys h = let k = all_parts P xs ys h.1 in ((h.0, k.0), k.1)

all_both : (P : ℕ → Type 0) (xs ys : List (Option Reading)) → AllOf P xs → AllOf P ys → AllOf P (xs ++ ys)
all_both P [] ys h k = k
all_both P (x ∷ xs) ys h k = (h.0, all_both P xs ys h.1 k)

pub all_but : (P : ℕ → Type 0) (c : ℕ) (rs : List (Option Reading)) → AllOf P rs → AllBut P c rs
all_but P c [] h = tt
all_but P zero (r ∷ rs) h = h.1
all_but P (suc c) (r ∷ rs) h = (h.0, all_but P c rs h.1)

pub spliced_rest : (P : ℕ → Type 0) (c : ℕ) (low us : List (Option Reading)) → AllOf P (splice c low us) → AllBut P c us
spliced_rest P c low [] h = tt
spliced_rest P zero low (u ∷ us) h = (all_parts P low us h).1
spliced_rest P (suc c) low (u ∷ us) h = (h.0, spliced_rest P c low us h.1)

pub spliced_low : (P : ℕ → Type 0) (c : ℕ) (low us : List (Option Reading)) → c < length us → AllOf P (splice c low us) → AllOf P low
spliced_low P c low [] less h = absurd (omega (arith, less))
spliced_low P zero low (u ∷ us) less h = (all_parts P low us h).0
spliced_low P (suc c) low (u ∷ us) less h = spliced_low P c low us (omega (arith, less)) h.1

pub all_spliced : (P : ℕ → Type 0) (c : ℕ) (low us : List (Option Reading)) → AllOf P low → AllBut P c us → AllOf P (splice c low us)
all_spliced P c low [] h k = h
all_spliced P zero low (u ∷ us) h k = all_both P low us h k
all_spliced P (suc c) low (u ∷ us) h k = (k.0, all_spliced P c low us h k.1)

pub but_goes : (P : ℕ → Type 0) (c : ℕ) (os ns : List (Option Reading)) → AllGoOn os ns → AllBut P c os → AllBut P c ns
but_goes P c os [] g h = tt
but_goes P c [] (n ∷ ns) g h = absurd g
but_goes P zero (o ∷ os) (n ∷ ns) g h = reads_not_on P os ns g.1 h
but_goes P (suc c) (o ∷ os) (n ∷ ns) g h = ((reads_not_on P (o ∷ []) (n ∷ []) (g.0, tt) (h.0, tt)).0, but_goes P c os ns g.1 h.1)

of_both : (P Q S : ℕ → Type 0) → ((i : ℕ) → P i → Q i → S i) → (o : Option Reading) → IsOf P o → IsOf Q o → IsOf S o
of_both P Q S f None h k = tt
of_both P Q S f (Some r) h k = f r.hub h k

pub all_of_both : (P Q S : ℕ → Type 0) → ((i : ℕ) → P i → Q i → S i) → (rs : List (Option Reading)) → AllOf P rs → AllOf Q rs → AllOf S rs
all_of_both P Q S f [] h k = tt
all_of_both P Q S f (r ∷ rs) h k = (of_both P Q S f r h.0 k.0, all_of_both P Q S f rs h.1 k.1)

pub but_of_both : (P Q S : ℕ → Type 0) → ((i : ℕ) → P i → Q i → S i) → (c : ℕ) (rs : List (Option Reading)) → AllBut P c rs → AllOf Q rs → AllBut S c rs
but_of_both P Q S f c [] h k = tt
but_of_both P Q S f zero (r ∷ rs) h k = all_of_both P Q S f rs h k.1
but_of_both P Q S f (suc c) (r ∷ rs) h k = (of_both P Q S f r h.0 k.0, but_of_both P Q S f c rs h.1 k.1)

but_left : (P : ℕ → Type 0) (c : ℕ) (xs ys : List (Option Reading)) → c < length xs → AllBut P c (xs ++ ys) → AllBut P c xs × AllOf P ys
but_left P c [] ys less h = absurd (omega (arith, less))
but_left P zero (x ∷ xs) ys less h = all_parts P xs ys h
but_left P (suc c) (x ∷ xs) ys less h = let k = but_left P c xs ys (omega (arith, less)) h.1 in ((h.0, k.0), k.1)

but_right : (P : ℕ → Type 0) (c : ℕ) (xs ys : List (Option Reading)) → length xs ≤ c → AllBut P c (xs ++ ys) → AllOf P xs × AllBut P (c - length xs) ys
but_right P c [] ys most h = let B : ℕ → Type 0 = λ k. AllBut P k ys in (tt, subst B (whole c) h)
  where
    whole : (c : ℕ) → c ≡ c - 0
    whole c = omega arith
but_right P zero (x ∷ xs) ys most h = absurd (omega (arith, most))
but_right P (suc c) (x ∷ xs) ys most h =
    let k = but_right P c xs ys (omega (arith, most)) h.1 in
    let B : ℕ → Type 0 = λ j. AllBut P j ys in
    ((h.0, k.0), subst B (less c (length xs)) k.1)
  where
    less : (c n : ℕ) → c - n ≡ suc c - suc n
    less c n = omega arith

pub but_later : (P : ℕ → Type 0) (c : ℕ) (r : Option Reading) (rs : List (Option Reading)) → 0 < c → AllBut P c (r ∷ rs) → IsOf P r × AllBut P (c - 1) rs
but_later P zero r rs l h = absurd (omega (arith, l))
but_later P (suc c) r rs l h = let B : ℕ → Type 0 = λ j. AllBut P j rs in (h.0, subst B (less c) h.1)
  where
    less : (c : ℕ) → c ≡ suc c - 1
    less c = omega arith

-- ---- the list of what a row reads

pub length_readings : {M T : Type 0} (b : Machine M T) (t : Inputs M) → length (row_readings b t) ≡ size t
length_readings b End = refl
length_readings b (More' e n p below q beside) =
    let x = length_readings b below in
    let y = length_readings b beside in
    let both = length-append (row_readings b below) (row_readings b beside) in omega (arith, x, y, both)

-- a splice behind the first element
pub later : {A : Type 0} (at k : ℕ) (low : List A) (u : A) (us : List A) → at ≡ suc k → splice at low (u ∷ us) ≡ u ∷ splice k low us
later at k low u us h = ap (λ j. splice j low (u ∷ us)) h

at_first : {A : Type 0} (at : ℕ) (low : List A) (u : A) (us : List A) → at ≡ 0 → splice at low (u ∷ us) ≡ low ++ us
at_first at low u us h = ap (λ j. splice j low (u ∷ us)) h

apart : (at k : ℕ) → k ≤ at → at ≡ k + (at - k)
apart at k h = omega arith

right_of : {A : Type 0} (at : ℕ) (low xs ys : List A) → length xs ≤ at → splice at low (xs ++ ys) ≡ xs ++ splice (at - length xs) low ys
right_of at low xs ys h = ap (λ j. splice j low (xs ++ ys)) (apart at (length xs) h) ∙ splice_right (at - length xs) low xs ys

pub row_readings_put : {M T : Type 0} (b : Machine M T) (x y : M) (xs : Inputs M) (t : Inputs M) (at : ℕ) → at < size t → row_readings b (put_at at x xs t) ≡ splice at (b.reads x ∷ row_readings b xs) (row_readings b (put_at at y End t))
row_readings_put b x y xs End at h = absurd (omega (arith, h))
row_readings_put b x y xs (More' e n p below q beside) at h = elim (cases_lt 0 at) [
  | inr z ↦
      let here : at ≡ 0 = omega (arith, z) in
      ap (row_readings b) (put_here at x xs e n p q below beside here)
      ∙ (sym (at_first at (b.reads x ∷ row_readings b xs) (b.reads y) (row_readings b beside) here)
      ∙ ap (λ r. splice at (b.reads x ∷ row_readings b xs) (row_readings b r)) (sym (put_here at y End e n p q below beside here)))
  | inl l ↦ elim (cases_lt (size below) at) [
    | inr w ↦
        let low = b.reads x ∷ row_readings b xs in
        let down = row_readings b (put_at (at - 1) y End below) in
        let rec = row_readings_put b x y xs below (at - 1) (omega (arith, l, w)) in
        let long = length_readings b (put_at (at - 1) y End below) in
        let enough = size_least below (at - 1) y End (omega (arith, l, w)) in
        ap (row_readings b) (put_below at x xs e n p q below beside l w)
        ∙ (ap (λ ns. b.reads n ∷ (ns ++ row_readings b beside)) rec
        ∙ (ap (λ ns. b.reads n ∷ ns) (sym (splice_left (at - 1) low down (row_readings b beside) (omega (arith, long, enough))))
        ∙ (sym (later at (at - 1) low (b.reads n) (down ++ row_readings b beside) (omega (arith, l)))
        ∙ ap (λ r. splice at low (row_readings b r)) (sym (put_below at y End e n p q below beside l w)))))
    | inl w ↦
        let low = b.reads x ∷ row_readings b xs in
        let side = row_readings b (put_at (at - 1 - size below) y End beside) in
        let rec = row_readings_put b x y xs beside (at - 1 - size below) (omega (arith, w, h)) in
        let long = length_readings b below in
        ap (row_readings b) (put_beside at x xs e n p q below beside w)
        ∙ (ap (λ ns. b.reads n ∷ (row_readings b below ++ ns)) rec
        ∙ (ap (λ j. b.reads n ∷ (row_readings b below ++ splice (at - 1 - j) low side)) (sym long)
        ∙ (ap (λ ns. b.reads n ∷ ns) (sym (right_of (at - 1) low (row_readings b below) side (omega (arith, long, w))))
        ∙ (sym (later at (at - 1) low (b.reads n) (row_readings b below ++ side) (omega (arith, w)))
        ∙ ap (λ r. splice at low (row_readings b r)) (sym (put_beside at y End e n p q below beside w))))))
  ]
]

-- ---- how far they got

-- both lists say the same of a hub
abbrev pub SameAt : List (Option ℕ) → List (Option ℕ) → ℕ → Type 0
SameAt counts others i = slice_get others i ≡ slice_get counts i

pub read_over : (counts others : List (Option ℕ)) (o : Option Reading) → IsOf (SameAt counts others) o → IsReadAt counts o → IsReadAt others o
read_over counts others None k h = tt
read_over counts others (Some r) k h = k ∙ h

pub row_over : {M T : Type 0} (b : Machine M T) (counts others : List (Option ℕ)) (t : Inputs M) → AllOf (SameAt counts others) (row_readings b t) → IsRowReadAt b counts t → IsRowReadAt b others t
row_over b counts others End k h = tt
row_over b counts others (More' e n p below q beside) k h =
    let parts = all_parts (SameAt counts others) (row_readings b below) (row_readings b beside) k.1 in
    (elim h.0 [ inl dead ↦ inl dead | inr live ↦ inr (read_over counts others (b.reads n) k.0 live.0, row_over b counts others below parts.0 live.1) ], row_over b counts others beside parts.1 h.1)

pub row_put_reads : {M T : Type 0} (b : Machine M T) (counts others : List (Option ℕ)) (x : M) (xs : Inputs M) (t : Inputs M) (at : ℕ) → AllBut (SameAt counts others) at (row_readings b t) → (is_row_live t at ≡ true → IsReadAt others (b.reads x) × IsRowReadAt b others xs) →
    IsRowReadAt b counts t → IsRowReadAt b others (put_at at x xs t)
row_put_reads b counts others x xs End at k own h = tt
row_put_reads {M} b counts others x xs (More' e n p below q beside) at k own h = elim (cases_lt 0 at) [
  | inr z ↦
      let here : at ≡ 0 = omega (arith, z) in
      let Q : Inputs M → Type 0 = λ u. IsRowReadAt b others u in
      let B : ℕ → Type 0 = λ j. AllBut (SameAt counts others) j (b.reads n ∷ (row_readings b below ++ row_readings b beside)) in
      let rest = all_parts (SameAt counts others) (row_readings b below) (row_readings b beside) (subst B here k) in
      subst Q (sym (put_here at x xs e n p q below beside here)) (
        elim (cases_Bool (is_live e.state)) [ inl l ↦ inr (own (live_here at e n p q below beside here ∙ l)) | inr d ↦ inl d ],
        row_over b counts others beside rest.1 h.1,
      )
  | inl l ↦
      let tail = but_later (SameAt counts others) at (b.reads n) (row_readings b below ++ row_readings b beside) l k in
      let long = length_readings b below in
      elim (cases_lt (size below) at) [
        | inr w ↦
            let Q : Inputs M → Type 0 = λ u. IsRowReadAt b others u in
            let parts = but_left (SameAt counts others) (at - 1) (row_readings b below) (row_readings b beside) (omega (arith, long, l, w)) tail.1 in
            subst Q (sym (put_below at x xs e n p q below beside l w)) (
              elim (cases_Bool (is_live e.state)) [
                | inr d ↦ inl d
                | inl live ↦ elim h.0 [
                  | inl dead ↦ inl dead
                  | inr v ↦ inr (
                    read_over counts others (b.reads n) tail.0 v.0,
                    row_put_reads b counts others x xs below (at - 1) parts.0 (λ row. own (live_below at e n p q below beside l w ∙ both (is_live e.state) _ live row)) v.1,
                  )
                ]
              ],
              row_over b counts others beside parts.1 h.1,
            )
        | inl w ↦
            let Q : Inputs M → Type 0 = λ u. IsRowReadAt b others u in
            let B : ℕ → Type 0 = λ j. AllBut (SameAt counts others) (at - 1 - j) (row_readings b beside) in
            let parts = but_right (SameAt counts others) (at - 1) (row_readings b below) (row_readings b beside) (omega (arith, long, w)) tail.1 in
            subst Q (sym (put_beside at x xs e n p q below beside w)) (
              elim h.0 [ inl dead ↦ inl dead | inr v ↦ inr (read_over counts others (b.reads n) tail.0 v.0, row_over b counts others below parts.0 v.1) ],
              row_put_reads b counts others x xs beside (at - 1 - size below) (subst B long parts.1) (λ row. own (live_beside at e n p q below beside w ∙ row)) h.1,
            )
      ]
]

-- over a live edge, the node and what is below it
pub row_under_reads : {M T : Type 0} (b : Machine M T) (counts : List (Option ℕ)) (t : Inputs M) (at : ℕ) (k : Place M) → sender_at at t ≡ Some k → is_row_live t at ≡ true → IsRowReadAt b counts t → IsReadAt counts (b.reads k.node) × IsRowReadAt b counts k.below
row_under_reads b counts End at k place live h = cc
row_under_reads {M} b counts (More' e n p below q beside) at k place live h = elim (cases_lt 0 at) [
  | inr z ↦
      let here : at ≡ 0 = omega (arith, z) in
      let on = sym (live_here at e n p q below beside here) ∙ live in
      let node : record { node = n; below = below } ≡ k = same_some _ _ (sym (sender_here at e n p q below beside here) ∙ place) in
      let P : Place M → Type 0 = λ j. IsReadAt counts (b.reads j.node) × IsRowReadAt b counts j.below in
      elim h.0 [ inl dead ↦ cc | inr v ↦ subst P node v ]
  | inl l ↦ elim (cases_lt (size below) at) [
    | inr w ↦
        let parts = and_parts (is_live e.state) _ (sym (live_below at e n p q below beside l w) ∙ live) in
        let on = parts.0 in
        elim h.0 [ inl dead ↦ cc | inr v ↦ row_under_reads b counts below (at - 1) k (sym (sender_below at e n p q below beside l w) ∙ place) parts.1 v.1 ]
    | inl w ↦ row_under_reads b counts beside (at - 1 - size below) k (sym (sender_beside at e n p q below beside w) ∙ place) (sym (live_beside at e n p q below beside w) ∙ live) h.1
  ]
]
