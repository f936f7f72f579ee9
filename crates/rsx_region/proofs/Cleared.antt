-- Which edges are clear in a tree in which another node, with what is below it, sends over one of the edges.
use Rattle.std.proofs.Common.{◌≡◌, inl, inr, ℕ, ◌+◌, ◌-◌, ◌<◌, ◌≤◌, Bool, true, false, ◌&&◌, nat_eq, nat_le, if◌then◌else◌, List, refl, ap, sym, ◌∙◌, arith}
use Rattle.std.specs.Prelude.{not}
use Rattle.std.proofs.lemmas.Bool.{and_parts, cases_lt, le-leb, lt-leb}
use Rattle.rsx_types.proofs.Numbers.{not_zero}
use Rattle.rsx_sources.specs.Prelude.{Meaning}
use Rattle.rsx_sources.specs.declared.machine.Machine.{Ghosts as Machine}
use Rattle.rsx_tree.proofs.Changes.{chosen_first, chosen_second}
use Rattle.rsx_tree.specs.Edges.{is_live}
use Rattle.rsx_tree.specs.Inputs.{size}
use Rattle.rsx_tree.specs.Swapped.{put_at}
use Rattle.rsx_tree.specs.declared.inputs.Inputs.{Inputs, End, More'}
use Rattle.rsx_tree.specs.declared.node.Node.{Node}
use Rattle.rsx_rooted.proofs.Puts.{put_below, put_beside, put_here, size_least, size_put}
use Rattle.rsx_rooted.specs.Flow.{HoldsQueue}
use Rattle.rsx_pipe.specs.Cutting.{with_node}
use Rattle.rsx_pipe.specs.Part.{Part}
use Rattle.rsx_region.specs.Open.{WasClear, is_clear, is_live_over, is_row_clear, is_row_live}
use Rattle.rsx_region.proofs.EdgePlaces.{IsThere, both, live_below, live_beside, live_here, live_under, with_below}

-- ---- an edge of a row

module _ {M T : Type 0} (b : Machine M T) (r : M) (i at : ℕ) (e : _) (n : M) (p q : _) (below beside : Inputs M) where
  pub clear_here : at ≡ 0 → is_row_clear b r i (More' e n p below q beside) at ≡ (is_live e.state && not (b.done r i))
  clear_here h = ap (is_row_clear b r i (More' e n p below q beside)) h

  pub clear_below : 0 < at → at ≤ size below → is_row_clear b r i (More' e n p below q beside) at ≡ ((is_live e.state && not (b.done r i)) && (not (b.ended n) && is_row_clear b n 0 below (at - 1)))
  clear_below a w = chosen_second (nat_eq at 0) _ _ (not_zero at a) ∙ chosen_first (nat_le at (size below)) _ _ (le-leb at (size below) w)

  pub clear_beside : size below < at → is_row_clear b r i (More' e n p below q beside) at ≡ is_row_clear b r (i + 1) beside (at - 1 - size below)
  clear_beside w = chosen_second (nat_eq at 0) _ _ (not_zero at (omega (arith, w))) ∙ chosen_second (nat_le at (size below)) _ _ (lt-leb at (size below) w)

-- a clear edge, and each over it, is live
row_clear_live : {M T : Type 0} (b : Machine M T) (r : M) (i : ℕ) (t : Inputs M) (at : ℕ) → is_row_clear b r i t at ≡ true → is_row_live t at ≡ true
row_clear_live b r i End at h = cc
row_clear_live b r i (More' e n p below q beside) at h = elim (cases_lt 0 at) [
  | inr z ↦ let here : at ≡ 0 = omega (arith, z) in live_here at e n p q below beside here ∙ (and_parts (is_live e.state) _ (sym (clear_here b r i at e n p q below beside here) ∙ h)).0
  | inl l ↦ elim (cases_lt (size below) at) [
    | inr w ↦
        let parts = and_parts (is_live e.state && not (b.done r i)) _ (sym (clear_below b r i at e n p q below beside l w) ∙ h) in
        live_below at e n p q below beside l w ∙ both (is_live e.state) _ (and_parts (is_live e.state) _ parts.0).0 (row_clear_live b n 0 below (at - 1) (and_parts (not (b.ended n)) _ parts.1).1)
    | inl w ↦ live_beside at e n p q below beside w ∙ row_clear_live b r (i + 1) beside (at - 1 - size below) (sym (clear_beside b r i at e n p q below beside w) ∙ h)
  ]
]

-- the receiver of a row matters by what it is done with alone
row_receiver : {M T : Type 0} (b : Machine M T) (x n : M) → ((j : ℕ) → b.done x j ≡ b.done n j) → (i : ℕ) (t : Inputs M) (at : ℕ) → is_row_clear b x i t at ≡ is_row_clear b n i t at
row_receiver b x n same i End at = refl
row_receiver b x n same i (More' e k p below q beside) at =
    ap (λ d. if nat_eq at 0 then is_live e.state && not d else (if nat_le at (size below) then (is_live e.state && not d) && (not (b.ended k) && is_row_clear b k 0 below (at - 1)) else is_row_clear b x (i + 1) beside (at - 1 - size below))) (same i)
    ∙ ap (λ c. if nat_eq at 0 then is_live e.state && not (b.done n i) else (if nat_le at (size below) then (is_live e.state && not (b.done n i)) && (not (b.ended k) && is_row_clear b k 0 below (at - 1)) else c)) (row_receiver b x n same (i + 1) beside (at - 1 - size below))

-- ---- another node over an edge

and_between : (a b c d : Bool) → (a && (b && (c && d))) ≡ ((a && (b && c)) && d)
and_between true true c d = refl
and_between true false c d = refl
and_between false b c d = refl

module _ {M T : Type 0} (b : Machine M T) (x y : M) (xs : Inputs M) where
  -- up to the edge, that node doesn't matter
  row_until : (r : M) (i : ℕ) (t : Inputs M) (at j : ℕ) → at < size t → j ≤ at → is_row_clear b r i (put_at at x xs t) j ≡ is_row_clear b r i (put_at at y End t) j
  row_until r i End at j h w = absurd (omega (arith, h))
  row_until r i (More' e n p below q beside) at j h w =
      let C : Inputs M → Bool = λ u. is_row_clear b r i u j in
      elim (cases_lt 0 at) [
        | inr z ↦
            let here : at ≡ 0 = omega (arith, z) in
            let first : j ≡ 0 = omega (arith, here, w) in
            ap C (put_here at x xs e n p q below beside here)
            ∙ (clear_here b r i j e x p q xs beside first ∙ sym (ap C (put_here at y End e n p q below beside here) ∙ clear_here b r i j e y p q End beside first))
        | inl l ↦ elim (cases_lt (size below) at) [
          | inr k ↦
              let new = put_at (at - 1) x xs below in
              let old = put_at (at - 1) y End below in
              let one = put_below at x xs e n p q below beside l k in
              let two = put_below at y End e n p q below beside l k in
              let long = size_least below (at - 1) x xs (omega (arith, l, k)) in
              let more = size_least below (at - 1) y End (omega (arith, l, k)) in
              elim (cases_lt 0 j) [
                | inr z ↦ let first : j ≡ 0 = omega (arith, z) in ap C one ∙ (clear_here b r i j e n p q new beside first ∙ sym (ap C two ∙ clear_here b r i j e n p q old beside first))
                | inl a ↦
                    let rec = row_until n 0 below (at - 1) (j - 1) (omega (arith, l, k)) (omega (arith, a, w)) in
                    ap C one
                    ∙ (clear_below b r i j e n p q new beside a (omega (arith, w, long, l))
                    ∙ (ap (λ c. (is_live e.state && not (b.done r i)) && (not (b.ended n) && c)) rec ∙ sym (ap C two ∙ clear_below b r i j e n p q old beside a (omega (arith, w, more, l)))))
              ]
          | inl k ↦
              let new = put_at (at - 1 - size below) x xs beside in
              let old = put_at (at - 1 - size below) y End beside in
              let one = put_beside at x xs e n p q below beside k in
              let two = put_beside at y End e n p q below beside k in
              elim (cases_lt 0 j) [
                | inr z ↦ let first : j ≡ 0 = omega (arith, z) in ap C one ∙ (clear_here b r i j e n p q below new first ∙ sym (ap C two ∙ clear_here b r i j e n p q below old first))
                | inl a ↦ elim (cases_lt (size below) j) [
                  | inr v ↦ ap C one ∙ (clear_below b r i j e n p q below new a v ∙ sym (ap C two ∙ clear_below b r i j e n p q below old a v))
                  | inl v ↦
                      let rec = row_until r (i + 1) beside (at - 1 - size below) (j - 1 - size below) (omega (arith, h, k)) (omega (arith, v, w)) in
                      ap C one ∙ (clear_beside b r i j e n p q below new v ∙ (rec ∙ sym (ap C two ∙ clear_beside b r i j e n p q below old v)))
                ]
              ]
        ]
      ]

  -- below it, the edge is clear, that node has not ended, and it is so below that
  row_inside : (r : M) (i : ℕ) (t : Inputs M) (at k : ℕ) → at < size t → k < size xs →
      is_row_clear b r i (put_at at x xs t) (at + 1 + k) ≡ (is_row_clear b r i (put_at at y End t) at && (not (b.ended x) && is_row_clear b x 0 xs k))
  row_inside r i End at k h w = absurd (omega (arith, h))
  row_inside r i (More' e n p below q beside) at k h w =
      let C : Inputs M → Bool = λ u. is_row_clear b r i u (at + 1 + k) in
      let D : Inputs M → Bool = λ u. is_row_clear b r i u at in
      let rest = not (b.ended x) && is_row_clear b x 0 xs k in
      elim (cases_lt 0 at) [
        | inr z ↦
            let here : at ≡ 0 = omega (arith, z) in
            let same : at + 1 + k - 1 ≡ k = omega (arith, here) in
            let edge = ap D (put_here at y End e n p q below beside here) ∙ clear_here b r i at e y p q End beside here in
            ap C (put_here at x xs e n p q below beside here)
            ∙ (clear_below b r i (at + 1 + k) e x p q xs beside (omega (arith, here)) (omega (arith, here, w))
            ∙ (ap (λ o. (is_live e.state && not (b.done r i)) && (not (b.ended x) && is_row_clear b x 0 xs o)) same ∙ ap (λ c. c && rest) (sym edge)))
        | inl l ↦ elim (cases_lt (size below) at) [
          | inr v ↦
              let new = put_at (at - 1) x xs below in
              let old = put_at (at - 1) y End below in
              let long = size_least below (at - 1) x xs (omega (arith, l, v)) in
              let more = size_least below (at - 1) y End (omega (arith, l, v)) in
              let same : at + 1 + k - 1 ≡ at - 1 + 1 + k = omega (arith, l) in
              let edge = ap D (put_below at y End e n p q below beside l v) ∙ clear_below b r i at e n p q old beside l (omega (arith, more, l)) in
              ap C (put_below at x xs e n p q below beside l v)
              ∙ (clear_below b r i (at + 1 + k) e n p q new beside (omega (arith, l)) (omega (arith, long, w, l))
              ∙ (ap (λ o. (is_live e.state && not (b.done r i)) && (not (b.ended n) && is_row_clear b n 0 new o)) same
              ∙ (ap (λ c. (is_live e.state && not (b.done r i)) && (not (b.ended n) && c)) (row_inside n 0 below (at - 1) k (omega (arith, l, v)) w)
              ∙ (and_between (is_live e.state && not (b.done r i)) (not (b.ended n)) (is_row_clear b n 0 old (at - 1)) rest ∙ ap (λ c. c && rest) (sym edge)))))
          | inl v ↦
              let new = put_at (at - 1 - size below) x xs beside in
              let old = put_at (at - 1 - size below) y End beside in
              let same : at + 1 + k - 1 - size below ≡ at - 1 - size below + 1 + k = omega (arith, v) in
              let edge = ap D (put_beside at y End e n p q below beside v) ∙ clear_beside b r i at e n p q below old v in
              ap C (put_beside at x xs e n p q below beside v)
              ∙ (clear_beside b r i (at + 1 + k) e n p q below new (omega (arith, v))
              ∙ (ap (is_row_clear b r (i + 1) new) same ∙ (row_inside r (i + 1) beside (at - 1 - size below) k (omega (arith, h, v)) w ∙ ap (λ c. c && rest) (sym edge))))
        ]
      ]

  -- behind it, what is below that node is counted, too
  row_behind : (r : M) (i : ℕ) (t : Inputs M) (at j : ℕ) → at < size t → at < j → is_row_clear b r i (put_at at x xs t) (j + size xs) ≡ is_row_clear b r i (put_at at y End t) j
  row_behind r i End at j h w = absurd (omega (arith, h))
  row_behind r i (More' e n p below q beside) at j h w =
      let C : Inputs M → Bool = λ u. is_row_clear b r i u (j + size xs) in
      let D : Inputs M → Bool = λ u. is_row_clear b r i u j in
      elim (cases_lt 0 at) [
        | inr z ↦
            let here : at ≡ 0 = omega (arith, z) in
            let same : j + size xs - 1 - size xs ≡ j - 1 - 0 = omega (arith, w) in
            ap C (put_here at x xs e n p q below beside here)
            ∙ (clear_beside b r i (j + size xs) e x p q xs beside (omega (arith, w))
            ∙ (ap (is_row_clear b r (i + 1) beside) same ∙ sym (ap D (put_here at y End e n p q below beside here) ∙ clear_beside b r i j e y p q End beside (omega (arith, w)))))
        | inl l ↦ elim (cases_lt (size below) at) [
          | inr v ↦
              let new = put_at (at - 1) x xs below in
              let old = put_at (at - 1) y End below in
              let sizes = size_put below (at - 1) x y xs End (omega (arith, l, v)) in
              let one = put_below at x xs e n p q below beside l v in
              let two = put_below at y End e n p q below beside l v in
              elim (cases_lt (size old) j) [
                | inr u ↦
                    let same : j + size xs - 1 ≡ j - 1 + size xs = omega (arith, w) in
                    ap C one
                    ∙ (clear_below b r i (j + size xs) e n p q new beside (omega (arith, w)) (omega (arith, u, sizes))
                    ∙ (ap (λ o. (is_live e.state && not (b.done r i)) && (not (b.ended n) && is_row_clear b n 0 new o)) same
                    ∙ (ap (λ c. (is_live e.state && not (b.done r i)) && (not (b.ended n) && c)) (row_behind n 0 below (at - 1) (j - 1) (omega (arith, l, v)) (omega (arith, l, w)))
                    ∙ sym (ap D two ∙ clear_below b r i j e n p q old beside (omega (arith, w)) u))))
                | inl u ↦
                    let same : j + size xs - 1 - size new ≡ j - 1 - size old = omega (arith, u, sizes) in
                    ap C one
                    ∙ (clear_beside b r i (j + size xs) e n p q new beside (omega (arith, u, sizes)) ∙ (ap (is_row_clear b r (i + 1) beside) same ∙ sym (ap D two ∙ clear_beside b r i j e n p q old beside u)))
              ]
          | inl v ↦
              let new = put_at (at - 1 - size below) x xs beside in
              let old = put_at (at - 1 - size below) y End beside in
              let same : j + size xs - 1 - size below ≡ j - 1 - size below + size xs = omega (arith, v, w) in
              ap C (put_beside at x xs e n p q below beside v)
              ∙ (clear_beside b r i (j + size xs) e n p q below new (omega (arith, v, w))
              ∙ (ap (is_row_clear b r (i + 1) new) same
              ∙ (row_behind r (i + 1) beside (at - 1 - size below) (j - 1 - size below) (omega (arith, h, v)) (omega (arith, v, w))
              ∙ sym (ap D (put_beside at y End e n p q below beside v) ∙ clear_beside b r i j e n p q below old (omega (arith, v, w))))))
        ]
      ]

-- ---- a tree

pub clear_under : {M T : Type 0} (b : Machine M T) (t : Node M) (j : ℕ) → 0 < j → is_clear b t j ≡ (not (b.ended t.machine) && is_row_clear b t.machine 0 t.inputs (j - 1))
clear_under b t j h = chosen_second (nat_eq j 0) _ _ (not_zero j h)

-- a clear edge of a part below its root, whose root edge is live, is live, and so is each over it
pub clear_live : {M T : Type 0} (b : Machine M T) (part : Part M) (at : ℕ) → 0 < at → is_live part.root.state ≡ true → is_clear b part.tree at ≡ true → is_live_over part at ≡ true
clear_live b part at pos live h = live_under part at pos live (row_clear_live b part.tree.machine 0 part.tree.inputs (at - 1) (and_parts (not (b.ended part.tree.machine)) _ (sym (clear_under b part.tree at pos) ∙ h)).1)

-- a queue at the edge of the root doesn't matter
pub clear_queue : {M T : Type 0} (b : Machine M T) (m : Meaning T) (x n : M) (q : List T) (t : Inputs M) (j : ℕ) → HoldsQueue b m x q n → is_clear b (record { machine = x; inputs = t }) j ≡ is_clear b (record { machine = n; inputs = t }) j
clear_queue b m x n q t j h =
    ap (λ c. if nat_eq j 0 then true else not c && is_row_clear b x 0 t (j - 1)) h.ended ∙ ap (λ c. if nat_eq j 0 then true else not (b.ended n) && c) (row_receiver b x n h.done 0 t (j - 1))

-- An edge at or over that of the node counts as before, whatever that node is.
pub clear_put : {M T : Type 0} (b : Machine M T) (at j : ℕ) (x y : M) (xs : Inputs M) (t : Node M) → 0 < at → IsThere at t → j ≤ at → is_clear b (with_node at x xs t) j ≡ is_clear b (with_node at y End t) j
clear_put {M} b at j x y xs t pos there w =
    let C : Node M → Bool = λ u. is_clear b u j in
    elim (cases_lt 0 j) [
      | inr z ↦ let first : j ≡ 0 = omega (arith, z) in ap (is_clear b (with_node at x xs t)) first ∙ sym (ap (is_clear b (with_node at y End t)) first)
      | inl l ↦
          let one : Node M = record { machine = t.machine; inputs = put_at (at - 1) x xs t.inputs } in
          let two : Node M = record { machine = t.machine; inputs = put_at (at - 1) y End t.inputs } in
          ap C (with_below at x xs t pos)
          ∙ (clear_under b one j l ∙ (ap (λ c. not (b.ended t.machine) && c) (row_until b x y xs t.machine 0 t.inputs (at - 1) (j - 1) (there pos) (omega (arith, l, w))) ∙ sym (ap C (with_below at y End t pos) ∙ clear_under b two j l)))
    ]

-- Two trees with other trees put at an edge: what is clear in the second was so in the first, if that is so of the trees without these, and of
-- these as long as the edge is clear.
pub clear_both_put : {M T : Type 0} (b : Machine M T) (at : ℕ) (x0 y0 x1 y1 : M) (xs0 xs1 : Inputs M) (t0 t1 : Node M) → 0 < at → IsThere at t0 → IsThere at t1 → size xs0 ≡ size xs1 →
    WasClear b (with_node at y0 End t0) (with_node at y1 End t1) → (is_clear b (with_node at y1 End t1) at ≡ true → WasClear b (record { machine = x0; inputs = xs0 }) (record { machine = x1; inputs = xs1 })) →
    WasClear b (with_node at x0 xs0 t0) (with_node at x1 xs1 t1)
clear_both_put {M} b at x0 y0 x1 y1 xs0 xs1 t0 t1 pos there0 there1 sizes up low j h = elim (cases_lt at j) [
  | inr w ↦ clear_put b at j x0 y0 xs0 t0 pos there0 w ∙ up j (sym (clear_put b at j x1 y1 xs1 t1 pos there1 w) ∙ h)
  | inl l ↦ elim (cases_lt (at + size xs1) j) [
    | inr w ↦
        let k = j - at - 1 in
        let is : j - 1 ≡ at - 1 + 1 + k = omega (arith, l, pos) in
        let less : k < size xs1 = omega (arith, l, w) in
        let now = and_parts (not (b.ended t1.machine)) _ (sym (under t1 x1 xs1 (omega (arith, l)) ∙ ap (λ o. not (b.ended t1.machine) && is_row_clear b t1.machine 0 (put_at (at - 1) x1 xs1 t1.inputs) o) is) ∙ h) in
        let parts = and_parts (is_row_clear b t1.machine 0 (put_at (at - 1) y1 End t1.inputs) (at - 1)) _ (sym (row_inside b x1 y1 xs1 t1.machine 0 t1.inputs (at - 1) k (there1 pos) less) ∙ now.1) in
        let edge : is_clear b (with_node at y1 End t1) at ≡ true = above t1 y1 ∙ both (not (b.ended t1.machine)) _ now.0 parts.0 in
        let was = and_parts (not (b.ended t0.machine)) _ (sym (above t0 y0) ∙ up at edge) in
        let first : k + 1 - 1 ≡ k = omega arith in
        let kept = low edge (k + 1) (inside x1 xs1 k ∙ parts.1) in
        let rest : (not (b.ended x0) && is_row_clear b x0 0 xs0 k) ≡ true = sym (inside x0 xs0 k) ∙ kept in
        under t0 x0 xs0 (omega (arith, l))
        ∙ (ap (λ o. not (b.ended t0.machine) && is_row_clear b t0.machine 0 (put_at (at - 1) x0 xs0 t0.inputs) o) is
        ∙ both (not (b.ended t0.machine)) _ was.0 (row_inside b x0 y0 xs0 t0.machine 0 t0.inputs (at - 1) k (there0 pos) (omega (arith, less, sizes)) ∙ both (is_row_clear b t0.machine 0 (put_at (at - 1) y0 End t0.inputs) (at - 1)) _ was.1 rest))
    | inl w ↦
        let k = j - size xs1 in
        let is1 : j - 1 ≡ k - 1 + size xs1 = omega (arith, w, pos) in
        let is0 : j - 1 ≡ k - 1 + size xs0 = omega (arith, w, pos, sizes) in
        let now = and_parts (not (b.ended t1.machine)) _ (sym (under t1 x1 xs1 (omega (arith, l)) ∙ ap (λ o. not (b.ended t1.machine) && is_row_clear b t1.machine 0 (put_at (at - 1) x1 xs1 t1.inputs) o) is1) ∙ h) in
        let edge = past t1 y1 k (omega (arith, w, pos)) ∙ both (not (b.ended t1.machine)) _ now.0 (sym (row_behind b x1 y1 xs1 t1.machine 0 t1.inputs (at - 1) (k - 1) (there1 pos) (omega (arith, w, pos))) ∙ now.1) in
        let was = and_parts (not (b.ended t0.machine)) _ (sym (past t0 y0 k (omega (arith, w, pos))) ∙ up k edge) in
        under t0 x0 xs0 (omega (arith, l))
        ∙ (ap (λ o. not (b.ended t0.machine) && is_row_clear b t0.machine 0 (put_at (at - 1) x0 xs0 t0.inputs) o) is0
        ∙ both (not (b.ended t0.machine)) _ was.0 (row_behind b x0 y0 xs0 t0.machine 0 t0.inputs (at - 1) (k - 1) (there0 pos) (omega (arith, w, pos)) ∙ was.1))
  ]
]
  where
    under : (t : Node M) (x : M) (xs : Inputs M) → 0 < j → is_clear b (with_node at x xs t) j ≡ (not (b.ended t.machine) && is_row_clear b t.machine 0 (put_at (at - 1) x xs t.inputs) (j - 1))
    under t x xs a = ap (λ u. is_clear b u j) (with_below at x xs t pos) ∙ clear_under b (record { machine = t.machine; inputs = put_at (at - 1) x xs t.inputs }) j a

    past : (t : Node M) (y : M) (k : ℕ) → 0 < k → is_clear b (with_node at y End t) k ≡ (not (b.ended t.machine) && is_row_clear b t.machine 0 (put_at (at - 1) y End t.inputs) (k - 1))
    past t y k a = ap (λ u. is_clear b u k) (with_below at y End t pos) ∙ clear_under b (record { machine = t.machine; inputs = put_at (at - 1) y End t.inputs }) k a

    above : (t : Node M) (y : M) → is_clear b (with_node at y End t) at ≡ (not (b.ended t.machine) && is_row_clear b t.machine 0 (put_at (at - 1) y End t.inputs) (at - 1))
    above t y = past t y at pos

    inside : (x : M) (xs : Inputs M) (k : ℕ) → is_clear b (record { machine = x; inputs = xs }) (k + 1) ≡ (not (b.ended x) && is_row_clear b x 0 xs k)
    inside x xs k = clear_under b (record { machine = x; inputs = xs }) (k + 1) (omega arith) ∙ ap (λ o. not (b.ended x) && is_row_clear b x 0 xs o) (last k)
      where
        last : (k : ℕ) → k + 1 - 1 ≡ k
        last k = omega arith
