-- The counts along the edges of a tree in which another node, with what is below it, sends over one of the edges.
use Rattle.std.proofs.Common.{◌≡◌, inl, inr, ℕ, ◌+◌, ◌-◌, true, List, ◌∷◌, length, refl, ap, sym, ◌∙◌, subst, arith, Some}
use Rattle.std.specs.Prelude.{not}
use Rattle.std.proofs.lemmas.Bool.{and_parts, cases_Bool, cases_lt}
use Rattle.rsx_sources.specs.Prelude.{Meaning}
use Rattle.rsx_sources.specs.declared.machine.Machine.{Ghosts as Machine}
use Rattle.rsx_tree.specs.Balance.{IsOwnerBalanced, IsRowBalanced, sent_over}
use Rattle.rsx_tree.specs.Edges.{edge_view, is_live}
use Rattle.rsx_tree.specs.Inputs.{size}
use Rattle.rsx_tree.specs.Stepped.{Station, over, station, station_of}
use Rattle.rsx_tree.specs.Swapped.{put_at}
use Rattle.rsx_tree.specs.declared.edge.EdgeState.TheVariants.{Live}
use Rattle.rsx_tree.specs.declared.inputs.Inputs.{Inputs, End, More'}
use Rattle.rsx_tree.specs.declared.node.Node.{Node}
use Rattle.rsx_rooted.proofs.Puts.{put_below, put_beside, put_here}
use Rattle.rsx_rooted.specs.Flow.{HoldsQueue}
use Rattle.rsx_pipe.specs.Cutting.{Place, place_at, sender_at, with_node}
use Rattle.rsx_pipe.specs.Part.{Part}
use Rattle.rsx_pipe.specs.Tree.{IsBalanced}
use Rattle.rsx_region.specs.Open.{is_live_over, is_open_over, is_row_live, is_row_open}
use Rattle.rsx_region.proofs.EdgePlaces.{both, is_false, live_below, live_beside, live_here, live_root, live_under, not_from, open_below, open_beside, open_here, open_root, open_under, place_below, place_here, root_station, same_some, sender_below, sender_beside, sender_here, station_below, station_beside, station_here, station_root, station_under, with_below, with_here}

-- ---- a row

-- the edges count what they counted
pub sent_put : {M : Type 0} (x : M) (xs : Inputs M) (t : Inputs M) (at : ℕ) → sent_over (put_at at x xs t) ≡ sent_over t
sent_put x xs End at = refl
sent_put x xs (More' e n p below q beside) at = elim (cases_lt 0 at) [
  | inr z ↦ ap sent_over (put_here at x xs e n p q below beside (omega (arith, z)))
  | inl l ↦ elim (cases_lt (size below) at) [
    | inr w ↦ ap sent_over (put_below at x xs e n p q below beside l w)
    | inl w ↦ ap sent_over (put_beside at x xs e n p q below beside w) ∙ ap (λ l. e.demand.sent ∷ l) (sent_put x xs beside (at - 1 - size below))
  ]
]

-- The counts belong together as before, if those of the node that was put do, in the case that no receiver over the edge has ended or is
-- done with it.
pub row_put_balanced : {M T : Type 0} (b : Machine M T) (x : M) (xs : Inputs M) (r : M) (i : ℕ) (t : Inputs M) (at : ℕ) →
    ((s : Station M) → station t at ≡ Some s → is_row_open b r i t at ≡ true → is_row_live t at ≡ true → IsOwnerBalanced b x (sent_over xs) s.sent (IsRowBalanced b x 0 xs)) →
    IsRowBalanced b r i t → IsRowBalanced b r i (put_at at x xs t)
row_put_balanced b x xs r i End at own h = tt
row_put_balanced {M} b x xs r i (More' e n p below q beside) at own h = elim (cases_lt 0 at) [
  | inr z ↦
      let here : at ≡ 0 = omega (arith, z) in
      let Q : Inputs M → Type 0 = λ u. IsRowBalanced b r i u in
      subst Q (sym (put_here at x xs e n p q below beside here)) (
        elim (cases_Bool (b.done r i)) [
          | inl d ↦ inl d
          | inr o ↦ elim h.0 [
            | inl d ↦ cc
            | inr w ↦ inr (w.0, own (over e n) (station_here at e n p q below beside here) (open_here at e n p q below beside b r i here ∙ not_from (b.done r i) o) (live_here at e n p q below beside here ∙ ap is_live w.0))
          ]
        ],
        h.1,
      )
  | inl l ↦ elim (cases_lt (size below) at) [
    | inr w ↦
        let Q : Inputs M → Type 0 = λ u. IsRowBalanced b r i u in
        let C : List ℕ → Type 0 = λ k. b.counted n k e.demand.sent in
        subst Q (sym (put_below at x xs e n p q below beside l w)) (
          elim (cases_Bool (b.done r i)) [
            | inl d ↦ inl d
            | inr o ↦ elim h.0 [
              | inl d ↦ cc
              | inr k ↦ inr (
                k.0,
                elim k.1 [
                  | inl f ↦ inl f
                  | inr v ↦ inr (
                    v.0,
                    subst C (sym (sent_put x xs below (at - 1))) v.1,
                    row_put_balanced b x xs n 0 below (at - 1) (λ s is clear live. own s (station_below at e n p q below beside l w ∙ is)
                        (open_below at e n p q below beside b r i l w ∙ both (not (b.done r i)) _ (not_from (b.done r i) o) (both (not (b.ended n)) _ (not_from (b.ended n) v.0) clear))
                        (live_below at e n p q below beside l w ∙ both (is_live e.state) _ (ap is_live k.0) live)) v.2,
                  )
                ],
              )
            ]
          ],
          h.1,
        )
    | inl w ↦
        let Q : Inputs M → Type 0 = λ u. IsRowBalanced b r i u in
        subst Q (sym (put_beside at x xs e n p q below beside w)) (
          h.0,
          row_put_balanced b x xs r (i + 1) beside (at - 1 - size below) (λ s is clear live. own s (station_beside at e n p q below beside w ∙ is) (open_beside at e n p q below beside b r i w ∙ clear) (live_beside at e n p q below beside w ∙ live)) h.1,
        )
  ]
]

-- so do those of the node over the edge, and of what is below it
row_under_balanced : {M T : Type 0} (b : Machine M T) (r : M) (i : ℕ) (t : Inputs M) (at : ℕ) (k : Place M) (s : Station M) → sender_at at t ≡ Some k → station t at ≡ Some s → is_row_open b r i t at ≡ true → IsRowBalanced b r i t → IsOwnerBalanced b k.node (sent_over k.below) s.sent (IsRowBalanced b k.node 0 k.below)
row_under_balanced b r i End at k s place is clear h = cc
row_under_balanced {M} b r i (More' e n p below q beside) at k s place is clear h = elim (cases_lt 0 at) [
  | inr z ↦
      let here : at ≡ 0 = omega (arith, z) in
      let not_done = is_false (b.done r i) (sym (open_here at e n p q below beside b r i here) ∙ clear) in
      let node : record { node = n; below = below } ≡ k = same_some _ _ (sym (sender_here at e n p q below beside here) ∙ place) in
      let edge : over e n ≡ s = same_some _ _ (sym (station_here at e n p q below beside here) ∙ is) in
      let P : Place M → Type 0 = λ j. IsOwnerBalanced b j.node (sent_over j.below) s.sent (IsRowBalanced b j.node 0 j.below) in
      let S : Station M → Type 0 = λ j. IsOwnerBalanced b n (sent_over below) j.sent (IsRowBalanced b n 0 below) in
      elim h.0 [ inl d ↦ cc | inr w ↦ subst P node (subst S edge w.1) ]
  | inl l ↦ elim (cases_lt (size below) at) [
    | inr w ↦
        let parts = and_parts (not (b.done r i)) _ (sym (open_below at e n p q below beside b r i l w) ∙ clear) in
        let more = and_parts (not (b.ended n)) _ parts.1 in
        let not_done = is_false (b.done r i) parts.0 in
        let not_ended = is_false (b.ended n) more.0 in
        elim h.0 [
          | inl d ↦ cc
          | inr v ↦ elim v.1 [
            | inl f ↦ cc
            | inr c ↦ row_under_balanced b n 0 below (at - 1) k s (sym (sender_below at e n p q below beside l w) ∙ place) (sym (station_below at e n p q below beside l w) ∙ is) more.1 c.2
          ]
        ]
    | inl w ↦ row_under_balanced b r (i + 1) beside (at - 1 - size below) k s (sym (sender_beside at e n p q below beside w) ∙ place) (sym (station_beside at e n p q below beside w) ∙ is) (sym (open_beside at e n p q below beside b r i w) ∙ clear) h.1
  ]
]

-- ---- a part

pub put_balanced : {M T : Type 0} (b : Machine M T) (x : M) (xs : Inputs M) (part : Part M) (at : ℕ) →
    ((s : Station M) → station_of part.tree (edge_view part.root) at ≡ Some s → is_open_over b part at ≡ true → is_live_over part at ≡ true → IsOwnerBalanced b x (sent_over xs) s.sent (IsRowBalanced b x 0 xs)) →
    part.root.state ≡ Live → IsBalanced b part.tree part.root.demand.sent → IsBalanced b (with_node at x xs part.tree) part.root.demand.sent
put_balanced {M} b x xs part at own live h = elim (cases_lt 0 at) [
  | inr z ↦
      let here : at ≡ 0 = omega (arith, z) in
      let Q : Node M → Type 0 = λ t. IsBalanced b t part.root.demand.sent in
      subst Q (sym (with_here at x xs part.tree here)) (own (root_station part) (station_root part at here) (open_root b part at here) (live_root part at here (ap is_live live)))
  | inl l ↦
      let n = part.tree.machine in
      let Q : Node M → Type 0 = λ t. IsBalanced b t part.root.demand.sent in
      let C : List ℕ → Type 0 = λ k. b.counted n k part.root.demand.sent in
      subst Q (sym (with_below at x xs part.tree l)) (elim h [
        | inl f ↦ inl f
        | inr w ↦ inr (
          w.0,
          subst C (sym (sent_put x xs part.tree.inputs (at - 1))) w.1,
          row_put_balanced b x xs n 0 part.tree.inputs (at - 1) (λ s is clear row. own s (station_under part at l ∙ is) (open_under b part at l ∙ both (not (b.ended n)) _ (not_from (b.ended n) w.0) clear) (live_under part at l (ap is_live live) row)) w.2,
        )
      ])
]

pub under_balanced : {M T : Type 0} (b : Machine M T) (part : Part M) (at : ℕ) (k : Place M) (s : Station M) → place_at at part.tree ≡ Some k → station_of part.tree (edge_view part.root) at ≡ Some s → is_open_over b part at ≡ true →
    IsBalanced b part.tree part.root.demand.sent → IsOwnerBalanced b k.node (sent_over k.below) s.sent (IsRowBalanced b k.node 0 k.below)
under_balanced {M} b part at k s place is clear h = elim (cases_lt 0 at) [
  | inr z ↦
      let here : at ≡ 0 = omega (arith, z) in
      let t = part.tree in
      let node : record { node = t.machine; below = t.inputs } ≡ k = same_some _ _ (sym (place_here at t here) ∙ place) in
      let edge : root_station part ≡ s = same_some _ _ (sym (station_root part at here) ∙ is) in
      let P : Place M → Type 0 = λ j. IsOwnerBalanced b j.node (sent_over j.below) s.sent (IsRowBalanced b j.node 0 j.below) in
      let S : Station M → Type 0 = λ j. IsOwnerBalanced b t.machine (sent_over t.inputs) j.sent (IsRowBalanced b t.machine 0 t.inputs) in
      subst P node (subst S edge h)
  | inl l ↦
      let n = part.tree.machine in
      let parts = and_parts (not (b.ended n)) _ (sym (open_under b part at l) ∙ clear) in
      let not_ended = is_false (b.ended n) parts.0 in
      elim h [
        | inl f ↦ cc
        | inr w ↦ row_under_balanced b n 0 part.tree.inputs (at - 1) k s (sym (place_below at part.tree l) ∙ place) (sym (station_under part at l) ∙ is) parts.1 w.2
      ]
]

-- ---- a node with a queue at its edge

row_done : {M T : Type 0} (b : Machine M T) (x n : M) (i : ℕ) (t : Inputs M) → ((j : ℕ) → b.done x j ≡ b.done n j) → IsRowBalanced b x i t → IsRowBalanced b n i t
row_done b x n i End same h = tt
row_done b x n i (More' e k p below q beside) same h = (elim h.0 [ inl d ↦ inl (sym (same i) ∙ d) | inr w ↦ inr w ], row_done b x n (i + 1) beside same h.1)

-- without the queue, whose items count as sent
pub queue_taken : {M T : Type 0} (b : Machine M T) (m : Meaning T) (x n : M) (queue : List T) (xs : Inputs M) (sent : ℕ) → HoldsQueue b m x queue n → IsOwnerBalanced b x (sent_over xs) sent (IsRowBalanced b x 0 xs) → IsOwnerBalanced b n (sent_over xs) (sent + length queue) (IsRowBalanced b n 0 xs)
queue_taken b m x n queue xs sent k h = elim h [
  | inl f ↦ inl (sym k.ended ∙ f)
  | inr w ↦ inr (sym k.ended ∙ w.0, k.counted (sent_over xs) sent w.1, row_done b x n 0 xs k.done w.2)
]

pub queue_put : {M T : Type 0} (b : Machine M T) (m : Meaning T) (x n : M) (queue : List T) (xs : Inputs M) (sent : ℕ) → HoldsQueue b m x queue n → IsOwnerBalanced b n (sent_over xs) (sent + length queue) (IsRowBalanced b n 0 xs) → IsOwnerBalanced b x (sent_over xs) sent (IsRowBalanced b x 0 xs)
queue_put b m x n queue xs sent k h = elim h [
  | inl f ↦ inl (k.ended ∙ f)
  | inr w ↦ inr (k.ended ∙ w.0, k.counts (sent_over xs) sent w.1, row_done b n x 0 xs (λ j. sym (k.done j)) w.2)
]
