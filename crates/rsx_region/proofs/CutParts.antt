-- A part that is cut into two pieces: the counts along the edges of both, and what their nodes read.
use Rattle.std.proofs.Common.{◌≡◌, inl, inr, ℕ, zero, suc, ◌+◌, ◌-◌, ◌<◌, Bool, true, false, nat_eq, nat_le, if◌then◌else◌, List, [], ◌∷◌, length, map, refl, ap, sym, ◌∙◌, subst, arith, Option, Some, None, option_map, slice_get}
use Rattle.std.proofs.lemmas.Bool.{and_parts, cases_lt, le-leb, lt-leb}
use Rattle.std.proofs.lemmas.List.{append-nil}
use Rattle.rsx_types.proofs.Numbers.{not_zero}
use Rattle.rsx_sources.specs.Prelude.{Meaning, Reading, Stream}
use Rattle.rsx_sources.specs.declared.machine.Machine.{Ghosts as Machine}
use Rattle.rsx_rooted.specs.declared.nodes.CrossingNodes.{Ghosts as CrossingNodes}
use Rattle.rsx_rooted.proofs.Puts.{size_least}
use Rattle.rsx_rooted.specs.Flow.{HoldsQueue}
use Rattle.rsx_rooted.specs.Local.{AllOf}
use Rattle.rsx_rooted.specs.Splice.{splice}
use Rattle.rsx_tree.proofs.Changes.{chosen_first, chosen_second}
use Rattle.rsx_tree.specs.Edges.{EdgeView, edge_view, is_live}
use Rattle.rsx_tree.specs.Inputs.{size}
use Rattle.rsx_tree.specs.Reads.{IsReadAt, IsRowReadAt, IsTreeReadAt, count_before, readings, row_readings}
use Rattle.rsx_tree.specs.Swapped.{put_at}
use Rattle.rsx_tree.specs.declared.edge.EdgeState.TheVariants.{Live}
use Rattle.rsx_tree.specs.declared.inputs.Inputs.{Inputs, End, More'}
use Rattle.rsx_tree.specs.declared.node.Node.{Node}
use Rattle.rsx_pipe.specs.Cutting.{IsCut, Place, new_root, place_at, root_below, with_node}
use Rattle.rsx_pipe.specs.Output.{counts_in}
use Rattle.rsx_pipe.specs.Part.{Part}
use Rattle.rsx_pipe.specs.Tree.{IsBalanced}
use Rattle.rsx_region.specs.Joined.{CutsBalanced, CutsReading}
use Rattle.rsx_region.specs.Open.{is_live_over, is_row_live}
use Rattle.rsx_region.proofs.Balances.{put_balanced, queue_taken, under_balanced}
use Rattle.rsx_region.proofs.Pieces.{live_from}
use Rattle.rsx_region.proofs.EdgePlaces.{IsThere, both, edge_station, live_below, live_beside, live_here, live_root, live_under, place_below, place_here, place_put, row_live_under, same_some, with_below, with_here}
use Rattle.rsx_region.proofs.Spliced.{AllBut, SameAt, all_but, all_of_both, but_later, later, length_readings, read_over, row_over, row_put_reads, row_readings_put, row_under_reads, spliced_low, spliced_rest}

-- ---- an edge that is cut is live

kept_if : {A : Type 0} (c : Bool) (o : Option A) (x : A) → (if c then o else None) ≡ Some x → (c ≡ true) × (o ≡ Some x)
kept_if true o x h = (refl, h)
kept_if false o x h = cc

row_cut_live : {M T : Type 0} (queue : M → Option (List T)) (t : Inputs M) (at : ℕ) (x : EdgeView) → root_below queue at t ≡ Some x → is_row_live t at ≡ true
row_cut_live queue End at x h = cc
row_cut_live {M} queue (More' e n p below q beside) at x h = elim (cases_lt 0 at) [
  | inr z ↦
      let here : at ≡ 0 = omega (arith, z) in
      live_here at e n p q below beside here ∙ (kept_if (is_live e.state) _ x (sym (ap (λ k. root_below queue k (More' e n p below q beside)) here) ∙ h)).0
  | inl l ↦ elim (cases_lt (size below) at) [
    | inr w ↦
        let k = kept_if (is_live e.state) (root_below queue (at - 1) below) x (sym (chosen_second (nat_eq at 0) _ _ (not_zero at l) ∙ chosen_first (nat_le at (size below)) _ _ (le-leb at (size below) w)) ∙ h) in
        live_below at e n p q below beside l w ∙ both (is_live e.state) _ k.0 (row_cut_live queue below (at - 1) x k.1)
    | inl w ↦
        live_beside at e n p q below beside w
        ∙ row_cut_live queue beside (at - 1 - size below) x (sym (chosen_second (nat_eq at 0) _ _ (not_zero at l) ∙ chosen_second (nat_le at (size below)) _ _ (lt-leb at (size below) w)) ∙ h)
  ]
]

new_root_live : {M T : Type 0} (queue : M → Option (List T)) (part : Part M) (at : ℕ) (x : EdgeView) → new_root queue part at ≡ Some x → is_live_over part at ≡ true
new_root_live queue part at x h = elim (cases_lt 0 at) [
  | inr z ↦
      let here : at ≡ 0 = omega (arith, z) in
      live_root part at here (kept_if (is_live part.root.state) _ x (sym (ap (new_root queue part) here) ∙ h)).0
  | inl l ↦
      let k = kept_if (is_live part.root.state) (root_below queue (at - 1) part.tree.inputs) x (sym (chosen_second (nat_eq at 0) _ _ (not_zero at l)) ∙ h) in
      live_under part at l k.0 (row_cut_live queue part.tree.inputs (at - 1) x k.1)
]

pub cut_live : {M T : Type 0} (b : Machine M T) (crossing : CrossingNodes M T) (old new below : Part M) (at : ℕ) (reader : M) (queue : List T) → IsCut b crossing old at reader below queue new → is_live_over old at ≡ true
cut_live b crossing old new below at reader queue c = new_root_live crossing.edge_queue old at (edge_view below.root) c.edge

row_live_there : {M : Type 0} (t : Inputs M) (at : ℕ) → is_row_live t at ≡ true → at < size t
row_live_there End at h = cc
row_live_there (More' e n p below q beside) at h = elim (cases_lt 0 at) [
  | inr z ↦ omega (arith, z)
  | inl l ↦ elim (cases_lt (size below) at) [
    | inr w ↦ let rec = row_live_there below (at - 1) (and_parts (is_live e.state) _ (sym (live_below at e n p q below beside l w) ∙ h)).1 in omega (arith, rec, l)
    | inl w ↦ let rec = row_live_there beside (at - 1 - size below) (sym (live_beside at e n p q below beside w) ∙ h) in omega (arith, rec, w)
  ]
]

pub live_there : {M : Type 0} (part : Part M) (at : ℕ) → is_live_over part at ≡ true → IsThere at part.tree
live_there part at h l = row_live_there part.tree.inputs (at - 1) (row_live_under part at l h)

pub root_of_live : {M : Type 0} (part : Part M) (at : ℕ) → is_live_over part at ≡ true → part.root.state ≡ Live
root_of_live part at h = live_from part.root.state (is_live part.root.state) refl (and_parts (is_live part.root.state) _ h).0

-- ---- the counts

-- the law of a node with a queue
abbrev pub HoldsLaw : {M T : Type 0} → Machine M T → CrossingNodes M T → Type 0
HoldsLaw {M} {T} b crossing = (m : Meaning T) (q : List T) (n : M) → b.crosses n ≡ false → HoldsQueue b m (crossing.queued q n) q n

pub cuts_balanced : {M T : Type 0} (b : Machine M T) (crossing : CrossingNodes M T) → HoldsLaw b crossing → CutsBalanced b crossing
cuts_balanced {M} {T} b crossing holds m old new below at k before reader queue c rd count sum h =
    let live = cut_live b crossing old new below at reader queue c in
    let s = edge_station old at before count in
    let x = crossing.queued queue below.tree.machine in
    let there = live_there old at live in
    let place : place_at at old.tree ≡ Some (record { node = x; below = below.tree.inputs }) = ap (place_at at) c.whole ∙ place_put at x below.tree.inputs old.tree there in
    let P : Part M → Type 0 = λ p. IsBalanced b p.tree p.root.demand.sent in
    let L : ℕ → Type 0 = λ n. IsBalanced b below.tree n in (
      subst P (sym c.upper)
          (put_balanced b reader End old at (λ t is clear on. inr (rd.goes_on, let C : ℕ → Type 0 = λ n. b.counted reader [] n in subst C (sym (ap (λ o. o.sent) (same_some _ _ (sym is ∙ s.1)) ∙ s.2)) (rd.counted []), tt)) (root_of_live old at live) h),
      λ clear. subst L (ap (λ n. n + length queue) s.2 ∙ sum)
          (queue_taken b m x below.tree.machine queue below.tree.inputs s.0.sent (holds m queue below.tree.machine c.straight)
          (under_balanced b old at (record { node = x; below = below.tree.inputs }) s.0 place s.1 clear h)),
    )

-- ---- what the nodes read

-- the list of what a tree reads, where a node is put
pub readings_put : {M T : Type 0} (b : Machine M T) (at : ℕ) (x y : M) (xs : Inputs M) (t : Node M) → IsThere at t → readings b (with_node at x xs t) ≡ splice at (b.reads x ∷ row_readings b xs) (readings b (with_node at y End t))
readings_put b at x y xs t there = elim (cases_lt 0 at) [
  | inr z ↦
      let here : at ≡ 0 = omega (arith, z) in
      let low = b.reads x ∷ row_readings b xs in
      ap (readings b) (with_here at x xs t here) ∙ (sym (append-nil low) ∙ (ap (λ j. splice j low (b.reads y ∷ [])) (sym here) ∙ ap (λ r. splice at low (readings b r)) (sym (with_here at y End t here))))
  | inl l ↦
      let low = b.reads x ∷ row_readings b xs in
      ap (readings b) (with_below at x xs t l)
      ∙ (ap (λ r. b.reads t.machine ∷ r) (row_readings_put b x y xs t.inputs (at - 1) (there l))
      ∙ (sym (later at (at - 1) low (b.reads t.machine) (row_readings b (put_at (at - 1) y End t.inputs)) (omega (arith, l)))
      ∙ ap (λ r. splice at low (readings b r)) (sym (with_below at y End t l))))
]

-- the node that was put is among them
put_within : {M T : Type 0} (b : Machine M T) (at : ℕ) (y : M) (t : Node M) → IsThere at t → at < length (readings b (with_node at y End t))
put_within b at y t there = elim (cases_lt 0 at) [
  | inr z ↦
      let here : at ≡ 0 = omega (arith, z) in
      let all = ap (λ r. length (readings b r)) (with_here at y End t here) in omega (arith, here, all)
  | inl l ↦
      let all = ap (λ r. length (readings b r)) (with_below at y End t l) in
      let long = length_readings b (put_at (at - 1) y End t.inputs) in
      let enough = size_least t.inputs (at - 1) y End (there l) in
      omega (arith, all, long, enough, l)
]

-- of a tree that is cut: what is so of the hubs of all its nodes is so of those below the edge, and of the others
pub cut_readings : {M T : Type 0} (b : Machine M T) (P : ℕ → Type 0) (at : ℕ) (x y : M) (xs : Inputs M) (t : Node M) → IsThere at t → t ≡ with_node at x xs t → AllOf P (readings b t) → AllOf P (b.reads x ∷ row_readings b xs) × AllBut P at (readings b (with_node at y End t))
cut_readings {M} b P at x y xs t there whole h =
    let A : List (Option Reading) → Type 0 = λ l. AllOf P l in
    let low = b.reads x ∷ row_readings b xs in
    let up = readings b (with_node at y End t) in
    let all = subst A (ap (readings b) whole ∙ readings_put b at x y xs t there) h in
    (spliced_low P at low up (put_within b at y t there) all, spliced_rest P at low up all)

slice_map : {A B : Type 0} (f : A → B) (xs : List A) (i : ℕ) → slice_get (map f xs) i ≡ option_map f (slice_get xs i)
slice_map f [] i = refl
slice_map f (x ∷ xs) zero = refl
slice_map f (x ∷ xs) (suc i) = slice_map f xs i

pub counts_at : {T : Type 0} (vs : List (Stream T)) (i : ℕ) → slice_get (counts_in vs) i ≡ option_map (λ v. count_before v.ending (length v.items)) (slice_get vs i)
counts_at vs i = slice_map (λ v. count_before v.ending (length v.items)) vs i

-- where as much was taken in of a hub, the counts say the same of it
pub same_counts : {T : Type 0} (taken others : List (Stream T)) (i : ℕ) → slice_get others i ≡ slice_get taken i → SameAt (counts_in taken) (counts_in others) i
same_counts taken others i same = counts_at others i ∙ (ap (option_map (λ v. count_before v.ending (length v.items))) same ∙ sym (counts_at taken i))

abbrev pub IsNot : ℕ → ℕ → Type 0
IsNot k i = i ≡ k → ⊥

-- the hubs that are not the link
pub agreed : {T : Type 0} (k : ℕ) (taken others : List (Stream T)) (i : ℕ) → IsNot k i → (IsNot k i → slice_get others i ≡ slice_get taken i) → SameAt (counts_in taken) (counts_in others) i
agreed k taken others i apart same = same_counts taken others i (same apart)

pub tree_over : {M T : Type 0} (b : Machine M T) (counts others : List (Option ℕ)) (t : Node M) → AllOf (SameAt counts others) (readings b t) → IsTreeReadAt b counts t → IsTreeReadAt b others t
tree_over b counts others t k h = (read_over counts others (b.reads t.machine) k.0 h.0, row_over b counts others t.inputs k.1 h.1)

pub put_reads : {M T : Type 0} (b : Machine M T) (counts others : List (Option ℕ)) (x : M) (xs : Inputs M) (part : Part M) (at : ℕ) → AllBut (SameAt counts others) at (readings b part.tree) → (is_live_over part at ≡ true → IsReadAt others (b.reads x) × IsRowReadAt b others xs) →
    part.root.state ≡ Live → IsTreeReadAt b counts part.tree → IsTreeReadAt b others (with_node at x xs part.tree)
put_reads {M} b counts others x xs part at k own live h = elim (cases_lt 0 at) [
  | inr z ↦
      let here : at ≡ 0 = omega (arith, z) in
      let Q : Node M → Type 0 = λ t. IsTreeReadAt b others t in
      subst Q (sym (with_here at x xs part.tree here)) (own (live_root part at here (ap is_live live)))
  | inl l ↦
      let Q : Node M → Type 0 = λ t. IsTreeReadAt b others t in
      let n = part.tree.machine in
      let tail = but_later (SameAt counts others) at (b.reads n) (row_readings b part.tree.inputs) l k in
      subst Q (sym (with_below at x xs part.tree l)) (
        read_over counts others (b.reads n) tail.0 h.0,
        row_put_reads b counts others x xs part.tree.inputs (at - 1) tail.1 (λ row. own (live_under part at l (ap is_live live) row)) h.1,
      )
]

under_reads : {M T : Type 0} (b : Machine M T) (counts : List (Option ℕ)) (part : Part M) (at : ℕ) (k : Place M) → place_at at part.tree ≡ Some k → is_live_over part at ≡ true → IsTreeReadAt b counts part.tree → IsReadAt counts (b.reads k.node) × IsRowReadAt b counts k.below
under_reads {M} b counts part at k place live h = elim (cases_lt 0 at) [
  | inr z ↦
      let here : at ≡ 0 = omega (arith, z) in
      let node : record { node = part.tree.machine; below = part.tree.inputs } ≡ k = same_some _ _ (sym (place_here at part.tree here) ∙ place) in
      let P : Place M → Type 0 = λ j. IsReadAt counts (b.reads j.node) × IsRowReadAt b counts j.below in
      subst P node h
  | inl l ↦ row_under_reads b counts part.tree.inputs (at - 1) k (sym (place_below at part.tree l) ∙ place) (row_live_under part at l live) h.1
]

pub cuts_reading : {M T : Type 0} (b : Machine M T) (crossing : CrossingNodes M T) → HoldsLaw b crossing → CutsReading b crossing
cuts_reading {M} {T} b crossing holds m old new below at k before reader queue whole taken_above taken_below c rd free open_still above under h =
    let live = cut_live b crossing old new below at reader queue c in
    let there = live_there old at live in
    let x = crossing.queued queue below.tree.machine in
    let place : place_at at old.tree ≡ Some (record { node = x; below = below.tree.inputs }) = ap (place_at at) c.whole ∙ place_put at x below.tree.inputs old.tree there in
    let up = counts_in taken_above in
    let low = counts_in taken_below in
    let all = counts_in whole in
    let same_up : AllOf (SameAt all up) (readings b old.tree) = all_of_both (IsNot k) (λ i. IsNot k i → slice_get taken_above i ≡ slice_get whole i) (SameAt all up) (agreed k whole taken_above) (readings b old.tree) free above in
    let same_low : AllOf (SameAt all low) (readings b old.tree) = all_of_both (IsNot k) (λ i. IsNot k i → slice_get taken_below i ≡ slice_get whole i) (SameAt all low) (agreed k whole taken_below) (readings b old.tree) free under in
    let first : slice_get up k ≡ Some (Some 0) = counts_at taken_above k ∙ ap (option_map (λ v. count_before v.ending (length v.items))) open_still in
    let R : Option Reading → Type 0 = λ o. IsReadAt up o in
    let P : Part M → Type 0 = λ p. IsTreeReadAt b up p.tree in
    let lower = (cut_readings b (SameAt all low) at x reader below.tree.inputs old.tree there c.whole same_low).0 in
    let O : Option Reading → Type 0 = λ o. IsReadAt low o in
    let got = under_reads b all old at (record { node = x; below = below.tree.inputs }) place live h in (
      subst P (sym c.upper) (put_reads b all up reader End old at (all_but (SameAt all up) at (readings b old.tree) same_up) (λ on. (subst R (sym rd.reads) first, tt)) (root_of_live old at live) h),
      (subst O (holds m queue below.tree.machine c.straight).reads (read_over all low (b.reads x) lower.0 got.0), row_over b all low below.tree.inputs lower.1 got.1),
    )
