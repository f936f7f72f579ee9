-- Two pieces, joined again.
use Rattle.std.proofs.Common.{◌≡◌, inl, inr, ℕ, ◌-◌, true, List, [], ◌∷◌, length, map, refl, ap, sym, ◌∙◌, subst, arith, Option, Some, None}
use Rattle.std.specs.List.{AllByRecursion}
use Rattle.std.proofs.lemmas.Bool.{cases_lt}
use Rattle.rsx_sources.specs.Prelude.{Next, Reading, Stream, reads_hub}
use Rattle.rsx_sources.specs.declared.machine.Machine.{Ghosts as Machine}
use Rattle.rsx_rooted.specs.declared.nodes.CrossingNodes.{Ghosts as CrossingNodes}
use Rattle.rsx_rooted.proofs.Locals.{reads_not_on}
use Rattle.rsx_rooted.specs.Local.{AllOf}
use Rattle.rsx_tree.specs.Inputs.{size}
use Rattle.rsx_tree.specs.Reads.{readings, row_readings}
use Rattle.rsx_tree.specs.declared.inputs.Inputs.{Inputs, End, More'}
use Rattle.rsx_tree.specs.declared.node.Node.{Node}
use Rattle.rsx_pipe.specs.Cutting.{Place, ReadsAt, place_at, sender_at}
use Rattle.rsx_pipe.specs.Joined.{HasReached, JoinsAfterMoves}
use Rattle.rsx_pipe.specs.Part.{Part}
use Rattle.rsx_pipe.specs.Rejoined.{JoinsAfterEnding}
use Rattle.rsx_link.specs.Ends.{received_signals}
use Rattle.rsx_link.specs.Signals.{items_in}
use Rattle.rsx_region.specs.Inlet.{HaveReached, InletStands, IsReachedAt}
use Rattle.rsx_region.specs.Joining.{JoinsAgain, JoinsEnded, JoinsPieces}
use Rattle.rsx_region.specs.declared.inlet.Inlet.{Inlet}
use Rattle.rsx_region.proofs.CutParts.{HoldsLaw}
use Rattle.rsx_region.proofs.Pieces.{let_go}
use Rattle.rsx_region.proofs.EdgePlaces.{place_below, place_here, same_some, sender_below, sender_beside, sender_here}
use Rattle.rsx_region.proofs.Reached.{each_parts, eq_true}
use Rattle.rsx_region.proofs.Rejoining.{CanJoin, apart, can_join_is, joined_reads_not}

pub joins_pieces : {M T : Type 0} (b : Machine M T) (crossing : CrossingNodes M T) → JoinsAfterMoves b crossing → JoinsPieces b crossing
joins_pieces b crossing law m old new upper below lower at k reader queue rest taken queued up between taken_above taken_below whole cut held reads can reached all free free' free_below adds none above under = (
  above.out,
  above.sent,
  law m old new upper below lower at k reader queue rest taken under.out above.out taken_above taken_below whole cut held reads can reached (all ∙ under.sent) free free'
      (reads_not_on (λ i. i ≡ k → ⊥) (readings b below.tree) (readings b lower.tree) under.reading free_below) adds none above.flow under.flow,
)

-- ---- with less to know

-- each reading of a row, and that of the node over an edge
row_each : {M T : Type 0} (b : Machine M T) (Q : Option Reading → Type 0) (t : Inputs M) (at : ℕ) (k : Place M) → sender_at at t ≡ Some k → AllByRecursion Q (row_readings b t) → Q (b.reads k.node)
row_each b Q End at k place h = cc
row_each {M} b Q (More' e n p below q beside) at k place h = elim (cases_lt 0 at) [
  | inr z ↦
      let node : record { node = n; below = below } ≡ k = same_some _ _ (sym (sender_here at e n p q below beside (omega (arith, z))) ∙ place) in
      let P : Place M → Type 0 = λ j. Q (b.reads j.node) in subst P node h.0
  | inl l ↦ elim (cases_lt (size below) at) [
    | inr w ↦ row_each b Q below (at - 1) k (sym (sender_below at e n p q below beside l w) ∙ place) (each_parts Q (row_readings b below) (row_readings b beside) h.1).0
    | inl w ↦ row_each b Q beside (at - 1 - size below) k (sym (sender_beside at e n p q below beside w) ∙ place) (each_parts Q (row_readings b below) (row_readings b beside) h.1).1
  ]
]

pub tree_each : {M T : Type 0} (b : Machine M T) (Q : Option Reading → Type 0) (t : Node M) (at : ℕ) (k : Place M) → place_at at t ≡ Some k → AllByRecursion Q (readings b t) → Q (b.reads k.node)
tree_each {M} b Q t at k place h = elim (cases_lt 0 at) [
  | inr z ↦
      let node : record { node = t.machine; below = t.inputs } ≡ k = same_some _ _ (sym (place_here at t (omega (arith, z))) ∙ place) in
      let P : Place M → Type 0 = λ j. Q (b.reads j.node) in subst P node h.0
  | inl l ↦ row_each b Q t.inputs (at - 1) k (sym (place_below at t l) ∙ place) h.1
]

-- what a node reads that reads the hub, and reached so much of it
reading_is : (o : Option Reading) (h count : ℕ) → reads_hub h o ≡ true → IsReachedAt h count o → (r : Reading) × (o ≡ Some r) × (r.hub ≡ h) × (r.reached ≡ count)
reading_is None h count k r = cc
reading_is (Some x) h count k r = let here : x.hub ≡ h = eq_true x.hub h k in (x, refl, here, r here)

pub items_next : {T : Type 0} (xs : List T) → items_in (map Next xs) ≡ length xs
items_next [] = refl
items_next (x ∷ xs) = let k = items_next xs in omega (arith, k)

-- of a node of the upper piece that reads the link: how far it got
pub node_reached : {M T : Type 0} (b : Machine M T) (upper : Part M) (at k : ℕ) (place : Place M) (taken : List T) (i : Inlet T) (takens : List (Stream T)) → place_at at upper.tree ≡ Some place → reads_hub k (b.reads place.node) ≡ true → InletStands b takens upper i → i.hub ≡ k → received_signals i.down ≡ map Next taken → ReadsAt b k (length taken) place.node
node_reached b upper at k place taken i takens there reads st hub came =
    let R : ℕ → ℕ → Type 0 = λ h n. HaveReached h n (readings b upper.tree) in
    let count : items_in (received_signals i.down) ≡ length taken = ap items_in came ∙ items_next taken in
    let all = subst (λ h. R h (length taken)) hub (subst (R i.hub) count st.reached) in
    reading_is (b.reads place.node) k (length taken) reads (tree_each b (IsReachedAt k (length taken)) upper.tree at place there all)

pub has_reached : {M T : Type 0} (b : Machine M T) (upper : Part M) (at k : ℕ) (lower : M) (taken : List T) (i : Inlet T) (takens : List (Stream T)) → CanJoin b upper at k lower → InletStands b takens upper i → i.hub ≡ k → received_signals i.down ≡ map Next taken → HasReached b upper at k (length taken)
has_reached b upper at k lower taken i takens j st hub came = record {
  place = j.place;
  there = j.there;
  reads = node_reached b upper at k j.place taken i takens j.there j.reads st hub came;
}

pub joins_again : {M T : Type 0} (b : Machine M T) (crossing : CrossingNodes M T) → HoldsLaw b crossing → JoinsAfterMoves b crossing → JoinsAgain b crossing
joins_again b crossing holds law m old new upper below lower at k reader queue rest taken queued out up inlet taken_above taken_below whole cut held reads can link hub came all free adds none above under =
    let none_reads = apart b crossing holds m old new upper below lower at k reader queue cut free above.reading under.reading in
    let j = can_join_is b crossing upper at k lower.tree.machine rest can in
    let free' = joined_reads_not b crossing holds m upper below lower at k j.place rest j.straight j.there j.alone none_reads in
    let reached = has_reached b upper at k lower.tree.machine taken inlet taken_above j link hub came in (
      none_reads.now_below,
      free',
      (
        above.out,
        above.sent,
        law m old new upper below lower at k reader queue rest taken out above.out taken_above taken_below whole cut held reads can reached all free free' none_reads.now_below adds none above.flow under.flow,
      ),
    )

-- ---- where the lower piece has sent its ending

pub joins_ended : {M T : Type 0} (b : Machine M T) (crossing : CrossingNodes M T) → HoldsLaw b crossing → JoinsAfterEnding b crossing → JoinsEnded b crossing
joins_ended b crossing holds law m old new upper below lower at k reader queue items taken queued up between inlet taken_above taken_below whole cut held reads above under gave can link hub came all free adds none =
    let j = can_join_is b crossing upper at k gave.before.tree.machine items can in
    let gone = let_go b m gave.before gave.last lower gave.put_back in
    let none_reads = apart b crossing holds m old new upper below gave.before at k reader queue cut free above.reading gave.given.reading in
    let free' = joined_reads_not b crossing holds m upper below gave.before at k j.place items j.straight j.there j.alone none_reads in
    let reached = has_reached b upper at k gave.before.tree.machine taken inlet taken_above j link hub came in
    let A : List (Option Reading) → Type 0 = λ l. AllOf (λ i. i ≡ k → ⊥) l in (
      free',
      (
        above.out,
        above.sent,
        law m old new upper below gave.before lower at k reader queue items taken gave.last under.out above.out taken_above taken_below whole cut held reads can reached (all ∙ under.sent) gave.ends gone free free' (subst A (sym gone.alike.2) none_reads.now_below) adds none above.flow under.flow,
      ),
    )
