-- Two pieces of a part that was cut are joined again.
use Rattle.std.proofs.Common.{◌≡◌, inl, inr, ℕ, ◌+◌, ◌-◌, true, false, List, ◌∷◌, ◌++◌, length, refl, ap, sym, ◌∙◌, subst, arith, Option, Some, None, slice_get}
use Rattle.std.specs.Prelude.{not}
use Rattle.std.proofs.lemmas.Bool.{and_parts, cases_lt}
use Rattle.rsx_sources.specs.Prelude.{Meaning, Reading, Signal, Stream, reads_hub}
use Rattle.rsx_sources.specs.declared.machine.Machine.{Ghosts as Machine}
use Rattle.rsx_rooted.specs.declared.nodes.CrossingNodes.{Ghosts as CrossingNodes}
use Rattle.rsx_rooted.proofs.Locals.{reads_not_on}
use Rattle.rsx_rooted.specs.Local.{AllOf, IsOf, ReadsNot}
use Rattle.rsx_tree.specs.Edges.{edge_view}
use Rattle.rsx_tree.specs.Stepped.{Station, station_of}
use Rattle.rsx_tree.specs.Reads.{AllGoOn, IsReadAt, IsTreeReadAt, readings, row_readings}
use Rattle.rsx_tree.specs.declared.edge.EdgeState.TheVariants.{Live}
use Rattle.rsx_tree.specs.declared.inputs.Inputs.{Inputs, End, More'}
use Rattle.rsx_tree.specs.declared.node.Node.{Node}
use Rattle.rsx_pipe.proofs.Cuts.{sender_is}
use Rattle.rsx_pipe.specs.Cutting.{IsCut, Place, can_join, can_join_in, held_in, is_end, joined, place_at, with_node}
use Rattle.rsx_pipe.specs.Output.{counts_in}
use Rattle.rsx_pipe.specs.Part.{Part}
use Rattle.rsx_pipe.specs.Tree.{IsBalanced}
use Rattle.rsx_link.specs.Signals.{items_in}
use Rattle.rsx_region.specs.Joined.{AgreesOn, IsReader, JoinsReading, sent_over_edge}
use Rattle.rsx_region.specs.Open.{is_clear, is_live_over, is_open_over}
use Rattle.rsx_region.specs.Piece.{GoesOn}
use Rattle.rsx_region.proofs.Balances.{put_balanced, queue_put}
use Rattle.rsx_region.proofs.Cleared.{clear_put}
use Rattle.rsx_region.proofs.CutParts.{HoldsLaw, IsNot, agreed, cut_live, cut_readings, cuts_balanced, live_there, put_reads, readings_put, tree_over}
use Rattle.rsx_region.proofs.ClearBefore.{clear_both, clear_open}
use Rattle.rsx_region.proofs.EdgePlaces.{IsThere, is_false, open_root, place_below, place_here, same_some, with_below, with_here}
use Rattle.rsx_region.proofs.Spliced.{AllBut, SameAt, all_of_both, all_spliced, but_goes, but_of_both}

-- ---- the edge at which they are joined

pub place_is : {M : Type 0} (at : ℕ) (k : Place M) (t : Node M) → place_at at t ≡ Some k → IsThere at t × (t ≡ with_node at k.node k.below t)
place_is {M} at k t h = elim (cases_lt 0 at) [
  | inr z ↦
      let here : at ≡ 0 = omega (arith, z) in
      let is : record { node = t.machine; below = t.inputs } ≡ k = same_some _ _ (sym (place_here at t here) ∙ h) in
      ((λ l. omega (arith, z, l)), ap (λ j. let n : Node M = record { machine = j.node; inputs = j.below } in n) is ∙ sym (with_here at k.node k.below t here))
  | inl l ↦
      let found = sender_is t.inputs (at - 1) k (sym (place_below at t l) ∙ h) in
      ((λ j. found.0), ap (λ r. let n : Node M = record { machine = t.machine; inputs = r } in n) found.1 ∙ sym (with_below at k.node k.below t l))
]

-- what a join that isn't refused says of the edge
pub record CanJoin {M T : Type 0} (b : Machine M T) (part : Part M) (at k : ℕ) (lower : M) : Type 0 where
  pub straight : b.crosses lower ≡ false
  pub place : Place M
  pub there : place_at at part.tree ≡ Some place
  pub alone : place.below ≡ End
  pub reads : reads_hub k (b.reads place.node) ≡ true

pub ended_row : {M : Type 0} (t : Inputs M) → is_end t ≡ true → t ≡ End
ended_row End h = refl
ended_row (More' e n p below q beside) h = cc

pub can_join_is : {M T : Type 0} (b : Machine M T) (crossing : CrossingNodes M T) (part : Part M) (at k : ℕ) (lower : M) (rest : List T) → can_join b crossing part at k lower rest ≡ true → CanJoin b part at k lower
can_join_is {M} {T} b crossing part at k lower rest h =
    let parts = and_parts (not (b.crosses lower)) _ h in by_place (place_at at part.tree) refl parts.1 (is_false (b.crosses lower) parts.0)
  where
    by_place : (o : Option (Place M)) → place_at at part.tree ≡ o → can_join_in b crossing k rest o ≡ true → b.crosses lower ≡ false → CanJoin b part at k lower
    by_place None is can straight = cc
    by_place (Some p) is can straight =
        let first = and_parts (is_end p.below) _ can in
        record { straight = straight; place = p; there = is; alone = ended_row p.below first.0; reads = (and_parts (reads_hub k (b.reads p.node)) _ first.1).0 }

-- ---- the counts

-- in the queue of the joined edge is what the reader holds and then these items; with them the edge counts so many
abbrev pub CountsAll : {M T : Type 0} → CrossingNodes M T → Part M → ℕ → List T → ℕ → Station M → Type 0
CountsAll crossing upper at rest count there = there.sent + length (held_in crossing (place_at at upper.tree) ++ rest) ≡ count

-- where the edge at which a part was cut is clear in the upper piece as it was then, no receiver over it had ended or was done
pub cut_open : {M T : Type 0} (b : Machine M T) (crossing : CrossingNodes M T) (old new below : Part M) (at : ℕ) (reader : M) (queue : List T) → IsCut b crossing old at reader below queue new → is_clear b new.tree at ≡ true → is_open_over b old at ≡ true
cut_open {M} b crossing old new below at reader queue c clear = elim (cases_lt 0 at) [
  | inr z ↦ open_root b old at (omega (arith, z))
  | inl pos ↦
      let x = crossing.queued queue below.tree.machine in
      let there = live_there old at (cut_live b crossing old new below at reader queue c) in
      let whole = ap (λ t. is_clear b t at) c.whole ∙ clear_put b at at x reader below.tree.inputs old.tree pos there (omega arith) in
      clear_open b old at (whole ∙ (ap (λ p. is_clear b p.tree at) (sym c.upper) ∙ clear))
]

-- where the node at the lower root has no queue
pub balanced_over : {M T : Type 0} (b : Machine M T) (crossing : CrossingNodes M T) → HoldsLaw b crossing →
    (m : Meaning T) (old new upper below lower : Part M) (at k before : ℕ) (reader : M) (queue rest : List T) (went out : List (Signal T)) (taken_above taken_below : List (Stream T)) → b.crosses lower.tree.machine ≡ false →
    IsCut b crossing old at reader below queue new → IsReader b crossing k before reader → sent_over_edge old at ≡ Some before → before + length queue ≡ below.root.demand.sent →
    IsBalanced b old.tree old.root.demand.sent → GoesOn b taken_above new.tree upper went → old.root.demand.sent + items_in went ≡ upper.root.demand.sent → upper.root.state ≡ Live →
    (is_live_over upper at ≡ true → GoesOn b taken_below below.tree lower out) → below.root.demand.sent + items_in out ≡ lower.root.demand.sent →
    ((s : Station M) → station_of upper.tree (edge_view upper.root) at ≡ Some s → is_open_over b upper at ≡ true → IsBalanced b upper.tree upper.root.demand.sent → CountsAll crossing upper at rest lower.root.demand.sent s) → IsBalanced b (joined crossing upper at lower rest).tree (joined crossing upper at lower rest).root.demand.sent
balanced_over {M} b crossing holds m old new upper below lower at k before reader queue rest went out taken_above taken_below straight c rd count sum h up count_up live low count_low all =
    let items = held_in crossing (place_at at upper.tree) in
    let x = crossing.queued (items ++ rest) lower.tree.machine in
    let cuts = cuts_balanced b crossing holds m old new below at k before reader queue c rd count sum h in
    let root : new.root.demand.sent ≡ old.root.demand.sent = ap (λ p. p.root.demand.sent) c.upper in
    let N : ℕ → Type 0 = λ n. IsBalanced b new.tree n in
    let L : ℕ → Type 0 = λ n. IsBalanced b lower.tree n in
    let bal = up.balance old.root.demand.sent count_up (subst N root cuts.0) in
    put_balanced b x lower.tree.inputs upper at (λ t is clear on.
    let opened = cut_open b crossing old new below at reader queue c (up.clear at (clear_both b upper at clear on)) in
    queue_put b m x lower.tree.machine (items ++ rest) lower.tree.inputs t.sent (holds m (items ++ rest) lower.tree.machine straight)
    (subst L (sym (all t is clear bal)) ((low on).balance below.root.demand.sent count_low (cuts.1 opened)))
    ) live bal

-- ---- what the nodes read

-- that no node but the reader reads the link: none of the upper piece, and none of the lower one, then and now
pub record Apart {M T : Type 0} (b : Machine M T) (k at : ℕ) (upper below lower : Part M) : Type 0 where
  pub above : AllBut (IsNot k) at (readings b upper.tree)
  pub then_below : ReadsNot b k below.tree
  pub now_below : ReadsNot b k lower.tree

pub apart : {M T : Type 0} (b : Machine M T) (crossing : CrossingNodes M T) → HoldsLaw b crossing → (m : Meaning T) (old new upper below lower : Part M) (at k : ℕ) (reader : M) (queue : List T) → IsCut b crossing old at reader below queue new → ReadsNot b k old.tree →
    AllGoOn (readings b new.tree) (readings b upper.tree) → AllGoOn (readings b below.tree) (readings b lower.tree) → Apart b k at upper below lower
apart {M} b crossing holds m old new upper below lower at k reader queue c free go_up go_low =
    let there = live_there old at (cut_live b crossing old new below at reader queue c) in
    let x = crossing.queued queue below.tree.machine in
    let none = cut_readings b (IsNot k) at x reader below.tree.inputs old.tree there c.whole free in
    let B : Node M → Type 0 = λ t. AllBut (IsNot k) at (readings b t) in
    let O : Option Reading → Type 0 = λ o. IsOf (IsNot k) o in
    let under : ReadsNot b k below.tree = (subst O (holds m queue below.tree.machine c.straight).reads none.0.0, none.0.1) in
    record {
      above = but_goes (IsNot k) at (readings b new.tree) (readings b upper.tree) go_up (subst B (sym (ap (λ p. p.tree) c.upper)) none.1);
      then_below = under;
      now_below = reads_not_on (IsNot k) (readings b below.tree) (readings b lower.tree) go_low under;
    }

-- no node of a part reads it in which such a node, with such inputs, takes the place of the reader
pub put_reads_not : {M T : Type 0} (b : Machine M T) (k at : ℕ) (x : M) (xs : Inputs M) (place : Place M) (upper : Part M) → place_at at upper.tree ≡ Some place → place.below ≡ End → AllBut (IsNot k) at (readings b upper.tree) → AllOf (IsNot k) (b.reads x ∷ row_readings b xs) → ReadsNot b k (with_node at x xs upper.tree)
put_reads_not {M} b k at x xs place upper there alone above low =
    let is = place_is at place upper.tree there in
    let leaf = place.node in
    let tree : upper.tree ≡ with_node at leaf End upper.tree = is.1 ∙ ap (λ r. with_node at leaf r upper.tree) alone in
    let A : List (Option Reading) → Type 0 = λ l. AllOf (IsNot k) l in
    let B : Node M → Type 0 = λ t. AllBut (IsNot k) at (readings b t) in
    subst A (sym (readings_put b at x leaf xs upper.tree is.0)) (all_spliced (IsNot k) at (b.reads x ∷ row_readings b xs) (readings b (with_node at leaf End upper.tree)) low (subst B tree above))

-- none of the joined part does
pub joined_reads_not : {M T : Type 0} (b : Machine M T) (crossing : CrossingNodes M T) → HoldsLaw b crossing → (m : Meaning T) (upper below lower : Part M) (at k : ℕ) (place : Place M) (rest : List T) → b.crosses lower.tree.machine ≡ false → place_at at upper.tree ≡ Some place → place.below ≡ End → Apart b k at upper below lower → ReadsNot b k (joined crossing upper at lower rest).tree
joined_reads_not {M} b crossing holds m upper below lower at k place rest straight there alone h =
    let queue = held_in crossing (place_at at upper.tree) ++ rest in
    let O : Option Reading → Type 0 = λ o. IsOf (IsNot k) o in
    put_reads_not b k at (crossing.queued queue lower.tree.machine) lower.tree.inputs place upper there alone h.above (subst O (sym (holds m queue lower.tree.machine straight).reads) h.now_below.0, h.now_below.1)

pub reading_over : {M T : Type 0} (b : Machine M T) (crossing : CrossingNodes M T) → HoldsLaw b crossing →
    (m : Meaning T) (old new upper below lower : Part M) (at k : ℕ) (reader : M) (queue rest : List T) (taken_above taken_below whole : List (Stream T)) → b.crosses lower.tree.machine ≡ false →
    IsCut b crossing old at reader below queue new → ReadsNot b k old.tree → AllGoOn (readings b new.tree) (readings b upper.tree) → AllGoOn (readings b below.tree) (readings b lower.tree) →
    AgreesOn b k taken_above whole upper.tree → AgreesOn b k taken_below whole lower.tree → IsTreeReadAt b (counts_in taken_above) upper.tree → upper.root.state ≡ Live → (is_live_over upper at ≡ true → IsTreeReadAt b (counts_in taken_below) lower.tree) →
    IsTreeReadAt b (counts_in whole) (joined crossing upper at lower rest).tree
reading_over b crossing holds m old new upper below lower at k reader queue rest taken_above taken_below whole straight c free go_up go_low above under h live low =
    let none = apart b crossing holds m old new upper below lower at k reader queue c free go_up go_low in
    let items = held_in crossing (place_at at upper.tree) ++ rest in
    let x = crossing.queued items lower.tree.machine in
    let up = counts_in taken_above in
    let down = counts_in taken_below in
    let all = counts_in whole in
    let same_up = but_of_both (IsNot k) (λ i. IsNot k i → slice_get whole i ≡ slice_get taken_above i) (SameAt up all) (agreed k taken_above whole) at (readings b upper.tree) none.above above in
    let same_low = all_of_both (IsNot k) (λ i. IsNot k i → slice_get whole i ≡ slice_get taken_below i) (SameAt down all) (agreed k taken_below whole) (readings b lower.tree) none.now_below under in
    let R : Option Reading → Type 0 = λ o. IsReadAt all o in
    put_reads b up all x lower.tree.inputs upper at same_up (λ on.
    let got = tree_over b down all lower.tree same_low (low on) in (subst R (sym (holds m items lower.tree.machine straight).reads) got.0, got.1)
    ) live h

pub joins_reading : {M T : Type 0} (b : Machine M T) (crossing : CrossingNodes M T) → HoldsLaw b crossing → JoinsReading b crossing
joins_reading b crossing holds m old new upper below lower at k reader queue rest taken_above taken_below whole c reads free can go_up go_low above under h live low =
    reading_over b crossing holds m old new upper below lower at k reader queue rest taken_above taken_below whole (can_join_is b crossing upper at k lower.tree.machine rest can).straight c free go_up go_low above under h live low
