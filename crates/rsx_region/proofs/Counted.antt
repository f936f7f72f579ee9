-- What the edge counts at which two pieces are joined again: what the lower piece sent, of which some came to the reader.
use Rattle.std.proofs.Common.{◌≡◌, inl, inr, ℕ, ◌+◌, true, false, List, [], ◌++◌, length, map, refl, ap, sym, ◌∙◌, subst, arith, Some}
use Rattle.std.specs.Prelude.{not}
use Rattle.std.proofs.lemmas.Bool.{and_parts}
use Rattle.std.proofs.lemmas.List.{append-nil, length-append}
use Rattle.rsx_sources.specs.Prelude.{Next, Reading, Signal, Stream, reads_hub}
use Rattle.rsx_sources.specs.declared.machine.Machine.{Ghosts as Machine}
use Rattle.rsx_rooted.specs.declared.nodes.CrossingNodes.{Ghosts as CrossingNodes}
use Rattle.rsx_tree.specs.Balance.{sent_over}
use Rattle.rsx_tree.specs.Edges.{edge_view}
use Rattle.rsx_tree.specs.Stepped.{Station, station_of}
use Rattle.rsx_pipe.proofs.Cuts.{holds_some}
use Rattle.rsx_pipe.specs.Cutting.{Place, ReadsAt, can_join, can_join_here, can_join_in, held_in, is_end, place_at}
use Rattle.rsx_pipe.specs.Part.{Part}
use Rattle.rsx_pipe.specs.Tree.{IsBalanced}
use Rattle.rsx_link.specs.Ends.{carried_down}
use Rattle.rsx_link.specs.Signals.{items_in}
use Rattle.rsx_region.specs.Inlet.{HaveBegun, InletStands, IsBegunAt}
use Rattle.rsx_region.specs.Joined.{IsReader, JoinsBalanced}
use Rattle.rsx_region.specs.Open.{is_open_over}
use Rattle.rsx_region.specs.declared.inlet.Inlet.{Inlet}
use Rattle.rsx_tree.specs.Reads.{readings}
use Rattle.rsx_region.proofs.Balances.{under_balanced}
use Rattle.rsx_region.proofs.CutParts.{HoldsLaw}
use Rattle.rsx_region.proofs.Joinings.{items_next, node_reached, tree_each}
use Rattle.rsx_region.proofs.Pieces.{items_more}
use Rattle.rsx_region.proofs.Rejoining.{CountsAll, balanced_over, can_join_is}

-- the law of a node that reads a hub or a link
abbrev pub CountedLaw : {M T : Type 0} → Machine M T → CrossingNodes M T → Type 0
CountedLaw {M} {T} b crossing =
    (n : M) (items : List T) (r : Reading) → crossing.held n ≡ Some items → b.reads n ≡ Some r → (b.ended n ≡ false) × ((taken : List ℕ) (sent : ℕ) → b.counted n taken sent → r.missed + sent + length items ≡ r.reached + r.before)

-- a reader of a link of which nothing came yet
pub fresh : {M T : Type 0} (b : Machine M T) (crossing : CrossingNodes M T) (k before : ℕ) (n : M) → IsReader b crossing k before n → ReadsAt b k 0 n
fresh b crossing k before n h = (record { hub = k; reached = 0; missed = 0; before = before }, h.reads, refl, refl)

-- what the node over the edge holds that can be joined to
pub can_held : {M T : Type 0} (b : Machine M T) (crossing : CrossingNodes M T) (part : Part M) (at k : ℕ) (lower : M) (rest : List T) (place : Place M) → place_at at part.tree ≡ Some place → can_join b crossing part at k lower rest ≡ true → crossing.held place.node ≡ Some (held_in crossing (place_at at part.tree))
can_held b crossing part at k lower rest place there can =
    let parts = and_parts (not (b.crosses lower)) _ can in
    let here : can_join_here b crossing k rest place.node place.below ≡ true = sym (ap (can_join_in b crossing k rest) there) ∙ parts.1 in
    let last = and_parts (is_end place.below) _ here in
    holds_some (crossing.held place.node) (length rest) (and_parts (reads_hub k (b.reads place.node)) _ last.1).1 ∙ ap Some (sym (ap (held_in crossing) there))

-- with what its counts began that read this link
pub has_begun : {M T : Type 0} (b : Machine M T) (upper : Part M) (at k before : ℕ) (place : Place M) (r : Reading) (i : Inlet T) (takens : List (Stream T)) → place_at at upper.tree ≡ Some place → b.reads place.node ≡ Some r → r.hub ≡ k → InletStands b takens upper i → i.hub ≡ k → carried_down i.down ≡ before → (r.missed ≡ 0) × (r.before ≡ before)
has_begun b upper at k before place r i takens there reads hub st same carried =
    let R : ℕ → ℕ → Type 0 = λ h n. HaveBegun h n (readings b upper.tree) in
    let all = subst (λ h. R h before) same (subst (R i.hub) carried st.began) in
    subst (IsBegunAt k before) reads (tree_each b (IsBegunAt k before) upper.tree at place there all) hub

-- of so many items that came, and others that are left, the edge counts all
pub counts_all : {M T : Type 0} (b : Machine M T) (crossing : CrossingNodes M T) → CountedLaw b crossing →
    (p : Part M) (at before came below lower : ℕ) (place : Place M) (s : Station M) (r : Reading) (rest queue : List T) (out : List (Signal T)) → place_at at p.tree ≡ Some place → crossing.held place.node ≡ Some (held_in crossing (place_at at p.tree)) → b.reads place.node ≡ Some r → r.reached ≡ came → (r.missed ≡ 0) × (r.before ≡ before) →
    came + length rest ≡ length queue + items_in out → before + length queue ≡ below → below + items_in out ≡ lower → station_of p.tree (edge_view p.root) at ≡ Some s → is_open_over b p at ≡ true → IsBalanced b p.tree p.root.demand.sent → CountsAll crossing p at rest lower s
counts_all b crossing law p at before came below lower place s r rest queue out there held reads reached began all sum end is clear bal =
    let l = law place.node (held_in crossing (place_at at p.tree)) r held reads in
    let long = length-append (held_in crossing (place_at at p.tree)) rest in
    elim (under_balanced b p at place s there is clear bal) [
      | inl e ↦ let f = l.0 in cc
      | inr k ↦ let c = l.1 (sent_over place.below) s.sent k.1 in let missed = began.0 in let before_is = began.1 in omega (arith, c, long, reached, missed, before_is, all, sum, end)
    ]

-- the items that came and those that are left are those of the queue and what was sent
pub items_all : {T : Type 0} (taken rest queue : List T) (out last : List (Signal T)) → map Next taken ++ (map Next rest ++ last) ≡ map Next queue ++ (out ++ last) → length taken + length rest ≡ length queue + items_in out
items_all taken rest queue out last h =
    let e = ap items_in h in
    let a = items_more (map Next taken) (map Next rest ++ last) in
    let c = items_more (map Next rest) last in
    let d = items_more (map Next queue) (out ++ last) in
    let f = items_more out last in
    let x = items_next taken in
    let y = items_next rest in
    let z = items_next queue in
    omega (arith, e, a, c, d, f, x, y, z)

pub joins_balanced : {M T : Type 0} (b : Machine M T) (crossing : CrossingNodes M T) → HoldsLaw b crossing → CountedLaw b crossing → JoinsBalanced b crossing
joins_balanced b crossing holds law m old new upper below lower at k before reader queue rest taken went out inlet ta tb c rd count sum h can up count_up live low count_low link hub carried came all =
    let j = can_join_is b crossing upper at k lower.tree.machine rest can in
    let far = node_reached b upper at k j.place taken inlet ta j.there j.reads link hub came in
    let held = can_held b crossing upper at k lower.tree.machine rest j.place j.there can in
    let began = has_begun b upper at k before j.place far.0 inlet ta j.there far.1 far.2 link hub carried in
    balanced_over b crossing holds m old new upper below lower at k before reader queue rest went out ta tb j.straight c rd count sum h up count_up live low count_low (λ s is clear bal.
    counts_all b crossing law upper at before (length taken) below.root.demand.sent lower.root.demand.sent j.place s far.0 rest queue out j.there held far.1 far.3 began
    (items_all taken rest queue out [] (ap (λ l. map Next taken ++ l) (append-nil (map Next rest)) ∙ (all ∙ ap (λ l. map Next queue ++ l) (sym (append-nil out))))) sum count_low is clear bal)
