-- Two pieces that are joined again, as a piece.
use Rattle.std.proofs.Common.{◌≡◌, inl, inr, ℕ, zero, suc, ◌+◌, ◌-◌, ◌<◌, true, false, List, [], ◌∷◌, ◌++◌, length, map, refl, ap, sym, ◌∙◌, subst, arith, Option, Some, None, slice_get}
use Rattle.std.specs.Prelude.{not, ◌&&◌}
use Rattle.std.proofs.lemmas.Bool.{and_parts, cases_lt}
use Rattle.std.proofs.lemmas.List.{append-nil}
use Rattle.rsx_sources.specs.Prelude.{Ending, LetsGo, Meaning, Next, Complete, Error, Reading, Signal, Stream, ends_input, notes_then}
use Rattle.rsx_sources.specs.declared.machine.Machine.{Ghosts as Machine}
use Rattle.rsx_rooted.specs.declared.nodes.CrossingNodes.{Ghosts as CrossingNodes}
use Rattle.rsx_rooted.proofs.Sends.{sent_out}
use Rattle.rsx_rooted.specs.Cutting.{HoldsEnding, ending_of, endings}
use Rattle.rsx_rooted.proofs.Puts.{put_below, put_beside, put_here}
use Rattle.rsx_rooted.specs.Local.{AllOf, IsOf, ReadsNot}
use Rattle.rsx_rooted.specs.Regions.{Carries}
use Rattle.rsx_rooted.specs.Splice.{splice}
use Rattle.rsx_tree.proofs.Alike.{popped_alike}
use Rattle.rsx_tree.proofs.Popped.{ending_gone}
use Rattle.rsx_tree.proofs.Rows.{out_lets_go}
use Rattle.rsx_pipe.proofs.Rejoins.{endings_end}
use Rattle.rsx_tree.specs.Balance.{IsBalancedAfter, IsOwnerBalanced, IsRowBalanced, sent_over}
use Rattle.rsx_tree.specs.Edges.{EdgeView, edge_view, is_live}
use Rattle.rsx_tree.specs.Inputs.{comes_in, edges, notes_of, size}
use Rattle.rsx_tree.specs.Reads.{AllGoOn, IsReadAt, IsRowReadAt, readings, row_readings}
use Rattle.rsx_tree.specs.Stepped.{Station, station, station_of}
use Rattle.rsx_tree.specs.Swapped.{put_at}
use Rattle.rsx_tree.specs.Tree.{IsLetGo, NoneLive}
use Rattle.rsx_tree.specs.declared.edge.EdgeState.{EdgeState}
use Rattle.rsx_tree.specs.declared.edge.EdgeState.TheVariants.{Live, Closed, Ended}
use Rattle.rsx_tree.specs.declared.inputs.Inputs.{Inputs, End, More'}
use Rattle.rsx_tree.specs.declared.node.Node.{Node}
use Rattle.rsx_pipe.specs.Cutting.{Place, can_join, can_join_in, held_in, is_end, joined, place_at, sender_at, with_node}
use Rattle.rsx_pipe.specs.Output.{counts_in}
use Rattle.rsx_pipe.specs.Joined.{HasReached, JoinsAfterMoves}
use Rattle.rsx_pipe.specs.Part.{Part}
use Rattle.rsx_pipe.specs.Rejoined.{JoinsAfterEnding, JoinsAtEnd, can_end_here, can_put_in, can_rejoin_ended, ending_in, put_node}
use Rattle.rsx_pipe.specs.Tree.{IsAllClosed, IsBalanced}
use Rattle.rsx_link.specs.Ends.{carried_up}
use Rattle.rsx_link.specs.Signals.{items_in}
use Rattle.rsx_link.specs.declared.up.Up.{Up}
use Rattle.rsx_region.specs.Joined.{AgreesOn}
use Rattle.rsx_region.specs.Open.{WasClear, is_clear, is_live_over, is_open_over, is_row_live}
use Rattle.rsx_region.specs.Piece.{GoesOn, PieceStands}
use Rattle.rsx_region.specs.Whole.{IsBelow, JoinsWhole, JoinsWholeAtEnd, JoinsWholeEnded, WasCut}
use Rattle.rsx_region.proofs.Balances.{put_balanced, queue_put}
use Rattle.rsx_region.proofs.Cleared.{clear_both_put, clear_live, clear_queue, clear_under}
use Rattle.rsx_region.proofs.Counted.{CountedLaw, can_held, counts_all, fresh, has_begun, items_all}
use Rattle.rsx_region.proofs.CutParts.{HoldsLaw, IsNot, agreed, cut_live, cuts_balanced, live_there, put_reads, readings_put, tree_over}
use Rattle.rsx_region.proofs.Givings.{count_before, counted}
use Rattle.rsx_region.proofs.Inlets.{go_same}
use Rattle.rsx_region.proofs.Joinings.{node_reached}
use Rattle.rsx_region.proofs.ClearBefore.{clear_both}
use Rattle.rsx_region.proofs.Pieces.{let_go}
use Rattle.rsx_region.proofs.EdgePlaces.{IsThere, is_false, live_below, live_beside, live_here, place_below, row_live_under, same_some, station_below, station_beside, station_here, station_under, with_below}
use Rattle.rsx_region.proofs.Spliced.{SameAt, all_of_both, but_of_both, length_readings}
use Rattle.rsx_region.proofs.Rejoining.{CountsAll, apart, can_join_is, cut_open, ended_row, joined_reads_not, place_is, put_reads_not}

-- ---- edges none of which is live

none_both : (es fs : List EdgeView) → NoneLive es → NoneLive fs → NoneLive (es ++ fs)
none_both [] fs h k = k
none_both (e ∷ es) fs h k = (h.0, none_both es fs h.1 k)

none_parts : (es fs : List EdgeView) → NoneLive (es ++ fs) → NoneLive es × NoneLive fs
none_parts [] fs h = (tt, h)
none_parts (e ∷ es) fs h = let k = none_parts es fs h.1 in ((h.0, k.0), k.1)

none_put : {M : Type 0} (x : M) (xs t : Inputs M) (at : ℕ) → NoneLive (edges t) → NoneLive (edges xs) → NoneLive (edges (put_at at x xs t))
none_put x xs End at h k = tt
none_put {M} x xs (More' e n p below q beside) at h k =
    let N : Inputs M → Type 0 = λ u. NoneLive (edges u) in
    let parts = none_parts (edges below) (edges beside) h.1 in
    elim (cases_lt 0 at) [
      | inr z ↦ subst N (sym (put_here at x xs e n p q below beside (omega (arith, z)))) (h.0, none_both (edges xs) (edges beside) k parts.1)
      | inl l ↦ elim (cases_lt (size below) at) [
        | inr w ↦ subst N (sym (put_below at x xs e n p q below beside l w)) (h.0, none_both (edges (put_at (at - 1) x xs below)) (edges beside) (none_put x xs below (at - 1) parts.0 k) parts.1)
        | inl w ↦ subst N (sym (put_beside at x xs e n p q below beside w)) (h.0, none_both (edges below) (edges (put_at (at - 1 - size below) x xs beside)) parts.0 (none_put x xs beside (at - 1 - size below) parts.1 k))
      ]
    ]

dead_of : (s : EdgeState) → (s ≡ Live → ⊥) → is_live s ≡ false
dead_of Live h = absurd (h refl)
dead_of Ended h = refl
dead_of Closed h = refl

none_station : {M : Type 0} (t : Inputs M) (at : ℕ) (s : Station M) → station t at ≡ Some s → NoneLive (edges t) → is_live s.state ≡ false
none_station End at s is h = cc
none_station {M} (More' e n p below q beside) at s is h =
    let parts = none_parts (edges below) (edges beside) h.1 in
    elim (cases_lt 0 at) [
      | inr z ↦ sym (ap (λ o. is_live o.state) (same_some _ _ (sym (station_here at e n p q below beside (omega (arith, z))) ∙ is))) ∙ dead_of e.state h.0
      | inl l ↦ elim (cases_lt (size below) at) [
        | inr w ↦ none_station below (at - 1) s (sym (station_below at e n p q below beside l w) ∙ is) parts.0
        | inl w ↦ none_station beside (at - 1 - size below) s (sym (station_beside at e n p q below beside w) ∙ is) parts.1
      ]
    ]

-- the edge with this number is live, where it and all over it are
live_station : {M : Type 0} (t : Inputs M) (at : ℕ) (s : Station M) → station t at ≡ Some s → is_row_live t at ≡ true → is_live s.state ≡ true
live_station End at s is h = cc
live_station (More' e n p below q beside) at s is h = elim (cases_lt 0 at) [
  | inr z ↦
      let here : at ≡ 0 = omega (arith, z) in
      ap (λ o. is_live o.state) (sym (same_some _ _ (sym (station_here at e n p q below beside here) ∙ is))) ∙ (sym (live_here at e n p q below beside here) ∙ h)
  | inl l ↦ elim (cases_lt (size below) at) [
    | inr w ↦ live_station below (at - 1) s (sym (station_below at e n p q below beside l w) ∙ is) (and_parts (is_live e.state) _ (sym (live_below at e n p q below beside l w) ∙ h)).1
    | inl w ↦ live_station beside (at - 1 - size below) s (sym (station_beside at e n p q below beside w) ∙ is) (sym (live_beside at e n p q below beside w) ∙ h)
  ]
]

-- ---- what the nodes read

goes_both : (xs xs' ys ys' : List (Option Reading)) → AllGoOn xs xs' → AllGoOn ys ys' → AllGoOn (xs ++ ys) (xs' ++ ys')
goes_both [] [] ys ys' h k = k
goes_both [] (x' ∷ xs') ys ys' h k = absurd h
goes_both (x ∷ xs) [] ys ys' h k = absurd h
goes_both (x ∷ xs) (x' ∷ xs') ys ys' h k = (h.0, goes_both xs xs' ys ys' h.1 k)

goes_spliced : (c : ℕ) (low low' us us' : List (Option Reading)) → AllGoOn low low' → AllGoOn us us' → AllGoOn (splice c low us) (splice c low' us')
goes_spliced c low low' [] [] h k = h
goes_spliced c low low' [] (u' ∷ us') h k = absurd k
goes_spliced c low low' (u ∷ us) [] h k = absurd k
goes_spliced zero low low' (u ∷ us) (u' ∷ us') h k = goes_both low low' us us' h k.1
goes_spliced (suc c) low low' (u ∷ us) (u' ∷ us') h k = (k.0, goes_spliced c low low' us us' h k.1)

same_length : (rs ns : List (Option Reading)) → AllGoOn rs ns → length rs ≡ length ns
same_length [] [] h = refl
same_length [] (n ∷ ns) h = absurd h
same_length (r ∷ rs) [] h = absurd h
same_length (r ∷ rs) (n ∷ ns) h = ap suc (same_length rs ns h.1)

-- ---- a root that lets its ending go, over other inputs

nothing_counted : {M T : Type 0} (b : Machine M T) (s : Signal T) (t : Node M) (sent : ℕ) → ends_input s ≡ true → IsBalancedAfter b s t sent
nothing_counted b (Next x) t sent e = cc
nothing_counted b Complete t sent e = tt
nothing_counted b (Error c) t sent e = tt

pub lets_go_over : {M T : Type 0} (b : Machine M T) (m : Meaning T) (n n' : M) (t u : Inputs M) (s : Signal T) → ends_input s ≡ true → IsLetGo b m (record { machine = n; inputs = t }) s (record { machine = n'; inputs = t }) → IsLetGo b m (record { machine = n; inputs = u }) s (record { machine = n'; inputs = u })
lets_go_over b m n n' t u s e h =
    let gone = ending_gone b m (record { machine = n; inputs = t }) s (record { machine = n'; inputs = t }) h e in
    record {
      offered = h.offered;
      popped = (h.popped.0, refl);
      note = None;
      noting = inr refl;
      ready = n;
      noted = refl;
      lets_go = gone.0;
      recorded = gone.1;
      node = h.node;
      counts = h.counts;
      choose = λ ks. ks;
      count = λ ks. refl;
      value = λ hubs further. out_lets_go b m hubs n n' s gone.0 (comes_in b m hubs further u 1) (slice_get further 0);
      nodes = refl;
      notes = λ further. ap (λ k. notes_then (k ∷ notes_of b u) further) gone.1;
      balance = λ sent k. nothing_counted b s (record { machine = n'; inputs = u }) sent e;
      alike = popped_alike b n n' u h.node;
    }

-- ---- another node over the edge, in the place of the reader

-- the part with the node x, and these inputs below it, over the edge
abbrev put_over : {M : Type 0} → ℕ → M → Inputs M → Part M → Part M
put_over at x xs p = record p { tree = with_node at x xs p.tree }

-- What is known of them: of the node that stood there as the part was cut, with the inputs `below`, they are what came of the lower piece. It
-- is said of any part that is at the edge as the upper piece is.
record Fills {M T : Type 0} (b : Machine M T) (m : Meaning T) (old new upper : Part M) (at : ℕ) (s : Station M) (ta whole : List (Stream T)) (x0 : M) (below : Inputs M) (x : M) (xs : Inputs M) : Type 0 where
  goes : AllGoOn (b.reads x0 ∷ row_readings b below) (b.reads x ∷ row_readings b xs)
  balanced : (p : Part M) → place_at at p.tree ≡ place_at at upper.tree → station_of p.tree (edge_view p.root) at ≡ Some s → is_open_over b p at ≡ true → is_live_over p at ≡ true → WasClear b new.tree p.tree → IsBalanced b p.tree p.root.demand.sent → IsBalanced b old.tree old.root.demand.sent → IsOwnerBalanced b x (sent_over xs) s.sent (IsRowBalanced b x 0 xs)
  reads : is_live s.state ≡ true → IsReadAt (counts_in whole) (b.reads x) × IsRowReadAt b (counts_in whole) xs
  clear : is_live s.state ≡ true → WasClear b (record { machine = x0; inputs = below }) (record { machine = x; inputs = xs })
  shut : is_live s.state ≡ false → NoneLive (edges xs)
  joins : (p : Part M) (given : List (Signal T)) → place_at at p.tree ≡ place_at at upper.tree → AllGoOn (readings b new.tree) (readings b p.tree) → Carries b m ta new.tree p.tree given → Carries b m whole old.tree (with_node at x xs p.tree) given

-- the upper piece, or what it was just before its ending, which gave these signals since the part was cut
record IsOver {M T : Type 0} (b : Machine M T) (m : Meaning T) (old new upper p : Part M) (at k : ℕ) (s : Station M) (given : List (Signal T)) (ta whole : List (Stream T)) : Type 0 where
  reading : AllGoOn (readings b new.tree) (readings b p.tree)
  there : station_of p.tree (edge_view p.root) at ≡ Some s
  same : place_at at p.tree ≡ place_at at upper.tree
  counted : old.root.demand.sent + items_in given ≡ p.root.demand.sent
  agrees : AgreesOn b k ta whole p.tree

-- over a live edge its sender is live
edge_live : {M : Type 0} (p : Part M) (at : ℕ) (s : Station M) → 0 < at → station_of p.tree (edge_view p.root) at ≡ Some s → is_live_over p at ≡ true → is_live s.state ≡ true
edge_live p at s pos there h = live_station p.tree.inputs (at - 1) s (sym (station_under p at pos) ∙ there) (row_live_under p at pos h)

module _ {M T : Type 0} (b : Machine M T) (crossing : CrossingNodes M T) (holds : HoldsLaw b crossing) (m : Meaning T) (old new upper below : Part M) (at k before : ℕ) (reader : M) (place : Place M) (s : Station M) (queue : List T) (ta whole : List (Stream T)) (x : M) (xs : Inputs M) (pos : 0 < at) (w : WasCut b crossing old at k before reader below queue new) (at_place : place_at at upper.tree ≡ Some place) (alone : place.below ≡ End) (f : Fills b m old new upper at s ta whole (crossing.queued queue below.tree.machine) below.tree.inputs x xs) where
  -- the part with the reader
  leaf_there : (p : Part M) → place_at at p.tree ≡ place_at at upper.tree → IsThere at p.tree × (p.tree ≡ with_node at place.node End p.tree)
  leaf_there p same = let is = place_is at place p.tree (same ∙ at_place) in (is.0, is.1 ∙ ap (λ r. with_node at place.node r p.tree) alone)

  cut_at : IsThere at old.tree
  cut_at = live_there old at (cut_live b crossing old new below at reader queue w.cut)

  filled_reading : (p : Part M) → place_at at p.tree ≡ place_at at upper.tree → AllGoOn (readings b new.tree) (readings b p.tree) → AllGoOn (readings b old.tree) (readings b (with_node at x xs p.tree))
  filled_reading p same go =
      let c = w.cut in
      let x0 = crossing.queued queue below.tree.machine in
      let is = leaf_there p same in
      let rows0 = b.reads x0 ∷ row_readings b below.tree.inputs in
      let rows1 = b.reads x ∷ row_readings b xs in
      let top0 = readings b (with_node at reader End old.tree) in
      let top1 = readings b (with_node at place.node End p.tree) in
      let B0 : Node M → Type 0 = λ t. AllGoOn (readings b t) (readings b p.tree) in
      let B1 : Node M → Type 0 = λ t. AllGoOn top0 (readings b t) in
      let top = subst B1 is.1 (subst B0 (ap (λ q. q.tree) c.upper) go) in
      let C0 : List (Option Reading) → Type 0 = λ l. AllGoOn l (splice at rows1 top1) in
      let C1 : List (Option Reading) → Type 0 = λ l. AllGoOn (readings b old.tree) l in
      subst C1 (sym (readings_put b at x place.node xs p.tree is.0)) (subst C0 (sym (ap (readings b) c.whole ∙ readings_put b at x0 reader below.tree.inputs old.tree cut_at)) (goes_spliced at rows0 rows1 top0 top1 f.goes top))

  filled_clear : (p : Part M) → place_at at p.tree ≡ place_at at upper.tree → station_of p.tree (edge_view p.root) at ≡ Some s → p.root.state ≡ Live → WasClear b new.tree p.tree → WasClear b old.tree (with_node at x xs p.tree)
  filled_clear p same there live was =
      let c = w.cut in
      let x0 = crossing.queued queue below.tree.machine in
      let is = leaf_there p same in
      let U : Node M → Type 0 = λ t. WasClear b t p.tree in
      let V : Node M → Type 0 = λ t. WasClear b (with_node at reader End old.tree) t in
      let O : Node M → Type 0 = λ t. WasClear b t (with_node at x xs p.tree) in
      subst O (sym c.whole) (clear_both_put b at x0 reader x place.node below.tree.inputs xs old.tree p.tree pos cut_at is.0 (sym (length_readings b below.tree.inputs) ∙ (same_length (row_readings b below.tree.inputs) (row_readings b xs) f.goes.1 ∙ length_readings b xs))
      (subst V is.1 (subst U (ap (λ q. q.tree) c.upper) was)) (λ clear. f.clear (edge_live p at s pos there (clear_live b p at pos (ap is_live live) (ap (λ t. is_clear b t at) is.1 ∙ clear)))))

  filled_on : (p : Part M) (given : List (Signal T)) → IsOver b m old new upper p at k s given ta whole → p.root.state ≡ Live → GoesOn b ta new.tree p given → GoesOn b whole old.tree (put_over at x xs p) given
  filled_on p given o live on =
      let c = w.cut in
      let up = counts_in ta in
      let all = counts_in whole in
      let none = (apart b crossing holds m old new p below below at k reader queue c w.free o.reading (go_same (readings b below.tree))).above in
      record {
        unended = on.unended;
        balance = λ n count bal.
            let B : ℕ → Type 0 = λ j. IsBalanced b old.tree j in
            let N : ℕ → Type 0 = λ j. IsBalanced b new.tree j in
            let was = subst B (same n (items_in given) old.root.demand.sent p.root.demand.sent count o.counted) bal in
            let cuts = cuts_balanced b crossing holds m old new below at k before reader queue c w.reads w.sent w.counted was in
            let now = on.balance old.root.demand.sent o.counted (subst N (ap (λ q. q.root.demand.sent) c.upper) cuts.0) in
            put_balanced b x xs p at (λ t is open_still live_still.
            let S : Station M → Type 0 = λ z. IsOwnerBalanced b x (sent_over xs) z.sent (IsRowBalanced b x 0 xs) in
            subst S (same_some _ _ (sym o.there ∙ is)) (f.balanced p o.same o.there open_still live_still on.clear now was)
            ) live now;
        reads = put_reads b up all x xs p at (but_of_both (IsNot k) (λ i. IsNot k i → slice_get whole i ≡ slice_get ta i) (SameAt up all) (agreed k ta whole) at (readings b p.tree) none o.agrees) (λ l. f.reads (edge_live p at s pos o.there l)) live on.reads;
        clear = filled_clear p o.same o.there live on.clear;
      }
    where
      same : (n i a z : ℕ) → n + i ≡ z → a + i ≡ z → n ≡ a
      same n i a z h1 h2 = omega (arith, h1, h2)

  -- an ending that the upper piece lets go, it lets go over these inputs, too
  filled_gone : (p : Part M) (last : Signal T) → ends_input last ≡ true → p.tree.inputs ≡ upper.tree.inputs → IsLetGo b m p.tree last upper.tree → IsLetGo b m (with_node at x xs p.tree) last (with_node at x xs upper.tree)
  filled_gone p last ends inputs gone =
      let u = put_at (at - 1) x xs upper.tree.inputs in
      let n : Node M = record { machine = p.tree.machine; inputs = u } in
      let n' : Node M = record { machine = upper.tree.machine; inputs = u } in
      let G : Inputs M → Type 0 = λ i. IsLetGo b m (record { machine = p.tree.machine; inputs = i }) last upper.tree in
      let over = lets_go_over b m p.tree.machine upper.tree.machine upper.tree.inputs u last ends (subst G inputs gone) in
      let old_is : with_node at x xs p.tree ≡ n = with_below at x xs p.tree pos ∙ ap (λ i. let t : Node M = record { machine = p.tree.machine; inputs = put_at (at - 1) x xs i } in t) inputs in
      let F : Node M → Type 0 = λ t. IsLetGo b m t last n' in
      let H : Node M → Type 0 = λ t. IsLetGo b m (with_node at x xs p.tree) last t in
      subst H (sym (with_below at x xs upper.tree pos)) (subst F (sym old_is) over)

  -- the joined part is a piece
  stands_filled : (queued : List (Signal T)) (up : Up T) → carried_up up + items_in queued ≡ old.root.demand.sent → PieceStands b m ta new.tree queued upper up → station_of upper.tree (edge_view upper.root) at ≡ Some s → AgreesOn b k ta whole upper.tree → PieceStands b m whole old.tree queued (put_over at x xs upper) up
  stands_filled queued up count above there agrees =
      let spent : old.root.demand.sent + items_in above.out ≡ upper.root.demand.sent = ap (λ n. n + items_in above.out) (sym count) ∙ counted up upper.root.demand.sent queued above.out above.step.sent above.sent in
      let o : IsOver b m old new upper upper at k s above.out ta whole = record { reading = above.reading; there = there; same = refl; counted = spent; agrees = agrees } in
      record {
        out = above.out;
        sent = above.sent;
        flow = f.joins upper above.out refl above.reading above.flow;
        step = record { asked = above.step.asked; sent = above.step.sent };
        reading = filled_reading upper refl above.reading;
        crosses = ap (λ t. b.crosses t.machine) (with_below at x xs upper.tree pos) ∙ (above.crosses ∙ (ap (λ q. b.crosses q.tree.machine) w.cut.upper ∙ ap (λ t. b.crosses t.machine) (with_below at reader End old.tree pos)));
        live = λ on. filled_on upper above.out o on (above.live on);
        ended = λ over.
            let e = above.ended over in
            let p = e.before in
            let gone = let_go b m p e.last upper e.sent in
            let inputs : p.tree.inputs ≡ upper.tree.inputs = e.sent.popped.1 in
            let same = place_below at p.tree pos ∙ (ap (sender_at (at - 1)) inputs ∙ sym (place_below at upper.tree pos)) in
            let read : readings b upper.tree ≡ readings b p.tree = gone.alike.2 in
            let R : List (Option Reading) → Type 0 = λ l. AllGoOn (readings b new.tree) l in
            let A : List (Option Reading) → Type 0 = λ l. AllOf (λ i. (i ≡ k → ⊥) → slice_get whole i ≡ slice_get ta i) l in
            let go = subst R read above.reading in
            let q : IsOver b m old new upper p at k s e.rest ta whole = record {
              reading = go;
              there = station_under p at pos ∙ (ap (λ t. station t (at - 1)) inputs ∙ (sym (station_under upper at pos) ∙ there));
              same = same;
              counted = ap (λ n. n + items_in e.rest) (sym count) ∙ count_before b m ta new.tree queued upper up above.out above.sent above.step.sent e;
              agrees = subst A read agrees;
            } in
            record {
              before = put_over at x xs p;
              rest = e.rest;
              last = e.last;
              all = e.all;
              ends = e.ends;
              sent = sent_out b m (put_over at x xs p) (put_over at x xs upper) e.last (filled_gone p e.last e.ends inputs gone) e.sent.can e.sent.root;
              live = e.live;
              on = filled_on p e.rest q e.live e.on;
              flow = f.joins p e.rest same go e.flow;
            };
        closed = λ shut.
            let c = above.closed shut in
            let dead = none_station upper.tree.inputs (at - 1) s (sym (station_under upper at pos) ∙ there) c.edges in
            let N : Node M → Type 0 = λ t. IsAllClosed t in
            record { unended = c.unended; edges = subst N (sym (with_below at x xs upper.tree pos)) (none_put x xs upper.tree.inputs (at - 1) c.edges (f.shut dead)); flag = c.flag };
      }

-- ---- the lower piece, with a queue

-- what the lower piece makes of the edge, as long as no ending is in the queue
queue_fills : {M T : Type 0} (b : Machine M T) (crossing : CrossingNodes M T) → HoldsLaw b crossing →
    (m : Meaning T) (old new upper below lower : Part M) (at k before : ℕ) (reader : M) (place : Place M) (s : Station M) (queue rest : List T) (out : List (Signal T)) (ta tb whole : List (Stream T)) → 0 < at →
    WasCut b crossing old at k before reader below queue new → IsBelow b m tb below lower out s → b.crosses lower.tree.machine ≡ false → place_at at upper.tree ≡ Some place → place.below ≡ End → AgreesOn b k tb whole lower.tree → AllGoOn (readings b new.tree) (readings b upper.tree) →
    ((p : Part M) → place_at at p.tree ≡ place_at at upper.tree → station_of p.tree (edge_view p.root) at ≡ Some s → is_open_over b p at ≡ true → IsBalanced b p.tree p.root.demand.sent → CountsAll crossing p at rest lower.root.demand.sent s) →
    -- what came out of the part that was cut, where the lower piece is joined to such a part
    ((p : Part M) (given : List (Signal T)) → place_at at p.tree ≡ place_at at upper.tree → AllGoOn (readings b new.tree) (readings b p.tree) → Carries b m ta new.tree p.tree given → Carries b m whole old.tree (joined crossing p at lower rest).tree given) →
    Fills b m old new upper at s ta whole (crossing.queued queue below.tree.machine) below.tree.inputs (crossing.queued (held_in crossing (place_at at upper.tree) ++ rest) lower.tree.machine) lower.tree.inputs
queue_fills {M} b crossing holds m old new upper below lower at k before reader place s queue rest out ta tb whole pos w u straight at_place alone agrees go counts joins =
    let c = w.cut in
    let items = held_in crossing (place_at at upper.tree) ++ rest in
    let x0 = crossing.queued queue below.tree.machine in
    let x = crossing.queued items lower.tree.machine in
    let rows0 = row_readings b below.tree.inputs in
    let rows1 = row_readings b lower.tree.inputs in
    let low = holds m queue below.tree.machine c.straight in
    let now = holds m items lower.tree.machine straight in
    let A0 : Option Reading → Type 0 = λ r. AllGoOn (r ∷ rows0) (readings b lower.tree) in
    let A1 : Option Reading → Type 0 = λ r. AllGoOn (b.reads x0 ∷ rows0) (r ∷ rows1) in
    let down = counts_in tb in
    let all = counts_in whole in
    let none = (apart b crossing holds m old new upper below lower at k reader queue c w.free go u.reading).now_below in
    let same = all_of_both (IsNot k) (λ i. IsNot k i → slice_get whole i ≡ slice_get tb i) (SameAt down all) (agreed k tb whole) (readings b lower.tree) none agrees in
    let R : Option Reading → Type 0 = λ o. IsReadAt all o in
    let L : ℕ → Type 0 = λ n. IsBalanced b lower.tree n in
    record {
      goes = subst A1 (sym now.reads) (subst A0 (sym low.reads) u.reading);
      balanced = λ p same there open_still live_still clear bal was.
          let edge = edge_live p at s pos there live_still in
          let cuts = cuts_balanced b crossing holds m old new below at k before reader queue c w.reads w.sent w.counted was in
          let opened = cut_open b crossing old new below at reader queue c (clear at (clear_both b p at open_still live_still)) in
          queue_put b m x lower.tree.machine items lower.tree.inputs s.sent now
          (subst L (sym (ap (λ z. s.sent + length (held_in crossing z ++ rest)) (sym same) ∙ counts p same there open_still bal)) ((u.goes_on edge).balance below.root.demand.sent u.counted (cuts.1 opened)));
      reads = λ l. let got = tree_over b down all lower.tree same (u.goes_on l).reads in (subst R (sym now.reads) got.0, got.1);
      clear = λ l j h. clear_queue b m x0 below.tree.machine queue below.tree.inputs j low ∙ (u.goes_on l).clear j (sym (clear_queue b m x lower.tree.machine items lower.tree.inputs j now) ∙ h);
      shut = u.closed;
      joins = λ p given same go flow. let J : M → Type 0 = λ z. Carries b m whole old.tree (with_node at z lower.tree.inputs p.tree) given in subst J (ap (λ z. crossing.queued (held_in crossing z ++ rest) lower.tree.machine) same) (joins p given same go flow);
    }

-- no node of the part that is joined reads the link
over_free : {M T : Type 0} (b : Machine M T) (crossing : CrossingNodes M T) → HoldsLaw b crossing →
    (m : Meaning T) (old new below lower p : Part M) (at k before : ℕ) (reader : M) (place : Place M) (queue rest : List T) → WasCut b crossing old at k before reader below queue new →
    b.crosses lower.tree.machine ≡ false → place_at at p.tree ≡ Some place → place.below ≡ End → AllGoOn (readings b new.tree) (readings b p.tree) → AllGoOn (readings b below.tree) (readings b lower.tree) →
    ReadsNot b k lower.tree × ReadsNot b k (joined crossing p at lower rest).tree
over_free b crossing holds m old new below lower p at k before reader place queue rest w straight there alone go_up go_low =
    let none = apart b crossing holds m old new p below lower at k reader queue w.cut w.free go_up go_low in
    (none.now_below, joined_reads_not b crossing holds m p below lower at k place rest straight there alone none)

pub joins_whole : {M T : Type 0} (b : Machine M T) (crossing : CrossingNodes M T) → HoldsLaw b crossing → CountedLaw b crossing → JoinsAfterMoves b crossing → JoinsWhole b crossing
joins_whole b crossing holds law after m old new upper below lower at k before reader s queue rest taken queued out up inlet ta tb whole pos w count above there u can link hub carried came all sh =
    let j = can_join_is b crossing upper at k lower.tree.machine rest can in
    let far = node_reached b upper at k j.place taken inlet ta j.there j.reads link hub came in
    let held = can_held b crossing upper at k lower.tree.machine rest j.place j.there can in
    let began = has_begun b upper at k before j.place far.0 inlet ta j.there far.1 far.2 link hub carried in
    let items = items_all taken rest queue out [] (ap (λ l. map Next taken ++ l) (append-nil (map Next rest)) ∙ (all ∙ ap (λ l. map Next queue ++ l) (sym (append-nil out)))) in
    let fills = queue_fills b crossing holds m old new upper below lower at k before reader j.place s queue rest out ta tb whole pos w u j.straight j.there j.alone sh.same_below above.reading (λ p same is clear bal.
    counts_all b crossing law p at before (length taken) below.root.demand.sent lower.root.demand.sent j.place s far.0 rest queue out (same ∙ j.there) (held ∙ ap (λ z. Some (held_in crossing z)) (sym same)) far.1 far.3 began items w.counted u.counted is clear bal
    ) (λ p given same go flow.
    let at_place = same ∙ j.there in
    let free = over_free b crossing holds m old new below lower p at k before reader j.place queue rest w j.straight at_place j.alone go u.reading in
    let can_p : can_join b crossing p at k lower.tree.machine rest ≡ true = ap (λ z. not (b.crosses lower.tree.machine) && can_join_in b crossing k rest z) same ∙ can in
    let reached : HasReached b p at k (length taken) = record { place = j.place; there = at_place; reads = far } in
    after m old new p below lower at k reader queue rest taken out given ta tb whole w.cut w.reads.held (fresh b crossing k before reader w.reads) can_p reached all w.free free.1 free.0 sh.above sh.below flow u.flow)
    in
    stands_filled b crossing holds m old new upper below at k before reader j.place s queue ta whole (crossing.queued (held_in crossing (place_at at upper.tree) ++ rest) lower.tree.machine) lower.tree.inputs pos w j.there j.alone fills queued up count above there sh.same_above

-- ---- where the lower piece has sent its ending

pub joins_whole_ended : {M T : Type 0} (b : Machine M T) (crossing : CrossingNodes M T) → HoldsLaw b crossing → CountedLaw b crossing → JoinsAfterEnding b crossing → JoinsWholeEnded b crossing
joins_whole_ended {M} b crossing holds law after m old new upper below kept gone at k before reader s queue items taken queued out ending up inlet ta tb whole pos w count above there u ends lets carries can link hub carried came all sh =
    let j = can_join_is b crossing upper at k kept.tree.machine items can in
    let far = node_reached b upper at k j.place taken inlet ta j.there j.reads link hub came in
    let held = can_held b crossing upper at k kept.tree.machine items j.place j.there can in
    let began = has_begun b upper at k before j.place far.0 inlet ta j.there far.1 far.2 link hub carried in
    let counts = items_all taken items queue out (ending ∷ []) all in
    let A : List (Option Reading) → Type 0 = λ l. AllOf (λ i. i ≡ k → ⊥) l in
    let fills = queue_fills b crossing holds m old new upper below kept at k before reader j.place s queue items out ta tb whole pos w u j.straight j.there j.alone sh.same_below above.reading (λ p same is clear bal.
    counts_all b crossing law p at before (length taken) below.root.demand.sent kept.root.demand.sent j.place s far.0 items queue out (same ∙ j.there) (held ∙ ap (λ z. Some (held_in crossing z)) (sym same)) far.1 far.3 began counts w.counted u.counted is clear bal
    ) (λ p given same go flow.
    let at_place = same ∙ j.there in
    let free = over_free b crossing holds m old new below kept p at k before reader j.place queue items w j.straight at_place j.alone go u.reading in
    let can_p : can_join b crossing p at k kept.tree.machine items ≡ true = ap (λ z. not (b.crosses kept.tree.machine) && can_join_in b crossing k items z) same ∙ can in
    let reached : HasReached b p at k (length taken) = record { place = j.place; there = at_place; reads = far } in
    after m old new p below kept gone at k reader queue items taken ending (out ++ ending ∷ []) given ta tb whole w.cut w.reads.held (fresh b crossing k before reader w.reads) can_p reached all ends lets w.free free.1 (subst A (sym lets.alike.2) free.0) sh.above sh.below flow carries)
    in
    stands_filled b crossing holds m old new upper below at k before reader j.place s queue ta whole (crossing.queued (held_in crossing (place_at at upper.tree) ++ items) kept.tree.machine) kept.tree.inputs pos w j.there j.alone fills queued up count above there sh.same_above

-- below a node that has ended no edge is clear
ended_clear : {M T : Type 0} (b : Machine M T) (t : Node M) (x : M) (xs : Inputs M) → b.ended x ≡ true → WasClear b t (record { machine = x; inputs = xs })
ended_clear b t x xs ended j h = elim (cases_lt 0 j) [
  | inr z ↦ let first : j ≡ 0 = omega (arith, z) in ap (is_clear b t) first
  | inl l ↦ let parts = and_parts (not (b.ended x)) _ (sym (clear_under b (record { machine = x; inputs = xs }) j l) ∙ h) in let not_ended = is_false (b.ended x) parts.0 in cc
]

pub joins_whole_at_end : {M T : Type 0} (b : Machine M T) (crossing : CrossingNodes M T) → HoldsLaw b crossing →
    ((m : Meaning T) (e : Ending) (q : List T) (s : Signal T) (before n : M) → b.crosses n ≡ false → endings e ≡ s ∷ [] → b.waiting m before ≡ Some s → LetsGo (b.comes_out m) before s n → HoldsEnding b m (crossing.ended_queue e q n) (map Next q ++ s ∷ []) n) →
    JoinsAtEnd b crossing → JoinsWholeAtEnd b crossing
joins_whole_at_end {M} {T} b crossing holds ends_law after m old new upper below kept gone at k before reader place s queue e came queued out ending up ta tb whole pos w count above there u lets carries can at_place read_to last all sh =
    let parts = and_parts (not (b.crosses gone.tree.machine)) _ can in
    let straight = is_false (b.crosses gone.tree.machine) parts.0 in
    let can_here : can_end_here crossing 0 place.node place.below ≡ true = sym (ap (can_put_in b crossing None 0) at_place) ∙ parts.1 in
    let alone = ended_row place.below (and_parts (is_end place.below) _ can_here).0 in
    let held = held_in crossing (place_at at upper.tree) in
    let x = put_node crossing None (place_at at upper.tree) [] gone.tree.machine in
    let E : Ending → Type 0 = λ z. HoldsEnding b m (crossing.ended_queue z (held ++ []) gone.tree.machine) (map Next (held ++ []) ++ ending ∷ []) gone.tree.machine in
    let over = subst E (sym (ap (ending_in crossing) at_place ∙ ap ending_of read_to)) (ends_law m e (held ++ []) ending kept.tree.machine gone.tree.machine straight last lets.offered (ending_gone b m kept.tree ending gone.tree lets (endings_end e ending last)).0) in
    let inputs : kept.tree.inputs ≡ gone.tree.inputs = lets.popped.1 in
    let rows0 = row_readings b below.tree.inputs in
    let x0 = crossing.queued queue below.tree.machine in
    let none = apart b crossing holds m old new upper below kept at k reader queue w.cut w.free above.reading u.reading in
    let down = counts_in tb in
    let whole_counts = counts_in whole in
    let same = all_of_both (IsNot k) (λ i. IsNot k i → slice_get whole i ≡ slice_get tb i) (SameAt down whole_counts) (agreed k tb whole) (readings b kept.tree) none.now_below sh.same_below in
    let G : Option Reading → Type 0 = λ r. AllGoOn (b.reads x0 ∷ rows0) (r ∷ row_readings b gone.tree.inputs) in
    let I : Inputs M → Type 0 = λ r. AllGoOn rows0 (row_readings b r) in
    let R : Option Reading → Type 0 = λ o. IsReadAt whole_counts o in
    let D : Inputs M → Type 0 = λ r. IsRowReadAt b whole_counts r in
    let N : Inputs M → Type 0 = λ r. NoneLive (edges r) in
    let A : List (Option Reading) → Type 0 = λ l. AllOf (IsNot k) l in
    let P : Option Reading → Type 0 = λ o. IsOf (IsNot k) o in
    let gone_free : AllOf (IsNot k) (readings b gone.tree) = subst A (sym lets.alike.2) none.now_below in
    let fills : Fills b m old new upper at s ta whole x0 below.tree.inputs x gone.tree.inputs = record {
      goes = subst G (sym over.reads) (inr refl, subst I inputs u.reading.1);
      balanced = λ p same there open_still live_still clear bal was. inl over.ended;
      reads = λ l. (subst R (sym over.reads) tt, subst D inputs (tree_over b down whole_counts kept.tree same (u.goes_on l).reads).1);
      clear = λ l. ended_clear b (record { machine = x0; inputs = below.tree.inputs }) x gone.tree.inputs over.ended;
      shut = λ d. subst N inputs (u.closed d);
      joins = λ p given same go flow.
          let there_p = same ∙ at_place in
          let p_none = (apart b crossing holds m old new p below kept at k reader queue w.cut w.free go u.reading).above in
          let can_p : can_rejoin_ended b crossing p at gone.tree.machine [] ≡ true = ap (λ z. not (b.crosses gone.tree.machine) && can_put_in b crossing None 0 z) same ∙ can in
          let xp = put_node crossing None (place_at at p.tree) [] gone.tree.machine in
          let x_is : xp ≡ x = ap (λ z. put_node crossing None z [] gone.tree.machine) same in
          let free = put_reads_not b k at xp gone.tree.inputs place p there_p alone p_none (subst P (sym (ap b.reads x_is ∙ over.reads)) tt, gone_free.1) in
          let J : M → Type 0 = λ z. Carries b m whole old.tree (with_node at z gone.tree.inputs p.tree) given in
          subst J x_is
          (after m old new p below kept gone at k reader place queue e ending came (out ++ ending ∷ []) given ta tb whole w.cut w.reads.held (fresh b crossing k before reader w.reads) can_p there_p read_to last all lets w.free free gone_free sh.above sh.below flow carries);
    } in
    stands_filled b crossing holds m old new upper below at k before reader place s queue ta whole x gone.tree.inputs pos w at_place alone fills queued up count above there sh.same_above
