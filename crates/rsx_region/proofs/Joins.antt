-- Two halves are joined to the piece that they were cut from.
use Rattle.std.proofs.Common.{◌≡◌, inl, inr, ℕ, zero, suc, ◌+◌, ◌<◌, Bool, true, false, List, [], ◌∷◌, ◌++◌, length, map, refl, ap, sym, ◌∙◌, subst, arith, Option, Some, None, slice_get}
use Rattle.std.proofs.lemmas.Bool.{and_parts}
use Rattle.rsx_sources.specs.Prelude.{Complete, Ending, Error, LetsGo, Meaning, Next, Reading, Signal, Stream, ends_input, front_of, reads_hub}
use Rattle.rsx_sources.specs.declared.machine.Machine.{Ghosts as Machine}
use Rattle.rsx_rooted.proofs.Sends.{sent_out}
use Rattle.rsx_rooted.specs.Cutting.{HoldsEnding, ending_of, endings}
use Rattle.rsx_rooted.specs.declared.nodes.CrossingNodes.{Ghosts as CrossingNodes}
use Rattle.rsx_rooted.proofs.Moves.{flows_chosen, flows_sent}
use Rattle.rsx_rooted.specs.Local.{AllOf, Begins, ReadsNot, stream_of}
use Rattle.rsx_tree.proofs.Noted.{kept_chosen}
use Rattle.rsx_tree.proofs.Popped.{ending_gone}
use Rattle.rsx_tree.proofs.Readings.{shut_readings}
use Rattle.rsx_tree.proofs.Trees.{kept_closed}
use Rattle.rsx_tree.specs.Edges.{EdgeView, closed_state, closed_view, edge_view, is_live, passed}
use Rattle.rsx_tree.specs.Inputs.{closed_row, edges}
use Rattle.rsx_tree.specs.Reads.{AllGoOn, readings, row_readings}
use Rattle.rsx_tree.specs.Stepped.{Station, station_of}
use Rattle.rsx_tree.specs.Tree.{IsLetGo, NoneLive}
use Rattle.rsx_tree.specs.declared.edge.EdgeState.{EdgeState}
use Rattle.rsx_tree.specs.declared.edge.EdgeState.TheVariants.{Live, Closed, Ended}
use Rattle.rsx_tree.specs.declared.inputs.Inputs.{Inputs, End}
use Rattle.rsx_tree.specs.declared.node.Node.{Node}
use Rattle.rsx_pipe.specs.Cutting.{Place, can_join, held_in, is_end, joined, place_at, with_node}
use Rattle.rsx_pipe.specs.Feeding.{IsSentOut}
use Rattle.rsx_pipe.specs.Output.{IsUnended}
use Rattle.rsx_pipe.specs.Part.{Part}
use Rattle.rsx_pipe.specs.Rejoined.{can_end_here, can_put_in, ending_in, put_node, read_at}
use Rattle.rsx_link.specs.Ends.{carried_down, carried_up, received_signals, sent_signals}
use Rattle.rsx_link.specs.Signals.{items_in}
use Rattle.rsx_region.specs.Inlet.{InletStands}
use Rattle.rsx_region.specs.Piece.{PieceStands}
use Rattle.rsx_region.specs.Whole.{AreShared, IsBelow, JoinsWhole, JoinsWholeAtEnd, JoinsWholeEnded, WasCut}
use Rattle.rsx_region.proofs.CutParts.{HoldsLaw}
use Rattle.rsx_region.proofs.Ended.{ended_at, none_ended}
use Rattle.rsx_region.proofs.Givings.{gives_back}
use Rattle.rsx_region.proofs.Joinings.{items_next}
use Rattle.rsx_region.proofs.Pieces.{let_go}
use Rattle.rsx_region.proofs.EdgePlaces.{same_some}
use Rattle.rsx_region.proofs.Rejoining.{can_join_is, ended_row}
use Rattle.rsx_region.proofs.Wholes.{lets_go_over}
use Rattle.rsx_region.specs.Joins.{CanEnd, CanGoOn, HaveGone, IsCutFrom, IsJoinedBy, IsJoinedEnded, IsJoinedGoing, IsPutAt, IsShut, IsShutUnless}
use Rattle.rsx_region.specs.Pieces.{Each, IsBlankAt, StandsSince, came_of, hub_of, numbers_of, taken_by, taken_of}
use Rattle.rsx_region.specs.Halves.{Halves}
use Rattle.rsx_region.specs.declared.piece.Incoming.{Incoming}
use Rattle.rsx_region.specs.declared.piece.Piece.{Piece}
use Rattle.rsx_region.proofs.Beside.{apart_false, beside_stands, eq_true}
use Rattle.rsx_region.proofs.Lists.{each_shown}
use Rattle.rsx_region.proofs.Shares.{all_going, are_shared, elsewhere}

-- ---- lists with one more at the end

no_end : {A B : Type 0} (f : A → B) (ys : List A) (y : A) → [] ≡ map f (ys ++ y ∷ []) → ⊥
no_end f [] y e = cc
no_end f (z ∷ ys) y e = cc

pub snoc_parts : {A B : Type 0} (f : A → B) (xs ys : List A) (x y : A) → map f (xs ++ x ∷ []) ≡ map f (ys ++ y ∷ []) → (map f xs ≡ map f ys) × (f x ≡ f y)
snoc_parts f [] [] x y e = let first : f x ≡ f y = cc in (refl, first)
snoc_parts f [] (w ∷ ys) x y e = let rest : [] ≡ map f (ys ++ y ∷ []) = cc in absurd (no_end f ys y rest)
snoc_parts f (w ∷ xs) [] x y e = let rest : map f (xs ++ x ∷ []) ≡ [] = cc in absurd (no_end f xs x (sym rest))
snoc_parts f (w ∷ xs) (z ∷ ys) x y e =
    let first : f w ≡ f z = cc in
    let rest : map f (xs ++ x ∷ []) ≡ map f (ys ++ y ∷ []) = cc in
    let k = snoc_parts f xs ys x y rest in
    (ap (λ l. f w ∷ l) k.0 ∙ ap (λ h. h ∷ map f ys) first, k.1)

map_empty : {A B : Type 0} (f : A → B) (xs : List A) → map f xs ≡ [] → xs ≡ []
map_empty f [] e = refl
map_empty f (x ∷ xs) e = cc

get_end : {A : Type 0} (xs : List A) (x : A) → slice_get (xs ++ x ∷ []) (length xs) ≡ Some x
get_end [] x = refl
get_end (y ∷ xs) x = get_end xs x

get_front : {A : Type 0} (xs ys : List A) (j : ℕ) (x : A) → slice_get xs j ≡ Some x → slice_get (xs ++ ys) j ≡ Some x
get_front [] ys j x e = cc
get_front (w ∷ xs) ys zero x e = e
get_front (w ∷ xs) ys (suc j) x e = get_front xs ys j x e

append_assoc : {A : Type 0} (xs ys zs : List A) → (xs ++ ys) ++ zs ≡ xs ++ (ys ++ zs)
append_assoc [] ys zs = refl
append_assoc (x ∷ xs) ys zs = ap (λ l. x ∷ l) (append_assoc xs ys zs)

append_none : {A : Type 0} (xs : List A) → xs ++ [] ≡ xs
append_none [] = refl
append_none (x ∷ xs) = ap (λ l. x ∷ l) (append_none xs)

-- ---- signals

-- signals among which no ending is are items
record AreItems {T : Type 0} (ss : List (Signal T)) : Type 0 where
  items : List T
  are : ss ≡ map Next items

items_of_all : {T : Type 0} (ss : List (Signal T)) → IsUnended ss → AreItems ss
items_of_all [] h = record { items = []; are = refl }
items_of_all (Next x ∷ ss) h = let k = items_of_all ss h in record { items = x ∷ k.items; are = ap (λ l. Next x ∷ l) k.are }
items_of_all (Complete ∷ ss) h = absurd h
items_of_all (Error c ∷ ss) h = absurd h

unended_items : {T : Type 0} (xs : List T) → IsUnended (map Next xs)
unended_items [] = tt
unended_items (x ∷ xs) = unended_items xs

unended_both : {T : Type 0} (ss ts : List (Signal T)) → IsUnended ss → IsUnended ts → IsUnended (ss ++ ts)
unended_both [] ts h k = k
unended_both (Next x ∷ ss) ts h k = unended_both ss ts h k
unended_both (Complete ∷ ss) ts h k = absurd h
unended_both (Error c ∷ ss) ts h k = absurd h

-- no ending stands among them
no_ending : {T : Type 0} (xs : List (Signal T)) (s : Signal T) (rest : List (Signal T)) → ends_input s ≡ true → IsUnended (xs ++ s ∷ rest) → ⊥
no_ending [] (Next x) rest e h = let k = e in cc
no_ending [] Complete rest e h = h
no_ending [] (Error c) rest e h = h
no_ending (Next y ∷ xs) s rest e h = no_ending xs s rest e h
no_ending (Complete ∷ xs) s rest e h = h
no_ending (Error c ∷ xs) s rest e h = h

nothing_left : {A : Type 0} (xs : List A) (s : A) (rest : List A) → xs ++ s ∷ rest ≡ [] → ⊥
nothing_left [] s rest e = cc
nothing_left (x ∷ xs) s rest e = cc

-- an ending stands behind items, and nothing behind it
record IsTheLast {T : Type 0} (xs ys : List (Signal T)) (s last : Signal T) (rest : List (Signal T)) : Type 0 where
  front : xs ≡ ys
  same : s ≡ last
  none : rest ≡ []

the_last : {T : Type 0} (xs ys : List (Signal T)) (s last : Signal T) (rest : List (Signal T)) → ends_input s ≡ true → IsUnended ys → xs ++ s ∷ rest ≡ ys ++ last ∷ [] → IsTheLast xs ys s last rest
the_last [] [] s last rest e u h = let here : s ≡ last = cc in let left : rest ≡ [] = cc in record { front = refl; same = here; none = left }
the_last {T} [] (Next y ∷ ys) s last rest e u h =
    let here : s ≡ Next y = cc in
    let item : ends_input {T = T} (Next y) ≡ true = ap ends_input (sym here) ∙ e in cc
the_last [] (Complete ∷ ys) s last rest e u h = absurd u
the_last [] (Error c ∷ ys) s last rest e u h = absurd u
the_last (x ∷ xs) [] s last rest e u h = let left : xs ++ s ∷ rest ≡ [] = cc in absurd (nothing_left xs s rest left)
the_last (x ∷ xs) (Next y ∷ ys) s last rest e u h =
    let first : x ≡ Next y = cc in
    let others : xs ++ s ∷ rest ≡ ys ++ last ∷ [] = cc in
    let k = the_last xs ys s last rest e u others in
    record { front = ap (λ l. x ∷ l) k.front ∙ ap (λ z. z ∷ ys) first; same = k.same; none = k.none }
the_last (x ∷ xs) (Complete ∷ ys) s last rest e u h = absurd u
the_last (x ∷ xs) (Error c ∷ ys) s last rest e u h = absurd u

ending_ends : {T : Type 0} (e : Ending) (s : Signal T) → endings e ≡ s ∷ [] → ends_input s ≡ true
ending_ends Ending.Open s h = cc
ending_ends Ending.Done s h = let same : Complete ≡ s = cc in ap ends_input (sym same)
ending_ends (Ending.Failed c) s h = let same : Error c ≡ s = cc in ap ends_input (sym same)

-- ---- states of an edge

is_live_of : (s : EdgeState) → (s ≡ Ended → ⊥) → (s ≡ Closed → ⊥) → s ≡ Live
is_live_of Live e c = refl
is_live_of Ended e c = absurd (e refl)
is_live_of Closed e c = absurd (c refl)

closed_ended : (e : EdgeView) → e.state ≡ Ended → closed_view e ≡ e
closed_ended e h =
    let V : EdgeState → EdgeView = λ s. record { asked = e.asked; sent = e.sent; state = s } in
    ap V (ap closed_state h ∙ sym h)

-- ---- a part whose edges were closed

shut_root : {M T : Type 0} (b : Machine M T) (old new : Part M) → IsShut b old new → edge_view new.root ≡ closed_view (edge_view old.root)
shut_root b old new h = let all = h.edges in cc

abbrev shut_inputs : {M : Type 0} (p : Part M) → Part M
shut_inputs p = record p { tree = record p.tree { inputs = closed_row p.tree.inputs } }

-- ---- what is known of the halves, and of the piece

module _ {M T : Type 0} (b : Machine M T) (crossing : CrossingNodes M T) (holds : HoldsLaw b crossing) (m : Meaning T) (first hubs : List (Stream T)) (was : Piece M T) (opening now : Halves M T) (p : Piece M T) (last : Incoming T)
    (cut : IsCutFrom b crossing was opening) (gone : HaveGone b m hubs opening now) (ws : StandsSince b m first was was) (ins : now.upper.inlets.items ≡ p.inlets.items ++ last ∷ []) where
  abbrev others : List (Incoming T)
  others = p.inlets.items

  abbrev k : ℕ
  k = hub_of cut.inlet

  abbrev ta : List (Stream T)
  ta = taken_of hubs now.upper

  abbrev tb : List (Stream T)
  tb = taken_of hubs now.lower

  abbrev whole : List (Stream T)
  whole = taken_of hubs p

  numbers : (map numbers_of others ≡ map numbers_of was.inlets.items) × (numbers_of last ≡ numbers_of cut.inlet)
  numbers = snoc_parts numbers_of others was.inlets.items last cut.inlet (sym (ap (map numbers_of) ins) ∙ (gone.upper.links.1 ∙ ap (map numbers_of) cut.ins))

  hub_is : hub_of last ≡ k
  hub_is = ap (λ (t : ℕ × ℕ × ℕ). t.1) numbers.1

  carried_is : carried_down last.inlet.down ≡ cut.before
  carried_is = ap (λ (t : ℕ × ℕ × ℕ). t.2) numbers.1 ∙ cut.taken

  none_below : now.lower.inlets.items ≡ []
  none_below = map_empty numbers_of now.lower.inlets.items (gone.lower.links.1 ∙ ap (map numbers_of) cut.none)

  last_there : slice_get now.upper.inlets.items (length others) ≡ Some last
  last_there = ap (λ l. slice_get l (length others)) ins ∙ get_end others last

  linked : InletStands b ta now.upper.part last.inlet
  linked = gone.upper.ins (length others) last last_there

  came : slice_get ta k ≡ Some (stream_of (received_signals last.inlet.down))
  came = ap (slice_get ta) (sym hub_is) ∙ linked.came

  -- no node of a tree that goes on from the lower half reads another link
  others_free : (t : Node M) → AllGoOn (readings b opening.lower.part.tree) (readings b t) → Each (λ (i : Incoming T). ReadsNot b (hub_of i) t) others
  others_free t go =
      let P : Incoming T → Type 0 = λ i. ReadsNot b (hub_of i) t in
      each_shown numbers_of P was.inlets.items others numbers.0
      (λ x y same h. let hub : hub_of y ≡ hub_of x = ap (λ (q : ℕ × ℕ × ℕ). q.1) same in subst (λ j. ReadsNot b j t) (sym hub) h)
      (λ j i at. all_going (λ h. h ≡ hub_of i → ⊥) (readings b opening.lower.part.tree) (readings b t) go (cut.free j i at))

  others_apart : Each (λ (i : Incoming T). hub_of i ≡ k → ⊥) others
  others_apart = each_shown numbers_of (λ (i : Incoming T). hub_of i ≡ k → ⊥) was.inlets.items others numbers.0
      (λ x y same h e. let hub : hub_of y ≡ hub_of x = ap (λ (q : ℕ × ℕ × ℕ). q.1) same in h (sym hub ∙ e)) cut.apart

  -- the link between them, and the others, have no value among those of the hubs
  blank_there : IsBlankAt hubs k
  blank_there = subst (IsBlankAt hubs) hub_is (gone.upper.blank (length others) last last_there)

  blanks : Each (λ (i : Incoming T). IsBlankAt hubs (hub_of i)) others
  blanks j i at = gone.upper.blank j i (ap (λ l. slice_get l j) ins ∙ get_front others (last ∷ []) j i at)

  shared : (upper t : Node M) → AllGoOn (readings b opening.lower.part.tree) (readings b t) → AreShared b k ta tb whole (received_signals last.inlet.down) upper t
  shared upper t go = are_shared b hubs others last k ta tb whole upper t hub_is (ap (λ l. taken_by stream_of hubs (map came_of l)) ins) (ap (λ l. taken_by stream_of hubs (map came_of l)) none_below) blank_there blanks refl came (others_free t go)

  counts : carried_up now.upper.up + items_in (sent_signals was.up) ≡ was.part.root.demand.sent
  counts = ap (λ c. c + items_in (sent_signals was.up)) (gone.upper.carried ∙ ap carried_up cut.up) ∙ sym ws.part.step.sent

  above : PieceStands b m ta opening.upper.part.tree (sent_signals was.up) now.upper.part now.upper.up
  above = subst (λ q. PieceStands b m ta opening.upper.part.tree q now.upper.part now.upper.up) (ap sent_signals cut.up) gone.upper.part

  below : PieceStands b m tb opening.lower.part.tree (map Next cut.queue) now.lower.part now.lower.up
  below = subst (λ q. PieceStands b m tb opening.lower.part.tree q now.lower.part now.lower.up) cut.sent gone.lower.part

  low_carried : carried_up now.lower.up ≡ cut.before
  low_carried = gone.lower.carried ∙ cut.carried

  -- the lower half counts what it gave
  counted_low : (out : List (Signal T)) (sent : ℕ) → carried_up now.lower.up + items_in (map Next cut.queue) + items_in out ≡ sent → opening.lower.part.root.demand.sent + items_in out ≡ sent
  counted_low out sent all = sums (carried_up now.lower.up) cut.before (items_in (map Next cut.queue)) (length cut.queue) opening.lower.part.root.demand.sent (items_in out) sent low_carried (items_next cut.queue) cut.cut.counted all
    where
      sums : (c f i q r o s : ℕ) → c ≡ f → i ≡ q → f + q ≡ r → c + i + o ≡ s → r + o ≡ s
      sums c f i q r o s h1 h2 h3 h4 = omega (arith, h1, h2, h3, h4)

  -- ---- the other links

  -- another link stands beside a node that neither reads it nor has one below it that does
  beside : (x : M) (xs : Inputs M) (place : Place M) → 0 < now.at → place_at now.at now.upper.part.tree ≡ Some place → place.below ≡ End → ((h : ℕ) → (h ≡ k → ⊥) → reads_hub h (b.reads place.node) ≡ false) →
      ((i : Incoming T) (j : ℕ) → slice_get others j ≡ Some i → AllOf (λ h. h ≡ hub_of i → ⊥) (b.reads x ∷ row_readings b xs)) → (q : Part M) → q ≡ record now.upper.part { tree = with_node now.at x xs now.upper.part.tree } → Each (λ (i : Incoming T). InletStands b whole q i.inlet) others
  beside x xs place pos there alone apart free q is j i at =
      let ne = others_apart j i at in
      let up_there : slice_get now.upper.inlets.items j ≡ Some i = ap (λ l. slice_get l j) ins ∙ get_front others (last ∷ []) j i at in
      let same : slice_get whole (hub_of i) ≡ slice_get ta (hub_of i) = elsewhere hubs others last k (hub_of i) hub_is ne ∙ ap (λ l. slice_get (taken_by stream_of hubs (map came_of l)) (hub_of i)) (sym ins) in
      subst (λ z. InletStands b whole z i.inlet) (sym is)
      (beside_stands b ta whole now.upper.part now.at x xs place (hub_of i) i.inlet.down i.inlet.closer pos there alone (apart (hub_of i) ne) (free i j at) same (gone.upper.ins j i up_there))

  -- ---- what all comes to

  assembled : IsJoinedBy now.upper p → p.up ≡ now.upper.up → PieceStands b m whole was.part.tree (sent_signals was.up) p.part now.upper.up → Each (λ (i : Incoming T). InletStands b whole p.part i.inlet) others → StandsSince b m hubs was p
  assembled j up part each = record {
    links = (j.link ∙ (gone.upper.links.0 ∙ cut.link), numbers.0);
    carried = ap carried_up up ∙ (gone.upper.carried ∙ ap carried_up cut.up);
    part = subst (λ u. PieceStands b m whole was.part.tree (sent_signals was.up) p.part u) (sym up) part;
    ins = each;
    blank = blanks;
  }

  -- ---- the lower half, below the edge

  pos : 0 < now.at
  pos = subst (λ z. 0 < z) (sym gone.at) cut.below

  was_cut : WasCut b crossing was.part now.at k cut.before cut.reader opening.lower.part cut.queue opening.upper.part
  was_cut = subst (λ z. WasCut b crossing was.part z k cut.before cut.reader opening.lower.part cut.queue opening.upper.part) (sym gone.at) cut.cut

  -- as long as it has sent no ending
  record IsUnder (there : Station M) (low : Part M) : Type 0 where
    out : List (Signal T)
    sent : sent_signals now.lower.up ≡ map Next cut.queue ++ out
    under : IsBelow b m tb opening.lower.part low out there
    straight : b.crosses low.tree.machine ≡ false

  all_under : (there : Station M) (low : Part M) (c : Bool) → is_live there.state ≡ c → IsShutUnless b c now.lower.part low → (now.lower.part.root.state ≡ Ended → ⊥) → (c ≡ true → now.lower.part.root.state ≡ Closed → ⊥) → IsUnder there low
  all_under there low true is shut unended unclosed =
      let g = (gives_back b m tb opening.lower.part.tree (map Next cut.queue) now.lower.part now.lower.up below).0 unended in
      let live = is_live_of now.lower.part.root.state unended (unclosed refl) in
      subst (IsUnder there) (sym shut) (record {
        out = g.out;
        sent = g.sent;
        under = record {
          flow = g.given.flow;
          reading = g.given.reading;
          counted = counted_low g.out now.lower.part.root.demand.sent g.counted;
          goes_on = λ _. g.given.on live;
          closed = λ dead. let no : true ≡ false = sym is ∙ dead in cc;
        };
        straight = g.given.crosses ∙ was_cut.cut.straight;
      })
  all_under there low false is shut unended unclosed =
      let g = (gives_back b m tb opening.lower.part.tree (map Next cut.queue) now.lower.part now.lower.up below).0 unended in
      let root = shut_root b now.lower.part low shut in
      let R : List (Option Reading) → Type 0 = λ l. AllGoOn (readings b opening.lower.part.tree) l in
      record {
        out = g.out;
        sent = g.sent;
        under = record {
          flow = flows_chosen b m (Begins tb) opening.lower.part.tree now.lower.part.tree low.tree g.out g.given.flow (kept_chosen b m now.lower.part.tree low.tree (shut.kept m));
          reading = subst R (sym shut.alike.2) g.given.reading;
          counted = counted_low g.out now.lower.part.root.demand.sent g.counted ∙ ap (λ (v : EdgeView). v.sent) (sym root);
          goes_on = λ live. let no : true ≡ false = sym live ∙ is in cc;
          closed = λ _. shut.none;
        };
        straight = shut.alike.3 ∙ (g.given.crosses ∙ was_cut.cut.straight);
      }

  -- once it has sent one: as it was before that
  record IsUnderEnded (there : Station M) (low : Part M) : Type 0 where
    kept : Part M
    out : List (Signal T)
    ending : Signal T
    sent : sent_signals now.lower.up ≡ (map Next cut.queue ++ out) ++ ending ∷ []
    ends : ends_input ending ≡ true
    unended : IsUnended out
    gone_out : IsSentOut b m kept ending low
    lets : IsLetGo b m kept.tree ending low.tree
    under : IsBelow b m tb opening.lower.part kept out there
    straight : b.crosses kept.tree.machine ≡ false

  all_ended : (there : Station M) (low : Part M) (c : Bool) → is_live there.state ≡ c → IsShutUnless b c now.lower.part low → now.lower.part.root.state ≡ Ended → IsUnderEnded there low
  all_ended there low true is shut over =
      let g = (gives_back b m tb opening.lower.part.tree (map Next cut.queue) now.lower.part now.lower.up below).1 over in
      subst (IsUnderEnded there) (sym shut) (record {
        kept = g.before;
        out = g.out;
        ending = g.last;
        sent = g.sent;
        ends = g.ends;
        unended = (g.given.on g.live).unended;
        gone_out = g.put_back;
        lets = let_go b m g.before g.last now.lower.part g.put_back;
        under = record {
          flow = g.given.flow;
          reading = g.given.reading;
          counted = counted_low g.out g.before.root.demand.sent g.counted;
          goes_on = λ _. g.given.on g.live;
          closed = λ dead. let no : true ≡ false = sym is ∙ dead in cc;
        };
        straight = g.given.crosses ∙ was_cut.cut.straight;
      })
  all_ended there low false is shut over =
      let g = (gives_back b m tb opening.lower.part.tree (map Next cut.queue) now.lower.part now.lower.up below).1 over in
      let kept = shut_inputs g.before in
      let lets = let_go b m g.before g.last now.lower.part g.put_back in
      let inputs : g.before.tree.inputs ≡ now.lower.part.tree.inputs = g.put_back.popped.1 in
      let F : Inputs M → Type 0 = λ i. IsLetGo b m (record { machine = g.before.tree.machine; inputs = i }) g.last now.lower.part.tree in
      let over_shut = lets_go_over b m g.before.tree.machine now.lower.part.tree.machine now.lower.part.tree.inputs (closed_row g.before.tree.inputs) g.last g.ends (subst F inputs lets) in
      let low_is : record { machine = now.lower.part.tree.machine; inputs = closed_row g.before.tree.inputs } ≡ low.tree = ap (λ i. let t : Node M = record { machine = now.lower.part.tree.machine; inputs = closed_row i } in t) inputs ∙ sym shut.tree in
      let L : Node M → Type 0 = λ t. IsLetGo b m kept.tree g.last t in
      let lets_shut : IsLetGo b m kept.tree g.last low.tree = subst L low_is over_shut in
      let root : edge_view low.root ≡ passed (edge_view g.before.root) (front_of g.last) = shut_root b now.lower.part low shut ∙ (closed_ended (edge_view now.lower.part.root) over ∙ g.put_back.root) in
      let reads : readings b kept.tree ≡ readings b g.before.tree = ap (λ l. b.reads g.before.tree.machine ∷ l) (shut_readings b true g.before.tree.inputs) in
      let R : List (Option Reading) → Type 0 = λ l. AllGoOn (readings b opening.lower.part.tree) l in
      let N : Inputs M → Type 0 = λ i. NoneLive (edges i) in
      record {
        kept = kept;
        out = g.out;
        ending = g.last;
        sent = g.sent;
        ends = g.ends;
        unended = (g.given.on g.live).unended;
        gone_out = sent_out b m kept low g.last lets_shut g.put_back.can root;
        lets = lets_shut;
        under = record {
          flow = flows_chosen b m (Begins tb) opening.lower.part.tree g.before.tree kept.tree g.out g.given.flow
              (kept_chosen b m g.before.tree kept.tree (kept_closed b m g.before.tree.machine g.before.tree.inputs (closed_row g.before.tree.inputs) refl));
          reading = subst R (sym reads) g.given.reading;
          counted = counted_low g.out g.before.root.demand.sent g.counted;
          goes_on = λ live. let no : true ≡ false = sym live ∙ is in cc;
          closed = λ _. subst N (ap (λ (t : Node M). t.inputs) (sym low_is)) shut.none;
        };
        straight = g.given.crosses ∙ was_cut.cut.straight;
      }

  -- what it sent before its ending is items and what came out since, and none of these is one
  queue_unended : (out : List (Signal T)) → IsUnended out → IsUnended (map Next cut.queue ++ out)
  queue_unended out u = unended_both (map Next cut.queue) out (unended_items cut.queue) u

  abbrev received : List (Signal T)
  received = received_signals last.inlet.down

  -- who reads the link reads no other
  reads_no_other : (o : Option Reading) → reads_hub k o ≡ true → (h : ℕ) → (h ≡ k → ⊥) → reads_hub h o ≡ false
  reads_no_other None reads h ne = refl
  reads_no_other (Some r) reads h ne = apart_false r.hub h (λ e. ne (sym e ∙ eq_true r.hub k reads))

  -- a node with a queue reads what it read without
  queued_free : (items : List T) (t : Node M) → b.crosses t.machine ≡ false → (i : Incoming T) → ReadsNot b (hub_of i) t → AllOf (λ h. h ≡ hub_of i → ⊥) (b.reads (crossing.queued items t.machine) ∷ row_readings b t.inputs)
  queued_free items t straight i free =
      let A : Option Reading → Type 0 = λ r. AllOf (λ h. h ≡ hub_of i → ⊥) (r ∷ row_readings b t.inputs) in
      subst A (sym (holds m items t.machine straight).reads) free

  -- the links beside, where the lower half is joined with a queue
  beside_joined : (low : Part M) (items : List T) → b.crosses low.tree.machine ≡ false → AllGoOn (readings b opening.lower.part.tree) (readings b low.tree) → can_join b crossing now.upper.part now.at k low.tree.machine items ≡ true → p.part ≡ joined crossing now.upper.part now.at low items →
      Each (λ (i : Incoming T). InletStands b whole p.part i.inlet) others
  beside_joined low items straight go can is =
      let j = can_join_is b crossing now.upper.part now.at k low.tree.machine items can in
      let queue = held_in crossing (place_at now.at now.upper.part.tree) ++ items in
      beside (crossing.queued queue low.tree.machine) low.tree.inputs j.place pos j.there j.alone (reads_no_other (b.reads j.place.node) j.reads)
      (λ i l at. queued_free queue low.tree straight i (others_free low.tree go l i at)) p.part is

  -- ---- the two ways

  module _ (j : IsJoinedBy now.upper p) (up : p.up ≡ now.upper.up) (none : last.inlet.ended ≡ None) where
    came_items : AreItems received
    came_items = items_of_all received (none_ended received (sym last.inlet.over ∙ none))

    shared_items : (t : Node M) → AllGoOn (readings b opening.lower.part.tree) (readings b t) → AreShared b k ta tb whole (map Next came_items.items) now.upper.part.tree t
    shared_items t go = subst (λ l. AreShared b k ta tb whole l now.upper.part.tree t) came_items.are (shared now.upper.part.tree t go)

    -- no ending was sent
    back_going : JoinsWhole b crossing → (there : Station M) → station_of now.upper.part.tree (edge_view now.upper.part.root) now.at ≡ Some there → (low : Part M) → IsUnder there low → (remaining : List (Signal T)) (items : List T) → received ++ remaining ≡ sent_signals now.lower.up → remaining ≡ map Next items →
        IsPutAt b crossing now.upper.part now.at k items low p.part → StandsSince b m hubs was p
    back_going law there is low u remaining items all rem put =
        let done = put u.straight in
        let signals : map Next came_items.items ++ map Next items ≡ map Next cut.queue ++ u.out = ap (λ l. l ++ map Next items) (sym came_items.are) ∙ (ap (λ l. received ++ l) (sym rem) ∙ (all ∙ u.sent)) in
        let part = law m was.part opening.upper.part now.upper.part opening.lower.part low now.at k cut.before cut.reader there cut.queue items came_items.items (sent_signals was.up) u.out now.upper.up last.inlet ta tb whole
        pos was_cut counts above is u.under done.0 linked hub_is carried_is came_items.are signals (shared_items low.tree u.under.reading) in
        let P : Part M → Type 0 = λ q. PieceStands b m whole was.part.tree (sent_signals was.up) q now.upper.up in
        assembled j up (subst P (sym done.1) part) (beside_joined low items u.straight u.under.reading done.0 done.1)

    -- one was, and is put back
    back_ended : JoinsWholeEnded b crossing → (there : Station M) → station_of now.upper.part.tree (edge_view now.upper.part.root) now.at ≡ Some there → (low : Part M) → IsUnderEnded there low → (remaining : List (Signal T)) (items : List T) (s : Signal T) (rest : List (Signal T)) (kept : Part M) → received ++ remaining ≡ sent_signals now.lower.up → remaining ≡ map Next items ++ s ∷ rest → ends_input s ≡ true →
        ((l : Meaning T) (before : Part M) → IsSentOut b l before s low → kept ≡ before) → IsPutAt b crossing now.upper.part now.at k items kept p.part → StandsSince b m hubs was p
    back_ended law there is low u remaining items s rest kept all rem ends put_back put =
        let eq : (received ++ map Next items) ++ s ∷ rest ≡ (map Next cut.queue ++ u.out) ++ u.ending ∷ [] = append_assoc received (map Next items) (s ∷ rest) ∙ (ap (λ l. received ++ l) (sym rem) ∙ (all ∙ u.sent)) in
        let end = the_last (received ++ map Next items) (map Next cut.queue ++ u.out) s u.ending rest ends (queue_unended u.out u.unended) eq in
        let O : Signal T → Type 0 = λ z. IsSentOut b m u.kept z low in
        let kept_is : kept ≡ u.kept = put_back m u.kept (subst O (sym end.same) u.gone_out) in
        let Q : Part M → Type 0 = λ q. IsPutAt b crossing now.upper.part now.at k items q p.part in
        let done = subst Q kept_is put u.straight in
        let signals : map Next came_items.items ++ (map Next items ++ u.ending ∷ []) ≡ map Next cut.queue ++ (u.out ++ u.ending ∷ []) =
        sym (append_assoc (map Next came_items.items) (map Next items) (u.ending ∷ []))
        ∙ (ap (λ l. (l ++ map Next items) ++ u.ending ∷ []) (sym came_items.are) ∙ (ap (λ l. l ++ u.ending ∷ []) end.front ∙ append_assoc (map Next cut.queue) u.out (u.ending ∷ []))) in
        let carries = flows_sent b m (Begins tb) opening.lower.part.tree u.kept.tree low.tree u.out u.ending u.under.flow u.lets in
        let part = law m was.part opening.upper.part now.upper.part opening.lower.part u.kept low now.at k cut.before cut.reader there cut.queue items came_items.items (sent_signals was.up) u.out u.ending now.upper.up last.inlet ta tb whole
        pos was_cut counts above is u.under u.ends u.lets carries done.0 linked hub_is carried_is came_items.are signals (shared_items u.kept.tree u.under.reading) in
        let P : Part M → Type 0 = λ q. PieceStands b m whole was.part.tree (sent_signals was.up) q now.upper.up in
        assembled j up (subst P (sym done.1) part) (beside_joined u.kept items u.straight u.under.reading done.0 done.1)

    out_unended : (now.lower.part.root.state ≡ Ended → ⊥) → IsUnended below.out
    out_unended unended = of now.lower.part.root.state refl
      where
        of : (s : EdgeState) → now.lower.part.root.state ≡ s → IsUnended below.out
        of Live is = (below.live is).unended
        of Closed is = (below.closed is).unended
        of Ended is = absurd (unended is)

    -- the reader was there still
    pub joined_on : JoinsWhole b crossing → JoinsWholeEnded b crossing → CanGoOn b crossing now.upper.part now.at last now.lower.part → IsJoinedGoing b crossing now.upper.part now.at last now.lower p.part → StandsSince b m hubs was p
    joined_on law ended_law can g = of now.lower.part.root.state refl
      where
        at_link : (low : Part M) → IsPutAt b crossing now.upper.part now.at (hub_of last) g.put.0 low p.part → IsPutAt b crossing now.upper.part now.at k g.put.0 low p.part
        at_link low put = subst (λ h. IsPutAt b crossing now.upper.part now.at h g.put.0 low p.part) hub_is put

        goes : is_live g.there.state ≡ true → now.lower.part.root.state ≡ Closed → ⊥
        goes live = can.goes_on (ap (λ (s : Station M). is_live s.state) (same_some _ _ (sym can.is ∙ g.is)) ∙ live)

        still : (now.lower.part.root.state ≡ Ended → ⊥) → StandsSince b m hubs was p
        still unended = elim g.put.1 [
          | inl x ↦ back_going law g.there g.is g.below (all_under g.there g.below (is_live g.there.state) refl g.shut unended goes) g.remaining g.put.0 g.all x.0 (at_link g.below x.1)
          | inr x ↦
              let eq : (received ++ map Next g.put.0) ++ x.0 ∷ x.1 ≡ map Next cut.queue ++ below.out = append_assoc received (map Next g.put.0) (x.0 ∷ x.1) ∙ (ap (λ l. received ++ l) (sym x.3) ∙ (g.all ∙ below.sent)) in
              let U : List (Signal T) → Type 0 = λ l. IsUnended l in
              absurd (no_ending (received ++ map Next g.put.0) x.0 x.1 x.4 (subst U (sym eq) (queue_unended below.out (out_unended unended))))
        ]

        of : (s : EdgeState) → now.lower.part.root.state ≡ s → StandsSince b m hubs was p
        of Live is = still (λ e. let no : Live ≡ Ended = sym is ∙ e in cc)
        of Closed is = still (λ e. let no : Closed ≡ Ended = sym is ∙ e in cc)
        of Ended is =
            let u = all_ended g.there g.below (is_live g.there.state) refl g.shut is in
            elim g.put.1 [
              | inl x ↦
                  let eq : received ++ map Next g.put.0 ≡ (map Next cut.queue ++ u.out) ++ u.ending ∷ [] = ap (λ l. received ++ l) (sym x.0) ∙ (g.all ∙ u.sent) in
                  let U : List (Signal T) → Type 0 = λ l. IsUnended l in
                  let front : IsUnended (received ++ map Next g.put.0) = unended_both received (map Next g.put.0) (none_ended received (sym last.inlet.over ∙ none)) (unended_items g.put.0) in
                  absurd (no_ending (map Next cut.queue ++ u.out) u.ending [] u.ends (subst U eq front))
              | inr x ↦ back_ended ended_law g.there g.is g.below u g.remaining g.put.0 x.0 x.1 x.2 g.all x.3 x.4 x.5 (at_link x.2 x.6)
            ]

  -- the reader took the ending in
  place_read : (e : Ending) (o : Option (Place M)) → read_at crossing o ≡ Some e → (q : Place M) × (o ≡ Some q) × (crossing.read_to q.node ≡ Some e)
  place_read e None h = cc
  place_read e (Some q) h = (q, refl, h)

  no_hub : ((n : M) (r : Reading) → b.reads n ≡ Some r → crossing.read_to n ≡ None) → (x : M) (e : Ending) → crossing.read_to x ≡ Some e → (h : ℕ) → reads_hub h (b.reads x) ≡ false
  no_hub law x e read h = of (b.reads x) refl
    where
      of : (o : Option Reading) → b.reads x ≡ o → reads_hub h (b.reads x) ≡ false
      of None is = ap (reads_hub h) is
      of (Some r) is = let both : None ≡ Some e = sym (law x r is) ∙ read in cc

  first_empty : {A : Type 0} (xs ys : List A) → xs ++ ys ≡ [] → xs ≡ []
  first_empty [] ys e = refl
  first_empty (x ∷ xs) ys e = cc

  pub joined_over : ((n : M) (r : Reading) → b.reads n ≡ Some r → crossing.read_to n ≡ None) →
      ((l : Meaning T) (e : Ending) (q : List T) (s : Signal T) (before n : M) → b.crosses n ≡ false → endings e ≡ s ∷ [] → b.waiting l before ≡ Some s → LetsGo (b.comes_out l) before s n → HoldsEnding b l (crossing.ended_queue e q n) (map Next q ++ s ∷ []) n) →
      JoinsWholeAtEnd b crossing → IsJoinedBy now.upper p → p.up ≡ now.upper.up → CanEnd b crossing now.upper.part now.at last now.lower.part → IsJoinedEnded b crossing now.upper.part now.at last now.lower p.part → StandsSince b m hubs was p
  joined_over reads_still ends_law law j up can g =
      let u = all_ended g.there g.below (is_live g.there.state) refl g.shut can.over in
      let e = can.ending in
      let came_to = ended_at e received (sym last.inlet.over ∙ can.ended) in
      let eq : came_to.before ++ came_to.signal ∷ (came_to.after ++ g.remaining) ≡ (map Next cut.queue ++ u.out) ++ u.ending ∷ [] =
      sym (append_assoc came_to.before (came_to.signal ∷ came_to.after) g.remaining) ∙ (ap (λ l. l ++ g.remaining) (sym came_to.all) ∙ (g.all ∙ u.sent)) in
      let end = the_last came_to.before (map Next cut.queue ++ u.out) came_to.signal u.ending (came_to.after ++ g.remaining) (ending_ends e came_to.signal came_to.ending) (queue_unended u.out u.unended) eq in
      let after : came_to.after ≡ [] = first_empty came_to.after g.remaining end.none in
      let all : received ≡ map Next cut.queue ++ (u.out ++ u.ending ∷ []) =
      came_to.all ∙ (ap (λ l. came_to.before ++ came_to.signal ∷ l) after ∙ (ap (λ l. l ++ came_to.signal ∷ []) end.front ∙ (ap (λ z. (map Next cut.queue ++ u.out) ++ z ∷ []) end.same ∙ append_assoc (map Next cut.queue) u.out (u.ending ∷ [])))) in
      let ending_is : endings e ≡ u.ending ∷ [] = came_to.ending ∙ ap (λ z. z ∷ []) end.same in
      let place = place_read e (place_at now.at now.upper.part.tree) can.read in
      let straight : b.crosses g.below.tree.machine ≡ false = u.lets.alike.3 ∙ u.straight in
      let done = g.put straight in
      let carries = flows_sent b m (Begins tb) opening.lower.part.tree u.kept.tree g.below.tree u.out u.ending u.under.flow u.lets in
      let part = law m was.part opening.upper.part now.upper.part opening.lower.part u.kept g.below now.at k cut.before cut.reader place.0 g.there cut.queue e received (sent_signals was.up) u.out u.ending now.upper.up ta tb whole
      pos was_cut counts above g.is u.under u.lets carries done.0 place.1 place.2 ending_is all (shared now.upper.part.tree u.kept.tree u.under.reading) in
      let P : Part M → Type 0 = λ q. PieceStands b m whole was.part.tree (sent_signals was.up) q now.upper.up in
      let can_here : can_end_here crossing 0 place.0.node place.0.below ≡ true = sym (ap (can_put_in b crossing None 0) place.1) ∙ can.takes in
      let alone = ended_row place.0.below (and_parts (is_end place.0.below) _ can_here).0 in
      let held = held_in crossing (place_at now.at now.upper.part.tree) in
      let x = put_node crossing None (place_at now.at now.upper.part.tree) [] g.below.tree.machine in
      let E : Ending → Type 0 = λ z. HoldsEnding b m (crossing.ended_queue z (held ++ []) g.below.tree.machine) (map Next (held ++ []) ++ u.ending ∷ []) g.below.tree.machine in
      let over = subst E (sym (ap (ending_in crossing) place.1 ∙ ap ending_of place.2)) (ends_law m e (held ++ []) u.ending u.kept.tree.machine g.below.tree.machine straight ending_is u.lets.offered (ending_gone b m u.kept.tree u.ending g.below.tree u.lets u.ends).0) in
      let R : List (Option Reading) → Type 0 = λ l. AllGoOn (readings b opening.lower.part.tree) l in
      let go : AllGoOn (readings b opening.lower.part.tree) (readings b g.below.tree) = subst R (sym u.lets.alike.2) u.under.reading in
      let each = beside x g.below.tree.inputs place.0 pos place.1 alone (λ h _. no_hub reads_still place.0.node e place.2 h)
      (λ i l at. let A : Option Reading → Type 0 = λ r. AllOf (λ h. h ≡ hub_of i → ⊥) (r ∷ row_readings b g.below.tree.inputs) in subst A (sym over.reads) (tt, (others_free g.below.tree go l i at).1)) p.part done.1 in
      assembled j up (subst P (sym done.1) part) each
