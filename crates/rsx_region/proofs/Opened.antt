-- The halves of a piece as it was cut stand for what they begin with.
use Rattle.std.proofs.Common.{◌≡◌, inl, inr, ℕ, zero, suc, ◌+◌, ◌-◌, ◌≤◌, min, true, false, if◌then◌else◌, List, [], ◌∷◌, ◌++◌, length, map, refl, ap, sym, ◌∙◌, subst, arith, Option, Some, None, slice_get}
use Rattle.std.specs.List.{AllByRecursion}
use Rattle.rsx_demand.specs.declared.TheConstants.{UNBOUNDED}
use Rattle.rsx_sources.specs.Prelude.{Meaning, Reading, Stream, reads_hub}
use Rattle.rsx_sources.specs.declared.machine.Machine.{Ghosts as Machine}
use Rattle.rsx_rooted.specs.declared.nodes.CrossingNodes.{Ghosts as CrossingNodes}
use Rattle.rsx_rooted.proofs.Puts.{put_again}
use Rattle.rsx_rooted.specs.Local.{AllOf, ReadsNot, stream_of}
use Rattle.rsx_rooted.specs.Splice.{splice}
use Rattle.rsx_tree.specs.Handed.{reader_edge_in}
use Rattle.rsx_tree.specs.Reads.{IsTreeReadAt, readings, row_readings}
use Rattle.rsx_tree.specs.Swapped.{put_at}
use Rattle.rsx_tree.specs.Edges.{is_live}
use Rattle.rsx_tree.specs.declared.edge.Edge.{Edge}
use Rattle.rsx_tree.specs.declared.edge.EdgeState.{EdgeState}
use Rattle.rsx_tree.specs.declared.edge.EdgeState.TheVariants.{Live, Closed, Ended}
use Rattle.rsx_tree.specs.declared.inputs.Inputs.{End}
use Rattle.rsx_tree.specs.declared.node.Node.{Node}
use Rattle.rsx_pipe.proofs.Cuts.{sender_put}
use Rattle.rsx_pipe.specs.Cutting.{Place, place_at, sender_at}
use Rattle.rsx_pipe.specs.Output.{counts_in}
use Rattle.rsx_pipe.specs.Published.{reader_edge}
use Rattle.rsx_link.specs.Ends.{asked_total, cancels_of, carried_down, carried_up, items_sent, received_signals, seen_total}
use Rattle.rsx_link.specs.Signals.{items_in}
use Rattle.rsx_region.specs.Inlet.{HaveBegun, HaveReached, InletStands, IsBegunAt, IsReachedAt, NoneReads, OneReads, replaced_at}
use Rattle.rsx_region.specs.Joined.{AgreesOn}
use Rattle.rsx_region.proofs.CutParts.{HoldsLaw, cut_live, cuts_reading, live_there, readings_put, root_of_live}
use Rattle.rsx_region.proofs.Joinings.{items_next}
use Rattle.rsx_region.proofs.Openings.{opens}
use Rattle.rsx_region.proofs.EdgePlaces.{IsThere, place_below, same_some, with_below}
use Rattle.rsx_region.specs.Cuts.{AsksAsMuch, HasTakenNothing}
use Rattle.rsx_region.specs.Joins.{IsCutFrom}
use Rattle.rsx_region.specs.Pieces.{Each, IsBlankAt, StandsSince, came_of, hub_of, taken_by, taken_of}
use Rattle.rsx_region.specs.Halves.{Halves}
use Rattle.rsx_region.specs.declared.piece.Incoming.{Incoming}
use Rattle.rsx_region.specs.declared.piece.Piece.{Piece}
use Rattle.rsx_region.proofs.Beside.{apart_false, begun_free, none_edge, none_free, reached_free, read_there, row_edge_put}
use Rattle.rsx_region.proofs.Comes.{replaced_same}
use Rattle.rsx_region.proofs.Cuts.{true_of}

-- ---- a splice undone

-- the element that the other list stands in the place of
none_left : (h c : ℕ) (low rs : List (Option Reading)) (r : Option Reading) → slice_get rs c ≡ Some r → reads_hub h r ≡ false → NoneReads h (splice c low rs) → NoneReads h rs
none_left h c low [] r at free n = tt
none_left h zero low (u ∷ us) r at free n = (ap (reads_hub h) (same_some _ _ at) ∙ free, none_behind h low us n)
  where
    none_behind : (h : ℕ) (xs ys : List (Option Reading)) → NoneReads h (xs ++ ys) → NoneReads h ys
    none_behind h [] ys k = k
    none_behind h (x ∷ xs) ys k = none_behind h xs ys k.1
none_left h (suc c) low (u ∷ us) r at free n = (n.0, none_left h c low us r at free n.1)

one_behind : (h : ℕ) (xs ys : List (Option Reading)) → NoneReads h xs → OneReads h (xs ++ ys) → OneReads h ys
one_behind h [] ys n o = o
one_behind h (x ∷ xs) ys n o = elim o [
  | inl y ↦ let both : true ≡ false = sym y.0 ∙ n.0 in cc
  | inr y ↦ one_behind h xs ys n.1 y.1
]

one_left : (h c : ℕ) (low rs : List (Option Reading)) (r : Option Reading) → slice_get rs c ≡ Some r → reads_hub h r ≡ false → NoneReads h low → OneReads h (splice c low rs) → OneReads h rs
one_left h c low [] r at free n o = tt
one_left h zero low (u ∷ us) r at free n o = inr (ap (reads_hub h) (same_some _ _ at) ∙ free, one_behind h low us n o)
one_left h (suc c) low (u ∷ us) r at free n o = elim o [
  | inl y ↦ inl (y.0, none_left h c low us r at free y.1)
  | inr y ↦ inr (y.0, one_left h c low us r at free n y.1)
]

-- of a reader that took the place of nodes none of which reads it
one_alone : (h c : ℕ) (low rs : List (Option Reading)) (r : Option Reading) → slice_get rs c ≡ Some r → reads_hub h r ≡ true → NoneReads h (splice c low rs) → OneReads h rs
one_alone h c low [] r at reads n = tt
one_alone h zero low (u ∷ us) r at reads n = inl (ap (reads_hub h) (same_some _ _ at) ∙ reads, none_behind h low us n)
  where
    none_behind : (h : ℕ) (xs ys : List (Option Reading)) → NoneReads h (xs ++ ys) → NoneReads h ys
    none_behind h [] ys k = k
    none_behind h (x ∷ xs) ys k = none_behind h xs ys k.1
one_alone h (suc c) low (u ∷ us) r at reads n = inr (n.0, one_alone h c low us r at reads n.1)

each_behind : {A : Type 0} (P : A → Type 0) (xs ys : List A) → AllByRecursion P (xs ++ ys) → AllByRecursion P ys
each_behind P [] ys k = k
each_behind P (x ∷ xs) ys k = each_behind P xs ys k.1

each_left : {A : Type 0} (P : A → Type 0) (c : ℕ) (low rs : List A) (r : A) → slice_get rs c ≡ Some r → P r → AllByRecursion P (splice c low rs) → AllByRecursion P rs
each_left P c low [] r at own a = tt
each_left P zero low (u ∷ us) r at own a = (subst P (sym (same_some _ _ at)) own, each_behind P low us a)
each_left P (suc c) low (u ∷ us) r at own a = (a.0, each_left P c low us r at own a.1)

-- ---- nothing came

taken_nothing : {T : Type 0} (hubs : List (Stream T)) (is : List (Incoming T)) → Each (λ (i : Incoming T). IsBlankAt hubs (hub_of i)) is → Each (λ (i : Incoming T). received_signals i.inlet.down ≡ []) is → taken_by stream_of hubs (map came_of is) ≡ hubs
taken_nothing hubs [] blank none = refl
taken_nothing {T} hubs (i ∷ is) blank none =
    ap (λ s. replaced_at (hub_of i) (stream_of s) (taken_by stream_of hubs (map came_of is))) (none 0 i refl)
    ∙ (ap (replaced_at (hub_of i) (stream_of [])) (taken_nothing hubs is (λ k j at. blank (suc k) j at) (λ k j at. none (suc k) j at)) ∙ replaced_same (hub_of i) (stream_of []) hubs (blank 0 i refl))

all_same : {T : Type 0} {M : Type 0} (b : Machine M T) (k : ℕ) (ones others : List (Stream T)) (t : Node M) → others ≡ ones → AgreesOn b k ones others t
all_same b k ones others t same = of (readings b t)
  where
    of : (rs : List (Option Reading)) → AllOf (λ i. (i ≡ k → ⊥) → slice_get others i ≡ slice_get ones i) rs
    of [] = tt
    of (None ∷ rs) = (tt, of rs)
    of (Some r ∷ rs) = (λ _. ap (λ l. slice_get l r.hub) same, of rs)

pub each_more : {A : Type 0} (P : A → Type 0) (xs : List A) (x : A) → Each P xs → P x → Each P (xs ++ x ∷ [])
each_more P [] x all one zero y at = subst P (same_some _ _ at) one
each_more P [] x all one (suc k) y at = cc
each_more P (w ∷ xs) x all one zero y at = all 0 y at
each_more P (w ∷ xs) x all one (suc k) y at = each_more P xs x (λ j z is. all (suc j) z is) one k y at

-- ---- what is known of the new link, beside what it was cut from

pub record IsBegun {M T : Type 0} (b : Machine M T) (edge : Edge) (h : Halves M T) (inlet : Incoming T) : Type 0 where
  pub live : h.lower.part.root.state ≡ Live
  pub asked : h.lower.part.root.demand.asked ≡ edge.demand.asked
  pub seen : seen_total h.lower.up ≡ edge.demand.asked
  pub none : received_signals inlet.inlet.down ≡ []
  pub asks : asked_total inlet.inlet.down ≡ edge.demand.asked
  pub uncancelled : cancels_of inlet.inlet.closer ≡ 0
  pub as_much : AsksAsMuch b (hub_of inlet) edge h.upper.part

live_of : (s : EdgeState) → is_live s ≡ true → s ≡ Live
live_of Live h = refl
live_of Ended h = cc
live_of Closed h = cc

pub capped : (e : Edge) → e.demand.asked ≡ min UNBOUNDED e.demand.asked
capped e = least e.demand.asked e.demand.bounded
  where
    least : (a : ℕ) → a ≤ UNBOUNDED → a ≡ min UNBOUNDED a
    least a h = omega (arith, h)

-- ---- both halves stand

module _ {M T : Type 0} (b : Machine M T) (crossing : CrossingNodes M T) (holds : HoldsLaw b crossing) (m : Meaning T) (hubs : List (Stream T)) (was : Piece M T) (h : Halves M T) (edge : Edge)
    (cut : IsCutFrom b crossing was h) (begun : IsBegun b edge h cut.inlet) (within : IsBlankAt hubs (hub_of cut.inlet)) (nothing : HasTakenNothing was) (ws : StandsSince b m hubs was was) where
  abbrev k : ℕ
  k = hub_of cut.inlet

  nothing_above : HasTakenNothing h.upper
  nothing_above = subst (Each (λ (i : Incoming T). received_signals i.inlet.down ≡ [])) (sym cut.ins) (each_more (λ (i : Incoming T). received_signals i.inlet.down ≡ []) was.inlets.items cut.inlet nothing begun.none)

  blank_was : taken_of hubs was ≡ hubs
  blank_was = taken_nothing hubs was.inlets.items ws.blank nothing

  blanks_above : Each (λ (i : Incoming T). IsBlankAt hubs (hub_of i)) h.upper.inlets.items
  blanks_above = subst (Each (λ (i : Incoming T). IsBlankAt hubs (hub_of i))) (sym cut.ins) (each_more (λ (i : Incoming T). IsBlankAt hubs (hub_of i)) was.inlets.items cut.inlet ws.blank within)

  blank_above : taken_of hubs h.upper ≡ hubs
  blank_above = taken_nothing hubs h.upper.inlets.items blanks_above nothing_above

  blank_below : taken_of hubs h.lower ≡ hubs
  blank_below = ap (λ l. taken_by stream_of hubs (map came_of l)) cut.none

  root_live : was.part.root.state ≡ Live
  root_live = root_of_live was.part h.at (cut_live b crossing was.part h.upper.part h.lower.part h.at cut.reader cut.queue cut.cut.cut)

  reading : IsTreeReadAt b (counts_in (taken_of hubs h.upper)) h.upper.part.tree × IsTreeReadAt b (counts_in (taken_of hubs h.lower)) h.lower.part.tree
  reading = cuts_reading b crossing holds m was.part h.upper.part h.lower.part h.at k cut.before cut.reader cut.queue (taken_of hubs was) (taken_of hubs h.upper) (taken_of hubs h.lower) cut.cut.cut cut.cut.reads cut.cut.free
      (ap (λ l. slice_get l k) blank_above ∙ within)
      (all_same b k (taken_of hubs was) (taken_of hubs h.upper) was.part.tree (blank_above ∙ sym blank_was))
      (all_same b k (taken_of hubs was) (taken_of hubs h.lower) was.part.tree (blank_below ∙ sym blank_was))
      (ws.part.live root_live).reads

  lower_stands : StandsSince b m hubs h.lower h.lower
  lower_stands = record {
    links = (refl, refl);
    carried = refl;
    part = opens b m (taken_of hubs h.lower) h.lower.part h.lower.up begun.live (record {
      asked = begun.asked ∙ (capped edge ∙ ap (min UNBOUNDED) (sym begun.seen));
      sent = sym cut.cut.counted ∙ (ap (λ c. c + length cut.queue) (sym cut.carried) ∙ ap (λ c. carried_up h.lower.up + c) (sym (ap items_in cut.sent ∙ items_next cut.queue)));
    }) reading.1;
    ins = subst (Each (λ (i : Incoming T). InletStands b (taken_of hubs h.lower) h.lower.part i.inlet)) (sym cut.none) (λ j i at. cc);
    blank = subst (Each (λ (i : Incoming T). IsBlankAt hubs (hub_of i))) (sym cut.none) (λ j i at. cc);
  }

  -- ---- the upper half

  there : IsThere h.at was.part.tree
  there = live_there was.part h.at (cut_live b crossing was.part h.upper.part h.lower.part h.at cut.reader cut.queue cut.cut.cut)

  abbrev at : ℕ
  at = h.at - 1

  abbrev place : Place M
  place = record { node = cut.reader; below = End }

  abbrev x0 : M
  x0 = crossing.queued cut.queue h.lower.part.tree.machine

  abbrev low : List (Option Reading)
  low = b.reads x0 ∷ row_readings b h.lower.part.tree.inputs

  upper_is : h.upper.part.tree ≡ record { machine = was.part.tree.machine; inputs = put_at at cut.reader End was.part.tree.inputs }
  upper_is = ap (λ q. q.tree) cut.cut.cut.upper ∙ with_below h.at cut.reader End was.part.tree cut.below

  whole_is : put_at at x0 h.lower.part.tree.inputs was.part.tree.inputs ≡ was.part.tree.inputs
  whole_is = ap (λ (t : Node M). t.inputs) (sym (with_below h.at x0 h.lower.part.tree.inputs was.part.tree cut.below) ∙ sym cut.cut.cut.whole)

  reader_there : place_at h.at h.upper.part.tree ≡ Some place
  reader_there = place_below h.at h.upper.part.tree cut.below ∙ (ap (λ (t : Node M). sender_at at t.inputs) upper_is ∙ sender_put was.part.tree.inputs at cut.reader End (there cut.below))

  reads_there : slice_get (readings b h.upper.part.tree) h.at ≡ Some (b.reads cut.reader)
  reads_there = read_there b h.upper.part.tree h.at place cut.below reader_there

  spliced : readings b was.part.tree ≡ splice h.at low (readings b h.upper.part.tree)
  spliced = ap (readings b) cut.cut.cut.whole ∙ (readings_put b h.at x0 cut.reader h.lower.part.tree.inputs was.part.tree there ∙ ap (λ t. splice h.at low (readings b t)) (sym (ap (λ q. q.tree) cut.cut.cut.upper)))

  -- the reader reads the new link alone
  reads_one : reads_hub k (b.reads cut.reader) ≡ true
  reads_one = ap (reads_hub k) cut.cut.reads.reads ∙ true_of k k refl

  reads_no_other : (i : ℕ) → (i ≡ k → ⊥) → reads_hub i (b.reads cut.reader) ≡ false
  reads_no_other i ne = ap (reads_hub i) cut.cut.reads.reads ∙ apart_false k i (λ e. ne (sym e))

  new_link : InletStands b (taken_of hubs h.upper) h.upper.part cut.inlet.inlet
  new_link =
      let free = cut.cut.free in
      let A : List (Option Reading) → Type 0 = λ l. AllOf (λ i. i ≡ k → ⊥) l in
      let all = subst A spliced free in
      let R : ℕ → Type 0 = λ c. HaveReached k c (readings b h.upper.part.tree) in
      let B : ℕ → Type 0 = λ c. HaveBegun k c (readings b h.upper.part.tree) in
      let P : Option Reading → Type 0 = λ o. IsReachedAt k 0 o in
      let Q : Option Reading → Type 0 = λ o. IsBegunAt k cut.before o in
      record {
        came = ap (λ l. slice_get l k) blank_above ∙ (within ∙ ap (λ s. Some (stream_of s)) (sym begun.none));
        one = one_alone k h.at low (readings b h.upper.part.tree) (b.reads cut.reader) reads_there reads_one (none_free k (splice h.at low (readings b h.upper.part.tree)) all);
        reached = subst R (sym (ap items_in begun.none)) (each_left (IsReachedAt k 0) h.at low (readings b h.upper.part.tree) (b.reads cut.reader) reads_there (subst P (sym cut.cut.reads.reads) (λ _. refl)) (reached_free k 0 (splice h.at low (readings b h.upper.part.tree)) all));
        began = subst B (sym cut.taken) (each_left (IsBegunAt k cut.before) h.at low (readings b h.upper.part.tree) (b.reads cut.reader) reads_there (subst Q (sym cut.cut.reads.reads) (λ _. (refl, refl))) (begun_free k cut.before (splice h.at low (readings b h.upper.part.tree)) all));
        asked = λ e is. let more = begun.as_much e is in let same = begun.asks in omega (arith, more, same);
        cancelled = λ e is many. let none = begun.uncancelled in absurd (omega (arith, none, many));
      }

  -- a link that came in before
  old_link : (i : Incoming T) → (hub_of i ≡ k → ⊥) → ReadsNot b (hub_of i) h.lower.part.tree → InletStands b (taken_of hubs was) was.part i.inlet → InletStands b (taken_of hubs h.upper) h.upper.part i.inlet
  old_link i ne free st =
      let g = hub_of i in
      let got = items_in (received_signals i.inlet.down) in
      let A : Option Reading → Type 0 = λ r. AllOf (λ j. j ≡ g → ⊥) (r ∷ row_readings b h.lower.part.tree.inputs) in
      let all : AllOf (λ j. j ≡ g → ⊥) low = subst A (sym (holds m cut.queue h.lower.part.tree.machine cut.cut.cut.straight).reads) free in
      let none = none_free g low all in
      let apart = reads_no_other g ne in
      let top = readings b h.upper.part.tree in
      let O : List (Option Reading) → Type 0 = λ l. OneReads g l in
      let R : List (Option Reading) → Type 0 = λ l. HaveReached g got l in
      let B : List (Option Reading) → Type 0 = λ l. HaveBegun g (carried_down i.inlet.down) l in
      let P : Option Reading → Type 0 = λ o. IsReachedAt g got o in
      let Q : Option Reading → Type 0 = λ o. IsBegunAt g (carried_down i.inlet.down) o in
      let row : reader_edge_in b g (put_at at cut.reader End was.part.tree.inputs) ≡ reader_edge_in b g was.part.tree.inputs =
      sym (row_edge_put b g x0 h.lower.part.tree.inputs (put_at at cut.reader End was.part.tree.inputs) at place (sender_put was.part.tree.inputs at cut.reader End (there cut.below)) refl apart none.0 (none_edge b g h.lower.part.tree.inputs none.1))
      ∙ ap (reader_edge_in b g) (put_again was.part.tree.inputs at x0 cut.reader h.lower.part.tree.inputs End (there cut.below) ∙ whole_is) in
      let edge_same : reader_edge b g h.upper.part ≡ reader_edge b g was.part =
      ap (reader_edge b g) cut.cut.cut.upper
      ∙ (ap (λ (t : Node M). if reads_hub g (b.reads t.machine) then Some was.part.root else reader_edge_in b g t.inputs) (with_below h.at cut.reader End was.part.tree cut.below)
      ∙ ap (λ o. if reads_hub g (b.reads was.part.tree.machine) then Some was.part.root else o) row) in
      record {
        came = ap (λ l. slice_get l g) (blank_above ∙ sym blank_was) ∙ st.came;
        one = one_left g h.at low top (b.reads cut.reader) reads_there apart none (subst O spliced st.one);
        reached = each_left (IsReachedAt g got) h.at low top (b.reads cut.reader) reads_there (subst P (sym cut.cut.reads.reads) (λ e. absurd (ne (sym e)))) (subst R spliced st.reached);
        began = each_left (IsBegunAt g (carried_down i.inlet.down)) h.at low top (b.reads cut.reader) reads_there (subst Q (sym cut.cut.reads.reads) (λ e. absurd (ne (sym e)))) (subst B spliced st.began);
        asked = λ e is. st.asked e (sym edge_same ∙ is);
        cancelled = λ e is many. st.cancelled e (sym edge_same ∙ is) many;
      }

  upper_stands : StandsSince b m hubs h.upper h.upper
  upper_stands =
      let root : h.upper.part.root ≡ was.part.root = ap (λ q. q.root) cut.cut.cut.upper in
      let I : Incoming T → Type 0 = λ i. InletStands b (taken_of hubs h.upper) h.upper.part i.inlet in
      record {
        links = (refl, refl);
        carried = refl;
        part = opens b m (taken_of hubs h.upper) h.upper.part h.upper.up (ap (λ (e : Edge). e.state) root ∙ root_live) (record {
          asked = ap (λ (e : Edge). e.demand.asked) root ∙ (ws.part.step.asked ∙ ap (λ u. min UNBOUNDED (seen_total u)) (sym cut.up));
          sent = ap (λ (e : Edge). e.demand.sent) root ∙ (ws.part.step.sent ∙ ap items_sent (sym cut.up));
        }) reading.0;
        ins = subst (Each I) (sym cut.ins) (each_more I was.inlets.items cut.inlet (λ j i there_i. old_link i (cut.apart j i there_i) (cut.free j i there_i) (ws.ins j i there_i)) new_link);
        blank = blanks_above;
      }

  pub both_stand : StandsSince b m hubs h.upper h.upper × StandsSince b m hubs h.lower h.lower
  both_stand = (upper_stands, lower_stands)
