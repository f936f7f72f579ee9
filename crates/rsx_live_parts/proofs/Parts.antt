-- A part that went on as a piece stands for what it stood for, with what it sent.
use Rattle.std.proofs.Common.{◌≡◌, inr, ℕ, zero, suc, ◌+◌, Bool, true, false, not, is_some, List, [], ◌∷◌, ◌++◌, length, replicate, refl, ap, sym, ◌∙◌, subst, Option, Some, None, option_map, slice_get, length-append, arith}
use Rattle.rsx_model.specs.declared.expr.Expr.{Expr}
use Rattle.rsx_sources.specs.Prelude.{Complete, Error, Meaning, Next, Note, Reading, Signal, Stream, ends_input, notes_then, published_at, signals, signals_then}
use Rattle.rsx_sources.specs.declared.machine.Machine.{Ghosts as Machine}
use Rattle.rsx_tree.specs.declared.edge.EdgeState.{EdgeState}
use Rattle.rsx_tree.specs.declared.edge.EdgeState.TheVariants.{Live, Closed, Ended}
use Rattle.rsx_tree.specs.declared.inputs.Inputs.{Inputs, End, More'}
use Rattle.rsx_tree.specs.declared.node.Node.{Node}
use Rattle.rsx_tree.specs.Reads.{IsReadAt, IsRowReadAt, IsTreeReadAt, readings, row_readings}
use Rattle.rsx_tree.specs.Tree.{comes_out, notes}
use Rattle.rsx_rooted.proofs.Signals.{IsOrderly-more, items_in-append}
use Rattle.rsx_rooted.specs.Flow.{AreFor, Flows}
use Rattle.rsx_rooted.specs.Local.{Begins, IsOf, stream_of}
use Rattle.rsx_rooted.proofs.Locals.{flows_stands, reads_not_on}
use Rattle.rsx_pipe.specs.Output.{IsOrderly, IsUnended, counts_in, items_in, values_then}
use Rattle.rsx_pipe.specs.Part.{Part, PartStands, evaluated}
use Rattle.rsx_pipe.specs.Tree.{IsBalanced}
use Rattle.rsx_link.specs.Ends.{carried_up}
use Rattle.rsx_link.specs.Signals.{items_in as counted_in}
use Rattle.rsx_link.specs.declared.up.Up.{Up}
use Rattle.rsx_region.specs.Piece.{PieceStands}
use Rattle.rsx_live_parts.specs.Outgoing.{NoneRead, ReadsNothing}

-- ---- signals

pub unended_orderly : {T : Type 0} (ss : List (Signal T)) → IsUnended ss → IsOrderly ss
unended_orderly [] h = tt
unended_orderly (Next x ∷ ss) h = unended_orderly ss h
unended_orderly (Complete ∷ ss) h = absurd h
unended_orderly (Error c ∷ ss) h = absurd h

pub unended_both : {T : Type 0} (ss ts : List (Signal T)) → IsUnended ss → IsUnended ts → IsUnended (ss ++ ts)
unended_both [] ts h k = k
unended_both (Next x ∷ ss) ts h k = unended_both ss ts h k
unended_both (Complete ∷ ss) ts h k = absurd h
unended_both (Error c ∷ ss) ts h k = absurd h

pub orderly_both : {T : Type 0} (ss ts : List (Signal T)) → IsUnended ss → IsOrderly ts → IsOrderly (ss ++ ts)
orderly_both [] ts h k = k
orderly_both (Next x ∷ ss) ts h k = orderly_both ss ts h k
orderly_both (Complete ∷ ss) ts h k = absurd h
orderly_both (Error c ∷ ss) ts h k = absurd h

pub unended_behind : {T : Type 0} (ss ts : List (Signal T)) → IsUnended (ss ++ ts) → IsUnended ts
unended_behind [] ts h = h
unended_behind (Next x ∷ ss) ts h = unended_behind ss ts h
unended_behind (Complete ∷ ss) ts h = absurd h
unended_behind (Error c ∷ ss) ts h = absurd h

pub ends_list : {T : Type 0} (ss : List (Signal T)) (s : Signal T) → ends_input s ≡ true → IsUnended (ss ++ s ∷ []) → ⊥
ends_list [] (Next x) e h = let k = e in cc
ends_list [] Complete e h = h
ends_list [] (Error c) e h = h
ends_list (Next y ∷ ss) s e h = ends_list ss s e h
ends_list (Complete ∷ ss) s e h = h
ends_list (Error c ∷ ss) s e h = h

-- a link counts the items that are in the list
one_more : (n : ℕ) → suc n ≡ 1 + n
one_more n = omega arith

none_more : (n : ℕ) → 0 + n ≡ n
none_more n = omega arith

pub counted_items : {T : Type 0} (ss : List (Signal T)) → counted_in ss ≡ length (items_in ss)
counted_items [] = refl
counted_items (Next x ∷ ss) = ap (λ k. 1 + k) (counted_items ss) ∙ sym (one_more (length (items_in ss)))
counted_items (Complete ∷ ss) = none_more (counted_in ss) ∙ counted_items ss
counted_items (Error c ∷ ss) = none_more (counted_in ss) ∙ counted_items ss

pub counted_both : {T : Type 0} (ss ts : List (Signal T)) → counted_in (ss ++ ts) ≡ counted_in ss + counted_in ts
counted_both ss ts =
    counted_items (ss ++ ts) ∙ (ap length (items_in-append ss ts) ∙ (length-append (items_in ss) (items_in ts)
    ∙ (ap (λ k. k + length (items_in ts)) (sym (counted_items ss)) ∙ ap (λ k. counted_in ss + k) (sym (counted_items ts)))))

-- ---- values of hubs from which nothing came

same_of_many : {A : Type 0} (n i : ℕ) (x s : A) → slice_get (replicate n x) i ≡ Some s → s ≡ x
same_of_many zero i x s e = cc
same_of_many (suc n) zero x s e = let k : s ≡ x = cc in k
same_of_many (suc n) (suc i) x s e = same_of_many n i x s e

pub begins_any : {T : Type 0} (n : ℕ) (hubs : List (Stream T)) → Begins (replicate n (stream_of [])) hubs
begins_any n hubs i s e =
    let none = same_of_many n i (stream_of []) s e in
    (published_at hubs i, ap (λ v. signals_then (signals v) (published_at hubs i)) (sym none))

-- ---- trees that read no hub

read_at_none : (counts : List (Option ℕ)) (r : Option Reading) (rs : List (Option Reading)) → NoneRead (r ∷ rs) → IsReadAt counts r
read_at_none counts None rs h = tt
read_at_none counts (Some r) rs h = absurd h.0

parts_of : (xs ys : List (Option Reading)) → NoneRead (xs ++ ys) → NoneRead xs × NoneRead ys
parts_of [] ys h = (tt, h)
parts_of (x ∷ xs) ys h = let k = parts_of xs ys h.1 in ((h.0, k.0), k.1)

-- what is so of a row is so of its first node, of what is below that, and of what is beside it
pub row_parts : (all xs ys : List (Option Reading)) (r : Option Reading) → all ≡ r ∷ (xs ++ ys) → NoneRead all → IsOf (λ i. ⊥) r × NoneRead xs × NoneRead ys
row_parts all xs ys r is none =
    let h : NoneRead (r ∷ (xs ++ ys)) = subst (λ (l : List (Option Reading)). NoneRead l) is none in
    let both = parts_of xs ys h.1 in
    (h.0, both.0, both.1)

-- where a node says that it reads one, it does
pub reads_one : (r : Option Reading) (o : Option ℕ) (none : Bool) → o ≡ option_map (λ (x : Reading). x.hub) r → is_some o ≡ not none → none ≡ false → IsOf (λ i. ⊥) r → ⊥
reads_one None o none is some not_none h = let k : false ≡ true = sym (ap is_some is) ∙ (some ∙ ap not not_none) in cc
reads_one (Some r) o none is some not_none h = h

row_unread : {M T : Type 0} (b : Machine M T) (counts : List (Option ℕ)) (row : Inputs M) → NoneRead (row_readings b row) → IsRowReadAt b counts row
row_unread b counts End h = tt
row_unread b counts (More' e n p below q beside) h =
    let k = parts_of (row_readings b below) (row_readings b beside) h.1 in
    (inr (read_at_none counts (b.reads n) [] (h.0, tt), row_unread b counts below k.0), row_unread b counts beside k.1)

pub tree_unread : {M T : Type 0} (b : Machine M T) (counts : List (Option ℕ)) (t : Node M) → ReadsNothing b t → IsTreeReadAt b counts t
tree_unread b counts t h = (read_at_none counts (b.reads t.machine) [] (h.0, tt), row_unread b counts t.inputs h.1)

-- ---- the part

-- what a part was that became a piece, and the piece later
module _ {M T : Type 0} (b : Machine M T) (m : Meaning T) (published : List (Stream T)) (e : Expr T) (joins : List ℕ) (output : List (Signal T)) (n : ℕ) (was part : Part M) (queued : List (Signal T)) (up : Up T)
    (old : PartStands b m published was e joins output) (live : was.root.state ≡ Live) (nothing : ReadsNothing b was.tree) (p : PieceStands b m (replicate n (stream_of [])) was.tree queued part up) (counts : carried_up up + counted_in queued ≡ was.root.demand.sent) where
  abbrev none : List (Stream T)
  none = replicate n (stream_of [])

  -- values of the hubs that begin with what was published
  abbrev IsAfter : List (Stream T) → Type 0
  IsAfter hubs = (more : List (Stream T)) × (hubs ≡ values_then published more)

  abbrev value_of : List (Stream T) → List Note → Option (Stream T)
  value_of hubs ns = evaluated m hubs joins e ns

  stood : (hubs : List (Stream T)) (further : List Note) → IsAfter hubs → AreFor b was.tree further → option_map (signals_then output) (comes_out b m hubs further was.tree 0) ≡ value_of hubs (notes_then (notes b was.tree) further)
  stood hubs further fits len =
      let E : List (Stream T) → Type 0 = λ hs. option_map (signals_then output) (comes_out b m hs further was.tree 0) ≡ value_of hs (notes_then (notes b was.tree) further) in
      subst E (sym fits.1) (old.value fits.0 further len)

  flows : Flows b m IsAfter was.tree part.tree p.out
  flows = record {
    choose = p.flow.choose;
    count = p.flow.count;
    nodes = p.flow.nodes;
    notes = p.flow.notes;
    value = λ hubs further fits len. p.flow.value hubs further (begins_any n hubs) len;
  }

  unended_was : IsUnended output
  unended_was = old.unended live

  unread : ReadsNothing b part.tree
  unread = reads_not_on (λ i. ⊥) (readings b was.tree) (readings b part.tree) p.reading nothing

  orderly_out : (s : EdgeState) → part.root.state ≡ s → IsOrderly p.out
  orderly_out Live is = unended_orderly p.out (p.live is).unended
  orderly_out Closed is = unended_orderly p.out (p.closed is).unended
  orderly_out Ended is = let h = p.ended is in subst IsOrderly (sym h.all) (IsOrderly-more h.rest h.last h.on.unended)

  -- all items that went over the root edge are counted
  sent_all : length (items_in (output ++ p.out)) ≡ part.root.demand.sent
  sent_all =
      ap length (items_in-append output p.out) ∙ (length-append (items_in output) (items_in p.out)
      ∙ (ap (λ k. k + length (items_in p.out)) old.counted ∙ (ap (λ k. was.root.demand.sent + k) (sym (counted_items p.out))
      ∙ (ap (λ k. k + counted_in p.out) (sym counts) ∙ (plus (carried_up up) (counted_in queued) (counted_in p.out)
      ∙ (ap (λ k. carried_up up + k) (sym (counted_both queued p.out)) ∙ (ap (λ ss. carried_up up + counted_in ss) (sym p.sent) ∙ sym p.step.sent)))))))
    where
      plus : (a c d : ℕ) → a + c + d ≡ a + (c + d)
      plus a c d = omega arith

  after_ending : part.root.state ≡ Ended → IsUnended (output ++ p.out) → ⊥
  after_ending is u =
      let h = p.ended is in
      let out : IsUnended (h.rest ++ h.last ∷ []) = subst IsUnended h.all (unended_behind output p.out u) in
      ends_list h.rest h.last h.ends out

  balanced : part.root.state ≡ Live → IsBalanced b part.tree part.root.demand.sent
  balanced is =
      let all : was.root.demand.sent + counted_in p.out ≡ part.root.demand.sent =
      ap (λ k. k + counted_in p.out) (sym counts) ∙ (plus (carried_up up) (counted_in queued) (counted_in p.out)
      ∙ (ap (λ k. carried_up up + k) (sym (counted_both queued p.out)) ∙ (ap (λ ss. carried_up up + counted_in ss) (sym p.sent) ∙ sym p.step.sent))) in
      (p.live is).balance was.root.demand.sent all (old.balance live)
    where
      plus : (a c d : ℕ) → a + c + d ≡ a + (c + d)
      plus a c d = omega arith

  pub part_again : PartStands b m published part e joins (output ++ p.out)
  part_again = record {
    value = λ more further len. flows_stands b m IsAfter value_of was.tree part.tree output p.out stood flows (values_then published more) further (more, refl) len;
    orderly = orderly_both output p.out unended_was (orderly_out part.root.state refl);
    unended = λ is. unended_both output p.out unended_was (p.live is).unended;
    ended = after_ending;
    counted = sent_all;
    balance = balanced;
    reads = λ is. tree_unread b (counts_in published) part.tree unread;
    alone = λ is js. tree_unread b [] part.tree unread;
    closed = λ is. (p.closed is).edges;
  }
