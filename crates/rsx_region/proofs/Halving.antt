-- What the calls by which halves are joined know of them.
use Rattle.std.proofs.Common.{◌≡◌, ℕ, zero, suc, ◌+◌, ◌-◌, ◌<◌, ◌≤◌, Bool, true, false, nat_le, List, [], ◌∷◌, ◌++◌, length, map, refl, ap, sym, ◌∙◌, arith, Option, Some, None, slice_get, Result, Ok, Err}
use Rattle.std.proofs.lemmas.Bool.{and_parts}
use Rattle.std.proofs.lemmas.Bool.Decides.{nat_tests}
use Rattle.std.specs.Prelude.{not, ◌&&◌, OnErr, OnOk, is_some, option_map}
use Rattle.rsx_types.proofs.Lists.{slice_get_behind}
use Rattle.rsx_sources.specs.Prelude.{CAPACITY, Ending, Next, Signal, reads_hub}
use Rattle.rsx_sources.specs.declared.machine.Machine.{Ghosts as Machine}
use Rattle.rsx_rooted.specs.declared.nodes.CrossingNodes.{Ghosts as CrossingNodes}
use Rattle.rsx_tree.specs.Edges.{EdgeView, edge_view, is_live}
use Rattle.rsx_tree.specs.Stepped.{Station, station_of}
use Rattle.rsx_tree.specs.declared.edge.Edge.{Edge}
use Rattle.rsx_tree.specs.declared.edge.EdgeState.TheVariants.{Closed, Ended}
use Rattle.rsx_pipe.specs.Crossing.{edge_over}
use Rattle.rsx_pipe.specs.Cutting.{Place, can_join, can_join_in, fits_behind, is_end, joined, place_at}
use Rattle.rsx_pipe.specs.Part.{Part}
use Rattle.rsx_pipe.specs.Rejoined.{can_put_in, can_rejoin_ended, joined_ended, read_at}
use Rattle.rsx_region.specs.Joins.{CanEnd, CanGoOn, IsPutAt}
use Rattle.rsx_region.specs.Pieces.{hub_of}
use Rattle.rsx_region.specs.declared.halves.TheConstants.{LINK_PLACES}
use Rattle.rsx_region.specs.declared.piece.Incoming.{Incoming}

-- the edge of a node is that of its station
record IsStation {M : Type 0} (o : Option (Station M)) (e : Edge) : Type 0 where
  there : Station M
  is : o ≡ Some there
  state : e.state ≡ there.state

station_from : {M : Type 0} (found : Option Edge) (o : Option (Station M)) (e : Edge) → option_map edge_view found ≡ option_map edge_over o → found ≡ Some e → IsStation o e
station_from None o e is here = cc
station_from (Some f) None e is here = cc
station_from (Some f) (Some s) e is here =
    let same : f ≡ e = cc in
    let view : edge_view f ≡ edge_over s = cc in
    record { there = s; is = refl; state = ap (λ (x : Edge). x.state) (sym same) ∙ ap (λ (v : EdgeView). v.state) view }

positive : (x : ℕ) → (x ≡ 0 → ⊥) → 0 < x
positive zero h = absurd (h refl)
positive (suc x) h = omega arith

none_of : {A : Type 0} (o : Option A) → is_some o ≡ false → o ≡ None
none_of None h = refl
none_of (Some x) h = cc

pub go_on : {M T : Type 0} (b : Machine M T) (crossing : CrossingNodes M T) (part : Part M) (at : ℕ) (last : Incoming T) (lower : Part M) (found : Option Edge) (reader root : Edge) (hub : ℕ) (some may takes : Bool) → option_map edge_view found ≡ option_map edge_over (station_of part.tree (edge_view part.root) at) → found ≡ Some reader →
    (at ≡ 0 → ⊥) → some ≡ is_some last.inlet.ended → some ≡ false → (may ≡ true → is_live reader.state ≡ true → root.state ≡ Closed → ⊥) → may ≡ true → root ≡ lower.root → hub ≡ hub_of last →
    takes ≡ can_put_in b crossing (Some hub) LINK_PLACES (place_at at part.tree) → takes ≡ true → CanGoOn b crossing part at last lower
go_on {M} b crossing part at last lower found reader root hub some may takes is here pos ended none goes so root_is hub_is can can_take =
    let s = station_from found (station_of part.tree (edge_view part.root) at) reader is here in
    record {
      below = positive at pos;
      there = s.there;
      is = s.is;
      none = none_of last.inlet.ended (sym ended ∙ none);
      goes_on = λ live closed. goes so (ap is_live s.state ∙ live) (ap (λ (e : Edge). e.state) root_is ∙ closed);
      takes = ap (λ h. can_put_in b crossing (Some h) LINK_PLACES (place_at at part.tree)) (sym hub_is) ∙ (sym can ∙ can_take);
    }

pub end_there : {M T : Type 0} (b : Machine M T) (crossing : CrossingNodes M T) (part : Part M) (at : ℕ) (last : Incoming T) (lower : Part M) (found : Option Edge) (reader root : Edge) (ending read : Ending) (o : Option Ending) (over takes : Bool) → option_map edge_view found ≡ option_map edge_over (station_of part.tree (edge_view part.root) at) → found ≡ Some reader →
    (at ≡ 0 → ⊥) → last.inlet.ended ≡ Some ending → o ≡ read_at crossing (place_at at part.tree) → o ≡ Some read → read ≡ ending → (over ≡ true → root.state ≡ Ended) → over ≡ true → root ≡ lower.root →
    takes ≡ can_put_in b crossing None 0 (place_at at part.tree) → takes ≡ true → CanEnd b crossing part at last lower
end_there b crossing part at last lower found reader root ending read o over takes is here pos ended looked got same ends so root_is can can_take =
    let s = station_from found (station_of part.tree (edge_view part.root) at) reader is here in
    record {
      below = positive at pos;
      there = s.there;
      is = s.is;
      ending = ending;
      ended = ended;
      read = sym looked ∙ (got ∙ ap Some same);
      over = ap (λ (e : Edge). e.state) (sym root_is) ∙ ends so;
      takes = sym can ∙ can_take;
    }

-- ---- a queue that takes so much back takes less

le_true : (x y : ℕ) → nat_le x y ≡ true → x ≤ y
le_true x y h = grind (arith, nat_tests, h)

true_le : (x y : ℕ) → x ≤ y → nat_le x y ≡ true
true_le x y h = grind (arith, nat_tests, h)

fits_less : {T : Type 0} (held : Option (List T)) (few many : ℕ) → few ≤ many → fits_behind held many ≡ true → fits_behind held few ≡ true
fits_less None few many less h = h
fits_less (Some items) few many less h = let k = le_true (length items + many) CAPACITY h in true_le (length items + few) CAPACITY (omega (arith, less, k))

both_true : (x y : Bool) → x ≡ true → y ≡ true → (x && y) ≡ true
both_true x y h k = ap (λ c. c && y) h ∙ k

takes_less : {M T : Type 0} (b : Machine M T) (crossing : CrossingNodes M T) (hub few many : ℕ) (o : Option (Place M)) → few ≤ many → can_put_in b crossing (Some hub) many o ≡ true → can_put_in b crossing (Some hub) few o ≡ true
takes_less b crossing hub few many None less h = h
takes_less b crossing hub few many (Some p) less h =
    let first = and_parts (is_end p.below) _ h in
    let second = and_parts (reads_hub hub (b.reads p.node)) _ first.1 in
    both_true (is_end p.below) _ first.0 (both_true (reads_hub hub (b.reads p.node)) _ second.0 (fits_less (crossing.held p.node) few many less second.1))

join_put : {M T : Type 0} (b : Machine M T) (crossing : CrossingNodes M T) (hub : ℕ) (queue : List T) (o : Option (Place M)) → can_put_in b crossing (Some hub) (length queue) o ≡ can_join_in b crossing hub queue o
join_put b crossing hub queue None = refl
join_put b crossing hub queue (Some p) = refl

-- what went well where it can't go wrong
on_ok : {A E : Type 0} (r : Result A E) (c : Bool) (P : Type 0) → OnOk r P → OnErr r (c ≡ false) → c ≡ true → P
on_ok (Ok x) c P ok bad can = ok
on_ok (Err e) c P ok bad can = let no : true ≡ false = sym can ∙ bad in cc

fewer : {T : Type 0} (items : List T) (after : List (Signal T)) → length items ≤ length (map Next items ++ after)
fewer [] after = omega arith
fewer (x ∷ items) after = let k = fewer items after in omega (arith, k)

pub append_none : {A : Type 0} (xs : List A) → xs ++ [] ≡ xs
append_none [] = refl
append_none (x ∷ xs) = ap (λ l. x ∷ l) (append_none xs)

-- what was poured was put at the edge
pub put_at_edge : {M T A E : Type 0} (b : Machine M T) (crossing : CrossingNodes M T) (part new below : Part M) (at hub : ℕ) (remaining after : List (Signal T)) (items empty queue : List T) (r : Result A E) → remaining ≡ map Next items ++ after → length remaining ≤ LINK_PLACES → empty ≡ [] → queue ≡ empty ++ items →
    can_put_in b crossing (Some hub) LINK_PLACES (place_at at part.tree) ≡ true → OnOk r (new ≡ joined crossing part at below queue) → OnErr r (can_join b crossing part at hub below.tree.machine queue ≡ false) → IsPutAt b crossing part at hub items below new
put_at_edge {M} {T} b crossing part new below at hub remaining after items empty queue r is few none poured takes ok bad straight =
    let all : queue ≡ items = poured ∙ ap (λ l. l ++ items) none in
    let fits : length items ≤ LINK_PLACES = let h = fewer items after in let l = ap length is in omega (arith, h, l, few) in
    let joins : can_join_in b crossing hub items (place_at at part.tree) ≡ true = sym (join_put b crossing hub items (place_at at part.tree)) ∙ takes_less b crossing hub (length items) LINK_PLACES (place_at at part.tree) fits takes in
    let can : can_join b crossing part at hub below.tree.machine items ≡ true = both_true (not (b.crosses below.tree.machine)) _ (ap not straight) joins in
    let can_queue : can_join b crossing part at hub below.tree.machine queue ≡ true = ap (can_join b crossing part at hub below.tree.machine) all ∙ can in
    (can, on_ok r (can_join b crossing part at hub below.tree.machine queue) (new ≡ joined crossing part at below queue) ok bad can_queue ∙ ap (joined crossing part at below) all)

-- the lower half was put there as it is after its ending
pub put_ended : {M T A E : Type 0} (b : Machine M T) (crossing : CrossingNodes M T) (part new below : Part M) (at : ℕ) (queue : List T) (r : Result A E) → queue ≡ [] → can_put_in b crossing None 0 (place_at at part.tree) ≡ true → OnOk r (new ≡ joined_ended crossing part at below queue) → OnErr r (can_rejoin_ended b crossing part at below.tree.machine queue ≡ false) →
    b.crosses below.tree.machine ≡ false → (can_rejoin_ended b crossing part at below.tree.machine [] ≡ true) × (new ≡ joined_ended crossing part at below [])
put_ended b crossing part new below at queue r none takes ok bad straight =
    let can : can_rejoin_ended b crossing part at below.tree.machine [] ≡ true = both_true (not (b.crosses below.tree.machine)) _ (ap not straight) takes in
    let can_queue = ap (can_rejoin_ended b crossing part at below.tree.machine) none ∙ can in
    (can, on_ok r (can_rejoin_ended b crossing part at below.tree.machine queue) (new ≡ joined_ended crossing part at below queue) ok bad can_queue ∙ ap (joined_ended crossing part at below) none)

-- a join keeps the root edge, whether it is refused or not
pub same_root : {M T E : Type 0} (crossing : CrossingNodes M T) (part new below : Part M) (at : ℕ) (queue : List T) (r : Result Unit E) → OnOk r (new ≡ joined crossing part at below queue) → OnErr r (new ≡ part) → new.root ≡ part.root
same_root crossing part new below at queue (Ok x) ok bad = ap (λ (p : Part _). p.root) ok
same_root crossing part new below at queue (Err x) ok bad = ap (λ (p : Part _). p.root) bad

pub same_root_ended : {M T E : Type 0} (crossing : CrossingNodes M T) (part new below : Part M) (at : ℕ) (queue : List T) (r : Result Unit E) → OnOk r (new ≡ joined_ended crossing part at below queue) → OnErr r (new ≡ part) → new.root ≡ part.root
same_root_ended crossing part new below at queue (Ok x) ok bad = ap (λ (p : Part _). p.root) ok
same_root_ended crossing part new below at queue (Err x) ok bad = ap (λ (p : Part _). p.root) bad

-- ---- the last link that comes in

one_longer : {A : Type 0} (xs : List A) (x : A) → length (xs ++ x ∷ []) ≡ length xs + 1
one_longer [] x = refl
one_longer (y ∷ xs) x = let k = one_longer xs x in omega (arith, k)

-- the one that was looked at is the one that was taken out
pub last_is : {A : Type 0} (all rest : List A) (x y : A) (o : Option A) → all ≡ rest ++ x ∷ [] → o ≡ slice_get all (length all - 1) → o ≡ Some y → y ≡ x
last_is all rest x y o is found here =
    let size : length all - 1 ≡ length rest = let l = ap length is in let k = one_longer rest x in omega (arith, l, k) in
    let there : slice_get all (length all - 1) ≡ Some x = ap (slice_get all) size ∙ (ap (λ l. slice_get l (length rest)) is ∙ slice_get_behind rest x []) in
    let both : Some y ≡ Some x = sym here ∙ (found ∙ there) in cc
