-- What the calls by which a piece is cut know of it.
use Rattle.std.proofs.Common.{◌≡◌, ℕ, zero, suc, ◌+◌, ◌<◌, ◌≤◌, Bool, true, false, nat_eq, if◌then◌else◌, List, [], ◌∷◌, ◌++◌, length, refl, ap, sym, ◌∙◌, subst, arith, Option, Some, None, Result, Ok, Err}
use Rattle.std.specs.Option.{option_or}
use Rattle.std.specs.Prelude.{IsOk, OnErr, OnOk, option_map}
use Rattle.std.proofs.lemmas.Bool.Decides.{nat_tests}
use Rattle.rsx_sources.specs.Prelude.{CAPACITY, Next, Reading, reads_hub}
use Rattle.rsx_sources.specs.declared.machine.Machine.{Ghosts as Machine}
use Rattle.rsx_rooted.specs.declared.nodes.CrossingNodes.{Ghosts as CrossingNodes}
use Rattle.rsx_rooted.specs.Local.{AllOf}
use Rattle.rsx_tree.specs.Edges.{EdgeView, edge_view}
use Rattle.rsx_tree.specs.Handed.{reader_edge_in}
use Rattle.rsx_tree.specs.Reads.{readings, row_readings}
use Rattle.rsx_tree.specs.Stepped.{Station, station_of}
use Rattle.rsx_tree.specs.declared.edge.Edge.{Edge}
use Rattle.rsx_tree.specs.declared.inputs.Inputs.{Inputs, End, More'}
use Rattle.rsx_pipe.specs.Crossing.{edge_over}
use Rattle.rsx_pipe.specs.Cutting.{IsCut, can_join, joined}
use Rattle.rsx_pipe.specs.Joined.{JoinsAtOnce}
use Rattle.rsx_pipe.specs.Part.{Part}
use Rattle.rsx_pipe.specs.Published.{reader_edge}
use Rattle.rsx_hub.specs.Member.{MemberState, empty_member}
use Rattle.rsx_link.specs.Ends.{AreOpened, carried_up, items_sent, sent_signals}
use Rattle.rsx_link.specs.Signals.{items_in}
use Rattle.rsx_link.specs.declared.cancel.CancelSeat.{CancelSeat}
use Rattle.rsx_link.specs.declared.down.Down.{Down}
use Rattle.rsx_link.specs.declared.link.Link.{Link}
use Rattle.rsx_link.specs.declared.up.Up.{Up}
use Rattle.rsx_region.specs.Inlet.{NoneReads}
use Rattle.rsx_region.specs.Joined.{IsReader, sent_over_edge}
use Rattle.rsx_region.proofs.Pieces.{items_more}
use Rattle.rsx_region.proofs.EdgePlaces.{same_some}
use Rattle.rsx_region.specs.Cuts.{NoneReadsIn, ReadsNone}
use Rattle.rsx_region.specs.Pieces.{hub_of}
use Rattle.rsx_region.specs.declared.piece.Incoming.{Incoming}

-- ---- where no node reads a hub

or_none : {A : Type 0} (x y : Option A) → option_or x y ≡ None → (x ≡ None) × (y ≡ None)
or_none None y h = (refl, h)
or_none (Some a) y h = cc

chosen_none : {A : Type 0} (c : Bool) (x : A) (o : Option A) → (if c then Some x else o) ≡ None → (c ≡ false) × (o ≡ None)
chosen_none true x o h = cc
chosen_none false x o h = (refl, h)

none_both : (h : ℕ) (xs ys : List (Option Reading)) → NoneReads h xs → NoneReads h ys → NoneReads h (xs ++ ys)
none_both h [] ys n k = k
none_both h (x ∷ xs) ys n k = (n.0, none_both h xs ys n.1 k)

row_unread : {M T : Type 0} (b : Machine M T) (h : ℕ) (t : Inputs M) → reader_edge_in b h t ≡ None → NoneReads h (row_readings b t)
row_unread b h End n = tt
row_unread b h (More' e n p below q beside) none =
    let first = chosen_none (reads_hub h (b.reads n)) e _ none in
    let both = or_none (reader_edge_in b h below) (reader_edge_in b h beside) first.1 in
    (first.0, none_both h (row_readings b below) (row_readings b beside) (row_unread b h below both.0) (row_unread b h beside both.1))

part_unread : {M T : Type 0} (b : Machine M T) (h : ℕ) (p : Part M) → reader_edge b h p ≡ None → NoneReads h (readings b p.tree)
part_unread b h p none = let first = chosen_none (reads_hub h (b.reads p.tree.machine)) p.root _ none in (first.0, row_unread b h p.tree.inputs first.1)

pub true_of : (x y : ℕ) → x ≡ y → nat_eq x y ≡ true
true_of x y h = grind (arith, nat_tests, h)

all_unread : (h : ℕ) (rs : List (Option Reading)) → NoneReads h rs → AllOf (λ i. i ≡ h → ⊥) rs
all_unread h [] n = tt
all_unread h (None ∷ rs) n = (tt, all_unread h rs n.1)
all_unread h (Some r ∷ rs) n = (λ e. let both : true ≡ false = sym (true_of r.hub h e) ∙ n.0 in cc, all_unread h rs n.1)

-- where none is found, none reads it
pub unread : {M T : Type 0} (b : Machine M T) (h number : ℕ) (p : Part M) → number ≡ h → reader_edge b number p ≡ None → NoneReadsIn b h p
unread b h number p here none = all_unread h (readings b p.tree) (part_unread b h p (sym (ap (λ k. reader_edge b k p) here) ∙ none))

-- ---- of one link after the other

pub reads_more : {M T : Type 0} (b : Machine M T) (part : Part M) (first : Incoming T) (others all : List (Incoming T)) → all ≡ first ∷ others → NoneReadsIn b (hub_of first) part → ReadsNone b others part → ReadsNone b all part
reads_more {M} {T} b part first others all is one rest = let N : List (Incoming T) → Type 0 = λ l. ReadsNone b l part in subst N (sym is) go
  where
    go : ReadsNone b (first ∷ others) part
    go zero i at = subst (λ (x : Incoming T). NoneReadsIn b (hub_of x) part) (same_some first i at) one
    go (suc k) i at = rest k i at

-- ---- what was cut is joined again

on_ok : {A E : Type 0} (r : Result A E) (c : Bool) (P : Type 0) → OnOk r P → OnErr r (c ≡ false) → c ≡ true → P
on_ok (Ok x) c P ok bad can = ok
on_ok (Err e) c P ok bad can = let no : true ≡ false = sym can ∙ bad in cc

reads_it : (o : Option Reading) (r : Reading) (h : ℕ) → o ≡ Some r → r.hub ≡ h → reads_hub h o ≡ true
reads_it o r h is hub = ap (reads_hub h) is ∙ true_of r.hub h hub

pub joined_again : {M T A E : Type 0} (b : Machine M T) (crossing : CrossingNodes M T) → JoinsAtOnce b crossing → (old new part below : Part M) (at hub before : ℕ) (reader : M) (queue : List T) (r : Result A E) → IsCut b crossing old at reader below queue new → IsReader b crossing hub before reader → length queue ≤ CAPACITY →
    OnOk r (part ≡ joined crossing new at below queue) → OnErr r (can_join b crossing new at hub below.tree.machine queue ≡ false) → part ≡ old
joined_again b crossing law old new part below at hub before reader queue r cut reads few ok bad =
    let once = law old new below at hub reader queue cut reads.held (reads_it (b.reads reader) _ hub reads.reads refl) few in
    on_ok r (can_join b crossing new at hub below.tree.machine queue) (part ≡ joined crossing new at below queue) ok bad once.0 ∙ once.1

-- ---- the link that is made

pub reader_made : {M T : Type 0} (b : Machine M T) (crossing : CrossingNodes M T) (member : MemberState T) (places hub before : ℕ) (n : M) → member ≡ empty_member places 0 0 → crossing.held n ≡ Some member.queue → b.reads n ≡ Some (record { hub = hub; reached = member.reached; missed = 0; before = before }) → b.ended n ≡ false →
    ((taken : List ℕ) (sent : ℕ) → sent + length member.queue ≡ member.reached + before → b.counted n taken sent) → IsReader b crossing hub before n
reader_made b crossing member places hub before n is held reads goes_on counted =
    let queue : member.queue ≡ [] = ap (λ x. x.queue) is in
    let reached : member.reached ≡ 0 = ap (λ x. x.reached) is in
    record {
      held = held ∙ ap Some queue;
      reads = reads ∙ ap (λ z. Some (let r : Reading = record { hub = hub; reached = z; missed = 0; before = before } in r)) reached;
      goes_on = goes_on;
      counted = λ taken. counted taken before (let l = ap length queue in omega (arith, l, reached));
    }

pub opened_for : {T : Type 0} (capacity asked carried : ℕ) (l : Link T) (u : Up T) (d d' : Down T) (c c' : CancelSeat) → d' ≡ d → c' ≡ c → AreOpened capacity asked carried l u d c → AreOpened capacity asked carried l u d' c'
opened_for {T} capacity asked carried l u d d' c c' down closer h =
    let D : Down T → Type 0 = λ x. AreOpened capacity asked carried l u x c' in
    let C : CancelSeat → Type 0 = λ x. AreOpened capacity asked carried l u d x in
    subst D (sym down) (subst C (sym closer) h)

pub one_sent : {T : Type 0} (u u' : Up T) (x : T) → carried_up u' ≡ carried_up u → sent_signals u' ≡ sent_signals u ++ Next x ∷ [] → items_sent u' ≡ items_sent u + 1
one_sent u u' x carried sent =
    let more : items_in (sent_signals u') ≡ items_in (sent_signals u) + 1 = ap items_in sent ∙ items_more (sent_signals u) (Next x ∷ []) in
    sums (carried_up u') (carried_up u) (items_in (sent_signals u')) (items_in (sent_signals u)) carried more
  where
    sums : (c d i k : ℕ) → c ≡ d → i ≡ k + 1 → c + i ≡ d + k + 1
    sums c d i k h1 h2 = omega (arith, h1, h2)

pub where_ok : {A E : Type 0} (r : Result A E) (P : Type 0) → IsOk r → OnOk r P → P
where_ok (Ok x) P is ok = ok
where_ok (Err e) P is ok = let k = is in cc

pub positive : (x : ℕ) → (x ≡ 0 → ⊥) → 0 < x
positive zero h = absurd (h refl)
positive (suc x) h = omega arith

-- what went over an edge that was found
pub sent_over : {M : Type 0} (part : Part M) (at : ℕ) (found : Option Edge) (e : Edge) → option_map edge_view found ≡ option_map edge_over (station_of part.tree (edge_view part.root) at) → found ≡ Some e → sent_over_edge part at ≡ Some e.demand.sent
sent_over {M} part at found e is here = of (station_of part.tree (edge_view part.root) at) refl (sym is ∙ ap (option_map edge_view) here)
  where
    of : (o : Option (Station M)) → station_of part.tree (edge_view part.root) at ≡ o → option_map edge_over o ≡ Some (edge_view e) → option_map (λ (s : Station M). s.sent) o ≡ Some e.demand.sent
    of None there k = cc
    of (Some s) there k = ap (λ (v : EdgeView). Some v.sent) (same_some _ _ k)

pub pushed_onto : {A : Type 0} (all room old : List A) (x : A) → all ≡ room ++ x ∷ [] → room ≡ old → all ≡ old ++ x ∷ []
pushed_onto {A} all room old x is same = is ∙ ap (λ (l : List A). l ++ x ∷ []) same
