-- Where no move of a graph is enabled and no hub has two live members, each live subscriber got what it asked for, over all that was
-- published.
use Rattle.rsx_kinds.specs.Any.{any_machine}
use Rattle.rsx_kinds.specs.Routes.{tree_nodes}
use Rattle.rsx_graph.proofs.Laws.{any_laws}
use Rattle.rsx_graph.specs.Kinds.{AllHold, AreHubsQuiet, HubStands, IsAllQuiet, IsFedBy, Rows, SourceStands, StandsFor, AllHaveRead, Subscription, accepts_at, accepts_in, all_have_room, can_accept, Feed}
use Rattle.std.proofs.Common.{◌≡◌, ℕ, ◌+◌, ◌<◌, ◌≤◌, Bool, true, false, ◌&&◌, ◌||◌, nat_eq, if◌then◌else◌, List, [], ◌∷◌, length, slice_get, Option, Some, None, refl, ap, sym, ◌∙◌, subst, arith, inr}
use Rattle.std.specs.Option.{is_none, is_some}
use Rattle.rsx_demand.specs.declared.TheConstants.{UNBOUNDED}
use Rattle.rsx_graph_moves.proofs.Serving.{rows_served}
use Rattle.rsx_graph_state.proofs.Named.{feed_named}
use Rattle.rsx_graph_state.proofs.Values.{whole_holds}
use Rattle.rsx_graph_state.specs.Prelude.{AllServed, History, HubPast, Source, emitted, fed, feed_of, HubState, waiting, first_waiting, is_ready, MOST_ACCEPTED}
use Rattle.rsx_graph_state.specs.declared.TheConstants.{MOST_HUBS}
use Rattle.rsx_pipe.proofs.Signals.{some_same}
use Rattle.rsx_pipe.specs.Output.{items_in}
use Rattle.rsx_subscriber.specs.Prelude.{Expr, Past}
use Rattle.rsx_sources.specs.Prelude.{signals, Meaning, Stream, Ending, Open, Done, Failed}
use Rattle.rsx_graph.specs.Delivered.{AllDelivered, HaveDelivered, HaveOneMember}
use Rattle.rsx_graph.specs.Limits.{HaveAcceptedFew, HaveCarriedFewer, KeepsLimits}
use Rattle.rsx_graph.specs.Read.{HaveTakenFewer, WaitForOne, feed_waits, waits_at}
use Rattle.rsx_graph.proofs.Limits.{few_got}
use Rattle.rsx_graph.proofs.Reading.{hub_less, hubs_quiet, known_first, rows_read, same_values, signal_items, there_too}

-- ---- a hub in front of which a signal waits has taken in fewer than 2^63-1 items

-- what waits in an inbox and isn't taken in, whatever room there is, is an item
item_waits : {T : Type 0} (is : List T) (e : Ending) (gone : Bool) (room : Bool) → is_some (first_waiting is e gone) ≡ true → is_ready (first_waiting is e gone) room ≡ false → 1 ≤ length is
item_waits [] e true room w r = cc
item_waits [] Open false room w r = cc
item_waits [] Done false room w r = cc
item_waits [] (Failed c) false room w r = cc
item_waits (x ∷ xs) e gone room w r = omega arith

-- with an emitter: it accepted that item too
emitted_less : {T : Type 0} (g : Rows T) (i : ℕ) (s : HubState T) → HaveAcceptedFew g.hubs → slice_get g.hubs i ≡ Some s → feed_of g.feeds i ≡ None → accepts_at g i ≡ false → is_some (waiting s) ≡ true → s.count < MOST_ACCEPTED
emitted_less {T} g i s few there unfed none waits =
    let here : is_none (feed_of g.feeds i) && can_accept i s g.feeds g.subs ≡ false = sym (ap (λ o. accepts_in g o i) there) ∙ none in
    let still : is_ready (waiting s) (all_have_room i g.feeds g.subs) ≡ false = known_first (is_none (feed_of g.feeds i)) (can_accept i s g.feeds g.subs) (ap is_none unfed) here in
    less s.count (length s.inbox) (few_got g.hubs i s few there) (item_waits s.inbox s.ending s.has_ended (all_have_room i g.feeds g.subs) waits still)
  where
    less : (a b : ℕ) → a + b ≤ MOST_ACCEPTED → 1 ≤ b → a < MOST_ACCEPTED
    less a b l m = omega (arith, l, m)

-- with a feed: it took in as many as the feed's root edge carried
carried_got : {T : Type 0} (fs : List (Feed T)) (i : ℕ) (f : Feed T) → HaveCarriedFewer fs → feed_of fs i ≡ Some f → f.part.root.demand.sent < UNBOUNDED
carried_got [] i f k e = cc
carried_got {T} (x ∷ fs) i f k e = by_test (λ q. carried_got fs i f k.2 q) (nat_eq x.hub i) e
  where
    by_test : (feed_of fs i ≡ Some f → f.part.root.demand.sent < UNBOUNDED) → (b : Bool) → (if b then Some x else feed_of fs i) ≡ Some f → f.part.root.demand.sent < UNBOUNDED
    by_test rest true e = let P : Feed T → Type 0 = λ y. y.part.root.demand.sent < UNBOUNDED in subst P (some_same x f e) k.0
    by_test rest false e = rest e

as_most : (n : ℕ) → n < UNBOUNDED → n < MOST_ACCEPTED
as_most n l = l

fed_less : {T : Type 0} (m : Meaning T) (g : Rows T) (taken : List (Stream T)) (i : ℕ) (v : Stream T) (s : HubState T) (p : HubPast T) (e : Expr T) (joins : List ℕ) → HubStands m g.feeds taken i v s p → slice_get taken i ≡ Some v → HaveCarriedFewer g.feeds → IsFedBy m g.feeds taken i s e joins → s.count < MOST_ACCEPTED
fed_less m g taken i v s p e joins st took fewer source =
    let here : source.feed.hub ≡ i = feed_named g.feeds i source.feed source.there in
    let same : source.stands.value ≡ v = some_same source.stands.value v (sym source.stands.taken ∙ (ap (slice_get taken) here ∙ took)) in
    let sent : length (items_in (signals v)) ≡ source.feed.part.root.demand.sent = ap (λ x. length (items_in (signals x))) (sym same) ∙ source.stands.part.counted in
    let count : s.count ≡ source.feed.part.root.demand.sent = st.taken_in.taken.counted ∙ (sym (ap length (signal_items v.items v.ending)) ∙ sent) in
    as_most s.count (subst (λ n. n < UNBOUNDED) (sym count) (carried_got g.feeds i source.feed fewer source.there))

in_front : {T : Type 0} (m : Meaning T) (b : Bool) (o : Option (Feed T)) → o ≡ None → b || feed_waits m o ≡ true → b ≡ true
in_front m true o is e = refl
in_front m false None is e = e
in_front m false (Some f) is e = cc

hub_fewer : {T : Type 0} (m : Meaning T) (g : Rows T) (taken : List (Stream T)) (i : ℕ) (v : Stream T) (s : HubState T) (p : HubPast T) → HubStands m g.feeds taken i v s p → slice_get taken i ≡ Some v → slice_get g.hubs i ≡ Some s → HaveAcceptedFew g.hubs → accepts_at g i ≡ false → HaveCarriedFewer g.feeds → waits_at m g i s ≡ true → s.count < MOST_ACCEPTED
hub_fewer {T} m g taken i v s p st took there few none fewer waits = by_source p.source st.source
  where
    by_source : (src : Source T) → SourceStands m g.feeds taken i v s src → s.count < MOST_ACCEPTED
    by_source (emitted w) source = emitted_less g i s few there source.0 none (in_front m (is_some (waiting s)) (feed_of g.feeds i) source.0 waits)
    by_source (fed e joins) source = fed_less m g taken i v s p e joins st took fewer source

pub taken_fewer : {T : Type 0} (m : Meaning T) (g : Rows T) (h : History T) → StandsFor m g h → HaveAcceptedFew g.hubs → AreHubsQuiet m g (length g.hubs) → HaveCarriedFewer g.feeds → HaveTakenFewer m g
taken_fewer m g h k few quiet fewer i s there waits =
    let p = there_too g.hubs h.hubs i s k.many there in
    let v = there_too h.hubs k.taken i p.0 (sym k.each) p.1 in
    hub_fewer m g k.taken i v.0 s p.0 (k.hub i v.0 s p.0 v.1 there p.1) v.1 there few (quiet i (hub_less g.hubs i s there)).accept fewer waits

-- ---- each live subscriber got what it asked for

all_delivered : {T : Type 0} (m : Meaning T) (published : List (Stream T)) (subs : List (Subscription T)) (pasts : List (Past T)) → AllServed any_machine m published subs pasts → AllHaveRead m published subs → AllHold m published subs pasts → AllDelivered m published subs pasts
all_delivered m published [] [] served read hold = tt
all_delivered m published (s ∷ ss) (p ∷ ps) served read hold = (
  λ live within. record { value = hold.0.value; scratch = hold.0.scratch.2; served = served.0 live (inr read.0) within hold.0.value hold.0.until_stop },
  all_delivered m published ss ps served.1 read.1 hold.1,
)
all_delivered m published [] (p ∷ ps) served read hold = absurd served
all_delivered m published (s ∷ ss) [] served read hold = absurd served

pub rows_delivered : {T : Type 0} (m : Meaning T) (g : Rows T) (h : History T) → StandsFor m g h → KeepsLimits g.hubs g.feeds → length g.hubs ≤ MOST_HUBS → IsAllQuiet m g → WaitForOne m g → HaveCarriedFewer g.feeds → HaveDelivered m g h
rows_delivered {T} m g h s limits few quiet wait fewer =
    let q = hubs_quiet m g few quiet in
    let served = rows_served any_machine tree_nodes any_laws m g h s quiet in
    let hold = whole_holds any_machine any_laws m g h s in
    let read = rows_read m g h s wait (taken_fewer m g h s limits.accepted q fewer) q fewer limits.nodes served.published served.values in
    let P : List (Stream T) → Type 0 = λ l. AllHold m l g.subs h.pasts in
    record {
      published = served.published;
      values = served.values;
      all = all_delivered m served.published g.subs h.pasts served.all read (subst P (same_values m g.feeds [] h.hubs hold.published served.published hold.values served.values) hold.all);
    }

-- where no hub has two live members, none has in front of which a signal waits
pub waits_for_one : {T : Type 0} (m : Meaning T) (g : Rows T) → HaveOneMember g → WaitForOne m g
waits_for_one m g one i s there waits = one i (hub_less g.hubs i s there)
