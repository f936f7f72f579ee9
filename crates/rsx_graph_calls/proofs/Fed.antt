-- A hub with a feed comes behind the others, whose values stay.
use Rattle.rsx_sources.specs.declared.machine.Machine.{Ghosts as Machine}
use Rattle.std.proofs.Common.{◌≡◌, ℕ, zero, suc, ◌+◌, nat_eq, if◌then◌else◌, List, [], ◌∷◌, ◌++◌, length, map, slice_get, Some, None, refl, ap, sym, ◌∙◌, subst, arith}
use Rattle.rsx_graph_state.proofs.Named.{is_number, other_number}
use Rattle.rsx_graph_state.specs.Prelude.{History, HubPast, Source, emitted, fed, rows_of, HubStands, HubsStand, Rows, SourceStands, StandsFor, feed_of, HubState, fresh_hub, join, with_members, FeedStands}
use Rattle.rsx_rooted.specs.Leaves.{HaveJoinedFrom, leaves_on}
use Rattle.rsx_subscriber.specs.Prelude.{Expr, joins_now, leaf_joins, new_joins, AreTaken, IsTaken, IsPlaced, differ, region_of}
use Rattle.rsx_pipe.proofs.Signals.{some_same}
use Rattle.rsx_pipe.specs.Built.{fresh_edges}
use Rattle.rsx_pipe.specs.Tree.{edges}
use Rattle.rsx_tree.specs.Edges.{edge_view}
use Rattle.rsx_graph_state.specs.Feeds.{begun_edge}
use Rattle.rsx_graph_state.specs.declared.feed.Feed.{Feed}
use Rattle.rsx_sources.specs.Prelude.{Meaning, Stream, ended_by, HubKind, Open}
use Rattle.rsx_graph_calls.specs.Edits.{IsFedHubMade, NameHubs, fault_of, joins_in, with_fed_hub}
use Rattle.rsx_graph_calls.proofs.Behind.{fresh_taken, one_more, rows_more}
use Rattle.rsx_graph_calls.proofs.Leaves.{joined_behind}

-- ---- members joined

member_there : {T : Type 0} (n : ℕ) (e : Expr T) (hubs mids : List (HubState T)) → HaveJoinedFrom n e hubs mids → (i : ℕ) (t : HubState T) → slice_get mids i ≡ Some t → (s : HubState T) × (k : ℕ) × (slice_get hubs i ≡ Some s) × (t ≡ with_members s k)
member_there n e [] [] j i t q = cc
member_there n e [] (x ∷ xs) j i t q = absurd j
member_there n e (s ∷ ss) [] j i t q = absurd j
member_there n e (s ∷ ss) (x ∷ xs) j zero t q = (s, leaves_on n e, refl, sym (some_same x t q) ∙ j.0)
member_there n e (s ∷ ss) (x ∷ xs) j (suc i) t q = member_there (n + 1) e ss xs j.1 i t q

pub members_count : {T : Type 0} (n : ℕ) (e : Expr T) (hubs mids : List (HubState T)) → HaveJoinedFrom n e hubs mids → length mids ≡ length hubs
members_count n e [] [] j = refl
members_count n e [] (x ∷ xs) j = absurd j
members_count n e (s ∷ ss) [] j = absurd j
members_count n e (s ∷ ss) (x ∷ xs) j = ap suc (members_count (n + 1) e ss xs j.1)

members_source : {M T : Type 0} (mc : Machine M T) (m : Meaning T) (fs : List (Feed M)) (taken : List (Stream T)) (i k : ℕ) (v : Stream T) (s : HubState T) (src : Source T) → SourceStands mc m fs taken i v s src → SourceStands mc m fs taken i v (with_members s k) src
members_source mc m fs taken i k v s (emitted w) h = (h.0, h.1)
members_source mc m fs taken i k v s (fed e joins) h = record { feed = h.feed; there = h.there; stands = h.stands; empty = h.empty; unended = h.unended }

members_stand : {M T : Type 0} (mc : Machine M T) (m : Meaning T) (fs : List (Feed M)) (taken : List (Stream T)) (i k : ℕ) (v : Stream T) (s : HubState T) (p : HubPast T) → HubStands mc m fs taken i v s p → HubStands mc m fs taken i v (with_members s k) p
members_stand mc m fs taken i k v s p h = record {
  kind = h.kind;
  count = h.count;
  taken_in = record { taken = record { counted = h.taken_in.taken.counted; kept = h.taken_in.taken.kept }; ending = h.taken_in.ending; closed = h.taken_in.closed };
  ended = h.ended;
  source = members_source mc m fs taken i k v s p.source h.source;
}

pub hub_joined : {M T : Type 0} (mc : Machine M T) (m : Meaning T) (e : Expr T) (old : Rows M T) (mids : List (HubState T)) (h : History T) → HaveJoinedFrom 0 e old.hubs mids → (s : StandsFor mc m old h) → HubsStand mc m (rows_of mids old.feeds old.subs) s.taken h.hubs
hub_joined {M} {T} mc m e old mids h j s i v t p a b c =
    let was = member_there 0 e old.hubs mids j i t b in
    let P : HubState T → Type 0 = λ u. HubStands mc m old.feeds s.taken i v u p in
    subst P (sym was.3) (members_stand mc m old.feeds s.taken i was.1 v was.0 p (s.hub i v was.0 p a was.2 c))

-- ---- what a new feed finds

pub as_taken : {T : Type 0} (hubs : List (HubState T)) (vs : List (Stream T)) (ps : List (HubPast T)) → ((i : ℕ) (v : Stream T) (s : HubState T) (p : HubPast T) → slice_get vs i ≡ Some v → slice_get hubs i ≡ Some s → slice_get ps i ≡ Some p → IsTaken s v × (s.kind ≡ p.kind) × (s.count ≡ p.count)) →
    length hubs ≡ length ps → length vs ≡ length ps → AreTaken hubs vs × (joins_now hubs ≡ map (λ p. join p.kind p.count) ps)
as_taken [] [] [] k a b = (tt, refl)
as_taken [] vs (p ∷ ps) k a b = absurd (omega (arith, a))
as_taken [] (v ∷ vs) [] k a b = absurd (omega (arith, b))
as_taken (s ∷ ss) vs [] k a b = absurd (omega (arith, a))
as_taken (s ∷ ss) [] (p ∷ ps) k a b = absurd (omega (arith, b))
as_taken (s ∷ ss) (v ∷ vs) (p ∷ ps) k a b =
    let one = k 0 v s p refl refl refl in
    let rest = as_taken ss vs ps (λ i w t q x y z. k (suc i) w t q x y z) (omega (arith, a)) (omega (arith, b)) in
    ((one.0, rest.0), ap (λ j. join j s.count ∷ joins_now ss) one.1 ∙ (ap (λ n. join p.kind n ∷ joins_now ss) one.2 ∙ ap (λ l. join p.kind p.count ∷ l) rest.1))

-- ---- a feed more

other_last : {M : Type 0} (fs : List (Feed M)) (f : Feed M) (i : ℕ) → (f.hub ≡ i → ⊥) → feed_of (fs ++ f ∷ []) i ≡ feed_of fs i
other_last [] f i n = ap (λ b. if b then Some f else None) (other_number f.hub i n)
other_last (g ∷ fs) f i n = ap (λ o. if nat_eq g.hub i then Some g else o) (other_last fs f i n)

own_last : {M : Type 0} (fs : List (Feed M)) (f : Feed M) (n : ℕ) → NameHubs n fs → f.hub ≡ n → feed_of (fs ++ f ∷ []) n ≡ Some f
own_last [] f n k e = ap (λ b. if b then Some f else None) (is_number f.hub n e)
own_last (g ∷ fs) f n k e =
    let less = k.0 in
    ap (λ b. if b then Some g else feed_of (fs ++ f ∷ []) n) (other_number g.hub n (λ q. absurd (omega (arith, less, q)))) ∙ own_last fs f n k.1 e

pub name_last : {M : Type 0} (n k : ℕ) (fs : List (Feed M)) (f : Feed M) → NameHubs n fs → f.hub ≡ n → k ≡ suc n → NameHubs k (fs ++ f ∷ [])
name_last n k [] f a e is = (omega (arith, e, is), tt)
name_last n k (g ∷ fs) f a e is = let less = a.0 in (omega (arith, less, is), name_last n k fs f a.1 e is)

pub fed_behind : {M T : Type 0} (mc : Machine M T) (m : Meaning T) (k : HubKind) (c : ℕ) (e : Expr T) (old : Rows M T) (mids hubs : List (HubState T)) (feeds : List (Feed M)) (f : Feed M) (h : History T) →
    HaveJoinedFrom 0 e old.hubs mids → hubs ≡ mids ++ fresh_hub k c ∷ [] → feeds ≡ old.feeds ++ f ∷ [] → f.hub ≡ length old.hubs → NameHubs (length old.hubs) old.feeds →
    ((published : List (Stream T)) → AreTaken old.hubs published → FeedStands mc m (published ++ ended_by Open ∷ []) f e (new_joins old.hubs e)) →
    StandsFor mc m old h → StandsFor mc m (rows_of hubs feeds old.subs) (with_fed_hub k e h)
fed_behind {M} {T} mc m k c e old mids hubs feeds f h j is_hubs is_feeds named names stands s =
    let many = members_count 0 e old.hubs mids j in
    let mid : StandsFor mc m (rows_of mids old.feeds old.subs) h = record { taken = s.taken; many = many ∙ s.many; each = s.each; hub = hub_joined mc m e old mids h j s; all = s.all } in
    let found = as_taken old.hubs s.taken h.hubs (λ i v t p x y z. let one = s.hub i v t p x y z in (one.taken_in, one.kind, one.count)) s.many s.each in
    let gs = old.feeds ++ f ∷ [] in
    let next = s.taken ++ ended_by Open ∷ [] in
    let F : List ℕ → Type 0 = λ js. FeedStands mc m next f e js in
    let A : ℕ → Type 0 = λ n. HubStands mc m gs next n (ended_by Open) (fresh_hub k c) (record { kind = k; source = fed e (joins_in h e); count = 0 }) in
    let P : List (HubState T) → Type 0 = λ l. StandsFor mc m (rows_of l feeds old.subs) (with_fed_hub k e h) in
    let Q : List (Feed M) → Type 0 = λ l. StandsFor mc m (rows_of (mids ++ fresh_hub k c ∷ []) l old.subs) (with_fed_hub k e h) in
    let last : HubStands mc m gs next (length old.hubs) (ended_by Open) (fresh_hub k c) (record { kind = k; source = fed e (joins_in h e); count = 0 }) = record {
      kind = refl;
      count = refl;
      taken_in = fresh_taken k c;
      ended = λ q. cc;
      source = record {
        feed = f;
        there = own_last old.feeds f (length old.hubs) names named;
        stands = subst F (ap (λ js. leaf_joins js e) found.1) (stands s.taken found.0);
        empty = refl;
        unended = λ q. refl;
      };
    } in
    let grown = rows_more mc m (rows_of mids old.feeds old.subs) h (fresh_hub k c) (record { kind = k; source = fed e (joins_in h e); count = 0 }) gs
    (λ i less. other_last old.feeds f i (λ q. absurd (omega (arith, less, q, named, many)))) mid (subst A (sym many) last) in
    subst P (sym is_hubs) (subst Q (sym is_feeds) grown)

-- ---- as it is made: the hub is pushed, and then the leaves are counted in

pub fed_made : {M T : Type 0} (mc : Machine M T) (m : Meaning T) (k : HubKind) (c : ℕ) (e : Expr T) (old : Rows M T) (pushed news : List (HubState T)) (feeds : List (Feed M)) (f : Feed M) (h : History T) →
    fault_of k c (length old.hubs) e ≡ None → pushed ≡ old.hubs ++ fresh_hub k c ∷ [] → HaveJoinedFrom 0 e pushed news → feeds ≡ old.feeds ++ f ∷ [] → f.hub ≡ length old.hubs → NameHubs (length old.hubs) old.feeds →
    ((published : List (Stream T)) → AreTaken old.hubs published → FeedStands mc m (published ++ ended_by Open ∷ []) f e (new_joins old.hubs e)) →
    StandsFor mc m old h → StandsFor mc m (rows_of news feeds old.subs) (with_fed_hub k e h)
fed_made mc m k c e old pushed news feeds f h fine is j added named names stands s =
    let b = joined_behind k c e old.hubs pushed news fine is j in
    fed_behind mc m k c e old b.joined news feeds f h b.members b.behind added named names stands s

pub fed_effect : {M T : Type 0} (mc : Machine M T) (k : HubKind) (c : ℕ) (e : Expr T) (hubs pushed news : List (HubState T)) (fs feeds : List (Feed M)) (f : Feed M) → fault_of k c (length hubs) e ≡ None → pushed ≡ hubs ++ fresh_hub k c ∷ [] → HaveJoinedFrom 0 e pushed news → feeds ≡ fs ++ f ∷ [] → f.hub ≡ length hubs → IsPlaced mc.crosses e (differ 0 (region_of e)) f.part.tree → edge_view f.part.root ≡ begun_edge → edges f.part.tree ≡ fresh_edges e → IsFedHubMade mc k c e hubs news fs feeds
fed_effect mc k c e hubs pushed news fs feeds f fine is j added named placed root below =
    let b = joined_behind k c e hubs pushed news fine is j in
    record { joined = b.joined; feed = f; members = b.members; behind = b.behind; placed = placed; named = named; edges = ap (λ x. x ∷ edges f.part.tree) root ∙ ap (λ es. begun_edge ∷ es) below; added = added }

pub fed_named : {M T : Type 0} (k : HubKind) (c n : ℕ) (hubs pushed : List (HubState T)) (fs feeds : List (Feed M)) (f : Feed M) → pushed ≡ hubs ++ fresh_hub k c ∷ [] → n ≡ length pushed → feeds ≡ fs ++ f ∷ [] → f.hub ≡ length hubs → NameHubs (length hubs) fs → NameHubs n feeds
fed_named {M} {T} k c n hubs pushed fs feeds f is count added named names =
    let P : List (Feed M) → Type 0 = λ l. NameHubs n l in
    subst P (sym added) (name_last (length hubs) n fs f names named (count ∙ (ap length is ∙ one_more hubs (fresh_hub k c))))
