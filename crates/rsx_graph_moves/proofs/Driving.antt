-- Moves of a graph with feeds, one after the other.
use Rattle.rsx_sources.specs.declared.machine.Machine.{Ghosts as Machine}
use Rattle.rsx_rooted.specs.declared.nodes.Nodes.{Ghosts as Nodes}
use Rattle.std.proofs.Common.{◌≡◌, ℕ, zero, suc, ◌+◌, ◌<◌, ◌≤◌, true, ◌&&◌, ◌⊎◌, inl, inr, if◌then◌else◌, List, [], ◌∷◌, ◌++◌, length, length-append, slice_get, is_none, is_some, refl, ap, sym, ◌∙◌, subst, arith, append_assoc, Option, Some, None, Bool, false}
use Rattle.std.proofs.lemmas.List.{append-nil}
use Rattle.std.proofs.lemmas.List.Concat.{flat_map-append}
use Rattle.std.proofs.lemmas.List.Sums.{fold-append}
use Rattle.std.specs.List.{flat_map}
use Rattle.std.specs.Option.{option_to_list}
use Rattle.rsx_graph_state.specs.Prelude.{History, delivered, with_delivery, with_made, accepts_in, is_out, sends, works, accepts_at, Rows, StandsFor, feed_of, signals_wait, AllPumped, AreQuiet, IsSubAwake, IsSubMoveMade, IsMade, enabled_in_tree as sub_enabled, HubState, waiting, all_have_room, can_accept, is_ready, Subscription}
use Rattle.rsx_graph_state.proofs.Graphs.{all_quiet}
use Rattle.rsx_subscriber.specs.Prelude.{tree_of, IsMadeAnswer}
use Rattle.rsx_tree.proofs.Alike.{or_left, or_right}
use Rattle.rsx_tree.proofs.Runs.{leads_on}
use Rattle.rsx_tree.specs.Runs.{Leads}
use Rattle.rsx_sources.specs.Prelude.{Meaning, Move, Ask, Send, Take, Pick, Row, Accept, SubId, Sub, Feed as FeedOf, Signal}
use Rattle.rsx_graph_moves.specs.Moves.{IsMoved, is_enabled, sent}
use Rattle.rsx_graph_moves.proofs.Named.{quiet_feed, unfed_quiet}
use Rattle.rsx_graph_moves.specs.Pumped.{AreHubsQuiet, AreMade, IsAllQuiet, IsAnyAwake, IsHubQuiet, IsMoveMade, LeadTo, Made, after_move, after_moves, delivered_by, delivery_by}

-- ---- one list of moves behind another

pub made_on : {M T : Type 0} (mc : Machine M T) (kd : Nodes M T) (m : Meaning T) (a b c : Rows M T) (ds es : List (Made T)) → AreMade mc kd m a ds b → AreMade mc kd m b es c → AreMade mc kd m a (ds ++ es) c
made_on {M} {T} mc kd m a b c ds es x y = record {
  lead = leads_on (IsMoveMade mc kd m) a b c ds es x.lead y.lead;
  stands = λ h s. let P : History T → Type 0 = λ k. StandsFor mc m c k in subst P (sym (fold-append after_move h ds es)) (y.stands (after_moves h ds) (x.stands h s));
}

pub made_none : {M T : Type 0} (mc : Machine M T) (kd : Nodes M T) (m : Meaning T) (g : Rows M T) → AreMade mc kd m g [] g
made_none mc kd m g = record { lead = refl; stands = λ h s. s }

-- nothing changed behind them
pub made_still : {M T : Type 0} (mc : Machine M T) (kd : Nodes M T) (m : Meaning T) (a b c : Rows M T) (ds : List (Made T)) → c ≡ b → AreMade mc kd m a ds b → AreMade mc kd m a ds c
made_still {M} {T} mc kd m a b c ds e h = let P : Rows M T → Type 0 = λ g. AreMade mc kd m a ds g in subst P (sym e) h

-- no move changed nothing
pub none_made : {M T : Type 0} (mc : Machine M T) (kd : Nodes M T) (m : Meaning T) (a b : Rows M T) (ds : List (Made T)) → length ds ≡ 0 → AreMade mc kd m a ds b → b ≡ a
none_made mc kd m a b [] e h = h.lead
none_made mc kd m a b (d ∷ ds) e h = absurd (omega (arith, e))

-- one move
pub made_one : {M T : Type 0} (mc : Machine M T) (kd : Nodes M T) (m : Meaning T) (mv : Move) (o : Option (SubId × Signal T)) (old new : Rows M T) → is_enabled mc kd m old mv ≡ true → IsMoved mc kd m mv old new o → IsMadeAnswer mv o → ((h : History T) → StandsFor mc m old h → StandsFor mc m new (with_made mv o (sent mc kd m old mv) h)) →
    AreMade mc kd m old (record { move = mv; delivered = o; fed = sent mc kd m old mv } ∷ []) new
made_one mc kd m mv o old new can effect answer stands = record { lead = (new, record { enabled = can; effect = effect; answer = answer; fed = refl }, refl); stands = stands }

-- ---- the moves of the subscriptions

abbrev with_subs : {M T : Type 0} → Rows M T → List (Subscription M T) → Rows M T
with_subs g subs = record { hubs = g.hubs; feeds = g.feeds; subs = subs }

-- a move of a subscription is one of the graph
sub_move : {M T : Type 0} (mc : Machine M T) (kd : Nodes M T) (m : Meaning T) (g : Rows M T) (mv : Move) (old new : List (Subscription M T)) (o : Option (SubId × Signal T)) → sub_enabled mc kd m old (tree_of mv) mv ≡ true → IsMade mc kd m mv (tree_of mv) old new o → IsMadeAnswer mv o → IsMoveMade mc kd m (with_subs g old) (record { move = mv; delivered = o; fed = None }) (with_subs g new)
sub_move mc kd m g (Ask (Sub i) n) old new o can effect answer = record { enabled = can; effect = (effect, refl, refl); answer = answer; fed = refl }
sub_move mc kd m g (Send (Sub i) n) old new o can effect answer = record { enabled = can; effect = (effect, refl, refl); answer = answer; fed = refl }
sub_move mc kd m g (Take (Sub i) n) old new o can effect answer = record { enabled = can; effect = (effect, refl, refl); answer = answer; fed = refl }
sub_move mc kd m g (Pick (Sub i) n k) old new o can effect answer = record { enabled = can; effect = (effect, refl, refl); answer = answer; fed = refl }
sub_move mc kd m g (Row (Sub i) n) old new o can effect answer = record { enabled = can; effect = (effect, refl, refl); answer = answer; fed = refl }
sub_move mc kd m g (Ask (FeedOf h) n) old new o can effect answer = absurd effect
sub_move mc kd m g (Send (FeedOf h) n) old new o can effect answer = absurd effect
sub_move mc kd m g (Take (FeedOf h) n) old new o can effect answer = absurd effect
sub_move mc kd m g (Pick (FeedOf h) n k) old new o can effect answer = absurd effect
sub_move mc kd m g (Row (FeedOf h) n) old new o can effect answer = absurd effect
sub_move mc kd m g (Accept h) old new o can effect answer = absurd effect

-- what has happened by it
sub_happened : {M T : Type 0} (mc : Machine M T) (kd : Nodes M T) (m : Meaning T) (mv : Move) (old new : List (Subscription M T)) (o : Option (SubId × Signal T)) (h : History T) → IsMade mc kd m mv (tree_of mv) old new o → with_made mv o None h ≡ with_delivery o h
sub_happened mc kd m (Ask (Sub i) n) old new o h effect = refl
sub_happened mc kd m (Send (Sub i) n) old new o h effect = refl
sub_happened mc kd m (Take (Sub i) n) old new o h effect = refl
sub_happened mc kd m (Pick (Sub i) n k) old new o h effect = refl
sub_happened mc kd m (Row (Sub i) n) old new o h effect = refl
sub_happened mc kd m (Ask (FeedOf i) n) old new o h effect = absurd effect
sub_happened mc kd m (Send (FeedOf i) n) old new o h effect = absurd effect
sub_happened mc kd m (Take (FeedOf i) n) old new o h effect = absurd effect
sub_happened mc kd m (Pick (FeedOf i) n k) old new o h effect = absurd effect
sub_happened mc kd m (Row (FeedOf i) n) old new o h effect = absurd effect
sub_happened mc kd m (Accept i) old new o h effect = absurd effect

delivered_then : {T : Type 0} (o : Option (SubId × Signal T)) (ds : List (SubId × Signal T)) (h : History T) → delivered (with_delivery o h) ds ≡ delivered h (option_to_list o ++ ds)
delivered_then None ds h = refl
delivered_then (Some d) ds h = refl

-- so many moves of subscriptions, as moves of the graph
record InGraph {M T : Type 0} (mc : Machine M T) (kd : Nodes M T) (m : Meaning T) (n : ℕ) (old : Rows M T) (ds : List (SubId × Signal T)) (new : Rows M T) : Type 0 where
  moves : List (Made T)
  lead : LeadTo mc kd m old moves new
  count : length moves ≡ n
  output : delivered_by moves ≡ ds
  happened : (h : History T) → after_moves h moves ≡ delivered h ds

lead_in_graph : {M T : Type 0} (mc : Machine M T) (kd : Nodes M T) (m : Meaning T) (g : Rows M T) (old new : List (Subscription M T)) (os : List (Option (SubId × Signal T))) → Leads (IsSubMoveMade mc kd m) old os new → InGraph mc kd m (length os) (with_subs g old) (flat_map option_to_list os) (with_subs g new)
lead_in_graph mc kd m g old new [] x = record { moves = []; lead = ap (λ l. with_subs g l) x; count = refl; output = refl; happened = λ h. refl }
lead_in_graph {M} {T} mc kd m g old new (o ∷ os) x =
    let mid = x.0 in
    let made = x.1 in
    let one : Made T = record { move = made.move; delivered = o; fed = None } in
    let rest = lead_in_graph mc kd m g mid new os x.2 in
    record {
      moves = one ∷ rest.moves;
      lead = (with_subs g mid, sub_move mc kd m g made.move old mid o made.enabled made.effect made.answer, rest.lead);
      count = ap suc rest.count;
      output = ap (λ l. option_to_list o ++ l) rest.output;
      happened = λ h.
          rest.happened (with_made made.move o None h)
          ∙ (ap (λ k. delivered k (flat_map option_to_list os)) (sub_happened mc kd m made.move old mid o h made.effect) ∙ delivered_then o (flat_map option_to_list os) h);
    }

-- the graph stands for what they delivered
subs_stand : {M T : Type 0} (mc : Machine M T) (kd : Nodes M T) (m : Meaning T) (n : ℕ) (g : Rows M T) (new : List (Subscription M T)) (before after : List (SubId × Signal T)) → (k : AllPumped mc kd m n g.subs before new after) → (h : History T) → StandsFor mc m g h → StandsFor mc m (with_subs g new) (delivered h k.signals)
subs_stand mc kd m n g new before after k h s = record { taken = s.taken; many = s.many; each = s.each; hub = s.hub; all = k.stands s.taken h.pasts s.all }

-- ---- what was done so far

-- so many moves led from the first graph to the one there is now, and what they delivered stands behind what stood there
pub record SoFar {M T : Type 0} (mc : Machine M T) (kd : Nodes M T) (m : Meaning T) (first : Rows M T) (before : List (SubId × Signal T)) (n : ℕ) (now : Rows M T) (after : List (SubId × Signal T)) : Type 0 where
  pub moves : List (Made T)
  pub count : length moves ≡ n
  pub made : AreMade mc kd m first moves now
  pub output : after ≡ before ++ delivered_by moves

pub so_far_none : {M T : Type 0} (mc : Machine M T) (kd : Nodes M T) (m : Meaning T) (g : Rows M T) (out : List (SubId × Signal T)) → SoFar mc kd m g out 0 g out
so_far_none mc kd m g out = record { moves = []; count = refl; made = made_none mc kd m g; output = sym (append-nil out) }

-- and then further moves
so_far_on : {M T : Type 0} (mc : Machine M T) (kd : Nodes M T) (m : Meaning T) (first mid now : Rows M T) (before between after : List (SubId × Signal T)) (n k : ℕ) (more : List (Made T)) → SoFar mc kd m first before n mid between → length more ≡ k → AreMade mc kd m mid more now → after ≡ between ++ delivered_by more → SoFar mc kd m first before (n + k) now after
so_far_on mc kd m first mid now before between after n k more s count made output = record {
  moves = s.moves ++ more;
  count = let l = length-append s.moves more in let c = s.count in omega (arith, l, c, count);
  made = made_on mc kd m first mid now s.moves more s.made made;
  output = output ∙ (ap (λ l. l ++ delivered_by more) s.output ∙ (append_assoc before (delivered_by s.moves) (delivered_by more) ∙ ap (λ l. before ++ l) (sym (flat_map-append delivery_by s.moves more))));
}

-- moves of the subscriptions
pub so_far_driven : {M T : Type 0} (mc : Machine M T) (kd : Nodes M T) (m : Meaning T) (first mid : Rows M T) (new : List (Subscription M T)) (before between after : List (SubId × Signal T)) (n k : ℕ) → SoFar mc kd m first before n mid between → AllPumped mc kd m k mid.subs between new after → SoFar mc kd m first before (n + k) (with_subs mid new) after
so_far_driven {M} {T} mc kd m first mid new before between after n k s p =
    let r = lead_in_graph mc kd m mid mid.subs new p.moves.labels p.moves.run in
    let made : AreMade mc kd m mid r.moves (with_subs mid new) = record {
      lead = r.lead;
      stands = λ h x. let P : History T → Type 0 = λ l. StandsFor mc m (with_subs mid new) l in subst P (ap (λ l. delivered h l) p.moves.all ∙ sym (r.happened h)) (subs_stand mc kd m k mid new between after p h x);
    } in
    so_far_on mc kd m first mid (with_subs mid new) before between after n k r.moves s (r.count ∙ p.moves.count) made (p.output ∙ ap (λ l. between ++ l) (p.moves.all ∙ sym r.output))

-- moves of the hubs, which deliver nothing
pub so_far_taken : {M T : Type 0} (mc : Machine M T) (kd : Nodes M T) (m : Meaning T) (first mid now : Rows M T) (before between : List (SubId × Signal T)) (n : ℕ) (more : List (Made T)) → SoFar mc kd m first before n mid between → AreMade mc kd m mid more now → delivered_by more ≡ [] → SoFar mc kd m first before (n + length more) now between
so_far_taken mc kd m first mid now before between n more s made none =
    so_far_on mc kd m first mid now before between between n (length more) more s refl made (sym (append-nil between) ∙ ap (λ l. between ++ l) (sym none))

-- a budget is spent by the moves made so far and by those behind them
pub spent_all : (n left budget k total : ℕ) → n + left ≡ budget → k ≡ left → total ≡ n + k → total ≡ budget
spent_all n left budget k total all rest both = omega (arith, all, rest, both)

-- ---- no enabled move, and some

none_there : {A : Type 0} (xs : List A) (i : ℕ) → length xs ≤ i → slice_get xs i ≡ None
none_there [] i l = refl
none_there (x ∷ xs) zero l = absurd (omega arith)
none_there (x ∷ xs) (suc i) l = none_there xs i (omega arith)

-- behind the last hub there is none
none_behind : {M T : Type 0} (mc : Machine M T) (m : Meaning T) (g : Rows M T) (i : ℕ) → length g.hubs ≤ i → IsHubQuiet mc m g i
none_behind mc m g i l =
    let none = none_there g.hubs i l in
    record {
      accept = ap (λ o. accepts_in mc g o i) none;
      feed = λ step small. ap (λ o. (is_some o && is_some (feed_of g.feeds i)) && (if is_out step then sends mc m g i else works mc m g.feeds i step)) none;
    }

less_or_not : (i n : ℕ) → (i < n) ⊎ (n ≤ i)
less_or_not i zero = inr (omega arith)
less_or_not zero (suc n) = inl (omega arith)
less_or_not (suc i) (suc n) = elim (less_or_not i n) [ inl less ↦ inl (omega (arith, less)) | inr more ↦ inr (omega (arith, more)) ]

hub_quiet : {M T : Type 0} (mc : Machine M T) (m : Meaning T) (g : Rows M T) → AreHubsQuiet mc m g (length g.hubs) → (i : ℕ) → IsHubQuiet mc m g i
hub_quiet mc m g q i = elim (less_or_not i (length g.hubs)) [ inl less ↦ q i less | inr more ↦ none_behind mc m g i more ]

pub rows_quiet : {M T : Type 0} (mc : Machine M T) (kd : Nodes M T) (m : Meaning T) (g : Rows M T) → AreQuiet mc m g.subs (length g.subs) → AreHubsQuiet mc m g (length g.hubs) → IsAllQuiet mc kd m g
rows_quiet mc kd m g quiet none (Ask (Sub i) n) small = all_quiet mc kd m g.subs (length g.subs) (omega arith) quiet (Ask (Sub i) n) small
rows_quiet mc kd m g quiet none (Send (Sub i) n) small = all_quiet mc kd m g.subs (length g.subs) (omega arith) quiet (Send (Sub i) n) small
rows_quiet mc kd m g quiet none (Take (Sub i) n) small = all_quiet mc kd m g.subs (length g.subs) (omega arith) quiet (Take (Sub i) n) small
rows_quiet mc kd m g quiet none (Pick (Sub i) n k) small = all_quiet mc kd m g.subs (length g.subs) (omega arith) quiet (Pick (Sub i) n k) small
rows_quiet mc kd m g quiet none (Row (Sub i) n) small = all_quiet mc kd m g.subs (length g.subs) (omega arith) quiet (Row (Sub i) n) small
rows_quiet mc kd m g quiet none (Ask (FeedOf h) n) small = quiet_feed mc kd m g h.0 (Ask (FeedOf h) n) small (hub_quiet mc m g none h.0)
rows_quiet mc kd m g quiet none (Send (FeedOf h) n) small = quiet_feed mc kd m g h.0 (Send (FeedOf h) n) small (hub_quiet mc m g none h.0)
rows_quiet mc kd m g quiet none (Take (FeedOf h) n) small = quiet_feed mc kd m g h.0 (Take (FeedOf h) n) small (hub_quiet mc m g none h.0)
rows_quiet mc kd m g quiet none (Pick (FeedOf h) n k) small = quiet_feed mc kd m g h.0 (Pick (FeedOf h) n k) small (hub_quiet mc m g none h.0)
rows_quiet mc kd m g quiet none (Row (FeedOf h) n) small = quiet_feed mc kd m g h.0 (Row (FeedOf h) n) small (hub_quiet mc m g none h.0)
rows_quiet mc kd m g quiet none (Accept h) small = (hub_quiet mc m g none h.0).accept

pub rows_awake : {M T : Type 0} (mc : Machine M T) (kd : Nodes M T) (m : Meaning T) (g : Rows M T) → IsSubAwake mc kd m g.subs → IsAnyAwake mc kd m g
rows_awake {M} {T} mc kd m g a = by_move a.0 a.1
  where
    by_move : (mv : Move) → sub_enabled mc kd m g.subs (tree_of mv) mv ≡ true → IsAnyAwake mc kd m g
    by_move (Ask (Sub i) n) e = (Ask (Sub i) n, e)
    by_move (Send (Sub i) n) e = (Send (Sub i) n, e)
    by_move (Take (Sub i) n) e = (Take (Sub i) n, e)
    by_move (Pick (Sub i) n k) e = (Pick (Sub i) n k, e)
    by_move (Row (Sub i) n) e = (Row (Sub i) n, e)
    by_move (Ask (FeedOf h) n) e = cc
    by_move (Send (FeedOf h) n) e = cc
    by_move (Take (FeedOf h) n) e = cc
    by_move (Pick (FeedOf h) n k) e = cc
    by_move (Row (FeedOf h) n) e = cc
    by_move (Accept h) e = cc

-- one hub more is quiet
pub hubs_quiet_on : {M T : Type 0} (mc : Machine M T) (m : Meaning T) (old new : Rows M T) (n : ℕ) → new ≡ old → AreHubsQuiet mc m old n → IsHubQuiet mc m new n → AreHubsQuiet mc m new (n + 1)
hubs_quiet_on {M} {T} mc m old new n same none here i l = elim (at_last i n (omega (arith, l))) [
  | inl less ↦ let P : Rows M T → Type 0 = λ g. IsHubQuiet mc m g i in subst P (sym same) (none i less)
  | inr last ↦ let Q : ℕ → Type 0 = λ j. IsHubQuiet mc m new j in subst Q (sym last) here
]
  where
    at_last : (i n : ℕ) → i < suc n → (i < n) ⊎ (i ≡ n)
    at_last zero zero l = inr refl
    at_last zero (suc n) l = inl (omega arith)
    at_last (suc i) zero l = absurd (omega arith)
    at_last (suc i) (suc n) l = elim (at_last i n (omega arith)) [ inl less ↦ inl (omega (arith, less)) | inr last ↦ inr (ap suc last) ]

-- the first so many are all of them
pub all_hubs_quiet : {M T : Type 0} (mc : Machine M T) (m : Meaning T) (g : Rows M T) (n : ℕ) → length g.hubs ≤ n → AreHubsQuiet mc m g n → AreHubsQuiet mc m g (length g.hubs)
all_hubs_quiet mc m g n all q i l = q i (omega (arith, all, l))

-- ---- the same rows

pub rows_same : {M T : Type 0} (a b : Rows M T) → b.hubs ≡ a.hubs → b.feeds ≡ a.feeds → b.subs ≡ a.subs → b ≡ a
rows_same a b h f s i = record { hubs = h i; feeds = f i; subs = s i }

-- ---- where a hub had no enabled move

-- where no move was made, nothing changed
none_so_far : {M T : Type 0} (mc : Machine M T) (kd : Nodes M T) (m : Meaning T) (first now : Rows M T) (before after : List (SubId × Signal T)) (n : ℕ) → SoFar mc kd m first before n now after → n ≡ 0 → now ≡ first
none_so_far mc kd m first now before after n s e = none_made mc kd m first now s.moves (s.count ∙ e) s.made

-- where the first of these moves was one of a hub that has none, none was made
pub untouched : {M T : Type 0} (mc : Machine M T) (kd : Nodes M T) (m : Meaning T) (first now : Rows M T) (before after : List (SubId × Signal T)) (n h : ℕ) → SoFar mc kd m first before n now after → (0 < n → IsHubQuiet mc m first h → ⊥) → IsHubQuiet mc m first h → now ≡ first
untouched mc kd m first now before after zero h s k q = none_so_far mc kd m first now before after 0 s refl
untouched mc kd m first now before after (suc n) h s k q = absurd (k (omega arith) q)

-- a hub that has an enabled move after such moves had one before them
pub could_first : {M T : Type 0} (mc : Machine M T) (kd : Nodes M T) (m : Meaning T) (first now : Rows M T) (before after : List (SubId × Signal T)) (n h : ℕ) → SoFar mc kd m first before n now after → (0 < n → IsHubQuiet mc m first h → ⊥) → (IsHubQuiet mc m now h → ⊥) → IsHubQuiet mc m first h → ⊥
could_first {M} {T} mc kd m first now before after n h s k can q =
    let P : Rows M T → Type 0 = λ g. IsHubQuiet mc m g h in
    can (subst P (sym (untouched mc kd m first now before after n h s k q)) q)

-- where no hub has a feed and nothing waits in front of one, no hub has an enabled move
pub nothing_waits : {M T : Type 0} (mc : Machine M T) (m : Meaning T) (g : Rows M T) → signals_wait g.hubs ≡ false → g.feeds ≡ [] → (n : ℕ) → AreHubsQuiet mc m g n
nothing_waits {M} {T} mc m g waits unfed n h less = unfed_quiet mc m g h none (by_hub (slice_get g.hubs h) refl)
  where
    none : feed_of g.feeds h ≡ None
    none = ap (λ l. feed_of l h) unfed

    none_at : (hubs : List (HubState T)) (j : ℕ) (x : HubState T) → signals_wait hubs ≡ false → slice_get hubs j ≡ Some x → is_some (waiting x) ≡ false
    none_at [] j x w is = cc
    none_at (y ∷ ys) zero x w is = let same : y ≡ x = cc in ap (λ z. is_some (waiting z)) (sym same) ∙ or_left (is_some (waiting y)) (signals_wait ys) w
    none_at (y ∷ ys) (suc j) x w is = none_at ys j x (or_right (is_some (waiting y)) (signals_wait ys) w) is

    not_ready : (o : Option (Signal T)) (room : Bool) → is_some o ≡ false → is_ready o room ≡ false
    not_ready None room e = refl
    not_ready (Some s) room e = cc

    by_hub : (o : Option (HubState T)) → slice_get g.hubs h ≡ o → accepts_at mc g h ≡ false
    by_hub None is = ap (λ o. accepts_in mc g o h) is
    by_hub (Some x) is =
        ap (λ o. accepts_in mc g o h) is
        ∙ (ap (λ o. is_none o && can_accept mc h x g.feeds g.subs) none ∙ not_ready (waiting x) (all_have_room mc h g.feeds g.subs) (none_at g.hubs h x waits is))

-- the same of a hub among those that have none, where nothing changed since
pub still_quiet : {M T : Type 0} (mc : Machine M T) (m : Meaning T) (first now : Rows M T) (h n : ℕ) → h < n → now ≡ first → AreHubsQuiet mc m first n → IsHubQuiet mc m now h
still_quiet {M} {T} mc m first now h n less same q = let P : Rows M T → Type 0 = λ g. IsHubQuiet mc m g h in subst P (sym same) (q h less)
