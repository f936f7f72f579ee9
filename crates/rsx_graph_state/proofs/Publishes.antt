-- Subscriptions where a hub more is there, and where a signal was handed to them.
use Rattle.std.proofs.Common.{◌≡◌, inl, inr, ℕ, zero, suc, List, [], ◌∷◌, ◌++◌, length, length-append, option_map, slice_get, refl, ap, sym, ◌∙◌, subst, arith, Option, Some, None}
use Rattle.rsx_sources.specs.Prelude.{Meaning, notes_then, Stream, ended_by, signals_then, HubKind, Open, Signal, Reading}
use Rattle.rsx_subscriber.specs.Prelude.{Inputs, End, More', Node, counts_in, published_then, values_then, evaluated, comes_out, notes_of, Past, Stands}
use Rattle.rsx_sources.specs.declared.machine.Machine.{Ghosts as Machine}
use Rattle.rsx_tree.specs.Reads.{IsReadAt, IsRowReadAt, IsTreeReadAt, count_before}
use Rattle.rsx_pipe.proofs.Handing.{none_value}
use Rattle.rsx_graph_state.specs.Publishing.{AllHanded}
use Rattle.rsx_subscriber.specs.declared.subscription.Subscription.{Subscription}
use Rattle.rsx_subscriber.proofs.Values.{refusal_more}
use Rattle.rsx_graph_state.specs.declared.refusal.Refusal.{Refusal}
use Rattle.rsx_graph_state.specs.Answers.{IsHubRefusal}
use Rattle.rsx_graph_state.specs.Subscriptions.{AllStand}

-- ---- a hub more, behind those that are there

-- what is published behind that, seen from before
abbrev pad : {T : Type 0} → List (Stream T) → List (Stream T) → List (Stream T)
pad [] [] = ended_by Open ∷ []
pad [] (m ∷ ms) = m ∷ ms
pad (v ∷ vs) [] = ended_by Open ∷ pad vs []
pad (v ∷ vs) (m ∷ ms) = m ∷ pad vs ms

padded : {T : Type 0} (vs more : List (Stream T)) → values_then (vs ++ ended_by Open ∷ []) more ≡ values_then vs (pad vs more)
padded [] [] = refl
padded [] (m ∷ ms) = refl
padded (v ∷ vs) [] = ap (λ w. w ∷ values_then (vs ++ ended_by Open ∷ []) []) (sym (none_value v)) ∙ ap (λ l. published_then v (ended_by Open) ∷ l) (padded vs [])
padded (v ∷ vs) (m ∷ ms) = ap (λ l. published_then v m ∷ l) (padded vs ms)

one_count : {T : Type 0} (vs : List (Stream T)) → counts_in (vs ++ ended_by Open ∷ []) ≡ counts_in vs ++ Some 0 ∷ []
one_count [] = refl
one_count (v ∷ vs) = ap (λ l. count_before v.ending (length v.items) ∷ l) (one_count vs)

got_before : (ns : List (Option ℕ)) (i : ℕ) (n k : Option ℕ) → slice_get ns i ≡ Some n → slice_get (ns ++ k ∷ []) i ≡ Some n
got_before [] i n k e = cc
got_before (m ∷ ns) zero n k e = e
got_before (m ∷ ns) (suc i) n k e = got_before ns i n k e

read_more : (ns : List (Option ℕ)) (k : Option ℕ) (o : Option Reading) → IsReadAt ns o → IsReadAt (ns ++ k ∷ []) o
read_more ns k None h = tt
read_more ns k (Some r) h = got_before ns r.hub (Some r.reached) k h

row_more : {M T : Type 0} (b : Machine M T) (ns : List (Option ℕ)) (k : Option ℕ) (t : Inputs M) → IsRowReadAt b ns t → IsRowReadAt b (ns ++ k ∷ []) t
row_more b ns k End h = tt
row_more b ns k (More' e n p below q beside) h = (elim h.0 [ inl dead ↦ inl dead | inr r ↦ inr (read_more ns k (b.reads n) r.0, row_more b ns k below r.1) ], row_more b ns k beside h.1)

tree_more : {M T : Type 0} (b : Machine M T) (ns : List (Option ℕ)) (k : Option ℕ) (t : Node M) → IsTreeReadAt b ns t → IsTreeReadAt b (ns ++ k ∷ []) t
tree_more b ns k t h = (read_more ns k (b.reads t.machine) h.0, row_more b ns k t.inputs h.1)

stands_more : {M T : Type 0} (mc : Machine M T) (m : Meaning T) (taken : List (Stream T)) (sub : Subscription M T) (past : Past T) → Stands mc m taken sub past → Stands mc m (taken ++ ended_by Open ∷ []) sub past
stands_more {M} {T} mc m taken sub past h = record {
  state = h.state;
  live = h.live;
  output = h.output;
  part = record {
    value = λ more further len.
        let V : List (Stream T) → Type 0 = λ w. option_map (signals_then h.output) (comes_out mc m w further sub.part.tree 0) ≡ evaluated m w past.joins past.expression (notes_then (notes_of mc sub.part.tree) further) in
        subst V (sym (padded taken more)) (h.part.value (pad taken more) further len);
    orderly = h.part.orderly;
    unended = h.part.unended;
    ended = h.part.ended;
    counted = h.part.counted;
    balance = h.part.balance;
    reads = λ l. let R : List (Option ℕ) → Type 0 = λ c. IsTreeReadAt mc c sub.part.tree in subst R (sym (one_count taken)) (tree_more mc (counts_in taken) (Some 0) sub.part.tree (h.part.reads l));
    alone = h.part.alone;
    closed = h.part.closed;
  };
  held = h.held;
  begun = h.begun;
  orderly = h.orderly;
  waits = h.waits;
  got = h.got;
  asked = h.asked;
  requested = h.requested;
  delivered = h.delivered;
  unclosed = h.unclosed;
  admitted = refusal_more (length taken) (length (taken ++ ended_by Open ∷ [])) past.expression (let l = length-append taken (ended_by Open ∷ []) in omega (arith, l)) h.admitted;
  shape = h.shape;
  joined = h.joined;
  closed = h.closed;
}

-- subscriptions stand for the same where one more hub comes behind those that they read
pub subs_more : {M T : Type 0} (mc : Machine M T) (m : Meaning T) (taken : List (Stream T)) (subs : List (Subscription M T)) (pasts : List (Past T)) → AllStand mc m taken subs pasts → AllStand mc m (taken ++ ended_by Open ∷ []) subs pasts
subs_more mc m taken [] [] h = tt
subs_more mc m taken (s ∷ ss) (p ∷ ps) h = (stands_more mc m taken s p h.0, subs_more mc m taken ss ps h.1)
subs_more mc m taken [] (p ∷ ps) h = absurd h
subs_more mc m taken (s ∷ ss) [] h = absurd h

-- ---- a signal was handed to them

pub handed_length : {M T : Type 0} (mc : Machine M T) (h : ℕ) (sig : Signal T) (olds news : List (Subscription M T)) → AllHanded mc h sig olds news → length news ≡ length olds
handed_length mc h sig [] [] k = refl
handed_length mc h sig [] (y ∷ ys) k = absurd k
handed_length mc h sig (x ∷ xs) [] k = absurd k
handed_length mc h sig (x ∷ xs) (y ∷ ys) k = ap suc (handed_length mc h sig xs ys k.1)

-- ---- answers that belong to their steps

pub hub_refused : (kind : HubKind) (c n k : ℕ) (r : Refusal) → n ≡ k → IsHubRefusal kind c n r → IsHubRefusal kind c k r
hub_refused kind c n k r e h = let P : ℕ → Type 0 = λ j. IsHubRefusal kind c j r in subst P e h
