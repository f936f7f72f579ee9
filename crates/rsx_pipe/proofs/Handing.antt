-- A signal of a hub is handed to the nodes of a part.
use Rattle.std.proofs.Common.{◌≡◌, ℕ, zero, suc, ◌+◌, true, false, List, [], ◌∷◌, length, option_map, slice_get, if◌then◌else◌, refl, ap, sym, ◌∙◌, subst, arith, add-zero, append_assoc, Option, Some}
use Rattle.std.proofs.lemmas.List.{append-nil, length_push}
use Rattle.rsx_types.proofs.Lists.{slice_get_behind}
use Rattle.rsx_sources.specs.Prelude.{notes_then, Stream, ended_by, signal_then, signals_then, Ending, Open, Done, Failed, Signal, Next, Complete, Error, IsNextAt}
use Rattle.rsx_sources.specs.declared.machine.Machine.{Ghosts as Machine}
use Rattle.rsx_tree.specs.declared.node.Node.{Node}
use Rattle.rsx_tree.specs.Prelude.{edge_view, is_live, IsHanded as IsTreeHanded, IsHandedOut, IsNextOf, counts_after, is_room_for, times, IsTreeReadAt, count_before}
use Rattle.rsx_tree.specs.Handed as Tree
use Rattle.rsx_tree.specs.declared.edge.Edge.{Edge}
use Rattle.rsx_tree.specs.declared.edge.EdgeState.{EdgeState}
use Rattle.rsx_tree.specs.declared.edge.EdgeState.TheVariants.{Live, Ended, Closed}
use Rattle.rsx_pipe.specs.Output.{counts_in, values_then, published_then, more_after, with_signal, with_signal_at, IsOpenAt}
use Rattle.rsx_pipe.specs.Part.{evaluated}
use Rattle.rsx_pipe.specs.Published.{IsHanded, has_room_for, readers}
use Rattle.rsx_pipe.specs.Tree.{comes_out, notes_of}
use Rattle.rsx_pipe.specs.Part.{Part}

-- ---- one signal more is published

-- what is published behind it, seen from before it
abbrev pub in_front_of : {T : Type 0} → ℕ → Signal T → List (Stream T) → List (Stream T)
in_front_of zero s [] = signal_then s (ended_by Open) ∷ []
in_front_of zero s (m ∷ ms) = signal_then s m ∷ ms
in_front_of (suc n) s [] = ended_by Open ∷ in_front_of n s []
in_front_of (suc n) s (m ∷ ms) = m ∷ in_front_of n s ms

one_value : {T : Type 0} (s : Signal T) (v m : Stream T) → v.ending ≡ Open → published_then (with_signal s v) m ≡ published_then v (signal_then s m)
one_value (Next x) v m o = ap (λ e. more_after e (with_signal (Next x) v) m) o ∙ ((λ i. record { items = append_assoc v.items (x ∷ []) m.items i; ending = m.ending }) ∙ sym (ap (λ e. more_after e v (signal_then (Next x) m)) o))
one_value Complete v m o = (λ i. record { items = sym (append-nil v.items) i; ending = Done }) ∙ sym (ap (λ e. more_after e v (ended_by Done)) o)
one_value (Error c) v m o = (λ i. record { items = sym (append-nil v.items) i; ending = Failed c }) ∙ sym (ap (λ e. more_after e v (ended_by (Failed c))) o)

pub none_value : {T : Type 0} (v : Stream T) → published_then v (ended_by Open) ≡ v
none_value v = by_ending v.ending refl
  where
    by_ending : (e : Ending) → v.ending ≡ e → more_after v.ending v (ended_by Open) ≡ v
    by_ending Open o = ap (λ e. more_after e v (ended_by Open)) o ∙ (λ i. record { items = append-nil v.items i; ending = sym o i })
    by_ending Done o = ap (λ e. more_after e v (ended_by Open)) o
    by_ending (Failed c) o = ap (λ e. more_after e v (ended_by Open)) o

pub handed_values : {T : Type 0} (n : ℕ) (s : Signal T) (vs more : List (Stream T)) → IsOpenAt n vs → values_then (with_signal_at n s vs) more ≡ values_then vs (in_front_of n s more)
handed_values n s [] more o = let k = o.1 in cc
handed_values {T} zero s (v ∷ vs) [] o =
    let here : v ≡ o.0 = let k = o.1 in cc in
    let open_still : v.ending ≡ Open = ap (λ w. w.ending) here ∙ o.2 in
    ap (λ w. w ∷ values_then vs []) (sym (none_value (with_signal s v)) ∙ one_value s v (ended_by Open) open_still)
handed_values {T} zero s (v ∷ vs) (m ∷ ms) o =
    let here : v ≡ o.0 = let k = o.1 in cc in
    ap (λ w. w ∷ values_then vs ms) (one_value s v m (ap (λ w. w.ending) here ∙ o.2))
handed_values (suc n) s (v ∷ vs) [] o = ap (λ w. w ∷ values_then (with_signal_at n s vs) []) (sym (none_value v)) ∙ ap (λ l. published_then v (ended_by Open) ∷ l) (handed_values n s vs [] o)
handed_values (suc n) s (v ∷ vs) (m ∷ ms) o = ap (λ l. published_then v m ∷ l) (handed_values n s vs ms o)

next_count : (e : Ending) (n : ℕ) → count_before e (n + 1) ≡ option_map suc (count_before e n)
next_count Open n = ap Some (one_more n)
  where
    one_more : (k : ℕ) → k + 1 ≡ suc k
    one_more k = omega arith
next_count Done n = refl
next_count (Failed c) n = refl

-- the items that each hub published are counted on, until it ends
pub handed_counts : {T : Type 0} (n : ℕ) (s : Signal T) (vs : List (Stream T)) → counts_in (with_signal_at n s vs) ≡ counts_after n s (counts_in vs)
handed_counts n (Next x) [] = refl
handed_counts n Complete [] = refl
handed_counts n (Error c) [] = refl
handed_counts zero (Next x) (v ∷ vs) = ap (λ k. k ∷ counts_in vs) (ap (count_before v.ending) (length_push v.items x) ∙ next_count v.ending (length v.items))
handed_counts zero Complete (v ∷ vs) = refl
handed_counts zero (Error c) (v ∷ vs) = refl
handed_counts (suc n) (Next x) (v ∷ vs) = ap (λ l. count_before v.ending (length v.items) ∷ l) (handed_counts n (Next x) vs)
handed_counts (suc n) Complete (v ∷ vs) = ap (λ l. count_before v.ending (length v.items) ∷ l) (handed_counts n Complete vs)
handed_counts (suc n) (Error c) (v ∷ vs) = ap (λ l. count_before v.ending (length v.items) ∷ l) (handed_counts n (Error c) vs)

next_of : {T : Type 0} (s : Signal T) (v m : Stream T) → v.ending ≡ Open → IsNextAt (length v.items) (published_then v (signal_then s m)) s
next_of {T} (Next x) v m o =
    let P : Ending → Type 0 = λ e. slice_get (more_after e v (signal_then (Next x) m)).items (length v.items) ≡ Some x in
    subst P (sym o) (slice_get_behind v.items x m.items)
next_of {T} Complete v m o =
    let P : Ending → Type 0 = λ e. (length (more_after e v (ended_by Done)).items ≡ length v.items) × ((more_after e v (ended_by Done)).ending ≡ Done) in
    subst P (sym o) (ap length (append-nil v.items), refl)
next_of {T} (Error c) v m o =
    let P : Ending → Type 0 = λ e. (length (more_after e v (ended_by (Failed c))).items ≡ length v.items) × ((more_after e v (ended_by (Failed c))).ending ≡ Failed c) in
    subst P (sym o) (ap length (append-nil v.items), refl)

counted : (e : Ending) (n c : ℕ) → e ≡ Open → Some (count_before e n) ≡ Some (Some c) → n ≡ c
counted Open n c o h = cc
counted Done n c o h = cc
counted (Failed k) n c o h = cc

-- in all values of the hubs it comes next
pub handed_next : {T : Type 0} (n : ℕ) (s : Signal T) (vs more : List (Stream T)) → IsOpenAt n vs → IsNextOf (counts_in vs) (values_then vs (in_front_of n s more)) n s
handed_next n s [] more o c e = let k = o.1 in cc
handed_next {T} zero s (v ∷ vs) [] o c e =
    let here : v ≡ o.0 = let k = o.1 in cc in
    let C : ℕ → Type 0 = λ k. IsNextAt k (published_then v (signal_then s (ended_by Open))) s in
    let goes_on : v.ending ≡ Open = ap (λ w. w.ending) here ∙ o.2 in
    subst C (counted v.ending (length v.items) c goes_on e) (next_of s v (ended_by Open) goes_on)
handed_next {T} zero s (v ∷ vs) (m ∷ ms) o c e =
    let here : v ≡ o.0 = let k = o.1 in cc in
    let C : ℕ → Type 0 = λ k. IsNextAt k (published_then v (signal_then s m)) s in
    let goes_on : v.ending ≡ Open = ap (λ w. w.ending) here ∙ o.2 in
    subst C (counted v.ending (length v.items) c goes_on e) (next_of s v m goes_on)
handed_next (suc n) s (v ∷ vs) [] o c e = handed_next n s vs [] o c e
handed_next (suc n) s (v ∷ vs) (m ∷ ms) o c e = handed_next n s vs ms o c e

-- ---- a part

closed_live : (s : EdgeState) → is_live s ≡ false → s ≡ Live → ⊥
closed_live Live d l = cc
closed_live Ended d l = cc
closed_live Closed d l = cc

live_state : (s : EdgeState) → is_live s ≡ true → s ≡ Live
live_state Live l = refl
live_state Ended l = cc
live_state Closed l = cc

-- its nodes took the signal in
pub handed_part : {M T : Type 0} (b : Machine M T) (h : ℕ) (s : Signal T) (root : Edge) (old new : Node M) → is_live root.state ≡ true → IsTreeHanded b h s old new → IsHanded b h s (record { tree = old; root = root }) (record { tree = new; root = root })
handed_part {T = T} b h s root old new live k = record {
  stands = λ m published e joins output o p. record {
    value = λ more further len.
        let whole = in_front_of h s more in
        let V : List (Stream T) → Type 0 = λ w. option_map (signals_then output) (comes_out b m w further new 0) ≡ evaluated m w joins e (notes_then (notes_of b new) further) in
        subst V (sym (handed_values h s published more o))
        (ap (option_map (signals_then output)) (k.value m (counts_in published) (values_then published whole) further 0 (p.reads (live_state root.state live)) (handed_next h s published more o))
        ∙ (p.value whole further (len ∙ ap length k.notes) ∙ ap (λ ns. evaluated m (values_then published whole) joins e (notes_then ns further)) (sym k.notes)));
    orderly = p.orderly;
    unended = p.unended;
    ended = p.ended;
    counted = p.counted;
    balance = λ l. k.balance root.demand.sent (p.balance l);
    reads = λ l. let R : List (Option ℕ) → Type 0 = λ c. IsTreeReadAt b c new in subst R (sym (handed_counts h s published)) (k.reads (counts_in published) (p.reads l));
    alone = λ l none. let R : List (Option ℕ) → Type 0 = λ c. IsTreeReadAt b c new in subst R (no_count h s) (k.reads [] (p.alone l none));
    closed = λ c. let not = live_state root.state live in cc;
  };
  ended = λ last. ap (λ t. if t then Tree.readers b h new else 0) live ∙ k.ended last;
  edges = ap (λ l. edge_view root ∷ l) k.edges;
  root = refl;
  notes = k.notes;
  calls = k.calls;
  tree = λ _. k;
  still = λ not. absurd (not (live_state root.state live));
}
  where
    no_count : (h : ℕ) (s : Signal T) → counts_after h s [] ≡ []
    no_count zero (Next x) = refl
    no_count (suc h) (Next x) = refl
    no_count h Complete = refl
    no_count h (Error c) = refl

-- a part whose root edge isn't live has no reader
pub handed_dead : {M T : Type 0} (b : Machine M T) (h : ℕ) (s : Signal T) (part : Part M) → is_live part.root.state ≡ false → IsHanded b h s part part
handed_dead {T = T} b h s part dead = record {
  stands = λ m published e joins output o p. record {
    value = λ more further len.
        let V : List (Stream T) → Type 0 = λ w. option_map (signals_then output) (comes_out b m w further part.tree 0) ≡ evaluated m w joins e (notes_then (notes_of b part.tree) further) in
        subst V (sym (handed_values h s published more o)) (p.value (in_front_of h s more) further len);
    orderly = p.orderly;
    unended = p.unended;
    ended = p.ended;
    counted = p.counted;
    balance = p.balance;
    reads = λ l. absurd (closed_live part.root.state dead l);
    alone = p.alone;
    closed = p.closed;
  };
  ended = λ last. ap (λ t. if t then Tree.readers b h part.tree else 0) dead;
  edges = refl;
  root = refl;
  notes = refl;
  calls = λ a. refl;
  tree = λ l. absurd (closed_live part.root.state dead l);
  still = λ _. refl;
}

-- ---- out of a list

pub handed_out : {M T : Type 0} (b : Machine M T) (h : ℕ) (root : Edge) (old new : Node M) (signals left : List (Signal T)) → is_live root.state ≡ true → IsHandedOut (Tree.readers b h old) (Tree.has_room b h old) signals left (λ s. IsTreeHanded b h s old new) →
    IsHandedOut (readers b h (record { tree = old; root = root })) (has_room_for b h (record { tree = old; root = root })) signals left (λ s. IsHanded b h s (record { tree = old; root = root }) (record { tree = new; root = root }))
handed_out b h root old new signals left live f s k all room =
    let e = f s k (all ∙ ap (λ t. times (k + (if t then Tree.readers b h old else 0)) s) live) (sym (ap (λ t. is_room_for s (if t then Tree.has_room b h old else true)) live) ∙ room) in
    (handed_part b h s root old new live e.0, e.1)

pub none_handed : {M T : Type 0} (b : Machine M T) (h : ℕ) (part : Part M) (signals : List (Signal T)) → is_live part.root.state ≡ false → IsHandedOut (readers b h part) (has_room_for b h part) signals signals (λ s. IsHanded b h s part part)
none_handed b h part signals dead s k all room =
    (handed_dead b h s part dead, all ∙ (ap (λ t. times (k + (if t then Tree.readers b h part.tree else 0)) s) dead ∙ ap (λ n. times n s) (add-zero k)))
