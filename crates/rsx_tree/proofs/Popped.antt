-- A signal that goes out of a node, which records it or doesn't: what that says of a row over which it goes, and of the tree whose root it
-- leaves.
use Rattle.std.proofs.Common.{◌≡◌, ◌⊎◌, inl, inr, ℕ, ◌+◌, ◌-◌, ◌≤◌, Bool, true, false, ◌&&◌, nat_eq, nat_le, if◌then◌else◌, ◌∷◌, refl, ap, sym, ◌∙◌, subst, Option, Some, None, option_map, slice_get}
use Rattle.std.proofs.lemmas.Bool.{and_parts}
use Rattle.rsx_sources.specs.Prelude.{Meaning, Note, Signal, CountsOut, ends_input, IsItemOut, IsItemOutBy, IsPoppedBy, IsReady, IsRecordedBy, IsSteppedOut, LetsGo, Next, Complete, Error, note_then, notes_then, front_of}
use Rattle.rsx_sources.specs.declared.machine.Front.{Front}
use Rattle.rsx_sources.specs.declared.machine.Front.TheVariants.{Item, Completion, Failure}
use Rattle.rsx_sources.specs.declared.machine.Machine.{Ghosts as Machine}
use Rattle.rsx_tree.specs.declared.edge.Edge.{Edge}
use Rattle.rsx_tree.specs.declared.inputs.Inputs.{Inputs, End, More'}
use Rattle.rsx_tree.specs.declared.node.Node.{Node}
use Rattle.rsx_tree.specs.Allocates.{IsNodeAlike}
use Rattle.rsx_tree.specs.Changed.{Hold, IsChanged, IsReadyBy, IsSentOver, noting_of}
use Rattle.rsx_tree.specs.Chosen.{IsChosen}
use Rattle.rsx_tree.specs.Edges.{EdgeView, can_pass, edge_view, is_live}
use Rattle.rsx_tree.specs.Fetched.{IsOut, IsStepOut}
use Rattle.rsx_tree.specs.Inputs.{can_go, closed_row_if, comes_in, is_own, notes_of, size}
use Rattle.rsx_tree.specs.Stepped.{IsStepped, Step}
use Rattle.rsx_tree.specs.Tree.{IsLetGo, IsPopped}
use Rattle.rsx_tree.proofs.Alike.{alike_before, popped_alike}
use Rattle.rsx_tree.proofs.Balances.{tree_pop_balanced}
use Rattle.rsx_tree.proofs.Noted.{IsNoting, chosen_then, kept_chosen, row_chosen, root_chosen}
use Rattle.rsx_tree.proofs.Rows.{IsGoneOver, out_lets_go}
use Rattle.rsx_tree.proofs.Trees.{kept_gone, node}

-- ---- a node records the note that goes with its signal

-- what it records then, as a step of it
abbrev IsNotedHere : {M T : Type 0} → Machine M T → Meaning T → Note → Step M
IsNotedHere b m k n asked sent ready = IsReady (b.comes_out m) b.recorded b.ended n k ready

unchanged_chosen : {M T : Type 0} (b : Machine M T) (m : Meaning T) (t : Node M) → IsChosen b m t t
unchanged_chosen b m t = kept_chosen b m t t (record { value = λ hubs further at. refl; notes = refl })

ready_notes : {M T : Type 0} (b : Machine M T) (m : Meaning T) (k : Note) → IsNoting b m (IsNotedHere b m k) (λ n j. note_then k j) (λ n j. note_then j k)
ready_notes b m k = record {
  value = λ n a s n' h inc j. h.value inc j;
  recorded = λ n a s n' h. h.notes;
  composes = λ n a s n' h j. h.composes j;
}

open_still : {M : Type 0} (c : Bool) (t : Inputs M) → c ≡ false → t ≡ closed_row_if (c && true) t
open_still true t h = cc
open_still false t h = refl

live_front : (e : EdgeView) (f : Front) → can_pass e f ≡ true → is_live e.state ≡ true
live_front e Item h = (and_parts (is_live e.state) _ h).0
live_front e Completion h = h
live_front e (Failure c) h = h

-- ---- a Send in a row

-- the row once the sender recorded the note, and then the signal went over the edge
record IsReadied {M T : Type 0} (b : Machine M T) (m : Meaning T) (r : M) (i asked sent : ℕ) (t : Inputs M) (at : ℕ) (r' : M) (t' : Inputs M) : Type 0 where
  pub mid : Inputs M
  pub noted : ((k : Note) × IsStepped (IsNotedHere b m k) b.ended t at mid) ⊎ (mid ≡ t)
  pub size : size mid ≡ size t
  pub own : (k : ℕ) → is_own mid k ≡ is_own t k
  pub made : IsChanged (IsGoneOver b m) b.ended r i asked sent mid at r' t'

-- over the row's first edge
readied_here : {M T : Type 0} (b : Machine M T) (m : Meaning T) (r r' : M) (i asked sent : ℕ) (e e' : Edge) (n n' : M) (p : Hold) (below : Inputs M) (q : Hold) (beside : Inputs M) → IsSentOver b m r i asked sent e n r' e' n' →
    IsReadied b m r i asked sent (More' e n p below q beside) 0 r' (More' e' n' p below q beside)
readied_here {M} {T} b m r r' i asked sent e e' n n' p below q beside h = by h.note h.noted
  where
    over : IsChanged (IsGoneOver b m) b.ended r i asked sent (More' e h.ready p below q beside) 0 r' (More' e' n' p below q beside)
    over = inl (record { e' = e'; n' = n'; at_is = refl; made = record { signal = h.signal; gone = h.gone; taken = h.taken; receiver = h.receiver; sender = h.sender }; new_is = refl })

    live : is_live e.state ≡ true
    live = live_front (edge_view e) (front_of h.signal) (and_parts (b.takes r i (front_of h.signal)) _ (sym (can_is (b.waiting m n) h.offered) ∙ h.can)).1
      where
        can_is : (o : Option (Signal T)) → o ≡ Some h.signal → can_go (b.takes r i) (edge_view e) (option_map front_of o) ≡ (b.takes r i (front_of h.signal) && can_pass (edge_view e) (front_of h.signal))
        can_is o is = ap (λ k. can_go (b.takes r i) (edge_view e) (option_map front_of k)) is

    by : (o : Option Note) → IsReadyBy b m o n h.ready → IsReadied b m r i asked sent (More' e n p below q beside) 0 r' (More' e' n' p below q beside)
    by None same = record { mid = More' e h.ready p below q beside; noted = inr (ap (λ k. More' e k p below q beside) same); size = refl; own = λ k. refl; made = over }
    by (Some k) noted = record {
      mid = More' e h.ready p below q beside;
      noted = inl (k, inl (record { n' = h.ready; at_is = refl; live = live; made = noted; new_is = ap (λ u. More' e h.ready p u q beside) (open_still (b.ended h.ready) below noted.goes_on) }));
      size = refl;
      own = λ j. refl;
      made = over;
    }

readied : {M T : Type 0} (b : Machine M T) (m : Meaning T) (r : M) (i asked sent : ℕ) (t : Inputs M) (at : ℕ) (r' : M) (t' : Inputs M) → IsChanged (IsSentOver b m) b.ended r i asked sent t at r' t' → IsReadied b m r i asked sent t at r' t'
readied b m r i asked sent End at r' t' h = absurd h
readied {M} {T} b m r i asked sent (More' e n p below q beside) at r' t' h = elim h [
  | inl x ↦
      let N : Inputs M → Type 0 = λ u. IsReadied b m r i asked sent (More' e n p below q beside) at r' u in
      let K : ℕ → Type 0 = λ k. IsReadied b m r i asked sent (More' e n p below q beside) k r' (More' x.e' x.n' p below q beside) in
      subst N (sym x.new_is) (subst K (sym x.at_is) (readied_here b m r r' i asked sent e x.e' n x.n' p below q beside x.made))
  | inr y ↦ elim y [
    | inl x ↦
        let rec = readied b m n 0 e.demand.asked e.demand.sent below (at - 1) x.n' x.mid x.made in
        let S : ℕ → Type 0 = λ k. at ≤ k in
        record {
          mid = More' e n p rec.mid q beside;
          noted = elim rec.noted [
            | inl k ↦ inl (k.0, inr (inl (record { below' = rec.mid; above = x.above; within = x.within; made = k.1; new_is = refl })))
            | inr k ↦ inr (ap (λ u. More' e n p u q beside) k)
          ];
          size = ap (λ k. k + size beside + 1) rec.size;
          own = λ k. ap (λ s. if nat_eq k 0 then true else (if nat_le k s then false else is_own beside (k - 1 - s))) rec.size;
          made = inr (inl (record {
            n' = x.n';
            mid = x.mid;
            above = x.above;
            within = subst S (sym rec.size) x.within;
            receiver = x.receiver;
            made = rec.made;
            new_is = x.new_is ∙ ap (λ c. More' e x.n' p (closed_row_if (b.ended x.n' && c) x.mid) q beside) (sym (rec.own (at - 1)));
          }));
        }
    | inr x ↦
        let rec = readied b m r (i + 1) asked sent beside (at - 1 - size below) r' x.beside' x.made in
        record {
          mid = More' e n p below q rec.mid;
          noted = elim rec.noted [
            | inl k ↦ inl (k.0, inr (inr (record { beside' = rec.mid; beyond = x.beyond; made = k.1; new_is = refl })))
            | inr k ↦ inr (ap (λ u. More' e n p below q u) k)
          ];
          size = ap (λ k. size below + k + 1) rec.size;
          own = λ k. ap (λ o. if nat_eq k 0 then true else (if nat_le k (size below) then false else o)) (rec.own (k - 1 - size below));
          made = inr (inr (record { beside' = x.beside'; beyond = x.beyond; made = rec.made; new_is = x.new_is }));
        }
  ]
]

-- a Send in a tree: where the sender recorded something, that is what was chosen
pub chosen_sent : {M T : Type 0} (b : Machine M T) (m : Meaning T) (r r' : M) (at : ℕ) (t mid t' : Inputs M) (c : Bool) → IsChanged (IsSentOver b m) b.ended r 0 0 0 t at r' mid → t' ≡ closed_row_if c mid → IsChosen b m (node r t) (node r' t')
chosen_sent {M} b m r r' at t mid t' c h is =
    let k = readied b m r 0 0 0 t at r' mid h in
    let first : IsChosen b m (node r t) (node r k.mid) = elim k.noted [
      | inl s ↦ row_chosen b m (IsNotedHere b m s.0) (λ n j. note_then s.0 j) (λ n j. note_then j s.0) (ready_notes b m s.0) r t k.mid at s.1
      | inr same ↦ (let Q : Inputs M → Type 0 = λ u. IsChosen b m (node r t) (node r u) in subst Q (sym same) (unchanged_chosen b m (node r t)))
    ] in
    chosen_then b m (node r t) (node r k.mid) (node r' t') first (kept_chosen b m (node r k.mid) (node r' t') (kept_gone b m r r' at k.mid mid t' c k.made is))

-- ---- a signal goes out of the root

pub record IsRootOut {M T : Type 0} (b : Machine M T) (m : Meaning T) (n : M) (s : Signal T) (n' : M) : Type 0 where
  pub waited : b.waiting m n ≡ Some s
  pub popped : b.popped n s n'
  pub note : Option Note
  pub noting : (note ≡ noting_of (b.popping n) s) ⊎ (note ≡ None)
  pub ready : M
  pub noted : IsReadyBy b m note n ready
  pub gone : LetsGo (b.comes_out m) ready s n'
  pub recorded : b.recorded n' ≡ b.recorded ready

root_ready : {M T : Type 0} (b : Machine M T) (m : Meaning T) (n ready : M) (t : Inputs M) (o : Option Note) → IsReadyBy b m o n ready → IsChosen b m (node n t) (node ready t)
root_ready {M} b m n ready t None same = let Q : M → Type 0 = λ k. IsChosen b m (node n t) (node k t) in subst Q (sym same) (unchanged_chosen b m (node n t))
root_ready {M} b m n ready t (Some k) noted =
    let Q : Inputs M → Type 0 = λ u. IsChosen b m (node n t) (node ready u) in
    subst Q (sym (open_still (b.ended ready) t noted.goes_on)) (root_chosen b m (IsNotedHere b m k) (λ x j. note_then k j) (λ x j. note_then j k) (ready_notes b m k) n ready t 0 0 noted)

pub let_go : {M T : Type 0} (b : Machine M T) (m : Meaning T) (n n' : M) (t : Inputs M) (s : Signal T) → IsRootOut b m n s n' → CountsOut b.counted b.ended b.done n (Some s) n' → IsNodeAlike b n n' → IsLetGo b m (node n t) s (node n' t)
let_go b m n n' t s h counts alike =
    let first = root_ready b m n h.ready t h.note h.noted in
    record {
      offered = h.waited;
      popped = (h.popped, refl);
      note = h.note;
      noting = h.noting;
      ready = h.ready;
      noted = h.noted;
      lets_go = h.gone;
      recorded = h.recorded;
      node = alike;
      counts = counts;
      choose = first.choose;
      count = first.count;
      value = λ hubs further. sym (first.value hubs further) ∙ out_lets_go b m hubs h.ready n' s h.gone (comes_in b m hubs further t 1) (slice_get further 0);
      nodes = first.nodes;
      notes = λ further. ap (λ k. notes_then (k ∷ notes_of b t) further) h.recorded ∙ first.notes further;
      balance = λ sent k. tree_pop_balanced b n n' t s sent counts k;
      alike = popped_alike b n n' t alike;
    }

-- what goes with an item is what the node says
noting_item : {T : Type 0} (said : Option Note) (s : Signal T) → ends_input s ≡ false → said ≡ noting_of said s
noting_item said (Next x) h = refl
noting_item said Complete h = cc
noting_item said (Error c) h = cc

-- and nothing goes with an ending
noting_ending : {T : Type 0} (said : Option Note) (s : Signal T) → ends_input s ≡ true → noting_of said s ≡ None
noting_ending said (Next x) h = cc
noting_ending said Complete h = refl
noting_ending said (Error c) h = refl

-- what the node's own call says, where it says that `o` goes with an item
pub root_out : {M T : Type 0} (b : Machine M T) (m : Meaning T) (n n' : M) (o : Option Note) (s : Signal T) → o ≡ b.popping n → IsPoppedBy (b.comes_out m) b.popped b.recorded b.ended o (b.waiting m n) n (Some s) n' → IsRecordedBy o (b.recorded n) (b.recorded n') → IsRootOut b m n s n'
root_out b m n n' None s said h recorded = record { waited = h.0; popped = h.1; note = None; noting = inr refl; ready = n; noted = refl; gone = h.2; recorded = recorded }
root_out b m n n' (Some k) s said h recorded = record { waited = h.waited; popped = h.popped_out; note = Some k; noting = inl (noting_item (Some k) s h.item ∙ ap (λ p. noting_of p s) said); ready = h.ready; noted = h.noted; gone = h.value; recorded = h.notes }

-- the same, where what came out is this signal
pub given_out : {M T : Type 0} (b : Machine M T) (m : Meaning T) (n n' : M) (k : Option Note) (o : Option (Signal T)) (s : Signal T) → k ≡ b.popping n → o ≡ Some s → IsPoppedBy (b.comes_out m) b.popped b.recorded b.ended k (b.waiting m n) n o n' → IsRecordedBy k (b.recorded n) (b.recorded n') → CountsOut b.counted b.ended b.done n o n' →
    IsRootOut b m n s n' × CountsOut b.counted b.ended b.done n (Some s) n'
given_out {T = T} b m n n' k o s said is h recorded counts =
    let P : Option (Signal T) → Type 0 = λ x. IsPoppedBy (b.comes_out m) b.popped b.recorded b.ended k (b.waiting m n) n x n' in
    let C : Option (Signal T) → Type 0 = λ x. CountsOut b.counted b.ended b.done n x n' in
    (root_out b m n n' k s said (subst P is h) recorded, subst C is counts)

-- what the root let go came out of the tree
pub popped_tree : {M T : Type 0} (b : Machine M T) (m : Meaning T) (n n' : M) (t : Inputs M) (k : Option Note) (o : Option (Signal T)) → k ≡ b.popping n → IsPoppedBy (b.comes_out m) b.popped b.recorded b.ended k (b.waiting m n) n o n' → IsRecordedBy k (b.recorded n) (b.recorded n') → CountsOut b.counted b.ended b.done n o n' → IsNodeAlike b n n' →
    IsPopped b m (node n t) o (node n' t)
popped_tree b m n n' t k (Some s) said h recorded counts alike = let_go b m n n' t s (root_out b m n n' k s said h recorded) counts alike
popped_tree b m n n' t None None said h recorded counts alike = (h.0, ap (λ x. node x t) h.1)
popped_tree b m n n' t (Some k) None said h recorded counts alike = (h.0, ap (λ x. node x t) h.1)

-- an item out of a node that records nothing by it
pub unrecorded_out : {M T : Type 0} (b : Machine M T) (m : Meaning T) (n n' : M) (x : T) → IsItemOut (b.comes_out m) (b.waiting m) b.popped b.recorded b.counted b.ended b.done n x n' → IsNodeAlike b n n' → IsOut b m n x n'
unrecorded_out b m n n' x h alike = record { waited = h.waited; popped = h.popped_out; note = None; noting = inr refl; ready = n; noted = refl; value = h.value; notes = h.notes; counts = h.counts; alike = alike }

-- an item out of a node, as the node's own call says, and as it goes out of a tree
pub item_out_of : {M T : Type 0} (b : Machine M T) (m : Meaning T) (n n' : M) (o : Option Note) (x : T) → o ≡ b.popping n → IsItemOutBy (b.comes_out m) (b.waiting m) b.popped b.recorded b.counted b.ended b.done o n x n' → IsNodeAlike b n n' → IsOut b m n x n'
item_out_of b m n n' None x said h alike = unrecorded_out b m n n' x h alike
item_out_of b m n n' (Some k) x said h alike = let p = h.0 in record { waited = p.waited; popped = p.popped_out; note = Some k; noting = inl said; ready = p.ready; noted = p.noted; value = p.value; notes = p.notes; counts = h.1; alike = alike }

pub item_out : {M T : Type 0} (b : Machine M T) (m : Meaning T) (n n' : M) (t : Inputs M) (x : T) → IsOut b m n x n' → IsLetGo b m (node n t) (Next x) (node n' t)
item_out b m n n' t x h = let_go b m n n' t (Next x) (record { waited = h.waited; popped = h.popped; note = h.note; noting = h.noting; ready = h.ready; noted = h.noted; gone = h.value; recorded = h.notes }) h.counts h.alike

-- a step of a node, and then the item out of it at once, over a live edge
pub stepped_out : {M T : Type 0} (b : Machine M T) (m : Meaning T) (e : Edge) (n n' : M) (below below' : Inputs M) (x : T) → ((mid : M) → b.popped mid (Next x) n' → IsNodeAlike b mid n') → is_live e.state ≡ true →
    IsSteppedOut (b.comes_out m) (b.waiting m) b.picks b.rows b.rowed b.popped b.recording b.recorded b.counted b.ended b.done n e.demand.asked e.demand.sent (Some x) n' → IsNodeAlike b n n' → below' ≡ closed_row_if (b.ended n' && true) below →
    IsStepOut b m e n below (Some x) n' below'
stepped_out {M} {T} b m e n n' below below' x alike live h whole shut =
    let mid = h.0 in
    let out = h.2 in
    let last = alike mid out.popped_out in
    let first = alike_before b n mid n' whole last in (
      mid,
      record {
        live = live;
        made = elim h.1 [
          | inl p ↦ (let k = p.1 in inl (p.0, record { can = k.enabled; value = k.value; recorded = k.notes; composes = k.composes; counts = k.counts; alike = first }))
          | inr k ↦ inr (record { can = k.enabled; row = k.row; value = k.value; recorded = k.notes; counts = k.counts; alike = first })
        ];
        shut = shut ∙ ap (λ c. closed_row_if (c && true) below) out.counts.0;
      },
      unrecorded_out b m mid n' x out last,
    )

-- ---- an ending goes out of the root: nothing is recorded

pub ending_gone : {M T : Type 0} (b : Machine M T) (m : Meaning T) (old : Node M) (s : Signal T) (new : Node M) → IsLetGo b m old s new → ends_input s ≡ true → LetsGo (b.comes_out m) old.machine s new.machine × (b.recorded new.machine ≡ b.recorded old.machine)
ending_gone {M} b m old s new h e =
    let none : h.note ≡ None = elim h.noting [ inl said ↦ said ∙ noting_ending (b.popping old.machine) s e | inr none ↦ none ] in
    let same : h.ready ≡ old.machine = by h.note none h.noted in
    let P : M → Type 0 = λ k. LetsGo (b.comes_out m) k s new.machine in
    (subst P same h.lets_go, h.recorded ∙ ap b.recorded same)
  where
    by : (o : Option Note) → o ≡ None → IsReadyBy b m o old.machine h.ready → h.ready ≡ old.machine
    by None is noted = noted
    by (Some k) is noted = cc
