-- Parts that have just begun, and what is delivered where a part is idle.
use Rattle.std.proofs.Common.{◌≡◌, inl, inr, ℕ, suc, ◌+◌, ◌-◌, ◌<◌, ◌≤◌, min, Bool, true, false, ◌&&◌, List, [], ◌∷◌, ◌++◌, length, length-append, take, map, option_map, Option, Some, None, Result, Ok, Err, IfOk, refl, ap, sym, ◌∙◌, subst, arith, append_assoc}
use Rattle.std.proofs.lemmas.List.{append-nil, take_all, take_at}
use Rattle.std.proofs.lemmas.Bool.{both_ways, cases_lt}
use Rattle.std.proofs.lemmas.Option.{same_Some}
use Rattle.rsx_types.proofs.Options.{none_from_no_some}
use Rattle.rsx_types.proofs.Lists.{slice_get_behind}
use Rattle.rsx_model.specs.declared.check.TheConstants.{MOST_NODES}
use Rattle.rsx_sources.specs.Prelude.{Meaning, unchosen, Stream, ended_by, item_then, signals_then, Ending, Open, Done, Failed, Signal, Next, Complete, Error, front_of}
use Rattle.rsx_model.specs.declared.expr.Expr.{Expr}
use Rattle.rsx_hub.specs.Hub.{HubState, HasTakenIn, BeginsWith}
use Rattle.rsx_hub.specs.Member.{ending_taken}
use Rattle.rsx_hub.specs.Waiting.{is_open}
use Rattle.rsx_rooted.specs.Built.{IsBuilt, AreBegun, StandAt, counts_of, new_joins}
use Rattle.rsx_tree.specs.Prelude.{IsTreeReadAt, count_before, edge_view, is_live, station_of, size, can_ask_in, can_send_in, can_pick_in, can_row_in}
use Rattle.rsx_pipe.specs.Published.{AreTaken, IsTaken}
use Rattle.rsx_pipe.specs.Output.{counts_in, items_in, IsUnended, more_after, published_then, values_then}
use Rattle.rsx_pipe.specs.Part.{PartStands, IsQuiet, HasReadAll, IsDelivered, IsServed, HasEnded, all_edges, send_enabled, evaluated}
use Rattle.rsx_pipe.specs.Tree.{comes_out, notes_of, offers, can_ask, can_send, can_go, IsIdle, IsBalanced, IsWithin, IsStill}
use Rattle.rsx_tree.specs.declared.look.NodeMove.TheVariants.{Ask, Send, Pick, Row}
use Rattle.rsx_tree.specs.declared.edge.EdgeState.{EdgeState}
use Rattle.rsx_tree.specs.declared.edge.EdgeState.TheVariants.{Live, Closed, Ended}
use Rattle.rsx_pipe.specs.Part.{Part}
use Rattle.rsx_rooted.specs.declared.rooted.Pumped.{Pumped}
use Rattle.rsx_rooted.specs.declared.rooted.Pumped.TheVariants.{Idle, Budget}
use Rattle.rsx_sources.specs.declared.machine.Machine.{Ghosts as Machine}
use Rattle.rsx_tree.proofs.Effects.{length_edges}
use Rattle.rsx_tree.proofs.Residuals.{Settles}
use Rattle.rsx_tree.proofs.Rests.{tree_rests}
use Rattle.rsx_tree.specs.Rests.{Rests}
use Rattle.rsx_pipe.proofs.Trees.{unchosen_tree}
use Rattle.rsx_tree.proofs.Idles.{IsAskedEnough, Waits, can_pass_live, live_still, place_none, station_none}
use Rattle.rsx_pipe.proofs.Signals.{prefix_of_orderly, cut_value}
use Rattle.rsx_rooted.proofs.Numbers.{above_zero, suc_minus}
use Rattle.rsx_rooted.proofs.Trees.{unchosen_notes, notes_then-unchosen}
use Rattle.rsx_pipe.proofs.Trees.{notes_then-unrecorded}

-- ---- a part that has just begun

stands_at : (before all : List ℕ) → StandAt (before ++ all) (length before) all
stands_at before [] = tt
stands_at before (n ∷ ns) =
    let all : (before ++ n ∷ []) ++ ns ≡ before ++ (n ∷ ns) = append_assoc before (n ∷ []) ns in
    let at : length (before ++ n ∷ []) ≡ length before + 1 = length-append before (n ∷ []) in
    let P : List ℕ → Type 0 = λ l. StandAt l (length before + 1) ns in
    let Q : ℕ → Type 0 = λ k. StandAt ((before ++ n ∷ []) ++ ns) k ns in
    (slice_get_behind before n ns, subst P all (subst Q at (stands_at (before ++ n ∷ []) ns)))

-- a value that begins with what a hub took in
begun_one : {T : Type 0} (h : HubState T) (v m : Stream T) → IsTaken h v → (taken : List T) × HasTakenIn h taken × BeginsWith h taken (published_then v m)
begun_one h v m k = (v.items, k.taken, by_ending v.ending refl)
  where
    open_still : (b : Bool) (e : Ending) → ending_taken b e ≡ Open → b ≡ true → (b ≡ true → is_open e ≡ false) → ⊥
    open_still true Open o t n = let f = n refl in cc
    open_still true Done o t n = cc
    open_still true (Failed c) o t n = cc
    open_still false e o t n = cc

    ended_same : (b : Bool) (e : Ending) → b ≡ true → ending_taken b e ≡ e
    ended_same true e t = refl
    ended_same false e t = cc

    by_ending : (e : Ending) → v.ending ≡ e → BeginsWith h v.items (published_then v m)
    by_ending Open o = record {
      more = m.items;
      items = ap (λ e. (more_after e v m).items) o;
      ended = λ t. absurd (open_still h.has_ended h.ending (sym k.ending ∙ o) t k.closed);
    }
    by_ending Done o = record {
      more = [];
      items = ap (λ e. (more_after e v m).items) o ∙ sym (append-nil v.items);
      ended = λ t. (refl, ap (λ e. (more_after e v m).ending) o ∙ (k.ending ∙ ended_same h.has_ended h.ending t));
    }
    by_ending (Failed c) o = record {
      more = [];
      items = ap (λ e. (more_after e v m).items) o ∙ sym (append-nil v.items);
      ended = λ t. (refl, ap (λ e. (more_after e v m).ending) o ∙ (k.ending ∙ ended_same h.has_ended h.ending t));
    }

none_after : {T : Type 0} (v : Stream T) → published_then v (ended_by Open) ≡ v
none_after v = by_ending v.ending refl
  where
    by_ending : (e : Ending) → v.ending ≡ e → more_after v.ending v (ended_by Open) ≡ v
    by_ending Open o = ap (λ e. more_after e v (ended_by Open)) o ∙ (λ i. record { items = append-nil v.items i; ending = sym o i })
    by_ending Done o = ap (λ e. more_after e v (ended_by Open)) o
    by_ending (Failed c) o = ap (λ e. more_after e v (ended_by Open)) o

pub begun_all : {T : Type 0} (hubs : List (HubState T)) (published more : List (Stream T)) → AreTaken hubs published → AreBegun hubs (values_then published more)
begun_all [] vs more k = tt
begun_all (h ∷ hs) [] more k = absurd k
begun_all {T} (h ∷ hs) (v ∷ vs) [] k =
    let P : Stream T → Type 0 = λ w. (taken : List T) × HasTakenIn h taken × BeginsWith h taken w in
    (subst P (none_after v) (begun_one h v (ended_by Open) k.0), begun_all hs vs [] k.1)
begun_all (h ∷ hs) (v ∷ vs) (m ∷ ms) k = (begun_one h v m k.0, begun_all hs vs ms k.1)

taken_counts : {T : Type 0} (hubs : List (HubState T)) (published : List (Stream T)) → AreTaken hubs published → counts_of hubs ≡ counts_in published
taken_counts [] [] k = refl
taken_counts [] (v ∷ vs) k = absurd k
taken_counts (h ∷ hs) [] k = absurd k
taken_counts (h ∷ hs) (v ∷ vs) k =
    ap (λ n. count_before (ending_taken h.has_ended h.ending) n ∷ counts_of hs) k.0.taken.counted
    ∙ (ap (λ e. count_before e (length v.items) ∷ counts_of hs) (sym k.0.ending) ∙ ap (λ l. count_before v.ending (length v.items) ∷ l) (taken_counts hs vs k.1))

pub fresh_part : {M T : Type 0} (b : Machine M T) (m : Meaning T) (hubs : List (HubState T)) (published : List (Stream T)) (e : Expr T) (part : Part M) → AreTaken hubs published → IsBuilt b m hubs e part.tree → part.root.state ≡ Live → part.root.demand.sent ≡ 0 → PartStands b m published part e (new_joins hubs e) []
fresh_part b m hubs published e part taken is l s = record {
  value = λ more further len.
      rw (notes_then-unrecorded (notes_of b part.tree) further is.notes len)
      (map_same (comes_out b m (values_then published more) further part.tree 0) ∙ is.value (values_then published more) (new_joins hubs e) further 0 0 (begun_all hubs published more taken) (stands_at [] (new_joins hubs e)));
  orderly = tt;
  unended = λ _. tt;
  ended = λ x. let k = l in cc;
  counted = sym s;
  balance = λ _. rw s is.balance;
  reads = λ _. let C : List (Option ℕ) → Type 0 = λ counts. IsTreeReadAt b counts part.tree in subst C (taken_counts hubs published taken) is.reads;
  alone = λ _ none. is.alone none;
  closed = λ x. let k = l in cc;
}
  where
    map_same : {T : Type 0} (o : Option (Stream T)) → option_map (λ v. v) o ≡ o
    map_same None = refl
    map_same (Some v) = refl

-- ---- idle means delivered

pub few_below : {M : Type 0} (part : Part M) → length (all_edges part) ≤ MOST_NODES → size part.tree.inputs < MOST_NODES
few_below part few = let len = length_edges part.tree.inputs in omega (arith, len, few)

pub idle_tree : {M T : Type 0} (b : Machine M T) (m : Meaning T) (part : Part M) (room : Bool) → IsQuiet b m part room → length (all_edges part) ≤ MOST_NODES → IsIdle b m part.tree part.root.demand.asked part.root.demand.sent
idle_tree {T = T} b m part room q few at lt = elim (cases_lt at (size part.tree.inputs)) [
  | inl w ↦
      let small : size part.tree.inputs < MOST_NODES = few_below part few in
      let a = q (Ask (at + 1)) (omega (arith, w, small)) in
      let s = q (Send (at + 1)) (omega (arith, w, small)) in (
        sym (ap (λ k. can_ask b part.tree k part.root.demand.asked part.root.demand.sent) (suc_minus at)) ∙ (sym (above_zero at false (can_ask b part.tree ((at + 1) - 1) part.root.demand.asked part.root.demand.sent)) ∙ a),
        sym (ap (λ k. can_send b m part.tree k) (suc_minus at)) ∙ (sym (above_zero at (room && can_go (edge_view part.root) (option_map front_of (offers b m part.tree))) (can_send b m part.tree ((at + 1) - 1))) ∙ s),
        ((λ input l. q (Pick (suc at) input) (omega (arith, w, small), l)), q (Row (suc at)) (omega (arith, w, small))),
      )
  | inr w ↦
      let none = station_none part.tree.inputs at w in (
        ap (can_ask_in b) (place_none part.tree.machine 0 part.root.demand.asked part.root.demand.sent part.tree.inputs at w),
        ap (can_send_in b m) (place_none part.tree.machine 0 0 0 part.tree.inputs at w),
        ((λ input l. ap (can_pick_in b input) none), ap (can_row_in b) none),
      )
]

-- no step of the root of a quiet part is enabled
pub still_root : {M T : Type 0} (b : Machine M T) (m : Meaning T) (part : Part M) (room : Bool) → IsQuiet b m part room → IsStill b (station_of part.tree (edge_view part.root) 0)
still_root b m part room q = ((λ input l. q (Pick 0 input) (omega arith, l)), q (Row 0) (omega arith))

-- over a live root edge with room behind it, of which more is asked than went, nothing more comes
nothing_more : {M T : Type 0} (b : Machine M T) (m : Meaning T) (waits : Waits b m) (enough : IsAskedEnough b m) (settles : Settles b m) (rests : Rests b m) (hubs : List (Stream T)) (part : Part M) (room : Bool) → IsQuiet b m part room → part.root.state ≡ Live → room ≡ true → IsBalanced b part.tree part.root.demand.sent → length (all_edges part) ≤ MOST_NODES → IsWithin part.tree → HasReadAll b m hubs part → part.root.demand.sent < part.root.demand.asked →
    comes_out b m hubs (map unchosen (notes_of b part.tree)) part.tree 0 ≡ Some (ended_by Open)
nothing_more {T = T} b m waits enough settles rests hubs part room q live free bal few w read less =
    tree_rests b m waits enough settles rests hubs (map unchosen (notes_of b part.tree)) part.tree part.root.demand.asked part.root.demand.sent (idle_tree b m part room q few) (live_still b part.root part.tree.machine can (still_root b m part room q)) bal less (let k = few_below part few in omega (arith, k)) w (read live) (unchosen_tree b part.tree) (none_from_no_some (offers b m part.tree) silent)
  where
    can : is_live part.root.state ≡ true
    can = ap is_live live

    silent : (s : Signal T) → offers b m part.tree ≡ Some s → ⊥
    silent s offered =
        let goes : send_enabled b m part room 0 ≡ true = rw (free, offered) (can_pass_live (edge_view part.root) (front_of s) can less) in
        both_ways (send_enabled b m part room 0) (q (Send 0) (omega arith)) goes

more_again : {T : Type 0} (d e : Ending) (xs ys : List T) (k : Stream T) →
    published_then (more_after d (record { items = xs; ending = d }) (record { items = ys; ending = e })) k ≡ more_after d (record { items = xs; ending = d }) (more_after e (record { items = ys; ending = e }) k)
more_again Open Open xs ys k = λ n. record { items = append_assoc xs ys k.items n; ending = k.ending }
more_again Open Done xs ys k = refl
more_again Open (Failed c) xs ys k = refl
more_again Done e xs ys k = refl
more_again (Failed c) e xs ys k = refl

then_again : {T : Type 0} (v i k : Stream T) → published_then (published_then v i) k ≡ published_then v (published_then i k)
then_again v i k = more_again v.ending i.ending v.items i.items k

-- what is published behind what was published behind what was published
pub values_then-again : {T : Type 0} (vs is ks : List (Stream T)) → values_then (values_then vs is) ks ≡ values_then vs (values_then is ks)
values_then-again [] is ks = refl
values_then-again (v ∷ vs) [] [] = ap (λ l. v ∷ l) (values_then-again vs [] [])
values_then-again (v ∷ vs) [] (k ∷ ks) = ap (λ l. published_then v k ∷ l) (values_then-again vs [] ks)
values_then-again (v ∷ vs) (i ∷ is) [] = ap (λ l. published_then v i ∷ l) (values_then-again vs is [])
values_then-again (v ∷ vs) (i ∷ is) (k ∷ ks) = ap (λ w. w ∷ values_then (values_then vs is) ks) (then_again v i k) ∙ ap (λ l. published_then v (published_then i k) ∷ l) (values_then-again vs is ks)

-- what went out, followed by what still comes out, is the value where this is published besides
pub value_now : {M T : Type 0} (b : Machine M T) (m : Meaning T) (published more : List (Stream T)) (part : Part M) (e : Expr T) (joins : List ℕ) (output : List (Signal T)) (v : Stream T) → PartStands b m published part e joins output → evaluated m (values_then published more) joins e (notes_of b part.tree) ≡ Some v →
    option_map (signals_then output) (comes_out b m (values_then published more) (map unchosen (notes_of b part.tree)) part.tree 0) ≡ Some v
value_now b m published more part e joins output v h x =
    h.value more (map unchosen (notes_of b part.tree)) (unchosen_notes (notes_of b part.tree)) ∙ (ap (λ k. evaluated m (values_then published more) joins e k) (notes_then-unchosen (notes_of b part.tree)) ∙ x)

unended_then : {T : Type 0} (output : List (Signal T)) → IsUnended output → signals_then output (ended_by Open) ≡ record { items = items_in output; ending = Open }
unended_then [] u = refl
unended_then (Next x ∷ ss) u = ap (item_then x) (unended_then ss u)
unended_then (Complete ∷ ss) u = absurd u
unended_then (Error c ∷ ss) u = absurd u

-- all that was asked for went
served_all : {M T : Type 0} (b : Machine M T) (m : Meaning T) (published : List (Stream T)) (part : Part M) (e : Expr T) (joins : List ℕ) (output : List (Signal T)) → part.root.demand.asked ≤ part.root.demand.sent → PartStands b m published part e joins output → (more : List (Stream T)) (v : Stream T) → evaluated m (values_then published more) joins e (notes_of b part.tree) ≡ Some v → IsServed part output v
served_all b m published part e joins output full h more v x =
    let within = part.root.demand.covered in
    let counted = h.counted in
    let count : length (items_in output) ≡ part.root.demand.asked = omega (arith, full, within, counted) in
    let p = prefix_of_orderly output (comes_out b m (values_then published more) (map unchosen (notes_of b part.tree)) part.tree 0) v h.orderly (value_now b m published more part e joins output v h x) in
    let longer : length v.items ≡ length (items_in output) + length p.0 = ap length (sym p.1) ∙ length-append (items_in output) p.0 in
    let least : min part.root.demand.asked (length v.items) ≡ length (items_in output) = omega (arith, count, longer) in
    record {
      items = sym (ap (λ l. take (min part.root.demand.asked (length v.items)) l) (sym p.1) ∙ take_at (items_in output) p.0 (min part.root.demand.asked (length v.items)) (sym least));
      ending = λ less _. absurd (omega (arith, less, count, longer));
    }

-- more was asked for than there is
served_whole : {M T : Type 0} (b : Machine M T) (m : Meaning T) (published : List (Stream T)) (part : Part M) (e : Expr T) (joins : List ℕ) (output : List (Signal T)) → part.root.state ≡ Live → PartStands b m published part e joins output → (more : List (Stream T)) (v : Stream T) → comes_out b m (values_then published more) (map unchosen (notes_of b part.tree)) part.tree 0 ≡ Some (ended_by Open) → evaluated m (values_then published more) joins e (notes_of b part.tree) ≡ Some v → IsServed part output v
served_whole b m published part e joins output live h more v none x =
    let whole : v ≡ record { items = items_in output; ending = Open } =
    same_Some v (signals_then output (ended_by Open)) (sym (value_now b m published more part e joins output v h x) ∙ ap (option_map (signals_then output)) none) ∙ unended_then output (h.unended live) in
    let within = part.root.demand.covered in
    let counted = h.counted in
    let all : items_in output ≡ v.items = sym (ap (λ w. w.items) whole) in
    let few : length v.items ≤ min part.root.demand.asked (length v.items) = let count = ap length all in omega (arith, within, counted, count) in
    record {
      items = all ∙ sym (take_all (min part.root.demand.asked (length v.items)) v.items few);
      ending = λ less some. absurd (some (ap (λ w. w.ending) whole));
    }

served_live : {M T : Type 0} (b : Machine M T) (m : Meaning T) (waits : Waits b m) (enough : IsAskedEnough b m) (settles : Settles b m) (rests : Rests b m) (published : List (Stream T)) (part : Part M) (room : Bool) (e : Expr T) (joins : List ℕ) (output : List (Signal T)) → IsQuiet b m part room → part.root.state ≡ Live → room ≡ true → length (all_edges part) ≤ MOST_NODES → IsWithin part.tree → PartStands b m published part e joins output → (more : List (Stream T)) (v : Stream T) → HasReadAll b m (values_then published more) part → evaluated m (values_then published more) joins e (notes_of b part.tree) ≡ Some v → IsServed part output v
served_live b m waits enough settles rests published part room e joins output q live free few w h more v read x = elim (cases_lt part.root.demand.sent part.root.demand.asked) [
  | inl less ↦ served_whole b m published part e joins output live h more v (nothing_more b m waits enough settles rests (values_then published more) part room q live free (h.balance live) few w read less) x
  | inr full ↦ served_all b m published part e joins output full h more v x
]

served_ended : {M T : Type 0} (b : Machine M T) (m : Meaning T) (published : List (Stream T)) (part : Part M) (e : Expr T) (joins : List ℕ) (output : List (Signal T)) → part.root.state ≡ Ended → PartStands b m published part e joins output → (more : List (Stream T)) (v : Stream T) → evaluated m (values_then published more) joins e (notes_of b part.tree) ≡ Some v → IsServed part output v
served_ended b m published part e joins output s h more v x =
    let all : items_in output ≡ v.items = cut_value output (comes_out b m (values_then published more) (map unchosen (notes_of b part.tree)) part.tree 0) v h.orderly (h.ended s) (value_now b m published more part e joins output v h x) in
    let within = part.root.demand.covered in
    let counted = h.counted in
    let count : length (items_in output) ≡ length v.items = ap length all in
    let few : length v.items ≤ min part.root.demand.asked (length v.items) = omega (arith, within, counted, count) in
    record {
      items = all ∙ sym (take_all (min part.root.demand.asked (length v.items)) v.items few);
      ending = λ _ _. s;
    }

pub delivered : {M T : Type 0} (b : Machine M T) (m : Meaning T) (waits : Waits b m) (enough : IsAskedEnough b m) (settles : Settles b m) (rests : Rests b m) (part : Part M) (room : Bool) → IsQuiet b m part room → IsDelivered b m part room
delivered {T = T} b m waits enough settles rests part room q published e joins output h unclosed free few w more v read x = by_state part.root.state refl
  where
    by_state : (s : EdgeState) → part.root.state ≡ s → IsServed part output v
    by_state Live s = served_live b m waits enough settles rests published part room e joins output q s free few w h more v read x
    by_state Ended s = served_ended b m published part e joins output s h more v x
    by_state Closed s = absurd (unclosed s)

-- ---- how driving ends

-- where it ends Idle, all is delivered
pub ended_served : {M T : Type 0} (E : Type 0) (b : Machine M T) (m : Meaning T) (waits : Waits b m) (enough : IsAskedEnough b m) (settles : Settles b m) (rests : Rests b m) (budget n : ℕ) (part : Part M) (room : Bool) (result : Result Pumped E) → HasEnded b m budget n part room result → IfOk result (λ p. (left : ℕ) → p ≡ Idle left → IsDelivered b m part room)
ended_served E b m waits enough settles rests budget n part room (Ok (Idle k)) h = λ left e. delivered b m waits enough settles rests part room h.1
ended_served E b m waits enough settles rests budget n part room (Ok Budget) h = λ left e. cc
ended_served E b m waits enough settles rests budget n part room (Err e) h = tt
