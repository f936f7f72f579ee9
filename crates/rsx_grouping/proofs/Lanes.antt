-- What comes out of a lane by an item, and what a pick takes of it.
use Rattle.std.proofs.Common.{◌≡◌, ℕ, true, false, List, [], ◌∷◌, ◌++◌, map, Option, Some, None, option_map, refl, ap, sym, ◌∙◌, subst}
use Rattle.std.specs.Option.{option_to_list}
use Rattle.std.specs.Prelude.{slice_get, is_some}
use Rattle.std.proofs.lemmas.List.{append-nil}
use Rattle.std.proofs.lemmas.Option.{same_Some}
use Rattle.rsx_types.proofs.Lists.{nil_from_no_first}
use Rattle.rsx_types.proofs.Booleans.{false_from_absurd}
use Rattle.rsx_sources.specs.Prelude.{Ending, Open, Done, Failed, Signal, Next, Meaning, Stream, ended_by, item_then, items_then, is_nil}
use Rattle.rsx_plain.specs.Emission.{emission_then}
use Rattle.rsx_plain.specs.Moves.{has_ended}
use Rattle.rsx_plain.specs.declared.prepared.Emission.{Emission}
use Rattle.rsx_plain.specs.Chain.{chain_from, chain_over}
use Rattle.rsx_plain.specs.declared.chain.ChainState.{ChainState, End}
use Rattle.rsx_values.specs.Group.{tagged_items}
use Rattle.rsx_queued.specs.Input.{IsFirst}
use Rattle.rsx_plain.proofs.Rests.{chain_ends}
use Rattle.rsx_grouping.specs.Lane.{state_left, lane_left, state_after, state_ended, ending_signal, is_gone, is_gone_state, is_quiet, TakesItem, TakesOne, CompletesWith, IsPrepared, IsItemPicked, without_next, GoesOn}
use Rattle.rsx_grouping.specs.declared.lane.Lane.{Lane}
use Rattle.rsx_grouping.specs.declared.lane.LanePick.{LanePick}
use Rattle.rsx_grouping.specs.declared.lane.LaneState.{LaneState}
use Rattle.rsx_grouping.specs.declared.lane.LaneState.TheVariants.{Running, Completed, Failing, Gone}

-- ---- an item

-- what came out waits, and then comes what still comes out of the chain, unless that has ended
runs : {T : Type 0} (m : Meaning T) (k : ℕ) (c : ChainState T) (xs : List T) (y : Option T) (e : Ending) (v : Stream T) →
    Some (tagged_items m k (items_then xs (emission_then (record { item = y; ending = e }) (chain_from m c v)))) ≡ option_map (λ w. items_then (map (m.tagged k) (xs ++ option_to_list y)) w) (state_left m k (state_after c e) v)
runs m k c (x ∷ xs) y Open v = ap (option_map (item_then (m.tagged k x))) (runs m k c xs y Open v)
runs m k c (x ∷ xs) y Done v = ap (option_map (item_then (m.tagged k x))) (runs m k c xs y Done v)
runs m k c (x ∷ xs) y (Failed f) v = ap (option_map (item_then (m.tagged k x))) (runs m k c xs y (Failed f) v)
runs m k c [] None Open v = refl
runs m k c [] (Some z) Open v = refl
runs m k c [] None Done v = refl
runs m k c [] (Some z) Done v = refl
runs m k c [] None (Failed f) v = refl
runs m k c [] (Some z) (Failed f) v = refl

-- where nothing of a lane waits whose chain runs, no item does
pub none_waits : {T : Type 0} (l : Lane T) (c : ChainState T) → l.state ≡ Running c → is_quiet l ≡ true → l.waiting ≡ []
none_waits {T} l c is quiet = nothing l.waiting (rw is at quiet)
  where
    nothing : (xs : List T) → is_nil xs ≡ true → xs ≡ []
    nothing [] h = refl
    nothing (x ∷ xs) h = cc

-- it took an item
pub lane_takes : {T : Type 0} (m : Meaning T) (old new : Lane T) (c d : ChainState T) (x : T) (out : Emission T) → old.waiting ≡ [] → old.state ≡ Running c → TakesItem m c x out d → new.waiting ≡ option_to_list out.item → new.state ≡ state_after d out.ending →
    TakesOne m old x new
lane_takes m old new c d x out none is takes waits state k v = rw (none, is, waits, state) (ap (λ w. Some (tagged_items m k w)) (takes v) ∙ runs m k d [] out.item out.ending v)

-- without operators the item comes out as it is
pub lane_keeps : {T : Type 0} (m : Meaning T) (old new : Lane T) (x : T) → old.waiting ≡ [] → old.state ≡ Running End → new.waiting ≡ x ∷ [] → new.state ≡ old.state → TakesOne m old x new
lane_keeps m old new x none is waits state = lane_takes m old new End End x (record { item = Some x; ending = Open }) none is (λ v. refl) waits (state ∙ is)

not_gone : {T : Type 0} (c : ChainState T) (e : Ending) (s : LaneState T) → s ≡ state_after c e → is_gone_state s ≡ false
not_gone c Open s h = ap is_gone_state h
not_gone c Done s h = ap is_gone_state h
not_gone c (Failed f) s h = ap is_gone_state h

-- whether the ending was picked stays
pub gone_kept : {T : Type 0} (old new : Lane T) (c d : ChainState T) (e : Ending) → old.state ≡ Running c → new.state ≡ state_after d e → is_gone new ≡ is_gone old
gone_kept old new c d e is state = not_gone d e new.state state ∙ sym (ap is_gone_state is)

-- ---- a pick

-- the item that waits first
item_first : {T : Type 0} (m : Meaning T) (k : ℕ) (s : LaneState T) (x : T) (xs : List T) (v : Stream T) → is_gone_state s ≡ false →
    IsFirst (Next (m.tagged k x)) (option_map (λ w. items_then (map (m.tagged k) (x ∷ xs)) w) (state_left m k s v)) (option_map (λ w. items_then (map (m.tagged k) xs) w) (state_left m k s v))
item_first m k (Running c) x xs v h = (_, refl, refl)
item_first m k Completed x xs v h = (_, refl, refl)
item_first m k (Failing f) x xs v h = (_, refl, refl)
item_first m k Gone x xs v h = cc

-- the first of a value that has ended, and the rest of it
first_of_value : {T : Type 0} (m : Meaning T) (k : ℕ) (x : T) (xs : List T) (e : Ending) → has_ended e ≡ true →
    IsFirst (Next (m.tagged k x)) (Some (tagged_items m k (record { items = x ∷ xs; ending = e }))) (option_map (λ w. items_then (map (m.tagged k) xs) w) (state_left m k (state_ended e) (ended_by Done)))
first_of_value m k x xs Open h = cc
first_of_value m k x xs Done h = (tagged_items m k (record { items = xs; ending = Done }), refl, ap (λ zs. Some (record { items = zs; ending = Done })) (append-nil (map (m.tagged k) xs)))
first_of_value m k x xs (Failed f) h = (tagged_items m k (record { items = xs; ending = Failed f }), refl, ap (λ zs. Some (record { items = zs; ending = Failed f })) (append-nil (map (m.tagged k) xs)))

ending_of_value : {T : Type 0} (m : Meaning T) (k : ℕ) (e : Ending) → has_ended e ≡ true → IsFirst (ending_signal e) (Some (tagged_items m k (record { items = []; ending = e }))) None
ending_of_value m k Open h = cc
ending_of_value m k Done h = (refl, refl)
ending_of_value m k (Failed f) h = (refl, refl)

-- an input that is done
done_value : {T : Type 0} (d : Stream T) → d.items ≡ [] → d.ending ≡ Done → d ≡ ended_by Done
done_value d none done = ap (λ xs. record { items = xs; ending = d.ending }) none ∙ ap ended_by done

ended_value : {T : Type 0} (m : Meaning T) (c : ChainState T) (v : Stream T) → v ≡ chain_from m c (ended_by Done) → has_ended v.ending ≡ true
ended_value m c v is = ap (λ w. has_ended w.ending) is ∙ chain_ends m c (ended_by Done) refl

-- an item comes out by the completion
pub completes_with_item : {T : Type 0} (m : Meaning T) (k : ℕ) (c : ChainState T) (d v : Stream T) (x : T) (l : Lane T) (p : LanePick T) → d.items ≡ [] → d.ending ≡ Done → v ≡ chain_from m c d → v.items ≡ x ∷ l.waiting → l.state ≡ state_ended v.ending → p.signal ≡ Next (m.tagged k x) → p.lane ≡ Some l → CompletesWith m k c p
completes_with_item {T} m k c d v x l p none done gives items state signal lane =
    let is : v ≡ chain_from m c (ended_by Done) = gives ∙ ap (chain_from m c) (done_value d none done) in
    let whole : record { items = x ∷ l.waiting; ending = v.ending } ≡ chain_from m c (ended_by Done) = ap (λ xs. record { items = xs; ending = v.ending }) (sym items) ∙ is in
    let P : Stream T → Type 0 = λ w. IsFirst (Next (m.tagged k x)) (Some (tagged_items m k w)) (lane_left m k l (ended_by Done)) in
    let Q : LaneState T → Type 0 = λ s. IsFirst (Next (m.tagged k x)) (Some (tagged_items m k (record { items = x ∷ l.waiting; ending = v.ending }))) (option_map (λ w. items_then (map (m.tagged k) l.waiting) w) (state_left m k s (ended_by Done))) in
    let R : Signal T → Type 0 = λ s. IsFirst s (Some (tagged_items m k (chain_from m c (ended_by Done)))) (lane_left m k l (ended_by Done)) in
    (l, lane, subst R (sym signal) (subst P whole (subst Q (sym state) (first_of_value m k x l.waiting v.ending (ended_value m c v is)))))

-- nothing but the ending comes out
pub completes_at_once : {T : Type 0} (m : Meaning T) (k : ℕ) (c : ChainState T) (d v : Stream T) (l : Lane T) (p : LanePick T) → d.items ≡ [] → d.ending ≡ Done → v ≡ chain_from m c d → None ≡ slice_get v.items 0 → l.state ≡ Gone → p.signal ≡ ending_signal v.ending → p.lane ≡ Some l → CompletesWith m k c p
completes_at_once {T} m k c d v l p empty done gives first state signal lane =
    let items : v.items ≡ [] = nil_from_no_first v.items first in
    let is : v ≡ chain_from m c (ended_by Done) = gives ∙ ap (chain_from m c) (done_value d empty done) in
    let whole : record { items = []; ending = v.ending } ≡ chain_from m c (ended_by Done) = ap (λ xs. record { items = xs; ending = v.ending }) (sym items) ∙ is in
    let none : lane_left m k l (ended_by Done) ≡ None = ap (λ s. option_map (λ w. items_then (map (m.tagged k) l.waiting) w) (state_left m k s (ended_by Done))) state in
    let P : Stream T → Type 0 = λ w. IsFirst (ending_signal v.ending) (Some (tagged_items m k w)) None in
    let Q : Option (Stream T) → Type 0 = λ o. IsFirst (ending_signal v.ending) (Some (tagged_items m k (chain_from m c (ended_by Done)))) o in
    let R : Signal T → Type 0 = λ s. IsFirst s (Some (tagged_items m k (chain_from m c (ended_by Done)))) (lane_left m k l (ended_by Done)) in
    (l, lane, subst R (sym signal) (subst Q (sym none) (subst P whole (ending_of_value m k v.ending (ended_value m c v is)))))

-- an item waits
pub prepares_item : {T : Type 0} (m : Meaning T) (k : ℕ) (old : Lane T) (x : T) (p : LanePick T) → is_gone old ≡ false → Some x ≡ slice_get old.waiting 0 → p.signal ≡ Next (m.tagged k x) → p.lane ≡ None → IsPrepared m k old p
prepares_item {T} m k old x p there waits signal lane v done =
    let some : (xs : List T) × (old.waiting ≡ x ∷ xs) = first_there old.waiting waits in
    let is : old.waiting ≡ x ∷ some.0 = some.1 in
    rw (signal, lane, is) (item_first m k old.state x some.0 v there)
  where
    first_there : (ws : List T) → Some x ≡ slice_get ws 0 → (xs : List T) × (ws ≡ x ∷ xs)
    first_there [] h = cc
    first_there (w ∷ ws) h = (ws, ap (λ z. z ∷ ws) (sym (same_Some x w h)))

-- it is picked and leaves at once
pub item_picked : {T : Type 0} (m : Meaning T) (k : ℕ) (old : Lane T) (x y : T) (o : Option T) (ys : List T) → is_gone old ≡ false → Some x ≡ slice_get old.waiting 0 → y ≡ m.tagged k x → o ≡ slice_get old.waiting 0 → old.waiting ≡ option_to_list o ++ ys →
    IsItemPicked m k old y (record { state = old.state; waiting = ys })
item_picked {T} m k old x y o ys there front tagged first left = record {
  waits = some_waits old.waiting front;
  there = there;
  first = prepares_item m k old x (record { signal = Next y; lane = None }) there front (ap Next tagged) refl;
  left = without old.waiting o front first left;
}
  where
    some_waits : (xs : List T) → Some x ≡ slice_get xs 0 → is_nil xs ≡ false
    some_waits [] h = cc
    some_waits (w ∷ ws) h = refl

    without : (xs : List T) (p : Option T) → Some x ≡ slice_get xs 0 → p ≡ slice_get xs 0 → xs ≡ option_to_list p ++ ys → record { state = old.state; waiting = ys } ≡ without_next old.state xs
    without [] p h f l = cc
    without (w ∷ ws) None h f l = cc
    without (w ∷ ws) (Some z) h f l = let same : ys ≡ ws = cc in ap (λ zs. record { state = old.state; waiting = zs }) same

-- nothing waited
pub leaves : {T : Type 0} (s : LaneState T) (xs ys : List T) (o : Option T) → o ≡ slice_get xs 0 → xs ≡ option_to_list o ++ ys → is_some o ≡ false → record { state = Gone; waiting = ys } ≡ without_next s xs
leaves s xs ys (Some x) first left none = cc
leaves s [] ys None first left none = ap (λ zs. record { state = Gone; waiting = zs }) (sym left)
leaves s (x ∷ xs) ys None first left none = cc

-- ---- a chain that runs is not over

pub after_goes_on : {T : Type 0} (c : ChainState T) (e : Ending) (s : LaneState T) → (chain_over c ≡ true → has_ended e ≡ true) → s ≡ state_after c e → GoesOn s
after_goes_on {T} c e s h is = subst GoesOn (sym is) (by_ending e h)
  where
    by_ending : (e : Ending) → (chain_over c ≡ true → has_ended e ≡ true) → GoesOn (state_after c e)
    by_ending Open k = false_from_absurd (chain_over c) k
    by_ending Done k = tt
    by_ending (Failed f) k = tt

-- nor is that of a lane which has put out its ending
pub ended_goes_on : {T : Type 0} (e : Ending) (s : LaneState T) → s ≡ state_ended e → GoesOn s
ended_goes_on {T} e s is = subst GoesOn (sym is) (by_ending e)
  where
    by_ending : (e : Ending) → GoesOn {T = T} (state_ended e)
    by_ending Open = tt
    by_ending Done = tt
    by_ending (Failed f) = tt
