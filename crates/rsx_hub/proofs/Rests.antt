-- What a member still gives out, before and after a call.
use Rattle.std.proofs.Common.{◌≡◌, ℕ, ◌+◌, Bool, true, false, List, [], ◌∷◌, ◌++◌, length, drop, Some, slice_get, refl, sym, ap, ◌∙◌, arith, append_assoc}
use Rattle.std.proofs.lemmas.List.{drop_all}
use Rattle.std.proofs.lemmas.Bool.{and_parts}
use Rattle.rsx_sources.specs.Prelude.{Cause, Ending, Open, Done, Failed, Signal, Next, Complete, Error, Stream, ended_by, items_then}
use Rattle.rsx_hub.specs.Member.{MemberState, without, behind, rest, is_reading, takes, took, IsNextAt}
use Rattle.rsx_hub.proofs.Lists.{next_item}

-- ---- a signal is taken in

pub stream_of : {T : Type 0} (xs ys : List T) (e f : Ending) → xs ≡ ys → e ≡ f → let v : Stream T = record { items = xs; ending = e } in let w : Stream T = record { items = ys; ending = f } in v ≡ w
stream_of xs ys e f p q = λ i. record { items = p i; ending = q i }

-- over the value from here on: an item goes from there to the queue
item_in : {T : Type 0} (q : List T) (n : ℕ) (g : Bool) (e : Ending) (x : T) (w : Stream T) → is_reading g e ≡ true → slice_get w.items n ≡ Some x → items_then (q ++ x ∷ []) (behind g e (without (n + 1) w)) ≡ items_then q (behind g e (without n w))
item_in q n true e x w r next = cc
item_in q n false Open x w r next =
    let now : q ++ x ∷ drop (n + 1) w.items ≡ q ++ drop n w.items = ap (λ l. q ++ l) (sym (next_item w.items n x next)) in
    stream_of _ _ w.ending w.ending (append_assoc q (x ∷ []) (drop (n + 1) w.items) ∙ now) refl
item_in q n false Done x w r next = cc
item_in q n false (Failed c) x w r next = cc

-- the ending of a value without any item before it
ending_in : {T : Type 0} (q : List T) (n : ℕ) (g : Bool) (e f : Ending) (w : Stream T) → is_reading g e ≡ true → length w.items ≡ n → w.ending ≡ f → items_then q (ended_by f) ≡ items_then q (behind g e (without n w))
ending_in q n true e f w r l h = cc
ending_in q n false Open f w r l h =
    let none : drop n w.items ≡ [] = drop_all n w.items (omega arith) in
    stream_of _ _ f w.ending (ap (λ l. q ++ l) (sym none)) (sym h)
ending_in q n false Done f w r l h = cc
ending_in q n false (Failed c) f w r l h = cc

done_in : {T : Type 0} (q : List T) (n : ℕ) (g : Bool) (e : Ending) (w : Stream T) → is_reading g e ≡ true → length w.items ≡ n → w.ending ≡ Done → items_then q (behind g Done (without n w)) ≡ items_then q (behind g e (without n w))
done_in q n true e w r l h = refl
done_in q n false e w r l h = ending_in q n false e Done w r l h

failed_in : {T : Type 0} (q : List T) (n : ℕ) (g : Bool) (e : Ending) (c : Cause) (w : Stream T) → is_reading g e ≡ true → length w.items ≡ n → w.ending ≡ Failed c → items_then q (behind g (Failed c) (without n w)) ≡ items_then q (behind g e (without n w))
failed_in q n true e c w r l h = refl
failed_in q n false e c w r l h = ending_in q n false e (Failed c) w r l h

pub took_rest : {T : Type 0} (m : MemberState T) (s : Signal T) → takes m s ≡ true → (w : Stream T) → IsNextAt m.reached w s → rest (took m s) w ≡ rest m w
took_rest m (Next x) r w next = item_in m.queue m.reached m.gone m.ending x w (and_parts (is_reading m.gone m.ending) _ r).0 next
took_rest m Complete r w next = done_in m.queue m.reached m.gone m.ending w r next.0 next.1
took_rest m (Error c) r w next = failed_in m.queue m.reached m.gone m.ending c w r next.0 next.1
