-- What comes out of the slot and then of the operator, signal by signal.
use Rattle.std.proofs.Common.{◌≡◌, ℕ, zero, suc, ◌+◌, ◌≤◌, List, [], ◌∷◌, ◌++◌, drop, length, Some, None, Result, refl, sym, ap, ◌∙◌, add-one, append_assoc, append-nil}
use Rattle.std.specs.Prelude.{slice_get, IfOk}
use Rattle.std.proofs.lemmas.Result.{IfOk-weaker}
use Rattle.std.proofs.lemmas.List.{drop_all}
use Rattle.rsx_sources.specs.Prelude.{Note, Nothing, Ending, Open, Signal, Next, Meaning, Stream, ended_by, items_then, signal_then, signals_then, Incoming, incoming_of, IsResidualOf}
use Rattle.rsx_plain.specs.State.{plain_from}
use Rattle.rsx_plain.specs.Node.{plain_comes_out}
use Rattle.rsx_plain.specs.declared.node.PlainNode.{PlainNode}

pub get_drop : {A : Type 0} (at : ℕ) (xs : List A) (s : A) → Some s ≡ slice_get xs at → drop at xs ≡ s ∷ drop (at + 1) xs
get_drop at [] s h = cc
get_drop zero (x ∷ xs) s h = let e : s ≡ x = cc in rw e refl
get_drop (suc at) (x ∷ xs) s h = rw add-one (rw add-one at (get_drop at xs s h))

pub get_none : {A : Type 0} (at : ℕ) (xs : List A) → None ≡ slice_get xs at → drop at xs ≡ drop (at + 1) xs
get_none zero [] h = refl
get_none (suc at) [] h = rw add-one refl
get_none zero (x ∷ xs) h = cc
get_none (suc at) (x ∷ xs) h = rw add-one (rw add-one at (get_none at xs h))

-- items that came out, and then the signals from the index `at` on, are all the signals of the slot
abbrev pub IsAfter : {T : Type 0} → List T → ℕ → List (Signal T) → Type 0
IsAfter {T} items at slot = (v : Stream T) → items_then items (signals_then (drop at slot) v) ≡ signals_then slot v

pub after_item : {T : Type 0} (items items' : List T) (at : ℕ) (slot : List (Signal T)) (s : Signal T) (x : T) → IsAfter items at slot → Some s ≡ slice_get slot at → s ≡ Next x → items' ≡ items ++ x ∷ [] → IsAfter items' (at + 1) slot
after_item items items' at slot s x i h n e v =
    let d : drop at slot ≡ Next x ∷ drop (at + 1) slot = rw n at (get_drop at slot s h) in
    let w = signals_then (drop (at + 1) slot) v in
    rw e (ap (λ l. record { items = l; ending = w.ending }) (append_assoc items (x ∷ []) w.items) ∙ ap (λ l. items_then items (signals_then l v)) (sym d) ∙ i v)

pub after_none : {T : Type 0} (items : List T) (at : ℕ) (slot : List (Signal T)) → IsAfter items at slot → None ≡ slice_get slot at → IsAfter items (at + 1) slot
after_none items at slot i h v = ap (λ l. items_then items (signals_then l v)) (sym (get_none at slot h)) ∙ i v

-- a signal that ends the stream cuts what follows it
pub ends_here : {T : Type 0} (m : Meaning T) (n : PlainNode T) (inc : Incoming T) (items : List T) (at : ℕ) (s : Signal T) (e : Ending) (r : Stream T) → IsAfter items at n.slot → Some s ≡ slice_get n.slot at → ((v : Stream T) → signal_then s v ≡ ended_by e) → r.items ≡ items → r.ending ≡ e → (further : Note) → further ≡ Nothing → plain_comes_out m n inc further ≡ Some r
ends_here m n inc items at s e r i h cut p q further f =
    let v = plain_from m n.state inc.first in
    let all = sym (i v) ∙ ap (λ l. items_then items (signals_then l v)) (get_drop at n.slot s h) ∙ ap (items_then items) (cut (signals_then (drop (at + 1) n.slot) v)) in
    rw (f, all, append-nil, ← p, ← q) refl

-- the rest comes out behind the slot
pub rest_behind : {T E : Type 0} (m : Meaning T) (n : PlainNode T) (inboxes vs : List (Stream T)) (items : List T) (at : ℕ) (first : Stream T) (r : Result (Stream T) E) → IsAfter items at n.slot → length n.slot ≤ at → ((hubs : List (Stream T)) → (incoming_of hubs vs).first ≡ first) → IfOk r (λ v. v ≡ items_then items (plain_from m n.state first)) →
    IfOk r (λ v. IsResidualOf (plain_comes_out m) (λ k. Nothing) (λ k. None) n inboxes vs v)
rest_behind {T} m n inboxes vs items at first r i h e o =
    IfOk-weaker r (λ v. v ≡ items_then items (plain_from m n.state first)) (λ v. IsResidualOf (plain_comes_out m) (λ k. Nothing) (λ k. None) n inboxes vs v) step o
  where
    step : (v : Stream T) → v ≡ items_then items (plain_from m n.state first) → IsResidualOf (plain_comes_out m) (λ k. Nothing) (λ k. None) n inboxes vs v
    step v g hubs further behind f =
        let all = sym (i (plain_from m n.state first)) ∙ ap (λ l. items_then items (signals_then l (plain_from m n.state first))) (drop_all at n.slot h) in
        rw (f, e hubs, all, g) refl

pub first_is : {T : Type 0} (hubs vs : List (Stream T)) (v : Stream T) → Some v ≡ slice_get vs 0 → (incoming_of hubs vs).first ≡ v
first_is hubs [] v h = cc
first_is hubs (w ∷ vs) v h = cc

pub first_none : {T : Type 0} (hubs vs : List (Stream T)) → None ≡ slice_get vs 0 → (incoming_of hubs vs).first ≡ ended_by Open
first_none hubs [] h = refl
first_none hubs (w ∷ vs) h = cc
