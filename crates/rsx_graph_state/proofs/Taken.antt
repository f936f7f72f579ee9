-- What a hub took in, and a signal besides.
use Rattle.std.proofs.Common.{◌≡◌, ℕ, ◌+◌, ◌-◌, Bool, true, false, List, [], ◌∷◌, ◌++◌, length, drop, Some, refl, ap, sym, ◌∙◌, subst, arith, length-append, length-drop}
use Rattle.std.proofs.lemmas.List.{drop-append-le, drop-drop, length_push}
use Rattle.rsx_sources.specs.Prelude.{Stream, Ending, Open, Signal, Next, Complete, Error}
use Rattle.rsx_hub.specs.Hub.{HubState, accepted, replayed, taken_in, waiting}
use Rattle.rsx_hub.specs.Member.{ending_taken}
use Rattle.rsx_hub.specs.Waiting.{first_waiting}
use Rattle.rsx_subscriber.specs.Prelude.{with_signal, IsTaken}

-- the last n of a list
abbrev keep_last : {X : Type 0} → ℕ → List X → List X
keep_last n xs = drop (length xs - n) xs

-- what is kept of more, where the last n were kept
keep_more : {X : Type 0} (n : ℕ) (xs : List X) (x : X) → keep_last n (keep_last n xs ++ x ∷ []) ≡ keep_last n (xs ++ x ∷ [])
keep_more n xs x =
    let same : drop (length xs - n) xs ++ x ∷ [] ≡ drop (length xs - n) (xs ++ x ∷ []) = sym (drop-append-le (length xs - n) xs (x ∷ []) (omega arith)) in
    let m : ℕ = length (drop (length xs - n) xs ++ x ∷ []) - n in
    let count : (length xs - n) + m ≡ length (xs ++ x ∷ []) - n
    = omega (arith, length-append (drop (length xs - n) xs) (x ∷ []), length-drop (length xs - n) xs, length-append xs (x ∷ [])) in
    ap (λ l. drop m l) same ∙ (drop-drop m (length xs - n) (xs ++ x ∷ []) ∙ ap (λ k. drop k (xs ++ x ∷ [])) count)

not_ended : {T : Type 0} (q : List T) (e : Ending) (g : Bool) (s : Signal T) → first_waiting q e g ≡ Some s → (g ≡ true → q ≡ []) → g ≡ false
not_ended q e false s w none = refl
not_ended [] e true s w none = cc
not_ended (x ∷ xs) e true s w none = let z = none refl in cc

-- one signal more was taken in
pub taken_on : {T : Type 0} (h : HubState T) (s : Signal T) (v : Stream T) → IsTaken h v → IsTaken (taken_in h s) (with_signal s v)
taken_on h (Next x) v k = record {
  taken = record {
    counted = ap (λ c. c + 1) k.taken.counted ∙ sym (length_push v.items x);
    kept = ap (λ l. keep_last (replayed h.kind) (l ++ x ∷ [])) k.taken.kept ∙ keep_more (replayed h.kind) v.items x;
  };
  ending = k.ending;
  closed = k.closed;
}
taken_on h Complete v k = record { taken = record { counted = k.taken.counted; kept = k.taken.kept }; ending = refl; closed = λ z. refl }
taken_on h (Error c) v k = record { taken = record { counted = k.taken.counted; kept = k.taken.kept }; ending = refl; closed = λ z. refl }

-- what waits in the inbox makes no difference
without_first : {T : Type 0} (h : HubState T) (v : Stream T) → IsTaken h v → IsTaken (record h { inbox = drop 1 h.inbox }) v
without_first h v k = record { taken = record { counted = k.taken.counted; kept = k.taken.kept }; ending = k.ending; closed = k.closed }

after : {T : Type 0} (h : HubState T) (s : Signal T) (v : Stream T) → IsTaken h v → IsTaken (accepted h (Some s)) (with_signal s v)
after h s v k = taken_on (record h { inbox = drop 1 h.inbox }) s v (without_first h v k)

-- the hub had not ended, and took in the signal that waited behind what it took in before
pub published_on : {T : Type 0} (h h' : HubState T) (s : Signal T) (v : Stream T) → waiting h ≡ Some s → h' ≡ accepted h (Some s) → IsTaken h v → (h.has_ended ≡ true → h.inbox ≡ []) → (v.ending ≡ Open) × IsTaken h' (with_signal s v)
published_on h h' s v waits is k none =
    let live : h.has_ended ≡ false = not_ended h.inbox h.ending h.has_ended s waits none in
    (k.ending ∙ ap (λ g. ending_taken g h.ending) live, subst (λ g. IsTaken g (with_signal s v)) (sym is) (after h s v k))
