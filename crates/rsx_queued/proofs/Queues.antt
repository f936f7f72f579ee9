-- A queue with one item less, and one that is copied item by item.
use Rattle.std.proofs.Common.{◌≡◌, ℕ, zero, suc, ◌+◌, false, List, [], ◌∷◌, ◌++◌, take, slice_get, Some, refl, ap, ◌∙◌, add-one, append_assoc}
use Rattle.std.proofs.lemmas.Option.{same_Some}
use Rattle.rsx_sources.specs.Prelude.{Signal, Next, Stream}
use Rattle.rsx_queued.specs.declared.tail.Tail.{Tail}
use Rattle.rsx_queued.specs.declared.tail.Tail.TheVariants.{Open, Completion, Failure, Taken}
use Rattle.rsx_queued.specs.Held.{held_then, tail_signal, tail_taken}
use Rattle.rsx_queued.specs.Input.{unless_taken, is_taken, IsFirst}

-- an item in front of the others comes first
pub gives_item : {T : Type 0} (t : Tail) (xs ys : List T) (x : T) → xs ≡ x ∷ ys → is_taken t ≡ false → (v : Stream T) →
    IsFirst (Next x) (unless_taken t (Some (held_then xs t v))) (unless_taken t (Some (held_then ys t v)))
gives_item Open xs ys x e g v = rw e (held_then ys Open v, refl, refl)
gives_item Completion xs ys x e g v = rw e (held_then ys Completion v, refl, refl)
gives_item (Failure c) xs ys x e g v = rw e (held_then ys (Failure c) v, refl, refl)
gives_item Taken xs ys x e g v = cc

-- behind the last item the ending comes first
pub gives_ending : {T : Type 0} (t : Tail) (xs : List T) (s : Signal T) → xs ≡ [] → Some s ≡ tail_signal t → (v : Stream T) →
    IsFirst s (unless_taken t (Some (held_then xs t v))) (unless_taken (tail_taken t) (Some (held_then xs (tail_taken t) v)))
gives_ending Open xs s e g v = cc
gives_ending {T} Completion xs s e g v = rw (same_Some s _ g, e) (refl, refl)
gives_ending (Failure c) xs s e g v = rw (same_Some s _ g, e) (refl, refl)
gives_ending Taken xs s e g v = cc

take_more : {A : Type 0} (xs : List A) (k : ℕ) (x : A) → Some x ≡ slice_get xs k → take k xs ++ x ∷ [] ≡ take (suc k) xs
take_more [] k x e = cc
take_more (y ∷ xs) zero x e = ap (λ z. z ∷ []) (same_Some x y e)
take_more (y ∷ xs) (suc k) x e = ap (λ l. y ∷ l) (take_more xs k x e)

-- one item more was copied
pub copied_more : {A : Type 0} (base xs mid : List A) (k : ℕ) (x : A) → mid ≡ base ++ take k xs → Some x ≡ slice_get xs k → mid ++ x ∷ [] ≡ base ++ take (k + 1) xs
copied_more base xs mid k x m e = ap (λ l. l ++ x ∷ []) m ∙ append_assoc base (take k xs) (x ∷ []) ∙ ap (λ l. base ++ l) (take_more xs k x e) ∙ rw add-one refl
