-- Answers that can still go back.
use Rattle.std.proofs.Common.{◌≡◌, ℕ, zero, suc, ◌+◌, Bool, true, false, nat_le, if◌then◌else◌, List, [], ◌∷◌, ◌++◌, length, Option, Some, None, refl, sym, ap, ◌∙◌, append-nil}
use Rattle.std.specs.Option.{option_to_list, IfNone}
use Rattle.std.proofs.lemmas.List.{length_push}
use Rattle.rsx_sources.specs.Prelude.{Ending, Open, Done, Failed, Meaning, taken_items, buffered_items, Stream, item_then}
use Rattle.rsx_plain.specs.declared.state.PlainState.TheVariants.{Take, Buffer}
use Rattle.rsx_plain.specs.Moves.{ended_or}
use Rattle.rsx_plain.specs.Emission.{item_or}
use Rattle.rsx_plain.specs.Prepared.{without_last, without_last_from, last_of, last_from, list_at_end, list_due, IsPrepared}
use Rattle.rsx_plain.specs.declared.prepared.Pending.TheVariants.{Kept, Forwarded, Gathered}

without_last_from_after : {A : Type 0} (y : A) (xs : List A) (x : A) → without_last_from y (xs ++ x ∷ []) ≡ y ∷ xs
without_last_from_after y [] x = refl
without_last_from_after y (z ∷ xs) x = ap (λ l. y ∷ l) (without_last_from_after z xs x)

pub without_last_after : {A : Type 0} (xs : List A) (x : A) → without_last (xs ++ x ∷ []) ≡ xs
without_last_after [] x = refl
without_last_after (y ∷ xs) x = without_last_from_after y xs x

last_from_after : {A : Type 0} (y : A) (xs : List A) (x : A) → last_from y (xs ++ x ∷ []) ≡ x
last_from_after y [] x = refl
last_from_after y (z ∷ xs) x = last_from_after z xs x

pub last_after : {A : Type 0} (xs : List A) (x : A) → last_of (xs ++ x ∷ []) ≡ Some x
last_after [] x = refl
last_after (y ∷ xs) x = ap Some (last_from_after y xs x)

pub popped_list : {A : Type 0} (old new : List A) (r : Option A) → old ≡ new ++ option_to_list r → IfNone r (old ≡ []) → new ≡ without_last old
popped_list old new None h n = let e : new ≡ [] = sym (append-nil new) ∙ sym h ∙ n in e ∙ sym (ap without_last n)
popped_list old new (Some x) h n = sym (ap without_last h ∙ without_last_after new x)

pub popped_item : {A : Type 0} (old new : List A) (r : Option A) → old ≡ new ++ option_to_list r → IfNone r (old ≡ []) → r ≡ last_of old
popped_item old new None h n = sym (ap last_of n)
popped_item old new (Some x) h n = sym (ap last_of h ∙ last_after new x)

-- an ending that comes in where some are left comes out
pub taken_ended : {T : Type 0} (n : ℕ) (e : Ending) (v : Stream T) → (n ≡ 0 → ⊥) → taken_items n (ended_or e v).items (ended_or e v).ending ≡ ended_or e (taken_items n v.items v.ending)
taken_ended zero e v h = absurd (h refl)
taken_ended (suc n) Open v h = refl
taken_ended (suc n) Done v h = refl
taken_ended (suc n) (Failed c) v h = refl

-- an ending that comes in puts out the list that was started, or drops it
pub buffered_ended : {T : Type 0} (list : List T → T) (n : ℕ) (xs : List T) (e : Ending) (v : Stream T) → buffered_items list n xs (ended_or e v).items (ended_or e v).ending ≡ item_or (list_at_end list xs e) (ended_or e (buffered_items list n xs v.items v.ending))
buffered_ended list n [] Open v = refl
buffered_ended list n [] Done v = refl
buffered_ended list n [] (Failed c) v = refl
buffered_ended list n (x ∷ xs) Open v = refl
buffered_ended list n (x ∷ xs) Done v = refl
buffered_ended list n (x ∷ xs) (Failed c) v = refl

-- an item is gathered into a list that is full, or not yet
gathered_in : {T : Type 0} (list : List T → T) (n : ℕ) (xs : List T) (e : Ending) (v : Stream T) (full : Bool) →
    (if full then item_then (list xs) (buffered_items list n [] (ended_or e v).items (ended_or e v).ending) else buffered_items list n xs (ended_or e v).items (ended_or e v).ending)
    ≡ item_or (if full then Some (list xs) else list_at_end list xs e) (ended_or e (buffered_items list n (if full then [] else xs) v.items v.ending))
gathered_in list n xs e v true = ap (item_then (list xs)) (buffered_ended list n [] e v)
gathered_in list n xs e v false = buffered_ended list n xs e v

pub gathers : {T : Type 0} (m : Meaning T) (n : ℕ) (xs : List T) (x : T) (e : Ending) → IsPrepared m (Buffer n xs) (record { item = Some x; ending = e }) (Buffer n (xs ++ x ∷ [])) (record { pending = Gathered; answer = record { item = list_due m.list_of n (xs ++ x ∷ []) e; ending = e } })
gathers m n xs x e = (
  (λ v. rw (length_push xs x) (gathered_in m.list_of n (xs ++ x ∷ []) e v (nat_le n (length xs + 1)))),
  ap (Buffer n) (without_last_after xs x),
  last_after xs x,
  (λ h. h),
  (λ h. cc),
)

-- the same, of a list and an item that are known by equations
pub gathers_by : {T : Type 0} (m : Meaning T) (n : ℕ) (xs : List T) (x : T) (e : Ending) (ys : List T) (out : Option T) → ys ≡ xs ++ x ∷ [] → out ≡ list_due m.list_of n ys e → IsPrepared m (Buffer n xs) (record { item = Some x; ending = e }) (Buffer n ys) (record { pending = Gathered; answer = record { item = out; ending = e } })
gathers_by m n xs x e ys out h o = rw (o, h) (gathers m n xs x e)

-- ---- a `take`

pub takes_none : {T : Type 0} (m : Meaning T) (n left : ℕ) (x : T) (e : Ending) → left ≡ 0 → IsPrepared m (Take n left) (record { item = Some x; ending = e }) (Take n left) (record { pending = Kept x; answer = record { item = None; ending = Done } })
takes_none m n zero x e z = (λ v. refl, refl, refl, λ h. refl, λ h. refl)
takes_none m n (suc left) x e z = cc

pub takes_last : {T : Type 0} (m : Meaning T) (n left : ℕ) (x : T) (e : Ending) → left ≡ 1 → IsPrepared m (Take n left) (record { item = Some x; ending = e }) (Take n left) (record { pending = Forwarded; answer = record { item = Some x; ending = Done } })
takes_last m n left x e z = rw z (λ v. refl, refl, refl, λ h. refl, λ h. refl)
