-- A signal that comes in at an input, and inputs at which nothing came in.
use Rattle.std.proofs.Common.{◌≡◌, ℕ, zero, suc, ◌+◌, ◌<◌, ◌≤◌, ◌^◌, true, List, [], ◌∷◌, ◌++◌, length, slice_index_or, slice_set, None, refl, ap, sym, ◌∙◌, subst, arith, append_assoc}
use Rattle.std.proofs.Math.ListN.{replicate}
use Rattle.std.proofs.lemmas.List.{length-replicate}
use Rattle.std.proofs.lemmas.Bool.{and_parts}
use Rattle.rsx_sources.specs.Prelude.{Open, Signal, Next, Complete, Error, Stream, ended_by, item_then, items_then, signal_then, taken_after, Incoming, in_front, in_front_at, front_of}
use Rattle.rsx_queued.specs.declared.tail.Tail.{Tail}
use Rattle.rsx_queued.specs.declared.tail.Tail.TheVariants.{Open as Coming, Completion, Failure, Taken}
use Rattle.rsx_queued.specs.Prelude.{is_open, has_room_for, takes, with_signal, fresh_input, head_of, tail_of, first_values}
use Rattle.rsx_queued.specs.declared.input.QueuedInput.{QueuedInput}
use Rattle.rsx_queued.specs.declared.output.Output.TheVariants.{Empty}
use Rattle.rsx_queued.proofs.Counts.{counted_with, counted_fresh}
use Rattle.rsx_queued.proofs.Changed.{IsPut}
use Rattle.rsx_queued.proofs.Values.{front_list}
use Rattle.rsx_combining.specs.Zip.{ZipState, IsZipCounted}
use Rattle.rsx_combining.specs.Inputs.{left, lefts, with_signal_at, AllCounted}

-- ---- what is still to come of an input that takes a signal

items_behind : {T : Type 0} (xs : List T) (x : T) (v : Stream T) → items_then (xs ++ x ∷ []) v ≡ items_then xs (item_then x v)
items_behind {T = T} xs x v = let at : List T → Stream T = λ ys. record { items = ys; ending = v.ending } in ap at (append_assoc xs (x ∷ []) v.items)

open_left : {T : Type 0} (t : Tail) (q : QueuedInput T) (s : Signal T) (v : Stream T) → q.tail ≡ t → is_open t ≡ true → left (with_signal q s) v ≡ left q (signal_then s v)
open_left Coming q (Next x) v t o = rw t (items_behind q.queue.items x v)
open_left Coming q Complete v t o = rw t refl
open_left Coming q (Error c) v t o = rw t refl
open_left Completion q s v t o = cc
open_left (Failure c) q s v t o = cc
open_left Taken q s v t o = cc

pub left_with : {T : Type 0} (q : QueuedInput T) (s : Signal T) (v : Stream T) → takes q (front_of s) ≡ true → left (with_signal q s) v ≡ left q (signal_then s v)
left_with q s v e = open_left q.tail q s v refl (and_parts (is_open q.tail) (has_room_for q.queue (front_of s)) e).0

put_at : {T : Type 0} (qs : List (QueuedInput T)) (i : ℕ) (q : QueuedInput T) (s : Signal T) (vs : List (Stream T)) (d : QueuedInput T) → i < length qs → ((v : Stream T) → left q v ≡ left (slice_index_or qs i d) (signal_then s v)) →
    lefts (slice_set qs i q) vs ≡ lefts qs (in_front_at i s vs)
put_at [] i q s vs d lt h = absurd (omega arith)
put_at (p ∷ qs) zero q s [] d lt h = ap (λ l. l ∷ lefts qs []) (h (ended_by Open))
put_at (p ∷ qs) zero q s (v ∷ vs) d lt h = ap (λ l. l ∷ lefts qs vs) (h v)
put_at (p ∷ qs) (suc i) q s [] d lt h = ap (λ l. left p (ended_by Open) ∷ l) (put_at qs i q s [] d (omega arith) h)
put_at (p ∷ qs) (suc i) q s (v ∷ vs) d lt h = ap (λ l. left p v ∷ l) (put_at qs i q s vs d (omega arith) h)

pub put_lefts : {T : Type 0} (qs : List (QueuedInput T)) (i : ℕ) (s : Signal T) (old new : QueuedInput T) → IsPut qs i s old new → (inc : Incoming T) →
    lefts (slice_set qs i new) (inc.first ∷ inc.others) ≡ lefts qs ((in_front i s inc).first ∷ (in_front i s inc).others)
put_lefts qs i s old new p inc =
    put_at qs i new s (inc.first ∷ inc.others) old p.there (λ v. ap (λ q. left q v) p.with_it ∙ left_with old s v p.takes_it ∙ ap (λ q. left q (signal_then s v)) p.was)
    ∙ ap (lefts qs) (sym (front_list i s inc))

-- ---- the inputs behind it

pub set_with : {T : Type 0} (qs : List (QueuedInput T)) (i : ℕ) (s : Signal T) (old new : QueuedInput T) → old ≡ slice_index_or qs i old → new ≡ with_signal old s → slice_set qs i new ≡ with_signal_at qs i s
set_with [] i s old new was put = refl
set_with (q ∷ qs) zero s old new was put = ap (λ p. p ∷ qs) (put ∙ ap (λ p. with_signal p s) was)
set_with (q ∷ qs) (suc i) s old new was put = ap (λ l. q ∷ l) (set_with qs i s old new was put)

-- ---- counts

counted_at : {T : Type 0} (qs : List (QueuedInput T)) (i : ℕ) (s : Signal T) (old : QueuedInput T) (cs : List ℕ) → old ≡ slice_index_or qs i old → AllCounted qs cs → AllCounted (slice_set qs i (with_signal old s)) (taken_after i s cs)
counted_at [] i (Next x) old [] was h = tt
counted_at [] i Complete old [] was h = tt
counted_at [] i (Error f) old [] was h = tt
counted_at [] i s old (c ∷ cs) was h = absurd h
counted_at (q ∷ qs) i s old [] was h = absurd h
counted_at {T = T} (q ∷ qs) zero (Next x) old (c ∷ cs) was h = let P : QueuedInput T → Type 0 = λ p. AllCounted (with_signal p (Next x) ∷ qs) ((c + 1) ∷ cs) in subst P (sym was) (counted_with q (Next x) c h.0, h.1, h.2)
counted_at {T = T} (q ∷ qs) zero Complete old (c ∷ cs) was h = (counted_with old Complete c (let P : QueuedInput T → Type 0 = λ p. AllCounted (p ∷ qs) (c ∷ cs) in subst P (sym was) h).0, refl, h.2)
counted_at {T = T} (q ∷ qs) zero (Error f) old (c ∷ cs) was h = (counted_with old (Error f) c (let P : QueuedInput T → Type 0 = λ p. AllCounted (p ∷ qs) (c ∷ cs) in subst P (sym was) h).0, refl, h.2)
counted_at (q ∷ qs) (suc i) (Next x) old (c ∷ cs) was h = (h.0, h.1, counted_at qs i (Next x) old cs was h.2)
counted_at (q ∷ qs) (suc i) Complete old (c ∷ cs) was h = (h.0, h.1, counted_at qs i Complete old cs was h.2)
counted_at (q ∷ qs) (suc i) (Error f) old (c ∷ cs) was h = (h.0, h.1, counted_at qs i (Error f) old cs was h.2)

pub put_counted : {T : Type 0} (qs : List (QueuedInput T)) (i : ℕ) (s : Signal T) (old new : QueuedInput T) (cs : List ℕ) → IsPut qs i s old new → AllCounted qs cs → AllCounted (slice_set qs i new) (taken_after i s cs)
put_counted {T = T} qs i s old new cs p h = let P : QueuedInput T → Type 0 = λ q. AllCounted (slice_set qs i q) (taken_after i s cs) in subst P (sym p.with_it) (counted_at qs i s old cs p.was h)

-- ---- at first

pub fresh_lefts : (T : Type 0) (n p : ℕ) (vs : List (Stream T)) → lefts (replicate n (fresh_input p)) vs ≡ first_values n vs
fresh_lefts T zero p vs = refl
fresh_lefts T (suc n) p vs = ap (λ l. head_of vs ∷ l) (fresh_lefts T n p (tail_of vs))

counted_all : (T : Type 0) (n p : ℕ) → 1 ≤ p → AllCounted (replicate n (fresh_input {T = T} p)) (replicate n 0)
counted_all T zero p h = tt
counted_all T (suc n) p h = (counted_fresh T p h, refl, counted_all T n p h)

pub fresh_zip : {T : Type 0} (s : ZipState T) (n p : ℕ) → s.inputs ≡ replicate n (fresh_input p) → s.output ≡ Empty → s.chosen ≡ None → 1 ≤ p → n < 2 ^ 32 → 1 ≤ n → IsZipCounted s (replicate n 0) 0
fresh_zip s zero p qs out c h few some = absurd (omega arith)
fresh_zip {T} s (suc n) p qs out c h few some =
    record {
      unchosen = c;
      goes_on = rw out refl;
      some_input = rw qs refl;
      few = let l = ap length qs ∙ length-replicate (suc n) (fresh_input p) in omega (arith, l);
      counts = rw qs (counted_all T (suc n) p h);
    }
