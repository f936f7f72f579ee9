-- Inputs of which one was changed.
use Rattle.std.proofs.Common.{◌≡◌, ℕ, zero, suc, ◌<◌, ◌≤◌, ◌&&◌, Bool, true, false, List, [], ◌∷◌, length, slice_index_or, slice_set, slice_get, refl, ap, sym, ◌∙◌, subst, arith}
use Rattle.std.proofs.Math.ListN.{replicate}
use Rattle.rsx_types.proofs.Lists.{slice_get-set_same}
use Rattle.rsx_sources.specs.Prelude.{Open as OpenEnding, Signal, Next, Complete, Error, Stream, ended_by, signals, signal_then, ends_input, taken_after, Incoming, in_front, in_front_at, front_of}
use Rattle.rsx_sources.specs.declared.machine.Front.{Front}
use Rattle.rsx_values.specs.Pick.{numbered}
use Rattle.rsx_queued.specs.declared.tail.Tail.{Tail}
use Rattle.rsx_queued.specs.declared.tail.Tail.TheVariants.{Open, Completion, Failure, Taken}
use Rattle.rsx_queued.specs.Held.{is_open}
use Rattle.rsx_queued.specs.Queued.{is_ended}
use Rattle.rsx_queued.specs.declared.input.QueuedInput.{QueuedInput}
use Rattle.rsx_queued.specs.Input.{still, takes, with_signal, fresh_input, is_taken, is_gone, has_room_for, IsCounted}
use Rattle.rsx_queued.specs.Inputs.{takes_at, done_at, are_gone, AreCounted, here, inputs_left}
use Rattle.rsx_queued.specs.Values.{head_of, tail_of, first_values}
use Rattle.rsx_queued.proofs.Counts.{counted_with, counted_fresh}
use Rattle.rsx_queued.proofs.Values.{front_list}

-- the input at i was q and is p
pub done_stays : {T : Type 0} (qs : List (QueuedInput T)) (i j : ℕ) (q p : QueuedInput T) → q ≡ slice_index_or qs i q → (is_ended q.tail ≡ true → is_ended p.tail ≡ true) → done_at (slice_get qs j) ≡ true → done_at (slice_get (slice_set qs i p) j) ≡ true
done_stays [] i j q p at h d = d
done_stays (r ∷ qs) zero zero q p at h d = h (ap (λ z. is_ended z.tail) at ∙ d)
done_stays (r ∷ qs) zero (suc j) q p at h d = d
done_stays (r ∷ qs) (suc i) zero q p at h d = d
done_stays (r ∷ qs) (suc i) (suc j) q p at h d = done_stays qs i j q p at h d

pub not_gone_at : {T : Type 0} (qs : List (QueuedInput T)) (i : ℕ) (p : QueuedInput T) → i < length qs → is_gone p ≡ false → are_gone (slice_set qs i p) ≡ false
not_gone_at [] i p lt g = absurd (omega arith)
not_gone_at (q ∷ qs) zero p lt g = ap (λ b. b && are_gone qs) g
not_gone_at (q ∷ qs) (suc i) p lt g = by_test (is_gone q) (not_gone_at qs i p (omega arith) g)
  where
    by_test : (b : Bool) → are_gone (slice_set qs i p) ≡ false → b && are_gone (slice_set qs i p) ≡ false
    by_test true e = e
    by_test false e = refl

-- ---- a signal comes in at one

-- an input that takes a signal is there
there : {T : Type 0} (qs : List (QueuedInput T)) (i : ℕ) (f : Front) → takes_at (slice_get qs i) f ≡ true → i < length qs
there [] i f e = cc
there (q ∷ qs) zero f e = omega arith
there (q ∷ qs) (suc i) f e = let lt = there qs i f e in omega arith

pub takes_there : {T : Type 0} (qs : List (QueuedInput T)) (i : ℕ) (old : QueuedInput T) (f : Front) → old ≡ slice_index_or qs i old → takes_at (slice_get qs i) f ≡ true → takes old f ≡ true
takes_there [] i old f at e = cc
takes_there (q ∷ qs) zero old f at e = ap (λ p. takes p f) at ∙ e
takes_there (q ∷ qs) (suc i) old f at e = takes_there qs i old f at e

-- the input at place i was `old`, and it took the signal s
pub record IsPut {T : Type 0} (qs : List (QueuedInput T)) (i : ℕ) (s : Signal T) (old new : QueuedInput T) : Type 0 where
  pub there : i < length qs
  pub was : old ≡ slice_index_or qs i old
  pub takes_it : takes old (front_of s) ≡ true
  pub with_it : new ≡ with_signal old s

pub is_put : {T : Type 0} (qs : List (QueuedInput T)) (i : ℕ) (s : Signal T) (old new : QueuedInput T) → takes_at (slice_get qs i) (front_of s) ≡ true → old ≡ slice_index_or qs i old → new ≡ with_signal old s → IsPut qs i s old new
is_put qs i s old new e was with_it = record { there = there qs i (front_of s) e; was = was; takes_it = takes_there qs i old (front_of s) was e; with_it = with_it }

-- what can still be picked
put_at : {T : Type 0} (k : ℕ) (qs : List (QueuedInput T)) (i : ℕ) (q : QueuedInput T) (s : Signal T) (vs : List (Stream T)) (d : QueuedInput T) → i < length qs → ((v : Stream T) → still q v ≡ still (slice_index_or qs i d) (signal_then s v)) →
    inputs_left k (slice_set qs i q) vs ≡ inputs_left k qs (in_front_at i s vs)
put_at k [] i q s vs d lt h = absurd (omega arith)
put_at k (p ∷ qs) zero q s [] d lt h = ap (λ o. here k o (inputs_left (suc k) qs [])) (h (ended_by OpenEnding))
put_at k (p ∷ qs) zero q s (v ∷ vs) d lt h = ap (λ o. here k o (inputs_left (suc k) qs vs)) (h v)
put_at k (p ∷ qs) (suc i) q s [] d lt h = ap (here k (still p (ended_by OpenEnding))) (put_at (suc k) qs i q s [] d (omega arith) h)
put_at k (p ∷ qs) (suc i) q s (v ∷ vs) d lt h = ap (here k (still p v)) (put_at (suc k) qs i q s vs d (omega arith) h)

pub put_left : {T : Type 0} (qs : List (QueuedInput T)) (i : ℕ) (s : Signal T) (old new : QueuedInput T) → IsPut qs i s old new → ((v : Stream T) → still new v ≡ still old (signal_then s v)) → (inc : Incoming T) →
    inputs_left 0 (slice_set qs i new) (inc.first ∷ inc.others) ≡ inputs_left 0 qs ((in_front i s inc).first ∷ (in_front i s inc).others)
put_left qs i s old new p value inc =
    put_at 0 qs i new s (inc.first ∷ inc.others) old p.there (λ v. value v ∙ ap (λ q. still q (signal_then s v)) p.was) ∙ ap (inputs_left 0 qs) (sym (front_list i s inc))

-- the items counted
counted_at : {T : Type 0} (qs : List (QueuedInput T)) (i : ℕ) (q : QueuedInput T) (s : Signal T) (cs : List ℕ) → q ≡ slice_index_or qs i q → AreCounted qs cs → AreCounted (slice_set qs i (with_signal q s)) (taken_after i s cs)
counted_at [] i q (Next x) [] at h = tt
counted_at [] i q Complete [] at h = tt
counted_at [] i q (Error f) [] at h = tt
counted_at [] i q s (c ∷ cs) at h = absurd h
counted_at (p ∷ qs) i q s [] at h = absurd h
counted_at (p ∷ qs) zero q (Next x) (c ∷ cs) at h = (counted_with q (Next x) c (subst (λ z. IsCounted z c) (sym at) h.0), h.1)
counted_at (p ∷ qs) zero q Complete (c ∷ cs) at h = (counted_with q Complete c (subst (λ z. IsCounted z c) (sym at) h.0), h.1)
counted_at (p ∷ qs) zero q (Error f) (c ∷ cs) at h = (counted_with q (Error f) c (subst (λ z. IsCounted z c) (sym at) h.0), h.1)
counted_at (p ∷ qs) (suc i) q (Next x) (c ∷ cs) at h = (h.0, counted_at qs i q (Next x) cs at h.1)
counted_at (p ∷ qs) (suc i) q Complete (c ∷ cs) at h = (h.0, counted_at qs i q Complete cs at h.1)
counted_at (p ∷ qs) (suc i) q (Error f) (c ∷ cs) at h = (h.0, counted_at qs i q (Error f) cs at h.1)

pub put_counted : {T : Type 0} (qs : List (QueuedInput T)) (i : ℕ) (s : Signal T) (old new : QueuedInput T) (cs : List ℕ) → IsPut qs i s old new → AreCounted qs cs → AreCounted (slice_set qs i new) (taken_after i s cs)
put_counted qs i s old new cs p h = subst (λ q. AreCounted (slice_set qs i q) (taken_after i s cs)) (sym p.with_it) (counted_at qs i old s cs p.was h)

-- the endings that were taken out
open_with : {T : Type 0} (t : Tail) (b : Bool) (q : QueuedInput T) (s : Signal T) → q.tail ≡ t → is_open t && b ≡ true → is_gone (with_signal q s) ≡ false
open_with Open b q (Next x) t o = ap is_taken t
open_with Open b q Complete t o = refl
open_with Open b q (Error c) t o = refl
open_with Completion b q s t o = cc
open_with (Failure c) b q s t o = cc
open_with Taken b q s t o = cc

pub put_not_gone : {T : Type 0} (qs : List (QueuedInput T)) (i : ℕ) (s : Signal T) (old new : QueuedInput T) → IsPut qs i s old new → are_gone (slice_set qs i new) ≡ false
put_not_gone qs i s old new p = not_gone_at qs i new p.there (ap is_gone p.with_it ∙ open_with old.tail (has_room_for old.queue (front_of s)) old s refl p.takes_it)

-- the endings that came in
ended_with : {T : Type 0} (q : QueuedInput T) (s : Signal T) → is_ended q.tail ≡ true → is_ended (with_signal q s).tail ≡ true
ended_with q (Next x) e = e
ended_with q Complete e = refl
ended_with q (Error c) e = refl

ending_with : {T : Type 0} (q : QueuedInput T) (s : Signal T) → ends_input s ≡ true → is_ended (with_signal q s).tail ≡ true
ending_with q (Next x) e = cc
ending_with q Complete e = refl
ending_with q (Error c) e = refl

pub put_done : {T : Type 0} (qs : List (QueuedInput T)) (i : ℕ) (s : Signal T) (old new : QueuedInput T) → IsPut qs i s old new → (j : ℕ) → done_at (slice_get qs j) ≡ true → done_at (slice_get (slice_set qs i new) j) ≡ true
put_done qs i s old new p j d = done_stays qs i j old new p.was (λ e. ap (λ q. is_ended q.tail) p.with_it ∙ ended_with old s e) d

pub put_ends : {T : Type 0} (qs : List (QueuedInput T)) (i : ℕ) (s : Signal T) (old new : QueuedInput T) → IsPut qs i s old new → ends_input s ≡ true → done_at (slice_get (slice_set qs i new) i) ≡ true
put_ends qs i s old new p e = ap done_at (slice_get-set_same qs i new p.there) ∙ ap (λ q. is_ended q.tail) p.with_it ∙ ending_with old s e

-- ---- nothing came in yet

pub fresh_left : {T : Type 0} (k n p : ℕ) (vs : List (Stream T)) → inputs_left k (replicate n (fresh_input p)) vs ≡ numbered k (first_values n vs)
fresh_left k zero p vs = refl
fresh_left k (suc n) p vs = ap (λ is. (k, signals (head_of vs)) ∷ is) (fresh_left (suc k) n p (tail_of vs))

pub fresh_counted : (T : Type 0) (n p : ℕ) → 1 ≤ p → AreCounted (replicate n (fresh_input {T = T} p)) (replicate n 0)
fresh_counted T zero p h = tt
fresh_counted T (suc n) p h = (counted_fresh T p h, fresh_counted T n p h)
