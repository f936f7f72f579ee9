-- Inputs with queues from which nothing can be taken, and at which nothing more comes in.
use Rattle.std.proofs.Common.{◌≡◌, ℕ, suc, ◌<◌, ◌&&◌, Bool, true, false, List, [], ◌∷◌, length, slice_get, Option, Some, None, refl, sym, ap, ◌∙◌, subst, arith}
use Rattle.rsx_sources.specs.Prelude.{Open as NotEnded, Stream, ended_by, AreWithin}
use Rattle.rsx_demand.specs.declared.TheConstants.{UNBOUNDED}
use Rattle.rsx_sources.specs.declared.machine.Front.{Front}
use Rattle.rsx_queued.specs.declared.tail.Tail.{Tail}
use Rattle.rsx_queued.specs.declared.tail.Tail.TheVariants.{Open, Completion, Failure, Taken}
use Rattle.rsx_queued.specs.Prelude.{first_held, held_then, is_open, IsCounted, is_gone, next_signal, still, unless_taken, AreCounted, are_gone, credits_at, done_at, here, inputs_left, next_signal_at, takes_at, head_of, tail_of}
use Rattle.rsx_values.specs.Pick.{InputLeft, rest_of, up_to_failure}
use Rattle.rsx_queued.specs.declared.input.QueuedInput.{QueuedInput}
use Rattle.rsx_queued.proofs.Counts.{waits}
use Rattle.rsx_queued.proofs.Picks.{gone_still}
use Rattle.rsx_queued.proofs.Wanting.{nothing_next}
use Rattle.rsx_tree.specs.Rests.{coming}

-- nothing comes in any more at an input that is open, takes whatever comes, and wants more than it took
abbrev pub NothingMore : {T : Type 0} → List (QueuedInput T) → List ℕ → List (Stream T) → Type 0
NothingMore qs cs vs = (i c : ℕ) → slice_get cs i ≡ Some c → done_at (slice_get qs i) ≡ false → ((f : Front) → takes_at (slice_get qs i) f ≡ true) → c < credits_at (slice_get qs i) → coming vs i ≡ ended_by NotEnded

-- nothing can be taken out
abbrev pub NothingNext : {T : Type 0} → List (QueuedInput T) → Type 0
NothingNext qs = (i : ℕ) → i < length qs → next_signal_at (slice_get qs i) ≡ None

pub first_coming : {T : Type 0} (vs : List (Stream T)) → coming vs 0 ≡ head_of vs
first_coming [] = refl
first_coming (v ∷ vs) = refl

pub coming_behind : {T : Type 0} (vs : List (Stream T)) (i : ℕ) → coming vs (suc i) ≡ coming (tail_of vs) i
coming_behind [] i = refl
coming_behind (v ∷ vs) i = refl

pub more_behind : {T : Type 0} (q : QueuedInput T) (qs : List (QueuedInput T)) (c : ℕ) (cs : List ℕ) (vs : List (Stream T)) → NothingMore (q ∷ qs) (c ∷ cs) vs → NothingMore qs cs (tail_of vs)
more_behind q qs c cs vs h i d at o t w = sym (coming_behind vs i) ∙ h (suc i) d at o t w

pub next_behind : {T : Type 0} (q : QueuedInput T) (qs : List (QueuedInput T)) → NothingNext (q ∷ qs) → NothingNext qs
next_behind q qs h i lt = h (suc i) (omega (arith, lt))

pub next_first : {T : Type 0} (q : QueuedInput T) (qs : List (QueuedInput T)) → NothingNext (q ∷ qs) → next_signal q ≡ None
next_first q qs h = h 0 (omega arith)

nothing_held : {T : Type 0} (t : Tail) (xs : List T) (v : Stream T) → is_open t ≡ true → unless_taken t (first_held xs t) ≡ None → v ≡ ended_by NotEnded → unless_taken t (Some (held_then xs t v)) ≡ Some (ended_by NotEnded)
nothing_held Open [] v o n e = ap Some e
nothing_held Open (x ∷ xs) v o n e = cc
nothing_held Completion xs v o n e = cc
nothing_held (Failure c) xs v o n e = cc
nothing_held Taken xs v o n e = cc

-- the first input, where it isn't gone
pub first_still : {T : Type 0} (q : QueuedInput T) (qs : List (QueuedInput T)) (c : ℕ) (cs : List ℕ) (vs : List (Stream T)) → next_signal q ≡ None → IsCounted q c → is_gone q ≡ false → c < UNBOUNDED → NothingMore (q ∷ qs) (c ∷ cs) vs → still q (head_of vs) ≡ Some (ended_by NotEnded)
first_still q qs c cs vs e h g lt none =
    let o = nothing_next q.tail q.queue.items e g in
    let w = waits q c h o.0 e lt in
    nothing_held q.tail q.queue.items (head_of vs) o.0 e (sym (first_coming vs) ∙ none 0 c refl o.1 w.takes_any w.wants)

-- ---- what can still be picked

-- no input has a signal left
abbrev pub AreEmpty : {T : Type 0} → List (InputLeft T) → Type 0
AreEmpty [] = Unit {0}
AreEmpty (i ∷ is) = (i.1 ≡ []) × AreEmpty is

pub all_empty : {T : Type 0} (k : ℕ) (qs : List (QueuedInput T)) (cs : List ℕ) (vs : List (Stream T)) → AreCounted qs cs → AreWithin cs → NothingNext qs → NothingMore qs cs vs → AreEmpty (inputs_left k qs vs)
all_empty k [] cs vs h w n none = tt
all_empty k (q ∷ qs) [] vs h w n none = absurd h
all_empty {T} k (q ∷ qs) (c ∷ cs) vs h w n none = by_gone (all_empty (suc k) qs cs (tail_of vs) h.1 w.1 (next_behind q qs n) (more_behind q qs c cs vs none)) (is_gone q) refl
  where
    E : Option (Stream T) → Type 0
    E o = AreEmpty (here k o (inputs_left (suc k) qs (tail_of vs)))

    by_gone : AreEmpty (inputs_left (suc k) qs (tail_of vs)) → (b : Bool) → is_gone q ≡ b → AreEmpty (here k (still q (head_of vs)) (inputs_left (suc k) qs (tail_of vs)))
    by_gone rest true g = subst E (sym (gone_still q.tail (Some (held_then q.queue.items q.tail (head_of vs))) g)) rest
    by_gone rest false g = subst E (sym (first_still q qs c cs vs (next_first q qs n) h.0 g w.0 none)) (refl, rest)

-- where an input isn't gone, one is left
pub some_left : {T : Type 0} (k : ℕ) (qs : List (QueuedInput T)) (cs : List ℕ) (vs : List (Stream T)) → AreCounted qs cs → AreWithin cs → NothingNext qs → NothingMore qs cs vs → are_gone qs ≡ false → 0 < length (inputs_left k qs vs)
some_left k [] cs vs h w n none g = cc
some_left k (q ∷ qs) [] vs h w n none g = absurd h
some_left {T} k (q ∷ qs) (c ∷ cs) vs h w n none g = by_gone (λ f. some_left (suc k) qs cs (tail_of vs) h.1 w.1 (next_behind q qs n) (more_behind q qs c cs vs none) f) (is_gone q) refl
  where
    L : Option (Stream T) → Type 0
    L o = 0 < length (here k o (inputs_left (suc k) qs (tail_of vs)))

    by_gone : (are_gone qs ≡ false → 0 < length (inputs_left (suc k) qs (tail_of vs))) → (b : Bool) → is_gone q ≡ b → 0 < length (here k (still q (head_of vs)) (inputs_left (suc k) qs (tail_of vs)))
    by_gone rest true e = subst L (sym (gone_still q.tail (Some (held_then q.queue.items q.tail (head_of vs))) e)) (rest (sym (ap (λ b. b && are_gone qs) e) ∙ g))
    by_gone rest false e = subst L (sym (first_still q qs c cs vs (next_first q qs n) h.0 e w.0 none)) (omega arith)

pub nothing_rest : {T : Type 0} (is : List (InputLeft T)) → AreEmpty is → rest_of is ≡ []
nothing_rest [] h = refl
nothing_rest (i ∷ is) h = ap (λ l. up_to_failure i.0 l (rest_of is)) h.0 ∙ nothing_rest is h.1
