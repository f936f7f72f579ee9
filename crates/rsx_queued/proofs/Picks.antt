-- Picks among inputs.
use Rattle.std.proofs.Common.{◌≡◌, ℕ, suc, ◌+◌, ◌++◌, nat_eq, false, true, List, [], ◌∷◌, append_assoc, Option, Some, None, refl, ap, ◌∙◌, add-one, arith}
use Rattle.std.proofs.lemmas.Bool.Decides.{nat_tests}
use Rattle.std.proofs.lemmas.Bool.{eq-eqb, and_parts}
use Rattle.rsx_sources.specs.Prelude.{Note, Nothing, Picks, Ended, Signal, Next, Complete, Error, note_then, Stream, incoming_of}
use Rattle.rsx_values.specs.Pick.{InputLeft, next_of}
use Rattle.rsx_queued.specs.declared.tail.Tail.{Tail}
use Rattle.rsx_queued.specs.declared.tail.Tail.TheVariants.{Open, Completion, Failure, Taken}
use Rattle.rsx_queued.specs.Held.{held_then}
use Rattle.rsx_queued.specs.declared.input.QueuedInput.{QueuedInput}
use Rattle.rsx_queued.specs.Input.{unless_taken, still, is_taken, is_gone, IsFirst}
use Rattle.rsx_queued.specs.Inputs.{are_gone, here, inputs_left}
use Rattle.rsx_queued.specs.Values.{head_of, tail_of}

here_before : {T : Type 0} (k : ℕ) (o : Option (Stream T)) (is : List (InputLeft T)) → here k o [] ++ is ≡ here k o is
here_before k None is = refl
here_before k (Some v) is = refl

-- an input in front of the others
pub here_first : {T : Type 0} (k : ℕ) (q : QueuedInput T) (qs : List (QueuedInput T)) (vs : List (Stream T)) (old mid new : List (InputLeft T)) → mid ≡ old ++ here k (still q (head_of vs)) [] → new ≡ mid ++ inputs_left (k + 1) qs (tail_of vs) →
    new ≡ old ++ inputs_left k (q ∷ qs) vs
here_first k q qs vs old mid new m n =
    n ∙ ap (λ l. l ++ inputs_left (k + 1) qs (tail_of vs)) m ∙ append_assoc old (here k (still q (head_of vs)) []) (inputs_left (k + 1) qs (tail_of vs))
    ∙ ap (λ l. old ++ l) (here_before k (still q (head_of vs)) (inputs_left (k + 1) qs (tail_of vs)) ∙ ap (λ j. here k (still q (head_of vs)) (inputs_left j qs (tail_of vs))) (add-one k))

-- ---- the choice finds its input

pub unequal : (c k i : ℕ) → c ≡ k + suc i → nat_eq c k ≡ false
unequal c k i e = grind (arith, nat_tests)

pub next_first : {T : Type 0} (k : ℕ) (o p : Option (Stream T)) (is : List (InputLeft T)) (s : Signal T) → IsFirst s o p → next_of k (here k o is) ≡ Some (s, here k p is)
next_first k o p is (Next x) f = rw (f.1, f.2, eq-eqb k k refl) refl
next_first k o p is Complete f = rw (f.0, f.1, eq-eqb k k refl) refl
next_first k o p is (Error c) f = rw (f.0, f.1, eq-eqb k k refl) refl

pub next_beside : {T : Type 0} (c k : ℕ) (o : Option (Stream T)) (is js : List (InputLeft T)) (s : Signal T) → nat_eq c k ≡ false → next_of c is ≡ Some (s, js) → next_of c (here k o is) ≡ Some (s, here k o js)
next_beside c k None is js s u e = e
next_beside c k (Some v) is js s u e = rw (u, e) refl

-- ---- the endings of all were taken out

pub gone_still : {T : Type 0} (t : Tail) (o : Option (Stream T)) → is_taken t ≡ true → unless_taken t o ≡ None
gone_still Open o e = cc
gone_still Completion o e = cc
gone_still (Failure c) o e = cc
gone_still Taken o e = refl

pub none_left : {T : Type 0} (k : ℕ) (qs : List (QueuedInput T)) (vs : List (Stream T)) → are_gone qs ≡ true → inputs_left k qs vs ≡ []
none_left k [] vs e = refl
none_left k (q ∷ qs) vs e =
    ap (λ o. here k o (inputs_left (suc k) qs (tail_of vs))) (gone_still q.tail (Some (held_then q.queue.items q.tail (head_of vs))) (and_parts (is_gone q) (are_gone qs) e).0)
    ∙ none_left (suc k) qs (tail_of vs) (and_parts (is_gone q) (are_gone qs) e).1

-- ---- nothing more is chosen

none_behind : (xs ys : List ℕ) → xs ++ ys ≡ xs → ys ≡ []
none_behind [] ys e = e
none_behind (x ∷ xs) ys e = none_behind xs ys (ap tail_of e)

choices_of : Note → List ℕ
choices_of Nothing = []
choices_of (Picks cs) = cs
choices_of (Ended o) = []

pub none_more : (cs : List ℕ) (k : Note) → note_then (Picks cs) k ≡ Picks cs → k ≡ Picks []
unfolding choices_of
none_more cs Nothing e = cc
none_more cs (Ended o) e = cc
none_more cs (Picks ds) e = ap Picks (none_behind cs ds (ap choices_of e))

-- the values as a node is handed them, and as a list
pub padded : {T : Type 0} (qs : List (QueuedInput T)) (hubs vs : List (Stream T)) → inputs_left 0 qs ((incoming_of hubs vs).first ∷ (incoming_of hubs vs).others) ≡ inputs_left 0 qs vs
padded [] hubs vs = refl
padded (q ∷ qs) hubs [] = refl
padded (q ∷ qs) hubs (v ∷ vs) = refl
