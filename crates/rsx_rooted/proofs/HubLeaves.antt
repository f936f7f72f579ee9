-- The node that reads a hub takes in several items of it at once, and lets several out.
use Rattle.std.specs.Prelude.{⊤}
use Rattle.std.proofs.Common.{None, ◌≡◌, ℕ, zero, suc, ◌+◌, ◌<◌, ◌≤◌, min, false, true, List, [], ◌∷◌, ◌++◌, length, length-append, reverse, take, drop, refl, ap, sym, ◌∙◌, subst, append_assoc, append-nil, arith}
use Rattle.std.proofs.lemmas.List.{length-reverse, reverse-append, reverse-reverse}
use Rattle.rsx_hub.proofs.Offers.{first_out, still_member}
use Rattle.rsx_hub.proofs.Spaces.{item_taken, spaces_after, spaces_room}
use Rattle.rsx_hub.specs.Leaf.{LeafState, leaf_comes_out, leaf_counted, leaf_popped, leaf_reads, leaf_rooms, leaf_shown, leaf_spaces, leaf_took, leaf_took_all, leaf_waiting, member_of, with_queue}
use Rattle.rsx_hub.specs.Member.{AreMoved, IsMember}
use Rattle.rsx_types.specs.declared.note.Note.TheVariants.{Nothing}
use Rattle.rsx_types.specs.declared.signal.Signal.TheVariants.{Next}
use Rattle.rsx_sources.specs.declared.machine.Machine.{Ghosts as Machine}
use Rattle.rsx_sources.specs.Prelude.{Meaning}
use Rattle.rsx_tree.specs.Runs.{Leads}
use Rattle.rsx_rooted.specs.Items.{ArePopped, IsOut}
use Rattle.rsx_rooted.specs.Taking.{IsItemTaken, IsTakenOff}

-- the meaning of such a node
abbrev pub leaf_machine : {T : Type 0} → Machine (LeafState T) T
leaf_machine = record {
  comes_out = leaf_comes_out;
  waiting = leaf_waiting;
  shown = leaf_shown;
  takes = λ n i f. false;
  picks = λ n i a s. false;
  rows = λ n a s. false;
  rowed = λ n a s k. ⊥;
  took = λ n i s new. ⊤;
  heard = λ n s new. ⊤;
  picked = λ n i new. ⊤;
  recording = λ n i. Nothing;
  recorded = λ n. Nothing;
  popping = λ n. None;
  ended = λ n. false;
  done = λ n i. false;
  counted = leaf_counted;
  wanted = λ n i a s. 0;
  accepts = λ n a s. true;
  popped = leaf_popped;
  reads = leaf_reads;
  rooms = leaf_rooms;
  crosses = λ n. false;
  pop_allocates = λ a n. false;
  signal_allocates = λ a n. false;
  step_allocates = λ a n. false;
}

-- an item that it has room for is taken in
leaf_step : {T : Type 0} (n : LeafState T) (x : T) → 0 < leaf_spaces n → IsItemTaken leaf_machine n x (leaf_took n (Next x))
leaf_step n x some =
    let taken = item_taken n x some in
    record { room = spaces_room n some; taken = record { on = taken.0; recorded = refl; counts = taken.1; calls = (refl, λ a. (refl, refl, refl)); heard = tt } }

positive : (a k : ℕ) → suc a ≤ k → 0 < k
positive a k l = omega (arith, l)

-- so are many
leaf_run : {T : Type 0} (xs : List T) (n n' : LeafState T) → length xs ≤ leaf_spaces n → n' ≡ leaf_took_all n xs → Leads (IsItemTaken leaf_machine) n xs n'
leaf_run {T} [] n n' fits is = is ∙ none
  where
    no_further : n.reached + length {A = T} [] ≡ n.reached
    no_further = omega arith

    none : leaf_took_all n [] ≡ n
    none i = record { hub = n.hub; queue = append-nil n.queue i; ending = n.ending; reached = no_further i; capacity = n.capacity; places = n.places; missed = n.missed; before = n.before }
leaf_run {T} (x ∷ xs) n n' fits is = (leaf_took n (Next x), leaf_step n x (positive (length xs) (leaf_spaces n) fits), leaf_run xs (leaf_took n (Next x)) n' (spaces_after n (length xs) x fits) (is ∙ one_first))
  where
    further : n.reached + length (x ∷ xs) ≡ (n.reached + 1) + length xs
    further = omega arith

    one_first : leaf_took_all n (x ∷ xs) ≡ leaf_took_all (leaf_took n (Next x)) xs
    one_first i = record { hub = n.hub; queue = sym (append_assoc n.queue (x ∷ []) xs) i; ending = n.ending; reached = further i; capacity = n.capacity; places = n.places; missed = n.missed; before = n.before }

all_fit : (count spaces all before : ℕ) → count ≤ spaces → all ≡ before + count → min count (min spaces all) ≡ count
all_fit count spaces all before fits is = omega (arith, fits, is)

-- those that leave the end of a list stand there
same_end : {T : Type 0} (us bs xs ys : List T) → us ++ reverse xs ≡ bs ++ reverse ys → length xs ≡ length ys → (xs ≡ ys) × (us ≡ bs)
same_end us bs xs ys is long =
    let swapped : xs ++ reverse us ≡ ys ++ reverse bs = sym (over us xs) ∙ (ap reverse is ∙ over bs ys) in
    let both = first_parts xs ys (reverse us) (reverse bs) long swapped in
    (both.0, sym (reverse-reverse us) ∙ (ap reverse both.1 ∙ reverse-reverse bs))
  where
    over : {A : Type 0} (ws zs : List A) → reverse (ws ++ reverse zs) ≡ zs ++ reverse ws
    over ws zs = reverse-append ws (reverse zs) ∙ ap (λ l. l ++ reverse ws) (reverse-reverse zs)

    first_parts : {A : Type 0} (ws zs cs ds : List A) → length ws ≡ length zs → ws ++ cs ≡ zs ++ ds → (ws ≡ zs) × (cs ≡ ds)
    first_parts [] [] cs ds l e = (refl, e)
    first_parts [] (z ∷ zs) cs ds l e = absurd (omega (arith, l))
    first_parts (a ∷ ws) [] cs ds l e = absurd (omega (arith, l))
    first_parts {A} (a ∷ ws) (z ∷ zs) cs ds l e =
        let first : a ≡ z = cc in
        let rest : ws ++ cs ≡ zs ++ ds = cc in
        let shorter : length ws ≡ length zs = omega (arith, l) in
        let both = first_parts ws zs cs ds shorter rest in
        (ap (λ u. u ∷ ws) first ∙ ap (λ us. z ∷ us) both.0, both.1)

-- what it took in from the end of a list at once, it took in one after the other
pub all_taken : {T : Type 0} (count : ℕ) (n n' : LeafState T) (old new : List T) → AreMoved (min count (min (leaf_spaces n) (length old))) old new (λ xs. n' ≡ leaf_took_all n xs) → IsTakenOff count (leaf_spaces n) old new (λ xs. Leads (IsItemTaken leaf_machine) n xs n')
all_taken {T} count n n' old new moved before xs all len fits =
    let long : length old ≡ length before + count = ap length all ∙ (length-append before (reverse xs) ∙ ap (λ k. length before + k) (length-reverse xs ∙ len)) in
    let as_many : length moved.0 ≡ length xs = moved.1 ∙ (all_fit count (leaf_spaces n) (length old) (length before) fits long ∙ sym len) in
    let same = same_end new before moved.0 xs (sym moved.2 ∙ all) as_many in
    (leaf_run xs n n' (within (length xs) count (leaf_spaces n) len fits) (moved.3 ∙ ap (leaf_took_all n) same.0), same.1)
  where
    within : (a c d : ℕ) → a ≡ c → c ≤ d → a ≤ d
    within a c d e l = omega (arith, e, l)

-- ---- items that it gives

-- those that it has held longest come out of it, so many as there are
pub all_out : {T : Type 0} (m : Meaning T) (k : ℕ) (q : List T) (n new : LeafState T) → n.queue ≡ q → IsMember (member_of n) → new ≡ with_queue n (drop k q) → ArePopped (IsOut leaf_machine m) n (take k q) new
all_out m zero q n new holds held is = is ∙ ap (with_queue n) (sym holds)
all_out m (suc k) [] n new holds held is = is ∙ ap (with_queue n) (sym holds)
all_out {T} m (suc k) (x ∷ q) n new holds held is =
    let here : with_queue n (x ∷ q) ≡ n = ap (with_queue n) (sym holds) in
    let there : IsMember (member_of (with_queue n (x ∷ q))) = subst (λ l. IsMember (member_of (with_queue n l))) holds held in
    let out = first_out m n x q there in
    let P : LeafState T → Type 0 = λ s. IsOut leaf_machine m s x (with_queue n q) in
    (with_queue n q, subst P here (out.0, out.1, refl), all_out m k q (with_queue n q) new refl (still_member n x q there) is)

-- so do the copies of them, once they are gone
pub given_all : {T : Type 0} (m : Meaning T) (k : ℕ) (n : LeafState T) (old items : List T) → old ≡ [] → items ≡ old ++ take k n.queue → IsMember (member_of n) →
    (new : LeafState T) → new ≡ with_queue n (drop k n.queue) → ArePopped (IsOut leaf_machine m) n items new
given_all {T} m k n old items none is held new gone =
    let all : take k n.queue ≡ items = sym (is ∙ ap (λ l. l ++ take k n.queue) none) in
    subst (λ l. ArePopped (IsOut leaf_machine m) n l new) all (all_out m k n.queue n new refl held gone)
