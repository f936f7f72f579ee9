-- How many items a concat got before the input whose turn it is, and at that.
use Rattle.std.proofs.Common.{◌≡◌, ℕ, zero, suc, ◌+◌, ◌≤◌, ◌&&◌, min, Bool, true, false, nat_eq, List, [], ◌∷◌, slice_set, slice_get, Option, Some, None, refl, ap, sym, ◌∙◌, subst, arith}
use Rattle.std.proofs.Math.ListN.{replicate}
use Rattle.std.proofs.lemmas.Bool.Decides.{nat_tests}
use Rattle.rsx_sources.specs.Prelude.{Cause, Ending, Open, Done, Failed, Next, Complete, Error, CountsIn, one_more}
use Rattle.rsx_demand.specs.Demand.{saturating_total}
use Rattle.rsx_demand.specs.declared.TheConstants.{UNBOUNDED}
use Rattle.rsx_sources.specs.declared.machine.Front.{Front}
use Rattle.rsx_sources.specs.declared.machine.Front.TheVariants.{Item}
use Rattle.rsx_queued.specs.declared.output.Output.TheVariants.{Empty, Waiting}
use Rattle.rsx_queued.specs.Output.{is_empty, is_over, has_ending}
use Rattle.rsx_queued.proofs.Outputs.{empty_is, not_ended}
use Rattle.rsx_merging.specs.declared.concat_node.ConcatNode.{ConcatNode}
use Rattle.rsx_merging.specs.Concat.{concat_takes, concat_ended, concat_done, has_ended, is_running, takes_in_turn, turn, waits, ending_out, earlier_after, current_after, AreZero, IsSplit, IsInTurn}

-- one more at the input whose turn it is
split_more : (es : List Ending) (cs : List ℕ) (e k : ℕ) → IsSplit es cs e k → IsSplit es (one_more (turn es) cs) e (k + 1)
split_more [] cs e k h = absurd h
split_more (Open ∷ es) [] e k h = absurd h
split_more (Done ∷ es) [] e k h = absurd h
split_more (Failed f ∷ es) [] e k h = absurd h
split_more (Open ∷ es) (c ∷ cs) e k h = (h.0, ap (λ n. n + 1) h.1, h.2)
split_more (Done ∷ es) (c ∷ cs) e k h = (h.0, h.1, split_more es cs h.0 k h.2)
split_more (Failed f ∷ es) (c ∷ cs) e k h = absurd h

-- another input has ended
zero_set : (es : List Ending) (cs : List ℕ) (i : ℕ) (x : Ending) → AreZero es cs → AreZero (slice_set es i x) cs
zero_set [] [] i x h = tt
zero_set [] (c ∷ cs) i x h = absurd h
zero_set (e ∷ es) [] i x h = absurd h
zero_set (e ∷ es) (c ∷ cs) zero x h = h
zero_set (e ∷ es) (c ∷ cs) (suc i) x h = (h.0, zero_set es cs i x h.1)

split_other : (es : List Ending) (cs : List ℕ) (e k i : ℕ) (x : Ending) → IsSplit es cs e k → slice_get es i ≡ Some Open → (i ≡ turn es → ⊥) → IsSplit (slice_set es i x) cs e k
split_other [] cs e k i x h o n = absurd h
split_other (Open ∷ es) [] e k i x h o n = absurd h
split_other (Done ∷ es) [] e k i x h o n = absurd h
split_other (Failed f ∷ es) [] e k i x h o n = absurd h
split_other (Open ∷ es) (c ∷ cs) e k zero x h o n = absurd (n refl)
split_other (Open ∷ es) (c ∷ cs) e k (suc i) x h o n = (h.0, h.1, zero_set es cs i x h.2)
split_other (Done ∷ es) (c ∷ cs) e k zero x h o n = cc
split_other (Done ∷ es) (c ∷ cs) e k (suc i) x h o n = (h.0, h.1, split_other es cs h.0 k i x h.2 o (λ same. n (ap suc same)))
split_other (Failed f ∷ es) (c ∷ cs) e k i x h o n = absurd h

-- the turn goes to the next input that is open
zero_split : (es : List Ending) (cs : List ℕ) → AreZero es cs → slice_get es (turn es) ≡ Some Open → IsSplit es cs 0 0
zero_split [] cs h o = cc
zero_split (e ∷ es) [] h o = absurd h
zero_split (Open ∷ es) (c ∷ cs) h o = (refl, sym h.0, h.1)
zero_split (Done ∷ es) (c ∷ cs) h o = (0, (let z : c ≡ 0 = h.0 in omega arith), zero_split es cs h.1 o)
zero_split (Failed f ∷ es) (c ∷ cs) h o = cc

split_next : (es : List Ending) (cs : List ℕ) (e k : ℕ) → IsSplit es cs e k → slice_get (slice_set es (turn es) Done) (turn (slice_set es (turn es) Done)) ≡ Some Open → IsSplit (slice_set es (turn es) Done) cs (e + k) 0
split_next [] cs e k h o = absurd h
split_next (Open ∷ es) [] e k h o = absurd h
split_next (Done ∷ es) [] e k h o = absurd h
split_next (Failed f ∷ es) [] e k h o = absurd h
split_next (Open ∷ es) (c ∷ cs) e k h o = let a : e ≡ 0 = h.0 in let b : k ≡ c = h.1 in (0, omega arith, zero_split es cs h.2 o)
split_next (Done ∷ es) (c ∷ cs) e k h o = let a : e ≡ c + h.0 = h.1 in (h.0 + k, omega arith, split_next es cs h.0 k h.2 o)
split_next (Failed f ∷ es) (c ∷ cs) e k h o = absurd h

-- where the endings put nothing out, the input whose turn it is is open
open_out : (T : Type 0) (es : List Ending) → has_ending (ending_out {T = T} es) ≡ false → slice_get es (turn es) ≡ Some Open
open_out T [] e = cc
open_out T (Open ∷ es) e = refl
open_out T (Done ∷ es) e = open_out T es e
open_out T (Failed c ∷ es) e = cc

not_over : (T : Type 0) (es : List Ending) → is_over (ending_out {T = T} es) ≡ false
not_over T [] = refl
not_over T (Open ∷ es) = refl
not_over T (Done ∷ es) = not_over T es
not_over T (Failed c ∷ es) = refl

none_waits : (T : Type 0) (es : List Ending) → waits (ending_out {T = T} es) ≡ 0
none_waits T [] = refl
none_waits T (Open ∷ es) = refl
none_waits T (Done ∷ es) = none_waits T es
none_waits T (Failed c ∷ es) = refl

-- a failure of the input whose turn it is is put out
failed_out : (T : Type 0) (es : List Ending) (c : Cause) → slice_get es (turn es) ≡ Some Open → has_ending (ending_out {T = T} (slice_set es (turn es) (Failed c))) ≡ true
failed_out T [] c o = cc
failed_out T (Open ∷ es) c o = refl
failed_out T (Done ∷ es) c o = failed_out T es c o
failed_out T (Failed f ∷ es) c o = cc

done_stays : (es : List Ending) (i j : ℕ) (x : Ending) → has_ended (Some x) ≡ true → has_ended (slice_get es j) ≡ true → has_ended (slice_get (slice_set es i x) j) ≡ true
done_stays [] i j x h d = d
done_stays (e ∷ es) zero zero x h d = h
done_stays (e ∷ es) zero (suc j) x h d = d
done_stays (e ∷ es) (suc i) zero x h d = d
done_stays (e ∷ es) (suc i) (suc j) x h d = done_stays es i j x h d

is_done : (es : List Ending) (i : ℕ) (x : Ending) → has_ended (Some x) ≡ true → has_ended (slice_get (slice_set es i x) i) ≡ true
is_done [] i x h = refl
is_done (e ∷ es) zero x h = h
is_done (e ∷ es) (suc i) x h = is_done es i x h

both : (b : Bool) → b ≡ true → b ≡ false → ⊥
both b x y = cc

is_equal : (a b : ℕ) → nat_eq a b ≡ true → a ≡ b
is_equal a b e = grind (arith, nat_tests)

is_other : (a b : ℕ) → nat_eq a b ≡ false → a ≡ b → ⊥
is_other a b e s = grind (arith, nat_tests)

-- ---- what a signal that can be taken says

and_left : (a b : Bool) → a && b ≡ true → a ≡ true
and_left true b e = refl
and_left false b e = e

and_right : (a b : Bool) → a && b ≡ true → b ≡ true
and_right true b e = e
and_right false b e = cc

open_is : (o : Option Ending) → is_running o ≡ true → o ≡ Some Open
open_is None e = cc
open_is (Some Open) e = refl
open_is (Some Done) e = cc
open_is (Some (Failed c)) e = cc

pub record IsTakeable {T : Type 0} (n : ConcatNode T) (i : ℕ) : Type 0 where
  pub empty : n.output ≡ Empty
  pub open_there : slice_get n.endings.items i ≡ Some Open

pub takeable : {T : Type 0} (n : ConcatNode T) (i : ℕ) (f : Front) → concat_takes n i f ≡ true → IsTakeable n i
takeable n i f e =
    let rest = and_right (is_empty n.output) (is_running (slice_get n.endings.items i) && takes_in_turn (nat_eq i (turn n.endings.items)) f) e in
    record {
      empty = empty_is n.output (and_left (is_empty n.output) (is_running (slice_get n.endings.items i) && takes_in_turn (nat_eq i (turn n.endings.items)) f) e);
      open_there = open_is (slice_get n.endings.items i) (and_left (is_running (slice_get n.endings.items i)) (takes_in_turn (nat_eq i (turn n.endings.items)) f) rest);
    }

pub its_turn : {T : Type 0} (n : ConcatNode T) (i : ℕ) → concat_takes n i Item ≡ true → i ≡ turn n.endings.items
its_turn n i e =
    is_equal i (turn n.endings.items)
    (and_right (is_running (slice_get n.endings.items i)) (nat_eq i (turn n.endings.items))
    (and_right (is_empty n.output) (is_running (slice_get n.endings.items i) && nat_eq i (turn n.endings.items)) e))

-- ---- an item was taken

pub item_counts : {T : Type 0} (old new : ConcatNode T) (i : ℕ) (x : T) → old.output ≡ Empty → new.output ≡ Waiting (Next x) → new.endings.items ≡ old.endings.items → new.earlier ≡ old.earlier → new.current ≡ saturating_total old.current 1 → i ≡ turn old.endings.items →
    CountsIn IsInTurn concat_ended concat_done old i (Next x) new
item_counts {T} old new i x empty put same early more mine = record {
  stays_ended = λ e. absurd (not_ended old.output empty e);
  counts = λ going taken sent h.
      let sum : sent + waits old.output ≡ h.before + h.mine = h.total in
      let was : waits old.output ≡ 0 = ap waits empty in
      let now : waits new.output ≡ 1 = ap waits put in
      let low : old.current ≡ min UNBOUNDED h.mine = h.current in
      record {
        not_over = ap is_over put;
        before = h.before;
        mine = h.mine + 1;
        split = rw (same, mine) (split_more old.endings.items taken h.before h.mine h.split);
        total = omega (arith, sum, was, now);
        earlier = early ∙ h.earlier;
        current = more ∙ omega (arith, low);
      };
  stays_done = λ j d. rw same d;
  is_done = λ going e. cc;
}

-- ---- an ending was taken

-- what the code did
pub record HasEnded {T : Type 0} (old : ConcatNode T) (i : ℕ) (x : Ending) (new : ConcatNode T) : Type 0 where
  pub empty : old.output ≡ Empty
  pub open_there : slice_get old.endings.items i ≡ Some Open
  pub endings : new.endings.items ≡ slice_set old.endings.items i x
  pub output : new.output ≡ ending_out (slice_set old.endings.items i x)
  pub earlier : new.earlier ≡ earlier_after old.endings.items i old.earlier old.current
  pub current : new.current ≡ current_after old.endings.items i old.current

-- another input has the turn
other_turn : {T : Type 0} (old new : ConcatNode T) (i : ℕ) (x : Ending) (taken : List ℕ) (sent : ℕ) → HasEnded old i x new → nat_eq i (turn old.endings.items) ≡ false → IsInTurn old taken sent → IsInTurn new taken sent
other_turn {T} old new i x taken sent k other h =
    let sum : sent + waits old.output ≡ h.before + h.mine = h.total in
    let was : waits old.output ≡ 0 = ap waits k.empty in
    let now : waits new.output ≡ 0 = ap waits k.output ∙ none_waits T (slice_set old.endings.items i x) in
    record {
      not_over = ap is_over k.output ∙ not_over T (slice_set old.endings.items i x);
      before = h.before;
      mine = h.mine;
      split = rw k.endings (split_other old.endings.items taken h.before h.mine i x h.split k.open_there (is_other i (turn old.endings.items) other));
      total = omega (arith, sum, was, now);
      earlier = k.earlier ∙ (rw other h.earlier);
      current = k.current ∙ (rw other h.current);
    }

-- the turn goes on
next_turn : {T : Type 0} (old new : ConcatNode T) (i : ℕ) (taken : List ℕ) (sent : ℕ) → HasEnded old i Done new → nat_eq i (turn old.endings.items) ≡ true → has_ending new.output ≡ false → IsInTurn old taken sent → IsInTurn new taken sent
next_turn {T} old new i taken sent k mine going h =
    let same : i ≡ turn old.endings.items = is_equal i (turn old.endings.items) mine in
    let at : slice_set old.endings.items i Done ≡ slice_set old.endings.items (turn old.endings.items) Done = ap (λ j. slice_set old.endings.items j Done) same in
    let sum : sent + waits old.output ≡ h.before + h.mine = h.total in
    let was : waits old.output ≡ 0 = ap waits k.empty in
    let now : waits new.output ≡ 0 = ap waits k.output ∙ none_waits T (slice_set old.endings.items i Done) in
    let low : old.earlier ≡ min UNBOUNDED h.before = h.earlier in
    let low_too : old.current ≡ min UNBOUNDED h.mine = h.current in
    let goes : has_ending (ending_out {T = T} (slice_set old.endings.items (turn old.endings.items) Done)) ≡ false = ap (λ l. has_ending (ending_out {T = T} l)) (sym at) ∙ ap has_ending (sym k.output) ∙ going in
    record {
      not_over = ap is_over k.output ∙ not_over T (slice_set old.endings.items i Done);
      before = h.before + h.mine;
      mine = 0;
      split = rw (k.endings, at) (split_next old.endings.items taken h.before h.mine h.split (open_out T (slice_set old.endings.items (turn old.endings.items) Done) goes));
      total = omega (arith, sum, was, now);
      earlier = k.earlier ∙ (rw mine (omega (arith, low, low_too)));
      current = k.current ∙ (rw mine refl);
    }

pub done_counts : {T : Type 0} (old new : ConcatNode T) (i : ℕ) → HasEnded old i Done new → CountsIn {T = T} IsInTurn concat_ended concat_done old i Complete new
done_counts {T} old new i k = record {
  stays_ended = λ e. absurd (not_ended old.output k.empty e);
  counts = λ going taken sent h. by_turn (nat_eq i (turn old.endings.items)) refl going taken sent h;
  stays_done = λ j d. rw k.endings (done_stays old.endings.items i j Done refl d);
  is_done = λ going e. rw k.endings (is_done old.endings.items i Done refl);
}
  where
    by_turn : (b : Bool) → nat_eq i (turn old.endings.items) ≡ b → has_ending new.output ≡ false → (taken : List ℕ) (sent : ℕ) → IsInTurn old taken sent → IsInTurn new taken sent
    by_turn true e going taken sent h = next_turn old new i taken sent k e going h
    by_turn false e going taken sent h = other_turn old new i Done taken sent k e h

pub failure_counts : {T : Type 0} (old new : ConcatNode T) (i : ℕ) (c : Cause) → HasEnded old i (Failed c) new → CountsIn {T = T} IsInTurn concat_ended concat_done old i (Error c) new
failure_counts {T} old new i c k = record {
  stays_ended = λ e. absurd (not_ended old.output k.empty e);
  counts = λ going taken sent h. by_turn (nat_eq i (turn old.endings.items)) refl going taken sent h;
  stays_done = λ j d. rw k.endings (done_stays old.endings.items i j (Failed c) refl d);
  is_done = λ going e. rw k.endings (is_done old.endings.items i (Failed c) refl);
}
  where
    ends : nat_eq i (turn old.endings.items) ≡ true → has_ending new.output ≡ true
    ends e =
        let same : i ≡ turn old.endings.items = is_equal i (turn old.endings.items) e in
        let P : ℕ → Type 0 = λ j. slice_get old.endings.items j ≡ Some Open in
        ap has_ending k.output ∙ (ap (λ j. has_ending (ending_out {T = T} (slice_set old.endings.items j (Failed c)))) same ∙ failed_out T old.endings.items c (subst P same k.open_there))

    by_turn : (b : Bool) → nat_eq i (turn old.endings.items) ≡ b → has_ending new.output ≡ false → (taken : List ℕ) (sent : ℕ) → IsInTurn old taken sent → IsInTurn new taken sent
    by_turn true e going taken sent h = absurd (both (has_ending new.output) (ends e) going)
    by_turn false e going taken sent h = other_turn old new i (Failed c) taken sent k e h

-- ---- at the start

fresh_zero : (n : ℕ) → AreZero (replicate n Open) (replicate n 0)
fresh_zero zero = tt
fresh_zero (suc n) = (refl, fresh_zero n)

fresh_split : (n : ℕ) → 1 ≤ n → IsSplit (replicate n Open) (replicate n 0) 0 0
fresh_split zero h = absurd (omega arith)
fresh_split (suc n) h = (refl, refl, fresh_zero n)

pub fresh_turn : {T : Type 0} (node : ConcatNode T) (n : ℕ) → node.endings.items ≡ replicate n Open → node.output ≡ ending_out node.endings.items → node.earlier ≡ 0 → node.current ≡ 0 → 1 ≤ n → IsInTurn node (replicate n 0) 0
fresh_turn {T} node n all put early mine some =
    let none : waits node.output ≡ 0 = ap waits put ∙ none_waits T node.endings.items in
    record {
      not_over = ap is_over put ∙ not_over T node.endings.items;
      before = 0;
      mine = 0;
      split = rw all (fresh_split n some);
      total = omega (arith, none);
      earlier = early;
      current = mine;
    }
