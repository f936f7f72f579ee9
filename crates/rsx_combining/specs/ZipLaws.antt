-- The laws of a zip as a node.
use Rattle.std.specs.Prelude.{◌≡◌, ℕ, suc, ◌<◌, ◌^◌, ◌⊎◌, true, false, nat_lt, List, [], ◌∷◌, ◌++◌, length, slice_get, Option, Some, None, refl}
use Rattle.std.specs.Option.{is_some}
use Rattle.std.proofs.Common.{inl, inr, sym, ap, ◌∙◌, arith}
use Rattle.std.proofs.lemmas.Bool.Decides.{nat_tests}
use Rattle.rsx_sources.specs.Prelude.{Note, Nothing, Picks, Ended, Signal, Next, Complete, Error, Meaning, unchosen, Stream, AreWithin, CanStep, IsHungry, ends_input, Incoming, incoming_of, StaysAlike}
use Rattle.rsx_demand.specs.declared.TheConstants.{UNBOUNDED}
use Rattle.rsx_queued.specs.declared.input.QueuedInput.{QueuedInput}
use Rattle.rsx_queued.specs.declared.output.Output.{Output}
use Rattle.rsx_queued.specs.Prelude.{next_signal, next_signal_at, done_at, ended_out, offers_ending, ending_there, empty_of, settled, same_row, still_ended, is_empty, has_ending, output_then}
use Rattle.rsx_queued.proofs.Wanting.{IsWanting, wants_behind, first_wants}
use Rattle.rsx_values.specs.Zip.{zip}
use Rattle.rsx_combining.specs.Inputs.{or_nothing, left, lefts, is_item, ending_only, all_have_items, AllCounted}
use Rattle.rsx_combining.specs.Zip.{ZipState, recorded_ending, behind_ending, zip_of, zip_comes_out, zip_waiting, zip_takes, zip_picks, zip_rows, zip_recorded, zip_ended, zip_done, IsZipCounted, zip_wanted, zip_popped, zip_step_allocates}

-- what leaves it leaves the inputs as they are
pub zip_popped_alike : {T : Type 0} (old : ZipState T) (s : Signal T) (new : ZipState T) → zip_popped old s new → StaysAlike (λ n. None) (λ n. false) (λ a n. false) (λ a n. false) zip_step_allocates old new
zip_popped_alike old s new h = (refl, (refl, λ a. (refl, refl, refl)))

-- ---- what comes in no longer matters

of_drops : {T : Type 0} (m : Meaning T) (out : Output T) (qs : List (QueuedInput T)) (vs ws : List (Stream T)) (further : Note) → has_ending out ≡ true → zip_of m out qs vs further ≡ zip_of m out qs ws further
of_drops m out qs vs ws Nothing e = refl
of_drops m out qs vs ws (Picks cs) e = refl
of_drops m out qs vs ws (Ended o) e = ended_out out (zip m.row_of o (lefts qs vs)) (zip m.row_of o (lefts qs ws)) (behind_ending o) e

pub zip_drops : {T : Type 0} (m : Meaning T) (n : ZipState T) (inc other : Incoming T) (further : Note) → zip_ended n ≡ true → zip_comes_out m n inc further ≡ zip_comes_out m n other further
zip_drops m n inc other further e = of_drops m n.output n.inputs (inc.first ∷ inc.others) (other.first ∷ other.others) further e

pub zip_ends : {T : Type 0} (m : Meaning T) (n : ZipState T) (s : Signal T) (inc other : Incoming T) (further : Note) → zip_waiting m n ≡ Some s → ends_input s ≡ true → zip_comes_out m n inc further ≡ zip_comes_out m n other further
zip_ends m n s inc other further w e = zip_drops m n inc other further (offers_ending n.output s w e)

-- ---- nor does what comes in behind an ending

done_lefts : {T : Type 0} (qs : List (QueuedInput T)) (before after : List (Stream T)) (v w : Stream T) → done_at (slice_get qs (length before)) ≡ true → lefts qs (before ++ v ∷ after) ≡ lefts qs (before ++ w ∷ after)
done_lefts [] before after v w d = refl
done_lefts (q ∷ qs) [] after v w d = ap (λ x. x ∷ lefts qs after) (ap or_nothing (still_ended q.tail q.queue.items v w d))
done_lefts (q ∷ qs) (u ∷ before) after v w d = ap (λ l. left q u ∷ l) (done_lefts qs before after v w d)

pub zip_done_drops : {T : Type 0} (m : Meaning T) (n : ZipState T) (hubs before after : List (Stream T)) (v w : Stream T) (further : Note) → zip_done n (length before) ≡ true →
    zip_comes_out m n (incoming_of hubs (before ++ v ∷ after)) further ≡ zip_comes_out m n (incoming_of hubs (before ++ w ∷ after)) further
zip_done_drops m n hubs before after v w further d =
    ap (λ l. zip_of m n.output n.inputs l further) (same_row hubs before after v)
    ∙ ap (λ l. recorded_ending further (λ o. output_then n.output (zip m.row_of o l) (behind_ending o))) (done_lefts n.inputs before after v w d)
    ∙ ap (λ l. zip_of m n.output n.inputs l further) (sym (same_row hubs before after w))

-- ---- what comes out where nothing more is chosen

pub zip_settles : {T : Type 0} (m : Meaning T) (n : ZipState T) (inc : Incoming T) → (v : Stream T) × (zip_comes_out m n inc (unchosen (zip_recorded n)) ≡ Some v)
zip_settles m n inc = settled n.output _ _

-- ---- the ending that it put out waits, and so it is offered

pub zip_ending_waits : {T : Type 0} (m : Meaning T) (n : ZipState T) (asked sent : ℕ) → zip_ended n ≡ true → zip_waiting m n ≡ None → sent < asked → CanStep zip_picks zip_rows n asked sent
zip_ending_waits m n asked sent e none more = absurd (ending_there n.output e none)

-- ---- where nothing waits, a row or an ending can be taken, or more is wanted

-- an input at which an ending is next
record CanEnd {T : Type 0} (qs : List (QueuedInput T)) : Type 0 where
  pub i : ℕ
  pub within : i < length qs
  pub ending : is_some (ending_only (next_signal_at (slice_get qs i))) ≡ true

abbrev Scanned : {T : Type 0} → List (QueuedInput T) → List ℕ → Type 0
Scanned qs taken = (all_have_items qs ≡ true) ⊎ (CanEnd qs ⊎ IsWanting qs taken)

behind : {T : Type 0} (q : QueuedInput T) (qs : List (QueuedInput T)) (c : ℕ) (cs : List ℕ) → is_item (next_signal q) ≡ true → Scanned qs cs → Scanned (q ∷ qs) (c ∷ cs)
behind q qs c cs e (inl all) = inl (rw e all)
behind q qs c cs e (inr (inl p)) = inr (inl (record { i = suc p.i; within = let lt = p.within in omega arith; ending = p.ending }))
behind q qs c cs e (inr (inr p)) = inr (inr (wants_behind q qs c cs p))

scan_first : {T : Type 0} (q : QueuedInput T) (qs : List (QueuedInput T)) (c : ℕ) (cs : List ℕ) (o : Option (Signal T)) → next_signal q ≡ o → AllCounted (q ∷ qs) (c ∷ cs) → c < UNBOUNDED → Scanned qs cs → Scanned (q ∷ qs) (c ∷ cs)
scan_first q qs c cs None e h lt r = inr (inr (first_wants q qs c cs e h.0 h.1 lt))
scan_first q qs c cs (Some (Next x)) e h lt r = behind q qs c cs (ap is_item e) r
scan_first q qs c cs (Some Complete) e h lt r = inr (inl (record { i = 0; within = omega arith; ending = ap (λ o. is_some (ending_only o)) e }))
scan_first q qs c cs (Some (Error f)) e h lt r = inr (inl (record { i = 0; within = omega arith; ending = ap (λ o. is_some (ending_only o)) e }))

scan : {T : Type 0} (qs : List (QueuedInput T)) (cs : List ℕ) → AllCounted qs cs → AreWithin cs → Scanned qs cs
scan [] [] h w = inl refl
scan [] (c ∷ cs) h w = absurd h
scan (q ∷ qs) [] h w = absurd h
scan (q ∷ qs) (c ∷ cs) h w = scan_first q qs c cs (next_signal q) refl h w.0 (scan qs cs h.2 w.1)

less_is : (a b : ℕ) → a < b → nat_lt a b ≡ true
less_is a b lt = grind (arith, nat_tests)

pub zip_hungry : {T : Type 0} (m : Meaning T) (n : ZipState T) (taken : List ℕ) (asked sent : ℕ) → zip_ended n ≡ false → IsZipCounted n taken sent → zip_waiting m n ≡ None → sent < asked → AreWithin taken →
    IsHungry zip_takes zip_picks zip_rows zip_done zip_wanted (λ n. None) n taken asked sent
zip_hungry m n taken asked sent e h none more within = of (scan n.inputs taken h.counts within)
  where
    free : is_empty n.output ≡ true
    free = empty_of n.output none h.goes_on

    of : Scanned n.inputs taken → IsHungry zip_takes zip_picks zip_rows zip_done zip_wanted (λ n. None) n taken asked sent
    of (inl all) = inr (inl (rw (free, less_is sent asked more, h.some_input, all) refl))
    of (inr (inl p)) = let lt = p.within in let few = h.few in inl (p.i, omega arith, rw (free, h.unchosen, less_is p.i (2 ^ 32) (omega arith), p.ending) refl)
    of (inr (inr p)) = inr (inr (inl (record { i = p.i; c = p.c; at = p.at; open_still = p.open_still; takes_any = p.takes_any; wants = p.wants })))
