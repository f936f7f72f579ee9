-- What the calls of a zip do, from the state in which the code found it.
use Rattle.std.proofs.lemmas.List.{length-set}
use Rattle.std.proofs.lemmas.Bool.Decides.{nat_tests}
use Rattle.std.proofs.lemmas.Bool.{and_parts}
use Rattle.std.proofs.Common.{◌≡◌, ℕ, ◌<◌, ◌≤◌, ◌^◌, ◌&&◌, true, nat_lt, zero, suc, List, [], ◌∷◌, slice_index_or, slice_set, Option, Some, None, IfSome, IfNone, option_map, inr, refl, ap, sym, ◌∙◌, subst, arith}
use Rattle.rsx_sources.specs.Prelude.{Note, Nothing, Picks, Ended, Done, Signal, Next, Meaning, Stream, ended_by, signal_then, CountsIn, CountsStep, TakesIn, Keeps, front_of, IsResidualOf, IsSteppedOut}
use Rattle.rsx_queued.specs.declared.input.QueuedInput.{QueuedInput}
use Rattle.rsx_queued.specs.declared.output.Output.{Output}
use Rattle.rsx_queued.specs.declared.output.Output.TheVariants.{Empty, Waiting}
use Rattle.rsx_queued.specs.Prelude.{with_signal, is_empty, has_ending, is_over, output_then}
use Rattle.rsx_values.specs.Zip.{heads, zip}
use Rattle.rsx_combining.specs.Inputs.{lefts, is_some_input, all_have_items, queued, all_shortened, IsNextRow}
use Rattle.rsx_combining.specs.Zip.{ZipState, recorded_ending, behind_ending, zip_of, zip_comes_out, zip_waiting, zip_takes, zip_with_signal, zip_picks, zip_rows, IsZipRow, zip_popped, zip_recording, zip_recorded, zip_ended, zip_done, IsZipCounted}
use Rattle.rsx_queued.proofs.Changed.{IsPut, is_put, put_done, put_ends}
use Rattle.rsx_queued.proofs.Outputs.{empty_is}
use Rattle.rsx_combining.proofs.Filled.{put_lefts, put_counted, set_with}
use Rattle.rsx_combining.proofs.Zips.{row_made, row_counts, rest_out}

-- ---- a signal comes in

-- the state after the input at place i, which was `a`, became `b`
abbrev with_input : {T : Type 0} → ZipState T → ℕ → QueuedInput T → ZipState T
with_input n i b = record { inputs = slice_set n.inputs i b; output = n.output; chosen = n.chosen }

signal_at : {T : Type 0} (m : Meaning T) (n : ZipState T) (i : ℕ) (s : Signal T) (a b : QueuedInput T) → IsPut n.inputs i s a b → TakesIn (zip_comes_out m) n i s (with_input n i b)
signal_at m n i s a b p inc further = ap (λ l. recorded_ending further (λ o. output_then n.output (zip m.row_of o l) (behind_ending o))) (put_lefts n.inputs i s a b p inc)

counts_at : {T : Type 0} (n : ZipState T) (i : ℕ) (s : Signal T) (a b : QueuedInput T) → IsPut n.inputs i s a b → CountsIn IsZipCounted zip_ended zip_done n i s (with_input n i b)
counts_at {T = T} n i s a b p =
    record {
      stays_ended = λ e. e;
      counts = λ e taken sent c. record {
        unchosen = c.unchosen;
        goes_on = c.goes_on;
        some_input = some_set n.inputs i b c.some_input;
        few = let P : ℕ → Type 0 = λ k. k ≤ 2 ^ 32 in subst P (sym (length-set n.inputs i b)) c.few;
        counts = put_counted n.inputs i s a b taken p c.counts;
      };
      stays_done = λ j d. put_done n.inputs i s a b p j d;
      is_done = λ e d. put_ends n.inputs i s a b p d;
    }
  where
    some_set : {T : Type 0} (qs : List (QueuedInput T)) (i : ℕ) (b : QueuedInput T) → is_some_input qs ≡ true → is_some_input (slice_set qs i b) ≡ true
    some_set [] i b e = e
    some_set (q ∷ qs) i b e = first i
      where
        first : (i : ℕ) → is_some_input (slice_set (q ∷ qs) i b) ≡ true
        first zero = refl
        first (suc i) = refl

pub signal_in : {T : Type 0} (m : Meaning T) (start old : ZipState T) (i : ℕ) (s : Signal T) (a b : QueuedInput T) → start ≡ old → zip_takes old i (front_of s) ≡ true → a ≡ slice_index_or start.inputs i a → b ≡ with_signal a s →
    TakesIn (zip_comes_out m) old i s (with_input start i b)
signal_in {T} m start old i s a b same e was put =
    let P : ZipState T → Type 0 = λ n. TakesIn (zip_comes_out m) n i s (with_input start i b) in
    subst P same (signal_at m start i s a b (is_put start.inputs i s a b (ap (λ n. zip_takes n i (front_of s)) same ∙ e) was put))

pub signal_counts : {T : Type 0} (start old : ZipState T) (i : ℕ) (s : Signal T) (a b : QueuedInput T) → start ≡ old → zip_takes old i (front_of s) ≡ true → a ≡ slice_index_or start.inputs i a → b ≡ with_signal a s →
    CountsIn IsZipCounted zip_ended zip_done old i s (with_input start i b)
signal_counts {T} start old i s a b same e was put =
    let P : ZipState T → Type 0 = λ n. CountsIn IsZipCounted zip_ended zip_done n i s (with_input start i b) in
    subst P same (counts_at start i s a b (is_put start.inputs i s a b (ap (λ n. zip_takes n i (front_of s)) same ∙ e) was put))

pub signal_made : {T : Type 0} (start old : ZipState T) (i : ℕ) (s : Signal T) (a b : QueuedInput T) → start ≡ old → a ≡ slice_index_or start.inputs i a → b ≡ with_signal a s → with_input start i b ≡ zip_with_signal old i s
signal_made start old i s a b same was put =
    ap (λ qs. record { inputs = qs; output = start.output; chosen = start.chosen }) (set_with start.inputs i s a b was put) ∙ ap (λ n. zip_with_signal n i s) same

-- ---- a row is made

-- the state after a row of these inputs was put out
abbrev with_row : {T : Type 0} → ZipState T → List (QueuedInput T) → Output T → ZipState T
with_row n qs out = record { inputs = qs; output = out; chosen = n.chosen }

-- what the code did to make the row y
pub record IsRowMade {T : Type 0} (m : Meaning T) (start old : ZipState T) (asked sent : ℕ) (qs : List (QueuedInput T)) (out : Output T) (y : T) : Type 0 where
  pub same : start ≡ old
  pub enabled : zip_rows old asked sent ≡ true
  pub row : y ≡ m.row_of (heads (queued start.inputs))
  pub shorter : qs ≡ all_shortened start.inputs
  pub put : out ≡ Waiting (Next y)

record CanMake {T : Type 0} (n : ZipState T) : Type 0 where
  pub empty : n.output ≡ Empty
  pub some_input : is_some_input n.inputs ≡ true
  pub items : all_have_items n.inputs ≡ true

can_make : {T : Type 0} (n : ZipState T) (asked sent : ℕ) → zip_rows n asked sent ≡ true → CanMake n
can_make n asked sent e =
    let free = (and_parts (is_empty n.output && nat_lt sent asked) (is_some_input n.inputs && all_have_items n.inputs) e).0 in
    let all = (and_parts (is_empty n.output && nat_lt sent asked) (is_some_input n.inputs && all_have_items n.inputs) e).1 in
    record {
      empty = empty_is n.output (and_parts (is_empty n.output) (nat_lt sent asked) free).0;
      some_input = (and_parts (is_some_input n.inputs) (all_have_items n.inputs) all).0;
      items = (and_parts (is_some_input n.inputs) (all_have_items n.inputs) all).1;
    }

made_at : {T : Type 0} (m : Meaning T) (n : ZipState T) (y : T) → CanMake n → y ≡ m.row_of (heads (queued n.inputs)) → Keeps (zip_comes_out m) n (with_row n (all_shortened n.inputs) (Waiting (Next y)))
made_at m n y c is inc further =
    row_made m n.inputs y c.some_input c.items is (inc.first ∷ inc.others) further
    ∙ ap (λ out. zip_of m out n.inputs (inc.first ∷ inc.others) further) (sym c.empty)

pub row_keeps : {T : Type 0} (m : Meaning T) (start old : ZipState T) (asked sent : ℕ) (qs : List (QueuedInput T)) (out : Output T) (y : T) → IsRowMade m start old asked sent qs out y → Keeps (zip_comes_out m) old (with_row start qs out)
row_keeps {T} m start old asked sent qs out y p =
    let can = can_make start asked sent (ap (λ n. zip_rows n asked sent) p.same ∙ p.enabled) in
    let P : ZipState T → Type 0 = λ n. Keeps (zip_comes_out m) n (with_row start qs out) in
    let Q : List (QueuedInput T) → Type 0 = λ l. Keeps (zip_comes_out m) start (with_row start l out) in
    let R : Output T → Type 0 = λ o. Keeps (zip_comes_out m) start (with_row start (all_shortened start.inputs) o) in
    subst P p.same (subst Q (sym p.shorter) (subst R (sym p.put) (made_at m start y can p.row)))

pub row_rowed : {T : Type 0} (m : Meaning T) (start old : ZipState T) (asked sent : ℕ) (qs : List (QueuedInput T)) (out : Output T) (y : T) → IsRowMade m start old asked sent qs out y → IsZipRow old asked sent (with_row start qs out)
row_rowed m start old asked sent qs out y p = record {
  row = y;
  inputs = p.shorter ∙ ap (λ n. all_shortened n.inputs) p.same;
  output = p.put;
  chosen = ap (λ n. n.chosen) p.same;
}

pub row_steps : {T : Type 0} (m : Meaning T) (start old : ZipState T) (asked sent : ℕ) (qs : List (QueuedInput T)) (out : Output T) (y : T) → IsRowMade m start old asked sent qs out y → CountsStep IsZipCounted zip_ended zip_done old (with_row start qs out)
row_steps {T} m start old asked sent qs out y p =
    let can = can_make start asked sent (ap (λ n. zip_rows n asked sent) p.same ∙ p.enabled) in
    let P : ZipState T → Type 0 = λ n. CountsStep IsZipCounted zip_ended zip_done n (with_row start qs out) in
    let Q : List (QueuedInput T) → Type 0 = λ l. CountsStep IsZipCounted zip_ended zip_done start (with_row start l out) in
    let R : Output T → Type 0 = λ o. CountsStep IsZipCounted zip_ended zip_done start (with_row start (all_shortened start.inputs) o) in
    subst P p.same (subst Q (sym p.shorter) (subst R (sym p.put) (row_counts start y can.some_input can.items can.empty)))

-- an item that waits comes out before what else comes
row_leaves : {T : Type 0} (m : Meaning T) (out : Output T) (y : T) (qs : List (QueuedInput T)) (vs : List (Stream T)) (further : Note) → out ≡ Empty →
    zip_of m (Waiting (Next y)) qs vs further ≡ option_map (signal_then (Next y)) (zip_of m out qs vs further)
row_leaves m out y qs vs Nothing empty = refl
row_leaves m out y qs vs (Picks cs) empty = refl
row_leaves m out y qs vs (Ended o) empty = rw empty refl

-- the row went out at once
pub row_out : {T : Type 0} (m : Meaning T) (start old : ZipState T) (asked sent : ℕ) (qs : List (QueuedInput T)) (y : T) → IsRowMade m start old asked sent qs (Waiting (Next y)) y →
    IsSteppedOut (zip_comes_out m) (zip_waiting m) zip_picks zip_rows IsZipRow zip_popped zip_recording zip_recorded IsZipCounted zip_ended zip_done old asked sent (Some y) (with_row start qs start.output)
row_out {T} m start old asked sent qs y p =
    let empty : start.output ≡ Empty = ap (λ n. n.output) p.same ∙ (can_make old asked sent p.enabled).empty in (
      with_row start qs (Waiting (Next y)),
      inr (record {
        enabled = p.enabled;
        row = row_rowed m start old asked sent qs (Waiting (Next y)) y p;
        value = row_keeps m start old asked sent qs (Waiting (Next y)) y p;
        notes = ap (λ n. Ended n.chosen) p.same;
        counts = row_steps m start old asked sent qs (Waiting (Next y)) y p;
      }),
      record {
        waited = refl;
        popped_out = ((refl, empty), refl, refl);
        value = λ inc further. row_leaves m start.output y qs (inc.first ∷ inc.others) further empty;
        notes = refl;
        counts = (ap has_ending empty, (λ taken n h. record { unchosen = h.unchosen; goes_on = ap is_over empty; some_input = h.some_input; few = h.few; counts = h.counts }), λ j d. d);
      },
    )

-- a row went out at once, where one could be made of what the inputs were; else the node is as it was
pub row_or_none : {T : Type 0} (m : Meaning T) (start old : ZipState T) (asked sent : ℕ) (o : Option T) (was new qs : List (QueuedInput T)) → start ≡ old → is_empty start.output ≡ true → sent < asked → was ≡ start.inputs → qs ≡ new →
    IfSome o (λ y. IsNextRow m was y new) → IfNone o (new ≡ was) →
    IsSteppedOut (zip_comes_out m) (zip_waiting m) zip_picks zip_rows IsZipRow zip_popped zip_recording zip_recorded IsZipCounted zip_ended zip_done old asked sent o (with_row start qs start.output)
row_or_none m start old asked sent None was new qs same free more is after row none =
    ap (λ l. with_row start l start.output) (after ∙ none ∙ is) ∙ same
row_or_none {T} m start old asked sent (Some y) was new qs same free more is after row none =
    let P : List (QueuedInput T) → Type 0 = λ l. IsNextRow m l y new in
    let there : IsNextRow m start.inputs y new = subst P is row in
    let less : nat_lt sent asked ≡ true = grind (arith, nat_tests, more) in
    let enabled : zip_rows start asked sent ≡ true = rw (free, less, there.some_input, there.items) refl in
    row_out m start old asked sent qs y (record {
      same = same;
      enabled = sym (ap (λ n. zip_rows n asked sent) same) ∙ enabled;
      row = there.gives;
      shorter = after ∙ there.taken;
      put = refl;
    })

-- ---- the rest

pub residual_of : {T : Type 0} (m : Meaning T) (start old : ZipState T) (inboxes vs : List (Stream T)) (o : Option (Stream T)) (rest v : Stream T) → start ≡ old →
    o ≡ zip m.row_of None (lefts start.inputs vs) → o ≡ Some rest → output_then start.output (Some rest) (Some (ended_by Done)) ≡ Some v →
    IsResidualOf (zip_comes_out m) zip_recorded (λ n. None) old inboxes vs v
residual_of {T} m start old inboxes vs o rest v same is some gives =
    let P : ZipState T → Type 0 = λ n. IsResidualOf (zip_comes_out m) zip_recorded (λ n. None) n inboxes vs v in
    subst P same (λ hubs further behind none. rest_out m start.output start.inputs start.chosen vs rest v (sym some ∙ is) gives hubs further none)
