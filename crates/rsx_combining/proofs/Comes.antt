-- A signal comes in at an input of a combineLatest, and the rest.
use Rattle.std.proofs.lemmas.Bool.{and_parts}
use Rattle.std.proofs.lemmas.List.{length-set}
use Rattle.std.proofs.Common.{◌≡◌, ℕ, zero, suc, ◌<◌, Bool, true, false, List, [], ◌∷◌, length, slice_index_or, slice_set, slice_get, Option, Some, None, inl, refl, ap, sym, ◌∙◌, subst, arith, ◌++◌}
use Rattle.rsx_sources.specs.Prelude.{Note, Picks, Done, Signal, Next, Complete, Error, Meaning, Stream, ended_by, signal_then, CountsIn, CountsStep, Incoming, TakesIn, Records, incoming_of, front_of, IsResidualOf, IsSteppedOut, IsPickDone, IsItemOut}
use Rattle.rsx_values.specs.Prelude.{written, combine_until_stop, unless_chosen}
use Rattle.rsx_queued.specs.declared.input.QueuedInput.{QueuedInput}
use Rattle.rsx_queued.specs.declared.output.Output.{Output}
use Rattle.rsx_queued.specs.declared.output.Output.TheVariants.{Empty, Waiting}
use Rattle.rsx_queued.specs.Prelude.{still, with_signal, without, next_signal, next_signal_at, inputs_left, picked, has_ending, is_empty, is_over, output_then, IsOut}
use Rattle.rsx_queued.proofs.Changed.{IsPut, is_put, put_left, put_counted, put_not_gone, put_done, put_ends}
use Rattle.rsx_queued.proofs.Merged.{picks_compose}
use Rattle.rsx_queued.proofs.Outputs.{empty_is, item_leaves}
use Rattle.rsx_queued.proofs.Picks.{none_more, padded}
use Rattle.rsx_combining.specs.Latest.{LatestState, latest_of, latest_comes_out, latest_waiting, latest_takes, latest_with_signal, latest_popped, latest_recording, row_given, row_is_next, latest_with, made_out, may_pick, gives_row, latest_picks, latest_recorded, latest_ended, latest_done, IsLatestCounted, after_signal, after_pick}
use Rattle.rsx_combining.proofs.Chooses.{pick_records, pick_counts}
use Rattle.rsx_combining.proofs.Filled.{set_with}
use Rattle.rsx_combining.proofs.Gives.{no_row_given}
use Rattle.rsx_combining.proofs.Takes.{IsTaken, is_within, read_there, row_is_next_at, row_taken}

-- ---- a signal comes in

-- the state after the input at place i, which was `a`, became `b`
abbrev pub with_input : {T : Type 0} → LatestState T → ℕ → QueuedInput T → LatestState T
with_input n i b = record { inputs = slice_set n.inputs i b; latest = n.latest; output = n.output; choices = n.choices }

signal_at : {T : Type 0} (m : Meaning T) (n : LatestState T) (i : ℕ) (s : Signal T) (a b : QueuedInput T) → IsPut n.inputs i s a b → ((v : Stream T) → still b v ≡ still a (signal_then s v)) → TakesIn (latest_comes_out m) n i s (with_input n i b)
signal_at m n i s a b p value inc further =
    ap (λ is. picked further (λ cs. output_then n.output (combine_until_stop m.row_of n.latest cs is) (unless_chosen cs))) (put_left n.inputs i s a b p value inc)

pub signal_in : {T : Type 0} (m : Meaning T) (start old : LatestState T) (i : ℕ) (s : Signal T) (a b : QueuedInput T) → start ≡ old → latest_takes old i (front_of s) ≡ true → a ≡ slice_index_or start.inputs i a → b ≡ with_signal a s → ((v : Stream T) → still b v ≡ still a (signal_then s v)) →
    TakesIn (latest_comes_out m) old i s (with_input start i b)
signal_in {T} m start old i s a b same e was put value =
    let P : LatestState T → Type 0 = λ n. TakesIn (latest_comes_out m) n i s (with_input start i b) in
    subst P same (signal_at m start i s a b (is_put start.inputs i s a b (ap (λ n. latest_takes n i (front_of s)) same ∙ e) was put) value)

pub signal_made : {T : Type 0} (start old : LatestState T) (i : ℕ) (s : Signal T) (a b : QueuedInput T) → start ≡ old → a ≡ slice_index_or start.inputs i a → b ≡ with_signal a s → with_input start i b ≡ latest_with_signal old i s
signal_made start old i s a b same was put =
    ap (λ qs. record { inputs = qs; latest = start.latest; output = start.output; choices = start.choices }) (set_with start.inputs i s a b was put) ∙ ap (λ n. latest_with_signal n i s) same

-- ---- the counts

counts_at : {T : Type 0} (n : LatestState T) (i : ℕ) (s : Signal T) (a b : QueuedInput T) → IsPut n.inputs i s a b → CountsIn IsLatestCounted latest_ended latest_done n i s (with_input n i b)
counts_at {T} n i s a b p =
    record {
      stays_ended = λ e. e;
      counts = λ e taken sent c. record {
        goes_on = c.goes_on;
        some_left = put_not_gone n.inputs i s a b p;
        few = let few = c.few in let l = length-set n.inputs i b in omega (arith, l, few);
        counts = put_counted n.inputs i s a b taken p c.counts;
      };
      stays_done = λ j d. put_done n.inputs i s a b p j d;
      is_done = λ e d. put_ends n.inputs i s a b p d;
    }

pub signal_counts : {T : Type 0} (start old : LatestState T) (i : ℕ) (s : Signal T) (a b : QueuedInput T) → start ≡ old → latest_takes old i (front_of s) ≡ true → a ≡ slice_index_or start.inputs i a → b ≡ with_signal a s →
    CountsIn IsLatestCounted latest_ended latest_done old i s (with_input start i b)
signal_counts {T} start old i s a b same e was put =
    let P : LatestState T → Type 0 = λ n. CountsIn IsLatestCounted latest_ended latest_done n i s (with_input start i b) in
    subst P same (counts_at start i s a b (is_put start.inputs i s a b (ap (λ n. latest_takes n i (front_of s)) same ∙ e) was put))

-- ---- an input is picked

-- the same but for the choices
abbrev pub IsBut : {T : Type 0} → LatestState T → LatestState T → Type 0
IsBut a b = (a.inputs ≡ b.inputs) × (a.latest ≡ b.latest) × (a.output ≡ b.output)

-- what the code did to pick input i of `old`: it recorded that, and took the next signal
pub record IsPicked {T : Type 0} (m : Meaning T) (old noted new : LatestState T) (i asked sent : ℕ) (made : Option T) : Type 0 where
  pub enabled : latest_picks old i asked sent ≡ true
  pub but : IsBut noted old
  pub a : QueuedInput T
  pub was : a ≡ slice_index_or old.inputs i a
  pub row : made ≡ row_given m.row_of old.latest i (next_signal a)
  pub after : new ≡ after_pick noted i made

next_from : {T : Type 0} (qs : List (QueuedInput T)) (i : ℕ) (a : QueuedInput T) (s : Signal T) → next_signal_at (slice_get qs i) ≡ Some s → a ≡ slice_index_or qs i a → next_signal_at (slice_get qs i) ≡ next_signal a
next_from [] i a s e was = cc
next_from (q ∷ qs) zero a s e was = ap next_signal (sym was)
next_from (q ∷ qs) (suc i) a s e was = next_from qs i a s e was

some_next : {T : Type 0} (o : Option (Signal T)) (row : Bool) (asked sent : ℕ) → may_pick o row asked sent ≡ true → (s : Signal T) × (o ≡ Some s)
some_next None row asked sent e = cc
some_next (Some s) row asked sent e = (s, refl)

picks_at : {T : Type 0} (m : Meaning T) (old : LatestState T) (i : ℕ) (made : Option T) (o : Option (Signal T)) (s : Signal T) → old.output ≡ Empty → next_signal_at (slice_get old.inputs i) ≡ o → o ≡ Some s → made ≡ row_given m.row_of old.latest i o →
    Records (latest_comes_out m) old (Picks (i ∷ [])) (after_signal old i made o) × CountsStep IsLatestCounted latest_ended latest_done old (after_signal old i made o)
picks_at {T} m old i made o s empty next is row =
    let P : Option (Signal T) → Type 0 = λ z. Records (latest_comes_out m) old (Picks (i ∷ [])) (after_signal old i made z) × CountsStep IsLatestCounted latest_ended latest_done old (after_signal old i made z) in
    subst P (sym is) (pick_records m old i made s empty (next ∙ is) (row ∙ ap (row_given m.row_of old.latest i) is), pick_counts old i made s empty (next ∙ is))

-- what comes out doesn't depend on the choices made
same_value : {T : Type 0} (m : Meaning T) (a b : LatestState T) → IsBut a b → (inc : Incoming T) (further : Note) → latest_comes_out m a inc further ≡ latest_comes_out m b inc further
same_value m a b s inc further = rw (s.0, s.1, s.2) refl

but_after : {T : Type 0} (a b : LatestState T) (i : ℕ) (made : Option T) (o : Option (Signal T)) → IsBut a b → IsBut (after_signal a i made o) (after_signal b i made o)
but_after a b i made None s = (rw s.0 refl, s.1, s.2)
but_after a b i made (Some (Next x)) s = (rw s.0 refl, rw s.1 refl, rw s.2 refl)
but_after a b i made (Some Complete) s = (rw s.0 refl, s.1, rw (s.0, s.1, s.2) refl)
but_after a b i made (Some (Error c)) s = (rw s.0 refl, s.1, refl)

but_pick : {T : Type 0} (a b : LatestState T) (i : ℕ) (made : Option T) → IsBut a b → IsBut (after_pick a i made) (after_signal b i made (next_signal_at (slice_get b.inputs i)))
but_pick {T} a b i made s =
    let P : Option (Signal T) → Type 0 = λ o. IsBut (after_signal a i made o) (after_signal b i made (next_signal_at (slice_get b.inputs i))) in
    subst P (ap (λ qs. next_signal_at (slice_get qs i)) (sym s.0)) (but_after a b i made (next_signal_at (slice_get b.inputs i)) s)

counts_but : {T : Type 0} (old a b : LatestState T) → IsBut a b → CountsStep IsLatestCounted latest_ended latest_done old b → CountsStep IsLatestCounted latest_ended latest_done old a
counts_but old a b s c =
    record {
      stays_ended = λ e. rw s.2 (c.stays_ended e);
      counts = λ e taken sent h. let r = c.counts (rw s.2 at e) taken sent h in record {
        goes_on = rw s.2 r.goes_on;
        some_left = rw s.0 r.some_left;
        few = let few = r.few in let l = ap length s.0 in omega (arith, l, few);
        counts = rw s.0 r.counts;
      };
      stays_done = λ j d. rw s.0 (c.stays_done j d);
    }

both : {T : Type 0} (m : Meaning T) (old noted new : LatestState T) (i asked sent : ℕ) (made : Option T) → IsPicked m old noted new i asked sent made →
    Records (latest_comes_out m) old (Picks (i ∷ [])) new × CountsStep IsLatestCounted latest_ended latest_done old new
both {T} m old noted new i asked sent made p =
    let empty = empty_is old.output (and_parts (is_empty old.output) (may_pick (next_signal_at (slice_get old.inputs i)) (gives_row old.latest i) asked sent) p.enabled).0 in
    let s = some_next (next_signal_at (slice_get old.inputs i)) (gives_row old.latest i) asked sent (and_parts (is_empty old.output) (may_pick (next_signal_at (slice_get old.inputs i)) (gives_row old.latest i) asked sent) p.enabled).1 in
    let row = p.row ∙ ap (row_given m.row_of old.latest i) (sym (next_from old.inputs i p.a s.0 s.1 p.was)) in
    let r = picks_at m old i made (next_signal_at (slice_get old.inputs i)) s.0 empty refl s.1 row in
    let but = but_pick noted old i made p.but in
    let b = after_signal old i made (next_signal_at (slice_get old.inputs i)) in
    let P : LatestState T → Type 0 = λ n. Records (latest_comes_out m) old (Picks (i ∷ [])) n × CountsStep IsLatestCounted latest_ended latest_done old n in
    subst P (sym p.after) ((λ inc further. same_value m (after_pick noted i made) b but inc further ∙ r.0 inc further), counts_but old (after_pick noted i made) b but r.1)

pub pick_value : {T : Type 0} (m : Meaning T) (old noted new : LatestState T) (i asked sent : ℕ) (made : Option T) → IsPicked m old noted new i asked sent made → Records (latest_comes_out m) old (Picks (i ∷ [])) new
pick_value m old noted new i asked sent made p = (both m old noted new i asked sent made p).0

pub pick_steps : {T : Type 0} (m : Meaning T) (old noted new : LatestState T) (i asked sent : ℕ) (made : Option T) → IsPicked m old noted new i asked sent made → CountsStep IsLatestCounted latest_ended latest_done old new
pick_steps m old noted new i asked sent made p = (both m old noted new i asked sent made p).1

-- what is picked is there
pub pick_there : {T : Type 0} (n : LatestState T) (i asked sent : ℕ) → latest_picks n i asked sent ≡ true → i < length n.inputs
pick_there n i asked sent e =
    let s = some_next (next_signal_at (slice_get n.inputs i)) (gives_row n.latest i) asked sent (and_parts (is_empty n.output) (may_pick (next_signal_at (slice_get n.inputs i)) (gives_row n.latest i) asked sent) e).1 in
    is_within n.inputs i s.0 s.1

-- what the code did to pick an input whose next signal gives no row
pub none_picked : {T : Type 0} (m : Meaning T) (start old noted new : LatestState T) (i asked sent : ℕ) → start ≡ old → length start.inputs ≡ length start.latest → latest_picks old i asked sent ≡ true → IsBut noted start → row_is_next (next_signal_at (slice_get old.inputs i)) (gives_row old.latest i) ≡ false → new ≡ after_pick noted i None →
    IsPicked m old noted new i asked sent None
none_picked {T} m start old noted new i asked sent same long enabled but none after =
    let lt = pick_there old i asked sent enabled in
    let a = read_there old.inputs i lt in
    let lengths : length old.inputs ≡ length old.latest = ap (λ n. length n.inputs) (sym same) ∙ long ∙ ap (λ n. length n.latest) same in
    record {
      enabled = enabled;
      but = (but.0 ∙ ap (λ n. n.inputs) same, but.1 ∙ ap (λ n. n.latest) same, but.2 ∙ ap (λ n. n.output) same);
      a = a.0;
      was = a.1;
      row = no_row_given m.row_of old.latest i (next_signal a.0) (omega (arith, lt, lengths)) (row_is_next_at old.inputs i a.0 (gives_row old.latest i) false lt a.1 none);
      after = after;
    }

-- only an item gives a row
row_signal : {T : Type 0} (row : List T → T) (latest : List (Option T)) (i : ℕ) (o : Option (Signal T)) (y : T) → Some y ≡ row_given row latest i o → (x : T) × (o ≡ Some (Next x))
row_signal row latest i None y e = cc
row_signal row latest i (Some (Next x)) y e = (x, refl)
row_signal row latest i (Some Complete) y e = cc
row_signal row latest i (Some (Error c)) y e = cc

-- what the code did to pick an input whose next item gives this row
pub row_picked : {T : Type 0} (m : Meaning T) (start old noted : LatestState T) (i asked sent : ℕ) (y : T) (a b : QueuedInput T) (latest : List (Option T)) (out : Output T) → start ≡ old → latest_picks old i asked sent ≡ true → IsBut noted start → a ≡ slice_index_or start.inputs i a → Some y ≡ row_given m.row_of start.latest i (next_signal a) →
    b ≡ without a (next_signal a) → latest ≡ latest_with start.latest i (next_signal a) → (made : Option T) → out ≡ made_out made start.output →
    (a ≡ slice_index_or old.inputs i a) × (Some y ≡ row_given m.row_of old.latest i (next_signal a)) × ◌≡◌ {A = LatestState T} (record { inputs = slice_set noted.inputs i b; latest = latest; output = out; choices = noted.choices }) (after_pick noted i made)
row_picked {T} m start old noted i asked sent y a b latest out same enabled but was row state is made put =
    let x = row_signal m.row_of start.latest i (next_signal a) y row in
    let lt = pick_there old i asked sent enabled in
    let there : i < length noted.inputs = let l = ap length but.0 in let k = ap (λ n. length n.inputs) same in omega (arith, l, k, lt) in
    let p : IsTaken noted noted i (next_signal a) a b = record { same = refl; there = there; was = was ∙ ap (λ qs. slice_index_or qs i a) (sym but.0); signal = refl; state = state } in (
      was ∙ ap (λ n. slice_index_or n.inputs i a) same,
      row ∙ ap (λ n. row_given m.row_of n.latest i (next_signal a)) same,
      row_taken noted noted i made x.0 a b latest out p x.1 (is ∙ ap (λ l. latest_with l i (next_signal a)) (sym but.1)) (put ∙ ap (made_out made) (sym but.2)),
    )

-- input i was picked, and its row went out
pub record IsRowOut {T : Type 0} (m : Meaning T) (old : LatestState T) (i asked sent : ℕ) (y : T) (new : LatestState T) : Type 0 where
  pub picked : LatestState T
  pub pick : IsPickDone (latest_comes_out m) latest_picks latest_recording latest_recorded IsLatestCounted latest_ended latest_done old i asked sent picked
  pub goes_on : latest_ended picked ≡ false
  pub out : IsItemOut (latest_comes_out m) (latest_waiting m) latest_popped latest_recorded IsLatestCounted latest_ended latest_done picked y new

-- the row that an input's item gave went out at once
pub row_out : {T : Type 0} (m : Meaning T) (old noted new : LatestState T) (i asked sent : ℕ) (y : T) (a : QueuedInput T) → latest_picks old i asked sent ≡ true → IsBut noted old → a ≡ slice_index_or old.inputs i a → Some y ≡ row_given m.row_of old.latest i (next_signal a) →
    written noted.choices ≡ written old.choices ++ i ∷ [] → new ≡ after_pick noted i None → IsRowOut m old i asked sent y new
row_out {T} m old noted new i asked sent y a enabled but was row notes after =
    let parts = and_parts (is_empty old.output) (may_pick (next_signal_at (slice_get old.inputs i)) (gives_row old.latest i) asked sent) enabled in
    let empty : noted.output ≡ Empty = but.2 ∙ empty_is old.output parts.0 in
    let s = some_next (next_signal_at (slice_get old.inputs i)) (gives_row old.latest i) asked sent parts.1 in
    let x = row_signal m.row_of old.latest i (next_signal a) y row in
    let next : next_signal_at (slice_get noted.inputs i) ≡ Some (Next x.0) = ap (λ qs. next_signal_at (slice_get qs i)) but.0 ∙ next_from old.inputs i a s.0 s.1 was ∙ x.1 in
    let mid : LatestState T = after_signal noted i (Some y) (Some (Next x.0)) in
    let left : LatestState T = after_signal noted i None (Some (Next x.0)) in
    let p : IsPicked m old noted mid i asked sent (Some y) = record { enabled = enabled; but = but; a = a; was = was; row = row; after = ap (after_signal noted i (Some y)) (sym next) } in
    let P : LatestState T → Type 0 = λ n. IsRowOut m old i asked sent y n in
    subst P (sym (after ∙ ap (after_signal noted i None) next)) record {
      picked = mid;
      pick = record {
        enabled = enabled;
        value = pick_value m old noted mid i asked sent (Some y) p;
        notes = ap Picks notes;
        composes = picks_compose (written old.choices) (i ∷ []);
        counts = pick_steps m old noted mid i asked sent (Some y) p;
      };
      goes_on = refl;
      out = record {
        waited = refl;
        popped_out = ((refl, empty), refl, refl, refl);
        value = λ inc further. item_leaves (Waiting (Next y)) noted.output y (λ cs. combine_until_stop m.row_of left.latest cs (inputs_left 0 left.inputs (inc.first ∷ inc.others))) unless_chosen refl empty further;
        notes = refl;
        counts = (ap has_ending empty, (λ taken n h. record { goes_on = ap is_over empty; some_left = h.some_left; few = h.few; counts = h.counts }), λ j d. d);
      };
    }

pub row_gone : {T : Type 0} (m : Meaning T) (old noted new : LatestState T) (i asked sent : ℕ) (y : T) (a : QueuedInput T) → latest_picks old i asked sent ≡ true → IsBut noted old → a ≡ slice_index_or old.inputs i a → Some y ≡ row_given m.row_of old.latest i (next_signal a) →
    written noted.choices ≡ written old.choices ++ i ∷ [] → new ≡ after_pick noted i None →
    IsSteppedOut (latest_comes_out m) (latest_waiting m) latest_picks (λ n b s. false) (λ n b s k. ⊥) latest_popped latest_recording latest_recorded IsLatestCounted latest_ended latest_done old asked sent (Some y) new
row_gone m old noted new i asked sent y a enabled but was row notes after =
    let r = row_out m old noted new i asked sent y a enabled but was row notes after in (r.picked, inl (i, r.pick), r.out)

-- ---- the rest

pub residual_of : {T : Type 0} (m : Meaning T) (start old : LatestState T) (inboxes vs : List (Stream T)) (o : Option (Stream T)) (rest v : Stream T) → start ≡ old →
    o ≡ combine_until_stop m.row_of start.latest [] (inputs_left 0 start.inputs vs) → o ≡ Some rest → output_then start.output (Some rest) (Some (ended_by Done)) ≡ Some v →
    IsResidualOf (latest_comes_out m) latest_recorded (λ n. None) old inboxes vs v
residual_of {T} m start old inboxes vs o rest v same is some gives =
    let P : LatestState T → Type 0 = λ n. IsResidualOf (latest_comes_out m) latest_recorded (λ n. None) n inboxes vs v in
    subst P same (λ hubs further behind none.
    ap (λ k. latest_of m start.output start.latest start.inputs ((incoming_of hubs vs).first ∷ (incoming_of hubs vs).others) k) (none_more (written start.choices) further none)
    ∙ ap (λ is. output_then start.output (combine_until_stop m.row_of start.latest [] is) (Some (ended_by Done))) (padded start.inputs hubs vs)
    ∙ ap (λ z. output_then start.output z (Some (ended_by Done))) (sym is ∙ some)
    ∙ gives)

-- ---- what the code puts together

pub state_is : {T : Type 0} (n m : LatestState T) → n.inputs ≡ m.inputs → n.latest ≡ m.latest → n.output ≡ m.output → n.choices ≡ m.choices → n ≡ m
state_is {T} n m a b c d i = record { inputs = a i; latest = b i; output = c i; choices = d i }

-- a signal that is put back
pub put_back_is : {T : Type 0} (start now before new : LatestState T) (s : Signal T) → start ≡ now → new.inputs ≡ start.inputs → new.latest ≡ start.latest → new.choices ≡ start.choices → ((b : Output T) → IsOut b s start.output → new.output ≡ b) → latest_popped before s now → new ≡ before
put_back_is {T} start now before new s same a b c put h =
    let P : LatestState T → Type 0 = λ n. latest_popped before s n in
    let k = subst P (sym same) h in
    state_is new before (a ∙ k.1) (b ∙ k.2) (put before.output k.0) (c ∙ k.3)
