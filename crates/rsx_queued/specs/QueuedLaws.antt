-- A node with its queue keeps the laws of a node, where the node inside does.
use Rattle.std.specs.Prelude.{◌≡◌, ℕ, suc, ◌+◌, ◌<◌, ◌^◌, Bool, true, false, ◌&&◌, ◌||◌, ◌⊎◌, nat_lt, min, List, [], ◌∷◌, ◌++◌, length, Option, Some, None, option_map, refl}
use Rattle.std.proofs.Common.{inl, inr, sym, ap, ◌∙◌, subst, arith}
use Rattle.std.proofs.lemmas.Bool.{cases_lt, lt-ltb, true≢false}
use Rattle.std.proofs.lemmas.Bool.Decides.{nat_tests}
use Rattle.rsx_sources.specs.Prelude.{Note, Signal, Next, Complete, Error, Meaning, unchosen, Stream, AreWithin, CanStep, IsHungry, ends_input, Incoming, front_of, incoming_of, OffersWithin}
use Rattle.rsx_sources.specs.declared.machine.Front.{Front}
use Rattle.rsx_sources.specs.declared.machine.Front.TheVariants.{Item, Completion as CompletionFront, Failure as FailureFront}
use Rattle.rsx_sources.specs.declared.machine.Machine.{Ghosts as Machine}
use Rattle.rsx_queued.specs.declared.queued.Queued.{Queued}
use Rattle.rsx_queued.specs.declared.tail.Tail.{Tail}
use Rattle.rsx_queued.specs.declared.tail.Tail.TheVariants.{Open, Completion, Failure, Taken}
use Rattle.rsx_queued.specs.Held.{is_open, held_then, first_held, first_shown, comes_in_at}
use Rattle.rsx_queued.specs.Queued.{out, queued_comes_out, queued_waiting, queued_shown, queued_takes, queued_picks, queued_rows, queued_ended, queued_done, queued_counted, queued_wanted, accepts_in, queued_accepts, queued_popped, QueuedAlike, node_sent, may_go, can_move, note_of_shown, pop_note, pick_by, row_by, pick_of, row_of, is_ended, ended_in, queued_reads, reads_in}

-- ---- the laws of the node inside

abbrev pub Shows : {M T : Type 0} → Machine M T → Meaning T → Type 0
Shows {M} b m = (n : M) → b.shown n ≡ option_map front_of (b.waiting m n)

abbrev pub Drops : {M T : Type 0} → Machine M T → Meaning T → Type 0
Drops {M} {T} b m = (n : M) (inc other : Incoming T) (further : Note) → b.ended n ≡ true → b.comes_out m n inc further ≡ b.comes_out m n other further

abbrev pub Ends : {M T : Type 0} → Machine M T → Meaning T → Type 0
Ends {M} {T} b m = (n : M) (s : Signal T) (inc other : Incoming T) (further : Note) → b.waiting m n ≡ Some s → ends_input s ≡ true → b.comes_out m n inc further ≡ b.comes_out m n other further

abbrev pub Settles : {M T : Type 0} → Machine M T → Meaning T → Type 0
Settles {M} {T} b m = (n : M) (inc : Incoming T) → (v : Stream T) × (b.comes_out m n inc (unchosen (b.recorded n)) ≡ Some v)

abbrev pub Waits : {M T : Type 0} → Machine M T → Meaning T → Type 0
Waits {M} b m = (n : M) (asked sent : ℕ) → b.ended n ≡ true → b.waiting m n ≡ None → sent < asked → CanStep b.picks b.rows n asked sent

abbrev pub Hungers : {M T : Type 0} → Machine M T → Meaning T → Type 0
Hungers {M} b m = (n : M) (took : List ℕ) (asked sent : ℕ) → b.ended n ≡ false → b.counted n took sent → b.waiting m n ≡ None → sent < asked → AreWithin took → IsHungry b.takes b.picks b.rows b.done b.wanted b.reads n took asked sent

-- ---- what waits

first_shows : {T : Type 0} (q : List T) (t : Tail) → first_shown q t ≡ option_map front_of (first_held q t)
first_shows [] Open = refl
first_shows [] Completion = refl
first_shows [] (Failure c) = refl
first_shows [] Taken = refl
first_shows (x ∷ xs) t = refl

pub queued_shows : {M T : Type 0} (m : Meaning T) (n : Queued M T) → queued_shown n ≡ option_map front_of (queued_waiting m n)
queued_shows m n = first_shows n.queue n.tail

-- ---- what comes in no longer matters

drops_in : {M T : Type 0} (b : Machine M T) (m : Meaning T) → Drops b m → (n : M) (q : List T) (t : Tail) (inc other : Incoming T) (further : Note) → ended_in t (b.ended n) ≡ true → out b m n q t inc further ≡ out b m n q t other further
drops_in b m drops n q Open inc other further e = ap (option_map (held_then q Open)) (drops n inc other further e)
drops_in b m drops n q Completion inc other further e = refl
drops_in b m drops n q (Failure c) inc other further e = refl
drops_in b m drops n q Taken inc other further e = refl

pub queued_drops : {M T : Type 0} (b : Machine M T) (m : Meaning T) → Drops b m → (n : Queued M T) (inc other : Incoming T) (further : Note) → queued_ended b n ≡ true → queued_comes_out b m n inc further ≡ queued_comes_out b m n other further
queued_drops b m drops n inc other further e = drops_in b m drops n.node n.queue n.tail inc other further e

ends_in : {M T : Type 0} (b : Machine M T) (m : Meaning T) (n : M) (q : List T) (t : Tail) (s : Signal T) (inc other : Incoming T) (further : Note) → first_held q t ≡ Some s → ends_input s ≡ true → out b m n q t inc further ≡ out b m n q t other further
ends_in b m n [] Open s inc other further w e = cc
ends_in b m n (x ∷ xs) Open s inc other further w e = cc
ends_in b m n q Completion s inc other further w e = refl
ends_in b m n q (Failure c) s inc other further w e = refl
ends_in b m n q Taken s inc other further w e = refl

pub queued_ends : {M T : Type 0} (b : Machine M T) (m : Meaning T) (n : Queued M T) (s : Signal T) (inc other : Incoming T) (further : Note) → queued_waiting m n ≡ Some s → ends_input s ≡ true → queued_comes_out b m n inc further ≡ queued_comes_out b m n other further
queued_ends b m n s inc other further w e = ends_in b m n.node n.queue n.tail s inc other further w e

-- ---- what it reads stays, and the same calls may allocate

node_stays : {M T : Type 0} (old : Queued M T) (s : Signal T) (new : Queued M T) → queued_popped old s new → old.node ≡ new.node
node_stays old (Next x) new h = h.0
node_stays old Complete new h = h.0
node_stays old (Error c) new h = h.0

reads_stay : {M T : Type 0} (b : Machine M T) (old : Queued M T) (s : Signal T) (new : Queued M T) → queued_popped old s new → queued_reads b new ≡ queued_reads b old
reads_stay b old (Next x) new h = ap (λ t. reads_in t (b.reads new.node)) (sym h.2) ∙ ap (λ n. reads_in old.tail (b.reads n)) (sym h.0)
reads_stay b old Complete new h = ap (λ t. reads_in t (b.reads new.node)) h.4 ∙ ap (λ t. reads_in t (b.reads old.node)) (sym h.3)
reads_stay b old (Error c) new h = ap (λ t. reads_in t (b.reads new.node)) h.4 ∙ ap (λ t. reads_in t (b.reads old.node)) (sym h.3)

pub queued_popped_alike : {M T : Type 0} (b : Machine M T) (old : Queued M T) (s : Signal T) (new : Queued M T) → queued_popped old s new → QueuedAlike b old new
queued_popped_alike b old s new h =
    let same = sym (node_stays old s new h) in
    (reads_stay b old s new h, (refl, λ a. (refl, ap (b.signal_allocates a) same, ap (λ n. b.pop_allocates a n || b.step_allocates a n) same)))

abbrev pub DoneDrops : {M T : Type 0} → Machine M T → Meaning T → Type 0
DoneDrops {M} {T} b m = (n : M) (hubs before after : List (Stream T)) (v w : Stream T) (further : Note) → b.done n (length before) ≡ true → b.comes_out m n (incoming_of hubs (before ++ v ∷ after)) further ≡ b.comes_out m n (incoming_of hubs (before ++ w ∷ after)) further

done_drops_in : {M T : Type 0} (b : Machine M T) (m : Meaning T) → DoneDrops b m → (n : M) (q : List T) (t : Tail) (hubs before after : List (Stream T)) (v w : Stream T) (further : Note) → is_ended t || b.done n (length before) ≡ true → out b m n q t (incoming_of hubs (before ++ v ∷ after)) further ≡ out b m n q t (incoming_of hubs (before ++ w ∷ after)) further
done_drops_in b m drops n q Open hubs before after v w further d = ap (option_map (held_then q Open)) (drops n hubs before after v w further d)
done_drops_in b m drops n q Completion hubs before after v w further d = refl
done_drops_in b m drops n q (Failure c) hubs before after v w further d = refl
done_drops_in b m drops n q Taken hubs before after v w further d = refl

pub queued_done_drops : {M T : Type 0} (b : Machine M T) (m : Meaning T) → DoneDrops b m → (n : Queued M T) (hubs before after : List (Stream T)) (v w : Stream T) (further : Note) → queued_done b n (length before) ≡ true → queued_comes_out b m n (incoming_of hubs (before ++ v ∷ after)) further ≡ queued_comes_out b m n (incoming_of hubs (before ++ w ∷ after)) further
queued_done_drops b m drops n hubs before after v w further d = done_drops_in b m drops n.node n.queue n.tail hubs before after v w further d

-- what it reads, once it offers its ending: nothing
ends_reading_in : {M T : Type 0} (b : Machine M T) (n : M) (q : List T) (t : Tail) (s : Signal T) → first_held q t ≡ Some s → ends_input s ≡ true → reads_in t (b.reads n) ≡ None
ends_reading_in b n [] Open s w e = cc
ends_reading_in b n (x ∷ xs) Open s w e = cc
ends_reading_in b n q Completion s w e = refl
ends_reading_in b n q (Failure c) s w e = refl
ends_reading_in b n q Taken s w e = refl

pub queued_ends_reading : {M T : Type 0} (b : Machine M T) (m : Meaning T) (n : Queued M T) (s : Signal T) → queued_waiting m n ≡ Some s → ends_input s ≡ true → queued_reads b n ≡ None
queued_ends_reading b m n s w e = ends_reading_in b n.node n.queue n.tail s w e

-- ---- once it accepts no more demand, what it offers may go

within : (asked taken k : ℕ) → nat_lt asked (taken + suc k) ≡ false → taken < asked
within asked taken k e = elim (cases_lt taken asked) [
  | inl l ↦ l
  | inr m ↦ absurd (true≢false (sym (lt-ltb asked (taken + suc k) (omega (arith, m))) ∙ e))
]

enough_in : {T : Type 0} (q : List T) (t : Tail) (asked taken : ℕ) → accepts_in q t asked taken ≡ false → OffersWithin (first_shown q t) asked taken
enough_in q Open asked taken e = cc
enough_in q Taken asked taken e = cc
enough_in [] Completion asked taken e = tt
enough_in [] (Failure c) asked taken e = tt
enough_in (x ∷ xs) Completion asked taken e = within asked taken (length xs) e
enough_in (x ∷ xs) (Failure c) asked taken e = within asked taken (length xs) e

pub queued_enough : {M T : Type 0} (n : Queued M T) (asked taken : ℕ) → queued_accepts n asked taken ≡ false → OffersWithin (queued_shown n) asked taken
queued_enough n asked taken e = enough_in n.queue n.tail asked taken e

-- ---- something comes out

pub queued_settles : {M T : Type 0} (b : Machine M T) (m : Meaning T) → Settles b m → (n : Queued M T) (inc : Incoming T) → (v : Stream T) × (queued_comes_out b m n inc (unchosen (b.recorded n.node)) ≡ Some v)
queued_settles b m settles n inc =
    let v = settles n.node (comes_in_at n.tail inc) in
    (held_then n.queue n.tail v.0, ap (option_map (held_then n.queue n.tail)) v.1)

-- ---- it isn't stuck

-- where the queue is empty, the node sent what was taken
pub nothing_queued : (asked taken : ℕ) → taken < asked → min asked (taken + 0) ≡ taken
nothing_queued asked taken l = omega (arith, l)

is_less : (a b : ℕ) → a < b → nat_lt a b ≡ true
is_less a b l = grind (arith, nat_tests)

pub may_go_less : (f : Front) (asked sent : ℕ) → sent < asked → may_go (Some f) asked sent ≡ true
may_go_less Item asked sent l = is_less sent asked l
may_go_less CompletionFront asked sent l = refl
may_go_less (FailureFront c) asked sent l = refl

second_true : (c d : Bool) → d ≡ true → c || d ≡ true
second_true true d e = refl
second_true false d e = e

first_true : (c d : Bool) → c ≡ true → c || d ≡ true
first_true true d e = refl
first_true false d e = cc

abbrev nothing : {A : Type 0} → List A
nothing = []

-- the node offers a signal, and the queue is empty
offered_goes : {M T : Type 0} (b : Machine M T) (m : Meaning T) → Shows b m → (n : M) (asked taken : ℕ) (s : Signal T) → b.waiting m n ≡ Some s → taken < asked → can_move (b.shown n) (nothing {A = T}) Open asked taken ≡ true
offered_goes {M} {T} b m shows n asked taken s w l =
    let sent : min asked (taken + 0) < asked = subst (λ k. k < asked) (sym (nothing_queued asked taken l)) l in
    ap (λ f. may_go f asked (min asked (taken + 0))) (shows n ∙ ap (option_map front_of) w) ∙ may_go_less (front_of s) asked (min asked (taken + 0)) sent

-- the Send over the edge: a pick of input 0 where it is recorded, else a row
abbrev pub Goes : {M T : Type 0} → Machine M T → M → List T → Tail → ℕ → ℕ → Type 0
Goes b n q t asked taken = (pick_of b n q t 0 asked taken ≡ true) ⊎ (row_of b n q t asked taken ≡ true)

pub moved_goes : {M T : Type 0} (b : Machine M T) (n : M) (q : List T) (t : Tail) (asked taken : ℕ) → can_move (b.shown n) q t asked taken ≡ true → Goes b n q t asked taken
moved_goes b n q t asked taken can = by_note (pop_note b n) refl
  where
    picks : Bool
    picks = is_open t && b.picks n 0 asked (node_sent q asked taken)

    rows : Bool
    rows = is_open t && b.rows n asked (node_sent q asked taken)

    moves : Bool
    moves = can_move (b.shown n) q t asked taken

    by_note : (k : Option Note) → pop_note b n ≡ k → Goes b n q t asked taken
    by_note None e = inr (ap (λ k. row_by k (moves || rows)) e ∙ first_true moves rows can)
    by_note (Some k) e = inl (ap (λ k. pick_by k picks moves 0) e ∙ can)

offered_moves : {M T : Type 0} (b : Machine M T) (m : Meaning T) → Shows b m → (n : M) (q : List T) (t : Tail) (asked taken : ℕ) (s : Signal T) → t ≡ Open → q ≡ [] → b.waiting m n ≡ Some s → taken < asked → Goes b n q t asked taken
offered_moves b m shows n q t asked taken s o e w l =
    moved_goes b n q t asked taken (ap (λ k. can_move (b.shown n) q k asked taken) o ∙ (ap (λ k. can_move (b.shown n) k Open asked taken) e ∙ offered_goes b m shows n asked taken s w l))

-- where the node offers nothing, nothing goes over the edge that could be recorded
unshown : (k : Option Note) (f : Option Front) → f ≡ None → note_of_shown k f ≡ None
unshown None f e = refl
unshown (Some k) f e = ap (note_of_shown (Some k)) e

pub nothing_noted : {M T : Type 0} (b : Machine M T) (m : Meaning T) → Shows b m → (n : M) → b.waiting m n ≡ None → pop_note b n ≡ None
nothing_noted b m shows n w = unshown (b.popping n) (b.shown n) (shows n ∙ ap (option_map front_of) w)

-- a step of the node is one of the node with its queue, where no signal is recorded as it goes over the edge
pick_stays : {M T : Type 0} (b : Machine M T) (n : M) (q : List T) (t : Tail) (i asked taken : ℕ) → t ≡ Open → q ≡ [] → taken < asked → pop_note b n ≡ None → b.picks n i asked taken ≡ true → pick_of b n q t i asked taken ≡ true
pick_stays b n q t i asked taken o e l none h =
    ap (λ k. pick_by k (is_open t && b.picks n i asked (node_sent q asked taken)) (can_move (b.shown n) q t asked taken) i) none
    ∙ (ap (λ k. is_open k && b.picks n i asked (node_sent q asked taken)) o
    ∙ (ap (λ k. b.picks n i asked (node_sent k asked taken)) e
    ∙ (ap (λ k. b.picks n i asked k) (nothing_queued asked taken l) ∙ h)))

row_stays : {M T : Type 0} (b : Machine M T) (n : M) (q : List T) (t : Tail) (asked taken : ℕ) → t ≡ Open → q ≡ [] → taken < asked → pop_note b n ≡ None → b.rows n asked taken ≡ true → row_of b n q t asked taken ≡ true
row_stays {M} {T} b n q t asked taken o e l none h =
    ap (λ k. row_by k (can_move (b.shown n) q t asked taken || (is_open t && b.rows n asked (node_sent q asked taken)))) none
    ∙ (ap (λ k. can_move (b.shown n) q k asked taken || (is_open k && b.rows n asked (node_sent q asked taken))) o
    ∙ (ap (λ k. can_move (b.shown n) k Open asked taken || b.rows n asked (node_sent k asked taken)) e
    ∙ second_true (can_move (b.shown n) (nothing {A = T}) Open asked taken) (b.rows n asked (min asked (taken + 0))) (ap (λ k. b.rows n asked k) (nothing_queued asked taken l) ∙ h)))

steps : {M T : Type 0} (b : Machine M T) (n : Queued M T) (asked taken : ℕ) → n.tail ≡ Open → n.queue ≡ [] → taken < asked → pop_note b n.node ≡ None → CanStep b.picks b.rows n.node asked taken → CanStep (queued_picks b) (queued_rows b) n asked taken
steps b n asked taken o e l none can = elim can [
  | inl k ↦ inl (k.0, k.1, pick_stays b n.node n.queue n.tail k.0 asked taken o e l none k.2)
  | inr k ↦ inr (row_stays b n.node n.queue n.tail asked taken o e l none k)
]

-- input 0 is one of those that can be told
first_input : 0 < 2 ^ 64
first_input = omega arith

goes_on : {M T : Type 0} (b : Machine M T) (n : Queued M T) (asked taken : ℕ) → Goes b n.node n.queue n.tail asked taken → CanStep (queued_picks b) (queued_rows b) n asked taken
goes_on b n asked taken (inl k) = inl (0, first_input, k)
goes_on b n asked taken (inr k) = inr k

none_held : {T : Type 0} (q : List T) (t : Tail) → first_held q t ≡ None → q ≡ []
none_held [] t w = refl
none_held (x ∷ xs) t w = cc

open_in : {T : Type 0} (q : List T) (t : Tail) (e : Bool) → ended_in t e ≡ true → first_held q t ≡ None → t ≡ Open
open_in q Open e h w = refl
open_in [] Completion e h w = cc
open_in (x ∷ xs) Completion e h w = cc
open_in [] (Failure c) e h w = cc
open_in (x ∷ xs) (Failure c) e h w = cc
open_in q Taken e h w = cc

pub queued_ending_waits : {M T : Type 0} (b : Machine M T) (m : Meaning T) → Shows b m → Waits b m → (n : Queued M T) (asked taken : ℕ) → queued_ended b n ≡ true → queued_waiting m n ≡ None → taken < asked → CanStep (queued_picks b) (queued_rows b) n asked taken
queued_ending_waits {M} {T} b m shows waits n asked taken e none more = by_waiting (b.waiting m n.node) refl
  where
    empty : n.queue ≡ []
    empty = none_held n.queue n.tail none

    still : n.tail ≡ Open
    still = open_in n.queue n.tail (b.ended n.node) e none

    by_waiting : (o : Option (Signal T)) → b.waiting m n.node ≡ o → CanStep (queued_picks b) (queued_rows b) n asked taken
    by_waiting (Some s) w = goes_on b n asked taken (offered_moves b m shows n.node n.queue n.tail asked taken s still empty w more)
    by_waiting None w = steps b n asked taken still empty more (nothing_noted b m shows n.node w) (waits n.node asked taken (sym (ap (λ k. ended_in k (b.ended n.node)) still) ∙ e) w more)

count_stays : {M T : Type 0} (b : Machine M T) (n : M) (q : List T) (took : List ℕ) (taken : ℕ) → q ≡ [] → b.counted n took (taken + length q) → b.counted n took taken
count_stays {M} {T} b n q took taken e c =
    let none : length q ≡ 0 = ap length e in
    let same : taken + length q ≡ taken = omega (arith, none) in
    subst (λ k. b.counted n took k) same c

pub queued_hungry : {M T : Type 0} (b : Machine M T) (m : Meaning T) → Shows b m → Hungers b m → (n : Queued M T) (took : List ℕ) (asked taken : ℕ) → queued_ended b n ≡ false → queued_counted b n took taken → queued_waiting m n ≡ None → taken < asked → AreWithin took →
    IsHungry (queued_takes b) (queued_picks b) (queued_rows b) (queued_done b) (queued_wanted b) (queued_reads b) n took asked taken
queued_hungry {M} {T} b m shows hungers n took asked taken going counted none more within = by_waiting (b.waiting m n.node) refl
  where
    empty : n.queue ≡ []
    empty = none_held n.queue n.tail none

    still : n.tail ≡ Open
    still = counted.0

    by_waiting : (o : Option (Signal T)) → b.waiting m n.node ≡ o → IsHungry (queued_takes b) (queued_picks b) (queued_rows b) (queued_done b) (queued_wanted b) (queued_reads b) n took asked taken
    by_waiting (Some s) w = elim (offered_moves b m shows n.node n.queue n.tail asked taken s still empty w more) [
      | inl k ↦ inl (0, first_input, k)
      | inr k ↦ inr (inl k)
    ]
    by_waiting None w = elim (hungers n.node took asked taken (sym (ap (λ k. ended_in k (b.ended n.node)) still) ∙ going) (count_stays b n.node n.queue took taken empty counted.1) w more within) [
      | inl k ↦ inl (k.0, k.1, pick_stays b n.node n.queue n.tail k.0 asked taken still empty more (nothing_noted b m shows n.node w) k.2)
      | inr y ↦ elim y [
        | inl k ↦ inr (inl (row_stays b n.node n.queue n.tail asked taken still empty more (nothing_noted b m shows n.node w) k))
        | inr z ↦ elim z [
          | inr r ↦ inr (inr (inr (r.0, ap (λ t. reads_in t (b.reads n.node)) still ∙ r.1)))
          | inl k ↦ inr (inr (inl (record {
            i = k.i;
            c = k.c;
            at = k.at;
            open_still = ap (λ t. is_ended t || b.done n.node k.i) still ∙ k.open_still;
            takes_any = λ f. ap (λ t. is_open t && b.takes n.node k.i f) still ∙ k.takes_any f;
            wants = subst (λ s. k.c < b.wanted n.node k.i asked s) (sym (ap (λ q. node_sent q asked taken) empty ∙ nothing_queued asked taken more)) k.wants;
          })))
        ]
      ]
    ]
