-- A node with the queue of its edge rests where the node inside does: its queue is empty then, and the Send over its edge isn't
-- enabled, so the node inside offers nothing.
use Rattle.std.proofs.Common.{◌≡◌, ◌<◌, ◌+◌, ◌^◌, ℕ, Bool, true, false, ◌&&◌, ◌||◌, min, List, [], ◌∷◌, Option, Some, None, option_map, slice_get, inl, inr, refl, ap, sym, ◌∙◌, subst, arith}
use Rattle.rsx_sources.specs.Prelude.{Open as OpenEnding, Signal, Meaning, unchosen, ended_by, AreWithin, Incoming, front_of, Reading}
use Rattle.rsx_sources.specs.declared.machine.Front.{Front}
use Rattle.rsx_sources.specs.declared.machine.Machine.{Ghosts as Machine}
use Rattle.rsx_queued.specs.declared.sender.Sender.{Sender}
use Rattle.rsx_queued.specs.declared.sender.Sender.TheVariants.{Direct, Crossing}
use Rattle.rsx_queued.specs.declared.tail.Tail.{Tail}
use Rattle.rsx_queued.specs.declared.tail.Tail.TheVariants.{Open, Completion, Failure, Taken}
use Rattle.rsx_queued.specs.Prelude.{first_held, held_then, is_open, Shows, may_go_less, moved_goes, nothing_noted, nothing_queued, can_move, counted_in, ended_in, is_ended, may_go, node_sent, out, pick_by, pick_of, reads_in, row_by, row_of, sender_comes_out, sender_counted, sender_done, sender_ended, sender_picks, sender_reads, sender_recorded, sender_rooms, sender_rows, sender_takes, sender_waiting, sender_wanted}
use Rattle.rsx_hub.specs.declared.TheConstants.{MOST_ACCEPTED}
use Rattle.rsx_tree.specs.Rests.{IsStuck, NothingBehind, NothingComes, Rests, coming}

-- ---- where the queue is empty

both : (c : Bool) → c ≡ true → c ≡ false → ⊥
both c x y = cc

second_false : (c d : Bool) → c || d ≡ false → d ≡ false
second_false true d e = cc
second_false false d e = e

abbrev nothing : {A : Type 0} → List A
nothing = []

-- no row can be made and input 0 can't be picked, so nothing can go over the edge: the node inside offers nothing. Then nothing would be
-- recorded there, and its own rows and picks are those that can't be made.
abbrev IsAtRest : {M T : Type 0} → Machine M T → Meaning T → M → ℕ → ℕ → Type 0
IsAtRest b m n asked sent = (b.waiting m n ≡ None) × IsStuck b.picks b.rows n asked sent

inside : {M T : Type 0} (b : Machine M T) (m : Meaning T) → Shows b m → (n : M) (asked sent : ℕ) → sent < asked → ((i : ℕ) → i < 2 ^ 64 → pick_of b n (nothing {A = T}) Open i asked sent ≡ false) → row_of b n (nothing {A = T}) Open asked sent ≡ false → IsAtRest b m n asked sent
inside {M} {T} b m shows n asked sent more picks rows =
    let waits = by_waiting (b.waiting m n) refl in
    let none = nothing_noted b m shows n waits in (
      waits,
      (
        (λ i l. ap (λ k. b.picks n i asked k) (sym is) ∙ (sym (ap (λ k. pick_by k (b.picks n i asked (min asked (sent + 0))) moves i) none) ∙ picks i l)),
        ap (λ k. b.rows n asked k) (sym is) ∙ second_false moves (b.rows n asked (min asked (sent + 0))) (sym (ap (λ k. row_by k (moves || b.rows n asked (min asked (sent + 0)))) none) ∙ rows),
      ),
    )
  where
    is : min asked (sent + 0) ≡ sent
    is = nothing_queued asked sent more

    moves : Bool
    moves = can_move (b.shown n) (nothing {A = T}) Open asked sent

    by_waiting : (o : Option (Signal T)) → b.waiting m n ≡ o → b.waiting m n ≡ None
    by_waiting None w = w
    by_waiting (Some s) w =
        let goes : moves ≡ true = ap (λ f. may_go f asked (min asked (sent + 0))) (shows n ∙ ap (option_map front_of) w) ∙ (ap (λ k. may_go (Some (front_of s)) asked k) is ∙ may_go_less (front_of s) asked sent more) in
        elim (moved_goes b n (nothing {A = T}) Open asked sent goes) [
          | inl k ↦ absurd (both (pick_of b n (nothing {A = T}) Open 0 asked sent) k (picks 0 (omega arith)))
          | inr k ↦ absurd (both (row_of b n (nothing {A = T}) Open asked sent) k rows)
        ]

-- ---- rest

-- what the law of rest says of a node with this queue
rests_in : {M T : Type 0} (b : Machine M T) (m : Meaning T) → Shows b m → Rests b m → (n : M) (q : List T) (t : Tail) (taken : List ℕ) (asked sent : ℕ) (inc : Incoming T) → ended_in t (b.ended n) ≡ false → counted_in b n q t taken sent → first_held q t ≡ None → sent < asked → AreWithin taken →
    ((i : ℕ) → i < 2 ^ 64 → pick_of b n q t i asked sent ≡ false) → row_of b n q t asked sent ≡ false →
    ((i c : ℕ) → slice_get taken i ≡ Some c → is_ended t || b.done n i ≡ false → ((f : Front) → is_open t && b.takes n i f ≡ true) → c < b.wanted n i asked (node_sent q asked sent) → coming (inc.first ∷ inc.others) i ≡ ended_by OpenEnding) →
    NothingBehind (reads_in t (b.reads n)) inc.hubs → out b m n q t inc (unchosen (b.recorded n)) ≡ Some (ended_by OpenEnding)
rests_in {M} {T} b m shows rests n [] Open taken asked sent inc going counted none more within picks rows comes behind =
    let at_rest = inside b m shows n asked sent more picks rows in
    let no_more : sent + 0 ≡ sent = omega arith in
    let C : ℕ → Type 0 = λ k. b.counted n taken k in
    ap (option_map (held_then (nothing {A = T}) Open)) (rests n taken asked sent inc going (subst C no_more counted.1) at_rest.0 more within at_rest.1 (λ i c at still takes wants. let W : ℕ → Type 0 = λ k. c < b.wanted n i asked k in comes i c at still takes (subst W (sym (nothing_queued asked sent more)) wants)) behind)
rests_in b m shows rests n [] Completion taken asked sent inc going counted none more within picks rows comes behind = cc
rests_in b m shows rests n [] (Failure c) taken asked sent inc going counted none more within picks rows comes behind = cc
rests_in b m shows rests n [] Taken taken asked sent inc going counted none more within picks rows comes behind = let is = counted.0 in cc
rests_in b m shows rests n (x ∷ xs) t taken asked sent inc going counted none more within picks rows comes behind = cc

pub sender_rests : {M T : Type 0} (b : Machine M T) (m : Meaning T) → Shows b m → Rests b m → (n : Sender M T) (taken : List ℕ) (asked sent : ℕ) (inc : Incoming T) → sender_ended b n ≡ false → sender_counted b n taken sent → sender_waiting b m n ≡ None → sent < asked → AreWithin taken →
    IsStuck (sender_picks b) (sender_rows b) n asked sent → NothingComes (sender_takes b) (sender_done b) (sender_wanted b) n taken asked sent (inc.first ∷ inc.others) → NothingBehind (sender_reads b n) inc.hubs → sender_comes_out b m n inc (unchosen (sender_recorded b n)) ≡ Some (ended_by OpenEnding)
sender_rests b m shows rests (Direct n) taken asked sent inc going counted none more within stuck comes behind = rests n taken asked sent inc going counted none more within stuck comes behind
sender_rests b m shows rests (Crossing n) taken asked sent inc going counted none more within stuck comes behind =
    rests_in b m shows rests n.node n.queue n.tail taken asked sent inc going counted none more within stuck.0 stuck.1 comes behind

-- ---- room

-- a node that reads a hub and has no room offers something
abbrev pub FullOffers : {M T : Type 0} → Machine M T → Meaning T → Type 0
FullOffers {M} b m = (n : M) (r : Reading) → b.reads n ≡ Some r → b.rooms n ≡ false → r.reached < MOST_ACCEPTED → b.waiting m n ≡ None → ⊥

full_in : {M T : Type 0} (b : Machine M T) (m : Meaning T) → Shows b m → FullOffers b m → (n : M) (q : List T) (t : Tail) (r : Reading) (asked sent : ℕ) → reads_in t (b.reads n) ≡ Some r → b.rooms n ≡ false → r.reached < MOST_ACCEPTED → first_held q t ≡ None → sent < asked →
    ((i : ℕ) → i < 2 ^ 64 → pick_of b n q t i asked sent ≡ false) → row_of b n q t asked sent ≡ false → ⊥
full_in b m shows full n [] Open r asked sent reads room less none more picks rows = full n r reads room less (inside b m shows n asked sent more picks rows).0
full_in b m shows full n [] Completion r asked sent reads room less none more picks rows = cc
full_in b m shows full n [] (Failure c) r asked sent reads room less none more picks rows = cc
full_in b m shows full n [] Taken r asked sent reads room less none more picks rows = cc
full_in b m shows full n (x ∷ xs) t r asked sent reads room less none more picks rows = cc

pub sender_full : {M T : Type 0} (b : Machine M T) (m : Meaning T) → Shows b m → FullOffers b m → (n : Sender M T) (r : Reading) (asked sent : ℕ) → sender_reads b n ≡ Some r → sender_rooms b n ≡ false → r.reached < MOST_ACCEPTED → sender_waiting b m n ≡ None → sent < asked → IsStuck (sender_picks b) (sender_rows b) n asked sent → ⊥
sender_full b m shows full (Direct n) r asked sent reads room less none more stuck = full n r reads room less none
sender_full b m shows full (Crossing n) r asked sent reads room less none more stuck = full_in b m shows full n.node n.queue n.tail r asked sent reads room less none more stuck.0 stuck.1
