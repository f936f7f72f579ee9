-- An item that goes through a window with an empty chain in one go.
use Rattle.std.proofs.Common.{◌≡◌, ℕ, zero, suc, ◌+◌, ◌-◌, ◌<◌, min, Bool, true, false, List, [], ◌∷◌, length, refl, ap, sym, ◌∙◌, subst, arith}
use Rattle.std.proofs.lemmas.List.{nil_from_length}
use Rattle.std.proofs.lemmas.Bool.{both_ways}
use Rattle.rsx_demand.specs.Demand.{saturating_total}
use Rattle.rsx_demand.specs.declared.TheConstants.{UNBOUNDED}
use Rattle.rsx_sources.specs.Prelude.{Ending, Open, Done, Failed, Nothing, Signal, Next, Stage, Meaning, Stream, item_then, signals_then, quiet, IsTakenIn, IsItemOut, IsPassed, is_nil}
use Rattle.rsx_sources.specs.declared.machine.Passed.TheVariants.{Item, Kept}
use Rattle.rsx_values.specs.Window.{window}
use Rattle.rsx_collections.specs.Signals.{has_ending}
use Rattle.rsx_plain.specs.declared.chain.ChainState.{End}
use Rattle.rsx_window.specs.Cut.{window_left, is_over, IsOpen, GoesThrough}
use Rattle.rsx_window.specs.Window.{window_comes_out, window_waiting, window_takes, window_ended, window_done, IsPoppedWindow, CountsItems}
use Rattle.rsx_window.specs.declared.node.WindowNode.{WindowNode}
use Rattle.rsx_window.specs.declared.current.CurrentWindow.{CurrentWindow}
use Rattle.rsx_window.specs.declared.current.CurrentWindow.TheVariants.{Running, Passing}
use Rattle.rsx_window.proofs.Cuts.{window_first, nothing_behind}
use Rattle.rsx_sources.proofs.Slots.{nil_of, quiet_then}

-- the window that is started takes an item that isn't its last
next_left : {T : Type 0} (m : Meaning T) (n : ℕ) (gs : List (Stage T)) (k : ℕ) (x : T) (v : Stream T) → window_left m n gs (Running End (suc k)) (item_then x v) ≡ item_then x (window_left m n gs (Running End k) v)
next_left m n gs k x v = refl

-- a window without operators is started
first_left : {T : Type 0} (m : Meaning T) (n : ℕ) (k : ℕ) (x : T) (v : Stream T) → n - 1 ≡ k → window_left m n [] (Passing 0) (item_then x v) ≡ window_left m n [] (Running End k) (item_then x v)
first_left m n k x v e = window_first m n [] x v ∙ ap (λ j. window_left m n [] (Running End j) (item_then x v)) e

next_of : {T : Type 0} (n : ℕ) (gs : List (Stage T)) (more : ℕ) (x : T) → (more ≡ 0 → ⊥) → GoesThrough n gs (Running End more) x (Item x) (Running End (more - 1))
next_of n gs zero x some = absurd (some refl)
next_of n gs (suc k) x some = let same : suc k - 1 ≡ k = omega arith in rw same (refl, (refl, refl), λ m v. next_left m n gs k x v)

pub next_passes : {T : Type 0} (n : ℕ) (gs : List (Stage T)) (old new : CurrentWindow T) (more : ℕ) (x : T) → old ≡ Running End more → (more ≡ 0 → ⊥) → new ≡ Running End (more - 1) → GoesThrough n gs old x (Item x) new
next_passes n gs old new more x is some after = rw (is, after) (next_of n gs more x some)

pub first_passes : {T : Type 0} (n : ℕ) (gs : List (Stage T)) (old new : CurrentWindow T) (x : T) → old ≡ Passing 0 → length gs ≡ 0 → 1 < n → new ≡ Running End (n - 2) → GoesThrough n gs old x (Item x) new
first_passes n gs old new x is none large after =
    let k : n - 1 ≡ suc (n - 2) = omega (arith, large) in
    rw (is, nil_from_length gs none, after) (refl, (refl, refl), λ m v. first_left m n (suc (n - 2)) x v k ∙ next_left m n [] (n - 2) x v)

-- a full window without operators goes on as the next one, which has no items yet
again_of : {T : Type 0} (m : Meaning T) (n : ℕ) (xs : List T) (e : Ending) → window m n [] (record { items = xs; ending = e }) ≡ window_left m n [] (Running End (n - 1)) (record { items = xs; ending = e })
again_of m n [] Open = refl
again_of m n [] Done = sym (nothing_behind m n (suc (n - 1)) [] Done)
again_of m n [] (Failed c) = refl
again_of m n (x ∷ xs) e = window_first m n [] x (record { items = xs; ending = e })

again_left : {T : Type 0} (m : Meaning T) (n : ℕ) (v : Stream T) → window_left m n [] (Passing 0) v ≡ window_left m n [] (Running End (n - 1)) v
again_left m n v = again_of m n v.items v.ending

last_left : {T : Type 0} (m : Meaning T) (n : ℕ) (gs : List (Stage T)) (x : T) (v : Stream T) → window_left m n gs (Running End 0) (item_then x v) ≡ item_then x (window_left m n gs (Passing 0) v)
last_left m n gs x v = refl

pub last_passes : {T : Type 0} (n : ℕ) (gs : List (Stage T)) (old new : CurrentWindow T) (more : ℕ) (x : T) → old ≡ Running End more → more ≡ 0 → length gs ≡ 0 → new ≡ Running End (n - 1) → GoesThrough n gs old x (Item x) new
last_passes n gs old new more x is zero_more none after =
    rw (is, zero_more, nil_from_length gs none, after) (refl, (refl, refl), λ m v. last_left m n [] x v ∙ ap (item_then x) (again_left m n v))

kept_of : {T : Type 0} (n : ℕ) (gs : List (Stage T)) (k : ℕ) (x : T) → (k ≡ 0 → ⊥) → GoesThrough n gs (Passing k) x Kept (Passing (k - 1))
kept_of n gs zero x some = absurd (some refl)
kept_of n gs (suc k) x some = let same : suc k - 1 ≡ k = omega arith in rw same (refl, (refl, tt), λ m v. refl)

pub skipped_passes : {T : Type 0} (n : ℕ) (gs : List (Stage T)) (old new : CurrentWindow T) (k : ℕ) (x : T) → old ≡ Passing k → (k ≡ 0 → ⊥) → new ≡ Passing (k - 1) → GoesThrough n gs old x Kept new
skipped_passes n gs old new k x is some after = rw (is, after) (kept_of n gs k x some)

-- ---- the node

-- the node with this window, whose item put out these signals
abbrev behind_item : {T : Type 0} → WindowNode T → CurrentWindow T → List (Signal T) → Bool → WindowNode T
behind_item n c out halfway = record n { current = c; pending = record { left = out; room = n.pending.room }; halfway = halfway; got = saturating_total n.got 1 }

one_got : (got items : ℕ) → got ≡ min UNBOUNDED items → saturating_total got 1 ≡ min UNBOUNDED (items + 1)
one_got got items e = omega (arith, e)

taken_in : {T : Type 0} (m : Meaning T) (n : WindowNode T) (c : CurrentWindow T) (out : List (Signal T)) (i : ℕ) (x : T) → i ≡ 0 → n.pending.left ≡ [] → is_over n.current ≡ false → has_ending out ≡ false → IsOpen c →
    ((v : Stream T) → window_left m n.size n.stages.items n.current (item_then x v) ≡ signals_then out (window_left m n.size n.stages.items c v)) →
    IsTakenIn (window_comes_out m) (λ k j f. window_takes k j) (λ k. Nothing) CountsItems window_ended window_done n i (Next x) (behind_item n c out false)
taken_in m n c out i x first empty open_still none opens moves = record {
  enabled = rw (first, empty, open_still) refl;
  value = λ inc further. rw (first, empty) (ap (quiet further) (sym (moves inc.first)));
  notes = refl;
  counts = record {
    stays_ended = λ e. absurd (both_ways (has_ending n.pending.left) (ap has_ending empty) e);
    counts = λ still taken sent h. record {
      open_still = opens.0;
      goes_on = opens.1;
      items = h.items + 1;
      at = rw (first, h.at) refl;
      got = one_got n.got h.items h.got;
    };
    stays_done = λ j d. absurd (both_ways (is_over n.current) open_still d);
    is_done = λ going e. cc;
  };
  goes_on = none;
}

item_out : {T : Type 0} (m : Meaning T) (n : WindowNode T) (c : CurrentWindow T) (y : T) → 0 < n.pending.room →
    IsItemOut (window_comes_out m) (window_waiting m) IsPoppedWindow (λ k. Nothing) CountsItems window_ended window_done (behind_item n c (Next y ∷ []) false) y (behind_item n c [] true)
item_out m n c y space = record {
  waited = refl;
  popped_out = record { signal = refl; room = refl; space = space; size = refl; stages = refl; current = refl; halfway = refl; got = refl };
  value = λ inc further. quiet_then (Next y) further (window_left m n.size n.stages.items c inc.first);
  notes = refl;
  counts = (refl, λ taken sent h. record { open_still = h.open_still; goes_on = h.goes_on; items = h.items; at = h.at; got = h.got }, λ j d. d);
}

-- an item went through the node
pub item_passed_on : {T : Type 0} (m : Meaning T) (n : WindowNode T) (gs : List (Stage T)) (c : CurrentWindow T) (got i : ℕ) (x y : T) → i ≡ 0 → is_nil n.pending.left ≡ true → 0 < n.pending.room → gs ≡ n.stages.items →
    GoesThrough n.size gs n.current x (Item y) c → got ≡ saturating_total n.got 1 →
    IsPassed (window_comes_out m) (window_waiting m) (λ k j f. window_takes k j) IsPoppedWindow (λ k. Nothing) CountsItems window_ended window_done n i x (Item y) (record n { current = c; halfway = true; got = got })
item_passed_on {T} m n gs c got i x y first nothing space stand through one =
    let empty : n.pending.left ≡ [] = nil_of n.pending.left nothing in
    let goes : GoesThrough n.size n.stages.items n.current x (Item y) c = rw stand at through in
    let P : List (Signal T) → ℕ → Type 0 = λ l k. IsPassed (window_comes_out m) (window_waiting m) (λ a j f. window_takes a j) IsPoppedWindow (λ a. Nothing) CountsItems window_ended window_done n i x (Item y) (record n { current = c; pending = record { left = l; room = n.pending.room }; halfway = true; got = k }) in
    subst (λ k. P n.pending.left k) (sym one) (subst (λ l. P l (saturating_total n.got 1)) (sym empty)
    (behind_item n c (Next y ∷ []) false, taken_in m n c (Next y ∷ []) i x first empty goes.0 refl goes.1 (goes.2 m), item_out m n c y space))
