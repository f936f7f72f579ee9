-- A hub that took a signal in, from its emitter or from its feed.
use Rattle.std.proofs.Common.{◌≡◌, ℕ, ◌+◌, ◌<◌, ◌≤◌, Bool, true, false, nat_lt, if◌then◌else◌, add-zero, List, [], ◌∷◌, ◌++◌, length, length-append, drop, Some, refl, ap, sym, ◌∙◌, arith, append_assoc}
use Rattle.std.proofs.lemmas.Bool.Decides.{nat_tests}
use Rattle.rsx_hub.specs.Hub.{HubState, accepted, hub_value, items_of, taken_in, waiting}
use Rattle.rsx_hub.specs.Waiting.{first_waiting}
use Rattle.rsx_subscriber.specs.Prelude.{with_signal, IsTaken}
use Rattle.rsx_sources.specs.Prelude.{Stream, Cause, Ending, Open, Done, Failed, Signal, Next, Complete, Error}
use Rattle.rsx_graph_state.specs.History.{counted, emitted}

-- ---- what waits in front

first_item : {T : Type 0} (q : List T) (e : Ending) (b : Bool) (x : T) → first_waiting q e b ≡ Some (Next x) → (rest : List T) × (q ≡ x ∷ rest)
first_item [] Open true x h = cc
first_item [] Open false x h = cc
first_item [] Done true x h = cc
first_item [] Done false x h = cc
first_item [] (Failed c) true x h = cc
first_item [] (Failed c) false x h = cc
first_item (y ∷ ys) e b x h = let same : y ≡ x = cc in (ys, ap (λ z. z ∷ ys) same)

first_done : {T : Type 0} (q : List T) (e : Ending) (b : Bool) → first_waiting q e b ≡ Some Complete → (q ≡ []) × (e ≡ Done)
first_done [] Open true h = cc
first_done [] Open false h = cc
first_done [] Done true h = cc
first_done [] Done false h = (refl, refl)
first_done [] (Failed c) true h = cc
first_done [] (Failed c) false h = cc
first_done (y ∷ ys) e b h = cc

first_failed : {T : Type 0} (q : List T) (e : Ending) (b : Bool) (c : Cause) → first_waiting q e b ≡ Some (Error c) → (q ≡ []) × (e ≡ Failed c)
first_failed [] Open true c h = cc
first_failed [] Open false c h = cc
first_failed [] Done true c h = cc
first_failed [] Done false c h = cc
first_failed [] (Failed d) true c h = cc
first_failed [] (Failed d) false c h = let same : d ≡ c = cc in (refl, ap Failed same)
first_failed (y ∷ ys) e b c h = cc

rises : (n k : ℕ) → n < k → (if nat_lt n k then n + 1 else n) ≡ n + 1
rises n k l = by_test (nat_lt n k) (less n k l)
  where
    less : (a b : ℕ) → a < b → nat_lt a b ≡ true
    less a b e = grind (arith, nat_tests)

    by_test : (b : Bool) → b ≡ true → (if b then n + 1 else n) ≡ n + 1
    by_test true e = refl
    by_test false e = cc

stays : (n k : ℕ) → k ≤ n → (if nat_lt n k then n + 1 else n) ≡ n
stays n k l = by_test (nat_lt n k) (not_less n k l)
  where
    not_less : (a b : ℕ) → b ≤ a → nat_lt a b ≡ false
    not_less a b e = grind (arith, nat_tests)

    by_test : (b : Bool) → b ≡ false → (if b then n + 1 else n) ≡ n
    by_test true e = cc
    by_test false e = refl

-- ---- from its emitter

-- the hub took in the next signal of what its emitter published
pub record HasAccepted {T : Type 0} (s t : HubState T) (v u w : Stream T) : Type 0 where
  pub kind : t.kind ≡ s.kind
  pub count : t.count ≡ counted (emitted w) s.count
  pub value : w ≡ hub_value t u.items
  pub ended : t.has_ended ≡ true → t.inbox ≡ []

pub has_accepted : {T : Type 0} (s : HubState T) (v w : Stream T) (sig : Signal T) → IsTaken s v → (s.has_ended ≡ true → s.inbox ≡ []) → w ≡ hub_value s v.items → waiting s ≡ Some sig → HasAccepted s (accepted s (Some sig)) v (with_signal sig v) w
has_accepted s v w (Next x) k none is waits =
    let f = first_item s.inbox s.ending s.has_ended x waits in
    let split : s.inbox ≡ x ∷ drop 1 s.inbox = f.1 ∙ ap (λ l. x ∷ l) (sym (ap (drop 1) f.1)) in
    let all = ap (λ y. length y.items) is ∙ length-append v.items s.inbox in
    let one = ap length f.1 in
    let counts = k.taken.counted in
    record {
      kind = refl;
      count = sym (rises s.count (length w.items) (omega (arith, counts, all, one)));
      value = is ∙ (λ i. record { items = (ap (λ l. v.items ++ l) split ∙ sym (append_assoc v.items (x ∷ []) (drop 1 s.inbox))) i; ending = s.ending });
      ended = λ e. let nothing = sym f.1 ∙ none e in cc;
    }
has_accepted s v w Complete k none is waits =
    let f = first_done s.inbox s.ending s.has_ended waits in
    let all = ap (λ y. length y.items) is ∙ length-append v.items s.inbox in
    let empty : drop 1 s.inbox ≡ [] = ap (drop 1) f.0 in
    let nothing = ap length f.0 in
    let counts = k.taken.counted in
    record {
      kind = refl;
      count = sym (stays s.count (length w.items) (omega (arith, counts, all, nothing)));
      value = is ∙ (λ i. record { items = ap (λ l. v.items ++ l) (f.0 ∙ sym empty) i; ending = f.1 i });
      ended = λ e. empty;
    }
has_accepted s v w (Error c) k none is waits =
    let f = first_failed s.inbox s.ending s.has_ended c waits in
    let all = ap (λ y. length y.items) is ∙ length-append v.items s.inbox in
    let empty : drop 1 s.inbox ≡ [] = ap (drop 1) f.0 in
    let nothing = ap length f.0 in
    let counts = k.taken.counted in
    record {
      kind = refl;
      count = sym (stays s.count (length w.items) (omega (arith, counts, all, nothing)));
      value = is ∙ (λ i. record { items = ap (λ l. v.items ++ l) (f.0 ∙ sym empty) i; ending = f.1 i });
      ended = λ e. empty;
    }

-- ---- from its feed

-- the hub took a signal of its feed in
pub record HasTaken {T : Type 0} (s t : HubState T) (sig : Signal T) : Type 0 where
  pub kind : t.kind ≡ s.kind
  pub count : t.count ≡ s.count + items_of sig
  pub inbox : t.inbox ≡ s.inbox
  pub unended : (s.has_ended ≡ false → s.ending ≡ Open) → t.has_ended ≡ false → t.ending ≡ Open

pub has_taken : {T : Type 0} (s : HubState T) (sig : Signal T) → HasTaken s (taken_in s sig) sig
has_taken s (Next x) = record { kind = refl; count = refl; inbox = refl; unended = λ k. k }
has_taken s Complete = record { kind = refl; count = sym (add-zero s.count); inbox = refl; unended = λ k e. cc }
has_taken s (Error c) = record { kind = refl; count = sym (add-zero s.count); inbox = refl; unended = λ k e. cc }
