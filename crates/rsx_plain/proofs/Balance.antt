-- The counts of a node.
use Rattle.std.proofs.Common.{◌≡◌, ℕ, suc, ◌+◌, ◌==◌, Bool, true, false, ◌&&◌, List, [], ◌∷◌, length, Some, refl, sym, ap, ◌∙◌, subst, arith}
use Rattle.std.proofs.lemmas.Bool.Decides.{nat_tests}
use Rattle.rsx_sources.specs.Prelude.{Signal, Next, Complete, Error, CountsIn, CountsOut, ends_input, taken_after, is_nil}
use Rattle.rsx_plain.specs.Moves.{has_ending}
use Rattle.rsx_plain.specs.Node.{plain_ended, plain_takes, plain_popped, plain_counted}
use Rattle.rsx_plain.specs.State.{balanced, is_over, Counts}
use Rattle.rsx_plain.specs.declared.node.PlainNode.{PlainNode}
use Rattle.rsx_plain.specs.declared.state.PlainState.{PlainState}
use Rattle.rsx_sources.proofs.Slots.{nil_of}

both : (b : Bool) → b ≡ true → b ≡ false → ⊥
both b x y = cc

pub left_of : (a b : Bool) → a && b ≡ true → a ≡ true
left_of true b e = refl
left_of false b e = cc

pub right_of : (a b : Bool) → a && b ≡ true → b ≡ true
right_of true b e = e
right_of false b e = cc

pub is_zero : (i : ℕ) → (i == 0) ≡ true → i ≡ 0
is_zero i e = grind (arith, nat_tests)

-- ---- the counts

-- a signal was taken
pub plain_counts_in : {T : Type 0} (old new : PlainNode T) (i : ℕ) (s : Signal T) → plain_takes old i ≡ true → Counts old.state s new.slot new.state → (is_over new.state ≡ true → plain_ended new ≡ true) →
    CountsIn plain_counted plain_ended (λ n j. false) old i s new
plain_counts_in {T} old new i s takes counts over =
    record {
      stays_ended = λ e. absurd (both (plain_ended old) e (ap has_ending empty));
      counts = λ still taken sent c. by_signal s counts still taken sent c;
      stays_done = λ j h. h;
      is_done = λ still e. absurd (by_ending s counts still e);
    }
  where
    empty : old.slot ≡ []
    empty = nil_of old.slot (right_of (i == 0) (is_nil old.slot) takes)

    first : i ≡ 0
    first = is_zero i (left_of (i == 0) (is_nil old.slot) takes)

    by_over : (b : Bool) → is_over new.state ≡ b → plain_ended new ≡ false → is_over new.state ≡ false
    by_over true o still = absurd (both (plain_ended new) (over o) still)
    by_over false o still = o

    by_ending : (s : Signal T) → Counts old.state s new.slot new.state → plain_ended new ≡ false → ends_input s ≡ true → ⊥
    by_ending (Next x) k still e = cc
    by_ending Complete k still e = both (plain_ended new) k still
    by_ending (Error c) k still e = both (plain_ended new) k still

    by_signal : (s : Signal T) → Counts old.state s new.slot new.state → plain_ended new ≡ false → (taken : List ℕ) (sent : ℕ) → plain_counted old taken sent → plain_counted new (taken_after i s taken) sent
    by_signal (Next x) k still taken sent c =
        let none : length old.slot ≡ 0 = ap length empty in
        let put : sent + length old.slot + length new.slot ≡ sent + length new.slot = omega (arith, none) in
        let B : ℕ → Type 0 = λ p. balanced new.state (c.0 + 1) p in
        let at : taken_after i (Next x) taken ≡ (c.0 + 1) ∷ [] = ap (λ j. taken_after j (Next x) taken) first ∙ ap (taken_after 0 (Next x)) c.1 in
        (c.0 + 1, at, by_over (is_over new.state) refl still, subst B put (k still c.0 (sent + length old.slot) c.3))
    by_signal Complete k still taken sent c = absurd (both (plain_ended new) k still)
    by_signal (Error f) k still taken sent c = absurd (both (plain_ended new) k still)

-- a signal was taken out
pub plain_counts_out : {T : Type 0} (old new : PlainNode T) (s : Signal T) → plain_popped old s new → CountsOut plain_counted plain_ended (λ n j. false) old (Some s) new
plain_counts_out {T} old new (Next x) p = (sym (ap has_ending p.0), moved, λ j h. h)
  where
    one_longer : (k : ℕ) → suc k ≡ k + 1
    one_longer k = omega arith

    moved : (taken : List ℕ) (sent : ℕ) → plain_counted old taken sent → plain_counted new taken (sent + 1)
    moved taken sent c =
        let fewer : length old.slot ≡ length new.slot + 1 = ap length p.0 ∙ one_longer (length new.slot) in
        let put : sent + length old.slot ≡ sent + 1 + length new.slot = omega (arith, fewer) in
        let S : PlainState T → Type 0 = λ st. balanced st c.0 (sent + length old.slot) in
        let B : ℕ → Type 0 = λ k. balanced new.state c.0 k in
        (c.0, c.1, ap is_over (sym p.1) ∙ c.2, subst B put (subst S p.1 c.3))
plain_counts_out old new Complete p = tt
plain_counts_out old new (Error c) p = tt
