-- What one sentence on an operator's answer says, part by part.
use Rattle.std.proofs.Common.{◌≡◌, true, false, [], List, Result, Ok, Err, refl}
use Rattle.std.specs.Prelude.{OnOk, OnErr, IfErr, IsOk}
use Rattle.rsx_sources.specs.Prelude.{Signal, Meaning, Allocates}
use Rattle.rsx_plain.specs.Moves.{Moves, EndsLast, has_ending}
use Rattle.rsx_plain.specs.State.{plain_from, is_over, after_signal, allocates_from, IsReaction}
use Rattle.rsx_plain.specs.declared.state.PlainState.{PlainState}

-- all that is said of the answer to a signal
pub record SaysAll {T A : Type 0} (m : Meaning T) (a : Allocates) (old : PlainState T) (s : Signal T) (r : Result A (Signal T)) (out : List (Signal T)) (new : PlainState T) : Type 0 where
  pub ok : OnOk r (Moves (plain_from m) old s out new)
  pub cut : OnOk r (EndsLast out)
  pub over : OnOk r (is_over new ≡ true → has_ending out ≡ true)
  pub state : OnOk r (new ≡ after_signal m old s)
  pub err : IfErr r (λ b. b ≡ s)
  pub memory : allocates_from a old ≡ false → IsOk r
  pub same : OnErr r (new ≡ old)
  pub none : OnErr r (out ≡ [])

pub says_all : {T A : Type 0} (m : Meaning T) (a : Allocates) (old : PlainState T) (s : Signal T) (r : Result A (Signal T)) (out : List (Signal T)) (new : PlainState T) → IsReaction m a old s r out new → SaysAll m a old s r out new
says_all m a old s (Ok x) out new h = record { ok = h.0; cut = h.1; over = h.2; state = h.3; err = tt; memory = λ n. refl; same = tt; none = tt }
says_all m a old s (Err e) out new h = record { ok = tt; cut = tt; over = tt; state = tt; err = h.0; memory = λ n. absurd (h.3 n); same = h.1; none = h.2 }
