-- What stands while a signal is in progress, and what answers a bad request.
use Rattle.std.proofs.Common.{◌≡◌, ◌≢◌, ℕ, zero, suc, pos, negsuc, inl, inr, true, false, not, ◌&&◌, List, [], ◌∷◌, ◌++◌, Option, Some, None, refl, sym, ap, ◌∙◌}
use Rattle.std.specs.Prelude.{if◌then◌else◌, is_some}
use Rattle.std.proofs.lemmas.Bool.{eq-eqb}
use Rattle.rsx_verify.specs.Prelude.{Event, FirstIs, IsOpen, KnowsAnswer, KnowsSignal, Nothing, Stamped, is_bad_request, is_bad_request_error, is_cancel_or_ending, is_ending, is_exit, is_request_or_cancel, is_signal, is_unanswered, next_answer, next_signal, of, of-other, of-same, of_on, subscriber_of}
use Rattle.rsx_tck.specs.declared.event.Event.TheVariants.{Subscribe, OnSubscribe, Next, Complete, Error, Exit, Request, Cancel}
use Rattle.rsx_tck.specs.declared.answers.BadRequest.{BadRequest}
use Rattle.rsx_tck.specs.declared.answers.BadRequest.TheVariants.{NotYet, Unanswered, Settled}
use Rattle.rsx_tck.specs.Laws.Answering.{answer-step, answered-none, answered-other, knows_answer-none, knows_answer-other}
use Rattle.rsx_tck.specs.Laws.Running.{Apart, apart-none, apart-other, knows_signal-none, knows_signal-other, none_until-more, on-same, open-cases, open-none, signal-step}
use Rattle.rsx_tck.specs.Laws.Working.{QuietInEnding, on-parts, quiet-none, quiet-other}
use Rattle.rsx_verify.proofs.Ordered.{not_none, of_kind}
use Rattle.rsx_verify.proofs.Paired.{IsKeptOn, worker_after}
use Rattle.rsx_verify.proofs.Progress.{Progress, at, fresh, subscribed, receiving, running, refusing, ending, over, after, May, Goes, IsKeptBy}

-- ---- one signal at a time

-- the worker of the signal that is in progress, where the last one began on this worker
abbrev pub signal_at : Progress → ℕ → Option ℕ
signal_at (at receiving a n) v = Some v
signal_at (at ending a n) v = Some v
signal_at (at p a n) v = None

-- a signal returns on its worker
returns : (w v : ℕ) → w ≡ v → None ≡ next_signal false true w (Some v)
returns w v here = sym (ap (λ b. if true && b then None else Some v) (eq-eqb w v here))

signal_moves : (p : Progress) (e : Event) (w v : ℕ) → May p e → (is_exit e ≡ true → w ≡ v) → signal_at (after p e) (if is_signal e then w else v) ≡ next_signal (is_signal e) (is_exit e) w (signal_at p v)
signal_moves (at fresh a n) (Subscribe s) w v m here = refl
signal_moves (at subscribed a n) (OnSubscribe s) w v m here = refl
signal_moves (at receiving a n) (Exit s) w v m here = returns w v (here refl)
signal_moves (at running a n) (Next s) w v m here = refl
signal_moves (at running a n) (Complete s) w v m here = refl
signal_moves (at running a n) (Error s c) w v m here = refl
signal_moves (at running a n) (Request s (pos zero)) w v m here = refl
signal_moves (at running a n) (Request s (pos (suc k))) w v m here = refl
signal_moves (at running a n) (Request s (negsuc k)) w v m here = refl
signal_moves (at running a n) (Cancel s) w v m here = refl
signal_moves (at refusing a n) (Error s c) w v m here = refl
signal_moves (at ending a n) (Exit s) w v m here = returns w v (here refl)
signal_moves (at over a n) (Request s r) w v m here = refl
signal_moves (at over a n) (Cancel s) w v m here = refl
signal_moves _ e w v m here = absurd m

none_meanwhile : (p : Progress) (e : Event) (v : ℕ) → May p e → (is_some (signal_at p v) && is_signal e) ≡ false
none_meanwhile (at receiving a n) (Exit s) v m = refl
none_meanwhile (at ending a n) (Exit s) v m = refl
none_meanwhile (at fresh a n) e v m = refl
none_meanwhile (at subscribed a n) e v m = refl
none_meanwhile (at running a n) e v m = refl
none_meanwhile (at refusing a n) e v m = refl
none_meanwhile (at over a n) e v m = refl
none_meanwhile _ e v m = absurd m

-- the worker after an event of this subscriber
worker_own : (me v : ℕ) (e : Stamped) → subscriber_of e.event ≡ me → worker_after me v e ≡ (if is_signal e.event then e.worker else v)
worker_own me v e own = ap (λ b. if b then e.worker else v) (of-same me is_signal e own)

abbrev pub KeepsApart : ℕ → Progress → ℕ → List Stamped → Type 0
KeepsApart me p v t = KnowsSignal (signal_at p v) me t × Apart me t

apart_own : (me : ℕ) (p : Progress) (v : ℕ) (t : List Stamped) (e : Stamped) → Goes me p e → (is_exit e.event ≡ true → e.worker ≡ v) → KeepsApart me p v t → KeepsApart me (after p e.event) (worker_after me v e) (t ++ e ∷ [])
apart_own me p v t e goes here (knows, keeps) =
    let moves : signal_at (after p e.event) (worker_after me v e) ≡ next_signal (is_signal e.event) (is_exit e.event) e.worker (signal_at p v) =
    ap (signal_at (after p e.event)) (worker_own me v e goes.own) ∙ signal_moves p e.event e.worker v goes.may here in
    signal-step me e (signal_at p v) (signal_at (after p e.event) (worker_after me v e)) Nothing goes.own moves (sym (none_meanwhile p e.event v goes.may)) t knows keeps

pub apart_kept : (me : ℕ) → IsKeptOn me (KeepsApart me)
apart_kept me = record {
  own = λ p v t e goes here k. apart_own me p v t e goes here k;
  other = λ p v t e ne k. (knows_signal-other (signal_at p v) me t e ne k.0, apart-other me t e ne k.1);
}

pub apart_first : (me : ℕ) → KeepsApart me (at fresh 0 0) 0 []
apart_first me = (knows_signal-none me, apart-none me)

-- ---- no call while an ending is in progress

abbrev pub IsEnding : Progress → Type 0
IsEnding (at ending a n) = Unit {0}
IsEnding (at p a n) = ⊥

-- an ending in progress began on this worker
abbrev pub KnowsEnding : ℕ → Progress → ℕ → List Stamped → Type 0
KnowsEnding me p v t = (w : ℕ) → IsOpen (of_on me w is_ending) (of_on me w is_exit) t → IsEnding p × (w ≡ v)

ending_signal : (e : Event) → is_ending e ≡ true → is_signal e ≡ true
ending_signal (Complete s) is = refl
ending_signal (Error s c) is = refl
ending_signal e is = absurd (cc)

-- an ending's own worker
ending_worker : (me v : ℕ) (e : Stamped) → subscriber_of e.event ≡ me → is_ending e.event ≡ true → e.worker ≡ worker_after me v e
ending_worker me v e own is = sym (worker_own me v e own ∙ ap (λ b. if b then e.worker else v) (ending_signal e.event is))

ending_begins : (p : Progress) (e : Event) → May p e → is_ending e ≡ true → IsEnding (after p e)
ending_begins (at running a n) (Complete s) m is = tt
ending_begins (at running a n) (Error s c) m is = tt
ending_begins (at refusing a n) (Error s c) m is = tt
ending_begins p (Complete s) m is = absurd m
ending_begins p (Error s c) m is = absurd m
ending_begins p e m is = absurd (cc)

ending_exits : (p : Progress) (e : Event) → May p e → IsEnding p → is_exit e ≡ true
ending_exits (at ending a n) (Exit s) m is = refl
ending_exits (at ending a n) e m is = absurd m
ending_exits p e m is = absurd is

never_called : (p : Progress) (e : Event) → May p e → is_request_or_cancel e ≡ true → IsEnding p → ⊥
never_called (at ending a n) (Exit s) m is e = absurd (cc)
never_called (at ending a n) x m is e = m
never_called p x m is e = e

abbrev pub KeepsQuiet : ℕ → Progress → ℕ → List Stamped → Type 0
KeepsQuiet me p v t = KnowsEnding me p v t × QuietInEnding me t

quiet_own : (me : ℕ) (p : Progress) (v : ℕ) (t : List Stamped) (e : Stamped) → Goes me p e → (is_exit e.event ≡ true → e.worker ≡ v) → KeepsQuiet me p v t → KeepsQuiet me (after p e.event) (worker_after me v e) (t ++ e ∷ [])
quiet_own me p v t e goes here (knows, keeps) = (
  (λ w found. elim (open-cases (of_on me w is_ending) (of_on me w is_exit) t e found) [
    | inl new ↦ (let where_is = on-parts me w is_ending e new in
        let is = of_kind me is_ending e.worker e.event where_is.1 in
        (ending_begins p e.event goes.may is, sym where_is.0 ∙ ending_worker me v e goes.own is))
    | inr (old, ne) ↦ (let was = knows w old in
        let exits = ending_exits p e.event goes.may was.0 in
        absurd (ne (on-same me w is_exit e goes.own (here exits ∙ sym was.1) ∙ exits)))
  ]),
  (λ w. none_until-more (of_on me w is_ending) (of_on me w is_exit) (of_on me w is_request_or_cancel) t e (keeps w)
      (λ new found. never_called p e.event goes.may (of_kind me is_request_or_cancel e.worker e.event (on-parts me w is_request_or_cancel e new).1) (knows w found).0)),
)

quiet_beside : (me : ℕ) (p : Progress) (v : ℕ) (t : List Stamped) (e : Stamped) → subscriber_of e.event ≢ me → KeepsQuiet me p v t → KeepsQuiet me p v (t ++ e ∷ [])
quiet_beside me p v t e other (knows, keeps) = (
  (λ w found. elim (open-cases (of_on me w is_ending) (of_on me w is_exit) t e found) [
    | inl new ↦ (let where_is = on-parts me w is_ending e new in let off = of-other me is_ending e other in absurd (cc))
    | inr (old, ne) ↦ knows w old
  ]),
  quiet-other me t e other keeps,
)

pub quiet_kept : (me : ℕ) → IsKeptOn me (KeepsQuiet me)
quiet_kept me = record {
  own = λ p v t e goes here k. quiet_own me p v t e goes here k;
  other = λ p v t e ne k. quiet_beside me p v t e ne k;
}

pub quiet_first : (me : ℕ) → KeepsQuiet me (at fresh 0 0) 0 []
quiet_first me = ((λ w found. absurd (open-none (of_on me w is_ending) (of_on me w is_exit) found)), quiet-none me)

-- ---- the answer of a bad request

abbrev pub answer_at : Progress → BadRequest
answer_at (at refusing a n) = Unanswered
answer_at (at ending a n) = Settled
answer_at (at over a n) = Settled
answer_at (at p a n) = NotYet

answer_moves : (p : Progress) (e : Event) → May p e → answer_at (after p e) ≡ next_answer (is_bad_request e) (is_cancel_or_ending e) (is_ending e) (answer_at p)
answer_moves (at fresh a n) (Subscribe s) m = refl
answer_moves (at subscribed a n) (OnSubscribe s) m = refl
answer_moves (at receiving a n) (Exit s) m = refl
answer_moves (at running a n) (Next s) m = refl
answer_moves (at running a n) (Complete s) m = refl
answer_moves (at running a n) (Error s c) m = refl
answer_moves (at running a n) (Request s (pos zero)) m = refl
answer_moves (at running a n) (Request s (pos (suc k))) m = ap (λ b. next_answer b false false NotYet) (sym (not_none k))
answer_moves (at running a n) (Request s (negsuc k)) m = refl
answer_moves (at running a n) (Cancel s) m = refl
answer_moves (at refusing a n) (Error s c) m = refl
answer_moves (at ending a n) (Exit s) m = refl
answer_moves (at over a n) (Request s r) m = refl
answer_moves (at over a n) (Cancel s) m = refl
answer_moves _ e m = absurd m

well_answered : (p : Progress) (e : Event) → May p e → (is_unanswered (answer_at p) && (is_ending e && not (is_bad_request_error e))) ≡ false
well_answered (at fresh a n) e m = refl
well_answered (at subscribed a n) e m = refl
well_answered (at receiving a n) e m = refl
well_answered (at running a n) e m = refl
well_answered (at ending a n) e m = refl
well_answered (at over a n) e m = refl
well_answered (at refusing a n) (Error s c) m = ap (λ x. not (is_bad_request_error (Error s x))) m
well_answered _ e m = absurd m

abbrev pub Answers : ℕ → List Stamped → Type 0
Answers s t = FirstIs (of s is_bad_request) (of s is_cancel_or_ending) (of s is_ending) (of s is_bad_request_error) t

abbrev pub KeepsAnswers : ℕ → Progress → List Stamped → Type 0
KeepsAnswers me p t = KnowsAnswer (of me is_bad_request) (of me is_cancel_or_ending) (of me is_ending) (answer_at p) t × Answers me t

answers_own : (me : ℕ) (p : Progress) (t : List Stamped) (e : Stamped) → Goes me p e → KeepsAnswers me p t → KeepsAnswers me (after p e.event) (t ++ e ∷ [])
answers_own me p t e goes (knows, keeps) =
    answer-step me e (answer_at p) (answer_at (after p e.event)) Nothing goes.own (answer_moves p e.event goes.may) (sym (well_answered p e.event goes.may)) t knows keeps

pub answers_kept : (me : ℕ) → IsKeptBy me (KeepsAnswers me)
answers_kept me = record {
  own = λ p t e goes k. answers_own me p t e goes k;
  other = λ p t e ne k. (knows_answer-other (answer_at p) me t e ne k.0, answered-other me t e ne k.1);
}

pub answers_first : (me : ℕ) → KeepsAnswers me (at fresh 0 0) []
answers_first me = (knows_answer-none me, answered-none me)
