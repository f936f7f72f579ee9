-- What a pass over a trace knows of the events that it has read, and what its steps promise.
use Rattle.std.specs.Prelude.{◌≢◌, ◌&&◌, ◌==◌, Option, Some, None, if◌then◌else◌, ◌≡◌, ℕ, suc, ◌<◌, ◌≤◌, ⊤, min, nat_lt, slice_get, Bool, true, false, List, [], ◌∷◌, ◌++◌, length, take, slice_index_or, IsTrue, MatchBool, ◌↔◌}
use Rattle.rsx_tck.specs.declared.event.Stamped.{Stamped}
use Rattle.rsx_tck.specs.declared.pass.Effect.{Effect}
use Rattle.rsx_tck.specs.declared.pass.Effect.TheVariants.{Nothing, Breaks}
use Rattle.rsx_tck.specs.declared.answers.BadRequest.{BadRequest}
use Rattle.rsx_tck.specs.declared.answers.BadRequest.TheVariants.{NotYet, Unanswered, Settled}
use Rattle.rsx_tck.specs.Events.{subscriber_of, of, of_on, is_signal, is_ending, is_exit, is_on_subscribe, is_cancel_or_ending, is_cancel_new}
use Rattle.rsx_tck.specs.Sentences.{At, NoneBefore, IsUnwanted}

abbrev pub is_breach : Effect → Bool
is_breach Nothing = false
is_breach Breaks = true

-- a step from what was known of the past to what is known of it with one event more: the sentence,
-- kept so far, is broken by that event exactly where the effect says so
abbrev pub Judges : (List Stamped → Type 0) → (old new : List Stamped → Type 0) → Stamped → Effect → Type 0
Judges keeps old new e effect =
    (past : List Stamped) → old past → keeps past →
    MatchBool (is_breach effect) (¬ keeps (past ++ e ∷ [])) (new (past ++ e ∷ []) × keeps (past ++ e ∷ []))

-- each list of the first events, with at most n of them, keeps the sentence
abbrev pub KeepsThrough : (List Stamped → Type 0) → List Stamped → ℕ → Type 0
KeepsThrough keeps t n = (j : ℕ) → j < n → keeps (take (suc j) t)

-- the events up to and with position i break the sentence, and no fewer do
abbrev pub IsFirstBreach : (List Stamped → Type 0) → List Stamped → ℕ → Type 0
IsFirstBreach keeps t i = (i < length t) × (¬ keeps (take (suc i) t)) × KeepsThrough keeps t i

-- somewhere stands a p
abbrev pub Stands : (Stamped → Bool) → List Stamped → Type 0
Stands p t = (i : ℕ) × At p t i

-- a flag that says whether a p has stood
abbrev pub Tells : Bool → (Stamped → Bool) → List Stamped → Type 0
Tells flag p t = IsTrue flag ↔ Stands p t

-- a bad request at i, before which stands no Cancel, Complete and Error, and after which no Complete and Error
abbrev pub IsUnanswered : (bad settling ending : Stamped → Bool) → List Stamped → ℕ → Type 0
IsUnanswered bad settling ending t i = At bad t i × NoneBefore settling t i × ((j : ℕ) → i < j → ¬ At ending t j)

-- what a pass for 3.9 knows
abbrev pub KnowsAnswer : (bad settling ending : Stamped → Bool) → BadRequest → List Stamped → Type 0
KnowsAnswer bad settling ending NotYet t = (¬ Stands bad t) × (¬ Stands settling t)
KnowsAnswer bad settling ending Unanswered t = (i : ℕ) × IsUnanswered bad settling ending t i
KnowsAnswer bad settling ending Settled t = Stands settling t × ((i : ℕ) → ¬ IsUnanswered bad settling ending t i)

abbrev pub is_unanswered : BadRequest → Bool
is_unanswered Unanswered = true
is_unanswered _ = false

-- how an event of these kinds moves it
abbrev pub next_answer : (bad settling ending : Bool) → BadRequest → BadRequest
next_answer bad settling ending NotYet = if bad then Unanswered else (if settling then Settled else NotYet)
next_answer bad settling ending Unanswered = if ending then Settled else Unanswered
next_answer bad settling ending Settled = Settled

-- a p after which no x stands
abbrev pub IsOpen : (p x : Stamped → Bool) → List Stamped → Type 0
IsOpen p x t = (i : ℕ) × At p t i × ((k : ℕ) → i < k → ¬ At x t k)

-- what a pass for 1.3 knows: the worker whose signal of s is in progress, the only one
abbrev pub KnowsSignal : Option ℕ → ℕ → List Stamped → Type 0
KnowsSignal None s t = (w : ℕ) → ¬ IsOpen (of_on s w is_signal) (of_on s w is_exit) t
KnowsSignal (Some v) s t =
    IsOpen (of_on s v is_signal) (of_on s v is_exit) t
    × ((w : ℕ) → w ≢ v → ¬ IsOpen (of_on s w is_signal) (of_on s w is_exit) t)

-- how an event on a worker moves it: whether a signal begins and whether one exits
abbrev pub next_signal : (begins exits : Bool) → ℕ → Option ℕ → Option ℕ
next_signal begins exits w None = if begins then Some w else None
next_signal begins exits w (Some v) = if exits && (w == v) then None else Some v

-- a flag for each worker that says whether O holds of it
abbrev pub TellsWorkers : List Bool → (ℕ → Type 0) → Type 0
TellsWorkers flags O = (length flags ≡ 256) × ((w : ℕ) → w < 256 → IsTrue (slice_index_or flags w false) ↔ O w)

-- what a pass for 2.3 knows: the workers on which an ending of s is in progress
abbrev pub KnowsEndings : List Bool → ℕ → List Stamped → Type 0
KnowsEndings flags s t = TellsWorkers flags (λ w. IsOpen (of_on s w is_ending) (of_on s w is_exit) t)

-- on the worker w, an unwanted OnSubscribe after which no Exit and no CancelNew stands there
abbrev pub IsUnrefused : ℕ → ℕ → List Stamped → Type 0
IsUnrefused s w t =
    (i : ℕ) × IsUnwanted s w t i × ((k : ℕ) → i < k → ¬ At (of_on s w is_exit) t k)
    × ((k : ℕ) → i < k → ¬ At (of_on s w is_cancel_new) t k)

-- what a pass for 2.5 knows: whether an OnSubscribe has stood, whether a Cancel, Complete or Error has,
-- and the workers on which an unwanted subscription has not been refused yet
abbrev pub KnowsUnrefused : (opened settled : Bool) → List Bool → ℕ → List Stamped → Type 0
KnowsUnrefused opened settled flags s t =
    Tells opened (of s is_on_subscribe) t × Tells settled (of s is_cancel_or_ending) t
    × TellsWorkers flags (λ w. IsUnrefused s w t)

-- where the subscriber numbers that stand there from `from` on begin, or that none stands
abbrev pub BeginsAt : List Stamped → ℕ → Option ℕ → Type 0
BeginsAt t from None = (i : ℕ) (e : Stamped) → slice_get t i ≡ Some e → subscriber_of e.event < from
BeginsAt t from (Some s) =
    (from ≤ s) × ((i : ℕ) (e : Stamped) → slice_get t i ≡ Some e → from ≤ subscriber_of e.event → s ≤ subscriber_of e.event)

-- the lesser of two numbers, of which the second counts only from `from` on
abbrev pub least_from : ℕ → ℕ → Option ℕ → Option ℕ
least_from from n None = if nat_lt n from then None else Some n
least_from from n (Some s) = if nat_lt n from then Some s else Some (min s n)

-- a subscriber that comes before the next one to be judged
abbrev pub IsJudged : Option ℕ → ℕ → Type 0
IsJudged None s = ⊤
IsJudged (Some next) s = s < next
