-- What the judged rules say of a trace, for one subscriber s. Positions count from 0.
use Rattle.std.specs.Prelude.{◌≡◌, ℕ, ◌+◌, ◌<◌, ◌≤◌, Bool, List, [], ◌∷◌, length, take, Some, slice_get, IsTrue, min, sum_by, count_by, ◌==◌, if◌then◌else◌}
use Rattle.rsx_demand.specs.declared.TheConstants.{UNBOUNDED}
use Rattle.rsx_tck.specs.declared.event.Stamped.{Stamped}
use Rattle.rsx_tck.specs.declared.rule.Rule.{Rule}
use Rattle.rsx_tck.specs.declared.rule.Rule.TheVariants as rule
use Rattle.rsx_tck.specs.Events.{of, of_on, subscriber_of, requested, is_subscribe, is_on_subscribe, is_next, is_ending, is_next_or_ending, is_signal, is_exit, is_positive_request, is_bad_request, is_cancel, is_cancel_new, is_request_or_cancel, is_cancel_or_ending, is_bad_request_error}

-- at position i of the trace stands a p
abbrev pub At : (Stamped → Bool) → List Stamped → ℕ → Type 0
At p t i = (e : Stamped) × (slice_get t i ≡ Some e) × IsTrue (p e)

-- before position i stands a p
abbrev pub SomeBefore : (Stamped → Bool) → List Stamped → ℕ → Type 0
SomeBefore p t i = (h : ℕ) × (h < i) × At p t h

-- before position i stands no p
abbrev pub NoneBefore : (Stamped → Bool) → List Stamped → ℕ → Type 0
NoneBefore p t i = (h : ℕ) → h < i → ¬ At p t h

-- between the positions i and k stands a p
abbrev pub SomeBetween : (Stamped → Bool) → List Stamped → ℕ → ℕ → Type 0
SomeBetween p t i k = (j : ℕ) × (i < j) × (j < k) × At p t j

-- between the positions i and k stands no p
abbrev pub NoneBetween : (Stamped → Bool) → List Stamped → ℕ → ℕ → Type 0
NoneBetween p t i k = (j : ℕ) → i < j → j < k → ¬ At p t j

-- after a p stands no q
abbrev pub NoneAfter : (p q : Stamped → Bool) → List Stamped → Type 0
NoneAfter p q t = (i j : ℕ) → i < j → At p t i → ¬ At q t j

-- each q has a p before it
abbrev pub EachAfter : (p q : Stamped → Bool) → List Stamped → Type 0
EachAfter p q t = (j : ℕ) → At q t j → SomeBefore p t j

-- between a p and the next x stands no q; where no x follows, "the next x" is the trace's end
abbrev pub NoneUntil : (p x q : Stamped → Bool) → List Stamped → Type 0
NoneUntil p x q t = (i j : ℕ) → i < j → At p t i → NoneBetween x t i j → ¬ At q t j

-- P holds of the events up to and with each position
abbrev pub AtEachPosition : (List Stamped → Type 0) → List Stamped → Type 0
AtEachPosition P t = (i : ℕ) → i < length t → P (take (i + 1) t)

-- how many Nexts stand there
abbrev pub items_in : ℕ → List Stamped → ℕ
items_in s t = count_by (of s is_next) t

-- the sum of the positive Requests that stand there, at most 2^63-1
abbrev pub requests_in : ℕ → List Stamped → ℕ
requests_in s t = min UNBOUNDED (sum_by (λ e. if subscriber_of e.event == s then requested e.event else 0) t)

-- what stands before the first Cancel
abbrev pub before_cancel : ℕ → List Stamped → List Stamped
before_cancel s [] = []
before_cancel s (e ∷ t) = if of s is_cancel e then [] else e ∷ before_cancel s t

-- after a p that has no c before it, the first q is an r
abbrev pub FirstIs : (p c q r : Stamped → Bool) → List Stamped → Type 0
FirstIs p c q r t = (i j : ℕ) → (i < j) × At p t i × NoneBefore c t i × At q t j × NoneBetween q t i j → At r t j

-- at position i, on the worker w, stands a second or later OnSubscribe that has no Cancel, Complete or Error before it
abbrev pub IsUnwanted : ℕ → ℕ → List Stamped → ℕ → Type 0
IsUnwanted s w t i =
    At (of_on s w is_on_subscribe) t i × SomeBefore (of s is_on_subscribe) t i × NoneBefore (of s is_cancel_or_ending) t i

-- between an unwanted OnSubscribe and the next Exit on its worker stands a CancelNew on that worker
abbrev pub RefusesUnwanted : ℕ → List Stamped → Type 0
RefusesUnwanted s t = (w i k : ℕ) → i < k → IsUnwanted s w t i → At (of_on s w is_exit) t k →
    NoneBetween (of_on s w is_exit) t i k → SomeBetween (of_on s w is_cancel_new) t i k

-- the twelve sentences of one subscriber; 4.1 sums them up, and the rules that aren't judged say nothing
abbrev pub Sentence : Rule → ℕ → List Stamped → Type 0
Sentence rule.Rule1_1 s t = AtEachPosition (λ past. items_in s past ≤ requests_in s past) t
Sentence rule.Rule1_3 s t = (w : ℕ) → NoneUntil (of_on s w is_signal) (of_on s w is_exit) (of s is_signal) t
Sentence rule.Rule1_7 s t = NoneAfter (of s is_ending) (of s is_signal) t
Sentence rule.Rule1_9 s t = EachAfter (of s is_on_subscribe) (of s is_next_or_ending) t
Sentence rule.Rule1_10 s t = NoneAfter (of s is_subscribe) (of s is_subscribe) t
Sentence rule.Rule2_1 s t = EachAfter (of s is_positive_request) (of s is_next) t
Sentence rule.Rule2_3 s t = (w : ℕ) → NoneUntil (of_on s w is_ending) (of_on s w is_exit) (of_on s w is_request_or_cancel) t
Sentence rule.Rule2_5 s t = RefusesUnwanted s t
Sentence rule.Rule2_12 s t = NoneAfter (of s is_on_subscribe) (of s is_on_subscribe) t
Sentence rule.Rule3_6 s t = AtEachPosition (λ past. items_in s past ≤ requests_in s (before_cancel s past)) t
Sentence rule.Rule3_9 s t = FirstIs (of s is_bad_request) (of s is_cancel_or_ending) (of s is_ending) (of s is_bad_request_error) t
Sentence rule.Rule3_17 s t = EachAfter (of s is_bad_request) (of s is_bad_request_error) t
Sentence _ s t = Unit {0}

-- what a rule says: 4.1, that none of the twelve sentences is broken
abbrev pub Keeps : Rule → ℕ → List Stamped → Type 0
Keeps rule.Rule4_1 s t = (r : Rule) → Sentence r s t
Keeps r s t = Sentence r s t
