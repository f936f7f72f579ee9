-- The kinds of events.
use Rattle.std.specs.Prelude.{ℕ, pos, negsuc, Bool, true, false, not, ◌&&◌, ◌||◌, ◌==◌}
use Rattle.rsx_types.specs.declared.Cause.TheVariants.{NonPositiveRequest}
use Rattle.rsx_tck.specs.declared.event.Event.{Event}
use Rattle.rsx_tck.specs.declared.event.Event.TheVariants.{Subscribe, OnSubscribe, Next, Complete, Error, Exit, Request, Cancel, CancelNew}
use Rattle.rsx_tck.specs.declared.event.Stamped.{Stamped}

-- the subscriber that an event names
abbrev pub subscriber_of : Event → ℕ
subscriber_of (Subscribe s) = s
subscriber_of (OnSubscribe s) = s
subscriber_of (Next s) = s
subscriber_of (Complete s) = s
subscriber_of (Error s _) = s
subscriber_of (Exit s) = s
subscriber_of (Request s _) = s
subscriber_of (Cancel s) = s
subscriber_of (CancelNew s) = s

-- a kind of event, of the subscriber s
abbrev pub of : ℕ → (Event → Bool) → Stamped → Bool
of s kind e = (subscriber_of e.event == s) && kind e.event

-- a kind of event, of the subscriber s on the worker w
abbrev pub of_on : ℕ → ℕ → (Event → Bool) → Stamped → Bool
of_on s w kind e = of s kind e && (e.worker == w)

abbrev pub is_subscribe : Event → Bool
is_subscribe (Subscribe _) = true
is_subscribe _ = false

abbrev pub is_on_subscribe : Event → Bool
is_on_subscribe (OnSubscribe _) = true
is_on_subscribe _ = false

abbrev pub is_next : Event → Bool
is_next (Next _) = true
is_next _ = false

-- Complete or Error
abbrev pub is_ending : Event → Bool
is_ending (Complete _) = true
is_ending (Error _ _) = true
is_ending _ = false

-- Next, Complete or Error
abbrev pub is_next_or_ending : Event → Bool
is_next_or_ending e = is_next e || is_ending e

-- OnSubscribe, Next, Complete or Error
abbrev pub is_signal : Event → Bool
is_signal e = is_on_subscribe e || is_next_or_ending e

abbrev pub is_exit : Event → Bool
is_exit (Exit _) = true
is_exit _ = false

abbrev pub is_request : Event → Bool
is_request (Request _ _) = true
is_request _ = false

-- how many items a Request asks for; none where its number is 0 or less
abbrev pub requested : Event → ℕ
requested (Request _ (pos n)) = n
requested (Request _ (negsuc _)) = 0
requested _ = 0

-- a Request of more than 0
abbrev pub is_positive_request : Event → Bool
is_positive_request e = is_request e && not (requested e == 0)

-- a Request of 0 or less
abbrev pub is_bad_request : Event → Bool
is_bad_request e = is_request e && (requested e == 0)

abbrev pub is_cancel : Event → Bool
is_cancel (Cancel _) = true
is_cancel _ = false

abbrev pub is_cancel_new : Event → Bool
is_cancel_new (CancelNew _) = true
is_cancel_new _ = false

-- Request or Cancel
abbrev pub is_request_or_cancel : Event → Bool
is_request_or_cancel e = is_request e || is_cancel e

-- Cancel, Complete or Error
abbrev pub is_cancel_or_ending : Event → Bool
is_cancel_or_ending e = is_cancel e || is_ending e

-- Error(NonPositiveRequest)
abbrev pub is_bad_request_error : Event → Bool
is_bad_request_error (Error _ NonPositiveRequest) = true
is_bad_request_error _ = false
