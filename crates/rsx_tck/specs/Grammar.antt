-- The two formats of a trace: which texts are a trace of these events. What is written in `Format` is one of them.
use Rattle.std.specs.Prelude.{◌≡◌, ℕ, ◌≤◌, Bool, true, false, ◌⊎◌, List, [], ◌∷◌, ◌++◌, ℤ, pos, neg_ℤ, codes}
use Rattle.std.specs.List.{join_with_byte}
use Rattle.std.specs.Str.Parse.{IsNumeral, digits_value}
use Rattle.rsx_types.specs.declared.signal.Cause.{Cause}
use Rattle.rsx_types.specs.declared.signal.Cause.TheVariants.{User, Function, NonPositiveRequest}
use Rattle.rsx_tck.specs.declared.event.Event.{Event}
use Rattle.rsx_tck.specs.declared.event.Event.TheVariants as event
use Rattle.rsx_tck.specs.declared.event.Stamped.{Stamped}
use Rattle.rsx_tck.specs.Texts.{lines}

-- A number's text: the digits of its value, with as many zeros before them as one likes. No number is above the greatest.
pub record IsNumber (most : ℕ) (text : List ℕ) (n : ℕ) : Type 0 where
  pub digits : IsNumeral 10 text
  pub value : digits_value 10 text ≡ n
  pub small : n ≤ most

abbrev pub u32 : ℕ
u32 = 4294967295

-- The text of a number with a sign: that of a number, or `-` and that of a number. So `-0` is 0.
abbrev pub IsSigned : List ℕ → ℤ → Type 0
IsSigned text z =
    ((n : ℕ) × IsNumber 9223372036854775807 text n × (z ≡ pos n))
    ⊎ ((digits : List ℕ) × (n : ℕ) × (text ≡ codes "-" ++ digits) × IsNumber 9223372036854775808 digits n × (z ≡ neg_ℤ (pos n)))

-- the words of a cause
abbrev pub IsCause : List (List ℕ) → Cause → Type 0
IsCause words (User n) = (number : List ℕ) × IsNumber u32 number n × (words ≡ codes "user" ∷ number ∷ [])
IsCause words (Function n) = (number : List ℕ) × IsNumber u32 number n × (words ≡ codes "function" ∷ number ∷ [])
IsCause words NonPositiveRequest = words ≡ codes "bad-request" ∷ []

-- the words of what happened to a subscriber, without more
abbrev pub IsPlain : List ℕ → List (List ℕ) → ℕ → Type 0
IsPlain name words s = (number : List ℕ) × IsNumber u32 number s × (words ≡ name ∷ number ∷ [])

-- the words of an event
abbrev pub IsEvent : List (List ℕ) → Event → Type 0
IsEvent words (event.Subscribe s) = IsPlain (codes "subscribe") words s
IsEvent words (event.OnSubscribe s) = IsPlain (codes "on-subscribe") words s
IsEvent words (event.Next s) = IsPlain (codes "next") words s
IsEvent words (event.Complete s) = IsPlain (codes "complete") words s
IsEvent words (event.Error s cause) = (number : List ℕ) × (more : List (List ℕ)) × IsNumber u32 number s × IsCause more cause × (words ≡ codes "error" ∷ number ∷ more)
IsEvent words (event.Exit s) = IsPlain (codes "exit") words s
IsEvent words (event.Request s n) = (number amount : List ℕ) × IsNumber u32 number s × IsSigned amount n × (words ≡ codes "request" ∷ number ∷ amount ∷ [])
IsEvent words (event.Cancel s) = IsPlain (codes "cancel") words s
IsEvent words (event.CancelNew s) = IsPlain (codes "cancel-new") words s

-- A line has one space between two words, and none elsewhere. In format 1 it has the words of an event, which is worker
-- 0's; in format 2 the number of the worker stands before them.
abbrev pub IsLine : Bool → List ℕ → Stamped → Type 0
IsLine false line e = (words : List (List ℕ)) × (e.worker ≡ 0) × IsEvent words e.event × (line ≡ join_with_byte 32 words)
IsLine true line e = (worker : List ℕ) × (words : List (List ℕ)) × IsNumber 15 worker e.worker × IsEvent words e.event × (line ≡ join_with_byte 32 (worker ∷ words))

-- one line for each event
abbrev pub AreLines : Bool → List (List ℕ) → List Stamped → Type 0
AreLines stamped [] [] = Unit {0}
AreLines stamped [] (e ∷ events) = ⊥
AreLines stamped (line ∷ others) [] = ⊥
AreLines stamped (line ∷ others) (e ∷ events) = IsLine stamped line e × AreLines stamped others events

abbrev pub first_text : Bool → List ℕ
first_text false = codes "trace 1"
first_text true = codes "trace 2"

-- These lines are a trace of these events: the first says the format, then comes a line for each event, and the last is
-- `end`.
abbrev pub AreTrace : List (List ℕ) → List Stamped → Type 0
AreTrace parts events = (stamped : Bool) × (body : List (List ℕ)) × (parts ≡ first_text stamped ∷ (body ++ codes "end" ∷ [])) × AreLines stamped body events

abbrev pub IsTrace : List ℕ → List Stamped → Type 0
IsTrace text events = AreTrace (lines text) events
