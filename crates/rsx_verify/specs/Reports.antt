-- What the runs of an expression say of the rules.
use Rattle.std.specs.Prelude.{◌≡◌, ℕ, pos, negsuc, List, [], ◌∷◌, length, slice_get, Some, Bool, true, false, if◌then◌else◌}
use Rattle.rsx_tck.specs.declared.event.Stamped.{Stamped}
use Rattle.rsx_types.specs.Meaning.{Meaning}
use Rattle.rsx_model.specs.declared.expr.Expr.{Expr}
use Rattle.rsx_tck.specs.Rule.{all_rules}
use Rattle.rsx_tck.specs.Verdicts.{Judged}
use Rattle.rsx_tck.specs.declared.rule.Rule.{Rule}
use Rattle.rsx_tck.specs.declared.rule.Verdict.{Verdict}
use Rattle.rsx_tck.specs.declared.rule.Verdict.TheVariants.{Held, Broken, NotJudged}
use Rattle.rsx_verify.specs.declared.act.Act.{Act}
use Rattle.rsx_verify.specs.declared.act.Act.TheVariants.{Request, Cancel, Pump}
use Rattle.rsx_verify.specs.declared.line.Line.{Line}
use Rattle.rsx_verify.specs.Runs.{IsProcessed, IsRecorded, subscriber}

-- the run of a publisher: an item, and then all that there are
abbrev pub publisher_acts : List Act
publisher_acts = Request (subscriber 0) (pos 1) ∷ Pump ∷ Request (subscriber 0) (pos 9223372036854775807) ∷ Pump ∷ []

-- the run of a subscriber that cancels, and requests after it
abbrev pub cancel_acts : List Act
cancel_acts = Request (subscriber 0) (pos 1) ∷ Pump ∷ Cancel (subscriber 0) ∷ Request (subscriber 0) (pos 5) ∷ Pump ∷ []

-- the run of a subscriber that requests badly, twice
abbrev pub bad_request_acts : List Act
bad_request_acts = Request (subscriber 0) (pos 0) ∷ Pump ∷ Request (subscriber 0) (negsuc 0) ∷ Pump ∷ []

-- the run of a processor with two subscribers: each requests, the first cancels, and the second requests all that there are
abbrev pub processor_acts : List Act
processor_acts =
    Request (subscriber 0) (pos 3) ∷ Request (subscriber 1) (pos 3) ∷ Pump ∷ Cancel (subscriber 0)
    ∷ Request (subscriber 1) (pos 9223372036854775807) ∷ Pump ∷ []

abbrev pub is_broken : Verdict → Bool
is_broken Held = false
is_broken (Broken i) = true
is_broken (NotJudged c) = false

-- the first run that breaks a rule, with its verdict; 0 where none does, with the verdict on the first
abbrev pub first_broken : Verdict → Verdict → Verdict → Verdict → ℕ × Verdict
first_broken a b c d =
    if is_broken a then (1, a) else (if is_broken b then (2, b) else (if is_broken c then (3, c) else (if is_broken d then (4, d) else (0, a))))

abbrev pub line_of : Rule → ℕ × Verdict → Line
line_of r v = record { rule = r; run = v.0; verdict = v.1 }

-- the line of a rule, from what each of four traces says of it
abbrev pub IsLine : List Stamped → List Stamped → List Stamped → List Stamped → Rule → Line → Type 0
IsLine t u v w r line =
    (a : Verdict) × ((b : Verdict) × ((c : Verdict) × ((d : Verdict) × (Judged r t a × Judged r u b × Judged r v c × Judged r w d × (line ≡ line_of r (first_broken a b c d))))))

-- a line for each rule, in the order of the rules
abbrev pub AreLines : (Rule → Line → Type 0) → List Line → Type 0
AreLines P lines =
    (length lines ≡ 43) × ((k : ℕ) (r : Rule) → slice_get all_rules k ≡ Some r → (line : Line) × (slice_get lines k ≡ Some line) × P r line)

-- no run breaks the line's rule
abbrev pub IsUnbroken : Line → Type 0
IsUnbroken line = (line.run ≡ 0) × (is_broken line.verdict ≡ false)

abbrev pub AreUnbroken : List Line → Type 0
AreUnbroken lines = (k : ℕ) (line : Line) → slice_get lines k ≡ Some line → IsUnbroken line

-- the lines say what the four runs of the expression say of the rules
pub record AreVerified {T : Type 0} (m : Meaning T) (e : Expr T) (lines : List Line) : Type 0 where
  pub publisher : List Stamped
  pub cancel : List Stamped
  pub bad_request : List Stamped
  pub processor : List Stamped
  pub published : IsRecorded m e publisher_acts publisher
  pub cancelled : IsRecorded m e cancel_acts cancel
  pub requested : IsRecorded m e bad_request_acts bad_request
  pub processed : IsProcessed m e processor_acts processor
  pub judged : AreLines (IsLine publisher cancel bad_request processor) lines
