-- The rules of a report, their numbers as text, and why a rule isn't judged.
use Rattle.std.specs.Prelude.{ℕ, List, [], ◌∷◌, ◌++◌, Option, Some, None, codes}
use Rattle.std.specs.Fmt.{decimal}
use Rattle.rsx_tck.specs.declared.rule.Rule.{Rule}
use Rattle.rsx_tck.specs.declared.rule.Rule.TheVariants as rule
use Rattle.rsx_tck.specs.declared.rule.Class.{Class}
use Rattle.rsx_tck.specs.declared.rule.Class.TheVariants.{Permits, Eventual, Unseen}
use Rattle.rsx_tck.specs.declared.rule.Verdict.{Verdict}
use Rattle.rsx_tck.specs.declared.rule.Verdict.TheVariants.{Held, Broken, NotJudged}

-- the rules in the order of a report
abbrev pub all_rules : List Rule
all_rules =
    rule.Rule1_1 ∷ rule.Rule1_2 ∷ rule.Rule1_3 ∷ rule.Rule1_4 ∷ rule.Rule1_5 ∷ rule.Rule1_6 ∷ rule.Rule1_7 ∷ rule.Rule1_8 ∷ rule.Rule1_9 ∷ rule.Rule1_10 ∷ rule.Rule1_11 ∷
    rule.Rule2_1 ∷ rule.Rule2_2 ∷ rule.Rule2_3 ∷ rule.Rule2_4 ∷ rule.Rule2_5 ∷ rule.Rule2_6 ∷ rule.Rule2_7 ∷ rule.Rule2_8 ∷ rule.Rule2_9 ∷ rule.Rule2_10 ∷ rule.Rule2_11 ∷ rule.Rule2_12 ∷ rule.Rule2_13 ∷
    rule.Rule3_1 ∷ rule.Rule3_2 ∷ rule.Rule3_3 ∷ rule.Rule3_4 ∷ rule.Rule3_5 ∷ rule.Rule3_6 ∷ rule.Rule3_7 ∷ rule.Rule3_8 ∷ rule.Rule3_9 ∷ rule.Rule3_10 ∷ rule.Rule3_11 ∷ rule.Rule3_12 ∷ rule.Rule3_13 ∷ rule.Rule3_14 ∷ rule.Rule3_15 ∷ rule.Rule3_16 ∷ rule.Rule3_17 ∷
    rule.Rule4_1 ∷ rule.Rule4_2 ∷ []

-- a rule's number
abbrev pub text_of : Rule → List ℕ
text_of rule.Rule1_1 = codes "1.1"
text_of rule.Rule1_2 = codes "1.2"
text_of rule.Rule1_3 = codes "1.3"
text_of rule.Rule1_4 = codes "1.4"
text_of rule.Rule1_5 = codes "1.5"
text_of rule.Rule1_6 = codes "1.6"
text_of rule.Rule1_7 = codes "1.7"
text_of rule.Rule1_8 = codes "1.8"
text_of rule.Rule1_9 = codes "1.9"
text_of rule.Rule1_10 = codes "1.10"
text_of rule.Rule1_11 = codes "1.11"
text_of rule.Rule2_1 = codes "2.1"
text_of rule.Rule2_2 = codes "2.2"
text_of rule.Rule2_3 = codes "2.3"
text_of rule.Rule2_4 = codes "2.4"
text_of rule.Rule2_5 = codes "2.5"
text_of rule.Rule2_6 = codes "2.6"
text_of rule.Rule2_7 = codes "2.7"
text_of rule.Rule2_8 = codes "2.8"
text_of rule.Rule2_9 = codes "2.9"
text_of rule.Rule2_10 = codes "2.10"
text_of rule.Rule2_11 = codes "2.11"
text_of rule.Rule2_12 = codes "2.12"
text_of rule.Rule2_13 = codes "2.13"
text_of rule.Rule3_1 = codes "3.1"
text_of rule.Rule3_2 = codes "3.2"
text_of rule.Rule3_3 = codes "3.3"
text_of rule.Rule3_4 = codes "3.4"
text_of rule.Rule3_5 = codes "3.5"
text_of rule.Rule3_6 = codes "3.6"
text_of rule.Rule3_7 = codes "3.7"
text_of rule.Rule3_8 = codes "3.8"
text_of rule.Rule3_9 = codes "3.9"
text_of rule.Rule3_10 = codes "3.10"
text_of rule.Rule3_11 = codes "3.11"
text_of rule.Rule3_12 = codes "3.12"
text_of rule.Rule3_13 = codes "3.13"
text_of rule.Rule3_14 = codes "3.14"
text_of rule.Rule3_15 = codes "3.15"
text_of rule.Rule3_16 = codes "3.16"
text_of rule.Rule3_17 = codes "3.17"
text_of rule.Rule4_1 = codes "4.1"
text_of rule.Rule4_2 = codes "4.2"

-- why a rule isn't judged; nothing for the thirteen that are
abbrev pub class_of : Rule → Option Class
class_of rule.Rule1_1 = None
class_of rule.Rule1_2 = Some Permits
class_of rule.Rule1_3 = None
class_of rule.Rule1_4 = Some Unseen
class_of rule.Rule1_5 = Some Unseen
class_of rule.Rule1_6 = Some Unseen
class_of rule.Rule1_7 = None
class_of rule.Rule1_8 = Some Eventual
class_of rule.Rule1_9 = None
class_of rule.Rule1_10 = None
class_of rule.Rule1_11 = Some Permits
class_of rule.Rule2_1 = None
class_of rule.Rule2_2 = Some Unseen
class_of rule.Rule2_3 = None
class_of rule.Rule2_4 = Some Unseen
class_of rule.Rule2_5 = None
class_of rule.Rule2_6 = Some Unseen
class_of rule.Rule2_7 = Some Unseen
class_of rule.Rule2_8 = Some Permits
class_of rule.Rule2_9 = Some Permits
class_of rule.Rule2_10 = Some Permits
class_of rule.Rule2_11 = Some Unseen
class_of rule.Rule2_12 = None
class_of rule.Rule2_13 = Some Unseen
class_of rule.Rule3_1 = Some Unseen
class_of rule.Rule3_2 = Some Unseen
class_of rule.Rule3_3 = Some Unseen
class_of rule.Rule3_4 = Some Unseen
class_of rule.Rule3_5 = Some Unseen
class_of rule.Rule3_6 = None
class_of rule.Rule3_7 = Some Unseen
class_of rule.Rule3_8 = Some Unseen
class_of rule.Rule3_9 = None
class_of rule.Rule3_10 = Some Permits
class_of rule.Rule3_11 = Some Permits
class_of rule.Rule3_12 = Some Eventual
class_of rule.Rule3_13 = Some Eventual
class_of rule.Rule3_14 = Some Unseen
class_of rule.Rule3_15 = Some Unseen
class_of rule.Rule3_16 = Some Unseen
class_of rule.Rule3_17 = None
class_of rule.Rule4_1 = None
class_of rule.Rule4_2 = Some Unseen

-- a class in a report
abbrev pub class_text : Class → List ℕ
class_text Permits = codes "permits"
class_text Eventual = codes "eventual"
class_text Unseen = codes "unseen"

-- a verdict in a report
abbrev pub verdict_text : Verdict → List ℕ
verdict_text Held = codes "held"
verdict_text (Broken position) = codes "broken at " ++ decimal position
verdict_text (NotJudged class) = codes "not judged: " ++ class_text class
