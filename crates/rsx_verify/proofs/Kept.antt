-- What is recorded of subscriptions that go on so keeps each rule.
use Rattle.std.proofs.Common.{ℕ, List, ◌++◌, take}
use Rattle.rsx_verify.specs.Prelude.{Act, AreKept, AreUnbroken, AreVerified, IsKept, IsProcessed, IsRecorded, Line, Meaning, Rule, Sentence, Stamped, bad_request_acts, beginning, cancel_acts, processor_acts, publisher_acts, reader}
use Rattle.rsx_tck.specs.declared.rule.Rule.TheVariants as rule
use Rattle.rsx_subscriber.specs.Prelude.{Expr, region_of}
use Rattle.rsx_verify.proofs.Acting.{processed_goes, recorded_goes}
use Rattle.rsx_verify.proofs.Counted.{Covered, KeepsCounts, counts_first, counts_kept, covered_requests}
use Rattle.rsx_verify.proofs.Lines.{unbroken_lines}
use Rattle.rsx_verify.proofs.Once.{refuses}
use Rattle.rsx_verify.proofs.Ordered.{KeepsEndings, KeepsErrors, KeepsOnSubscribe, KeepsOpening, KeepsRequests, KeepsSubscribe, endings_first, endings_kept, errors_first, errors_kept, on_subscribe_begins, on_subscribe_kept, opening_first, opening_kept, requests_first, requests_kept, subscribe_begins, subscribe_kept}
use Rattle.rsx_verify.proofs.Paired.{ArePairs, beginning_pairs, each_paired, followed_pairs, pairs_more}
use Rattle.rsx_verify.proofs.Progress.{Progress, at, fresh, GoesOn, each_prefix}
use Rattle.rsx_verify.proofs.Signalled.{KeepsAnswers, KeepsApart, KeepsQuiet, answers_first, answers_kept, apart_first, apart_kept, quiet_first, quiet_kept}

covered : (s : ℕ) (p : Progress) (t : List Stamped) → KeepsCounts s p t → Covered s t
covered s (at p a n) t k = k.keeps

sentences : (s : ℕ) (q : Progress) (t : List Stamped) → GoesOn s (at fresh 0 0) t q → ArePairs s t → (j : ℕ) (r : Rule) → Sentence r s (take j t)
sentences s q t on pairs j rule.Rule1_1 = let k = each_prefix s (KeepsCounts s) (counts_kept s) (counts_first s) q t on j in covered_requests s (take j t) (covered s k.0 (take j t) k.1)
sentences s q t on pairs j rule.Rule1_3 = (each_paired s (KeepsApart s) (apart_kept s) (apart_first s) q t on pairs j).1.1.1
sentences s q t on pairs j rule.Rule1_7 = (each_prefix s (KeepsEndings s) (endings_kept s) (endings_first s) q t on j).1.1
sentences s q t on pairs j rule.Rule1_9 = (each_prefix s (KeepsOpening s) (opening_kept s) (opening_first s) q t on j).1.1
sentences s q t on pairs j rule.Rule1_10 = (each_prefix s (KeepsSubscribe s) (subscribe_kept s) (subscribe_begins s) q t on j).1.1
sentences s q t on pairs j rule.Rule2_1 = (each_prefix s (KeepsRequests s) (requests_kept s) (requests_first s) q t on j).1.1
sentences s q t on pairs j rule.Rule2_3 = (each_paired s (KeepsQuiet s) (quiet_kept s) (quiet_first s) q t on pairs j).1.1.1
sentences s q t on pairs j rule.Rule2_5 = refuses s (take j t) (each_prefix s (KeepsOnSubscribe s) (on_subscribe_kept s) (on_subscribe_begins s) q t on j).1.1
sentences s q t on pairs j rule.Rule2_12 = (each_prefix s (KeepsOnSubscribe s) (on_subscribe_kept s) (on_subscribe_begins s) q t on j).1.1
sentences s q t on pairs j rule.Rule3_6 = let k = each_prefix s (KeepsCounts s) (counts_kept s) (counts_first s) q t on j in covered s k.0 (take j t) k.1
sentences s q t on pairs j rule.Rule3_9 = (each_prefix s (KeepsAnswers s) (answers_kept s) (answers_first s) q t on j).1.1
sentences s q t on pairs j rule.Rule3_17 = (each_prefix s (KeepsErrors s) (errors_kept s) (errors_first s) q t on j).1.1
sentences s q t on pairs j _ = tt

kept_by : (t : List Stamped) → ((j s : ℕ) (r : Rule) → Sentence r s (take j t)) → (r : Rule) → IsKept r t
kept_by t all rule.Rule4_1 j s = λ r. all j s r
kept_by t all rule.Rule1_1 j s = all j s rule.Rule1_1
kept_by t all rule.Rule1_3 j s = all j s rule.Rule1_3
kept_by t all rule.Rule1_7 j s = all j s rule.Rule1_7
kept_by t all rule.Rule1_9 j s = all j s rule.Rule1_9
kept_by t all rule.Rule1_10 j s = all j s rule.Rule1_10
kept_by t all rule.Rule2_1 j s = all j s rule.Rule2_1
kept_by t all rule.Rule2_3 j s = all j s rule.Rule2_3
kept_by t all rule.Rule2_5 j s = all j s rule.Rule2_5
kept_by t all rule.Rule2_12 j s = all j s rule.Rule2_12
kept_by t all rule.Rule3_6 j s = all j s rule.Rule3_6
kept_by t all rule.Rule3_9 j s = all j s rule.Rule3_9
kept_by t all rule.Rule3_17 j s = all j s rule.Rule3_17
kept_by t all _ j s = tt

pub recorded_kept : {T : Type 0} (m : Meaning T) (e : Expr T) (acts : List Act) (t : List Stamped) → IsRecorded m e acts t → AreKept t
recorded_kept m e acts t run = kept_by t (λ j s r.
    let goes = recorded_goes m s e acts t run in
    let pairs = followed_pairs m s (region_of e) acts run.0 (beginning 0) t (beginning_pairs s 0) run.1.1 in
    sentences s goes.0 t goes.1 pairs j r)

pub processed_kept : {T : Type 0} (m : Meaning T) (e : Expr T) (acts : List Act) (t : List Stamped) → IsProcessed m e acts t → AreKept t
processed_kept {T} m e acts t run = kept_by t (λ j s r.
    let goes = processed_goes m s e acts t run in
    let first = pairs_more s (beginning 0) (beginning 1) (beginning_pairs s 0) (beginning_pairs s 1) in
    let pairs = followed_pairs m s (region_of {T = T} reader) acts run.0 (beginning 0 ++ beginning 1) t first run.1.1 in
    sentences s goes.0 t goes.1 pairs j r)

-- no line on the four runs is broken
pub verified_unbroken : {T : Type 0} (m : Meaning T) (e : Expr T) (lines : List Line) → AreVerified m e lines → AreUnbroken lines
verified_unbroken m e lines v =
    unbroken_lines v.publisher v.cancel v.bad_request v.processor lines (recorded_kept m e publisher_acts v.publisher v.published) (recorded_kept m e cancel_acts v.cancel v.cancelled)
    (recorded_kept m e bad_request_acts v.bad_request v.requested) (processed_kept m e processor_acts v.processor v.processed) v.judged
