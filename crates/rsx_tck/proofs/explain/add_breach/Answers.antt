use Rattle.std.proofs.Common.{◌≡◌, ◌++◌, codes, ap, append_assoc, ◌∙◌}
use Rattle.std.specs.String.{string_bytes}
use Rattle.std.specs.Fmt.{decimal}
use Rattle.rsx_demand.specs.Demand.{saturating_total}
use Rattle.rsx_tck.specs.Explained.{event_there, place_text, sentence_line}
use Rattle.rsx_tck.specs.Rule.{text_of}
use Rattle.rsx_tck.proofs.explain.add_breach.Goals as goal

pub returns : goal.returns
returns c =
    let old = string_bytes c.args.out.now in
    let rule = c.args.rule in
    let position = c.args.position in
    let place = place_text c.args.first rule position in
    let event = event_there c.args.trace.now position in
    let line = c.saturating_total-line.ensures ∙ ap (λ n. saturating_total n position) c.saturating_total.ensures in
    let first : string_bytes c.write.new.self ≡ old ++ place =
    c.in_ok-write.ensures.bytes ∙ ap (λ n. old ++ (text_of rule ++ (codes " broken at " ++ (decimal position ++ (codes ", line " ++ decimal n))))) line in
    let second : string_bytes c.add_event.new.out ≡ (old ++ place) ++ event = c.in_ok-add_event.ensures ∙ ap (λ x. x ++ event) first in
    let third : string_bytes c.write-2.new.self ≡ string_bytes c.add_event.new.out ++ sentence_line rule =
    c.in_ok-write-2.ensures.bytes ∙ ap (λ s. string_bytes c.add_event.new.out ++ (codes "\n    " ++ (s ++ codes "\n"))) c.sentence-sentence.ensures in
    third ∙ ap (λ x. x ++ sentence_line rule) second ∙ append_assoc (old ++ place) event (sentence_line rule) ∙ append_assoc old place (event ++ sentence_line rule)
