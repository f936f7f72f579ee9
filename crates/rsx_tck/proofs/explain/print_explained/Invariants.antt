use Rattle.std.proofs.Common.{◌≡◌, ◌++◌, take}
use Rattle.std.specs.String.{string_bytes}
use Rattle.rsx_tck.specs.Explained.{breaches_text, summary_of, summary_text}
use Rattle.rsx_tck.specs.Verdicts.{IsReport}
use Rattle.rsx_tck.proofs.explain.print_explained.Given as goal

-- the text so far says how many rules are held and broken, and explains those among the first that are broken
abbrev pub invariant-loop-rule : goal.invariant-loop-rule
invariant-loop-rule l = record {
  report : IsReport l.trace l.rule-items;
  text : string_bytes l.text ≡ summary_text (summary_of l.rule-items) ++ breaches_text l.first l.trace (take l.rule-index l.rule-items);
}
