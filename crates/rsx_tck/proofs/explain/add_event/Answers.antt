use Rattle.std.proofs.Common.{◌≡◌, ◌++◌, Some, slice_get, ap, sym, ◌∙◌}
use Rattle.std.specs.String.{string_bytes}
use Rattle.std.proofs.lemmas.Option.{slice_get-get_or}
use Rattle.rsx_tck.specs.Explained.{event_text_of}
use Rattle.rsx_tck.proofs.explain.add_event.Goals as goal

pub returns : goal.returns
returns c =
    let found = c.in-Some.ensures.lookup in
    let e = c.in-Some.stamped.now in
    let there : slice_get c.args.trace.now c.args.position ≡ Some e = slice_get-get_or c.args.trace.now c.args.position e found.3.0 ∙ ap Some (sym found.1) in
    c.in_ok-write.ensures.bytes ∙ ap (λ o. string_bytes c.args.out.now ++ event_text_of o) (sym there)
