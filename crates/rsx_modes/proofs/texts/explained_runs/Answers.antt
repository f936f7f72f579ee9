use Rattle.std.proofs.Common.{◌≡◌, ◌++◌, codes, ap, ◌∙◌}
use Rattle.std.specs.String.{string_bytes}
use Rattle.rsx_tck.specs.Explained.{summary_text}
use Rattle.rsx_drive.specs.Judged.{title_text}
use Rattle.rsx_modes.proofs.texts.explained_runs.Goals as goal

pub returns : goal.returns
returns c =
    let title = title_text (codes "expression") c.args.number in
    let titled : string_bytes c.add_title.new.out ≡ title = c.in_ok-add_title.ensures ∙ ap (λ x. x ++ title) c.new-text.ensures.bytes in
    c.in_ok-add_to.ensures ∙ ap (λ x. x ++ summary_text c.summary_of_runs.result) titled ∙ ap (λ s. title ++ summary_text s) c.summary_of_runs.ensures
