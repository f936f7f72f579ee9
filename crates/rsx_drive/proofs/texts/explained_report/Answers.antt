use Rattle.std.proofs.Common.{◌≡◌, ◌++◌, codes, ap, ◌∙◌}
use Rattle.std.specs.String.{string_bytes}
use Rattle.rsx_drive.specs.Judged.{title_text}
use Rattle.rsx_drive.proofs.texts.explained_report.Goals as goal

pub returns : goal.returns
returns c =
    let title = title_text (codes "trace") c.args.number in
    let report = string_bytes c.in_ok-report.report in
    let titled : string_bytes c.add_title.new.out ≡ title = c.in_ok-add_title.ensures ∙ ap (λ x. x ++ title) c.new-text.ensures.bytes in
    (report, c.in_ok-report.ensures, c.in_ok-push_str.ensures.bytes ∙ ap (λ x. x ++ c.as_str.result.now) titled ∙ ap (λ r. title ++ r) c.as_str.ensures.value)
