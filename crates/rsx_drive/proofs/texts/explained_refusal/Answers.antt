use Rattle.std.proofs.Common.{◌≡◌, ◌++◌, codes, ap, ◌∙◌}
use Rattle.std.specs.String.{string_bytes}
use Rattle.rsx_drive.specs.Judged.{title_text}
use Rattle.rsx_drive.proofs.texts.explained_refusal.Goals as goal

pub returns : goal.returns
returns c =
    let title = title_text (codes "expression") c.args.number in
    let titled : string_bytes c.add_title.new.out ≡ title = c.in_ok-add_title.ensures ∙ ap (λ x. x ++ title) c.new-text.ensures.bytes in
    c.in_ok-write.ensures.bytes ∙ ap (λ x. x ++ (codes "refused M1, " ++ (c.reason-reason.result.now ++ codes "\n"))) titled ∙
    ap (λ r. title ++ (codes "refused M1, " ++ (r ++ codes "\n"))) c.reason-reason.ensures
