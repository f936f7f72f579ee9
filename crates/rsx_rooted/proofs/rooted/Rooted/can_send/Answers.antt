use Rattle.std.proofs.Common.{sym, ◌∙◌}
use Rattle.rsx_rooted.proofs.Numbers.{not_root}
use Rattle.rsx_rooted.proofs.rooted.Rooted.can_send.Goals as goal

pub returns : goal.returns
returns g c = λ m. c.can_send.ensures m ∙ sym (not_root c.args.at _ _ c.if-at-eq0.false)
