use Rattle.std.proofs.Common.{sym, ◌∙◌}
use Rattle.rsx_rooted.proofs.Parts.{quiet_when}
use Rattle.rsx_rooted.proofs.rooted.Rooted.is_at_rest.Goals as goal

pub returns-in-None : goal.returns-in-None
returns-in-None g c = λ m _. quiet_when g.M.Machine m c.args.self.now (g.S.Sink.room c.args.out.now) (sym (c.can_send_root.ensures m) ∙ c.if-can_send_root.false) (c.is_idle.ensures m c.if-is_idle.true) c.in-None.ensures.none
