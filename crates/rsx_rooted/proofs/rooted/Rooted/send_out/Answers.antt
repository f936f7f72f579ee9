use Rattle.std.proofs.Common.{sym, ◌∙◌}
use Rattle.rsx_rooted.proofs.Sends.{shown_out}
use Rattle.rsx_rooted.proofs.rooted.Rooted.send_out.Goals as goal

pub returns-clause-sent : goal.returns-clause-sent
returns-clause-sent g c =
    let m = g.O.Ops.meaning c.args.ops.now in
    shown_out g.M.Machine m c.args.self.now (record { tree = c.pop.new.self; root = c.carry.new.self }) c.in-Ok-Some.signal c.in-Some.front (c.in-Some.ensures m) (sym c.can_carry.ensures ∙ c.if-not-can_carry.false)
    (rw c.in-Ok-Some.field-0-is at c.in-Ok-Some.ensures.ok) c.carry.ensures
