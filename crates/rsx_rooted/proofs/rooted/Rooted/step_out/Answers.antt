use Rattle.std.proofs.Common.{◌≡◌, ◌+◌, ◌-◌, sym, ◌∙◌, arith}
use Rattle.rsx_rooted.proofs.Fetches.{fetched_by_root}
use Rattle.rsx_rooted.proofs.rooted.Rooted.step_out.Goals as goal

pub returns-in-Some-clause-out : goal.returns-in-Some-clause-out
returns-in-Some-clause-out g c =
    let two : (c.args.left.now - 2) + 2 ≡ c.args.left.now = let h = c.if-left-lt2.false in omega (arith, h) in
    fetched_by_root g.M.Machine (g.O.Ops.meaning c.args.ops.now) c.args.left.now (c.args.left.now - 2) c.args.self.now (record { tree = c.step_item.new.self; root = c.carry.new.self }) c.in-Some.item c.in-Some.ensures two
    (sym c.can_carry.ensures ∙ c.if-not-can_carry.false) c.carry.ensures
