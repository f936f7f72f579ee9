use Rattle.std.proofs.Common.{sym, ◌∙◌}
use Rattle.rsx_rooted.proofs.Tries.{gone_dead, gone_live}
use Rattle.rsx_rooted.proofs.chain.+go_on.Goals as goal

pub go_on_below-returns-then-is_live-clause-went : goal.go_on_below-returns-then-is_live-clause-went
go_on_below-returns-then-is_live-clause-went g t c =
    gone_live g.M.Batches.went c.args.notes.now.items c.args.took c.args.row.now c.in-More.edge c.carry_all.new.edge c.in-More.sender c.go_on.new.node c.in-More.below c.in-More.beside c.deref_mut.result.now c.go_on.new.inputs
    c.in-More.is c.deref_mut.ensures.value (sym c.is_live.ensures ∙ c.if-is_live.true) c.carry_all.ensures c.go_on.ensures.went

pub go_on_below-returns-else-is_live-clause-went : goal.go_on_below-returns-else-is_live-clause-went
go_on_below-returns-else-is_live-clause-went g t c =
    gone_dead g.M.Batches.went c.args.notes.now.items c.args.took c.args.row.now c.in-More.edge c.in-More.sender c.in-More.below c.in-More.beside c.deref_mut-else-is_live.result.now c.go_on_below.new.row
    c.in-More.is c.deref_mut-else-is_live.ensures.value (sym c.is_live.ensures ∙ c.if-is_live.false) c.go_on_below.ensures.went
