use Rattle.std.proofs.Common.{sym, ◌∙◌}
use Rattle.rsx_pipe.proofs.Handing.{handed_out, none_handed}
use Rattle.rsx_pipe.proofs.part.Part.hand.Goals as goal

pub returns-then-is_live : goal.returns-then-is_live
returns-then-is_live g c = rw (← c.self.view_is) (handed_out g.N.Machine c.args.hub c.self.inside.rooted.root c.self.inside.rooted.tree c.hand.new.self c.args.signals.now.items c.hand.new.signals.items (sym c.is_live.ensures ∙ c.if-is_live.true) c.hand.ensures)

pub returns-else-is_live : goal.returns-else-is_live
returns-else-is_live g c = rw (← c.self.view_is) (none_handed g.N.Machine c.args.hub c.self.inside.rooted c.args.signals.now.items (sym c.is_live.ensures ∙ c.if-is_live.false))
