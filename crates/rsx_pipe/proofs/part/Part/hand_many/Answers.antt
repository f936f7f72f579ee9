use Rattle.std.proofs.Common.{sym, ◌∙◌}
use Rattle.rsx_pipe.proofs.TakenOff.{many_handed, none_to_hand}
use Rattle.rsx_pipe.specs.Taking.{spaces_for}
use Rattle.rsx_pipe.proofs.part.Part.hand_many.Goals as goal

pub returns-then-is_live : goal.returns-then-is_live
returns-then-is_live g c most =
    rw (← c.self.view_is) (many_handed g.N.Machine g.N.Batches.spaces_of c.args.hub c.args.count most c.self.inside.rooted.root c.self.inside.rooted.tree c.hand_many.new.tree c.args.items.now.items c.hand_many.new.items.items (sym c.is_live.ensures ∙ c.if-is_live.true) (c.hand_many.ensures most))

pub returns-else-is_live : goal.returns-else-is_live
returns-else-is_live g c most =
    rw (← c.self.view_is) (none_to_hand g.N.Machine c.args.hub c.args.count (spaces_for g.N.Machine g.N.Batches.spaces_of c.args.hub most c.self.inside.rooted) c.self.inside.rooted c.args.items.now.items (sym c.is_live.ensures ∙ c.if-is_live.false))
