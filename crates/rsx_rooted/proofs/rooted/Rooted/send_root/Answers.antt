use Rattle.std.proofs.Common.{[], ◌∷◌, sym, ◌∙◌}
use Rattle.rsx_rooted.proofs.rooted.Rooted.send_root.Goals as goal

pub returns-in-Ok-clause-made : goal.returns-in-Ok-clause-made
returns-in-Ok-clause-made g c = (c.in-Ok.signal ∷ [], c.in-Ok.ensures.sent.made, c.put.ensures.put (sym c.has_room.ensures ∙ c.if-not-has_room.false))

pub returns-in-Ok-clause-enabled : goal.returns-in-Ok-clause-enabled
returns-in-Ok-clause-enabled g c = rw (sym c.has_room.ensures ∙ c.if-not-has_room.false) c.in-Ok.ensures.sent.enabled
