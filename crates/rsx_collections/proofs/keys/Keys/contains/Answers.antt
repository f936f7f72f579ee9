use Rattle.std.proofs.Common.{◌∙◌}
use Rattle.rsx_collections.proofs.Places.{is_found}
use Rattle.rsx_collections.proofs.keys.Keys.contains.Goals as goal

pub returns : goal.returns
returns c = rw (← c.self.view_is) (c.contains_key.ensures ∙ is_found _ _ c.args.key c.self.invariant)
