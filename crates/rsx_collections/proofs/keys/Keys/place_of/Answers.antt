use Rattle.std.proofs.Common.{◌∙◌, ap}
use Rattle.std.specs.Prelude.{is_some}
use Rattle.rsx_collections.proofs.Places.{is_found}
use Rattle.rsx_collections.proofs.keys.Keys.place_of.Goals as goal

pub returns-clause-found : goal.returns-clause-found
returns-clause-found c = rw (← c.self.view_is) (ap is_some (c.copied.ensures ∙ c.get.ensures.value) ∙ is_found _ _ c.args.key c.self.invariant)
