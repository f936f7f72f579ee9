use Rattle.std.proofs.Common.{◌≡◌, ◌∙◌, ap}
use Rattle.rsx_grouping.specs.Rows.{keys_of}
use Rattle.rsx_grouping.proofs.rest.LaneTableResting.keyed.Goals as goal

pub returns-clause-items : goal.returns-clause-items
returns-clause-items g c =
    let same : c.in_ok-keys.keys ≡ keys_of c.args.self.now = c.in_ok-keys.ensures ∙ ap keys_of c.rows.ensures.rows in
    rw (← same) c.of.ensures.items

pub returns-clause-keys : goal.returns-clause-keys
returns-clause-keys g c =
    let same : c.in_ok-keys.keys ≡ keys_of c.args.self.now = c.in_ok-keys.ensures ∙ ap keys_of c.rows.ensures.rows in
    rw (← same) c.of.ensures.keys
