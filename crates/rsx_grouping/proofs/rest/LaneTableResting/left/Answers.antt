use Rattle.std.proofs.Common.{[], length, ap, ◌∙◌, ◌++◌}
use Rattle.rsx_grouping.specs.Rest.{keyed_value}
use Rattle.rsx_grouping.specs.Table.{lanes_there}
use Rattle.rsx_grouping.proofs.Copies.{all_pushed}
use Rattle.rsx_grouping.proofs.rest.LaneTableResting.left.Goals as goal

pub returns : goal.returns
returns g c =
    let m = g.O.Ops.meaning c.args.ops.now in
    let w = keyed_value c.args.keyed.now in
    all_pushed m c.args.stages.now c.args.self.now c.args.keyed.now.keys w (length c.rows-rows.result.now) c.new-inputs.result.items c.push_there.new.self.items c.push_fresh.new.self.items
    c.requires (ap length c.rows-rows.ensures.rows) c.new-inputs.ensures.items (c.in_ok-push_there.ensures ∙ ap (λ rows. c.new-inputs.result.items ++ lanes_there m 0 rows w []) c.rows-rows.ensures.rows) c.in_ok-push_fresh.ensures
