use Rattle.std.proofs.Common.{◌≤◌, length, rules}
use Rattle.rsx_hub.specs.Hub.{replayed}
use Rattle.rsx_hub.proofs.Accepting.{many_taken}
use Rattle.rsx_hub.proofs.hub.Hub.take_in_many.Goals as goal

pub returns : goal.returns
returns g c =
    let few : length c.args.self.now.kept ≤ replayed c.args.self.now.kind = search rules in
    many_taken c.args.self.now _ c.args.items c.requires few (search rules)
