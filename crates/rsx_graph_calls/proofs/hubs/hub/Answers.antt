use Rattle.std.proofs.Common.{◌≡◌, ◌∷◌, ◌++◌, [], rules}
use Rattle.rsx_graph_state.specs.Prelude.{fresh_hub}
use Rattle.rsx_graph_calls.proofs.Behind.{name_behind}
use Rattle.rsx_graph_calls.proofs.hubs.hub.Goals as goal

pub returns-clause-named : goal.returns-clause-named
returns-clause-named g c =
    let pushed : c.push.new.self.items ≡ c.args.hubs.now.items ++ fresh_hub c.args.kind c.args.capacity ∷ [] = search rules in
    name_behind c.args.kind c.args.capacity c.args.hubs.now.items c.push.new.self.items c.args.feeds.now.items pushed c.requires.named
