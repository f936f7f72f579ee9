use Rattle.std.proofs.Common.{◌≡◌, length, ◌∙◌}
use Rattle.rsx_serialized.proofs.Starts.{emitter_links_more, emitter_links_same, on_ok}
use Rattle.rsx_serialized.proofs.emitter_links.EmitterLinks.open_for.Goals as goal

pub returns-then-is_fed : goal.returns-then-is_fed
returns-then-is_fed g c = λ hubs at h. emitter_links_same hubs c.args.feeds.now c.args.number c.args.self.now c.if-is_fed.ensures h

pub returns : goal.returns
returns g c =
    let place : c.len-place.result ≡ length c.args.self.now.links.items = c.len-place.ensures ∙ c.args.self.now.links.ok.0 in
    on_ok c.add.result (λ more hubs at h. emitter_links_more hubs c.args.feeds.now c.args.number c.args.self.now c.add.new.self c.in_ok-opened.opened c.args.hub.now c.len-place.result c.if-is_fed.ensures at place c.in_ok-opened.ensures more h) c.add.ensures
