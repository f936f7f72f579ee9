use Rattle.std.proofs.Common.{◌≡◌, [], ◌∷◌, ◌++◌}
use Rattle.rsx_sources.specs.Prelude.{Next}
use Rattle.rsx_link.specs.Ends.{sent_signals}
use Rattle.rsx_region.proofs.Cuts.{one_sent, where_ok}
use Rattle.rsx_region.proofs.cutting.send_one.Goals as goal

pub returns-clause-count : goal.returns-clause-count
returns-clause-count g c =
    let sent = where_ok c.send.result (sent_signals c.send.new.self ≡ sent_signals c.args.up.now ++ Next c.args.item ∷ []) (c.send.ensures.succeeds c.requires.room) c.send.ensures.ok in
    one_sent c.args.up.now c.send.new.self c.args.item c.send.ensures.same.2 sent
