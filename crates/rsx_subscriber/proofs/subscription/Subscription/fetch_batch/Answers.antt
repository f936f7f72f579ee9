use Rattle.std.proofs.Common.{◌≡◌, ◌+◌, ◌-◌, ◌≤◌, ◌++◌, length, map, ap, arith, refl, rules, sym, ◌∙◌}
use Rattle.rsx_types.specs.declared.signal.Signal.TheVariants.{Next}
use Rattle.rsx_subscriber.specs.Delivered.{to}
use Rattle.rsx_subscriber.proofs.Batches.{handed_all, pulled_back}
use Rattle.rsx_subscriber.proofs.subscription.Subscription.fetch_batch.Goals as goal

pub returns-then-not-fetch_batch-clause-pumped : goal.returns-then-not-fetch_batch-clause-pumped
returns-then-not-fetch_batch-clause-pumped g c =
    let no = c.if-not-fetch_batch.ensures.no refl in
    pulled_back g.N.Machine g.N.Nodes (g.O.Ops.meaning c.args.ops.now) c.args.id c.args.left.now c.fetch_batch.new.left c.args.self.now _ c.fetch_batch.new.self c.args.out.now.signals c.reserve_many.new.self.signals no.0 no.1 c.reserve_many.ensures.signals

pub returns-clause-pumped : goal.returns-clause-pumped
returns-clause-pumped g c =
    let items = c.fetch_batch.new.batch.items.items in
    let count : c.len-count.result ≡ length items = search rules in
    let behind = c.if-not-fetch_batch.ensures.behind refl in
    let most = c.if-not-fetch_batch.ensures.most refl in
    let here = sym c.delivers_item.ensures.delivered ∙ c.if-not-delivers_item.false in
    let spent : (c.fetch_batch.new.left - c.len-count.result) + length items ≡ c.fetch_batch.new.left = omega (arith, count, behind) in
    let covered = c.args.self.now.demand.covered in
    let room = c.room.ensures in
    let least = c.min.ensures in
    let less = c.min-most.ensures in
    let fits : c.args.self.now.demand.sent + length items ≤ c.args.self.now.demand.asked = omega (arith, most, less, least, room, covered) in
    handed_all g.N.Machine g.N.Nodes (g.O.Ops.meaning c.args.ops.now) c.args.id items c.args.left.now c.fetch_batch.new.left (c.fetch_batch.new.left - c.len-count.result) c.args.self.now _ c.fetch_batch.new.self _ c.args.out.now.signals c.append.new.self.signals
    (c.if-not-fetch_batch.ensures.yes refl) c.requires spent (λ some. here) fits refl (ap (λ n. c.args.self.now.demand.sent + n) count) (c.append.ensures.signals ∙ ap (λ l. l ++ to c.args.id (map Next items)) c.reserve_many.ensures.signals)
