use Rattle.std.specs.Vec.Iter.{into_iter_items}
use Rattle.rsx_live_parts.proofs.Returns.{came_away}
use Rattle.rsx_live_parts.proofs.Sending.{took_first}
use Rattle.rsx_live_parts.proofs.kept.come_back_one.Goals as goal

pub returns-in-Away : goal.returns-in-Away
returns-in-Away g c =
    let pieces = into_iter_items c.next.new.self in
    let links = into_iter_items c.next-in-Away.new.self in
    let taps = into_iter_items c.next-in-Away-2.new.self in
    let back = c.come_back-sub.ensures in
    came_away g.N.Machine c.args.kept c.in-Away.queue c.in-Away.field-1 (into_iter_items c.args.pieces.now) pieces (into_iter_items c.args.links.now) links (into_iter_items c.args.taps.now) taps
    c.unwrap-piece.result c.unwrap-link.result c.unwrap-tap.result c.come_back-sub.result.1 c.come_back-sub.result.0 c.in-Away.is
    (took_first _ pieces c.next.result c.unwrap-piece.result c.next.ensures.items c.unwrap-piece.ensures)
    (took_first _ links c.next-in-Away.result c.unwrap-link.result c.next-in-Away.ensures.items c.unwrap-link.ensures)
    (took_first _ taps c.next-in-Away-2.result c.unwrap-tap.result c.next-in-Away-2.ensures.items c.unwrap-tap.ensures)
    back.stopped (λ m n k before opening made out over since. back.stands m n k before opening made out over since)
