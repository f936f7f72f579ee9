use Rattle.std.proofs.Common.{rules, length, ◌∷◌, ◌++◌, [], sym, ap, ◌∙◌, append_assoc, append-nil}
use Rattle.std.specs.Vec.Iter.{into_iter_items, into_iter_len}
use Rattle.rsx_live_parts.proofs.Returns.{can_first, can_others, more_back, none_back}
use Rattle.rsx_region.proofs.Stages.{none_counted}
use Rattle.rsx_live_parts.proofs.Sending.{len_left, room_for_rest, took_first}
use Rattle.rsx_live_parts.proofs.kept.+come_back_each.Goals as goal

pub returns-in_default : goal.returns-in_default
returns-in_default g t c =
    let none = none_counted (into_iter_items c.args.kept.now) (into_iter_len c.args.kept.now) c.requires.len c.in_default.ensures.cases.0 in
    ([], none_back g.N.Machine (into_iter_items c.args.kept.now) (into_iter_items c.args.pieces.now) (into_iter_items c.args.links.now) (into_iter_items c.args.taps.now) none c.requires.can, sym (append-nil c.args.subs.now.items))

pub come_back_one-sub-requires : goal.come_back_one-sub-requires
come_back_one-sub-requires g t c =
    let kept = into_iter_items c.args.kept.now in
    let rest = into_iter_items c.next.new.self in
    can_first g.N.Machine kept c.in-Some.first rest (into_iter_items c.args.pieces.now) (into_iter_items c.args.links.now) (into_iter_items c.args.taps.now) (took_first kept rest c.next.result c.in-Some.first c.next.ensures.items c.in-Some.is) c.requires.can

pub come_back_each-requires : goal.come_back_each-requires
come_back_each-requires g t c κs within =
    let kept = into_iter_items c.args.kept.now in
    let rest = into_iter_items c.next.new.self in
    let one = c.come_back_one-sub in
    let first = took_first kept rest c.next.result c.in-Some.first c.next.ensures.items c.in-Some.is in
    let can = can_others g.N.Machine kept c.in-Some.first rest (into_iter_items c.args.pieces.now) (into_iter_items one.new.pieces) (into_iter_items c.args.links.now) (into_iter_items one.new.links) (into_iter_items c.args.taps.now) (into_iter_items one.new.taps) one.result first c.requires.can one.ensures in
    let size = ap length c.push_reserved.ensures.items in
    (search rules, (search rules, (search rules, (can, (room_for_rest c.args.subs.now.items c.push_reserved.new.self.items one.result kept rest c.in-Some.first _ _ c.push_reserved.ensures.items first c.push_reserved.ensures.capacity c.requires.room, len_left kept rest c.in-Some.first _ _ first c.requires.len c.in-Some.ensures.cases.1)))))

pub returns : goal.returns
returns g t c =
    let kept = into_iter_items c.args.kept.now in
    let others = into_iter_items c.next.new.self in
    let first = took_first kept others c.next.result c.in-Some.first c.next.ensures.items c.in-Some.is in
    let one = c.come_back_one-sub in
    let rest = c.come_back_each.ensures in (
      one.result ∷ rest.0,
      more_back g.N.Machine kept c.in-Some.first others (into_iter_items c.args.pieces.now) (into_iter_items one.new.pieces) (into_iter_items c.args.links.now) (into_iter_items one.new.links) (into_iter_items c.args.taps.now) (into_iter_items one.new.taps) one.result rest.0 first one.ensures rest.1,
      rest.2 ∙ (ap (λ l. l ++ rest.0) c.push_reserved.ensures.items ∙ append_assoc c.args.subs.now.items (one.result ∷ []) rest.0),
    )
