use Rattle.std.proofs.Common.{◌≡◌, ◌∙◌, ℕ, min, get_or, set, refl, subst, sym, ap}
use Rattle.std.proofs.lemmas.List.{set-get_or}
use Rattle.std.proofs.lemmas.Option.{get_or_from_slice_get, slice_get-get_or}
use Rattle.rsx_graph_state.specs.Publishing.{all_readers}
use Rattle.rsx_graph_state.specs.Sending.{can_feed}
use Rattle.rsx_graph_state.proofs.Accepted.{none_read}
use Rattle.rsx_graph_state.proofs.Sends.{all_fed, feed_there}
use Rattle.rsx_graph_state.proofs.sending.send_to_hub.Goals as goal

pub returns-in_default-clause-err : goal.returns-in_default-clause-err
returns-in_default-clause-err g c = c.in_default.ensures.none (g.O.Ops.meaning c.args.ops.now)

pub returns-then-readers-clause-err : goal.returns-then-readers-clause-err
returns-then-readers-clause-err g c = c.in-Some.ensures.enabled (g.O.Ops.meaning c.args.ops.now)

pub returns-in-Err-clause-err : goal.returns-in-Err-clause-err
returns-in-Err-clause-err g c = c.in-Some.ensures.enabled (g.O.Ops.meaning c.args.ops.now)

pub returns-in-Err-clause-same : goal.returns-in-Err-clause-same
returns-in-Err-clause-same g c =
    let fs = c.args.feeds.now in
    let f = c.index-feeds-at-2.result in
    let k = c.in-Err.ensures.same in
    (k.1, ap (λ x. set fs c.args.at x) k.0 ∙ set-get_or fs c.args.at f, refl)

pub hand_to_all-requires : goal.hand_to_all-requires
hand_to_all-requires g c =
    let fs = c.args.feeds.now in
    let at = c.args.at in
    let f = get_or fs at c.index-feeds-at-2.result in
    let there = slice_get-get_or fs at c.index-feeds-at-2.result c.requires.within in
    let named = c.from-number.ensures ∙ ap (λ x. x.hub) (get_or_from_slice_get fs at f c.index-feeds-at.result there) in
    record { unread = none_read g.N.Machine c.from-number.result f.hub c.args.skipped.now c.args.subscriptions.now named (c.requires.unread f there) }

pub returns-in-Ok-clause-ok : goal.returns-in-Ok-clause-ok
returns-in-Ok-clause-ok g c =
    let m = g.O.Ops.meaning c.args.ops.now in
    let at = c.args.at in
    let hub = c.args.hub.now in
    let fs = c.args.feeds.now in
    let xs = c.args.subscriptions.now in
    let f = get_or fs at c.index-feeds-at-2.result in
    let there = slice_get-get_or fs at c.index-feeds-at-2.result c.requires.within in
    let named = c.from-number.ensures ∙ ap (λ x. x.hub) (get_or_from_slice_get fs at f c.index-feeds-at.result there) in
    let Q : ℕ → Type 0 = λ h. c.in-Some.readers ≡ min (all_readers g.N.Machine h fs xs) 4294967295 in
    let can = feed_there g.N.Machine m at f hub fs xs (can_feed g.N.Machine m f hub fs xs) there refl ∙ c.in-Some.ensures.enabled m in
    (all_fed g.N.Machine m at c.from-number.result c.in-Some.readers 4294967295 hub c.take_out.new.hub fs c.hand_to_all.new.feeds f c.take_out.new.feed xs c.hand_to_all.new.subscriptions c.take_out.new.signals.items c.hand_to_all.new.signals.items
    there named (subst Q (sym named) (c.in-Some.ensures.some f there)) c.if-readers.false can c.in-Ok.ensures.taken c.hand_to_all.ensures).0

pub returns-in-Ok-clause-empty : goal.returns-in-Ok-clause-empty
returns-in-Ok-clause-empty g c =
    let m = g.O.Ops.meaning c.args.ops.now in
    let at = c.args.at in
    let hub = c.args.hub.now in
    let fs = c.args.feeds.now in
    let xs = c.args.subscriptions.now in
    let f = get_or fs at c.index-feeds-at-2.result in
    let there = slice_get-get_or fs at c.index-feeds-at-2.result c.requires.within in
    let named = c.from-number.ensures ∙ ap (λ x. x.hub) (get_or_from_slice_get fs at f c.index-feeds-at.result there) in
    let Q : ℕ → Type 0 = λ h. c.in-Some.readers ≡ min (all_readers g.N.Machine h fs xs) 4294967295 in
    let can = feed_there g.N.Machine m at f hub fs xs (can_feed g.N.Machine m f hub fs xs) there refl ∙ c.in-Some.ensures.enabled m in
    (all_fed g.N.Machine m at c.from-number.result c.in-Some.readers 4294967295 hub c.take_out.new.hub fs c.hand_to_all.new.feeds f c.take_out.new.feed xs c.hand_to_all.new.subscriptions c.take_out.new.signals.items c.hand_to_all.new.signals.items
    there named (subst Q (sym named) (c.in-Some.ensures.some f there)) c.if-readers.false can c.in-Ok.ensures.taken c.hand_to_all.ensures).1
