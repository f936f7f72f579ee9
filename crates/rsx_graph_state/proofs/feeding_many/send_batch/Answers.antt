use Rattle.std.proofs.Common.{◌≡◌, ℕ, length, rules, subst}
use Rattle.rsx_rooted.specs.Made.{HasGoneOnBy}
use Rattle.rsx_graph_state.proofs.SentMany.{fed_less, none_sent, sent_batch}
use Rattle.rsx_graph_state.proofs.feeding_many.send_batch.Goals as goal

pub returns-in_default-clause-sent : goal.returns-in_default-clause-sent
returns-in_default-clause-sent g c = none_sent g.N.Machine (g.O.Ops.meaning c.args.ops.now) c.args.number c.args.hub.now c.args.feed.now c.args.subscriptions.now

pub returns-then-not-takes_many-clause-sent : goal.returns-then-not-takes_many-clause-sent
returns-then-not-takes_many-clause-sent g c = none_sent g.N.Machine (g.O.Ops.meaning c.args.ops.now) c.args.number c.args.hub.now c.args.feed.now c.args.subscriptions.now

pub returns-then-is_err-clause-sent : goal.returns-then-is_err-clause-sent
returns-then-is_err-clause-sent g c = none_sent g.N.Machine (g.O.Ops.meaning c.args.ops.now) c.args.number c.args.hub.now c.args.feed.now c.args.subscriptions.now

pub overflow_sub-result : goal.overflow_sub-result
overflow_sub-result g c =
    let items = c.try_batch.new.batch.items.items in
    let many : c.len-count.result ≡ length items = search rules in
    let W : ℕ → Type 0 = λ n. HasGoneOnBy g.N.Batches.went c.try_batch.new.batch.notes.items n c.args.feed.now.part c.go_on_batch.new.self in
    fed_less g.N.Machine (g.O.Ops.meaning c.args.ops.now) items c.args.most c.in-Some.rest c.args.feed.now.part c.go_on_batch.new.self (c.in-Some.ensures.fed c.go_on_batch.new.self (subst W many c.go_on_batch.ensures.went))

pub returns-clause-sent : goal.returns-clause-sent
returns-clause-sent g c =
    let items = c.try_batch.new.batch.items.items in
    let many : c.len-count.result ≡ length items = search rules in
    let W : ℕ → Type 0 = λ n. HasGoneOnBy g.N.Batches.went c.try_batch.new.batch.notes.items n c.args.feed.now.part c.go_on_batch.new.self in
    let fed = c.in-Some.ensures.fed c.go_on_batch.new.self (subst W many c.go_on_batch.ensures.went) in
    sent_batch g.N.Machine (g.O.Ops.meaning c.args.ops.now) g.N.Batches.spaces_of c.args.number c.from.result c.len-count.result c.args.most c.in-Some.rest c.args.readers c.args.spaces c.args.hub.now c.take_in_many.new.self c.args.feed.now c.go_on_batch.new.self c.args.subscriptions.now c.hand_all.new.subscriptions items c.lay_out_many.new.items.items c.hand_all.new.items.items
    c.from.ensures many c.requires.readers c.requires.room c.in-Some.ensures.most fed c.take_in_many.ensures (search rules) c.hand_all.ensures
